-- The floor of a task's start, turn by turn: the base, and the dispatch times of the tasks placed so far and of its own.
use mathlib.Core.Path.{◌≡◌, refl, sym, ap, ap₂, ◌∙◌}
use mathlib.Core.Bool.{Bool, true, false, cond}
use mathlib.Core.List.{List, []}
use Prim.Native.Nat.{ℕ, zero, suc, ◌+◌, ◌-◌, ◌*◌, ◌≤◌, ◌<◌}
use native.Mathlib.Omega.{arith}
use lib.Dec.{eqb}
use lib.ListN.{set, replicate, length, get_or-replicate}
use lib.Seq.{get_or-set_same, get_or-set_other}
use borrow.Author.Tests.{eqb-true, eqb-false}
use Rattle.std.proofs.Common.{Option, Some, None, is_some}
use Rattle.rules.specs.declared.Row.{Row}
use Rattle.rules.specs.declared.Job.{Job}
use Rattle.rules.specs.Sequences.{cons_if, keep, sum_of, numbers}
use Rattle.rules.specs.Words.{most_tasks, largest_time, horizon, task_of}
use Rattle.rules.specs.Laws.{IsTask}
use Rattle.rules.specs.Placing.{placed, release, on_rows}
use Rattle.rules.proofs.Sequences.{by_test, sum_append}
use Rattle.drcd.specs.declared.order.Spot.{Spot}
use Rattle.drcd.specs.Given.{StandsFor, spot_of}
use Rattle.drcd.specs.Trials.{reach}
use Rattle.drcd.proofs.Foremost.{keep_next}

-- Sums over tasks.

module _ (f : ℕ → ℕ) where
  -- of the numbers up to n, those that pass a test, added up
  abbrev sum_up_to : (ℕ → Bool) → ℕ → ℕ
  sum_up_to p n = sum_of f (keep p (numbers 1 n))

  sum_next : (p : ℕ → Bool) (n : ℕ) → sum_up_to p (suc n) ≡ sum_up_to p n + cond (p (suc n)) (f (suc n)) 0
  sum_next p n =
      let more = ap (sum_of f) (keep_next p n) ∙ sum_append f (keep p (numbers 1 n)) (cons_if (p (suc n)) (suc n) []) in
      by_test (p (suc n)) (λ e. more ∙ rw e (omega arith)) (λ e. more ∙ rw e (omega arith))

  sum_same : (p q : ℕ → Bool) (n : ℕ) → ((k : ℕ) → 1 ≤ k → k ≤ n → p k ≡ q k) → sum_up_to p n ≡ sum_up_to q n
  sum_same p q zero same = refl
  sum_same p q (suc n) same =
      let before = sum_same p q n (λ k a b. same k a (omega arith)) in
      let here = same (suc n) (omega arith) (omega arith) in
      sum_next p n ∙ ap₂ (λ a x. a + cond x (f (suc n)) 0) before here ∙ sym (sum_next q n)

  sum_none : (p : ℕ → Bool) (n : ℕ) → ((k : ℕ) → 1 ≤ k → k ≤ n → p k ≡ false) → sum_up_to p n ≡ 0
  sum_none p zero none = refl
  sum_none p (suc n) none =
      let before = sum_none p n (λ k a b. none k a (omega arith)) in
      sum_next p n ∙ rw (none (suc n) (omega arith) (omega arith)) (omega arith)

  -- one number passes that did not
  sum_one_more :
      (p q : ℕ → Bool) (t n : ℕ) → 1 ≤ t → t ≤ n → p t ≡ false → q t ≡ true → ((k : ℕ) → 1 ≤ k → k ≤ n → (k ≡ t → ⊥) → p k ≡ q k) →
      sum_up_to q n ≡ sum_up_to p n + f t
  sum_one_more p q t zero low high out now same = absurd (omega arith)
  sum_one_more p q t (suc n) low high out now same =
      by_test
      (eqb (suc n) t)
      (λ e.
      let it = eqb-true (suc n) t e in
      let before = sum_same p q n (λ k a b. same k a (omega arith) (λ is. omega arith)) in
      let added : sum_up_to q (suc n) ≡ sum_up_to q n + f (suc n) = sum_next q n ∙ rw (it, now) refl in
      let left : sum_up_to p (suc n) ≡ sum_up_to p n = sum_next p n ∙ rw (it, out) (omega arith) in
      let own = ap f it in
      omega arith)
      (λ e.
      let other = eqb-false (suc n) t e in
      let before = sum_one_more p q t n low (omega (arith, other)) out now (λ k a b. same k a (omega arith)) in
      let here = same (suc n) (omega arith) (omega arith) other in
      let with_p = sum_next p n in
      let with_q = sum_next q n in
      let equal = ap (λ x. cond x (f (suc n)) 0) here in
      omega arith)

-- The floor.

-- whether the spots have one of a task
abbrev stands_at : List (Option Spot) → ℕ → Bool
stands_at spots t = is_some (spot_of spots t)

abbrev dispatch_of : Job → ℕ → ℕ
dispatch_of j t = (task_of j t).dispatch

-- the floor so far: the base, and the dispatch times of the tasks placed
pub record Released (j : Job) (base : ℕ) (spots : List (Option Spot)) (floor turns : ℕ) : Type 0 where
  pub is : floor ≡ base + sum_up_to (dispatch_of j) (stands_at spots) j.taskcount
  pub at_most : floor ≤ horizon + largest_time * (turns + 1)

pub released_none : (j : Job) {base : ℕ} → base ≤ horizon + largest_time → j.taskcount ≤ most_tasks → Released j base (replicate most_tasks None) base 0
released_none j low few =
    let none =
    sum_none
    (dispatch_of j)
    (stands_at (replicate most_tasks None))
    j.taskcount
    (λ k a b. ap is_some (get_or-replicate {A = Option Spot} most_tasks (k - 1) None None (omega arith)))
    in
    record { is = rw none (omega arith); at_most = omega arith }

-- what the turn of a task asks: it is listed, its dispatch time is in range, and it has no spot yet
pub record TurnOf (j : Job) (spots : List (Option Spot)) (t : ℕ) : Type 0 where
  pub listed : IsTask j t
  pub few : j.taskcount ≤ most_tasks
  pub short : (task_of j t).dispatch ≤ largest_time
  pub vacant : is_some (spot_of spots t) ≡ false

module _ {j : Job} {base : ℕ} {spots : List (Option Spot)} {floor turns t : ℕ} (sofar : Released j base spots floor turns) (turn : TurnOf j spots t) where
  pub release_low : turns < j.taskcount → floor + (task_of j t).dispatch ≤ reach 0
  release_low more = let most = sofar.at_most in let few = turn.few in omega (arith, turn.short)

  pub release_now : (rows new : List Row) → StandsFor new spots → floor + (task_of j t).dispatch ≡ release (on_rows base rows) j new t
  unfolding release
  release_now rows new stands =
      let few = turn.few in
      let same =
      sum_same
      (dispatch_of j)
      (stands_at spots)
      (placed new)
      j.taskcount
      (λ k a b. sym (stands.placed_is k (record { first = a; last = omega arith })))
      in
      let is = sofar.is in
      omega arith

  -- the task is placed
  pub released_more :
      (spot : Spot) → length spots ≡ most_tasks →
      Released j base (set spots (t - 1) (Some spot)) (floor + (task_of j t).dispatch) (turns + 1)
  released_more spot long =
      let low = turn.listed.first in
      let high = turn.listed.last in
      let few = turn.few in
      let at : t - 1 < length spots = omega arith in
      let one_more =
      sum_one_more
      (dispatch_of j)
      (stands_at spots)
      (stands_at (set spots (t - 1) (Some spot)))
      t
      j.taskcount
      low
      high
      turn.vacant
      (ap is_some (get_or-set_same spots (t - 1) (Some spot) None at))
      (λ k a b ne. ap is_some (sym (get_or-set_other spots (t - 1) (k - 1) (Some spot) None (λ e. ne (omega arith)))))
      in
      let is = sofar.is in
      let most = sofar.at_most in
      record { is = omega arith; at_most = omega (arith, turn.short) }

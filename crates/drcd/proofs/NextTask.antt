-- Which task is next: task by task, the one kept is the foremost of those that are ready among the first ones.
use mathlib.Core.Path.{◌≡◌, refl, sym, ap, ◌∙◌}
use mathlib.Core.Bool.{Bool, true, false, not, cond, ◌&&◌}
use mathlib.Core.List.{List, [], ◌∷◌}
use mathlib.Core.Option.{some}
use Prim.Native.Nat.{ℕ, zero, suc, ◌+◌, ◌-◌, ◌≤◌, ◌<◌}
use native.Mathlib.Omega.{arith}
use lib.ListN.{get_or}
use Rattle.std.proofs.Common.{Option, None}
use Rattle.std.specs.Prelude.{is_some}
use Rattle.rules.specs.declared.Row.{Row}
use Rattle.rules.specs.declared.Job.{Job}
use Rattle.rules.specs.Sequences.{keep, numbers, precedes, foremost}
use Rattle.rules.specs.Words.{most_tasks, no_task, task_of}
use Rattle.rules.specs.Placing.{placed, ready}
use Rattle.rules.proofs.Choice.{false_precedes, lower_precedes}
use Rattle.drcd.specs.declared.order.Spot.{Spot}
use Rattle.drcd.specs.Given.{StandsFor}
use Rattle.drcd.specs.Order.{WaitsIs, task_named}
use Rattle.drcd.proofs.Listed.{task_at}
use native.Mathlib.Numerals.{add-one}
use mathlib.Core.Bool.{not-not}
use Rattle.std.proofs.lemmas.Bool.Decides.{nat_tests}
use Rattle.rules.proofs.Sequences.{by_test, by_less}
use Rattle.std.specs.List.{filter, range_with_len}
use Rattle.std.specs.Ordering.{nat_cmp, min_by_ordering}
use Rattle.drcd.proofs.Foremost.{foremost_of_none, foremost_of_one, foremost_merged}
use Rattle.drcd.proofs.Least.{least_by, least_of}

abbrev figures : Job → ℕ → List ℕ
figures j t = (task_of j t).deadline ∷ t ∷ []

-- whether the task after the first t is placed
placed_next :
    {new : List Row} {spots : List (Option Spot)} → StandsFor new spots → (t : ℕ) → t < most_tasks →
    placed new (t + 1) ≡ is_some (get_or spots t None)
placed_next {spots = spots} stands t h =
    let same : t + 1 - 1 ≡ t = omega arith in
    stands.placed_is (t + 1) (record { first = omega arith; last = omega arith }) ∙ ap (λ i. is_some (get_or spots i None)) same

-- a task of a higher number and no earlier deadline does not precede
no_earlier :
    (j : Job) (t best : ℕ) → best ≤ t → (task_of j best).deadline ≤ (task_of j (t + 1)).deadline →
    precedes (figures j (t + 1)) (figures j best) ≡ false
no_earlier j t best h k = false_precedes _ _ _ _ k (λ e. false_precedes (t + 1) best [] [] (omega arith) (λ q. absurd (omega arith)))

-- of two keys the lower picks, and of equal ones the first
picks_last : (x y b t : ℕ) → y < x → min_by_ordering (nat_cmp x y) b t ≡ t
picks_last x y b t h = grind (arith, nat_tests)

picks_first : (x y b t : ℕ) → x ≤ y → min_by_ordering (nat_cmp x y) b t ≡ b
picks_first x y b t h = grind (arith, nat_tests)

-- what the code goes by at an index: a test of the task, and its deadline
abbrev pub goes : List (Option Spot) → List Bool → ℕ → Bool
goes spots waits t = not (is_some (get_or spots t None)) && not (get_or waits t false)

abbrev pub deadline_at : Job → ℕ → ℕ
deadline_at j t = (get_or j.tasks t no_task).deadline

module _ (j : Job) (spots : List (Option Spot)) (waits : List Bool) where
  -- the tasks from an index on, as the code tests them
  abbrev pub Known : (new : List Row) (a n : ℕ) → Type 0
  Known new a n = (t : ℕ) → a ≤ t → t < a + n → ready j new (t + 1) ≡ goes spots waits t

  abbrev pub ready_from : (new : List Row) (a n : ℕ) → List ℕ
  ready_from new a n = keep (ready j new) (numbers (a + 1) n)

  abbrev pub going_from : (a n : ℕ) → List ℕ
  going_from a n = filter (goes spots waits) (range_with_len a n)

  -- the tests say which tasks are ready
  pub all_known : {new : List Row} → StandsFor new spots → WaitsIs j spots waits → j.taskcount ≤ most_tasks → Known new 0 j.taskcount
  unfolding ready
  all_known {new} stands waiting few t first last =
      let unplaced = placed_next stands t (omega arith) in
      let known = waiting new stands t (omega arith) in
      rw (unplaced, known, not-not) refl

  module _ (new : List Row) where
    -- one task more in front
    module _ (a n : ℕ) (known : Known new a (suc n)) where
      later : Known new (a + 1) n
      later t first last = known t (omega arith) (omega arith)

      with_first :
          goes spots waits a ≡ true →
          (ready_from new a (suc n) ≡ (a + 1) ∷ ready_from new (a + 1) n) × (going_from a (suc n) ≡ a ∷ going_from (a + 1) n)
      with_first h = (rw (known a (omega arith) (omega arith) ∙ h, add-one (a + 1)) refl, rw h refl)

      without_first :
          goes spots waits a ≡ false →
          (ready_from new a (suc n) ≡ ready_from new (a + 1) n) × (going_from a (suc n) ≡ going_from (a + 1) n)
      without_first h = (rw (known a (omega arith) (omega arith) ∙ h, add-one (a + 1)) refl, rw h refl)

    -- one that is next among the tasks so far, and those after it
    past :
        (b a n : ℕ) → b < a → Known new a n →
        foremost (figures j) ((b + 1) ∷ ready_from new a n) ≡ some (least_by (deadline_at j) b (going_from a n) + 1)
    past b a zero below known = foremost_of_one (figures j) (b + 1)
    past b a (suc n) below known =
        by_test
        (goes spots waits a)
        (λ h.
        let with = with_first a n known h in
        let merged
        = ap (λ l. foremost (figures j) ((b + 1) ∷ l)) with.0 ∙ foremost_merged (figures j) (b + 1) (a + 1) (ready_from new (a + 1) n) in
        let back = ap (λ l. some (least_by (deadline_at j) b l + 1)) (sym with.1) in
        by_less
        (deadline_at j a)
        (deadline_at j b)
        (λ lower.
        let low : (task_of j (a + 1)).deadline < (task_of j (b + 1)).deadline = rw (task_at j a, task_at j b) lower in
        merged
        ∙ ap (λ x. foremost (figures j) (cond x (a + 1) (b + 1) ∷ ready_from new (a + 1) n)) (lower_precedes _ _ ((a + 1) ∷ []) ((b + 1) ∷ []) low)
        ∙ past a (a + 1) n (omega arith) (later a n known)
        ∙ ap (λ x. some (least_by (deadline_at j) x (going_from (a + 1) n) + 1)) (sym (picks_last _ _ b a lower))
        ∙ back)
        (λ higher.
        merged
        ∙ ap
        (λ x. foremost (figures j) (cond x (a + 1) (b + 1) ∷ ready_from new (a + 1) n))
        (no_earlier j a (b + 1) (omega arith) (rw (task_at j a, task_at j b) higher))
        ∙ past b (a + 1) n (omega arith) (later a n known)
        ∙ ap (λ x. some (least_by (deadline_at j) x (going_from (a + 1) n) + 1)) (sym (picks_first _ _ b a higher))
        ∙ back))
        (λ h. let without = without_first a n known h in rw (without.0, without.1) (past b (a + 1) n (omega arith) (later a n known)))

    pub next_found : (a n : ℕ) → Known new a n → task_named (least_of (deadline_at j) (going_from a n)) ≡ foremost (figures j) (ready_from new a n)
    next_found a zero known = sym (foremost_of_none (figures j))
    next_found a (suc n) known =
        by_test
        (goes spots waits a)
        (λ h. let with = with_first a n known h in rw (with.0, with.1) (sym (past a (a + 1) n (omega arith) (later a n known))))
        (λ h. let without = without_first a n known h in rw (without.0, without.1) (next_found (a + 1) n (later a n known)))

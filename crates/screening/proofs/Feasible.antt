-- Laws of refusal 6: the machines of a task one after the other, and the tasks of a job one after the other.
use mathlib.Core.Path.{◌≡◌, refl, sym, ap, ◌∙◌}
use mathlib.Core.Bool.{Bool, true, false, not, ◌&&◌}
use mathlib.Core.List.{List, [], ◌∷◌, map, Memᴰ}
use mathlib.Core.Option.{Option, none, some}
use Prim.Native.Nat.{ℕ, ◌+◌, ◌-◌, ◌≤◌, ◌<◌}
use native.Mathlib.Omega.{arith}
use lib.Dec.{ltb, leb}
use lib.ListN.{get_or, take, length, length-take}
use lib.Seq.{get_or-take}
use Rattle.std.proofs.lemmas.List.{get_or_default}
use Rattle.std.proofs.Common.{Some, None}
use Rattle.std.proofs.lemmas.Bool.{lt-leb}
use Rattle.std.specs.Prelude as Code
use Rattle.std.specs.Option.{MatchOption, IsSomeAnd}
use borrow.Author.Tests.{ltb-false, lt-ltb, le-ltb, le-leb}
use Rattle.std.specs.List.{list_any, AllWithin, HoldsAt}
use Rattle.rules.specs.declared.Job.{Job}
use Rattle.rules.specs.declared.Setup.{Setup}
use Rattle.rules.specs.declared.Task.{Task}
use Rattle.rules.specs.Sequences.{any_of, keep, numbers, foremost}
use Rattle.rules.specs.Words.{largest_time, horizon, machines, task_of, run_time, no_task}
use Rattle.rules.specs.Refusals.{outside, task_out_of_range, out_of_range, infeasible, first_infeasible}
use Rattle.rules.proofs.Sequences.{by_test, by_less, clash, or_false, and_both, any_none, any_mem, none_any, keep_none, keep_mem, mem_keep}
use Rattle.rules.proofs.Sequences.{mem_numbers, numbers_mem}
use Rattle.rules.proofs.Choice.{precedes_false, foremost_mem, foremost_first, foremost_empty}
use Rattle.screening.specs.Screens.{AskInfeasible, InfeasibleIs, AskInfeasibles, FirstIs}
use Rattle.screening.proofs.Listed.{Lists, any_listed, numbered, own_task, none_numbered}

-- The least non-zero run time decides for all of them.

-- a run that can be had ends by the deadline, started at the clock
abbrev pub ends : (clock deadline : ℕ) → ℕ → Bool
ends clock deadline run = ltb 0 run && leb (clock + run) deadline

module _ (clock deadline : ℕ) (runs : List ℕ) where
  -- what the least says
  abbrev late : Option ℕ → Bool
  late o = elim o [ none ↦ true | some run ↦ ltb deadline (clock + run) ]

  late_unless : (o : Option ℕ) → foremost (λ run. run ∷ []) (keep (ltb 0) runs) ≡ o → late o ≡ not (any_of (ends clock deadline) runs)
  late_unless none f =
      let never = λ (run : ℕ) (mem : Memᴰ run runs).
      by_test (ltb 0 run) (λ can. absurd (foremost_empty _ f (keep_mem (ltb 0) mem can))) (λ cannot. ap (λ b. b && leb (clock + run) deadline) cannot) in
      sym (ap not (none_any (ends clock deadline) runs never))
  late_unless (some least) f =
      let kept = mem_keep (ltb 0) runs (foremost_mem _ (keep (ltb 0) runs) f) in
      let never = λ (h : deadline < clock + least) (run : ℕ) (mem : Memᴰ run runs).
      by_test
      (ltb 0 run)
      (λ can.
      let above = (precedes_false _ _ (foremost_first _ (keep (ltb 0) runs) f (keep_mem (ltb 0) mem can))).0 in
      rw (can, lt-leb (clock + run) deadline (omega arith)) refl)
      (λ cannot. ap (λ b. b && leb (clock + run) deadline) cannot) in
      by_less
      deadline
      (clock + least)
      (λ h. rw (lt-ltb deadline (clock + least) h, none_any (ends clock deadline) runs (never h)) refl)
      (λ h.
      rw (le-ltb deadline (clock + least) h, any_mem (ends clock deadline) kept.0 (and_both _ _ kept.1 (le-leb (clock + least) deadline h))) refl)

-- The machines of a task.

-- a run time that a machine of the task has is in range
pub run_asked :
    {task : Task} {count clock : ℕ} → AskInfeasible task count clock → count ≤ length task.runs → (i run : ℕ) → i < length (take count task.runs) →
    run ≡ get_or (take count task.runs) i run → clock + run ≤ horizon + largest_time
run_asked {task} {count} ask long i run more is =
    let few : i < count = omega (arith, length-take count task.runs) in
    let read : get_or (take count task.runs) i run ≡ get_or task.runs i 0
    = get_or_default (take count task.runs) i run 0 more ∙ get_or-take count task.runs i 0 few in
    omega (arith, ask.runs_at_most i few, ask.clock_at_most, is, read)

-- a task is feasible if one of the machines ends in time
pub unless_ends :
    {task : Task} {count : ℕ} (clock : ℕ) (b : Bool) → count ≤ length task.runs →
    b ≡ list_any (ends clock task.deadline) (take count task.runs) → InfeasibleIs task count clock (not b)
unfolding infeasible
unless_ends {task} {count} clock b long e s j t same is =
    let own : Task = task_of j t in
    let listed : map (run_time j t) (machines s) ≡ take count task.runs
    = ap (λ k. map (run_time j t) (numbers 1 k)) same ∙ ap (λ o. map (λ m. get_or o.runs (m - 1) 0) (numbers 1 count)) is ∙ numbered 0 task.runs count long in
    sym (late_unless clock own.deadline (map (run_time j t) (machines s)) _ refl ∙ rw (listed, is, any_listed, ← e) refl)

-- The tasks of a job, one after the other.

-- the lowest of the numbers from 1 to n that passes a test
module _ (p : ℕ → Bool) (n : ℕ) where
  abbrev lowest : Option ℕ
  lowest = foremost (λ u. u ∷ []) (keep p (numbers 1 n))

  lowest_none : any_of p (numbers 1 n) ≡ false → none ≡ lowest
  unfolding foremost
  lowest_none e = rw (keep_none p (numbers 1 n) (λ u mem. any_none p e mem)) refl

  lowest_found : (t : ℕ) → any_of p (numbers 1 t) ≡ false → t < n → p (t + 1) ≡ true → some (t + 1) ≡ lowest
  lowest_found t passed more e = go lowest refl
    where
      own : Memᴰ (t + 1) (keep p (numbers 1 n))
      own = keep_mem p (numbers_mem 1 n (t + 1) (omega arith) (omega arith)) e

      -- one that passes the test comes after those that do not
      later : {u : ℕ} → Memᴰ u (keep p (numbers 1 n)) → t < u
      later {u} mem =
          let kept = mem_keep p (numbers 1 n) mem in
          let first = (mem_numbers 1 n kept.0).0 in
          by_less t u (λ h. h) (λ h. clash kept.1 (any_none p passed (numbers_mem 1 t u first (omega arith))))

      go : (o : Option ℕ) → lowest ≡ o → some (t + 1) ≡ o
      go none f = absurd (foremost_empty _ f own)
      go (some u) f =
          let least = (precedes_false _ _ (foremost_first _ _ f own)).0 in
          let after = later (foremost_mem _ _ f) in
          let same : t + 1 ≡ u = omega arith in
          ap some same

-- a run time is in range, since test 3 passes the job
run_at_most :
    (s : Setup) (j : Job) (t m : ℕ) → out_of_range s j ≡ false → t < j.taskcount → m < s.table.machines → run_time j (t + 1) (m + 1) ≤ largest_time
unfolding out_of_range task_out_of_range
run_at_most s j t m e listed more =
    let tasks = (or_false (ltb largest_time j.scheduling) _ e).1 in
    let task = any_none (task_out_of_range s j) tasks (numbers_mem 1 j.taskcount (t + 1) (omega arith) (omega arith)) in
    let times = (or_false (outside 1 horizon (task_of j (t + 1)).deadline) _ task).1 in
    let runs = (or_false (ltb largest_time (task_of j (t + 1)).dispatch) _ times).1 in
    let own = numbers_mem 1 s.table.machines (m + 1) (omega arith) (omega arith) in
    ltb-false largest_time (run_time j (t + 1) (m + 1)) (any_none (λ k. ltb largest_time (run_time j (t + 1) k)) runs own)

module _ {j : Job} {l : List Task} (tasks : Lists j l) {machines : ℕ} (clock : ℕ) where
  pub task_asked :
      AskInfeasibles j machines clock → (i : ℕ) (task : Task) → i < length l → task ≡ get_or l i task → AskInfeasible task machines clock
  task_asked ask i task more is = record {
    machines_at_most = ask.machines_at_most;
    runs_at_most = λ m few.
        let one_on : m + 1 - 1 ≡ m = omega arith in
        let listed : i < j.taskcount = omega (arith, tasks.long) in
        let run = run_at_most ask.setup j i m ask.figures listed (omega (arith, ask.machines_are)) in
        rw (is, own_task tasks i (i + 1) task more refl) (rw one_on at run);
    clock_at_most = ask.clock_at_most;
  }

  -- The first found is the lowest, since those before it are feasible. The task at an index has the next number.
  pub first_is :
      {P : ℕ → ℕ → Type 0} (at named : Code.Option ℕ) →
      MatchOption
      at
      (AllWithin (λ task. InfeasibleIs task machines clock false) l 0 (length l))
      (λ i. (i < length l)
      × HoldsAt (λ task. InfeasibleIs task machines clock true) l i
      × AllWithin (λ task. InfeasibleIs task machines clock false) l 0 i) →
      MatchOption at (named ≡ None) (λ i. IsSomeAnd named (P i)) → ((i t : ℕ) → P i t → t ≡ i + 1) → FirstIs j machines clock named
  unfolding first_infeasible
  first_is None named passed is next s same =
      let all : length l ≡ j.taskcount = tasks.long in
      rw
      is
      (lowest_none
      (infeasible s clock j)
      j.taskcount
      (none_numbered tasks (infeasible s clock j) j.taskcount (omega arith) (λ k d low below t is. passed k d low (omega arith) s j t same is)))
  first_is (Some i) None first is next s same = absurd is
  first_is (Some i) (Some t) first is next s same =
      let more : i < length l = first.0 in
      rw
      (next i t is)
      (lowest_found
      (infeasible s clock j)
      j.taskcount
      i
      (none_numbered tasks (infeasible s clock j) i (omega arith) (λ k d low below t is. first.2 k d low below s j t same is))
      (omega (arith, tasks.long))
      (sym (first.1 no_task s j (i + 1) same (sym (own_task tasks i (i + 1) no_task more refl)))))

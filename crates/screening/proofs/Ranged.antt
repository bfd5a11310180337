-- Laws of refusal 3: the figures of a task and of a job.
use mathlib.Core.Path.{◌≡◌, refl, sym}
use mathlib.Core.Bool.{Bool, true, false}
use mathlib.Core.List.{List}
use Prim.Native.Nat.{ℕ, ◌+◌, ◌≤◌, ◌<◌}
use native.Mathlib.Omega.{arith}
use lib.Dec.{ltb}
use lib.ListN.{take, length}
use borrow.Author.Tests.{le-ltb}
use Rattle.std.specs.Bool.{MatchBool}
use Rattle.std.specs.List.{list_any, AllWithin, HoldsAt}
use Rattle.rules.specs.declared.Job.{Job}
use Rattle.rules.specs.declared.Task.{Task}
use Rattle.rules.specs.Words.{horizon, largest_time, no_task}
use Rattle.rules.specs.Refusals.{outside, task_out_of_range, out_of_range}
use Rattle.rules.proofs.Sequences.{or_right, any_mem, numbers_mem}
use Rattle.screening.specs.Screens.{TaskOutsideIs, OutOfRangeIs}
use Rattle.screening.proofs.Listed.{Lists, any_numbered, own_task, none_numbered}

-- A task's figures.

module _ {machines : ℕ} {task : Task} where
  -- where the deadline and the dispatch time are in range, the run times decide
  pub runs_decide :
      (r : Bool) → machines ≤ length task.runs → outside 1 horizon task.deadline ≡ false → task.dispatch ≤ largest_time →
      r ≡ list_any (ltb largest_time) (take machines task.runs) → TaskOutsideIs machines task r
  unfolding task_out_of_range
  runs_decide r long e h k s j t same is =
      rw (
        same,
        is,
        e,
        le-ltb largest_time task.dispatch h,
        any_numbered 0 (ltb largest_time) task.runs machines long,
      )
      k

-- A job's figures.

-- where the scheduling time is in range, the tasks decide
pub tasks_decide :
    {machines : ℕ} {j : Job} {l : List Task} (r : Bool) → Lists j l → j.scheduling ≤ largest_time →
    MatchBool
    r
    ((k : ℕ) × (k < length l) × HoldsAt (λ task. TaskOutsideIs machines task true) l k)
    (AllWithin (λ task. TaskOutsideIs machines task false) l 0 (length l)) →
    OutOfRangeIs machines j r
unfolding out_of_range
tasks_decide {j = j} true tasks h (k, more, is) s same =
    let own = numbers_mem 1 j.taskcount (k + 1) (omega arith) (omega (arith, tasks.long)) in
    sym
    (or_right
    _
    _
    (any_mem (task_out_of_range s j) own (sym (is no_task s j (k + 1) same (sym (own_task tasks k (k + 1) no_task more refl))))))
tasks_decide {j = j} {l} false tasks h none s same =
    rw (
      le-ltb largest_time j.scheduling h,
      none_numbered
          tasks
          (task_out_of_range s j)
          j.taskcount
          (omega (arith, tasks.long))
          (λ k d low below t is. none k d low (omega (arith, tasks.long)) s j t same is),
    )
    refl

-- `screening::ranges::out_of_range` meets its contract: where the scheduling time is in range, a task that has a figure out of range decides.
use Rattle.std.proofs.Common.{rules}
use Rattle.std.proofs.lemmas.Iterator.{YieldsList-from_slice, cases_from_any}
use Rattle.screening.specs.Screens.{TaskOutsideIs}
use Rattle.screening.proofs.Ranged.{tasks_decide}
use Rattle.screening.proofs.ranges.out_of_range.Goals as goal
use mathlib.Core.Bool.{true, false}

pub returns-else-job-gt-LONGEST : goal.returns-else-job-gt-LONGEST
returns-else-job-gt-LONGEST c =
    tasks_decide
    c.any.result
    (record { listed = c.tasks.ensures.listed; long = c.tasks.ensures.long })
    c.if-job-gt-LONGEST.false
    (cases_from_any
    _
    _
    c.any.result
    (λ task. TaskOutsideIs c.args.machines task true)
    (λ task. TaskOutsideIs c.args.machines task false)
    c.any.ensures.ran
    (YieldsList-from_slice c.tasks.result.now c.iter.ensures.rest)
    (λ x q k. search rules)
    (λ x q k. search rules))

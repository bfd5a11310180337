-- `screening::ranges::task_outside` meets its contract: where no other figure is out of range, a run time that is decides.
use native.Mathlib.Omega.{arith}
use lib.Dec.{ltb}
use lib.ListN.{take}
use borrow.Author.Tests.{tests}
use Rattle.std.proofs.Common.{rules}
use Rattle.std.proofs.lemmas.Iterator.{YieldsList-from_slice}
use Rattle.std.proofs.lemmas.Iterator.Search.{any_from_yields_List}
use Rattle.rules.specs.Words.{largest_time}
use Rattle.screening.proofs.Ranged.{runs_decide}
use Rattle.screening.proofs.ranges.task_outside.Goals as goal

pub returns-else-task-gt-LONGEST : goal.returns-else-task-gt-LONGEST
returns-else-task-gt-LONGEST c =
    let a = c.args in
    runs_decide
    c.any.result
    (omega arith)
    (grind (arith, tests))
    (grind (arith, tests))
    (any_from_yields_List
    (ltb largest_time)
    _
    _
    c.any.result
    c.any.ensures.ran
    (YieldsList-from_slice (take a.machines a.task.now.runs) c.iter.ensures.rest)
    (λ x b q k. search (rules, tests)))

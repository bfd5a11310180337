-- `screening::infeasible` meets its contract: none of the machines ends in time.
use native.Mathlib.Omega.{arith}
use borrow.Author.Tests.{tests}
use lib.ListN.{take}
use Rattle.std.proofs.Common.{rules}
use Rattle.std.proofs.lemmas.Iterator.{YieldsList-from_slice}
use Rattle.std.proofs.lemmas.Iterator.Adapters.{serves_from_places}
use Rattle.std.proofs.lemmas.Iterator.Search.{any_from_yields_List}
use Rattle.screening.proofs.Feasible.{ends, unless_ends, run_asked}
use Rattle.screening.proofs.infeasible.Goals as goal

pub any-requires-clause-callable : goal.any-requires-clause-callable
any-requires-clause-callable c =
    serves_from_places
    (YieldsList-from_slice (take c.args.machines c.args.task.now.runs) c.iter.ensures.rest)
    (λ x q k. search rules)
    (λ x k h e. search (rules, run_asked c.requires (omega arith) k x.now h e))

pub returns : goal.returns
returns c =
    let a = c.args in
    unless_ends
    a.clock
    c.any.result
    (omega arith)
    (any_from_yields_List
    (ends a.clock a.task.now.deadline)
    _
    _
    c.any.result
    c.any.ensures.ran
    (YieldsList-from_slice (take a.machines a.task.now.runs) c.iter.ensures.rest)
    (λ x b q k. search (rules, tests)))

-- `screening::first_infeasible` meets its contract: none of the tasks passed is infeasible.
use mathlib.Core.Bool.{true, false}
use Rattle.std.proofs.Common.{rules}
use Rattle.std.proofs.lemmas.Iterator.{YieldsList-from_slice, IsFirst-from_position}
use Rattle.std.proofs.lemmas.Iterator.Adapters.{serves_from_places}
use Rattle.screening.specs.Screens.{InfeasibleIs}
use Rattle.screening.proofs.Feasible.{task_asked, first_is}
use Rattle.screening.proofs.first_infeasible.Goals as goal

pub position-requires-clause-callable : goal.position-requires-clause-callable
position-requires-clause-callable c =
    serves_from_places
    (YieldsList-from_slice c.tasks.result.now c.iter.ensures.rest)
    (λ x q k. search rules)
    (λ x k h e. search (rules, task_asked (record { listed = c.tasks.ensures.listed; long = c.tasks.ensures.long }) c.args.clock c.requires k x.now h e))

pub returns : goal.returns
returns c =
    let a = c.args in
    first_is
    (record { listed = c.tasks.ensures.listed; long = c.tasks.ensures.long })
    a.clock
    c.position.result
    c.map.result
    (IsFirst-from_position
    _
    _
    c.position.result
    (λ task. InfeasibleIs task a.machines a.clock true)
    (λ task. InfeasibleIs task a.machines a.clock false)
    c.position.ensures.ran
    (YieldsList-from_slice c.tasks.result.now c.iter.ensures.rest)
    (λ x q k. search rules)
    (λ x q k. search rules))
    c.map.ensures.cases
    (λ i t k. search rules)

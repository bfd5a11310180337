-- `drcd::order::next_ready` meets its contract.
use mathlib.Core.Path.{ap, ◌∙◌}
use borrow.Author.Tests.{tests}
use Prim.Native.Nat.{◌+◌, ◌<◌}
use Rattle.std.proofs.Common.{rules}
use Rattle.std.proofs.lemmas.Iterator.{serves_from_Range}
use Rattle.rules.specs.Placing.{next_task}
use Rattle.drcd.specs.Order.{task_named}
use Rattle.drcd.proofs.Listed.{tasks_few}
use Rattle.drcd.proofs.Least.{filtered_below, chain, least_is, keys_callable}
use Rattle.drcd.proofs.NextTask.{goes, deadline_at, all_known, next_found}
use Rattle.drcd.proofs.order.next_ready.Goals as goal

pub min_by_key-requires-clause-can : goal.min_by_key-requires-clause-can
min_by_key-requires-clause-can c = (tt, tt, serves_from_Range (λ x q h. search rules) (λ x low high. search (rules, tasks_few c.requires)))

pub min_by_key-requires-clause-callable : goal.min_by_key-requires-clause-callable
min_by_key-requires-clause-callable c =
    let n = c.args.job.now.taskcount in
    let test = goes c.args.spots.now c.waiting-waits.result in
    keys_callable
    _
    _
    (deadline_at c.args.job.now)
    (λ x k q called. search (rules, tests))
    (chain _ test n c.filter.ensures.source c.filter.ensures.closure (λ x r q k. search (rules, tests)))
    (λ x m. let below : x < 0 + n = filtered_below test 0 n m in search (rules, tasks_few c.requires))

pub returns : goal.returns
unfolding next_task
returns c = λ new stands.
    let n = c.args.job.now.taskcount in
    let test = goes c.args.spots.now c.waiting-waits.result in
    let found
    = least_is
    _
    _
    (deadline_at c.args.job.now)
    (λ x k q called. search (rules, tests))
    (chain _ test n c.filter.ensures.source c.filter.ensures.closure (λ x r q k. search (rules, tests)))
    _
    c.min_by_key.ensures.ran in
    ap task_named found ∙ next_found _ _ _ new 0 n (all_known _ _ _ stands c.waiting-waits.ensures (tasks_few c.requires))

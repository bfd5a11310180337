-- `timeline::line::Timeline::least_beside` meets its contract: each turn finds a later tick, and none before it is free in both timelines.
use native.Mathlib.Omega.{arith}
use Rattle.std.proofs.Common.{rules}
use Rattle.timeline.proofs.Agreeing.{asks_own, asks_other, own_at_most, turned_first, turned_more, turned_later, turned_end}
use Rattle.timeline.proofs.line.Timeline.least_beside.Goals as goal

pub least_free-found-requires : goal.least_free-found-requires
least_free-found-requires g c = (search rules, asks_own c.requires _ c.requires.from_at_most)

pub least_free-again-requires : goal.least_free-again-requires
least_free-again-requires g c =
    (search rules, asks_other c.requires _ (own_at_most c.requires _ _ c.requires.from_at_most c.least_free-found.ensures))

pub loop-found-init : goal.loop-found-init
loop-found-init g c = turned_first c.requires _ _ c.least_free-found.ensures c.least_free-again.ensures

pub least_free-found-requires-in-loop-found : goal.least_free-found-requires-in-loop-found
least_free-found-requires-in-loop-found g c = (search rules, asks_own c.requires _ c.loop-found.invariant.again_at_most)

pub least_free-again-requires-in-loop-found : goal.least_free-again-requires-in-loop-found
least_free-again-requires-in-loop-found g c =
    (search rules, asks_other c.requires _ (own_at_most c.requires _ _ c.loop-found.invariant.again_at_most c.least_free-found-in-loop-found.ensures))

pub loop-found-smaller : goal.loop-found-smaller
loop-found-smaller g c =
    let own = c.least_free-found-in-loop-found.ensures in
    let later = turned_later c.requires _ _ own in
    let most = own_at_most c.requires _ _ c.loop-found.invariant.again_at_most own in
    omega arith

pub loop-found-preserved : goal.loop-found-preserved
loop-found-preserved g c =
    turned_more
    c.requires
    _
    _
    _
    _
    _
    c.loop-found.invariant
    c.loop-found-test.true
    c.least_free-found-in-loop-found.ensures
    c.least_free-again-in-loop-found.ensures

pub returns : goal.returns
returns g c = turned_end c.requires _ _ _ c.least_free-found.ensures c.loop-found.invariant c.loop-found-test.false

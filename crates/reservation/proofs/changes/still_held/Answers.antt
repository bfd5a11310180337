-- `reservation::changes::still_held` meets its contract: the slots hold the rows that the chain has yielded, and in the end it has yielded those that stay.
use Rattle.std.proofs.Common.{rules}
use Rattle.std.proofs.lemmas.Iterator.Consumers.{YieldsList-turn, YieldsList-end}
use Rattle.reservation.proofs.Staying.{still_are, still_few, chain, one_more, all_yielded}
use Rattle.reservation.proofs.changes.still_held.Goals as goal

pub loop-kept-preserved : goal.loop-kept-preserved
loop-kept-preserved c =
    let staying = c.requires.staying in
    let turn = YieldsList-turn
    (chain
    staying
    _
    (cc)
    c.filter.ensures.closure
    (λ row b q k. search rules)
    c.enumerate-kept-items.ensures.source
    (cc)
    c.into_iter-kept-iterator.ensures.into_iter_gives)
    c.loop-kept.yielded
    _
    c.loop-kept.yielded_by
    _
    _
    (c.in-Some.kept, c.in-Some.row)
    c.in-Some.is
    c.next.ensures.steps in
    one_more c.loop-kept.yielded c.loop-kept.invariant _ _ _ (still_few staying) turn

pub returns : goal.returns
returns c all leaving staying =
    let seen = YieldsList-end
    (chain
    staying
    _
    (cc)
    c.filter.ensures.closure
    (λ row b q k. search rules)
    c.enumerate-kept-items.ensures.source
    (cc)
    c.into_iter-kept-iterator.ensures.into_iter_gives)
    c.loop-kept.yielded
    _
    c.loop-kept.yielded_by
    _
    _
    c.in-None.is
    c.next.ensures.steps in
    all_yielded c.loop-kept.yielded c.loop-kept.invariant _ (rw (still_are staying) at seen.0)

-- `drcd::inputs::gather` meets its contract.
use mathlib.Core.Path.{◌∙◌}
use native.Mathlib.Omega.{arith}
use lib.ListN.{get_or}
use Rattle.std.proofs.lemmas.List.{take_more, take_all}
use Rattle.rules.specs.Words.{no_message}
use Rattle.drcd.proofs.Listed.{EndsWithin, tasks_few, messages_few, messages_listed, ends_at}
use Rattle.drcd.proofs.Gathered.{gathered_none, gathered_other, gathered_more, gathered_few, gathered_unplaced}
use Rattle.drcd.proofs.inputs.gather.Goals as goal
use Rattle.drcd.proofs.inputs.gather.Goals.{In-loop-message}

ends : (c : In-loop-message) → EndsWithin (get_or c.messages-message-items.result.now c.loop-message.message-index no_message)
ends c = ends_at c.requires.job c.messages-message-items.ensures _ c.loop-message-test.true

pub messages-message-items-requires : goal.messages-message-items-requires
messages-message-items-requires c = messages_few c.requires.job

pub loop-message-init : goal.loop-message-init
loop-message-init c = rw c.clear.ensures (gathered_none _ _)

pub offset_bounds-message-items-message-index : goal.offset_bounds-message-items-message-index
offset_bounds-message-items-message-index c = omega (arith, messages_listed c.requires.job c.messages-message-items.ensures)

pub overflow_add-t : goal.overflow_add-t
overflow_add-t c = omega (arith, c.requires.listed, tasks_few c.requires.job)

pub overflow_sub-message : goal.overflow_sub-message
overflow_sub-message c = (ends (goal.at.overflow_sub-message c).In-loop-message).sender.first

pub offset_bounds-spots-message : goal.offset_bounds-spots-message
offset_bounds-spots-message c = omega (arith, (ends (goal.at.offset_bounds-spots-message c).In-loop-message).sender.last)

pub bounds : goal.bounds
bounds c = let e = ends (goal.at.bounds c).In-loop-message in omega arith

pub push-requires : goal.push-requires
push-requires c = (omega arith, omega (arith, gathered_few _ _ c.loop-message.invariant c.loop-message-test.true, messages_listed c.requires.job c.messages-message-items.ensures))

pub loop-message-preserved-then-message-t : goal.loop-message-preserved-then-message-t
loop-message-preserved-then-message-t c =
    rw (take_more _ _ no_message c.loop-message-test.true) (gathered_other c.loop-message.invariant _ c.if-message-t.true)

pub loop-message-preserved-in_default : goal.loop-message-preserved-in_default
loop-message-preserved-in_default c =
    rw (take_more _ _ no_message c.loop-message-test.true) (gathered_unplaced c.loop-message.invariant _ c.if-message-t.false c.in_default.is)

pub loop-message-preserved : goal.loop-message-preserved
loop-message-preserved c =
    let e = ends (goal.at.loop-message-preserved c).In-loop-message in
    rw
    (c.push.ensures.items, take_more _ _ no_message c.loop-message-test.true)
    (gathered_more c.loop-message.invariant _ c.if-message-t.false e.sender c.in-Some.spot c.in-Some.is)

pub returns : goal.returns
returns c = λ new stands placed.
    let all = take_all _ c.messages-message-items.result.now c.loop-message-test.false ∙ c.messages-message-items.ensures in
    (rw all at c.loop-message.invariant.is) new stands placed

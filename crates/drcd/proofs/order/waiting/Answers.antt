-- `drcd::order::waiting` meets its contract.
use mathlib.Core.Path.{◌∙◌}
use native.Mathlib.Omega.{arith}
use lib.ListN.{get_or}
use Rattle.std.proofs.lemmas.List.{take_more, take_all}
use Rattle.rules.specs.Words.{no_message}
use Rattle.drcd.proofs.Listed.{EndsWithin, tasks_few, messages_few, messages_listed, ends_at}
use Rattle.drcd.proofs.Waiting.{waited_none, waited_placed, waited_unplaced}
use Rattle.drcd.proofs.order.waiting.Goals as goal
use Rattle.drcd.proofs.order.waiting.Goals.{In-loop-message, then-is_none, else-is_none}

ends : (c : In-loop-message) → EndsWithin (get_or c.messages-message-items.result.now c.loop-message.message-index no_message)
ends c = ends_at c.requires c.messages-message-items.ensures _ c.loop-message-test.true

pub messages-message-items-requires : goal.messages-message-items-requires
messages-message-items-requires c = messages_few c.requires

pub loop-message-init : goal.loop-message-init
loop-message-init c = waited_none _

pub offset_bounds-message-items-message-index : goal.offset_bounds-message-items-message-index
offset_bounds-message-items-message-index c = omega (arith, messages_listed c.requires c.messages-message-items.ensures)

pub overflow_sub-message : goal.overflow_sub-message
overflow_sub-message c = (ends (goal.at.overflow_sub-message c).In-loop-message).sender.first

pub offset_bounds-spots-message : goal.offset_bounds-spots-message
offset_bounds-spots-message c = omega (arith, (ends (goal.at.offset_bounds-spots-message c).In-loop-message).sender.last)

pub bounds-spots-message : goal.bounds-spots-message
bounds-spots-message c = let e = ends (goal.at.bounds-spots-message c).In-loop-message in omega arith

pub overflow_sub-waits : goal.overflow_sub-waits
overflow_sub-waits c = (ends (goal.at.overflow_sub-waits c).In-loop-message).receiver.first

pub bounds-waits-message : goal.bounds-waits-message
bounds-waits-message c = let e = ends (goal.at.bounds-waits-message c).In-loop-message in omega arith

pub loop-message-preserved : goal.loop-message-preserved
loop-message-preserved c =
    let e = ends (goal.at.loop-message-preserved c).In-loop-message in
    elim c.if-is_none.branch [
      | then-is_none w ↦
          rw (w.waits-is, take_more _ _ no_message c.loop-message-test.true) (waited_unplaced c.loop-message.invariant e w.if-is_none.ensures)
      | else-is_none w ↦
          rw (w.waits-is, take_more _ _ no_message c.loop-message-test.true) (waited_placed c.loop-message.invariant e w.if-is_none.ensures)
    ]

pub returns : goal.returns
returns c = λ new stands t listed.
    let all = take_all _ c.messages-message-items.result.now c.loop-message-test.false ∙ c.messages-message-items.ensures in
    rw all at (c.loop-message.invariant.is new stands t (omega (arith, tasks_few c.requires)))

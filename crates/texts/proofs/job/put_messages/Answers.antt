-- `texts::job::put_messages` meets its contract: one message is put in a turn.
use native.Mathlib.Omega.{arith}
use Prim.Native.Nat.{◌+◌, ◌*◌, ◌≤◌}
use lib.ListN.{length, take, length-take}
use Rattle.texts.specs.JobText.{message_size}
use Rattle.texts.proofs.Laid.{laid_more}
use Rattle.texts.proofs.job.put_messages.Goals as goal
use Rattle.texts.proofs.job.put_messages.Goals.{Start}

-- the listed messages have their place
room : (s : Start) → s.args.from + length (take s.args.job.now.messagecount s.args.job.now.messages) * message_size ≤ length s.args.row.now
room s = let all = s.requires.room in simp length-take (omega arith)

pub loop-message-preserved : goal.loop-message-preserved
loop-message-preserved c =
    laid_more c.loop-message.invariant _ (rw c.messages-message-items.ensures (room (goal.at.loop-message-preserved c).Start)) c.loop-message-test.true (omega arith) c.put_message-at.ensures

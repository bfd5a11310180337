use Rattle.texts.specs.JobText.{message_size, message_figures}
use Rattle.texts.proofs.Laid.{Laid}
use Rattle.texts.proofs.job.put_messages.Given as goal

abbrev pub invariant-loop-message : goal.invariant-loop-message
invariant-loop-message l = Laid message_figures message_size l.initial.row l.from l.message-items l.row l.at l.message-index

-- `texts::job_lines::with_messages` meets its contract where no message is left.
use mathlib.Core.Path.{refl}
use Rattle.texts.specs.JobText.{messages_lines}
use Rattle.texts.proofs.job_lines.with_messages.Goals as goal

pub returns-then-left-eq0 : goal.returns-then-left-eq0
unfolding messages_lines
returns-then-left-eq0 c machines = rw c.if-left-eq0.true refl

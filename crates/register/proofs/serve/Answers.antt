use Rattle.rules.specs.Words.{setup_by_default}
use Rattle.register.proofs.Streams.{answered}
use Rattle.register.proofs.serve.Goals as goal

pub returns-clause-ok : goal.returns-clause-ok
returns-clause-ok g c = answered setup_by_default _ _ _ _ _ _ c.in_ok-count.ensures.place c.in_ok-count.ensures.bytes c.answer.ensures.ok

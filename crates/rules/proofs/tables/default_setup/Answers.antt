-- `rules::tables::default_setup` meets its contract: the literal is the definition's.
use Rattle.std.proofs.Common.{refl}
use Rattle.rules.specs.Words.{setup_by_default}
use Rattle.rules.proofs.tables.default_setup.Goals as goal

pub returns : goal.returns
unfolding setup_by_default
returns c = refl

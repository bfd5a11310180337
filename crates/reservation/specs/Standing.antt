-- A reader must believe this: a register as a value.
use Rattle.rules.specs.declared.Setup.{Setup}
use Rattle.rules.specs.Words.{State}

-- what it was opened with, and the state of the rules that it stands for
pub record Standing : Type 0 where
  pub setup : Setup
  pub state : State

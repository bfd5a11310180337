-- A reader must believe this: the state of the rules that a register stands for.
use Rattle.rules.specs.declared.Setup.{Setup}
use Rattle.rules.specs.Words.{State}
use Rattle.reservation.specs.declared.Register.{Register}

abbrev pub state_of : Register → State
state_of r = r.state

-- the one register that stands for a state
abbrev pub register_of : Setup → State → Register
register_of s st = record { setup = s; state = st }

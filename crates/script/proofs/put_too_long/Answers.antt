-- `script::put_too_long` meets its contract: the refusal of a fresh register.
use native.Mathlib.Omega.{arith}
use Rattle.rules.specs.Words.{fresh, setup_by_default}
use Rattle.script.proofs.Held.{fresh_stands}
use Rattle.script.proofs.put_too_long.Goals as goal

pub put_refusal-requires : goal.put_refusal-requires
put_refusal-requires c = record {
  timetable = record { setup = setup_by_default; state = fresh; is = fresh_stands c.new.ensures };
  room = omega (arith, c.requires);
}

pub returns : goal.returns
returns c = c.put_refusal.ensures setup_by_default fresh (fresh_stands c.new.ensures)

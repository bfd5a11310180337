-- `timetable::Timetable::advancement` meets its contract: each way out is the first test that refuses.
use native.Mathlib.Omega.{arith}
use Rattle.timetable.proofs.Steps.{advance_11, advance_12, advance_0}
use Rattle.timetable.proofs.Timetable.advancement.Goals as goal

pub returns-then-tick-self : goal.returns-then-tick-self
returns-then-tick-self c s st e = advance_11 s st _ (let h = c.if-tick-self.true in omega arith)

pub returns-then-tick-gt-HORIZON : goal.returns-then-tick-gt-HORIZON
returns-then-tick-gt-HORIZON c s st e = advance_12 s st _ (let h = c.if-tick-self.false in omega arith) c.if-tick-gt-HORIZON.true

pub returns : goal.returns
returns c s st e = advance_0 s st _ (let h = c.if-tick-self.false in omega arith) c.if-tick-gt-HORIZON.false

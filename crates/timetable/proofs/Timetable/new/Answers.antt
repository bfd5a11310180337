-- `timetable::Timetable::new` meets its contract.
use Rattle.timetable.proofs.Fresh.{blank_is, blank_note}
use Rattle.timetable.proofs.Timetable.new.Goals as goal

pub returns : goal.returns
returns c = rw (c.new.ensures, blank_note c.default.ensures) blank_is

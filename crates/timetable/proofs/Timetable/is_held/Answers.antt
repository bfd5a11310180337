-- `timetable::Timetable::is_held` meets its contract.
use mathlib.Core.Path.{sym, ◌∙◌}
use Rattle.timetable.proofs.Carried.{held_is}
use Rattle.timetable.proofs.Timetable.is_held.Goals as goal

pub returns : goal.returns
returns c line n is = c.contains.ensures.value ∙ held_is _ _ c.args.job line (n ∙ sym c.count.ensures.is) is

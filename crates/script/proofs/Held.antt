-- The timetable of a fresh register stands for the fresh state.
use mathlib.Core.Path.{◌≡◌}
use Rattle.rules.specs.Words.{fresh, setup_by_default}
use Rattle.rules.proofs.Bounds.{bounded_fresh}
use Rattle.rules.proofs.DefaultTables.{default_sound}
use Rattle.timetable.specs.declared.Timetable.{Timetable}
use Rattle.timetable.specs.Timetables.{TimetableOf, timetable_fresh}

pub fresh_stands : {t : Timetable} → t ≡ timetable_fresh → TimetableOf setup_by_default fresh t
fresh_stands is = record { sound = default_sound; bounded = bounded_fresh setup_by_default; is = is }

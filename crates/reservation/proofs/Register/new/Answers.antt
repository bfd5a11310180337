-- `Register::new` meets its contract: the fresh register keeps the fresh timetable, and blank slots.
use mathlib.Core.Path.{◌≡◌, ap}
use lib.ListN.{replicate}
use Rattle.rules.specs.Words.{fresh, setup_by_default, row_limit}
use Rattle.rules.specs.Placing.{no_row}
use Rattle.rules.specs.declared.Row.{Row}
use Rattle.rules.specs.declared.Setup.{Setup}
use Rattle.rules.proofs.Bounds.{bounded_fresh}
use Rattle.rules.proofs.DefaultTables.{default_sound}
use Rattle.timetable.specs.declared.Timetable.{Timetable}
use Rattle.timetable.specs.Timetables.{timetable_fresh}
use Rattle.reservation.specs.Registers.{register_of}
use Rattle.reservation.proofs.Slotted.{blank_is}
use Rattle.reservation.proofs.Values.{FieldsOf, fields_kept}
use Rattle.reservation.proofs.Register.new.Goals as goal

-- what the code makes of the tables, the timetable and the blank row
fresh_fields :
    {s : Setup} {t : Timetable} {row : Row} → s ≡ setup_by_default → t ≡ timetable_fresh → row ≡ no_row →
    FieldsOf (register_of setup_by_default fresh) (record { setup = s; timetable = t; rows = replicate row_limit row })
fresh_fields setup_is fresh_is blank = record {
  setup_is = setup_is;
  timetable = record { sound = default_sound; bounded = bounded_fresh setup_by_default; is = fresh_is };
  rows_are = ap (replicate row_limit) blank;
}

pub invariant_of-result : goal.invariant_of-result
invariant_of-result c = fields_kept (fresh_fields c.default_setup.ensures c.new.ensures (blank_is c.default.result c.default.ensures))

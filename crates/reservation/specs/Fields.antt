-- A reader must believe this: what a register keeps, of which the timetable is made so that a call need not look through the rows.
use Rattle.std.specs.Prelude.{◌≡◌, take}
use Rattle.rules.specs.Words.{State, row_limit}
use Rattle.rules.specs.Bounds.{Sound, Bounded}
use Rattle.timeline.specs.RowLine.{slots}
use Rattle.timetable.specs.Derived.{timetable_of}
use Rattle.reservation.specs.Standing.{Standing}
use Rattle.reservation.specs.declared.Register.TheInside.{Inside}

-- the state that the clock, the first rows and the total say
abbrev pub state_kept : Inside → State
state_kept a = record {
  calendar = record { clock = a.timetable.clock };
  rows = take a.timetable.line.count a.rows;
  total = a.timetable.total;
}

abbrev pub standing_of : Inside → Standing
standing_of a = record { setup = a.setup; state = state_kept a }

-- the fields of the one register that stands so: the timetable is made of the rows, and the slots past them are blank
abbrev pub fields_of : Standing → Inside
fields_of v = record { setup = v.setup; timetable = timetable_of v.state; rows = slots row_limit v.state.rows }

-- what is true of every register
pub record Kept (a : Inside) : Type 0 where
  pub sound : Sound a.setup
  pub kept : a ≡ fields_of (standing_of a)
  pub bounded : Bounded a.setup (state_kept a)

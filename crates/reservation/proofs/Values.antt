-- The fields of a register: those that are kept are of the one for which they stand. They are its timetable and the slots of its rows, and whatever is so made
-- is kept.
use mathlib.Core.Path.{◌≡◌, sym, ap, ◌∙◌, subst}
use Prim.Native.Nat.{◌-◌}
use lib.ListN.{length, replicate}
use lib.Seq.{take-append_seam}
use Rattle.rules.specs.Words.{row_limit}
use Rattle.rules.specs.Placing.{no_row}
use Rattle.rules.specs.Bounds.{Sound, Bounded}
use Rattle.timeline.specs.RowLine.{slots}
use Rattle.timetable.specs.Timetables.{TimetableOf}
use Rattle.reservation.specs.Fields.{standing_of, fields_of, Kept}
use Rattle.reservation.specs.declared.Register.{Register}
use Rattle.reservation.specs.declared.Register.TheInside.{Inside}

pub standing_same : (v : Register) → standing_of (fields_of v) ≡ v
standing_same v =
    ap
    (λ rows. record { setup = v.setup; state = record { calendar = v.state.calendar; rows = rows; total = v.state.total } })
    (take-append_seam v.state.rows (replicate (row_limit - length v.state.rows) no_row))

-- the fields of a register: what it was opened with, the timetable of its state, and the slots of its rows
pub record FieldsOf (v : Register) (a : Inside) : Type 0 where
  pub setup_is : a.setup ≡ v.setup
  pub timetable : TimetableOf v.setup v.state a.timetable
  pub rows_are : a.rows ≡ slots row_limit v.state.rows

-- those that are kept are those of the register for which they stand
pub kept_fields : {a : Inside} {v : Register} → Kept a → standing_of a ≡ v → FieldsOf v a
kept_fields {a} {v} kept is =
    let are : a ≡ fields_of v = kept.kept ∙ ap fields_of is in
    record {
      setup_is = ap (λ x. x.setup) are;
      timetable =
          record {
            sound = subst (λ x. Sound x.setup) is kept.sound;
            bounded = subst (λ x. Bounded x.setup x.state) is kept.bounded;
            is = ap (λ x. x.timetable) are;
          };
      rows_are = ap (λ x. x.rows) are;
    }

pub timetable_kept : {a : Inside} {v : Register} → Kept a → standing_of a ≡ v → TimetableOf v.setup v.state a.timetable
timetable_kept kept is = (kept_fields kept is).timetable

module _ {v : Register} {a : Inside} (of : FieldsOf v a) where
  fields_are : a ≡ fields_of v
  fields_are = λ i. record { setup = of.setup_is i; timetable = of.timetable.is i; rows = of.rows_are i }

  pub fields_stand : standing_of a ≡ v
  fields_stand = ap standing_of fields_are ∙ standing_same v

  pub fields_kept : Kept a
  fields_kept = record {
    sound = subst (λ x. Sound x.setup) (sym fields_stand) of.timetable.sound;
    kept = fields_are ∙ sym (ap fields_of fields_stand);
    bounded = subst (λ x. Bounded x.setup x.state) (sym fields_stand) of.timetable.bounded;
  }

  pub count_is : a.timetable.line.count ≡ length v.state.rows
  count_is = ap (λ x. x.line.count) of.timetable.is

-- A call on a register as a step of the rules: refused, so that the very same register is left, or made over the timetable, beside which the slots of the rows
-- that are left make the register.
use mathlib.Core.Path.{◌≡◌, refl, sym, ap, ◌∙◌, subst}
use mathlib.Core.Bool.{true, false}
use mathlib.Core.List.{List}
use Prim.Native.Nat.{◌≤◌}
use native.Mathlib.Omega.{arith}
use lib.ListN.{length, length-append}
use Rattle.std.specs.Prelude.{Result, Ok, Err}
use Rattle.std.specs.Result.{is_ok}
use Rattle.rules.specs.declared.Job.{Job}
use Rattle.rules.specs.declared.Row.{Row}
use Rattle.rules.specs.declared.answers.Admission.{Admission}
use Rattle.rules.specs.declared.answers.Refusal.{Refusal}
use Rattle.rules.specs.Answers.{answered}
use Rattle.rules.specs.Words.{row_limit, largest_number}
use Rattle.rules.specs.Refusals.{Call, submits, step}
use Rattle.rules.proofs.Sequences.{clash}
use Rattle.rules.proofs.Order.{in_between}
use Rattle.rules.proofs.Demand2.{demand_2}
use Rattle.timeline.specs.RowLine.{line_of, slots}
use Rattle.placement.specs.declared.own.Entry.{Entry}
use Rattle.timetable.specs.declared.Timetable.{Timetable}
use Rattle.timetable.specs.Marks.{JobsOf}
use Rattle.timetable.specs.Timetables.{Goes}
use Rattle.timetable.proofs.Steps.{refused_left}
use Rattle.admission.specs.Submitted.{SubmitIs, Found}
use Rattle.reservation.specs.declared.Register.{Register}
use Rattle.reservation.specs.declared.Register.TheInside.{Inside}
use Rattle.reservation.specs.Registers.{state_of, register_of}
use Rattle.reservation.specs.Calls.{Steps}
use Rattle.reservation.specs.Parts.{Leaves, Joining, AskMore, MoreIs, Staying, StayIs}
use Rattle.reservation.specs.Fields.{state_kept, standing_of, Kept}
use Rattle.reservation.proofs.Values.{FieldsOf, kept_fields, fields_stand, count_is}

-- a refusal leaves the very same register
pub refused_steps :
    (r : Register) (c : Call) (a : Result Admission Refusal) → answered a ≡ (step r.setup (state_of r) c).answer → is_ok a ≡ false →
    Steps r c (record { answer = a; register = r })
refused_steps r c (Ok it) is refused = clash refl refused
refused_steps r c (Err why) is refused =
    record { answer_is = is; left_is = sym (ap (register_of r.setup) (refused_left r.setup (state_of r) c why (sym is))) }

-- what is left with the timetable and the rows
abbrev pub left_with : Inside → Timetable → List Row → Inside
left_with a t rows = record { setup = a.setup; timetable = t; rows = rows }

-- A call over the timetable leaves the fields of the register that the rules leave, if the slots hold its rows.
module _
    {r : Register} {a : Inside} (of : FieldsOf r a) {c : Call} {t : Timetable} {answer : Result Admission Refusal}
    (goes : Goes r.setup (state_of r) c t answer) where
  goes_fields :
      {rows : List Row} → rows ≡ slots row_limit (step r.setup (state_of r) c).left.rows →
      FieldsOf (register_of r.setup (step r.setup (state_of r) c).left) (left_with a t rows)
  goes_fields rows_are = record { setup_is = of.setup_is; timetable = goes.left; rows_are = rows_are }

  -- that rows leave with
  module _ (leaves : Leaves (state_of r) (step r.setup (state_of r) c).left) where
    staying : Staying r.state.rows leaves.leaving a.rows a.timetable.line.count t
    staying = record {
      held_is = of.rows_are;
      count_is = count_is of;
      few = of.timetable.bounded.count;
      whole = leaves.whole;
      left_is = ap (λ x. x.line.count) goes.left.is ∙ ap length leaves.rows_are;
      jobs_are = subst (λ rows. JobsOf (line_of rows) t.jobs) leaves.rows_are (ap (λ x. x.jobs) goes.left.is);
    }

    pub removed_fields :
        {rows : List Row} → StayIs a.rows a.timetable.line.count t rows →
        FieldsOf (register_of r.setup (step r.setup (state_of r) c).left) (left_with a t rows)
    removed_fields is = goes_fields (is r.state.rows leaves.leaving staying ∙ ap (slots row_limit) (sym leaves.rows_are))

-- what is no refusal
admission_of : (a : Result Admission Refusal) → is_ok a ≡ true → (it : Admission) × (a ≡ Ok it)
admission_of (Ok it) e = (it, refl)
admission_of (Err why) e = clash e refl

-- A submission over the timetable, accepted.
module _
    {a : Inside} (kept : Kept a) {j : Job} {own : List Entry} {t : Timetable} {answer : Result Admission Refusal}
    (is : SubmitIs a.timetable a.setup j t own answer) (admitted : is_ok answer ≡ true) where
  abbrev rows : List Row
  rows = (state_kept a).rows

  of : FieldsOf (standing_of a) a
  of = kept_fields kept refl

  goes_there : Goes a.setup (state_kept a) (submits j) t answer
  goes_there = is.is _ of.timetable

  found : let it = admission_of answer admitted in Found a.setup (state_kept a) j own it.0
  found = let it = admission_of answer admitted in is.found it.0 it.1 _ of.timetable

  joining : Joining a.setup rows found.new a.rows a.timetable.line.count own j.number
  joining = record {
    sound = of.timetable.sound;
    held_is = of.rows_are;
    count_is = count_is of;
    fits = omega (arith, goes_there.left.bounded.count, ap length found.rows_are, length-append rows found.new);
    in_range = found.in_range;
    one_job = found.one_job;
    own_is = found.own_is;
  }

  pub admitted_asked : AskMore a.rows a.timetable.line.count own j.number
  admitted_asked = record { setup = a.setup; rows = rows; new = found.new; joining = joining }

  -- the number of an admitted job fits its column
  pub admitted_number : j.number ≤ largest_number
  admitted_number =
      let number_is = sym (ap (λ a. a.number) goes_there.answer_is) ∙ ap (λ a. (answered a).number) (admission_of answer admitted).1 in
      let job = (demand_2 a.setup (state_kept a) j).admitted.0 number_is in
      (in_between 1 largest_number j.number job.1.in_range.number).1

  module _ {left : List Row} (more : MoreIs a.rows a.timetable.line.count own j.number left) where
    pub admitted_fields : FieldsOf (register_of a.setup (step a.setup (state_kept a) (submits j)).left) (left_with a t left)
    admitted_fields = goes_fields of goes_there (more a.setup rows found.new joining ∙ ap (slots row_limit) (sym found.rows_are))

    pub admitted_steps : Steps (standing_of a) (submits j) (record { answer = answer; register = standing_of (left_with a t left) })
    admitted_steps = record { answer_is = goes_there.answer_is; left_is = fields_stand admitted_fields }

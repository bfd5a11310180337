-- A timetable that stands for a state: what is read of its columns, and what a call over it has to show.
use mathlib.Core.Path.{◌≡◌, sym, ap, ◌∙◌}
use mathlib.Core.List.{List, Memᴰ}
use Prim.Native.Nat.{ℕ, ◌≤◌, ◌<◌}
use native.Mathlib.Omega.{arith}
use lib.ListN.{length, get_or}
use Rattle.std.specs.Prelude.{Result, Err}
use Rattle.rules.specs.declared.Row.{Row}
use Rattle.rules.specs.declared.Setup.{Setup}
use Rattle.rules.specs.declared.answers.Admission.{Admission}
use Rattle.rules.specs.declared.answers.Refusal.{Refusal}
use Rattle.rules.specs.Answers.{answered, refused}
use Rattle.rules.specs.Words.{State, row_limit}
use Rattle.rules.specs.Placing.{no_row}
use Rattle.rules.specs.Refusals.{Call, step}
use Rattle.rules.proofs.Sequences.{get_or_mem}
use Rattle.rules.proofs.Bounds.{bounded_step}
use Rattle.timeline.specs.Bookings.{booking_of}
use Rattle.timeline.specs.RowLine.{spans_room, row_begin, row_end, line_of, notes_of, note_of}
use Rattle.timeline.specs.Notes.{no_note}
use Rattle.timeline.proofs.ColumnLaws.{column_at, column_long}
use Rattle.timeline.proofs.RowLines.{line_long, line_from}
use Rattle.timetable.specs.declared.Timetable.{Timetable}
use Rattle.timetable.specs.Derived.{last_finish, timetable_of}
use Rattle.timetable.specs.Marks.{JobsOf}
use Rattle.timetable.specs.Timetables.{TimetableOf, Goes}
use Rattle.timetable.proofs.Steps.{refused_left}
use Rattle.timetable.proofs.Ends.{last_none}

module _ {s : Setup} {st : State} {t : Timetable} (is : TimetableOf s st t) where
  abbrev line : List Row
  line = line_of st.rows

  pub count_is : length line ≡ t.line.count
  count_is = line_long st.rows ∙ sym (ap (λ x. x.line.count) is.is)

  pub few_held : t.line.count ≤ row_limit
  few_held = omega (arith, count_is, line_long st.rows, is.bounded.count)

  pub jobs_are : JobsOf line t.jobs
  jobs_are = ap (λ x. x.jobs) is.is

  pub notes_are : t.notes ≡ notes_of (last_finish st.rows) line
  notes_are = ap (λ x. x.notes) is.is

  pub notes_long : length t.notes ≡ spans_room
  notes_long = ap length notes_are ∙ column_long (note_of (last_finish st.rows)) line (omega (arith, count_is, few_held))

  -- 0 is no job's number
  pub no_last : last_finish st.rows 0 ≡ 0
  no_last = last_none st.rows (λ row m. (is.bounded.rows row m).job.first)

  pub row_there : (i : ℕ) → i < t.line.count → Memᴰ (get_or line i no_row) st.rows
  row_there i h = line_from st.rows (get_or_mem line i no_row (omega (arith, count_is)))

  pub note_at : (i : ℕ) → i < t.line.count → get_or t.notes i no_note ≡ note_of (last_finish st.rows) (get_or line i no_row)
  note_at i h = ap (λ l. get_or l i no_note) notes_are ∙ column_at (note_of (last_finish st.rows)) line i no_note (omega (arith, count_is))

  -- the figures of a row, as its columns say them
  pub booking_at :
      (i : ℕ) → i < t.line.count →
      record {
        begin = get_or t.line.begins i 0;
        end = get_or t.line.ends i 0;
        holder = (get_or t.notes i no_note).holder;
        cost = (get_or t.notes i no_note).cost;
      }
      ≡ booking_of (get_or line i no_row)
  booking_at i h =
      let there : i < length line = omega (arith, count_is) in
      let begin = ap (λ x. get_or x.line.begins i 0) is.is ∙ column_at row_begin line i 0 there in
      let end = ap (λ x. get_or x.line.ends i 0) is.is ∙ column_at row_end line i 0 there in
      let note = note_at i h in
      λ k. record { begin = begin k; end = end k; holder = (note k).holder; cost = (note k).cost }

  module _ (c : Call) where
    pub goes :
        {left : State} {r : Result Admission Refusal} {t' : Timetable} → answered r ≡ (step s st c).answer → (step s st c).left ≡ left →
        t' ≡ timetable_of left → Goes s st c t' r
    goes answer_is left_is is' = record {
      answer_is = answer_is;
      left = record { sound = is.sound; bounded = bounded_step s is.sound st c is.bounded; is = is' ∙ ap timetable_of (sym left_is) };
    }

    -- a refusal leaves the timetable
    pub refused_goes : {why : Refusal} → (step s st c).answer ≡ refused why → Goes s st c t (Err why)
    refused_goes {why} told = goes (sym told) (refused_left s st c why told) is.is

-- The timetable of a fresh register: blank columns.
use mathlib.Core.Path.{◌≡◌, refl}
use mathlib.Core.List.{[]}
use lib.ListN.{replicate}
use Rattle.rules.specs.declared.Row.{Row}
use Rattle.rules.specs.declared.Holder.TheVariants.{TaskOn}
use Rattle.rules.specs.declared.answers.Admission.{Admission}
use Rattle.rules.specs.Placing.{no_row}
use Rattle.timeline.specs.declared.notes.Note.{Note}
use Rattle.timeline.specs.Lines.{none_on}
use Rattle.timeline.specs.Notes.{no_note}
use Rattle.timeline.specs.RowLine.{spans_room, row_begin, row_end, line_onto, column, note_of}
use Rattle.timeline.proofs.ColumnLaws.{begin_blank, end_blank, note_blank}
use Rattle.timetable.specs.declared.Timetable.{Timetable}
use Rattle.timetable.specs.Derived.{never, last_finish, least_of, most_of}
use Rattle.timetable.specs.Timetables.{timetable_fresh}
use Rattle.timetable.proofs.Lists.{map_replicate}

-- What the defaults say.

pub blank_note : {note : Note} → (note.holder ≡ TaskOn 0 0) × ((note.cost ≡ 0) × (note.last ≡ 0)) → note ≡ no_note
blank_note is = λ i. record { holder = is.0 i; cost = is.1.0 i; last = is.1.1 i }

pub nothing : {admission : Admission} → (admission.cost ≡ 0) × (admission.rows ≡ 0) → admission ≡ record { cost = 0; rows = 0 }
nothing is = λ i. record { cost = is.0 i; rows = is.1 i }

-- no rows: blanks alone
column_none : {A : Type 0} (figure : Row → A) {blank : A} → figure no_row ≡ blank → replicate spans_room blank ≡ column figure []
column_none figure is = rw (map_replicate figure spans_room no_row, is) refl

abbrev blank_timetable : Timetable
blank_timetable = record {
  line = none_on spans_room;
  jobs = replicate spans_room 0;
  notes = replicate spans_room no_note;
  clock = 0;
  total = 0;
  soonest = never;
}

pub blank_is : blank_timetable ≡ timetable_fresh
unfolding line_onto least_of most_of
blank_is =
    let begins = column_none row_begin begin_blank in
    let ends = column_none row_end end_blank in
    let jobs = column_none (λ row. row.job) refl in
    let notes = column_none (note_of (last_finish [])) (note_blank (last_finish []) refl) in
    λ i. record {
      line = record { begins = begins i; ends = ends i; count = 0 };
      jobs = jobs i;
      notes = notes i;
      clock = 0;
      total = 0;
      soonest = never;
    }

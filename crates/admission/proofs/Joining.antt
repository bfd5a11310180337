-- The numbers and notes of a job's own rows put where their spans went, row by row: the columns are those of the rows held and of the first so many of its own.
use mathlib.Core.Path.{◌≡◌, refl, sym, ap, ◌∙◌, subst}
use mathlib.Core.List.{List, Memᴰ}
use Prim.Native.Nat.{ℕ, ◌+◌, ◌≤◌, ◌<◌}
use native.Mathlib.Omega.{arith}
use lib.ListN.{length, get_or}
use Rattle.rules.specs.declared.Row.{Row}
use Rattle.rules.specs.Placing.{no_row}
use Rattle.rules.proofs.Sequences.{get_or_mem}
use Rattle.timeline.specs.declared.notes.Note.{Note}
use Rattle.timeline.specs.RowLine.{spans_room, line_of, column, note_of, notes_of, GoesAt, AskInsert, InsertedAt}
use Rattle.timeline.proofs.ColumnLaws.{column_inserted}
use Rattle.placement.specs.declared.own.Entry.{Entry}
use Rattle.placement.specs.Own.{nth_entry, entry_for, OwnRows}
use Rattle.timetable.specs.declared.Timetable.{Timetable}
use Rattle.timetable.specs.Marks.{JobsOf}
use Rattle.admission.specs.Submitted.{AskJoin, JoinedIs}
use Rattle.admission.proofs.Owning.{rows_to, rows_all, line_to_long, line_to_more}

abbrev Carry : List Row → (job : ℕ) → Type 0
Carry new job = (row : Row) → Memᴰ row new → row.job ≡ job

-- after i rows
pub record Joining (t₀ : Timetable) (own : List Entry) (held job last : ℕ) (t : Timetable) (i : ℕ) : Type 0 where
  pub beside : t ≡ record t₀ { jobs = t.jobs; notes = t.notes }
  pub jobs_long : length t.jobs ≡ spans_room
  pub notes_long : length t.notes ≡ spans_room
  pub jobs_are :
      (rows new : List Row) → held ≡ length rows → OwnRows rows new own → Carry new job →
      JobsOf (line_of rows) t₀.jobs → JobsOf (line_of (rows_to rows new i)) t.jobs
  pub notes_are :
      (rows new : List Row) (lasts : ℕ → ℕ) → held ≡ length rows → OwnRows rows new own → Carry new job →
      lasts job ≡ last → t₀.notes ≡ notes_of lasts (line_of rows) → t.notes ≡ notes_of lasts (line_of (rows_to rows new i))

module _ {t₀ : Timetable} {own : List Entry} {held job last : ℕ} where
  module _ {t : Timetable} {i : ℕ} (so_far : Joining t₀ own held job last t i) where
    pub joining_all : {items : List Entry} → items ≡ own → i ≤ length items → length items ≤ i → JoinedIs t₀ own held job last t
    joining_all lent most over =
        let all : i ≡ length own = omega (arith, ap length lent) in
        record {
          beside = so_far.beside;
          jobs_are =
              λ rows new held_is own_is carry is.
              subst (λ l. JobsOf (line_of l) t.jobs) (rows_all rows new i (all ∙ own_is.long)) (so_far.jobs_are rows new held_is own_is carry is);
          notes_are =
              λ rows new lasts held_is own_is carry same is.
              subst
              (λ l. t.notes ≡ notes_of lasts (line_of l))
              (rows_all rows new i (all ∙ own_is.long))
              (so_far.notes_are rows new lasts held_is own_is carry same is);
        }

    -- the next row, read from the slice that is lent
    module _ (ask : AskJoin t₀ own held) {items : List Entry} (lent : items ≡ own) (more : i < length items) where
      abbrev entry : Entry
      entry = nth_entry items i

      -- the line before it, as long as the index says
      module _ {rows new : List Row} (held_is : held ≡ length rows) (own_is : OwnRows rows new own) where
        abbrev row : Row
        row = get_or new i no_row

        abbrev line : List Row
        line = line_of (rows_to rows new i)

        there : i < length new
        there = omega (arith, own_is.long, ap length lent)

        goes : GoesAt line row entry.at
        goes = rw lent (own_is.goes i there)

        long : length line ≡ held + i
        long = omega (arith, there, line_to_long rows new i (omega (arith, there)))

        few : length line < spans_room
        few = omega (arith, long, ask.held_few, ask.few, ask.own_is.long, ap length lent)

      within_line : entry.at ≤ held + i
      within_line = omega (arith, (goes ask.held_is ask.own_is).within, long ask.held_is ask.own_is)

      room : held + i < spans_room
      room = omega (arith, ask.held_few, ask.few, ask.own_is.long, ap length lent)

      pub job_asked : AskInsert t.jobs (held + i) entry.at
      job_asked = record { room = omega (arith, so_far.jobs_long, room); within = within_line }

      abbrev note : Note
      note = record { holder = entry.booking.holder; cost = entry.booking.cost; last = last }

      module _ {jobs' : List ℕ} {notes' : List Note} (first : InsertedAt t.jobs (held + i) entry.at job jobs')
          (second : InsertedAt t.notes (held + i) entry.at note notes') where
        abbrev joined : Timetable
        joined = record t { jobs = jobs'; notes = notes' }

        module _ {rows new : List Row} (held_is : held ≡ length rows) (own_is : OwnRows rows new own) (carry : Carry new job) where
          abbrev its : Row
          its = get_or new i no_row

          carried : its.job ≡ job
          carried = carry its (get_or_mem new i no_row (there held_is own_is))

          entry_is : entry ≡ entry_for entry.at its
          entry_is = rw lent (own_is.is i (there held_is own_is))

          next_jobs : JobsOf (line_of rows) t₀.jobs → JobsOf (line_of (rows_to rows new (i + 1))) jobs'
          next_jobs is =
              column_inserted
              (λ row. row.job)
              (goes held_is own_is)
              (few held_is own_is)
              (rw (← so_far.jobs_are rows new held_is own_is carry is, long held_is own_is, carried) first)
              ∙ ap (column (λ row. row.job)) (sym (line_to_more rows new i (there held_is own_is)))

          next_notes :
              (lasts : ℕ → ℕ) → lasts job ≡ last → t₀.notes ≡ notes_of lasts (line_of rows) → notes' ≡ notes_of lasts (line_of (rows_to rows new (i + 1)))
          next_notes lasts same is =
              let noted : note_of lasts its ≡ note = rw (ap (λ e. e.booking) entry_is, carried, same) refl in
              column_inserted
              (note_of lasts)
              (goes held_is own_is)
              (few held_is own_is)
              (rw (← so_far.notes_are rows new lasts held_is own_is carry same is, long held_is own_is, noted) second)
              ∙ ap (notes_of lasts) (sym (line_to_more rows new i (there held_is own_is)))

        pub joining_more : Joining t₀ own held job last joined (i + 1)
        joining_more = record {
          beside = λ k. record (so_far.beside k) { jobs = jobs'; notes = notes' };
          jobs_long = first.long ∙ so_far.jobs_long;
          notes_long = second.long ∙ so_far.notes_long;
          jobs_are = λ rows new held_is own_is carry is. next_jobs held_is own_is carry is;
          notes_are = λ rows new lasts held_is own_is carry same is. next_notes held_is own_is carry lasts same is;
        }

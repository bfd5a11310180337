-- A job that has passed refusals 1 to 6, placed: late, too many rows, or admitted. The answer is the rules', an admission's rows have joined the timeline, and
-- those of a refusal are taken off it again.
use mathlib.Core.Path.{◌≡◌, refl, sym, ap, ◌∙◌}
use mathlib.Core.List.{List}
use Prim.Native.Nat.{◌+◌, ◌^◌, ◌≤◌, ◌<◌}
use native.Mathlib.Omega.{arith}
use lib.ListN.{length}
use borrow.Author.Tests.{eq-eqb}
use Rattle.std.proofs.Common.{Result, Ok, Err}
use Rattle.rules.specs.declared.Job.{Job}
use Rattle.rules.specs.declared.Setup.{Setup}
use Rattle.rules.specs.declared.answers.Admission.{Admission}
use Rattle.rules.specs.declared.answers.Refusal.{Refusal}
use Rattle.rules.specs.declared.answers.Refusal.TheVariants as R
use Rattle.rules.specs.Answers.{answered, refused}
use Rattle.rules.specs.Words.{State, view, of_job, row_limit}
use Rattle.rules.specs.Placing.{booked}
use Rattle.rules.specs.Refusals.{placing, submits, step}
use Rattle.rules.proofs.Sequences.{clash, any_none}
use Rattle.rules.proofs.Bounds.{scheduling_figure}
use Rattle.timeline.specs.Lines.{LineOf}
use Rattle.timeline.specs.Spans.{Spans}
use Rattle.placement.specs.declared.own.Entry.{Entry}
use Rattle.placement.specs.declared.place.Late.{Late}
use Rattle.placement.specs.Placements.{Placeable, AskPlace, placing_of, Placed, PlacedIs}
use Rattle.timetable.specs.declared.Timetable.{Timetable}
use Rattle.timetable.specs.Timetables.{TimetableOf}
use Rattle.admission.specs.Submitted.{Passed, AskUndo, Undone, AskJudged, Accepted, JudgedIs}
use Rattle.admission.proofs.Admitting.{carry_new}
use Rattle.admission.proofs.Settling.{submit_7, submit_8, submit_0, submit_left}

-- Placing.

module _ {t : Timetable} {s : Setup} {st : State} (is : TimetableOf s st t) where
  line_held : LineOf st.rows t.line
  line_held = record {
    spans = record { begins_are = ap (λ x. x.line.begins) is.is; ends_are = ap (λ x. x.line.ends) is.is };
    count_is = ap (λ x. x.line.count) is.is;
  }

  -- a timeline of the same rows is the same
  line_same : {line : Spans} → LineOf st.rows line → line ≡ t.line
  line_same of =
      let begins = of.spans.begins_are ∙ sym line_held.spans.begins_are in
      let ends = of.spans.ends_are ∙ sym line_held.spans.ends_are in
      let count = of.count_is ∙ sym line_held.count_is in
      λ i. record { begins = begins i; ends = ends i; count = count i }

  module _ {j : Job} (before : Passed s st j) where
    -- the floors count from the clock and the scheduling time
    base_is : t.clock + j.scheduling ≡ st.calendar.clock + j.scheduling
    base_is = ap (λ x. x.clock + j.scheduling) is.is

    placeable : Placeable s j st.rows (t.clock + j.scheduling) t.line
    placeable = record {
      sound = is.sound;
      range = before.in_range;
      base_at_most = omega (arith, base_is, is.bounded.clock, scheduling_figure s j before.in_range);
      held_few = is.bounded.count;
      rows_in_range = is.bounded.rows;
      apart = is.bounded.apart;
      line_is = line_held;
    }

    placed_at :
        {line : Spans} {own : List Entry} {r : Result Admission Late} → PlacedIs s j (t.clock + j.scheduling) t.line line own r →
        Placed s (st.calendar.clock + j.scheduling) st.rows j line own r
    placed_at places = rw (← base_is) (places st.rows placeable)

module _ {t : Timetable} {s : Setup} {j : Job} (asked : AskJudged t s j) where
  pub place_asked : AskPlace s j (t.clock + j.scheduling) t.line
  place_asked = record { rows = asked.state.rows; placeable = placeable asked.is asked.passed }

  pub base_fits : t.clock + j.scheduling < 2 ^ 64
  base_fits = omega (arith, place_asked.placeable.base_at_most)

  -- What was placed.

  module _ {line : Spans} {own : List Entry} {r : Result Admission Late} (places : PlacedIs s j (t.clock + j.scheduling) t.line line own r) where
    pub undo_asked : AskUndo line own
    undo_asked =
        let placed = placed_at asked.is asked.passed places in
        record {
          rows = asked.state.rows;
          new = placed.new;
          line_is = placed.line_is;
          few = asked.is.bounded.count;
          new_few = placed.few;
          own_is = placed.own_is;
        }

    -- a refusal, with the spans taken off again
    refuses :
        {line' : Spans} → Undone line own line' → (why : Refusal) →
        ((st : State) → TimetableOf s st t → Passed s st j → (step s st (submits j)).answer ≡ refused why) →
        JudgedIs t s j (record t { line = line' }) own (Err why)
    refuses {line'} undone why told =
        let placed = placed_at asked.is asked.passed places in
        let same : line' ≡ t.line
        = line_same asked.is (undone asked.state.rows placed.new placed.line_is asked.is.bounded.count placed.own_is) in
        record {
          beside = refl;
          answer_is = λ st is before. sym (told st is before);
          refused_same = λ other e. ap (λ l. record t { line = l }) same;
          accepted = λ a e. absurd (cc);
        }

    pub judged_late :
        {l : Late} → r ≡ Err l → {line' : Spans} → Undone line own line' →
        JudgedIs t s j (record t { line = line' }) own (Err (R.Missed l.task))
    unfolding placing
    judged_late {l} e undone =
        refuses
        undone
        (R.Missed l.task)
        (λ st is before.
        let placed = placed_at is before places in
        submit_7 s st j before (sym (ap (λ x. placing_of x placed.new) (sym e) ∙ placed.is)))

    module _ {a : Admission} (e : r ≡ Ok a) where
      module _ {st : State} (is : TimetableOf s st t) (before : Passed s st j) where
        abbrev placed : Placed s (st.calendar.clock + j.scheduling) st.rows j line own r
        placed = placed_at is before places

        rows_booked : placing s (view st) j ≡ booked placed.new
        unfolding placing
        rows_booked = sym placed.is ∙ ap (λ x. placing_of x placed.new) e

        rows_held : t.line.count + length own ≡ length st.rows + length placed.new
        rows_held = omega (arith, (line_held is).count_is, placed.own_is.long)

      pub judged_full :
          row_limit < t.line.count + length own → {line' : Spans} → Undone line own line' →
          JudgedIs t s j (record t { line = line' }) own (Err R.NoRoom)
      judged_full over undone =
          refuses
          undone
          R.NoRoom
          (λ st is before. submit_8 s st j before (placed is before).new (rows_booked is before) (omega (arith, rows_held is before)))

      module _ (fits : t.line.count + length own ≤ row_limit) where
        module _ {st : State} (is : TimetableOf s st t) (before : Passed s st j) where
          room : length st.rows + length (placed is before).new ≤ row_limit
          room = omega (arith, rows_held is before)

          answer : answered (Ok a) ≡ (step s st (submits j)).answer
          answer =
              let counts = (placed is before).admission_is a e in
              rw (counts.0, counts.1) (sym (submit_0 s st j before (placed is before).new (rows_booked is before) room))

          accepts : Accepted s st j line own a
          accepts =
              let one = placed is before in
              let left = submit_left s st j before one.new (rows_booked is before) room in
              record {
                new = one.new;
                left_is = left;
                count_is = (one.admission_is a e).0;
                few = one.few;
                fits = room;
                one_job = carry_new s st j one.new (ap (λ x. x.number) (sym answer)) left;
                new_job = λ r m same. clash (eq-eqb r.job j.number same) (any_none (of_job j.number) before.free m);
                in_range = one.in_range;
                line_is = one.line_is;
                own_is = one.own_is;
              }

        pub judged_admitted : JudgedIs t s j (record t { line = line }) own (Ok a)
        judged_admitted = record {
          beside = refl;
          answer_is = λ st is before. answer is before;
          refused_same = λ why bad. absurd (cc);
          accepted = λ other same st is before. let one : a ≡ other = cc in rw (← one) (accepts is before);
        }

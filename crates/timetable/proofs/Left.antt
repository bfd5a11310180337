-- Withdrawals and clock moves over a timetable: what the functions called are asked, and that what they ensure is the rules' step.
use mathlib.Core.Path.{◌≡◌, refl, sym, ap, ap₂, ◌∙◌}
use mathlib.Core.Bool.{Bool}
use mathlib.Core.List.{List}
use Prim.Native.Nat.{ℕ, ◌<◌, min}
use native.Mathlib.Omega.{arith}
use lib.ListN.{get_or}
use Rattle.std.specs.Prelude.{Some, Ok}
use Rattle.rules.specs.declared.Setup.{Setup}
use Rattle.rules.specs.Sequences.{keep}
use Rattle.rules.specs.Words.{State, with_clock, with_calendar, of_job, row_limit}
use Rattle.rules.specs.Placing.{no_row}
use Rattle.rules.specs.Withdrawing.{remove, withdraw, advance}
use Rattle.rules.specs.Refusals.{step, withdraws, advances, refusal}
use Rattle.rules.proofs.Bounds.{advanced_in_range}
use Rattle.timeline.specs.RowLine.{line_of, Says}
use Rattle.timeline.specs.Notes.{no_note}
use Rattle.timeline.specs.declared.leaving.Leaving.{Leaving}
use Rattle.timeline.proofs.RowLines.{line_long}
use Rattle.timetable.specs.declared.Timetable.{Timetable}
use Rattle.timetable.specs.Derived.{last_finish, soonest_end}
use Rattle.timetable.specs.Marks.{PlaceOf, RowsOfIs, RowsEndedIs, SoonestIs, SoonestLeft}
use Rattle.timetable.specs.Timetables.{TimetableOf, Goes, WithdrawalIs, AdvancementIs, AskTakeOut, TakenOutIs}
use Rattle.timetable.proofs.Steps.{withdraw_left, advance_left}
use Rattle.timetable.proofs.Lines.{least_line}
use Rattle.timetable.proofs.Ends.{stay, ended_last, none_ended, soonest_without}
use Rattle.timetable.proofs.Standing.{count_is, jobs_are, notes_are, note_at, few_held, goes}
use Rattle.timetable.proofs.Judging.{job_there, job_held}
use Rattle.timetable.proofs.Removed.{remove_none, whole_job, row_ended, whole_ended, taken_is}

-- Withdrawals.

module _ {s : Setup} {st : State} {t : Timetable} (is : TimetableOf s st t) {number job from : ℕ} (told : WithdrawalIs t number (Ok (job, from))) where
  place : PlaceOf t.jobs t.line.count number (Some from)
  place = told.place job from refl

  pub stands : from < row_limit
  stands = omega (arith, place.below from refl, few_held is)

  -- the note of the first row of the job has the last finish of the job
  last_noted : (get_or t.notes from no_note).last ≡ last_finish st.rows number
  last_noted = ap (λ note. note.last) (note_at is from (place.below from refl)) ∙ ap (last_finish st.rows) (job_there is number place)

  job_says : {leaves : List Bool} → RowsOfIs t.jobs t.line.count job leaves → Says (of_job number) (line_of st.rows) leaves
  job_says of = rw (told.job_is job from refl) at of (line_of st.rows) (count_is is) (jobs_are is)

  pub withdraw_asked : {leaving : Leaving} → RowsOfIs t.jobs t.line.count job leaving.marks → leaving.count ≡ t.line.count → AskTakeOut t leaving
  withdraw_asked of same = record {
    ask = record { setup = s; state = st; is = is };
    count_is = same;
    leaves = of_job number;
    says = job_says of;
  }

  pub withdraw_goes :
      {leaves : List Bool} → RowsOfIs t.jobs t.line.count job leaves → {t' : Timetable} → TakenOutIs t leaves t' →
      {soonest : ℕ} → SoonestLeft t'.notes t'.line.count t'.soonest (get_or t.notes from no_note).last soonest →
      Goes s st (withdraws number) (record t' { soonest = soonest }) (Ok (record { cost = 0; rows = 0 }))
  unfolding withdraw remove
  withdraw_goes of taken found =
      let accepts = told.accepts job from refl s st is in
      let others = keep (stay (of_job number)) st.rows in
      let left = taken_is is (whole_job number st.rows) (job_says of) taken in
      let least = least_line _ (λ row. last_finish others row.job) others in
      let soonest_is =
      found
      (line_of others)
      (last_finish others)
      (line_long others ∙ sym (ap (λ x. x.line.count) left))
      (ap (λ x. x.notes) left)
      (ap (λ x. x.soonest) left ∙ soonest_without st.rows number (job_held is number place) ∙ ap₂ min (sym last_noted) (sym least))
      ∙ least
      in
      goes is (withdraws number) accepts (withdraw_left s st number (sym accepts)) (λ i. record (left i) { soonest = soonest_is i })

-- Clock moves.

-- only the clock has moved
abbrev at_tick : State → (tick : ℕ) → State
at_tick st tick = with_calendar (with_clock tick st.calendar) st

module _
    {s : Setup} {st : State} {t : Timetable} (is : TimetableOf s st t) (tick : ℕ) (told : AdvancementIs t.clock tick (Ok tt)) where
  told_here : (step s st (advances tick)).answer ≡ refusal 0 0
  told_here = told s st (ap (λ x. x.clock) is.is)

  moved : TimetableOf s (at_tick st tick) (record t { clock = tick })
  moved = record {
    sound = is.sound;
    bounded = record {
      clock = advanced_in_range s st tick (ap (λ a. a.number) told_here);
      count = is.bounded.count;
      rows = is.bounded.rows;
      apart = is.bounded.apart;
      total = is.bounded.total;
    };
    is = λ i. record (is.is i) { clock = tick };
  }

  -- before the soonest end no job has ended
  pub quiet_goes : tick < t.soonest → Goes s st (advances tick) (record t { clock = tick }) (Ok (record { cost = 0; rows = 0 }))
  unfolding advance
  quiet_goes early =
      let sooner : tick < soonest_end st.rows = omega (arith, ap (λ x. x.soonest) is.is) in
      goes
      is
      (advances tick)
      (sym told_here)
      (advance_left s st tick told_here ∙ remove_none (row_ended st.rows tick) (at_tick st tick) (none_ended st.rows tick sooner))
      moved.is

  ended_says : {leaves : List Bool} → RowsEndedIs t.notes t.line.count tick leaves → Says (row_ended st.rows tick) (line_of st.rows) leaves
  ended_says ended =
      let says = ended (line_of st.rows) (last_finish st.rows) (count_is is) (notes_are is) in
      record { long = says.long; says = λ k h. says.says k h ∙ ended_last st.rows (get_or (line_of st.rows) k no_row).job tick }

  pub advance_asked :
      {leaving : Leaving} → RowsEndedIs t.notes t.line.count tick leaving.marks → leaving.count ≡ t.line.count → AskTakeOut (record t { clock = tick }) leaving
  advance_asked ended same = record {
    ask = record { setup = s; state = at_tick st tick; is = moved };
    count_is = same;
    leaves = row_ended st.rows tick;
    says = ended_says ended;
  }

  pub advance_goes :
      {leaves : List Bool} → RowsEndedIs t.notes t.line.count tick leaves → {t' : Timetable} → TakenOutIs (record t { clock = tick }) leaves t' →
      {soonest : ℕ} → SoonestIs t'.notes t'.line.count soonest →
      Goes s st (advances tick) (record t' { soonest = soonest }) (Ok (record { cost = 0; rows = 0 }))
  unfolding advance remove
  advance_goes ended taken found =
      let others = keep (stay (row_ended st.rows tick)) st.rows in
      let left = taken_is moved (whole_ended st.rows tick) (ended_says ended) taken in
      let soonest_is =
      found (line_of others) (last_finish others) (line_long others ∙ sym (ap (λ x. x.line.count) left)) (ap (λ x. x.notes) left)
      ∙ least_line _ (λ row. last_finish others row.job) others
      in
      goes is (advances tick) (sym told_here) (advance_left s st tick told_here) (λ i. record (left i) { soonest = soonest_is i })

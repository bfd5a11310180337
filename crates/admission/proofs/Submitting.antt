-- A submission over a timetable: one that is accepted leaves the timetable of the rows held and new, one that is refused leaves all as it was.
use mathlib.Core.Path.{◌≡◌, refl, sym, ap, ◌∙◌, subst}
use mathlib.Core.List.{List, ◌++◌, map}
use Prim.Native.Nat.{ℕ, ◌+◌, ◌^◌, ◌≤◌, ◌<◌, min}
use native.Mathlib.Omega.{arith}
use Rattle.std.proofs.Common.{Ok, Err}
use Rattle.rules.specs.declared.Row.{Row}
use Rattle.rules.specs.declared.Job.{Job}
use Rattle.rules.specs.declared.Setup.{Setup}
use Rattle.rules.specs.declared.answers.Admission.{Admission}
use Rattle.rules.specs.declared.answers.Refusal.{Refusal}
use Rattle.rules.specs.Answers.{answered}
use Rattle.rules.specs.Words.{State, horizon}
use Rattle.rules.specs.Placing.{costs}
use Rattle.rules.specs.Withdrawing.{admit}
use Rattle.rules.specs.Refusals.{submits, step}
use Rattle.rules.specs.Bounds.{Bounded}
use Rattle.rules.proofs.Bounds.{bounded_step}
use Rattle.timeline.specs.RowLine.{line_of, column, notes_of}
use Rattle.timeline.proofs.RowLines.{line_from}
use Rattle.placement.specs.declared.own.Entry.{Entry}
use Rattle.placement.proofs.Placed.{costs_at_most}
use Rattle.timetable.specs.declared.Timetable.{Timetable}
use Rattle.timetable.specs.Derived.{most_of, never, last_finish, soonest_end, timetable_of}
use Rattle.timetable.specs.Timetables.{TimetableOf}
use Rattle.timetable.proofs.Standing.{notes_are, goes, refused_goes}
use Rattle.admission.specs.Submitted.{AskTested, TestedIs, Accepted, JudgedIs, LastIs, JoinedIs, Found, SubmitIs}
use Rattle.admission.proofs.Admitting.{cost_of_new, some_new}
use Rattle.admission.proofs.NewRows.{most_bounded, notes_same, last_kept, last_held, last_new, soonest_joined}

-- A refusal.

module _ {t : Timetable} {s : Setup} {j : Job} where
  refused :
      {why : Refusal} → ((st : State) → TimetableOf s st t → answered (Err why) ≡ (step s st (submits j)).answer) → (own : List Entry) →
      SubmitIs t s j t own (Err why)
  refused told own = record {
    is = λ st is. refused_goes is (submits j) (sym (told st is));
    refused_same = λ why e. refl;
    found = λ a e. absurd (cc);
  }

  pub early_refused : {why : Refusal} → TestedIs t s j (Err why) → (own : List Entry) → SubmitIs t s j t own (Err why)
  early_refused {why} tests own = refused (λ st is. sym (tests.refuses why refl st is)) own

  pub late_refused :
      TestedIs t s j (Ok tt) → {t' : Timetable} {own : List Entry} {why : Refusal} → JudgedIs t s j t' own (Err why) → SubmitIs t s j t' own (Err why)
  late_refused tests {own = own} {why} judges =
      rw (judges.refused_same why refl) (refused (λ st is. judges.answer_is st is (tests.passes refl st is)) own)

-- An admission: the rows have joined the timeline alone so far.

module _
    {t : Timetable} {s : Setup} {st : State} {j : Job} (is : TimetableOf s st t) {t' : Timetable} {own : List Entry} {a : Admission}
    (beside : t' ≡ record t { line = t'.line }) (told : answered (Ok a) ≡ (step s st (submits j)).answer)
    (accepted : Accepted s st j t'.line own a) where
  abbrev held : List Row
  held = st.rows

  abbrev new : List Row
  new = accepted.new

  is_accepted : (step s st (submits j)).answer.number ≡ 0
  is_accepted = sym (ap (λ x. x.number) told)

  bounded_left : Bounded s (admit st new)
  bounded_left = subst (Bounded s) accepted.left_is (bounded_step s is.sound st (submits j) is.bounded)

  total_is : t'.total + a.cost ≡ st.total + costs new
  total_is =
      omega (
        arith,
        ap (λ x. x.total) beside,
        ap (λ x. x.total) is.is,
        ap (λ x. x.cost) told,
        cost_of_new s st j new is_accepted accepted.left_is,
      )

  total_fits : t'.total + a.cost < 2 ^ 64
  unfolding admit
  total_fits = omega (arith, total_is, bounded_left.total, bounded_left.count, costs_at_most s (held ++ new) bounded_left.rows)

  jobs_held : t'.jobs ≡ column (λ row. row.job) (line_of held)
  jobs_held = ap (λ x. x.jobs) beside ∙ ap (λ x. x.jobs) is.is

  notes_held : t'.notes ≡ notes_of (last_finish held) (line_of held)
  notes_held = ap (λ x. x.notes) beside ∙ notes_are is

  -- the rows that are found
  rows_found : Found s st j own a
  unfolding admit
  rows_found = record {
    new = new;
    rows_are = ap (λ x. x.rows) accepted.left_is;
    count_is = accepted.count_is;
    few = accepted.few;
    one_job = accepted.one_job;
    in_range = accepted.in_range;
    own_is = accepted.own_is;
  }

  module _ {last : ℕ} (last_is : LastIs own last) where
    last_found : last ≡ most_of (map (λ r. r.finish) new)
    last_found = last_is s held new accepted.own_is accepted.in_range

    last_within : last ≤ never
    last_within = omega (arith, last_found, most_bounded horizon new (λ r m. (accepted.in_range r m).ends))

    -- the soonest end is the sooner one
    soonest_is : min t'.soonest last ≡ soonest_end (held ++ new)
    soonest_is =
        ap (λ x. min x.soonest last) beside
        ∙ ap (λ x. min x.soonest last) is.is
        ∙ sym
        (soonest_joined
        held
        new
        j.number
        accepted.one_job
        accepted.new_job
        last_found
        last_within
        (some_new s st j new is_accepted accepted.left_is).1)

    -- what was noted of the held rows stays right
    held_noted : t'.notes ≡ notes_of (last_finish (held ++ new)) (line_of held)
    held_noted =
        notes_held
        ∙ notes_same
        (last_finish held)
        (last_finish (held ++ new))
        (line_of held)
        (λ r m. sym (last_held held new j.number accepted.one_job accepted.new_job r (line_from held m)))
        (sym (last_kept held new 0 (λ r m none. let first = (accepted.in_range r m).job.first in omega arith)))

    module _ {count : ℕ} (same : count ≡ t.line.count) {t'' : Timetable} (joined : JoinedIs t' own count j.number last t'') where
      abbrev left : Timetable
      left = record t'' { total = t''.total + a.cost; soonest = min t''.soonest last }

      is_left : left ≡ timetable_of (admit st new)
      unfolding admit
      is_left =
          let begins = ap (λ x. x.line.begins) joined.beside ∙ accepted.line_is.spans.begins_are in
          let ends = ap (λ x. x.line.ends) joined.beside ∙ accepted.line_is.spans.ends_are in
          let count = ap (λ x. x.line.count) joined.beside ∙ accepted.line_is.count_is in
          let held_is = same ∙ ap (λ x. x.line.count) is.is in
          let jobs = joined.jobs_are held new held_is accepted.own_is accepted.one_job jobs_held in
          let notes
          = joined.notes_are
          held
          new
          (last_finish (held ++ new))
          held_is
          accepted.own_is
          accepted.one_job
          (last_new held new j.number accepted.one_job accepted.new_job ∙ sym last_found)
          held_noted in
          let clock = ap (λ x. x.clock) joined.beside ∙ ap (λ x. x.clock) beside ∙ ap (λ x. x.clock) is.is in
          let total = ap (λ x. x.total + a.cost) joined.beside ∙ total_is in
          let soonest = ap (λ x. min x.soonest last) joined.beside ∙ soonest_is in
          λ i. record {
            line = record { begins = begins i; ends = ends i; count = count i };
            jobs = jobs i;
            notes = notes i;
            clock = clock i;
            total = total i;
            soonest = soonest i;
          }

-- Every state that the timetable stands for.

module _
    {t : Timetable} {s : Setup} {j : Job} (tests : TestedIs t s j (Ok tt)) {t' : Timetable} {own : List Entry} {a : Admission}
    (judges : JudgedIs t s j t' own (Ok a)) where
  module _ {st : State} (is : TimetableOf s st t) where
    told_at : answered (Ok a) ≡ (step s st (submits j)).answer
    told_at = judges.answer_is st is (tests.passes refl st is)

    accepted_at : Accepted s st j t'.line own a
    accepted_at = judges.accepted a refl st is (tests.passes refl st is)

  module _
      {count : ℕ} (same : count ≡ t.line.count) {last : ℕ} (last_is : LastIs own last) {t'' : Timetable}
      (joined : JoinedIs t' own count j.number last t'') where
    pub total_room : AskTested t s → t''.total + a.cost < 2 ^ 64
    total_room asked = omega (arith, ap (λ x. x.total) joined.beside, total_fits asked.is judges.beside (told_at asked.is) (accepted_at asked.is))

    pub accepted_submit :
        {soonest : ℕ} → soonest ≡ min t''.soonest last → SubmitIs t s j (record t'' { total = t''.total + a.cost; soonest = soonest }) own (Ok a)
    accepted_submit sooner = rw sooner (record {
      is =
          λ st is.
          goes is (submits j) (told_at is) (accepted_at is).left_is (is_left is judges.beside (told_at is) (accepted_at is) last_is same joined);
      refused_same = λ why bad. absurd (cc);
      found = λ other e st is. let one : a ≡ other = cc in rw (← one) (rows_found is judges.beside (told_at is) (accepted_at is));
    })

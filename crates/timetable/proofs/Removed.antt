-- Rows that leave a timetable: what functions are asked, that their cost is within the total, and that what is left of whole jobs is the state without them.
use mathlib.Core.Path.{◌≡◌, refl, sym, ap, ◌∙◌}
use mathlib.Core.Bool.{Bool, false, not}
use mathlib.Core.List.{List, Memᴰ}
use Prim.Native.Nat.{ℕ, ◌-◌, ◌≤◌}
use native.Mathlib.Omega.{arith}
use lib.Dec.{eqb}
use lib.ListN.{length}
use Rattle.rules.specs.declared.Row.{Row}
use Rattle.rules.specs.declared.Setup.{Setup}
use Rattle.rules.specs.Sequences.{keep}
use Rattle.rules.specs.Words.{State, of_job}
use Rattle.rules.specs.Placing.{costs}
use Rattle.rules.specs.Withdrawing.{remove, ended}
use Rattle.rules.proofs.Sequences.{keep_all, keep_none, sum_split}
use Rattle.timeline.specs.Spans.{Spans}
use Rattle.timeline.specs.declared.leaving.Leaving.{Leaving}
use Rattle.timeline.specs.declared.notes.Note.{Note}
use Rattle.timeline.specs.RowLine.{row_begin, row_end, line_of, column, notes_of, note_of, Says}
use Rattle.timeline.specs.Notes.{no_note, AskCosts, CostIs}
use Rattle.timeline.specs.TakenOut.{KeptIs}
use Rattle.timeline.proofs.ColumnLaws.{begin_blank, end_blank, note_blank}
use Rattle.timeline.proofs.RowLines.{line_long}
use Rattle.timeline.proofs.Keeping.{line_keep, line_costs}
use Rattle.timetable.specs.declared.Timetable.{Timetable}
use Rattle.timetable.specs.Derived.{last_finish, soonest_end, timetable_of}
use Rattle.timetable.specs.Marks.{WholeJobs}
use Rattle.timetable.specs.Timetables.{TimetableOf, AskTakeOut, TakenOutIs}
use Rattle.timetable.proofs.Ends.{stay, whole_by, notes_kept}
use Rattle.timetable.proofs.Standing.{count_is, few_held, notes_are, notes_long, no_last, row_there, note_at}

-- What the functions called are asked.
module _ {t : Timetable} {leaving : Leaving} (ask : AskTakeOut t leaving) where
  abbrev held : List Row
  held = ask.ask.state.rows

  pub costs_asked : AskCosts t.notes leaving.count
  costs_asked =
      let is = ask.ask.is in
      rw
      ask.count_is
      (record {
        room = omega (arith, notes_long is, few_held is);
        costs_fit = λ i h. omega (arith, ap (λ note. note.cost) (note_at is i h), (is.bounded.rows _ (row_there is i h)).cost);
      })

  -- the rows that leave cost no more than all
  pub cost_within : {cost : ℕ} → CostIs t.notes leaving.marks leaving.count cost → cost ≤ t.total
  cost_within cost_is =
      let is = ask.ask.is in
      let gone = cost_is (line_of held) ask.leaves (last_finish held) (count_is is ∙ sym ask.count_is) ask.says (notes_are is) in
      omega (
        arith,
        gone,
        sum_split (λ row. row.cost) ask.leaves (line_of held),
        line_costs held,
        is.bounded.total,
        ap (λ x. x.total) is.is,
      )

-- What they leave.
pub taken_out :
    (t : Timetable) {leaves : List Bool} {count cost : ℕ} → count ≡ t.line.count → CostIs t.notes leaves count cost → (line' : Spans) →
    KeptIs t.line.begins leaves t.line.count 0 line'.begins line'.count → KeptIs t.line.ends leaves t.line.count 0 line'.ends line'.count →
    {jobs' : List ℕ} {some : ℕ} → KeptIs t.jobs leaves count 0 jobs' some →
    {notes' : List Note} {others : ℕ} → KeptIs t.notes leaves count no_note notes' others →
    TakenOutIs t leaves (record { line = line'; jobs = jobs'; notes = notes'; clock = t.clock; total = t.total - cost; soonest = t.soonest })
taken_out t same cost_is line' begins_kept ends_kept jobs_kept notes_kept = record {
  is =
      λ line leaving last n says none begins_are ends_are jobs_are notes_are.
      let m = n ∙ sym same in
      let begins = begins_kept.is line leaving row_begin n says begin_blank begins_are in
      let ends = ends_kept.is line leaving row_end n says end_blank ends_are in
      let count = begins_kept.count_is line leaving n says in
      let jobs = jobs_kept.is line leaving (λ row. row.job) m says refl jobs_are in
      let notes = notes_kept.is line leaving (note_of last) m says (note_blank last none) notes_are in
      let gone = cost_is line leaving last m says notes_are in
      λ i. record {
        line = record { begins = begins i; ends = ends i; count = count i };
        jobs = jobs i;
        notes = notes i;
        clock = t.clock;
        total = t.total - gone i;
        soonest = t.soonest;
      };
}

-- no row leaves
pub remove_none : (leaving : Row → Bool) (st : State) → ((row : Row) → Memᴰ row st.rows → leaving row ≡ false) → remove leaving st ≡ st
unfolding remove
remove_none leaving st none =
    let rows_stay = keep_all (stay leaving) st.rows (λ row m. ap not (none row m)) in
    let total_stays : st.total - costs (keep leaving st.rows) ≡ st.total
    = let gone = ap costs (keep_none leaving st.rows none) in omega arith in
    λ i. record { calendar = st.calendar; rows = rows_stay i; total = total_stays i }

-- Jobs that leave whole: one job, and those that have ended, by their last finish or by all of their rows.

pub whole_job : (number : ℕ) (rows : List Row) → WholeJobs (of_job number) rows
whole_job number rows = whole_by (λ job. eqb job number) rows

abbrev pub row_ended : List Row → (tick : ℕ) → Row → Bool
row_ended rows tick row = ended tick (keep (of_job row.job) rows)

pub whole_ended : (rows : List Row) (tick : ℕ) → WholeJobs (row_ended rows tick) rows
whole_ended rows tick = whole_by (λ job. ended tick (keep (of_job job) rows)) rows

module _
    {s : Setup} {st : State} {t : Timetable} (is : TimetableOf s st t) {leaving : Row → Bool} (whole : WholeJobs leaving st.rows) {leaves : List Bool}
    (says : Says leaving (line_of st.rows) leaves) {t' : Timetable} (taken : TakenOutIs t leaves t') where
  -- all but the soonest end is that of the state without the rows
  pub taken_is : t' ≡ record (timetable_of (remove leaving st)) { soonest = soonest_end st.rows }
  unfolding remove
  taken_is =
      let left =
      taken.is
      (line_of st.rows)
      leaving
      (last_finish st.rows)
      (count_is is)
      says
      (no_last is)
      (ap (λ x. x.line.begins) is.is)
      (ap (λ x. x.line.ends) is.is)
      (ap (λ x. x.jobs) is.is)
      (notes_are is)
      in
      let kept = line_keep (stay leaving) st.rows in
      let rest = keep (stay leaving) st.rows in
      let count = ap length kept ∙ line_long rest in
      let notes = ap (notes_of (last_finish st.rows)) kept ∙ notes_kept whole (no_last is) in
      let gone = ap costs (line_keep leaving st.rows) ∙ line_costs (keep leaving st.rows) in
      let before = is.is in
      left
      ∙ (λ i. record {
        line = record { begins = column row_begin (kept i); ends = column row_end (kept i); count = count i };
        jobs = column (λ row. row.job) (kept i);
        notes = notes i;
        clock = (before i).clock;
        total = (before i).total - gone i;
        soonest = (before i).soonest;
      })

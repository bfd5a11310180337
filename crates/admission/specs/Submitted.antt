-- Between functions: the parts of a submission over a timetable.
use Rattle.std.specs.Prelude.{◌≡◌, false, ℕ, ◌+◌, ◌≤◌, length, Result, Ok, Err}
use mathlib.Core.List.{List, ◌++◌, map, Memᴰ}
use Rattle.std.proofs.Math.Option.{none}
use Rattle.rules.specs.declared.Row.{Row}
use Rattle.rules.specs.declared.Job.{Job}
use Rattle.rules.specs.declared.Setup.{Setup}
use Rattle.rules.specs.declared.answers.Admission.{Admission}
use Rattle.rules.specs.declared.answers.Refusal.{Refusal}
use Rattle.rules.specs.Answers.{answered, refused}
use Rattle.rules.specs.Words.{State, view, row_limit}
use Rattle.rules.specs.Withdrawing.{admit}
use Rattle.rules.specs.Refusals.{submits, step, first_infeasible}
use Rattle.rules.specs.Demands.{InRange}
use Rattle.rules.specs.Bounds.{RowInRange}
use Rattle.timeline.specs.Spans.{Spans}
use Rattle.timeline.specs.Lines.{LineOf}
use Rattle.timeline.specs.RowLine.{most_own, spans_room, line_of, notes_of}
use Rattle.placement.specs.declared.own.Entry.{Entry}
use Rattle.placement.specs.Own.{OwnRows}
use Rattle.timetable.specs.declared.Timetable.{Timetable}
use Rattle.timetable.specs.Derived.{most_of}
use Rattle.timetable.specs.Marks.{JobsOf}
use Rattle.timetable.specs.Timetables.{TimetableOf, Goes}

-- Refusals 1 to 6.

-- none of them applies
pub record Passed (s : Setup) (st : State) (j : Job) : Type 0 where
  pub in_range : InRange s j
  pub free : (view st).held j.number ≡ false
  pub feasible : first_infeasible s st.calendar.clock j ≡ none

pub record AskTested (t : Timetable) (s : Setup) : Type 0 where
  pub state : State
  pub is : TimetableOf s state t

pub record TestedIs (t : Timetable) (s : Setup) (j : Job) (r : Result Unit Refusal) : Type 0 where
  pub refuses : (why : Refusal) → r ≡ Err why → (st : State) → TimetableOf s st t → (step s st (submits j)).answer ≡ refused why
  pub passes : r ≡ Ok tt → (st : State) → TimetableOf s st t → Passed s st j

-- The spans of own rows taken off again.

pub record AskUndo (line : Spans) (own : List Entry) : Type 0 where
  pub rows : List Row
  pub new : List Row
  pub line_is : LineOf (rows ++ new) line
  pub few : length rows ≤ row_limit
  pub new_few : length new ≤ most_own
  pub own_is : OwnRows rows new own

abbrev pub Undone : (line : Spans) → List Entry → (line' : Spans) → Type 0
Undone line own line' = (rows new : List Row) → LineOf (rows ++ new) line → length rows ≤ row_limit → OwnRows rows new own → LineOf rows line'

-- Placing, then refusals 7 and 8.

-- a job that passed
pub record AskJudged (t : Timetable) (s : Setup) (j : Job) : Type 0 where
  pub state : State
  pub is : TimetableOf s state t
  pub passed : Passed s state j

-- an accepted job's rows have joined the timeline, and are in `own`
pub record Accepted (s : Setup) (st : State) (j : Job) (line : Spans) (own : List Entry) (a : Admission) : Type 0 where
  pub new : List Row
  pub left_is : (step s st (submits j)).left ≡ admit st new
  pub count_is : a.rows ≡ length new
  pub few : length new ≤ most_own
  pub fits : length st.rows + length new ≤ row_limit
  pub one_job : (r : Row) → Memᴰ r new → r.job ≡ j.number
  pub new_job : (r : Row) → Memᴰ r st.rows → r.job ≡ j.number → ⊥
  pub in_range : (r : Row) → Memᴰ r new → RowInRange s r
  pub line_is : LineOf (st.rows ++ new) line
  pub own_is : OwnRows st.rows new own

-- what the timetable keeps beside its line is as it was; in a refusal the line too
pub record JudgedIs (t : Timetable) (s : Setup) (j : Job) (t' : Timetable) (own : List Entry) (r : Result Admission Refusal) : Type 0 where
  pub beside : t' ≡ record t { line = t'.line }
  pub answer_is : (st : State) → TimetableOf s st t → Passed s st j → answered r ≡ (step s st (submits j)).answer
  pub refused_same : (why : Refusal) → r ≡ Err why → t' ≡ t
  pub accepted : (a : Admission) → r ≡ Ok a → (st : State) → TimetableOf s st t → Passed s st j → Accepted s st j t'.line own a

-- What joins the timetable.

abbrev pub LastIs : List Entry → ℕ → Type 0
LastIs own r =
    (s : Setup) (rows new : List Row) → OwnRows rows new own → ((row : Row) → Memᴰ row new → RowInRange s row) → r ≡ most_of (map (λ row. row.finish) new)

pub record AskJoin (t : Timetable) (own : List Entry) (held : ℕ) : Type 0 where
  pub notes_long : length t.notes ≡ spans_room
  pub rows : List Row
  pub new : List Row
  pub held_is : held ≡ length rows
  pub held_few : held ≤ row_limit
  pub few : length new ≤ most_own
  pub own_is : OwnRows rows new own

-- whatever rows are held and new, if the new ones carry the number
pub record JoinedIs (t : Timetable) (own : List Entry) (held job last : ℕ) (t' : Timetable) : Type 0 where
  pub beside : t' ≡ record t { jobs = t'.jobs; notes = t'.notes }
  pub jobs_are :
      (rows new : List Row) → held ≡ length rows → OwnRows rows new own → ((row : Row) → Memᴰ row new → row.job ≡ job) →
      JobsOf (line_of rows) t.jobs → JobsOf (line_of (rows ++ new)) t'.jobs
  pub notes_are :
      (rows new : List Row) (lasts : ℕ → ℕ) → held ≡ length rows → OwnRows rows new own → ((row : Row) → Memᴰ row new → row.job ≡ job) →
      lasts job ≡ last → t.notes ≡ notes_of lasts (line_of rows) → t'.notes ≡ notes_of lasts (line_of (rows ++ new))

-- The whole submission.

abbrev pub AskSubmit : Timetable → Setup → Type 0
AskSubmit t s = AskTested t s

-- if it is accepted, the new rows are in `own`
pub record Found (s : Setup) (st : State) (j : Job) (own : List Entry) (a : Admission) : Type 0 where
  pub new : List Row
  pub rows_are : (step s st (submits j)).left.rows ≡ st.rows ++ new
  pub count_is : a.rows ≡ length new
  pub few : length new ≤ most_own
  pub one_job : (r : Row) → Memᴰ r new → r.job ≡ j.number
  pub in_range : (r : Row) → Memᴰ r new → RowInRange s r
  pub own_is : OwnRows st.rows new own

pub record SubmitIs (t : Timetable) (s : Setup) (j : Job) (t' : Timetable) (own : List Entry) (r : Result Admission Refusal) : Type 0 where
  pub is : (st : State) → TimetableOf s st t → Goes s st (submits j) t' r
  pub refused_same : (why : Refusal) → r ≡ Err why → t' ≡ t
  pub found : (a : Admission) → r ≡ Ok a → (st : State) → TimetableOf s st t → Found s st j own a

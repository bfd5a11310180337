-- Between functions: what the parts of a call ask and answer.
use Rattle.std.specs.Prelude.{◌≡◌, Bool, not, ℕ, ◌+◌, ◌≤◌, length, Result}
use mathlib.Core.List.{List, ◌++◌, Memᴰ}
use Rattle.rules.specs.declared.Row.{Row}
use Rattle.rules.specs.declared.Setup.{Setup}
use Rattle.rules.specs.declared.answers.Admission.{Admission}
use Rattle.rules.specs.declared.answers.Refusal.{Refusal}
use Rattle.rules.specs.Sequences.{keep}
use Rattle.rules.specs.Words.{State, row_limit}
use Rattle.rules.specs.Bounds.{Sound, RowInRange}
use Rattle.rules.specs.Refusals.{Call, step}
use Rattle.timeline.specs.RowLine.{line_of, slots}
use Rattle.placement.specs.declared.own.Entry.{Entry}
use Rattle.placement.specs.Own.{OwnRows}
use Rattle.timetable.specs.declared.Timetable.{Timetable}
use Rattle.timetable.specs.Marks.{JobsOf, WholeJobs}
use Rattle.timetable.specs.Timetables.{Goes}
use Rattle.reservation.specs.declared.Register.{Register}
use Rattle.reservation.specs.declared.Reply.{Reply}
use Rattle.reservation.specs.Registers.{state_of}
use Rattle.reservation.specs.Calls.{Steps}

-- Submissions.

-- the slots hold rows, and there are new rows of a job
pub record Joining (s : Setup) (rows new : List Row) (held : List Row) (count : ℕ) (own : List Entry) (job : ℕ) : Type 0 where
  pub sound : Sound s
  pub held_is : held ≡ slots row_limit rows
  pub count_is : count ≡ length rows
  pub fits : length rows + length new ≤ row_limit
  pub in_range : (row : Row) → Memᴰ row new → RowInRange s row
  pub one_job : (row : Row) → Memᴰ row new → row.job ≡ job
  pub own_is : OwnRows rows new own

pub record AskMore (held : List Row) (count : ℕ) (own : List Entry) (job : ℕ) : Type 0 where
  pub setup : Setup
  pub rows : List Row
  pub new : List Row
  pub joining : Joining setup rows new held count own job

abbrev pub MoreIs : (held : List Row) (count : ℕ) (own : List Entry) (job : ℕ) → List Row → Type 0
MoreIs held count own job r =
    (s : Setup) (rows new : List Row) → Joining s rows new held count own job → r ≡ slots row_limit (rows ++ new)

-- Removing rows.

-- whole jobs leave, and the rows left are those that do not
pub record Leaves (st left : State) : Type 0 where
  pub leaving : Row → Bool
  pub whole : WholeJobs leaving st.rows
  pub rows_are : left.rows ≡ keep (λ row. not (leaving row)) st.rows

-- a call over the timetable, with which rows leave
pub record AskLeft (r : Register) (t : Timetable) (answer : Result Admission Refusal) : Type 0 where
  pub call : Call
  pub goes : Goes r.setup (state_of r) call t answer
  pub leaves : Leaves (state_of r) (step r.setup (state_of r) call).left

abbrev pub LeftIs : Register → Timetable → Result Admission Refusal → Reply → Type 0
LeftIs r t answer result =
    (c : Call) → Goes r.setup (state_of r) c t answer → Leaves (state_of r) (step r.setup (state_of r) c).left → Steps r c result

-- the slots hold rows, and the timetable is of those that stay
pub record Staying (rows : List Row) (leaving : Row → Bool) (held : List Row) (count : ℕ) (t : Timetable) : Type 0 where
  pub held_is : held ≡ slots row_limit rows
  pub count_is : count ≡ length rows
  pub few : length rows ≤ row_limit
  pub whole : WholeJobs leaving rows
  pub left_is : t.line.count ≡ length (keep (λ row. not (leaving row)) rows)
  pub jobs_are : JobsOf (line_of (keep (λ row. not (leaving row)) rows)) t.jobs

pub record AskStay (held : List Row) (count : ℕ) (t : Timetable) : Type 0 where
  pub rows : List Row
  pub leaving : Row → Bool
  pub staying : Staying rows leaving held count t

abbrev pub StayIs : (held : List Row) (count : ℕ) → Timetable → List Row → Type 0
StayIs held count t r =
    (rows : List Row) (leaving : Row → Bool) → Staying rows leaving held count t → r ≡ slots row_limit (keep (λ row. not (leaving row)) rows)

-- Between functions: the timetable that stands for a state of the rules, and what a call over it gives.
use Rattle.std.specs.Prelude.{◌≡◌, Bool, List, ℕ, ◌-◌, length, get_or, Some, Result, Ok, Err}
use Rattle.rules.specs.declared.Row.{Row}
use Rattle.rules.specs.declared.Setup.{Setup}
use Rattle.rules.specs.declared.answers.Admission.{Admission}
use Rattle.rules.specs.declared.answers.Refusal.{Refusal}
use Rattle.rules.specs.Answers.{answered, refused}
use Rattle.rules.specs.Words.{State, fresh}
use Rattle.rules.specs.Placing.{costs, no_row}
use Rattle.rules.specs.Sequences.{keep}
use Rattle.rules.specs.Bounds.{Sound, Bounded}
use Rattle.rules.specs.Refusals.{Call, withdraws, advances, refusal, step}
use Rattle.timeline.specs.RowLine.{row_begin, row_end, line_of, column, notes_of, Says}
use Rattle.timeline.specs.TakenOut.{left_of}
use Rattle.timeline.specs.declared.leaving.Leaving.{Leaving}
use Rattle.timetable.specs.declared.Timetable.{Timetable}
use Rattle.timetable.specs.Derived.{timetable_of}
use Rattle.timetable.specs.Marks.{JobsOf, PlaceOf}

abbrev pub timetable_fresh : Timetable
timetable_fresh = timetable_of fresh

pub record TimetableOf (s : Setup) (st : State) (t : Timetable) : Type 0 where
  pub sound : Sound s
  pub bounded : Bounded s st
  pub is : t ≡ timetable_of st

pub record AskTimetable (t : Timetable) : Type 0 where
  pub setup : Setup
  pub state : State
  pub is : TimetableOf setup state t

-- a call leaves the timetable of the state that the rules leave, and answers as they do
pub record Goes (s : Setup) (st : State) (c : Call) (t : Timetable) (r : Result Admission Refusal) : Type 0 where
  pub answer_is : answered r ≡ (step s st c).answer
  pub left : TimetableOf s (step s st c).left t

abbrev pub CallIs : Call → (old new : Timetable) → Result Admission Refusal → Type 0
CallIs c old new r = (s : Setup) (st : State) → TimetableOf s st old → Goes s st c new r

-- the row that stands at an index of the line
abbrev pub RowAtIs : Timetable → (at : ℕ) → Row → Type 0
RowAtIs t at r = (s : Setup) (st : State) → TimetableOf s st t → r ≡ get_or (line_of st.rows) at no_row

-- a withdrawal that the rules refuse so; where it is accepted, the number is one of a job, and its first row stands at the index
pub record WithdrawalIs (t : Timetable) (number : ℕ) (r : Result (ℕ × ℕ) Refusal) : Type 0 where
  pub refuses : (why : Refusal) → r ≡ Err why → (s : Setup) (st : State) → TimetableOf s st t → (step s st (withdraws number)).answer ≡ refused why
  pub accepts :
      (job from : ℕ) → r ≡ Ok (job, from) → (s : Setup) (st : State) → TimetableOf s st t →
      answered (Ok (record { cost = 0; rows = 0 })) ≡ (step s st (withdraws number)).answer
  pub job_is : (job from : ℕ) → r ≡ Ok (job, from) → job ≡ number
  pub place : (job from : ℕ) → r ≡ Ok (job, from) → PlaceOf t.jobs t.line.count number (Some from)

-- what a clock move answers
abbrev pub AdvancementIs : (clock tick : ℕ) → Result Unit Refusal → Type 0
AdvancementIs clock tick r =
    (s : Setup) (st : State) → clock ≡ st.calendar.clock → (step s st (advances tick)).answer ≡ elim r [ Ok x ↦ refusal 0 0 | Err why ↦ refused why ]

-- Rows that leave.

pub record AskTakeOut (t : Timetable) (leaving : Leaving) : Type 0 where
  pub ask : AskTimetable t
  pub count_is : leaving.count ≡ t.line.count
  -- a test of the rows says which leave: so the total is at least their cost
  pub leaves : Row → Bool
  pub says : Says leaves (line_of ask.state.rows) leaving.marks

-- Whatever rows they are the columns of, and whichever leave: what is left is the columns of the others, and their cost is off the total. The clock and the
-- soonest end are as before.
pub record TakenOutIs (t : Timetable) (leaves : List Bool) (t' : Timetable) : Type 0 where
  pub is :
      (line : List Row) (leaving : Row → Bool) (last : ℕ → ℕ) → length line ≡ t.line.count → Says leaving line leaves → last 0 ≡ 0 →
      t.line.begins ≡ column row_begin line → t.line.ends ≡ column row_end line → JobsOf line t.jobs → t.notes ≡ notes_of last line →
      t' ≡ record {
        line = record {
          begins = column row_begin (left_of leaving line);
          ends = column row_end (left_of leaving line);
          count = length (left_of leaving line);
        };
        jobs = column (λ row. row.job) (left_of leaving line);
        notes = notes_of last (left_of leaving line);
        clock = t.clock;
        total = t.total - costs (keep leaving line);
        soonest = t.soonest;
      }

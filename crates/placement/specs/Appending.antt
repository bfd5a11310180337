-- Between functions: how the rows of the trial that is kept follow those that the job has, and join the timeline.
use Rattle.std.specs.Prelude.{◌≡◌, ℕ, ◌+◌, ◌≤◌, ◌<◌, length, Option}
use mathlib.Core.List.{List, [], ◌∷◌, ◌++◌, Memᴰ}
use Rattle.rules.specs.declared.Row.{Row}
use Rattle.rules.specs.declared.Job.{Job}
use Rattle.rules.specs.declared.Setup.{Setup}
use Rattle.rules.specs.Words.{hold_of, holds, row_limit}
use Rattle.rules.specs.Placing.{on_rows, trial_rows, try}
use Rattle.rules.specs.Bounds.{Between, RowInRange}
use Rattle.rules.specs.Demands.{NoSharedTick}
use Rattle.timeline.specs.Timeline.{Drawable}
use Rattle.timeline.specs.Lines.{LineOf}
use Rattle.timeline.specs.RowLine.{most_own}
use Rattle.timeline.specs.Grown.{Untaken}
use Rattle.timeline.specs.Bookings.{booking_of}
use Rattle.timeline.specs.Spans.{Spans}
use Rattle.timeline.specs.declared.bookings.Booking.{Booking}
use Rattle.drcd.specs.declared.TaskTurn.{TaskTurn}
use Rattle.drcd.specs.declared.choice.Kept.{Kept}
use Rattle.drcd.specs.declared.inputs.Input.{Input}
use Rattle.drcd.specs.Trials.{Scene, IsTrial, AttemptBounds}
use Rattle.placement.specs.declared.own.Entry.{Entry}
use Rattle.placement.specs.Own.{OwnRows}

-- One row more.

-- the timeline is that of the rows held and those of the job so far
pub record Pushable (rows new : List Row) (line : Spans) (own : List Entry) : Type 0 where
  pub held_few : length rows ≤ row_limit
  pub room : length new < most_own
  pub drawable : (row : Row) → Memᴰ row (rows ++ new) → Drawable (hold_of row)
  pub apart : NoSharedTick (rows ++ new)
  pub line_is : LineOf (rows ++ new) line
  pub own_is : OwnRows rows new own

pub record AskPush (line : Spans) (own : List Entry) : Type 0 where
  pub rows : List Row
  pub new : List Row
  pub pushable : Pushable rows new line own

-- whatever rows they are, and whichever row has the figures, if nothing is held where it goes
pub record Pushed (line : Spans) (own : List Entry) (booking : Booking) (line' : Spans) (own' : List Entry) : Type 0 where
  pub line_is :
      (rows new : List Row) (row : Row) → Pushable rows new line own → Drawable (hold_of row) → Untaken (holds (rows ++ new)) (hold_of row) →
      booking ≡ booking_of row → LineOf (rows ++ (new ++ (row ∷ []))) line'
  pub own_is :
      (rows new : List Row) (row : Row) → Pushable rows new line own → Drawable (hold_of row) → Untaken (holds (rows ++ new)) (hold_of row) →
      booking ≡ booking_of row → OwnRows rows (new ++ (row ∷ [])) own'

-- All rows of a trial.

-- the trial is the rules' one of a task of the job, and its rows are in range, share no tick with those before them, and fit
pub record Keeping (s : Setup) (j : Job) (base : ℕ) (rows new : List Row) (kept : Kept) (starts : List (Option ℕ)) (inputs : List Input)
    (turn : TaskTurn) (line : Spans) (own : List Entry) : Type 0 where
  pub scene : Scene s j (on_rows base rows) new inputs line turn
  pub held_few : length rows ≤ row_limit
  pub there : Between 1 s.table.machines kept.machine
  pub trial : IsTrial s j (on_rows base rows) new (turn.t + 1) kept.machine kept.best starts
  pub line_is : LineOf (rows ++ new) line
  pub own_is : OwnRows rows new own
  pub in_range : (row : Row) → Memᴰ row (trial_rows (try s (on_rows base rows) j new (turn.t + 1) kept.machine)) → RowInRange s row
  pub apart : NoSharedTick (rows ++ (new ++ trial_rows (try s (on_rows base rows) j new (turn.t + 1) kept.machine)))
  pub fits : length new + length (trial_rows (try s (on_rows base rows) j new (turn.t + 1) kept.machine)) ≤ most_own

pub record AskAppend (s : Setup) (kept : Kept) (starts : List (Option ℕ)) (inputs : List Input) (turn : TaskTurn) (line : Spans) (own : List Entry) :
    Type 0 where
  pub job : Job
  pub base : ℕ
  pub rows : List Row
  pub new : List Row
  pub keeping : Keeping s job base rows new kept starts inputs turn line own
  pub bounds : AttemptBounds kept.best

pub record AppendedIs (s : Setup) (kept : Kept) (starts : List (Option ℕ)) (inputs : List Input) (turn : TaskTurn) (line : Spans) (own : List Entry)
    (line' : Spans) (own' : List Entry) : Type 0 where
  pub line_is :
      (j : Job) (base : ℕ) (rows new : List Row) → Keeping s j base rows new kept starts inputs turn line own →
      LineOf (rows ++ (new ++ trial_rows (try s (on_rows base rows) j new (turn.t + 1) kept.machine))) line'
  pub own_is :
      (j : Job) (base : ℕ) (rows new : List Row) → Keeping s j base rows new kept starts inputs turn line own →
      OwnRows rows (new ++ trial_rows (try s (on_rows base rows) j new (turn.t + 1) kept.machine)) own'

-- Between functions: what placing a whole job asks and gives, offered to the crate `admission`.
use Rattle.std.specs.Prelude.{◌≡◌, ℕ, ◌+◌, ◌≤◌, length, Result, Ok, Err}
use mathlib.Core.List.{List, ◌++◌, Memᴰ}
use Rattle.rules.specs.declared.Row.{Row}
use Rattle.rules.specs.declared.Job.{Job}
use Rattle.rules.specs.declared.Setup.{Setup}
use Rattle.rules.specs.declared.answers.Admission.{Admission}
use Rattle.rules.specs.Words.{horizon, largest_time, row_limit}
use Rattle.rules.specs.Placing.{costs, Placing, booked, late, place, on_rows}
use Rattle.rules.specs.Bounds.{Sound, RowInRange}
use Rattle.rules.specs.Demands.{InRange, NoSharedTick}
use Rattle.timeline.specs.Lines.{LineOf}
use Rattle.timeline.specs.RowLine.{most_own}
use Rattle.timeline.specs.Spans.{Spans}
use Rattle.placement.specs.declared.own.Entry.{Entry}
use Rattle.placement.specs.declared.place.Late.{Late}
use Rattle.placement.specs.Own.{OwnRows}

-- a job in range, and the timeline of the rows held
pub record Placeable (s : Setup) (j : Job) (rows : List Row) (base : ℕ) (line : Spans) : Type 0 where
  pub sound : Sound s
  pub range : InRange s j
  pub base_at_most : base ≤ horizon + largest_time
  pub held_few : length rows ≤ row_limit
  pub rows_in_range : (r : Row) → Memᴰ r rows → RowInRange s r
  pub apart : NoSharedTick rows
  pub line_is : LineOf rows line

pub record AskPlace (s : Setup) (j : Job) (base : ℕ) (line : Spans) : Type 0 where
  pub rows : List Row
  pub placeable : Placeable s j rows base line

-- the placing that the code's answer says with the job's rows
abbrev pub placing_of : Result Admission Late → List Row → Placing
placing_of (Ok admission) rows = booked rows
placing_of (Err l) rows = late l.task

-- the job's rows, all of them if no task is late: the placing is the rules', their spans have joined the timeline, and they are in `own`
pub record Placed (s : Setup) (base : ℕ) (rows : List Row) (j : Job) (line : Spans) (own : List Entry) (r : Result Admission Late) : Type 0 where
  pub new : List Row
  pub is : placing_of r new ≡ place s (on_rows base rows) j
  pub admission_is : (a : Admission) → r ≡ Ok a → (a.rows ≡ length new) × (a.cost ≡ costs new)
  pub before_is : (l : Late) → r ≡ Err l → (l.before.rows ≡ length new) × (l.before.cost ≡ costs new)
  pub few : length new ≤ most_own
  pub in_range : (row : Row) → Memᴰ row new → RowInRange s row
  pub line_is : LineOf (rows ++ new) line
  pub own_is : OwnRows rows new own

abbrev pub PlacedIs : Setup → Job → (base : ℕ) → (line line' : Spans) → List Entry → Result Admission Late → Type 0
PlacedIs s j base line line' own' r = (rows : List Row) → Placeable s j rows base line → Placed s base rows j line' own' r

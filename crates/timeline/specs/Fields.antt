-- A reader must believe this: what is true of every timeline, by its fields.
use Rattle.std.specs.Prelude.{◌≡◌, ℕ, ◌≤◌, length}
use Rattle.timeline.specs.Spans.{Spans}

-- The columns have the room, and the spans fit in it.
pub record Within (room : ℕ) (t : Spans) : Type 0 where
  pub begins_long : length t.begins ≡ room
  pub ends_long : length t.ends ≡ room
  pub fits : t.count ≤ room

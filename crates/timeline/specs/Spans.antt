-- A reader must believe this: a timeline as a value.
use Rattle.std.specs.Prelude.{List, ℕ}

-- where each span begins and ends, in columns with room for more, and how many there are
pub record Spans : Type 0 where
  pub begins : List ℕ
  pub ends : List ℕ
  pub count : ℕ

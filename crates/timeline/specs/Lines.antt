-- Between functions: a timeline as a value.
use Rattle.std.specs.Prelude.{◌≡◌, List, ℕ, length, replicate, get_or}
use Rattle.rules.specs.declared.Row.{Row}
use Rattle.rules.specs.Words.{Hold}
use Rattle.timeline.specs.Timeline.{Drawn}
use Rattle.timeline.specs.RowLine.{SpansOf}
use Rattle.timeline.specs.Spans.{Spans}

-- no spans, with room for so many
abbrev pub none_on : (room : ℕ) → Spans
none_on room = record { begins = replicate room 0; ends = replicate room 0; count = 0 }

-- the begin and the end of the span at an index
abbrev pub span_at : Spans → ℕ → ℕ × ℕ
span_at t i = (get_or t.begins i 0, get_or t.ends i 0)

-- its spans are those of the holds
abbrev pub DrawnOn : List Hold → Spans → Type 0
DrawnOn held t = Drawn held t.begins t.ends t.count

-- it is the line of the rows
pub record LineOf (rows : List Row) (t : Spans) : Type 0 where
  pub spans : SpansOf rows t.begins t.ends
  pub count_is : t.count ≡ length rows

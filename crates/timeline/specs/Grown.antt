-- Between functions: one span more on the line.
use Rattle.std.specs.Prelude.{◌≡◌, List, [], ◌∷◌, ◌++◌, ℕ, ◌+◌, ◌≤◌, ◌<◌}
use Rattle.rules.specs.Words.{Hold}
use Rattle.rules.specs.Laws.{TakenOn}
use Rattle.timeline.specs.Spans.{Spans}
use Rattle.timeline.specs.Timeline.{begin_of, end_of, Drawable, EndsAscend, FirstAfter}
use Rattle.timeline.specs.Lines.{DrawnOn}
use Rattle.timeline.specs.RowLine.{InsertedAt, RemovedAt}

-- no tick of the hold's span is taken on its resource
abbrev pub Untaken : List Hold → Hold → Type 0
Untaken held h = (x : ℕ) → h.span.start ≤ x → x < h.span.finish → TakenOn h.on held x → ⊥

pub record AskSpan (room : ℕ) (t : Spans) : Type 0 where
  pub ascend : EndsAscend t.ends t.count
  pub fits : t.count < room

pub record SpanPut (t : Spans) (begin end : ℕ) (t' : Spans) (at : ℕ) : Type 0 where
  pub count_is : t'.count ≡ t.count + 1
  pub first_after : FirstAfter t.ends t.count begin at
  pub begins_are : InsertedAt t.begins t.count at begin t'.begins
  pub ends_are : InsertedAt t.ends t.count at end t'.ends
  -- whatever is drawn so and whichever hold the span is of, if nothing is held there
  pub is :
      (held : List Hold) (h : Hold) → DrawnOn held t → begin ≡ begin_of h → end ≡ end_of h → Drawable h → Untaken held h → DrawnOn (held ++ (h ∷ [])) t'

-- One span less.

pub record SpanOff (t : Spans) (at : ℕ) (t' : Spans) : Type 0 where
  pub count_is : t'.count + 1 ≡ t.count
  pub begins_are : RemovedAt t.begins t.count at 0 t'.begins
  pub ends_are : RemovedAt t.ends t.count at 0 t'.ends

-- `timeline::line::Timeline::insert` meets its contract.
use mathlib.Core.Path.{refl}
use Rattle.timeline.proofs.Grown.{span_put}
use Rattle.timeline.proofs.line.Timeline.insert.Goals as goal

pub returns : goal.returns
returns g c =
    rw (← c.self.view_is)
    (span_put
    c.self.invariant
    (rw (← c.self.view_is) at c.requires)
    (rw (← c.self.view_is) at c.first_after-at.ensures)
    c.insert_at.ensures
    c.insert_at-2.ensures
    refl)

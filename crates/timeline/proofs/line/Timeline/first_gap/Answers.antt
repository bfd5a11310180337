-- `timeline::line::Timeline::first_gap` meets its contract: up to the span of a turn all are passed.
use mathlib.Core.Path.{◌≡◌, ◌∙◌}
use Prim.Native.Nat.{◌+◌, ◌-◌, ◌<◌}
use native.Mathlib.Omega.{arith}
use mathlib.Core.List.{[], ◌∷◌, ◌++◌}
use lib.ListN.{length, get_or, drop, length-append, length-take}
use Rattle.std.proofs.lemmas.List.Edits.{get_or-between}
use Rattle.std.specs.List.{between}
use Rattle.std.proofs.Common.{rules}
use Rattle.std.proofs.lemmas.Slice.Zip.{zip_turn}
use Rattle.timeline.proofs.Walks.{walked_more, walked_stop}
use Rattle.timeline.proofs.line.Timeline.first_gap.Given.{Over}
use Rattle.timeline.proofs.line.Timeline.first_gap.Goals as goal
use Rattle.timeline.proofs.line.Timeline.first_gap.Goals.{In-Some}

-- the span of a turn
turn :
    (g : Over) (c : In-Some g) →
    let t = c.args.self.now in
    let at = c.args.first + length c.loop-begin.yielded in
    (at < t.count) × (c.in-Some.begin.now ≡ get_or t.begins at 0) × (c.in-Some.end.now ≡ get_or t.ends at 0)
turn g c =
    let t = c.args.self.now in
    let first = c.args.first in
    let i = length c.loop-begin.yielded in
    let pair =
    zip_turn (between first t.count t.begins) (between first t.count t.ends) c.loop-begin.yielded c.into_iter-begin-iterator.result _ c.next.new.self _
    (search rules) (search rules) c.loop-begin.yielded_by (c.in-Some.begin, c.in-Some.end) c.in-Some.is (search rules)
    in
    let below : first + i < t.count = omega (arith, pair.0, length-take (t.count - first) (drop first t.begins)) in
    (below, pair.2 0 ∙ get_or-between t.begins first t.count i 0 below, pair.3 0 ∙ get_or-between t.ends first t.count i 0 below)

pub returns-then-place-len : goal.returns-then-place-len
returns-then-place-len g c =
    let span = turn g (goal.at.returns-then-place-len g c).In-Some in
    walked_stop _ _ _ _ _ _ c.requires _ _ c.loop-begin.invariant (λ _. omega (arith, span.1, c.if-place-len.true))

pub loop-begin-preserved : goal.loop-begin-preserved
loop-begin-preserved g c =
    let first = c.args.first in
    let i = length c.loop-begin.yielded in
    let span = turn g (goal.at.loop-begin-preserved g c).In-Some in
    let more : first + length (c.loop-begin.yielded ++ ((c.in-Some.begin, c.in-Some.end) ∷ [])) ≡ first + i + 1 = simp length-append (omega arith) in
    rw
    (more, span.2)
    (walked_more _ _ _ _ _ _ c.requires (first + i) _ c.loop-begin.invariant span.0 (omega (arith, span.1, c.if-place-len.false)))

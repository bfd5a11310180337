-- The place found is the least free tick of the resource.
use mathlib.Core.Path.{◌≡◌, ap, ◌∙◌, sym}
use mathlib.Core.List.{List, Memᴰ}
use Prim.Native.Nat.{ℕ, ◌+◌, ◌-◌, ◌*◌, ◌≤◌, ◌<◌}
use native.Mathlib.Omega.{arith}
use lib.ListN.{get_or}
use Rattle.rules.specs.Words.{Resource, Hold}
use Rattle.rules.specs.Codes.{resource_number}
use Rattle.rules.specs.Placing.{spans_on, least_free}
use Rattle.rules.specs.Laws.{FreeOn, TakenOn}
use Rattle.rules.proofs.Sequences.{by_less}
use Rattle.rules.proofs.LeastTick.{least_is_least, least_unique}
use Rattle.rules.proofs.Resources.{spans_taken}
use Rattle.timeline.specs.Timeline.{Known, Drawn, FirstAfter, Met, GapIs, tick_room, tick_limit, longest_sought}
use Rattle.timeline.proofs.Drawing.{known_same, begins_ascend}

-- a hold of the resource that so many ticks from a tick on would meet
record MetOn (held : List Hold) (on : Resource) (len tick : ℕ) : Type 0 where
  pub hold : Hold
  pub listed : Memᴰ hold held
  pub is_on : hold.on ≡ on
  pub lasts : hold.span.start < hold.span.finish
  pub begins_soon : hold.span.start < tick + len
  pub ends_later : tick < hold.span.finish

-- so they are not free
met_taken : {held : List Hold} {on : Resource} {len tick : ℕ} → 1 ≤ len → MetOn held on len tick → FreeOn on held len tick → ⊥
met_taken {tick = tick} some met free =
    let start = met.hold.span.start in
    let taken : (x : ℕ) → start ≤ x → x < met.hold.span.finish → TakenOn _ _ x =
    λ x a b. record { hold = met.hold; listed = met.listed; on = met.is_on; within = (a, b) }
    in
    by_less
    tick
    start
    (λ h. free start (omega arith) met.begins_soon (taken start (omega arith) met.lasts))
    (λ h. free tick (omega arith) (omega arith) (taken tick h met.ends_later))

module _
    (held : List Hold) (on : Resource) (begins ends : List ℕ) (count code from len first r : ℕ)
    (drawn : Drawn held begins ends count) (known : Known on) (number : resource_number on ≡ code) (some : 1 ≤ len)
    (early : from ≤ tick_limit) (short : len ≤ longest_sought)
    (after : FirstAfter ends count (code * tick_room + from) first)
    (gap : GapIs begins ends count first (code * tick_room + from) len r)
  where
    -- a span that is met from one of the resource's ticks on is the resource's own, and so that tick is not the last
    own_met : (x : ℕ) → from ≤ x → x ≤ tick_limit → Met begins ends len gap.stop (code * tick_room + x) → (x < tick_limit) × MetOn held on len x
    own_met x low high met =
        let there = drawn.held_there met.which (omega arith) in
        let hold = drawn.drawable there.0 there.1 in
        let same : resource_number there.0.on ≡ code = omega arith in (
          omega arith,
          record {
            hold = there.0;
            listed = there.1;
            is_on = known_same hold.known known (same ∙ sym number);
            lasts = hold.lasts;
            begins_soon = omega arith;
            ends_later = omega arith;
          },
        )

    -- so the place found lies no later than the resource's ticks
    reached : r ≤ code * tick_room + tick_limit
    reached =
        by_less
        (code * tick_room + tick_limit)
        r
        (λ h. absurd (omega (arith, (own_met tick_limit early (omega arith) (gap.passed.none_earlier (code * tick_room + tick_limit) (omega arith) h)).0)))
        (λ h. h)

    -- no hold of the resource has one of the ticks found
    found_free : FreeOn on held len (r - code * tick_room)
    found_free x low high taken =
        let hold = taken.hold in
        let there = drawn.there hold taken.listed in
        let i = there.0 in
        let same : resource_number hold.on ≡ code = ap (λ o. resource_number o) taken.on ∙ number in
        let starts : get_or begins i 0 ≡ code * tick_room + hold.span.start = omega arith in
        let finishes : get_or ends i 0 ≡ code * tick_room + hold.span.finish = omega arith in
        by_less
        i
        first
        (λ h. omega (arith, after.before i h))
        (λ h.
        by_less
        i
        gap.stop
        (λ k. omega (arith, gap.passed.ended i h k))
        (λ k. omega (arith, begins_ascend drawn gap.stop i k there.1, gap.room (omega arith))))

    found_first : (x : ℕ) → from ≤ x → x < r - code * tick_room → FreeOn on held len x → ⊥
    found_first x low below free =
        let high = reached in
        met_taken
        some
        (own_met x low (omega arith) (gap.passed.none_earlier (code * tick_room + x) (omega arith) (omega arith))).1
        free

    pub found_least : r - code * tick_room ≡ least_free from len (spans_on on held)
    found_least =
        least_unique
        from
        len
        (spans_on on held)
        record {
          not_before = omega arith;
          is_free = λ x low high taken. found_free x low high ((spans_taken on held x).0 taken);
          none_earlier = λ x low below free. found_first x low below (λ y a b taken. free y a b ((spans_taken on held y).1 taken));
        }
        (least_is_least from len (spans_on on held))

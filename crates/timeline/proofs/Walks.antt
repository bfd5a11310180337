-- The two steps of a search: what halving finds, and what holds before, at and after each turn of the walk.
use mathlib.Core.Path.{◌≡◌}
use mathlib.Core.Bool.{true, false}
use Prim.Native.Nat.{ℕ, ◌+◌, ◌*◌, ◌≤◌, ◌<◌}
use native.Mathlib.Omega.{arith}
use mathlib.Core.List.{List}
use lib.ListN.{length, get_or, take}
use lib.Seq.{length-take-le, get_or-take}
use lib.Dec.{leb}
use borrow.Author.Tests.{leb-true, leb-false}
use Rattle.std.specs.List.Sorted.{IsPartitionedBy, IsPartitionPoint}
use Rattle.std.proofs.lemmas.List.Sorted.{IsNonDecreasingBy-from_default, IsPartitionedBy-leb}
use Rattle.rules.specs.Codes.{resource_bound}
use Rattle.rules.proofs.Sequences.{by_less}
use Rattle.timeline.specs.Spans.{Spans}
use Rattle.timeline.specs.Fields.{Within}
use Rattle.timeline.specs.Timeline.{tick_room, EndsAscend, FirstAfter, AskGap, Met, SpansPassed, GapIs, AskLeast}

-- Halving: the first so many ends ascend, and so those that pass the test stand before the others.

module _ {room : ℕ} {t : Spans} (within : Within room t) (ascend : EndsAscend t.ends t.count) (place : ℕ) where
  abbrev first_ends : List ℕ
  first_ends = take t.count t.ends

  long : length first_ends ≡ t.count
  long = length-take-le t.count t.ends (omega (arith, within.ends_long, within.fits))

  pub ends_parted : IsPartitionedBy (λ end. leb end place) first_ends
  ends_parted =
      IsPartitionedBy-leb
      (λ end. end)
      first_ends
      place
      (IsNonDecreasingBy-from_default
      (λ end. end)
      first_ends
      0
      (λ i k h below.
      let few : k < t.count = omega (arith, long) in
      omega (arith, get_or-take t.count t.ends i 0 (omega arith), get_or-take t.count t.ends k 0 few, ascend i k h few)))

  pub first_is :
      {r : ℕ} → r ≤ length first_ends → IsPartitionPoint (λ end. leb end place ≡ true) (λ end. leb end place ≡ false) first_ends r →
      FirstAfter t.ends t.count place r
  first_is most point = record {
    at_most = omega (arith, long);
    before =
        λ i h.
        omega (arith, long, get_or-take t.count t.ends i 0 (omega (arith, long)), leb-true _ place (point.0 i 0 (omega arith) h));
    after =
        λ i low high.
        omega (arith, get_or-take t.count t.ends i 0 high, leb-false _ place (point.1 i 0 low (omega (arith, long))));
  }

-- Walking: the spans below `i` are passed, and the place so far leaves room for what is sought in a word.

pub record Walked (begins ends : List ℕ) (count first at len i place : ℕ) : Type 0 where
  pub on : first ≤ i
  pub within : i ≤ count
  pub passed : SpansPassed begins ends first at len i place
  pub fits : place + len < 2 * (resource_bound * tick_room)

module _ (begins ends : List ℕ) (count first at len : ℕ) (asked : AskGap ends count first at len) where
  pub walked_none : Walked begins ends count first at len first at
  walked_none = record {
    on = omega arith;
    within = asked.within;
    passed =
        record { not_before = omega arith; ended = λ i a b. absurd (omega arith); none_earlier = λ x a b. absurd (omega arith) };
    fits = asked.at_fits;
  }

  module _ (i place : ℕ) (walked : Walked begins ends count first at len i place) where
    -- a place before the end of the span that is passed meets a span passed before, or this one
    passed_more : get_or begins i 0 < place + len → (x : ℕ) → at ≤ x → x < get_or ends i 0 → Met begins ends len (i + 1) x
    passed_more soon x low high =
        by_less
        x
        place
        (λ h.
        let met = walked.passed.none_earlier x low h in
        record { which = met.which; is_below = omega arith; begins_soon = met.begins_soon; ends_later = met.ends_later })
        (λ h. record { which = i; is_below = omega arith; begins_soon = omega arith; ends_later = high })

    pub walked_more : i < count → get_or begins i 0 < place + len → Walked begins ends count first at len (i + 1) (get_or ends i 0)
    walked_more here soon = record {
      on = omega arith;
      within = omega arith;
      passed = record {
        not_before = omega (arith, asked.after i walked.on here);
        ended = λ k low high. asked.ascend k i (omega arith) here;
        none_earlier = passed_more soon;
      };
      fits = asked.ends_fit i here;
    }

    pub walked_stop : (i < count → place + len ≤ get_or begins i 0) → GapIs begins ends count first at len place
    walked_stop room = record { stop = i; at_most = walked.within; passed = walked.passed; room = room }

-- what a walk from the first span that ends after the place asks
pub gap_asked :
    (ends : List ℕ) (count code from len first : ℕ) → AskLeast ends count code from len →
    FirstAfter ends count (code * tick_room + from) first → AskGap ends count first (code * tick_room + from) len
gap_asked ends count code from len first asked after = record {
  within = after.at_most;
  ascend = asked.ascend;
  after = after.after;
  at_fits = omega arith;
  ends_fit = λ i h. omega (arith, asked.ends_below i h);
}

-- One hold more on the line.
use mathlib.Core.Path.{◌≡◌, refl, ◌∙◌}
use mathlib.Core.Logic.{⊎_elim}
use mathlib.Core.List.Memᴰ
use mathlib.Core.List.{List, [], ◌∷◌, ◌++◌, Memᴰ}
use Prim.Native.Nat.{ℕ, ◌+◌, ◌≤◌, ◌<◌, max}
use native.Mathlib.Omega.{arith}
use lib.ListN.{length, get_or}
use Rattle.rules.specs.Words.{Hold}
use Rattle.rules.specs.Placing.{spans_on, least_free}
use Rattle.rules.specs.Codes.{resource_number}
use Rattle.rules.proofs.Sequences.{by_less}
use Rattle.rules.proofs.LeastTick.{least_is_least}
use Rattle.rules.proofs.Resources.{spans_taken}
use Rattle.timeline.specs.Timeline.{begin_of, end_of, Drawable, StandsAt, Drawn, FirstAfter}
use Rattle.timeline.specs.Spans.{Spans}
use Rattle.timeline.specs.Fields.{Within}
use Rattle.timeline.specs.RowLine.{InsertedAt}
use Rattle.timeline.specs.Grown.{Untaken, AskSpan, SpanPut}
use Rattle.timeline.proofs.Drawing.{known_same}
use Rattle.timeline.proofs.Inserted.{by_place, PutAt, put_at}

-- what a search finds on the hold's resource
pub untaken_least :
    (held : List Hold) (h : Hold) (from len : ℕ) → h.span.start ≡ least_free from len (spans_on h.on held) →
    h.span.finish ≡ h.span.start + len → Untaken held h
untaken_least held h from len start finish x low high taken =
    (least_is_least from len (spans_on h.on held)).is_free x (omega arith) (omega arith) ((spans_taken h.on held x).1 taken)

-- a hold beside which another is free does not begin before that ends and end after it begins
apart :
    {held : List Hold} (g h : Hold) → Memᴰ g held → Drawable g → Drawable h → Untaken held h → begin_of g < end_of h → begin_of h < end_of g → ⊥
apart g h listed a b free p q =
    let same : resource_number g.on ≡ resource_number h.on = omega arith in
    free
    (max g.span.start h.span.start)
    (omega arith)
    (omega arith)
    record { hold = g; listed = listed; on = known_same a.known b.known same; within = (omega arith, omega arith) }

-- on the line those from a hold's place on begin when it has ended
pub begins_later :
    {held : List Hold} {begins ends : List ℕ} {count at : ℕ} (h : Hold) → Drawn held begins ends count → Drawable h → Untaken held h →
    FirstAfter ends count (begin_of h) at → (i : ℕ) → at ≤ i → i < count → end_of h ≤ get_or begins i 0
begins_later {begins = begins} h drawn takes free first i low high =
    let there = drawn.held_there i high in
    let ends_later = first.after i low high in
    by_less
    (get_or begins i 0)
    (end_of h)
    (λ less. absurd (apart there.0 h there.1 (drawn.drawable there.0 there.1) takes free (omega arith) (omega arith)))
    (λ most. most)

-- A hold put on the line at its place.
module _
    {begins ends begins' ends' : List ℕ} {count at : ℕ} (h : Hold)
    (b : PutAt begins count at (begin_of h) begins') (e : PutAt ends count at (end_of h) ends') where
  stands_before : {g : Hold} (i : ℕ) → i < at → StandsAt g begins ends i → StandsAt g begins' ends' i
  stands_before i less there = record { begins_there = b.before i less ∙ there.begins_there; ends_there = e.before i less ∙ there.ends_there }

  stands_after : {g : Hold} (i : ℕ) → at ≤ i → i < count → StandsAt g begins ends i → StandsAt g begins' ends' (i + 1)
  stands_after i low high there = record {
    begins_there = b.after i low high ∙ there.begins_there;
    ends_there = e.after i low high ∙ there.ends_there;
  }

  stands_here : StandsAt h begins' ends' at
  stands_here = record { begins_there = b.here; ends_there = e.here }

  module _
      {held : List Hold} (drawn : Drawn held begins ends count) (takes : Drawable h) (free : Untaken held h)
      (first : FirstAfter ends count (begin_of h) at) where
    ascends_more : (i : ℕ) → i + 1 < count + 1 → get_or ends' i 0 ≤ get_or begins' (i + 1) 0
    ascends_more i within =
        by_less
        i
        at
        (λ less.
        by_less
        (i + 1)
        at
        (λ more. omega (arith, drawn.ascends i (omega arith), e.before i less, b.before (i + 1) more))
        (λ most. let same : i + 1 ≡ at = omega arith in rw same (omega (arith, first.before i less, e.before i less, b.here))))
        (λ most.
        by_place
        at
        count
        i
        (omega arith)
        (λ less. absurd (omega arith))
        (λ same.
        let later = begins_later h drawn takes free first i most (omega arith) in
        let moved = b.after i most (omega arith) in
        rw same (omega (arith, e.here, rw same at later, rw same at moved)))
        (λ j low high same. rw same (omega (arith, drawn.ascends j (omega arith), e.after j low high, b.after (j + 1) (omega arith) (omega arith)))))

    drawn_put : at ≤ count → Drawn (held ++ (h ∷ [])) begins' ends' (count + 1)
    drawn_put within = record {
      begins_long = let long = b.room in omega arith;
      ends_long = let long = e.room in omega arith;
      drawable =
          λ g m.
          ⊎_elim
          (λ old. drawn.drawable g old)
          (λ new. let same : g ≡ h = Memᴰ.eq_of_singleton new in rw same takes)
          (Memᴰ.append_cases held m);
      there =
          λ g m.
          ⊎_elim
          (λ old.
          let was = drawn.there g old in
          by_less
          was.0
          at
          (λ less. (was.0, omega arith, stands_before was.0 less was.2))
          (λ most. (was.0 + 1, omega arith, stands_after was.0 most was.1 was.2)))
          (λ new. let same : g ≡ h = Memᴰ.eq_of_singleton new in (at, omega arith, rw same stands_here))
          (Memᴰ.append_cases held m);
      held_there =
          λ i below.
          by_place
          at
          count
          i
          (omega arith)
          (λ less. let was = drawn.held_there i (omega arith) in (was.0, Memᴰ.append_left (h ∷ []) was.1, stands_before i less was.2))
          (λ same. (h, Memᴰ.append_right held (Memᴰ.head refl), rw same stands_here))
          (λ j low high same.
          let was = drawn.held_there j high in
          (was.0, Memᴰ.append_left (h ∷ []) was.1, rw same (stands_after j low high was.2)));
      ascends = ascends_more;
    }

pub drawn_more :
    {held : List Hold} {begins ends begins' ends' : List ℕ} {count at : ℕ} (h : Hold) →
    Drawn held begins ends count → Drawable h → Untaken held h → FirstAfter ends count (begin_of h) at →
    InsertedAt begins count at (begin_of h) begins' → InsertedAt ends count at (end_of h) ends' → count < length begins → count < length ends →
    Drawn (held ++ (h ∷ [])) begins' ends' (count + 1)
drawn_more {begins = begins} {ends = ends} {count = count} {at = at} h drawn takes free first b e begins_room ends_room =
    drawn_put
    h
    (put_at begins count at (begin_of h) record { room = begins_room; within = first.at_most } b)
    (put_at ends count at (end_of h) record { room = ends_room; within = first.at_most } e)
    drawn
    takes
    free
    first
    first.at_most

-- What `insert` leaves.
pub span_put :
    {room : ℕ} {t t' : Spans} {begin end at : ℕ} → Within room t → AskSpan room t → FirstAfter t.ends t.count begin at →
    InsertedAt t.begins t.count at begin t'.begins → InsertedAt t.ends t.count at end t'.ends → t'.count ≡ t.count + 1 → SpanPut t begin end t' at
span_put within ask first b e more = record {
  count_is = more;
  first_after = first;
  begins_are = b;
  ends_are = e;
  is =
      λ held h drawn begin_is end_is takes free.
      rw
      more
      (drawn_more h drawn takes free (rw begin_is at first) (rw begin_is at b) (rw end_is at e)
      (omega (arith, within.begins_long, ask.fits))
      (omega (arith, within.ends_long, ask.fits)));
}

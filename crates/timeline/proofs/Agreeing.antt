-- Two timelines asked by turns: each answer passes only ticks that are not free beside the other, so where both agree the tick is the least.
use mathlib.Core.Path.{◌≡◌, ap, ◌∙◌}
use mathlib.Core.Logic.{⊎_elim}
use mathlib.Core.List.Memᴰ
use mathlib.Core.List.{List, ◌++◌, map, map-append, Memᴰ}
use Prim.Native.Nat.{ℕ, ◌≤◌, ◌<◌}
use native.Mathlib.Omega.{arith}
use Rattle.rules.specs.Words.{Span, Resource, same, Hold}
use Rattle.rules.specs.Codes.{resource_number, resource_bound}
use Rattle.rules.specs.Sequences.{keep}
use Rattle.rules.specs.Placing.{spans_on, least_free}
use Rattle.rules.specs.Laws.{Free, IsLeast}
use Rattle.rules.proofs.Sequences.{by_less, keep_append, mem_keep, map_mem}
use Rattle.rules.proofs.LeastTick.{least_is_least, least_unique, least_at_most}
use Rattle.timeline.specs.declared.line.Sought.{Sought}
use Rattle.timeline.specs.Spans.{Spans}
use Rattle.timeline.specs.Timeline.{Known, Drawable, Drawn, AskLeast, LeastIs, tick_limit}
use Rattle.timeline.specs.Lines.{DrawnOn}
use Rattle.timeline.specs.Beside.{AskBeside, BesideIs}
use Rattle.timeline.proofs.Drawing.{known_below, drawn_asks}

-- Spans of two lists.

spans_append : (on : Resource) (a b : List Hold) → spans_on on (a ++ b) ≡ spans_on on a ++ spans_on on b
unfolding spans_on
spans_append on a b =
    ap (map (λ h. h.span)) (keep_append (λ h. same h.on on) a b)
    ∙ map-append (λ h. h.span) (keep (λ h. same h.on on) a) (keep (λ h. same h.on on) b)

-- a span of a resource is that of a hold
pub span_held : (on : Resource) (held : List Hold) {s : Span} → Memᴰ s (spans_on on held) → (h : Hold) × Memᴰ h held × (s ≡ h.span)
unfolding spans_on
span_held on held m =
    let made = map_mem (λ h. h.span) (keep (λ h. same h.on on) held) m in
    (made.0, (mem_keep (λ h. same h.on on) held made.1).0, made.2)

-- holds that can be drawn end by the last tick, and so a search among them finds a tick by then
pub drawable_found :
    (held : List Hold) → ((h : Hold) → Memᴰ h held → Drawable h) → (on : Resource) (from len : ℕ) → from ≤ tick_limit →
    least_free from len (spans_on on held) ≤ tick_limit
drawable_found held drawable on from len early =
    least_at_most
    from
    len
    (spans_on on held)
    tick_limit
    early
    (λ s m.
    let of = span_held on held m in
    let ends = ap (λ s. s.finish) of.2 in
    let hold = drawable of.0 of.1 in
    omega arith)

-- The turns, over the spans of one resource in each timeline: from `start` on no tick before `found` is free in both, `found` is free in the first,
-- and `again` is the least from there that is free in the second.
pub record Agreeing (len : ℕ) (a b : List Span) (start found again : ℕ) : Type 0 where
  pub not_before : start ≤ found
  pub is_free : Free len a found
  pub none_earlier : (x : ℕ) → start ≤ x → x < found → Free len a x → Free len b x → ⊥
  pub next : IsLeast found len b again

module _ (len : ℕ) (a b : List Span) where
  agreeing_first : (from found again : ℕ) → IsLeast from len a found → IsLeast found len b again → Agreeing len a b found found again
  agreeing_first from found again own other = record {
    not_before = omega arith;
    is_free = own.is_free;
    none_earlier = λ x low high. absurd (omega arith);
    next = other;
  }

  -- the ticks up to `again` are not free in the second, and from there on up to the next found not in the first
  agreeing_more :
      (start found again found' again' : ℕ) → Agreeing len a b start found again → found < again → IsLeast again len a found' →
      IsLeast found' len b again' → Agreeing len a b start found' again'
  agreeing_more start found again found' again' turn less own other =
      let on = turn.not_before in
      let ahead = own.not_before in
      record {
        not_before = omega arith;
        is_free = own.is_free;
        none_earlier =
            λ x low high free free_beside.
            by_less
            x
            found
            (λ h. turn.none_earlier x low h free free_beside)
            (λ h. by_less x again (λ k. turn.next.none_earlier x h k free_beside) (λ k. own.none_earlier x k high free));
        next = other;
      }

  agreeing_end :
      (from start found again : ℕ) → IsLeast from len a start → Agreeing len a b start found again → again ≤ found → IsLeast from len (a ++ b) found
  agreeing_end from start found again first turn most =
      let next = turn.next.not_before in
      let agreed : again ≡ found = omega arith in
      let free_beside : Free len b found = rw agreed at turn.next.is_free in
      let before = first.not_before in
      let on = turn.not_before in
      record {
        not_before = omega arith;
        is_free =
            λ x low high taken.
            ⊎_elim
            (λ m. turn.is_free x low high (taken.0, m, taken.2))
            (λ m. free_beside x low high (taken.0, m, taken.2))
            (Memᴰ.append_cases a taken.1);
        none_earlier =
            λ x low high free.
            let free_own : Free len a x = λ y p q taken. free y p q (taken.0, Memᴰ.append_left b taken.1, taken.2) in
            by_less
            x
            start
            (λ h. first.none_earlier x low h free_own)
            (λ h. turn.none_earlier x h high free_own (λ y p q taken. free y p q (taken.0, Memᴰ.append_right a taken.1, taken.2)));
      }

-- The turns of the search, whatever is drawn.
pub record Turned (t other : Spans) (code len start found again : ℕ) : Type 0 where
  pub found_at_most : found ≤ tick_limit
  pub again_at_most : again ≤ tick_limit
  pub agreeing :
      (held beside : List Hold) (on : Resource) → DrawnOn held t → DrawnOn beside other → Known on → resource_number on ≡ code →
      Agreeing len (spans_on on held) (spans_on on beside) start found again

-- what is answered for a timeline
abbrev pub LeastOf : Spans → (code from len r : ℕ) → Type 0
LeastOf t code from len r = LeastIs t.begins t.ends t.count code from len r

-- an answer is the least tick
answer_least :
    {begins ends : List ℕ} {count code from len r : ℕ} → LeastIs begins ends count code from len r →
    (held : List Hold) (on : Resource) → Drawn held begins ends count → Known on → resource_number on ≡ code → 1 ≤ len →
    IsLeast from len (spans_on on held) r
answer_least {from = from} {len = len} answer held on drawn known number some =
    rw (answer.is held on drawn known number some) (least_is_least from len (spans_on on held))

module _ {t other : Spans} {sought : Sought} (ask : AskBeside t other sought) where
  code_below : sought.resource < resource_bound
  code_below = let same = ask.code_is in omega (arith, known_below ask.known)

  -- each may be asked
  pub asks_own : (from : ℕ) → from ≤ tick_limit → AskLeast t.ends t.count sought.resource from sought.len
  asks_own from early = drawn_asks ask.held _ _ _ ask.drawn _ from _ code_below early ask.len_at_most

  pub asks_other : (from : ℕ) → from ≤ tick_limit → AskLeast other.ends other.count sought.resource from sought.len
  asks_other from early = drawn_asks ask.beside _ _ _ ask.drawn_beside _ from _ code_below early ask.len_at_most

  -- and answers a tick by the last
  pub own_at_most : (from r : ℕ) → from ≤ tick_limit → LeastOf t sought.resource from sought.len r → r ≤ tick_limit
  own_at_most from r early answer =
      let is = answer.is ask.held ask.on ask.drawn ask.known ask.code_is ask.some in
      omega (arith, drawable_found ask.held ask.drawn.drawable ask.on from sought.len early)

  pub other_at_most :
      (from r : ℕ) → from ≤ tick_limit → LeastOf other sought.resource from sought.len r → r ≤ tick_limit
  other_at_most from r early answer =
      let is = answer.is ask.beside ask.on ask.drawn_beside ask.known ask.code_is ask.some in
      omega (arith, drawable_found ask.beside ask.drawn_beside.drawable ask.on from sought.len early)

  pub turned_first :
      (found again : ℕ) → LeastOf t sought.resource sought.from sought.len found →
      LeastOf other sought.resource found sought.len again →
      Turned t other sought.resource sought.len found found again
  turned_first found again own other =
      let low = own_at_most sought.from found ask.from_at_most own in
      record {
        found_at_most = low;
        again_at_most = other_at_most found again low other;
        agreeing =
            λ held beside on drawn drawn_beside known number.
            agreeing_first
            sought.len
            (spans_on on held)
            (spans_on on beside)
            sought.from
            found
            again
            (answer_least own held on drawn known number ask.some)
            (answer_least other beside on drawn_beside known number ask.some);
      }

  pub turned_more :
      (start found again found' again' : ℕ) →
      Turned t other sought.resource sought.len start found again → found < again →
      LeastOf t sought.resource again sought.len found' →
      LeastOf other sought.resource found' sought.len again' →
      Turned t other sought.resource sought.len start found' again'
  turned_more start found again found' again' turn less own other =
      let low = own_at_most again found' turn.again_at_most own in
      record {
        found_at_most = low;
        again_at_most = other_at_most found' again' low other;
        agreeing =
            λ held beside on drawn drawn_beside known number.
            agreeing_more
            sought.len
            (spans_on on held)
            (spans_on on beside)
            start
            found
            again
            found'
            again'
            (turn.agreeing held beside on drawn drawn_beside known number)
            less
            (answer_least own held on drawn known number ask.some)
            (answer_least other beside on drawn_beside known number ask.some);
      }

  -- each turn finds a later tick
  pub turned_later : (again found' : ℕ) → LeastOf t sought.resource again sought.len found' → again ≤ found'
  turned_later again found' own =
      (answer_least own ask.held ask.on ask.drawn ask.known ask.code_is ask.some).not_before

  pub turned_end :
      (start found again : ℕ) → LeastOf t sought.resource sought.from sought.len start →
      Turned t other sought.resource sought.len start found again → again ≤ found →
      BesideIs t other sought found
  turned_end start found again first turn most = record {
    is =
        λ held beside on drawn drawn_beside known number.
        let from = sought.from in
        let len = sought.len in
        let least =
        agreeing_end
        len
        (spans_on on held)
        (spans_on on beside)
        from
        start
        found
        again
        (answer_least first held on drawn known number ask.some)
        (turn.agreeing held beside on drawn drawn_beside known number)
        most
        in
        rw (spans_append on held beside) (least_unique from len (spans_on on held ++ spans_on on beside) least (least_is_least from len _));
  }

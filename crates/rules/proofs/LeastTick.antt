-- The tick found is free, not before the one asked for, and every earlier one is not free; it depends only on which ticks are taken.
use mathlib.Core.Path.{◌≡◌, ap}
use mathlib.Core.Logic.{◌↔◌}
use mathlib.Core.Bool.{Bool, true, false, ◌&&◌, cond}
use mathlib.Core.List.{List, [], ◌∷◌, map, Memᴰ}
use Prim.Native.Nat.{ℕ, zero, suc, ◌+◌, ◌≤◌, ◌<◌, max, min}
use native.Mathlib.Omega.{arith}
use lib.Dec.{ltb, leb}
use borrow.Author.Tests.{ltb-true, ltb-false, leb-true, leb-false, lt-ltb, le-leb, not-true, not-false}
use Rattle.rules.specs.Sequences.{any_of}
use Rattle.rules.specs.Words.{Span, Within, meets}
use Rattle.rules.specs.Placing.{free, latest, earliest, least_free}
use Rattle.rules.specs.Laws.{Taken, Free, IsLeast}
use Rattle.rules.proofs.Sequences.{by_test, clash, and_true, any_witness, any_none, mem_map}

-- Spans that share a tick.

pub meets_shares : (a b : Span) → meets a b ≡ true → (tick : ℕ) × Within tick a × Within tick b
unfolding meets
meets_shares a b e =
    let h = ltb-true (max a.start b.start) (min a.finish b.finish) e in
    (max a.start b.start, omega arith, omega arith)

pub shares_meets : (a b : Span) (tick : ℕ) → Within tick a → Within tick b → meets a b ≡ true
unfolding meets
shares_meets a b tick p q = lt-ltb (max a.start b.start) (min a.finish b.finish) (omega arith)

module _ (len : ℕ) (spans : List Span) where
  -- `len` ticks from a tick on
  abbrev from_on : ℕ → Span
  from_on tick = record { start = tick; finish = tick + len }

  pub free_true : (tick : ℕ) → free len spans tick ≡ true → Free len spans tick
  unfolding free
  free_true tick e x low high taken =
      clash
      (shares_meets (from_on tick) taken.0 x (low, high) taken.2)
      (any_none (meets (from_on tick)) (not-true (any_of (meets (from_on tick)) spans) e) taken.1)

  -- ticks that are not free share one with a span
  free_false : (tick : ℕ) → free len spans tick ≡ false → (x : ℕ) × Within x (from_on tick) × Taken spans x
  unfolding free
  free_false tick e =
      let w = any_witness (meets (from_on tick)) spans (not-false (any_of (meets (from_on tick)) spans) e) in
      let r = meets_shares (from_on tick) w.0 w.2 in
      (r.0, r.1, (w.0, w.1, r.2))

  pub free_holds : (tick : ℕ) → Free len spans tick → free len spans tick ≡ true
  free_holds tick h =
      by_test (free len spans tick) (λ e. e) (λ e. let r = free_false tick e in absurd (h r.0 r.1.0 r.1.1 r.2))

  -- where the ticks become free, a span ends
  freed_at_end : (tick : ℕ) → free len spans tick ≡ false → Free len spans (suc tick) → Memᴰ (suc tick) (map (λ s. s.finish) spans)
  freed_at_end tick e h =
      let r = free_false tick e in
      let s = r.2.0 in
      let at_tick : suc tick ≤ r.0 → ⊥ = λ k. h r.0 k (omega arith) r.2 in
      let ends : suc tick < s.finish → ⊥ = λ k. h (suc tick) (omega arith) (omega arith) (s, r.2.1, (omega arith, k)) in
      let same : suc tick ≡ s.finish = omega arith in
      rw same (mem_map (λ s. s.finish) r.2.1)

-- The tick at which nothing is booked any more.

latest_from : (from : ℕ) (spans : List Span) → from ≤ latest from spans
unfolding latest
latest_from from [] = omega arith
latest_from from (s ∷ spans) = let below = latest_from from spans in omega arith

latest_finish : (from : ℕ) {s : Span} {spans : List Span} → Memᴰ s spans → s.finish ≤ latest from spans
unfolding latest
latest_finish from (Memᴰ.head e) = let same = ap (λ s. s.finish) e in omega arith
latest_finish from (Memᴰ.tail m) = let below = latest_finish from m in omega arith

module _ (from len : ℕ) (spans : List Span) where
  -- a tick not before `from` that is free
  abbrev Fits : ℕ → Type 0
  Fits tick = (from ≤ tick) × Free len spans tick

  latest_fits : Fits (latest from spans)
  latest_fits = (latest_from from spans, λ x low high taken. let h = latest_finish from taken.1 in omega arith)

  -- The earliest of the ticks tried.

  -- `t` is taken in place of `rest`, the earliest of the ticks after it in the list
  abbrev earlier : (t rest : ℕ) → Bool
  earlier t rest = leb from t && (ltb t rest && free len spans t)

  earlier_true : (t rest : ℕ) → earlier t rest ≡ true → (t < rest) × Fits t
  earlier_true t rest e =
      let p = and_true (leb from t) (ltb t rest && free len spans t) e in
      let q = and_true (ltb t rest) (free len spans t) p.1 in
      (ltb-true t rest q.0, (leb-true from t p.0, free_true len spans t q.1))

  earlier_fits : (t rest : ℕ) → Fits rest → Fits (cond (earlier t rest) t rest)
  earlier_fits t rest h = by_test (earlier t rest) (λ e. rw e (earlier_true t rest e).1) (λ e. rw e h)

  earlier_rest : (t rest : ℕ) → cond (earlier t rest) t rest ≤ rest
  earlier_rest t rest =
      by_test (earlier t rest) (λ e. let h = (earlier_true t rest e).0 in rw e (omega arith)) (λ e. rw e (omega arith))

  earlier_this : (t rest : ℕ) → Fits t → cond (earlier t rest) t rest ≤ t
  earlier_this t rest h =
      by_test
      (ltb t rest)
      (λ e. rw (le-leb from t h.0, e, free_holds len spans t h.1) (omega arith))
      (λ e. let p = earlier_rest t rest in let q = ltb-false t rest e in omega arith)

  earliest_fits : (last : ℕ) → Fits last → (ticks : List ℕ) → Fits (earliest from len spans last ticks)
  unfolding earliest
  earliest_fits last h [] = h
  earliest_fits last h (t ∷ ticks) = earlier_fits t (earliest from len spans last ticks) (earliest_fits last h ticks)

  earliest_first : (last : ℕ) {x : ℕ} {ticks : List ℕ} → Memᴰ x ticks → Fits x → earliest from len spans last ticks ≤ x
  unfolding earliest
  earliest_first last (Memᴰ.head {x = t} {xs = ticks} e) h = rw e (earlier_this t (earliest from len spans last ticks) (rw e at h))
  earliest_first last (Memᴰ.tail {x = t} {xs = ticks} m) h =
      let p = earlier_rest t (earliest from len spans last ticks) in
      let q = earliest_first last m h in
      omega arith

  -- The least free tick.

  -- it is not after any that fits: down from there the ticks are free until a span ends, or until `from`
  least_first : (x : ℕ) → from ≤ x → Free len spans x → least_free from len spans ≤ x
  unfolding least_free
  least_first zero low h = earliest_first (latest from spans) (Memᴰ.head (omega arith)) (low, h)
  least_first (suc x) low h =
      by_test
      (leb from x)
      (λ e.
      by_test
      (free len spans x)
      (λ k. let below = least_first x (leb-true from x e) (free_true len spans x k) in omega arith)
      (λ k. earliest_first (latest from spans) (Memᴰ.tail (freed_at_end len spans x k h)) (low, h)))
      (λ e. let k = leb-false from x e in earliest_first (latest from spans) (Memᴰ.head (omega arith)) (low, h))

  pub least_is_least : IsLeast from len spans (least_free from len spans)
  unfolding least_free
  least_is_least =
      let h = earliest_fits (latest from spans) latest_fits (from ∷ map (λ s. s.finish) spans) in
      record { not_before = h.0; is_free = h.1; none_earlier = λ x low below free. let k = least_first x low free in omega arith }

pub least_unique : (from len : ℕ) (spans : List Span) {a b : ℕ} → IsLeast from len spans a → IsLeast from len spans b → a ≡ b
least_unique from len spans {a} {b} p q = omega (arith, not_below p q, not_below q p)
  where
    not_below : {a b : ℕ} → IsLeast from len spans a → IsLeast from len spans b → a < b → ⊥
    not_below {a} p q h = q.none_earlier a p.not_before h p.is_free

pub least_by_ticks : (from len : ℕ) (xs ys : List Span) → ((x : ℕ) → Taken xs x ↔ Taken ys x) → least_free from len xs ≡ least_free from len ys
least_by_ticks from len xs ys h =
    let r = least_is_least from len xs in
    least_unique from len ys
    record {
      not_before = r.not_before;
      is_free = λ x low high taken. r.is_free x low high ((h x).1 taken);
      none_earlier = λ x low below free. r.none_earlier x low below (λ y p q taken. free y p q ((h y).0 taken));
    }
    (least_is_least from len ys)

-- it lies at or before any tick that is late enough and past all spans
pub least_at_most :
    (from len : ℕ) (spans : List Span) (bound : ℕ) → from ≤ bound → ((s : Span) → Memᴰ s spans → s.finish ≤ bound) → least_free from len spans ≤ bound
least_at_most from len spans bound h ends =
    let is = least_is_least from len spans in
    by_test
    (leb (least_free from len spans) bound)
    (leb-true (least_free from len spans) bound)
    (λ e.
    absurd
    (is.none_earlier
    bound
    h
    (leb-false (least_free from len spans) bound e)
    (λ x a b taken. let past = ends taken.0 taken.1 in let inside = taken.2.1 in omega arith)))

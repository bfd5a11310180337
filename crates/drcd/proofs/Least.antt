-- The least of the items of a chain by a key, as `min_by_key` finds it.
use mathlib.Core.Path.{◌≡◌, refl, sym, ap, ◌∙◌}
use mathlib.Core.Bool.{Bool}
use mathlib.Core.List.Memᴰ
use mathlib.Core.Logic.{⊎_elim}
use Rattle.rules.proofs.Sequences.{by_test}
use mathlib.Core.List.{List, [], ◌∷◌, Memᴰ}
use Prim.Native.Nat.{ℕ, zero, suc, ◌+◌, ◌<◌}
use native.Mathlib.Omega.{arith}
use denote.Param.Members.{Mut}
use denote.Ref.{Bor}
use Rattle.std.proofs.Common.{Option, Some, None, Ordering, Less, Equal, Greater}
use Rattle.std.proofs.lemmas.List.{map-id}
use Rattle.std.specs.Fn.{CalledAt, TakesAt}
use Rattle.std.specs.Iterator.{Yields, AlwaysYields, CallableInMinByKey, PicksMinByKey, KeyTurn}
use Rattle.std.specs.List.{FoldsTo, filter, range_with_len}
use Rattle.std.specs.Ordering.{nat_cmp, min_by_ordering}
use Rattle.std.proofs.lemmas.Iterator.{YieldsList, YieldsList-from_range, items_from_drains}
use Rattle.std.proofs.lemmas.Iterator.Consumers.{YieldsList-from_filter}
use Rattle.std.proofs.iter.Yields.{nat_range_steps}
use Rattle.std.specs.Iterator.Adapters.{filter_source, filter_callee, filter_steps}
use Rattle.std.specs.declared.iter.Filter.{Filter}
use Rattle.std.specs.declared.ops.Range.{Range}
use Rattle.std.proofs.lemmas.Fn.{serves_by}

-- a number of a range, whatever it passes
pub filtered_below : (test : ℕ → Bool) (a n : ℕ) {x : ℕ} → Memᴰ x (filter test (range_with_len a n)) → x < a + n
filtered_below test a zero m = absurd (Memᴰ.not-nil m)
filtered_below test a (suc n) {x} m =
    by_test
    (test a)
    (λ h.
    ⊎_elim
    (λ own. let same = Memᴰ.eq_of_singleton own in omega arith)
    (λ later. let below = filtered_below test (a + 1) n later in omega arith)
    (Memᴰ.append_cases (a ∷ []) (rw h at m)))
    (λ h. let below = filtered_below test (a + 1) n (rw h at m) in omega arith)

-- the numbers below n that pass a test, as a chain gives them
pub chain :
    {F : Type 0} (g : Mut F (Bor ℕ × Unit {0}) Bool) (test : ℕ → Bool) (n : ℕ) {f : F} {s : Filter (Range ℕ) F} →
    filter_source s ≡ record { start = 0; end = n } → filter_callee s ≡ f →
    ((x : ℕ) (b : Bool) (q : F) → CalledAt g f x b q → (q ≡ f) × (b ≡ test x)) →
    YieldsList (filter_steps nat_range_steps g) (λ x. x) s (filter test (range_with_len 0 n))
chain g test n source callee computes = YieldsList-from_filter g test (YieldsList-from_range 0 n n source (omega arith)) callee computes

-- the first of those with the least key
abbrev pub least_by : (ℕ → ℕ) → ℕ → List ℕ → ℕ
least_by key best [] = best
least_by key best (x ∷ xs) = least_by key (min_by_ordering (nat_cmp (key best) (key x)) best x) xs

abbrev pub least_of : (ℕ → ℕ) → List ℕ → Option ℕ
least_of key [] = None
least_of key (x ∷ xs) = Some (least_by key x xs)

-- the key of what is picked
picks : (key : ℕ → ℕ) (o : Ordering) (x y : ℕ) → min_by_ordering o (key x) (key y) ≡ key (min_by_ordering o x y)
picks key Less x y = refl
picks key Equal x y = refl
picks key Greater x y = refl

-- an item of a run is in the list
module _ {S : Type 0} (steps : S → Option ℕ → S → Type 0) where
  first_listed : (s t : S) (x : ℕ) (ys : List ℕ) → AlwaysYields steps (λ x. x) s ys → steps s (Some x) t → Memᴰ x ys
  first_listed s t x [] yields step = absurd (yields x t step)
  first_listed s t x (y ∷ ys) yields step = Memᴰ.head ((yields.1 x t step).0)

  listed :
      (s t u : S) (x : ℕ) (ys xs : List ℕ) → AlwaysYields steps (λ x. x) s ys → Yields steps s xs t → steps t (Some x) u → Memᴰ x ys
  listed s t u x ys [] yields run step = first_listed s u x ys yields (rw (sym run) at step)
  listed s t u x [] (z ∷ xs) yields run step = absurd (yields z run.0 run.1)
  listed s t u x (y ∷ ys) (z ∷ xs) yields run step = Memᴰ.tail (listed run.0 t u x ys xs ((yields.1 z run.0 run.1).1) run.2 step)

-- What `min_by_key` asks and finds, where a call of f gives the key of its item.
module _ {F : Type 0} (g : Mut F (Bor ℕ × Unit {0}) ℕ) (f : F) (key : ℕ → ℕ) (computes : (x k : ℕ) (q : F) → CalledAt g f x k q → (q ≡ f) × (k ≡ key x)) where
  turns :
      (p q : (F × ℕ) × ℕ) (xs : List ℕ) → FoldsTo (KeyTurn min_by_ordering min_by_ordering g nat_cmp) p xs q →
      p.0.0 ≡ f → p.0.1 ≡ key p.1 → q.1 ≡ least_by key p.1 xs
  turns p q [] run same at = sym (ap (λ p. p.1) run)
  turns p q (x ∷ xs) run same at =
      let next = run.0 in
      let turn = run.1 in
      let found = computes x turn.0 next.0.0 (rw same at turn.2) in
      let order : turn.1 ≡ nat_cmp (key p.1) (key x) = sym turn.3 ∙ rw (at, found.1) refl in
      let best : next.1 ≡ min_by_ordering (nat_cmp (key p.1) (key x)) p.1 x = turn.5 ∙ ap (λ o. min_by_ordering o p.1 x) order in
      let its_key : next.0.1 ≡ key next.1 = turn.4 ∙ rw (at, found.1) (picks key turn.1 p.1 x) ∙ ap key (sym turn.5) in
      turns next q xs run.2 found.0 its_key ∙ ap (λ b. least_by key b xs) best

  module _ {S : Type 0} {steps : S → Option ℕ → S → Type 0} {s : S} {ys : List ℕ} (yields : YieldsList steps (λ x. x) s ys) where
    pub keys_callable : ((x : ℕ) → Memᴰ x ys → TakesAt g f x) → CallableInMinByKey steps g nat_cmp s f
    keys_callable takes =
        λ x t step. (
          takes x (first_listed steps s t x ys yields.runs step),
          λ k q called.
              serves_by
              (KeyTurn min_by_ordering min_by_ordering g nat_cmp)
              (λ xs p. p.0.0 ≡ f)
              (λ xs p z v at turn. (computes z turn.0 v.0.0 (rw at at turn.2)).0)
              steps
              (λ p z. TakesAt g p.0.0 z)
              t
              ((q, k), x)
              (computes x k q called).0
              (λ xs t' p z u run last at. rw at (takes z (listed steps s t' u z ys (x ∷ xs) yields.runs (t, step, run) last))),
        )

    pub least_is : (r : Option ℕ) → PicksMinByKey steps g nat_cmp s f r → r ≡ least_of key ys
    least_is None drains = ap (least_of key) (items_from_drains [] (drains.1.0, drains.1.1, λ w. (drains.0, drains.1.2)) yields)
    least_is (Some y) picked =
        let x = picked.0 in
        let xs = picked.1 in
        let drains = picked.5 in
        let all = items_from_drains (x ∷ xs) (drains.1.0, drains.1.1, λ w. (drains.0, drains.1.2)) yields in
        let first = computes x picked.2 picked.3 picked.6 in
        ap Some (turns ((picked.3, picked.2), x) (picked.4, y) xs picked.7 first.0 first.1) ∙ ap (least_of key) (sym (map-id (x ∷ xs)) ∙ all)

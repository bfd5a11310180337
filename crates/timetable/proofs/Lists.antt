-- Laws of lists that speak of no timetable.
use mathlib.Core.Path.{◌≡◌, refl, ap}
use mathlib.Core.Logic.{⊎_elim}
use mathlib.Core.Bool.{Bool, true, ◌&&◌, ◌||◌}
use mathlib.Core.List.Memᴰ
use mathlib.Core.List.{List, [], ◌∷◌, map, Memᴰ}
use Prim.Native.Nat.{ℕ, zero, suc}
use lib.ListN.{replicate}
use Rattle.std.specs.List.{list_any}
use Rattle.rules.specs.Sequences.{any_of, keep, cons_if}
use Rattle.rules.proofs.Sequences.{by_test, clash}

module _ {A : Type 0} where
  pub mem_replicate : {x y : A} (n : ℕ) → Memᴰ y (replicate n x) → y ≡ x
  mem_replicate zero m = absurd (Memᴰ.not-nil m)
  mem_replicate (suc n) m = ⊎_elim (λ same. same) (λ rest. mem_replicate n rest) (Memᴰ.cases_cons m)

  pub map_replicate : {B : Type 0} (f : A → B) (n : ℕ) (x : A) → map f (replicate n x) ≡ replicate n (f x)
  map_replicate f zero x = refl
  map_replicate f (suc n) x = ap (λ l. f x ∷ l) (map_replicate f n x)

  -- some of what a list is mapped to passes a test
  pub any_mapped : {B : Type 0} (p : B → Bool) (f : A → B) (l : List A) → list_any p (map f l) ≡ any_of (λ x. p (f x)) l
  any_mapped p f [] = refl
  any_mapped p f (x ∷ l) = ap (λ b. p (f x) || b) (any_mapped p f l)

  -- one of those kept passes a test if one passes both
  pub any_keep : (p q : A → Bool) (l : List A) → any_of p (keep q l) ≡ any_of (λ x. q x && p x) l
  any_keep p q [] = refl
  any_keep p q (x ∷ l) = by_test (q x) (λ e. rw e (ap (λ b. p x || b) (any_keep p q l))) (λ e. rw e (any_keep p q l))

  -- those that pass a test, all of which are kept
  pub keep_within : (p q : A → Bool) (l : List A) → ((x : A) → Memᴰ x l → p x ≡ true → q x ≡ true) → keep p (keep q l) ≡ keep p l
  keep_within p q [] h = refl
  keep_within p q (x ∷ l) h =
      let below = keep_within p q l (λ y m. h y (Memᴰ.tail m)) in
      by_test
      (q x)
      (λ e. rw e (ap (cons_if (p x) x) below))
      (λ e. by_test (p x) (λ f. clash (h x (Memᴰ.head refl) f) e) (λ f. rw (e, f) below))

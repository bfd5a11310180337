-- Facts of every pair of a list, the earlier element first.
use mathlib.Core.Path.{refl, sym, subst}
use mathlib.Core.Logic.{⊎_elim}
use mathlib.Core.Bool.{Bool, true, false}
use mathlib.Core.List.Memᴰ
use mathlib.Core.List.{List, [], ◌∷◌, ◌++◌, map, Memᴰ}
use Prim.Native.Nat.{ℕ, zero, suc, ◌<◌}
use native.Mathlib.Omega.{arith}
use lib.ListN.{length, get_or}
use Rattle.rules.specs.Sequences.{keep, cons_if}
use Rattle.rules.proofs.Sequences.{mem_keep, mem_get_or, get_or_mem, mem_map, map_mem}

module _ {A : Type 0} (R : A → A → Type 0) where
  pub data Pairwise : List A → Type 0 where
    end : Pairwise []
    more : {x : A} {xs : List A} → ((y : A) → Memᴰ y xs → R x y) → Pairwise xs → Pairwise (x ∷ xs)

  pub pairwise_keep : (p : A → Bool) {l : List A} → Pairwise l → Pairwise (keep p l)
  pairwise_keep p end = end
  pairwise_keep p (more {x = x} {xs = xs} h rest) = go (p x) (pairwise_keep p rest)
    where
      go : (t : Bool) → Pairwise (keep p xs) → Pairwise (cons_if t x (keep p xs))
      go true k = more (λ y m. h y (mem_keep p xs m).0) k
      go false k = k

  pub pairwise_append :
      {a b : List A} → Pairwise a → Pairwise b → ((x y : A) → Memᴰ x a → Memᴰ y b → R x y) → Pairwise (a ++ b)
  pairwise_append end k h = k
  pairwise_append (more {x = x} {xs = xs} f rest) k h =
      more
      (λ y m. ⊎_elim (f y) (λ n. h x y (Memᴰ.head refl) n) (Memᴰ.append_cases xs m))
      (pairwise_append rest k (λ z y m n. h z y (Memᴰ.tail m) n))

  pub pairwise_snoc : {a : List A} {y : A} → Pairwise a → ((x : A) → Memᴰ x a → R x y) → Pairwise (a ++ (y ∷ []))
  pairwise_snoc {y = y} k h =
      pairwise_append
      k
      (more (λ z m. absurd (Memᴰ.not-nil m)) end)
      (λ x z m n. ⊎_elim (λ e. subst (R x) (sym e) (h x m)) (λ d. absurd (Memᴰ.not-nil d)) (Memᴰ.cases_cons n))

  pub pairwise_front : (a b : List A) → Pairwise (a ++ b) → Pairwise a
  pairwise_front [] b p = end
  pairwise_front (x ∷ a) b (more f rest) = more (λ y m. f y (Memᴰ.append_left b m)) (pairwise_front a b rest)

  pub pairwise_across : (a b : List A) → Pairwise (a ++ b) → (x y : A) → Memᴰ x a → Memᴰ y b → R x y
  pairwise_across [] b p x y m n = absurd (Memᴰ.not-nil m)
  pairwise_across (z ∷ a) b (more f rest) x y m n =
      ⊎_elim
      (λ e. subst (λ w. R w y) (sym e) (f y (Memᴰ.append_right a n)))
      (λ d. pairwise_across a b rest x y d n)
      (Memᴰ.cases_cons m)

  -- by position
  pub pairwise_at : {l : List A} → Pairwise l → (d : A) (i k : ℕ) → i < k → k < length l → R (get_or l i d) (get_or l k d)
  pairwise_at end d i k h b = absurd (omega arith)
  pairwise_at (more f rest) d i zero h b = absurd (omega arith)
  pairwise_at (more {xs = xs} f rest) d zero (suc k) h b = f (get_or xs k d) (get_or_mem xs k d (omega arith))
  pairwise_at (more f rest) d (suc i) (suc k) h b = pairwise_at rest d i k (omega arith) (omega arith)

  pub at_pairwise : (l : List A) (d : A) → ((i k : ℕ) → i < k → k < length l → R (get_or l i d) (get_or l k d)) → Pairwise l
  at_pairwise [] d h = end
  at_pairwise (x ∷ xs) d h =
      more {x = x} {xs = xs}
      (λ y m. let r = mem_get_or d m in subst (R x) r.2 (h zero (suc r.0) (omega arith) (let b = r.1 in omega arith)))
      (at_pairwise xs d (λ i k a b. h (suc i) (suc k) (omega arith) (omega arith)))

-- what holds of the pairs of a list that is made of another one, element by element, holds of the pairs of that one, and back
module _ {A B : Type 0} (R : B → B → Type 0) (f : A → B) where
  pub pairwise_map : (l : List A) → Pairwise R (map f l) → Pairwise (λ a b. R (f a) (f b)) l
  pairwise_map [] h = end
  pairwise_map (x ∷ xs) (more h rest) = more (λ y m. h (f y) (mem_map f m)) (pairwise_map xs rest)

  pub map_pairwise : (l : List A) → Pairwise (λ a b. R (f a) (f b)) l → Pairwise R (map f l)
  map_pairwise [] h = end
  map_pairwise (x ∷ xs) (more h rest) =
      more (λ y m. let made = map_mem f xs m in subst (R (f x)) (sym made.2) (h made.0 made.1)) (map_pairwise xs rest)

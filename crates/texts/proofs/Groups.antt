-- Figures in groups: cut from a row, and joined to one again.
use mathlib.Core.Path.{◌≡◌, refl, ap, ◌∙◌}
use mathlib.Core.List.{List, [], ◌∷◌, ◌++◌, map}
use Prim.Native.Nat.{ℕ, zero, suc, ◌+◌, ◌*◌, ◌<◌}
use native.Mathlib.Nat.{suc-mul}
use native.Mathlib.Omega.{arith}
use lib.ListN.{length, get_or, take, drop, length-append, length-drop, take-append-drop}
use lib.Seq.{take_at, drop_at, take-append-le, drop-append-le, length-take-le}
use Rattle.rules.specs.Sequences.{joined}
use Rattle.texts.specs.JobText.{groups}

module _ {A : Type 0} (said : List ℕ → A) (size : ℕ) where
  pub groups_length : (n : ℕ) (figures : List ℕ) → length (groups said size n figures) ≡ n
  unfolding groups
  groups_length zero figures = refl
  groups_length (suc n) figures = ap suc (groups_length n (drop size figures))

  -- figures past those of the groups do not matter
  pub groups_front : (n : ℕ) (figures more : List ℕ) → length figures ≡ n * size → groups said size n (figures ++ more) ≡ groups said size n figures
  unfolding groups
  groups_front zero figures more l = refl
  groups_front (suc n) figures more l =
      let s : length figures ≡ n * size + size = l ∙ suc-mul n size in
      let d = length-drop size figures in
      rw
      (take-append-le size figures more (omega arith), drop-append-le size figures more (omega arith))
      (ap (λ r. said (take size figures) ∷ r) (groups_front n (drop size figures) more (omega arith)))

module _ {A : Type 0} (said : List ℕ → A) (figures_of : A → List ℕ) (size : ℕ) where
  -- groups that were cut have the figures again
  pub joined_groups :
      ((fs : List ℕ) → length fs ≡ size → figures_of (said fs) ≡ fs) → (n : ℕ) (fs : List ℕ) → length fs ≡ n * size →
      joined (map figures_of (groups said size n fs)) ≡ fs
  unfolding groups
  joined_groups same zero [] l = refl
  joined_groups same zero (x ∷ fs) l = absurd (omega arith)
  joined_groups same (suc n) fs l =
      let m = suc-mul n size in
      let t = length-take-le size fs (omega arith) in
      let d = length-drop size fs in
      ap (λ a. a ++ joined (map figures_of (groups said size n (drop size fs)))) (same (take size fs) t)
      ∙ ap (λ r. take size fs ++ r) (joined_groups same n (drop size fs) (omega arith))
      ∙ take-append-drop size fs

  pub joined_length : (blank : A) (l : List A) → ((i : ℕ) → i < length l → length (figures_of (get_or l i blank)) ≡ size) →
      length (joined (map figures_of l)) ≡ length l * size
  joined_length blank [] h = omega arith
  joined_length blank (a ∷ l) h =
      length-append (figures_of a) (joined (map figures_of l))
      ∙ (let first = h 0 (omega arith) in
      let below = joined_length blank l (λ i k. h (suc i) (omega arith)) in
      let m = suc-mul (length l) size in
      omega arith)

  -- and figures that were joined are cut into the groups again
  pub groups_joined :
      (blank : A) (l : List A) → ((i : ℕ) → i < length l → length (figures_of (get_or l i blank)) ≡ size) →
      groups said size (length l) (joined (map figures_of l)) ≡ map (λ a. said (figures_of a)) l
  unfolding groups
  groups_joined blank [] h = refl
  groups_joined blank (a ∷ l) h =
      let first = h 0 (omega arith) in
      rw
      (take_at (figures_of a) (joined (map figures_of l)) size first, drop_at (figures_of a) (joined (map figures_of l)) size first)
      (ap (λ r. said (figures_of a) ∷ r) (groups_joined blank l (λ i k. h (suc i) (omega arith))))

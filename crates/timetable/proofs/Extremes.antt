-- The least of figures, or a bound: at most each of them, and no number above it is. And the least of all is that of the first and the others.
use mathlib.Core.Path.{◌≡◌, refl, ap}
use mathlib.Core.List.{List, [], ◌∷◌, map, Memᴰ}
use Prim.Native.Nat.{ℕ, ◌≤◌, min}
use native.Mathlib.Omega.{arith}
use Rattle.std.specs.List.{fold}
use Rattle.timetable.specs.Derived.{least_of}

module _ {A : Type 0} (none : ℕ) (figure : A → ℕ) where
  pub least_none : (l : List A) → least_of none (map figure l) ≤ none
  unfolding least_of
  least_none [] = omega arith
  least_none (x ∷ l) = omega (arith, least_none l)

  -- found one by one, from a number that is at most the bound
  pub least_fold : (l : List A) {n : ℕ} → n ≤ none → fold (λ least x. min least (figure x)) n l ≡ min n (least_of none (map figure l))
  unfolding least_of
  least_fold [] most = omega arith
  least_fold (x ∷ l) {n} most = let below = least_fold l {n = min n (figure x)} (omega arith) in omega arith

  pub least_low : {x : A} {l : List A} → Memᴰ x l → least_of none (map figure l) ≤ figure x
  unfolding least_of
  least_low (Memᴰ.head e) = let same = ap figure e in omega arith
  least_low (Memᴰ.tail m) = let below = least_low m in omega arith

  pub least_above : (n : ℕ) (l : List A) → n ≤ none → ((x : A) → Memᴰ x l → n ≤ figure x) → n ≤ least_of none (map figure l)
  unfolding least_of
  least_above n [] most low = most
  least_above n (x ∷ l) most low =
      let here = low x (Memᴰ.head refl) in
      let below = least_above n l most (λ y m. low y (Memᴰ.tail m)) in
      omega arith

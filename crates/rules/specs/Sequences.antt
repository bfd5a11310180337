-- A reader must believe this: what the definitions say of lists: some and all of them, those that pass a test, sums, counts, and the one that comes first by
-- its figures.
use Rattle.std.specs.Prelude.{ℕ, zero, suc, ◌+◌, Bool, true, false, ◌||◌, ◌&&◌, cond, List, [], ◌∷◌, ◌++◌, ltb, eqb, length}
use Rattle.std.proofs.Math.Option.{Option, none, some}

module _ {A : Type 0} where
  -- some of them passes the test
  abbrev pub any_of : (A → Bool) → List A → Bool
  any_of p [] = false
  any_of p (x ∷ xs) = p x || any_of p xs

  -- all of them pass the test
  abbrev pub all_of : (A → Bool) → List A → Bool
  all_of p [] = true
  all_of p (x ∷ xs) = p x && all_of p xs

  abbrev pub cons_if : Bool → A → List A → List A
  cons_if true x xs = x ∷ xs
  cons_if false x xs = xs

  -- those that pass the test, in their order
  abbrev pub keep : (A → Bool) → List A → List A
  keep p [] = []
  keep p (x ∷ xs) = cons_if (p x) x (keep p xs)

  -- at how many positions the test is passed
  abbrev pub count_of : (A → Bool) → List A → ℕ
  count_of p xs = length (keep p xs)

  -- the first that passes the test, or `d`
  abbrev pub first_or : A → (A → Bool) → List A → A
  first_or d p [] = d
  first_or d p (x ∷ xs) = cond (p x) x (first_or d p xs)

  -- a figure of each, added up
  abbrev pub sum_of : (A → ℕ) → List A → ℕ
  sum_of f [] = 0
  sum_of f (x ∷ xs) = f x + sum_of f xs

-- lists one after the other
abbrev pub joined : {A : Type 0} → List (List A) → List A
joined [] = []
joined (l ∷ ls) = l ++ joined ls

-- n numbers in a row, from a on
abbrev pub numbers : (a n : ℕ) → List ℕ
numbers a zero = []
numbers a (suc n) = a ∷ numbers (suc a) n

-- two rows of figures, compared in turn: the first figures that differ decide
unfoldable pub precedes : List ℕ → List ℕ → Bool
precedes [] [] = false
precedes [] (y ∷ ys) = true
precedes (x ∷ xs) [] = false
precedes (x ∷ xs) (y ∷ ys) = ltb x y || (eqb x y && precedes xs ys)

module _ {A : Type 0} (figures : A → List ℕ) where
  unfoldable pub prior : A → Option A → A
  prior x none = x
  prior x (some y) = cond (precedes (figures y) (figures x)) y x

  -- the one whose figures precede those of all others; none of no list
  unfoldable pub foremost : List A → Option A
  foremost [] = none
  foremost (x ∷ xs) = some (prior x (foremost xs))

-- Between functions: the entries that stay of a column, and what the pass of `keep_staying` gives.
use Rattle.std.specs.Prelude.{◌≡◌, Bool, not, List, [], ◌∷◌, ℕ, ◌≤◌, length, take, drop}
use Rattle.rules.specs.Sequences.{cons_if}

-- the entries beside whose mark the test is passed
abbrev pub by_mark : {A : Type 0} → (Bool → Bool) → List Bool → List A → List A
by_mark p [] values = []
by_mark p (mark ∷ marks) [] = []
by_mark p (mark ∷ marks) (value ∷ values) = cons_if (p mark) value (by_mark p marks values)

-- Of the first so many entries those that stay stand at the front, in their order. From the count on all are as before.
pub record PackedIs {A : Type 0} (old : List A) (leaves : List Bool) (count : ℕ) (new : List A) (r : ℕ) : Type 0 where
  pub long : length new ≡ length old
  pub at_most : r ≤ count
  pub front : take r new ≡ by_mark not (take count leaves) (take count old)
  pub behind : drop count new ≡ drop count old

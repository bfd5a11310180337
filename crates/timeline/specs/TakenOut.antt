-- Between functions: a column without the rows that leave, and blanks past it.
use Rattle.std.specs.Prelude.{◌≡◌, Bool, false, not, List, ℕ, ◌≤◌, ◌<◌, length, get_or}
use Rattle.rules.specs.declared.Row.{Row}
use Rattle.rules.specs.Sequences.{keep}
use Rattle.rules.specs.Placing.{no_row}
use Rattle.timeline.specs.RowLine.{column, Says}

-- the first that leaves, or the count
pub record FirstLeaving (leaves : List Bool) (count r : ℕ) : Type 0 where
  pub at_most : r ≤ count
  pub none_before : (i : ℕ) → i < r → get_or leaves i false ≡ false

-- the rows that stay
abbrev pub left_of : (leaving : Row → Bool) → List Row → List Row
left_of leaving line = keep (λ row. not (leaving row)) line

-- whatever rows it is a column of, and whichever leave: what is left is the column of the others
pub record KeptIs {A : Type 0} (old : List A) (leaves : List Bool) (count : ℕ) (blank : A) (new : List A) (r : ℕ) : Type 0 where
  pub long : length new ≡ length old
  pub at_most : r ≤ count
  pub is :
      (line : List Row) (leaving : Row → Bool) (figure : Row → A) → length line ≡ count → Says leaving line leaves → figure no_row ≡ blank →
      old ≡ column figure line → new ≡ column figure (left_of leaving line)
  pub count_is : (line : List Row) (leaving : Row → Bool) → length line ≡ count → Says leaving line leaves → r ≡ length (left_of leaving line)

-- Between functions: arrays that hold fewer items than they have room for.
use Rattle.std.specs.Prelude.{◌≡◌, List, ℕ, ◌≤◌, ◌<◌, length, get_or}

-- an array of n items: those that were made at the indices below a count, and blank ones past it
pub record MadeBy {A : Type 0} (made : ℕ → A → Type 0) (is_blank : A → Type 0) (n count : ℕ) (items : List A) : Type 0 where
  pub long : length items ≡ n
  pub made_is : (i : ℕ) (none : A) → i < n → i < count → made i (get_or items i none)
  pub past_is : (i : ℕ) (none : A) → i < n → count ≤ i → is_blank (get_or items i none)

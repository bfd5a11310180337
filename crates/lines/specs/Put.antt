-- Between functions: bytes written into a buffer from a place on, every other byte as it was.
use Rattle.std.specs.Prelude.{◌≡◌, List, ◌++◌, ℕ, ◌+◌, length, take, drop}

abbrev pub overwritten : (old : List ℕ) (at : ℕ) (bytes : List ℕ) → List ℕ
overwritten old at bytes = take at old ++ bytes ++ drop (at + length bytes) old

-- the buffer after writing, and the place after the last byte
pub record Puts (old : List ℕ) (at : ℕ) (bytes : List ℕ) (new : List ℕ) (next : ℕ) : Type 0 where
  pub new_is : new ≡ overwritten old at bytes
  pub next_is : next ≡ at + length bytes

-- Between functions: what the reads of the program ask and answer. Of what they read a contract can speak where the reader knows its bytes. Document 01, "The program `register`".
use Rattle.std.specs.Prelude.{◌≡◌, List, ℕ, ◌+◌, ◌≤◌, ◌<◌, length, take, Option, IfSome, Result, Ok, Err}
use Rattle.std.specs.List.{slice_range}
use Rattle.std.specs.Io.KnownBytes.{Keeps, Consumes, IsAtEnd}
use Rattle.script.specs.Program.{input_limit}
use Rattle.register.specs.declared.Failure.{Failure}

-- the reader's next bytes stand from the place on, after what was there; where none came, it has none left
abbrev pub ReadsNext : (before after : Option (List ℕ)) (new : List ℕ) (at : ℕ) → Result ℕ Failure → Type 0
ReadsNext before after new at (Ok next) = Consumes before after (slice_range new at next) × (next ≡ at → IsAtEnd after)
ReadsNext before after new at (Err failure) = Keeps before after

-- room for one byte more than the largest input
pub record AskBuffer (buffer : List ℕ) : Type 0 where
  pub long : length buffer ≡ input_limit + 1

-- The buffer begins with all of a reader's bytes; or with as many of them as were read, where there are more than the limit: no input is cut.
pub record HoldsInput (bytes : Option (List ℕ)) (new : List ℕ) (count : ℕ) : Type 0 where
  pub whole : count ≤ input_limit → IfSome bytes (λ text. take count new ≡ text)
  pub above : input_limit < count → IfSome bytes (λ text. (take count new ≡ take count text) × (input_limit < length text))

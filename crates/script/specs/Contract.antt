-- A reader must believe this: what the offered `run`, and `register_run` of `exports`, do with an input and a buffer. Document 01, "The program `register`".
use Rattle.std.specs.Prelude.{◌≡◌, List, ℕ, ◌≤◌, length, take, drop}
use Rattle.rules.specs.Words.{setup_by_default}
use Rattle.script.specs.Program.{program}

-- the output buffer is large enough for every input: two bytes for each byte read, the reading refusal, and the listing
abbrev pub output_size : ℕ
output_size = 184_320

-- The bytes of the program stand from the buffer's start on, and the rest of it is untouched.
pub record Runs (input old new : List ℕ) (count : ℕ) : Type 0 where
  pub written : take count new ≡ program setup_by_default input
  pub count_is : count ≡ length (program setup_by_default input)
  pub untouched : drop count new ≡ drop count old
  pub fits : count ≤ output_size

-- Between functions: what the parts of a line ask and answer.
use Rattle.std.specs.Prelude.{◌≡◌, true, false, List, ℕ, ◌+◌, ◌-◌, ◌≤◌, ◌<◌, length, take, drop, Some, None}
use Rattle.std.specs.Prelude as Code
use Rattle.lines.specs.declared.keys.Key.{Key}
use Rattle.lines.specs.declared.line.Digits.{Digits}
use Rattle.lines.specs.declared.line.DueLine.{DueLine}
use Rattle.lines.specs.Figures.{bytes, value, field}
use Rattle.lines.specs.Lines.{leading_digits, is_number}
use Rattle.lines.specs.DueLines.{key_bytes}

-- the digits of the largest 64-bit number
abbrev pub word_digits : ℕ
word_digits = 20

-- numbers of so many digits and one more fit a word
abbrev pub most_scanned : ℕ
most_scanned = 18

-- one digit past the most is as good as more: the line is ill-written either way
pub record ScanIs (text : List ℕ) (most : ℕ) (r : Digits) : Type 0 where
  pub few : length (leading_digits text) ≤ most → (r.count ≡ length (leading_digits text)) × (r.value ≡ value (leading_digits text))
  pub many : most < length (leading_digits text) → r.count ≡ most + 1

-- the digits, where a number is well-written
pub record NumberIs (text : List ℕ) (most : ℕ) (r : Code.Option Digits) : Type 0 where
  pub ill_written : is_number most text ≡ false → r ≡ None
  pub good :
      is_number most text ≡ true →
      r ≡ Some (record { count = length (leading_digits text); value = value (leading_digits text) })
  pub some : is_number most text ≡ true → (1 ≤ length (leading_digits text)) × (length (leading_digits text) + 1 ≤ length text)

pub record AskLine (text : List ℕ) (at : ℕ) (due : DueLine) : Type 0 where
  pub within : at ≤ length text
  pub digits : due.digits ≤ most_scanned

-- the row of all keys, and a key that stands there whole
abbrev pub key_row : List ℕ
key_row = bytes "job=sched=tasks=deadline=dispatch=run=messages=from=to=volume=tick="

pub record KeyStands (key : Key) (r : ℕ × ℕ) : Type 0 where
  pub ascends : r.0 ≤ r.1
  pub within : r.1 ≤ length key_row
  pub is : take (r.1 - r.0) (drop r.0 key_row) ≡ key_bytes key

abbrev pub key_field : Key → (figure : ℕ) → List ℕ
key_field key figure = field (key_bytes key) figure

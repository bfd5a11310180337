-- A reader must believe this: what is shown of decimal figures and of what reading answers, so that the definitions say what is meant. Document 01, "Words and
-- ranges" and "Job text".
use Rattle.std.specs.Prelude.{◌≡◌, true, cond, List, [], ◌∷◌, ◌++◌, ℕ, ◌+◌, ◌/◌, ◌%◌, ltb, length, drop, Result}
use Rattle.rules.specs.Sequences.{all_of}
use Rattle.lines.specs.declared.line.Reading.{Reading}
use Rattle.lines.specs.declared.line.Unread.{Unread}
use Rattle.lines.specs.Figures.{zero_digit, is_digit, value, decimal}
use Rattle.lines.specs.Lines.{Parsed, well_written}
use Rattle.lines.specs.Readings.{parsed_number, parsed_place, parsed_value, number_of_reading, reading_place, reading_value, ReadingIs}

-- Decimal figures: one digit, or the digits of a tenth and then the last one, however large the number.
abbrev pub DecimalSteps : Type 0
DecimalSteps = (n : ℕ) → decimal n ≡ cond (ltb n 10) ((zero_digit + n) ∷ []) (decimal (n / 10) ++ ((zero_digit + n % 10) ∷ []))

-- What a number's digits say is the number, and they are the only well-written digits that do.
abbrev pub DecimalSays : Type 0
DecimalSays = (n : ℕ) → value (decimal n) ≡ n

abbrev pub DecimalOnly : Type 0
DecimalOnly = (most : ℕ) (digits : List ℕ) → all_of is_digit digits ≡ true → well_written most digits ≡ true → decimal (value digits) ≡ digits

-- bytes that stand in a text from a place to the next
pub record Stands (bytes text : List ℕ) (at next : ℕ) : Type 0 where
  pub there : drop at text ≡ bytes ++ drop next text
  pub next_is : next ≡ at + length bytes

-- An answer that is the form's has the form's number, place and value.
pub record SaysOf {A : Type 0} (found : Parsed A) (answer : Result (Reading A) Unread) : Type 0 where
  pub number_is : number_of_reading answer ≡ parsed_number found
  pub place_is : reading_place answer ≡ parsed_place found
  pub value_is : reading_value answer ≡ parsed_value found

abbrev pub ReadingSays : Type 0 → Type 0
ReadingSays A = (found : Parsed A) (answer : Result (Reading A) Unread) → ReadingIs found answer → SaysOf found answer

-- A reader must believe this: texts as lists of bytes, and figures in decimal. Document 01, "Words and ranges"; a field is a line of its "Job text".
use Rattle.std.specs.Prelude.{Bool, true, false, ◌&&◌, List, [], ◌∷◌, ◌++◌, ℕ, zero, suc, ◌+◌, ◌-◌, ◌*◌, ◌/◌, ◌%◌, ltb, leb}
use Prim.Native.Char.{code}
use Prim.Native.String.{String, [] as no_text, ◌∷◌ as ◌then◌}

-- a text's bytes; all texts here are ASCII
abbrev pub bytes : String → List ℕ
bytes no_text = []
bytes (c then s) = code c ∷ bytes s

-- the byte of the digit 0; those of 1 to 9 follow it
abbrev pub zero_digit : ℕ
zero_digit = 48

abbrev pub line_feed : ℕ
line_feed = 10

unfoldable pub is_digit : ℕ → Bool
is_digit b = leb zero_digit b && ltb b (zero_digit + 10)

-- what digits say that follow the number n
unfoldable pub value_after : ℕ → List ℕ → ℕ
value_after n [] = n
value_after n (d ∷ ds) = value_after (n * 10 + (d - zero_digit)) ds

abbrev pub value : List ℕ → ℕ
value ds = value_after 0 ds

-- a number's digits, for a number that has at most that many
unfoldable pub digits_within : (most n : ℕ) → List ℕ
digits_within zero n = []
digits_within (suc most) n =
    elim (ltb n 10) [
      | true ↦ (zero_digit + n) ∷ []
      | false ↦ digits_within most (n / 10) ++ ((zero_digit + n % 10) ∷ [])
    ]

-- a number in decimal: the digits of a tenth of it, then the last one. The number n has at most n + 1 digits.
unfoldable pub decimal : ℕ → List ℕ
decimal n = digits_within (suc n) n

-- a key with its equals sign, a number and a line feed
abbrev pub field : (key : List ℕ) → ℕ → List ℕ
field key n = key ++ decimal n ++ (line_feed ∷ [])

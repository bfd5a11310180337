-- A reader must believe this: one line of a text. Document 01, "Job text". Places count bytes from 0 at the start of the text.
use Rattle.std.specs.Prelude.{Bool, true, false, not, ◌&&◌, ◌||◌, cond, List, [], ◌∷◌, ℕ, ◌+◌, leb, eqb, length, get_or, drop}
use Rattle.std.proofs.Math.Option.{Option, none, some}
use Rattle.rules.specs.Refusals.{outside}
use Rattle.lines.specs.Figures.{zero_digit, line_feed, is_digit, value, decimal}

-- What reading finds: a value and the place after it, or a refusal's number and place.
pub data Parsed (A : Type 0) : Type 0 where
  parsed : A → (next : ℕ) → Parsed A
  refused : (number place : ℕ) → Parsed A

-- A line that is due: its key with the equals sign, the most digits of its figure, the figure's range, a figure that is refused within it, if there is one, and
-- the number that refuses.
pub record Due : Type 0 where
  pub key : List ℕ
  pub digits : ℕ
  pub least : ℕ
  pub most : ℕ
  pub except : Option ℕ
  pub refuses : ℕ

-- the digits of every figure but the cost in a stored register, and the largest figure that they say
abbrev pub most_digits : ℕ
most_digits = 10

abbrev pub largest_figure : ℕ
largest_figure = 9_999_999_999

-- a line with its range, which 16 judges
abbrev pub ranged : (key : List ℕ) (least most : ℕ) → Due
ranged key least most = record { key = key; digits = most_digits; least = least; most = most; except = none; refuses = 16 }

-- a line whose range is left to submission: every figure of at most ten digits passes
abbrev pub any_figure_line : (key : List ℕ) → Due
any_figure_line key = ranged key 0 largest_figure

-- byte for byte; no key begins an ended text
unfoldable pub begins : (key text : List ℕ) → Bool
begins [] text = true
begins (k ∷ ks) [] = false
begins (k ∷ ks) (b ∷ bs) = eqb k b && begins ks bs

-- all digits up to the first other byte
unfoldable pub leading_digits : List ℕ → List ℕ
leading_digits [] = []
leading_digits (b ∷ bs) = cond (is_digit b) (b ∷ leading_digits bs) []

-- 1 to so many digits, and no leading zero on a longer number
unfoldable pub well_written : (most : ℕ) → List ℕ → Bool
well_written most digits =
    (leb 1 (length digits) && leb (length digits) most) && (eqb (length digits) 1 || not (eqb (get_or digits 0 0) zero_digit))

-- a number as 15 asks it: such digits, and a line feed after them
abbrev pub is_number : (most : ℕ) → List ℕ → Bool
is_number most text = well_written most (leading_digits text) && begins (line_feed ∷ []) (drop (length (leading_digits text)) text)

abbrev pub is_figure : ℕ → Option ℕ → Bool
is_figure n none = false
is_figure n (some k) = eqb n k

-- the figure is outside its range, or is the one excepted
abbrev pub unfit : Due → ℕ → Bool
unfit due n = outside due.least due.most n || is_figure n due.except

-- What stands after the key: 15, the digits or the line feed after them are missing or ill-written; 16 or the like, the figure is unfit.
unfoldable pub figure : Due → (at : ℕ) → (rest : List ℕ) → Parsed ℕ
figure due at rest =
    cond (not (is_number due.digits rest)) (refused 15 at) (
    cond (unfit due (value (leading_digits rest))) (refused due.refuses at) (
    parsed (value (leading_digits rest)) (at + length due.key + length (leading_digits rest) + 1)
    ))

-- The line at a place. 14: it does not begin with the due key and an equals sign.
unfoldable pub line : Due → (text : List ℕ) → (at : ℕ) → Parsed ℕ
line due text at = cond (not (begins due.key (drop at text))) (refused 14 at) (figure due at (drop (at + length due.key) text))

-- a figure that its line takes
abbrev pub takes : Due → ℕ → Bool
takes due n = not (unfit due n) && leb (length (decimal n)) due.digits

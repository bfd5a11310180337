-- Which bytes are digits.
use mathlib.Core.Path.{◌≡◌, refl}
use mathlib.Core.Bool.{true, false}
use Prim.Native.Nat.{ℕ, ◌+◌, ◌≤◌, ◌<◌}
use native.Mathlib.Omega.{arith}
use lib.Dec.{leb, ltb}
use borrow.Author.Tests.{le-leb, lt-leb, lt-ltb, le-ltb, leb-true, ltb-true}
use Rattle.std.specs.Char.{is_ascii_digit}
use Rattle.rules.proofs.Sequences.{by_less, and_true}
use Rattle.lines.specs.Figures.{zero_digit, is_digit}

-- std's test
pub ascii_digit : (b : ℕ) → is_ascii_digit b ≡ is_digit b
unfolding is_digit
ascii_digit b = by_less b (zero_digit + 10) (λ l. rw (lt-ltb b 58 l, le-leb b 57 (omega arith)) refl) (λ l. rw (le-ltb b 58 l, lt-leb b 57 (omega arith)) refl)

pub digit_yes : (b : ℕ) → zero_digit ≤ b → b < zero_digit + 10 → is_digit b ≡ true
unfolding is_digit
digit_yes b l h = rw (le-leb zero_digit b l, lt-ltb b (zero_digit + 10) h) refl

pub digit_below : (b : ℕ) → b < zero_digit → is_digit b ≡ false
unfolding is_digit
digit_below b h = rw (lt-leb zero_digit b h) refl

pub digit_bounds : (b : ℕ) → is_digit b ≡ true → (zero_digit ≤ b) × (b < zero_digit + 10)
unfolding is_digit
digit_bounds b e =
    let both = and_true (leb zero_digit b) (ltb b (zero_digit + 10)) e in
    (leb-true zero_digit b both.0, ltb-true b (zero_digit + 10) both.1)

-- Numbers in decimal: how their digits are made, what the digits say, how many they are, and that no other digits are well written.
use mathlib.Core.Path.{◌≡◌, refl, sym, ap, ◌∙◌}
use mathlib.Core.Bool.{Bool, true, false, not, ◌&&◌, ◌||◌}
use mathlib.Core.List.{List, [], ◌∷◌, ◌++◌, append_assoc, append-nil}
use Prim.Native.Nat.{ℕ, zero, suc, ◌+◌, ◌-◌, ◌*◌, ◌/◌, ◌%◌, ◌^◌, ◌≤◌, ◌<◌}
use native.Mathlib.Nat.{pow-suc, one-le-pow}
use native.Mathlib.Omega.{arith}
use Rattle.std.specs.Prelude.{Option, None, Some, MatchOption, IfSome, IfNone}
use lib.Dec.{ltb, leb, eqb}
use lib.ListN.{length, get_or, length-append, get_or-append}
use borrow.Author.Tests.{eqb-true, lt-ltb, le-ltb, le-leb, ne_eqb, eq-eqb}
use Rattle.rules.specs.Sequences.{all_of}
use Rattle.rules.proofs.Sequences.{by_test, clash, and_true, and_both, or_left, or_right, by_less}
use Rattle.lines.specs.Figures.{zero_digit, is_digit, value_after, value, digits_within, decimal}
use Rattle.lines.specs.Lines.{most_digits, largest_figure, well_written}
use Rattle.lines.specs.Parts.{word_digits}
use Rattle.lines.specs.Laws.{DecimalSteps, DecimalSays, DecimalOnly}
use Rattle.lines.proofs.Digits.{digit_yes, digit_bounds}

module _ (most n : ℕ) where
  -- one digit is enough, or it is not
  abbrev sized : Bool → List ℕ
  sized true = (zero_digit + n) ∷ []
  sized false = digits_within most (n / 10) ++ ((zero_digit + n % 10) ∷ [])

  by_size : {t : Bool} → ltb n 10 ≡ t → digits_within (suc most) n ≡ sized t
  unfolding digits_within
  by_size e = ap sized e

  within_small : n < 10 → digits_within (suc most) n ≡ (zero_digit + n) ∷ []
  within_small h = by_size (lt-ltb n 10 h)

  within_step : 10 ≤ n → digits_within (suc most) n ≡ digits_within most (n / 10) ++ ((zero_digit + n % 10) ∷ [])
  within_step h = by_size (le-ltb n 10 h)

-- any room above the number is enough
within_same : (a b n : ℕ) → n < a → n < b → digits_within a n ≡ digits_within b n
within_same zero b n h k = absurd (omega arith)
within_same (suc a) zero n h k = absurd (omega arith)
within_same (suc a) (suc b) n h k =
    by_less
    n
    10
    (λ l. within_small a n l ∙ sym (within_small b n l))
    (λ l.
    within_step a n l
    ∙ ap (λ l. l ++ ((zero_digit + n % 10) ∷ [])) (within_same a b (n / 10) (omega arith) (omega arith))
    ∙ sym (within_step b n l))

pub decimal_small : (n : ℕ) → n < 10 → decimal n ≡ (zero_digit + n) ∷ []
unfolding decimal
decimal_small n h = within_small n n h

pub decimal_step : (n : ℕ) → 10 ≤ n → decimal n ≡ decimal (n / 10) ++ ((zero_digit + n % 10) ∷ [])
unfolding decimal
decimal_step n h =
    within_step n n h ∙ ap (λ l. l ++ ((zero_digit + n % 10) ∷ [])) (within_same n (suc (n / 10)) (n / 10) (omega arith) (omega arith))

pub decimal_steps : DecimalSteps
decimal_steps n =
    by_less n 10 (λ h. rw (lt-ltb n 10 h) (decimal_small n h)) (λ h. rw (le-ltb n 10 h) (decimal_step n h))

-- what holds of one digit, and with a tenth of the number holds of the number, holds of every number
pub by_digits : (P : ℕ → Type 0) → ((n : ℕ) → n < 10 → P n) → ((n : ℕ) → 10 ≤ n → P (n / 10) → P n) → (n : ℕ) → P n
by_digits P small step n = go (suc n) n (omega arith)
  where
    go : (most n : ℕ) → n < most → P n
    go zero n h = absurd (omega arith)
    go (suc most) n h = by_less n 10 (λ l. small n l) (λ l. step n l (go most (n / 10) (omega arith)))

-- What digits say.

pub value_append : (n : ℕ) (a b : List ℕ) → value_after n (a ++ b) ≡ value_after (value_after n a) b
unfolding value_after
value_append n [] b = refl
value_append n (d ∷ a) b = value_append (n * 10 + (d - zero_digit)) a b

pub decimal_says : DecimalSays
unfolding value_after
decimal_says =
    by_digits
    (λ n. value (decimal n) ≡ n)
    (λ n h. rw (decimal_small n h) (omega arith))
    (λ n h below. rw (decimal_step n h, value_append 0 (decimal (n / 10)) ((zero_digit + n % 10) ∷ []), below) (omega arith))

-- Which digits a number has.

pub all_append : {A : Type 0} (p : A → Bool) (a b : List A) → all_of p a ≡ true → all_of p b ≡ true → all_of p (a ++ b) ≡ true
all_append p [] b h k = k
all_append p (x ∷ a) b h k =
    let both = and_true (p x) (all_of p a) h in
    and_both (p x) (all_of p (a ++ b)) both.0 (all_append p a b both.1 k)

one_digit : (d : ℕ) → d < 10 → all_of is_digit ((zero_digit + d) ∷ []) ≡ true
one_digit d h = rw (digit_yes (zero_digit + d) (omega arith) (omega arith)) refl

pub decimal_digits : (n : ℕ) → all_of is_digit (decimal n) ≡ true
decimal_digits =
    by_digits
    (λ n. all_of is_digit (decimal n) ≡ true)
    (λ n h. rw (decimal_small n h) (one_digit n h))
    (λ n h below. rw (decimal_step n h) (all_append is_digit (decimal (n / 10)) ((zero_digit + n % 10) ∷ []) below (one_digit (n % 10) (omega arith))))

-- How many they are.

step_length : (n : ℕ) → 10 ≤ n → length (decimal n) ≡ length (decimal (n / 10)) + 1
step_length n h = rw (decimal_step n h) (length-append (decimal (n / 10)) ((zero_digit + n % 10) ∷ []))

small_length : (n : ℕ) → n < 10 → length (decimal n) ≡ 1
small_length n h = rw (decimal_small n h) refl

pub decimal_some : (n : ℕ) → 1 ≤ length (decimal n)
decimal_some n = by_less n 10 (λ h. omega (arith, small_length n h)) (λ h. omega (arith, step_length n h))

pub decimal_length : (k n : ℕ) → 1 ≤ k → n < 10 ^ k → length (decimal n) ≤ k
decimal_length zero n some h = absurd (omega arith)
decimal_length (suc k) n some h =
    by_less
    n
    10
    (λ l. omega (arith, small_length n l))
    (λ l.
    let p = pow-suc 10 k in
    let below : n / 10 < 10 ^ k = omega arith in
    let s = step_length n l in
    let r = decimal_length k (n / 10) (more k below l) below in
    omega arith)
  where
    more : (j : ℕ) → n / 10 < 10 ^ j → 10 ≤ n → 1 ≤ j
    more zero b l = absurd (omega arith)
    more (suc j) b l = omega arith

-- a number has a digit for each power of ten that it reaches, and one
power_reached : (k n : ℕ) → 10 ^ k ≤ n → k + 1 ≤ length (decimal n)
power_reached zero n h = decimal_some n
power_reached (suc k) n h =
    let p = pow-suc 10 k in
    let some = one-le-pow k 10 (omega arith) in
    let below = power_reached k (n / 10) (omega arith) in
    omega (arith, step_length n (omega arith))

pub figure_length : (n : ℕ) → n ≤ largest_figure → length (decimal n) ≤ most_digits
figure_length n h = decimal_length most_digits n (omega arith) (omega arith)

pub word_length : (n : ℕ) → n < 2 ^ 64 → length (decimal n) ≤ word_digits
word_length n h = decimal_length word_digits n (omega arith) (omega arith)

-- the width of a number, by the largest power of ten that it reaches; 0 reaches none
pub logarithm_width : (n : ℕ) (l : Option ℕ) → IfNone l (n ≡ 0) → IfSome l (λ k. 10 ^ k ≤ n) → IfSome l (λ k. n < 10 * 10 ^ k) →
    {width : ℕ} {Said : ℕ → Type 0} → MatchOption l (width ≡ 1) Said → ((k : ℕ) → Said k → width ≡ k + 1) → width ≡ length (decimal n)
logarithm_width n None none low high w said = omega (arith, small_length n (omega arith))
logarithm_width n (Some k) none low high w said =
    let p = pow-suc 10 k in
    let e = said k w in
    omega (arith, decimal_length (suc k) n (omega arith) (omega arith), power_reached k n low)

-- No leading zero.

pub leading_digit : (n : ℕ) → 1 ≤ n → get_or (decimal n) 0 0 ≡ zero_digit → ⊥
leading_digit =
    by_digits
    (λ n. 1 ≤ n → get_or (decimal n) 0 0 ≡ zero_digit → ⊥)
    (λ n h some e. let z : zero_digit + n ≡ zero_digit = rw (decimal_small n h) at e in omega arith)
    (λ n h below some e.
    below
    (omega arith)
    (sym (get_or-append (decimal (n / 10)) ((zero_digit + n % 10) ∷ []) 0 0 (decimal_some (n / 10))) ∙ (rw (decimal_step n h) at e)))

pub decimal_well_written : (most n : ℕ) → length (decimal n) ≤ most → well_written most (decimal n) ≡ true
unfolding well_written
decimal_well_written most n h =
    and_both
    (leb 1 (length (decimal n)) && leb (length (decimal n)) most)
    (eqb (length (decimal n)) 1 || not (eqb (get_or (decimal n) 0 0) zero_digit))
    (and_both
    (leb 1 (length (decimal n)))
    (leb (length (decimal n)) most)
    (le-leb 1 (length (decimal n)) (decimal_some n))
    (le-leb (length (decimal n)) most h))
    (by_less
    n
    10
    (λ l. or_left (eqb (length (decimal n)) 1) (not (eqb (get_or (decimal n) 0 0) zero_digit)) (eq-eqb (length (decimal n)) 1 (small_length n l)))
    (λ l.
    or_right
    (eqb (length (decimal n)) 1)
    (not (eqb (get_or (decimal n) 0 0) zero_digit))
    (rw (ne_eqb (get_or (decimal n) 0 0) zero_digit (leading_digit n (omega arith))) refl)))

-- They are the only well-written digits that say the number.

-- digits after a number that is not 0
decimal_after : (n : ℕ) (ds : List ℕ) → 1 ≤ n → all_of is_digit ds ≡ true → decimal (value_after n ds) ≡ decimal n ++ ds
unfolding value_after
decimal_after n [] h e = sym (append-nil (decimal n))
decimal_after n (d ∷ ds) h e =
    let both = and_true (is_digit d) (all_of is_digit ds) e in
    let b = digit_bounds d both.0 in
    let m : ℕ = n * 10 + (d - zero_digit) in
    let tenth : m / 10 ≡ n = omega arith in
    let last : zero_digit + m % 10 ≡ d = omega arith in
    decimal_after m ds (omega arith) both.1
    ∙ ap (λ l. l ++ ds) (decimal_step m (omega arith))
    ∙ ap (λ k. (decimal k ++ ((zero_digit + m % 10) ∷ [])) ++ ds) tenth
    ∙ ap (λ k. (decimal n ++ (k ∷ [])) ++ ds) last
    ∙ append_assoc (decimal n) (d ∷ []) ds

pub decimal_only : DecimalOnly
unfolding well_written value_after
decimal_only most [] e w = clash w refl
decimal_only most (d ∷ ds) e w =
    let both = and_true (is_digit d) (all_of is_digit ds) e in
    let b = digit_bounds d both.0 in
    by_less
    zero_digit
    d
    (λ l.
    decimal_after (0 * 10 + (d - zero_digit)) ds (omega arith) both.1
    ∙ ap (λ l. l ++ ds) (decimal_small (0 * 10 + (d - zero_digit)) (omega arith))
    ∙ (let s : zero_digit + (0 * 10 + (d - zero_digit)) ≡ d = omega arith in ap (λ k. k ∷ ds) s))
    (λ l.
    let z : d ≡ zero_digit = omega arith in
    let one : eqb (suc (length ds)) 1 ≡ true =
    by_test
    (eqb (suc (length ds)) 1)
    (λ t. t)
    (λ f. clash (and_true (leb 1 (suc (length ds)) && leb (suc (length ds)) most) (eqb (suc (length ds)) 1 || not (eqb d zero_digit)) w).1 (rw (f, z) refl))
    in
    alone ds (let o = eqb-true (suc (length ds)) 1 one in omega arith) z)
  where
    alone : (ds : List ℕ) → length ds ≡ 0 → d ≡ zero_digit → decimal (value (d ∷ ds)) ≡ d ∷ ds
    alone [] l z = rw z (decimal_small 0 (omega arith))
    alone (x ∷ xs) l z = absurd (omega arith)

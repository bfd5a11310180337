-- Reading digits one by one.
use mathlib.Core.Path.{◌≡◌, refl, sym, ap, ◌∙◌}
use mathlib.Core.Bool.{true, false}
use mathlib.Core.List.{List, [], ◌∷◌}
use Prim.Native.Nat.{ℕ, suc, ◌+◌, ◌-◌, ◌*◌, ◌^◌, ◌≤◌, ◌<◌, min}
use native.Mathlib.Nat.{pow-suc, pow-le-pow_right}
use native.Mathlib.Omega.{arith}
use native.Mathlib.Numerals.{add-one}
use lib.ListN.{length, get_or, drop, drop_of_length-le}
use lib.Seq.{drop-cons}
use Rattle.rules.proofs.Sequences.{by_less}
use Rattle.lines.specs.Figures.{zero_digit, is_digit, value_after, value}
use Rattle.lines.specs.Lines.{leading_digits}
use Rattle.lines.specs.Parts.{most_scanned, ScanIs}
use Rattle.lines.proofs.Digits.{digit_bounds}

-- after i digits that say v
pub record Scanned (text : List ℕ) (v i : ℕ) : Type 0 where
  pub long : length (leading_digits text) ≡ i + length (leading_digits (drop i text))
  pub says : value (leading_digits text) ≡ value_after v (leading_digits (drop i text))
  pub bound : v < 10 ^ i

module _ {text : List ℕ} {v i : ℕ} (w : Scanned text v i) where
  pub scanned_more : i < length text → is_digit (get_or text i 0) ≡ true → Scanned text (v * 10 + (get_or text i 0 - zero_digit)) (i + 1)
  unfolding leading_digits value_after
  scanned_more h d =
      let next : leading_digits (drop i text) ≡ get_or text i 0 ∷ leading_digits (drop (suc i) text) = rw (drop-cons text i 0 h, d) refl in
      let p = pow-suc 10 i in
      let b = w.bound in
      let r = digit_bounds (get_or text i 0) d in
      record {
        long = let l = w.long in let n = ap length next in rw (add-one i) (omega arith);
        says = w.says ∙ rw (next, add-one i) refl;
        bound = rw (add-one i, p) (omega arith);
      }

  -- so many digits and one more say a number that fits a word
  pub scan_bound : i ≤ most_scanned → v < 10 ^ most_scanned
  scan_bound few =
      let p : 10 ^ i ≤ 10 ^ most_scanned = pow-le-pow_right (omega arith) few in
      let b = w.bound in
      omega arith

  module _ {most : ℕ} where
    scan_stops : i ≤ most → leading_digits (drop i text) ≡ [] → ScanIs text most (record { count = i; value = v })
    unfolding value_after
    scan_stops m e =
        let l = w.long in
        let z = ap length e in
        record { few = λ _. (omega arith, sym (w.says ∙ rw e refl)); many = λ h. absurd (omega arith) }

    pub scan_other : i ≤ most → i < length text → is_digit (get_or text i 0) ≡ false → ScanIs text most (record { count = i; value = v })
    unfolding leading_digits
    scan_other m h e = scan_stops m (rw (drop-cons text i 0 h, e) refl)

    -- all that are looked at are digits
    pub scan_all : i ≡ min (length text) (most + 1) → ScanIs text most (record { count = i; value = v })
    unfolding leading_digits
    scan_all e =
        by_less
        most
        i
        (λ h. let l = w.long in record { few = λ k. absurd (omega arith); many = λ _. omega arith })
        (λ h. let ends : length text ≤ i = omega arith in scan_stops h (rw (drop_of_length-le text ends) refl))

-- A line, from the comparison of its key and the number after it.
use mathlib.Core.Path.{◌≡◌, refl}
use mathlib.Core.Bool.{true, false}
use mathlib.Core.List.{List}
use Prim.Native.Nat.{ℕ, ◌+◌}
use lib.ListN.{length, drop}
use lib.Seq.{drop-drop}
use Rattle.std.specs.Prelude.{Some, None}
use Rattle.rules.proofs.Sequences.{by_test}
use Rattle.lines.specs.declared.line.Digits.{Digits}
use Rattle.lines.specs.Figures.{value}
use Rattle.lines.specs.Lines.{parsed, refused, Due, begins, leading_digits, is_number, unfit, figure, line}
use Rattle.lines.specs.Parts.{NumberIs}

module _ (due : Due) (text : List ℕ) (at : ℕ) where
  -- what stands after the key
  abbrev rest : List ℕ
  rest = drop (length due.key) (drop at text)

  pub not_begun : begins due.key (drop at text) ≡ false → refused 14 at ≡ line due text at
  unfolding line
  not_begun e = rw e refl

  module _ (b : begins due.key (drop at text) ≡ true) where
    begun_line : line due text at ≡ figure due at rest
    unfolding line
    begun_line = rw (b, drop-drop (length due.key) at text) refl

    pub ill_line : NumberIs rest due.digits None → refused 15 at ≡ line due text at
    unfolding figure
    ill_line found =
        let ill : is_number due.digits rest ≡ false = by_test (is_number due.digits rest) (λ t. let e = found.good t in cc) (λ f. f) in
        rw (begun_line, ill) refl

    module _ {d : Digits} (found : NumberIs rest due.digits (Some d)) where
      good : is_number due.digits rest ≡ true
      good = by_test (is_number due.digits rest) (λ t. t) (λ f. let e = found.ill_written f in cc)

      counted : length (leading_digits rest) ≡ d.count
      counted = let e = found.good good in cc

      says : value (leading_digits rest) ≡ d.value
      says = let e = found.good good in cc

      pub unfit_line : unfit due d.value ≡ true → refused due.refuses at ≡ line due text at
      unfolding figure
      unfit_line u = rw (begun_line, good, says, u) refl

      pub good_line : unfit due d.value ≡ false → parsed d.value (at + length due.key + d.count + 1) ≡ line due text at
      unfolding figure
      good_line u = rw (begun_line, good, says, counted, u) refl

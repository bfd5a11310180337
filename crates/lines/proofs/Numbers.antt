-- Which digits make a number: each test of `number`, as 15 judges it.
use mathlib.Core.Path.{◌≡◌, refl, sym, ◌∙◌}
use mathlib.Core.Bool.{true, false, not, ◌||◌}
use mathlib.Core.List.{List, [], ◌∷◌}
use Prim.Native.Nat.{ℕ, ◌≤◌, ◌<◌}
use native.Mathlib.Omega.{arith}
use lib.Dec.{eqb}
use lib.ListN.{length, get_or, drop, length-drop, drop_of_length-le}
use lib.Seq.{drop-cons}
use borrow.Author.Tests.{le-leb, lt-leb, ne_eqb}
use denote.Bor.{Bor}
use Rattle.std.specs.Prelude.{Option, Some, None}
use Rattle.std.specs.Option.{option_eq}
use Rattle.std.proofs.lemmas.Cmp.{nat_eq_equiv}
use Rattle.std.specs.Slice.{IsItemAt}
use Rattle.std.proofs.Math.Bool.{and-false, and-true}
use Rattle.rules.proofs.Sequences.{by_test, by_less, clash}
use Rattle.lines.specs.declared.line.Digits.{Digits}
use Rattle.lines.specs.Figures.{zero_digit, line_feed, is_digit}
use Rattle.lines.specs.Lines.{begins, leading_digits, well_written, is_number}
use Rattle.lines.specs.Parts.{ScanIs, NumberIs}
use Rattle.lines.proofs.Begun.{key_fits}

-- the first of several digits is the text's first byte
first_digit : (text : List ℕ) → 1 ≤ length (leading_digits text) → get_or (leading_digits text) 0 0 ≡ get_or text 0 0
unfolding leading_digits
first_digit [] h = absurd (omega arith)
first_digit (b ∷ bs) h =
    by_test
    (is_digit b)
    (λ e. rw e refl)
    (λ e. absurd (let z : length (leading_digits (b ∷ bs)) ≡ 0 = rw e refl in omega arith))

-- `get` at the place after the digits, compared with a line feed
pub feed_is :
    (text : List ℕ) (i : ℕ) (found : Option (Bor ℕ)) (feed : Bor ℕ) → IsItemAt text i found → feed.now ≡ line_feed →
    option_eq (λ x y. eqb x.now y.now) found (Some feed) ≡ begins (line_feed ∷ []) (drop i text)
unfolding begins
feed_is text i None feed its e = rw (drop_of_length-le text its.3) refl
feed_is text i (Some x) feed its e =
    let here = its.3 in
    let is = here.1 0 in
    rw (drop-cons text i 0 here.0, e, is, and-true (eqb line_feed (get_or text i 0))) (nat_eq_equiv.symm (get_or text i 0) line_feed)

ill : {text : List ℕ} {most : ℕ} → is_number most text ≡ false → NumberIs text most None
ill e = record { ill_written = λ _. refl; good = λ t. clash t e; some = λ t. clash t e }

module _ {text : List ℕ} {most : ℕ} {d : Digits} (scan : ScanIs text most d) where
  -- no more than the most were found: they are all
  all_found : d.count ≤ most → length (leading_digits text) ≤ most
  all_found h = by_less most (length (leading_digits text)) (λ l. absurd (let m = scan.many l in omega arith)) (λ l. l)

  counted : d.count ≤ most → length (leading_digits text) ≡ d.count
  counted h = sym (scan.few (all_found h)).0

  pub no_digits : d.count ≡ 0 → NumberIs text most None
  unfolding well_written
  no_digits e =
      let l : length (leading_digits text) ≡ 0 = counted (omega arith) ∙ e in
      ill (rw (lt-leb 1 (length (leading_digits text)) (omega arith)) refl)

  pub too_many : most < d.count → NumberIs text most None
  unfolding well_written
  too_many h =
      let l : most < length (leading_digits text) =
      by_less most (length (leading_digits text)) (λ k. k) (λ k. absurd (let m = (scan.few k).0 in omega arith))
      in
      ill (rw (lt-leb (length (leading_digits text)) most l, le-leb 1 (length (leading_digits text)) (omega arith)) refl)

  pub no_feed : d.count ≤ most → begins (line_feed ∷ []) (drop d.count text) ≡ false → NumberIs text most None
  no_feed h e = ill (rw (counted h, e) (and-false (well_written most (leading_digits text))))

  pub leading_zero : 2 ≤ d.count → d.count ≤ most → get_or text 0 0 ≡ zero_digit → NumberIs text most None
  unfolding well_written
  leading_zero more h z =
      let l = counted h in
      ill
      (rw (
        le-leb 1 (length (leading_digits text)) (omega arith),
        le-leb (length (leading_digits text)) most (omega arith),
        ne_eqb (length (leading_digits text)) 1 (λ e. omega arith),
        first_digit text (omega arith),
        z,
      )
      refl)

  -- a number, one digit or more without a leading zero, and its line feed
  pub well :
      1 ≤ d.count → d.count ≤ most → begins (line_feed ∷ []) (drop d.count text) ≡ true →
      (eqb d.count 1 || not (eqb (get_or text 0 0) zero_digit)) ≡ true → NumberIs text most (Some d)
  unfolding well_written
  well some h feed lead =
      let c = counted h in
      let yes : is_number most text ≡ true =
      rw (
        le-leb 1 (length (leading_digits text)) (omega arith),
        le-leb (length (leading_digits text)) most (omega arith),
        first_digit text (omega arith),
        c,
        lead,
        feed,
      )
      refl
      in
      let fits = key_fits (line_feed ∷ []) (drop d.count text) feed in
      let l = length-drop d.count text in
      record {
        ill_written = λ e. clash yes e;
        good = λ _. let found = scan.few (all_found h) in rw (← found.0, ← found.1) refl;
        some = λ _. (omega arith, omega arith);
      }

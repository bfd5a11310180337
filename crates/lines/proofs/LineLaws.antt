-- One line: a figure that was read stands there as it is written, a figure that stands there reads, and no byte past the line feed matters.
use mathlib.Core.Path.{◌≡◌, refl, sym, ap, ◌∙◌, subst}
use mathlib.Core.Bool.{true, false, not, ◌&&◌, cond}
use mathlib.Core.List.{List, [], ◌∷◌, ◌++◌, append_assoc}
use Prim.Native.Nat.{ℕ, ◌+◌, ◌≤◌}
use native.Mathlib.Omega.{arith}
use lib.Dec.{leb, eqb}
use lib.ListN.{length, drop, length-append}
use lib.Seq.{drop-drop, drop-append-le, drop-append_seam}
use borrow.Author.Tests.{eqb-false, ne_eqb, not-true, le-leb, leb-true}
use Rattle.rules.specs.Sequences.{any_of}
use Rattle.rules.proofs.Sequences.{by_test, and_true, and_both, or_false}
use Rattle.lines.specs.Figures.{line_feed, is_digit, value, decimal, field}
use Rattle.lines.specs.Lines.{Parsed, parsed, refused, Due, begins, leading_digits, well_written, is_number, unfit, figure, line}
use Rattle.lines.specs.Lines.{takes}
use Rattle.lines.specs.Laws.{Stands}
use Rattle.lines.proofs.Begun.{begun, begins_own, key_fits}
use Rattle.lines.proofs.Digits.{digit_below}
use Rattle.lines.proofs.Decimals.{decimal_says, decimal_digits, decimal_only, decimal_well_written}
use Rattle.lines.proofs.Standing.{stands_join, stands_there, leading_split, leading_are, leading_own}

-- a figure that its line takes, apart
pub record Fits (due : Due) (n : ℕ) : Type 0 where
  pub in_range : unfit due n ≡ false
  pub short : length (decimal n) ≤ due.digits

pub fits_takes : {due : Due} {n : ℕ} → Fits due n → takes due n ≡ true
fits_takes {due} {n} f = and_both (not (unfit due n)) (leb (length (decimal n)) due.digits) (ap not f.in_range) (le-leb _ _ f.short)

pub takes_fits : {due : Due} {n : ℕ} → takes due n ≡ true → Fits due n
takes_fits {due} {n} e =
    let both = and_true (not (unfit due n)) (leb (length (decimal n)) due.digits) e in
    record { in_range = not-true (unfit due n) both.0; short = leb-true _ _ both.1 }

-- A line that was read stands there as it is written.
module _ (due : Due) (text : List ℕ) (at : ℕ) where
  abbrev rest : List ℕ
  rest = drop (at + length due.key) text

  abbrev digits : List ℕ
  digits = leading_digits rest

  stands_line : begins due.key (drop at text) ≡ true → begins (line_feed ∷ []) (drop (length digits) rest) ≡ true →
      Stands (due.key ++ digits ++ (line_feed ∷ [])) text at (at + length due.key + length digits + 1)
  stands_line b f =
      let end : ℕ = at + length due.key + length digits in
      let feed : begins (line_feed ∷ []) (drop end text) ≡ true =
      subst (λ l. begins (line_feed ∷ []) l ≡ true) (drop-drop (length digits) (at + length due.key) text) f in
      stands_join
      (stands_join (stands_there due.key text at (begun due.key (drop at text) b))
      (stands_there digits text (at + length due.key) (leading_split rest)))
      (stands_there (line_feed ∷ []) text end (begun (line_feed ∷ []) (drop end text) feed))

  -- the cases of a line
  pub line_by :
      (P : Parsed ℕ → Type 0) → P (refused 14 at) → P (refused 15 at) → (unfit due (value digits) ≡ true → P (refused due.refuses at)) →
      (begins due.key (drop at text) ≡ true → is_number due.digits rest ≡ true → unfit due (value digits) ≡ false →
      P (parsed (value digits) (at + length due.key + length digits + 1))) → P (line due text at)
  unfolding line figure
  line_by P p14 p15 p16 p =
      by_test
      (begins due.key (drop at text))
      (λ b.
      by_test
      (is_number due.digits rest)
      (λ i. by_test (unfit due (value digits)) (λ o. rw (b, i, o) (p16 o)) (λ o. rw (b, i, o) (p b i o)))
      (λ i. rw (b, i) p15))
      (λ b. rw b p14)

  short_digits : well_written due.digits digits ≡ true → length digits ≤ due.digits
  unfolding well_written
  short_digits w =
      let counted = (and_true (leb 1 (length digits) && leb (length digits) due.digits) _ w).0 in
      leb-true (length digits) due.digits (and_true (leb 1 (length digits)) (leb (length digits) due.digits) counted).1

  pub line_took : (n next : ℕ) → line due text at ≡ parsed n next → Fits due n × Stands (field due.key n) text at next
  line_took n next =
      line_by
      (λ p. p ≡ parsed n next → Fits due n × Stands (field due.key n) text at next)
      (λ e. absurd (let f : ◌≡◌ {A = ℕ} 0 1 = cc in omega arith))
      (λ e. absurd (let f : ◌≡◌ {A = ℕ} 0 1 = cc in omega arith))
      (λ o e. absurd (let f : ◌≡◌ {A = ℕ} 0 1 = cc in omega arith))
      (λ b i o e.
      let v : value digits ≡ n = cc in
      let f : at + length due.key + length digits + 1 ≡ next = cc in
      let both = and_true (well_written due.digits digits) (begins (line_feed ∷ []) (drop (length digits) rest)) i in
      let d : digits ≡ decimal n = sym (decimal_only due.digits digits (leading_are rest) both.0) ∙ ap decimal v in
      let s = stands_line b both.1 in (
        record { in_range = subst (λ k. unfit due k ≡ false) v o; short = subst (λ l. length l ≤ due.digits) d (short_digits both.0) },
        subst (λ k. Stands (due.key ++ decimal n ++ (line_feed ∷ [])) text at k) f
            (subst (λ l. Stands (due.key ++ l ++ (line_feed ∷ [])) text at (at + length due.key + length digits + 1)) d s),
      ))

  -- a refusal's place is that of the line
  pub line_place : (number place : ℕ) → line due text at ≡ refused number place → place ≡ at
  line_place number place =
      line_by
      (λ p. p ≡ refused number place → place ≡ at)
      (λ e. cc)
      (λ e. cc)
      (λ o e. cc)
      (λ b i o e. absurd (let f : ◌≡◌ {A = ℕ} 0 1 = cc in omega arith))

-- A line that stands there as it is written reads.
module _ (due : Due) (n : ℕ) (fits : Fits due n) where
  figure_reads : (at : ℕ) (rest : List ℕ) → figure due at (decimal n ++ line_feed ∷ rest) ≡ parsed n (at + length due.key + length (decimal n) + 1)
  unfolding figure
  figure_reads at rest =
      rw (
        leading_own (decimal n) rest (decimal_digits n),
        drop-append_seam (decimal n) (line_feed ∷ rest),
        decimal_well_written due.digits n fits.short,
        begins_own (line_feed ∷ []) rest,
        decimal_says n,
        fits.in_range,
      )
      refl

  pub line_reads : {text : List ℕ} {at next : ℕ} → Stands (field due.key n) text at next → line due text at ≡ parsed n next
  unfolding line
  line_reads {text} {at} {next} s =
      let after : List ℕ = drop next text in
      let there : drop at text ≡ due.key ++ (decimal n ++ line_feed ∷ after) =
      s.there ∙ append_assoc (due.key ++ decimal n) (line_feed ∷ []) after ∙ append_assoc due.key (decimal n) (line_feed ∷ after)
      in
      let past : drop (at + length due.key) text ≡ decimal n ++ line_feed ∷ after =
      sym (drop-drop (length due.key) at text) ∙ ap (drop (length due.key)) there ∙ drop-append_seam due.key (decimal n ++ line_feed ∷ after)
      in
      let l₁ = length-append (due.key ++ decimal n) (line_feed ∷ []) in
      let l₂ = length-append due.key (decimal n) in
      let i = s.next_is in
      let end : at + length due.key + length (decimal n) + 1 ≡ next = omega arith in
      rw (there, begins_own due.key (decimal n ++ line_feed ∷ after), past, figure_reads at after, end) refl

-- No byte past a line feed matters to the line.

begins_line : (key bytes rest : List ℕ) → any_of (eqb line_feed) key ≡ false → begins key (bytes ++ line_feed ∷ rest) ≡ begins key bytes
unfolding begins
begins_line [] bytes rest e = refl
begins_line (k ∷ ks) [] rest e =
    let n = eqb-false line_feed k (or_false (eqb line_feed k) (any_of (eqb line_feed) ks) e).0 in
    rw (ne_eqb k line_feed (λ q. n (sym q))) refl
begins_line (k ∷ ks) (b ∷ bs) rest e = ap (λ t. eqb k b && t) (begins_line ks bs rest (or_false (eqb line_feed k) (any_of (eqb line_feed) ks) e).1)

leading_line : (bytes rest : List ℕ) → leading_digits (bytes ++ line_feed ∷ rest) ≡ leading_digits bytes
unfolding leading_digits
leading_line [] rest = rw (digit_below line_feed (omega arith)) refl
leading_line (b ∷ bs) rest = ap (λ l. cond (is_digit b) (b ∷ l) []) (leading_line bs rest)

feed_next : (bytes r s : List ℕ) → begins (line_feed ∷ []) (bytes ++ line_feed ∷ r) ≡ begins (line_feed ∷ []) (bytes ++ line_feed ∷ s)
unfolding begins
feed_next [] r s = refl
feed_next (b ∷ bs) r s = refl

leading_fits : (l : List ℕ) → length (leading_digits l) ≤ length l
leading_fits l =
    let e = ap length (leading_split l) in
    let a = length-append (leading_digits l) (drop (length (leading_digits l)) l) in
    omega arith

module _ (due : Due) (at : ℕ) where
  figure_same : (bytes r s : List ℕ) → figure due at (bytes ++ line_feed ∷ r) ≡ figure due at (bytes ++ line_feed ∷ s)
  unfolding figure
  figure_same bytes r s =
      rw (
        leading_line bytes r,
        leading_line bytes s,
        drop-append-le (length (leading_digits bytes)) bytes (line_feed ∷ r) (leading_fits bytes),
        drop-append-le (length (leading_digits bytes)) bytes (line_feed ∷ s) (leading_fits bytes),
        feed_next (drop (length (leading_digits bytes)) bytes) r s,
      )
      refl

  -- a line, by the bytes that stand at the place
  abbrev line_at : List ℕ → Parsed ℕ
  line_at l = cond (not (begins due.key l)) (refused 14 at) (figure due at (drop (length due.key) l))

  line_is : (text : List ℕ) → line due text at ≡ line_at (drop at text)
  unfolding line
  line_is text = ap (λ r. cond (not (begins due.key (drop at text))) (refused 14 at) (figure due at r)) (sym (drop-drop (length due.key) at text))

  line_at_same : (bytes r s : List ℕ) → any_of (eqb line_feed) due.key ≡ false → line_at (bytes ++ line_feed ∷ r) ≡ line_at (bytes ++ line_feed ∷ s)
  line_at_same bytes r s f =
      by_test
      (begins due.key bytes)
      (λ b.
      rw (
        begins_line due.key bytes r f,
        begins_line due.key bytes s f,
        b,
        drop-append-le (length due.key) bytes (line_feed ∷ r) (key_fits due.key bytes b),
        drop-append-le (length due.key) bytes (line_feed ∷ s) (key_fits due.key bytes b),
      )
      (figure_same (drop (length due.key) bytes) r s))
      (λ b. rw (begins_line due.key bytes r f, begins_line due.key bytes s f, b) refl)

  pub line_same :
      (text other bytes r s : List ℕ) → any_of (eqb line_feed) due.key ≡ false → drop at text ≡ bytes ++ line_feed ∷ r →
      drop at other ≡ bytes ++ line_feed ∷ s →
      line due text at ≡ line due other at
  line_same text other bytes r s k p q = line_is text ∙ ap line_at p ∙ line_at_same bytes r s k ∙ ap line_at (sym q) ∙ sym (line_is other)

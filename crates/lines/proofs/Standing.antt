-- Bytes that stand in a text, and the digits that lead one.
use mathlib.Core.Path.{◌≡◌, refl, sym, ap, ◌∙◌}
use mathlib.Core.Bool.{true}
use mathlib.Core.List.{List, [], ◌∷◌, ◌++◌, append_assoc}
use Prim.Native.Nat.{ℕ, ◌+◌}
use native.Mathlib.Omega.{arith}
use lib.ListN.{length, take, drop, length-append}
use lib.Seq.{drop-drop, take-add, take-append_seam, drop-append_seam}
use Rattle.rules.specs.Sequences.{all_of}
use Rattle.rules.proofs.Sequences.{by_test, and_true}
use Rattle.lines.specs.Figures.{line_feed, is_digit}
use Rattle.lines.specs.Lines.{leading_digits}
use Rattle.lines.specs.Laws.{Stands}
use Rattle.lines.proofs.Digits.{digit_below}

pub stands_none : (text : List ℕ) (at : ℕ) → Stands [] text at at
stands_none text at = record { there = refl; next_is = omega arith }

pub stands_join : {a b text : List ℕ} {at mid next : ℕ} → Stands a text at mid → Stands b text mid next → Stands (a ++ b) text at next
stands_join {a} {b} {text} {at} {mid} {next} s t =
    record {
      there = s.there ∙ ap (λ l. a ++ l) t.there ∙ sym (append_assoc a b (drop next text));
      next_is = let l = length-append a b in let p = s.next_is in let q = t.next_is in omega arith;
    }

pub stands_there : (bytes text : List ℕ) (at : ℕ) → drop at text ≡ bytes ++ drop (length bytes) (drop at text) → Stands bytes text at (at + length bytes)
stands_there bytes text at e = record { there = e ∙ ap (λ l. bytes ++ l) (drop-drop (length bytes) at text); next_is = refl }

pub stands_take : {bytes text : List ℕ} {at next : ℕ} → Stands bytes text at next → take next text ≡ take at text ++ bytes
stands_take {bytes} {text} {at} {next} s =
    ap (λ n. take n text) s.next_is
    ∙ take-add at (length bytes) text
    ∙ ap (λ l. take at text ++ take (length bytes) l) s.there
    ∙ ap (λ l. take at text ++ l) (take-append_seam bytes (drop next text))

-- The digits that lead a text.

pub leading_split : (l : List ℕ) → l ≡ leading_digits l ++ drop (length (leading_digits l)) l
unfolding leading_digits
leading_split [] = refl
leading_split (b ∷ bs) = by_test (is_digit b) (λ e. rw e (ap (λ l. b ∷ l) (leading_split bs))) (λ e. rw e refl)

pub leading_are : (l : List ℕ) → all_of is_digit (leading_digits l) ≡ true
unfolding leading_digits
leading_are [] = refl
leading_are (b ∷ bs) = by_test (is_digit b) (λ e. rw e (rw e (leading_are bs))) (λ e. rw e refl)

-- the parts of what stands in a text
pub stands_split : (a b : List ℕ) {text : List ℕ} {at next : ℕ} → Stands (a ++ b) text at next →
    Stands a text at (at + length a) × Stands b text (at + length a) next
stands_split a b {text} {at} {next} s =
    let all : drop at text ≡ a ++ (b ++ drop next text) = s.there ∙ append_assoc a b (drop next text) in
    let past : drop (at + length a) text ≡ b ++ drop next text =
    sym (drop-drop (length a) at text) ∙ ap (drop (length a)) all ∙ drop-append_seam a (b ++ drop next text) in (
      record { there = all ∙ ap (λ l. a ++ l) (sym past); next_is = refl },
      record { there = past; next_is = s.next_is ∙ (let l = length-append a b in omega arith) },
    )

pub stands_after : (front bytes rest : List ℕ) → Stands bytes (front ++ (bytes ++ rest)) (length front) (length front + length bytes)
stands_after front bytes rest =
    let here = drop-append_seam front (bytes ++ rest) in
    record {
      there = here ∙ ap (λ l. bytes ++ l) (sym (sym (drop-drop (length bytes) (length front) (front ++ (bytes ++ rest))) ∙ ap (drop (length bytes)) here
          ∙ drop-append_seam bytes rest));
      next_is = refl;
    }

-- digits and a line feed lead with the digits
pub leading_own : (ds rest : List ℕ) → all_of is_digit ds ≡ true → leading_digits (ds ++ line_feed ∷ rest) ≡ ds
unfolding leading_digits
leading_own [] rest e = rw (digit_below line_feed (omega arith)) refl
leading_own (d ∷ ds) rest e =
    let both = and_true (is_digit d) (all_of is_digit ds) e in
    rw both.0 (ap (λ l. d ∷ l) (leading_own ds rest both.1))

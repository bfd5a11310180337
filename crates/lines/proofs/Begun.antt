-- A text that begins with a key.
use mathlib.Core.Path.{◌≡◌, refl, sym, ap, ◌∙◌}
use mathlib.Core.Bool.{true, false, ◌&&◌}
use mathlib.Core.List.{List, [], ◌∷◌, ◌++◌}
use Prim.Native.Nat.{ℕ, suc, ◌+◌, ◌≤◌, ◌<◌}
use native.Mathlib.Omega.{arith}
use native.Mathlib.Numerals.{add-one}
use lib.Dec.{eqb}
use lib.ListN.{length, get_or, drop, drop_of_length-le, length-append}
use lib.Seq.{drop-cons}
use borrow.Author.Tests.{eq-eqb, ne_eqb}
use Rattle.std.specs.List.{starts_with}
use Rattle.std.proofs.Common.{nat_eq}
use Rattle.std.proofs.lemmas.Bool.Decides.{Decides-eqb}
use Rattle.std.proofs.lemmas.Slice.Eq.{starts_is}
use Rattle.rules.proofs.Sequences.{by_test}
use Rattle.lines.specs.Lines.{begins}

-- std's test of a slice's start, as `c.starts_with.ensures.value` says it
pub begins_is : (key text : List ℕ) → starts_with nat_eq text key ≡ begins key text
unfolding begins
begins_is [] text = refl
begins_is (k ∷ ks) [] = refl
begins_is (k ∷ ks) (b ∷ bs) = ap (λ t. eqb k b && t) (begins_is ks bs)

-- Comparing byte by byte.

-- the comparison has come to the byte i
pub record Compared (key text : List ℕ) (i : ℕ) : Type 0 where
  pub left : begins key text ≡ begins (drop i key) (drop i text)
  pub in_key : i ≤ length key
  pub in_text : i ≤ length text

pub compared_none : (key text : List ℕ) → Compared key text 0
compared_none key text = record { left = refl; in_key = omega arith; in_text = omega arith }

module _ {key text : List ℕ} {i : ℕ} (w : Compared key text i) where
  pub key_ended : length key ≤ i → true ≡ begins key text
  unfolding begins
  key_ended k = sym (w.left ∙ rw (drop_of_length-le key k) refl)

  module _ (k : i < length key) where
    module _ (t : i < length text) where
      at_byte : begins key text ≡ eqb (get_or key i 0) (get_or text i 0) && begins (drop (suc i) key) (drop (suc i) text)
      unfolding begins
      at_byte = w.left ∙ rw (drop-cons key i 0 k, drop-cons text i 0 t) refl

      pub compared_more : get_or text i 0 ≡ get_or key i 0 → Compared key text (i + 1)
      compared_more e =
          record {
            left = at_byte ∙ rw (eq-eqb (get_or key i 0) (get_or text i 0) (sym e), add-one i) refl;
            in_key = omega arith;
            in_text = omega arith;
          }

      pub differs : (get_or text i 0 ≡ get_or key i 0 → ⊥) → false ≡ begins key text
      differs n = sym (at_byte ∙ rw (ne_eqb (get_or key i 0) (get_or text i 0) (λ e. n (sym e))) refl)

-- a text that is shorter than the key does not begin with it
pub too_short : (key text : List ℕ) → length text < length key → false ≡ begins key text
unfolding begins
too_short [] text short = absurd (omega arith)
too_short (k ∷ ks) [] short = refl
too_short (k ∷ ks) (b ∷ bs) short = by_test (eqb k b) (λ e. rw e (too_short ks bs (omega arith))) (λ e. rw e refl)

-- a text that begins with a key is the key and what follows it
pub begun : (key text : List ℕ) → begins key text ≡ true → text ≡ key ++ drop (length key) text
begun key text = (starts_is Decides-eqb text key (begins key text) (sym (begins_is key text))).0

pub begins_own : (key rest : List ℕ) → begins key (key ++ rest) ≡ true
begins_own key rest = (starts_is Decides-eqb (key ++ rest) key (begins key (key ++ rest)) (sym (begins_is key (key ++ rest)))).1 rest refl

pub key_fits : (key text : List ℕ) → begins key text ≡ true → length key ≤ length text
key_fits key text e =
    let l = ap length (begun key text e) ∙ length-append key (drop (length key) text) in
    omega arith

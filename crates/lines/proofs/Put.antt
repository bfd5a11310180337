-- Writing into a buffer, byte by byte and piece by piece.
use mathlib.Core.Path.{◌≡◌, refl, sym, ap, ◌∙◌}
use mathlib.Core.List.{List, [], ◌∷◌, ◌++◌, append_assoc, append-nil}
use Prim.Native.Nat.{ℕ, suc, ◌+◌, ◌-◌, ◌/◌, ◌%◌, ◌≤◌, ◌<◌}
use native.Mathlib.Nat.{add-zero}
use native.Mathlib.Omega.{arith}
use native.Mathlib.Numerals.{add-one}
use lib.ListN.{length, get_or, take, drop, set, length-append, length-take, length-drop, length-set, take-append-drop}
use lib.Seq.{paste, paste-zero, paste-suc, take-length, take-suc, take_at, drop-drop, set_at, drop-append-add}
use Rattle.rules.proofs.Sequences.{by_less}
use Rattle.lines.specs.Figures.{zero_digit, decimal, line_feed, field}
use Rattle.lines.specs.Put.{overwritten, Puts}
use Rattle.lines.proofs.Decimals.{decimal_small, decimal_step}

-- Bytes copied one by one.

pub record Copied (old : List ℕ) (at : ℕ) (bytes new : List ℕ) (i : ℕ) : Type 0 where
  pub new_is : new ≡ paste old at bytes i
  pub at_most : i ≤ length bytes
  pub long : length new ≡ length old

pub copied_none : (old : List ℕ) (at : ℕ) (bytes : List ℕ) → Copied old at bytes old 0
copied_none old at bytes = record { new_is = paste-zero old at bytes; at_most = omega arith; long = refl }

module _ {old : List ℕ} {at : ℕ} {bytes new : List ℕ} {i : ℕ} (w : Copied old at bytes new i) where
  pub copied_more : at + length bytes ≤ length old → i < length bytes → Copied old at bytes (set new (at + i) (get_or bytes i 0)) (i + 1)
  copied_more room h =
      record {
        new_is = rw (w.new_is, add-one i) (paste-suc old at bytes i 0 (omega arith) h);
        at_most = omega arith;
        long = length-set new (at + i) (get_or bytes i 0) ∙ w.long;
      }

  pub copied_all : length bytes ≤ i → Puts old at bytes new (at + length bytes)
  copied_all h =
      let all : i ≡ length bytes = let m = w.at_most in omega arith in
      record { new_is = w.new_is ∙ rw (all, take-length bytes) refl; next_is = refl }

-- Pieces written one after the other.

length_overwritten : (old : List ℕ) (at : ℕ) (bytes : List ℕ) → at + length bytes ≤ length old → length (overwritten old at bytes) ≡ length old
length_overwritten old at bytes h =
    let a = length-append (take at old ++ bytes) (drop (at + length bytes) old) in
    let b = length-append (take at old) bytes in
    let c = length-take at old in
    let d = length-drop (at + length bytes) old in
    omega arith

pub puts_long :
    {old : List ℕ} {at : ℕ} {bytes new : List ℕ} {next : ℕ} → Puts old at bytes new next → at + length bytes ≤ length old → length new ≡ length old
puts_long {old} {at} {bytes} p h = ap length p.new_is ∙ length_overwritten old at bytes h

module _ (old : List ℕ) (at : ℕ) (a b : List ℕ) (h : at ≤ length old) where
  overwritten_then : overwritten (overwritten old at a) (at + length a) b ≡ overwritten old at (a ++ b)
  overwritten_then =
      let front : length (take at old ++ a) ≡ at + length a = let l = length-append (take at old) a in let k = length-take at old in omega arith in
      let begins : take (at + length a) (overwritten old at a) ≡ take at old ++ a =
      take_at (take at old ++ a) (drop (at + length a) old) (at + length a) front
      in
      let sum : at + length a + length b ≡ length (take at old ++ a) + length b = omega arith in
      let both : at + length a + length b ≡ at + length (a ++ b) = let l = length-append a b in omega arith in
      let ends : drop (at + length a + length b) (overwritten old at a) ≡ drop (at + length (a ++ b)) old =
      ap (λ n. drop n (overwritten old at a)) sum
      ∙ drop-append-add (take at old ++ a) (drop (at + length a) old) (length b)
      ∙ drop-drop (length b) (at + length a) old
      ∙ ap (λ n. drop n old) both
      in
      rw (begins, ends) (ap (λ l. l ++ drop (at + length (a ++ b)) old) (append_assoc (take at old) a b))

pub puts_then :
    {old : List ℕ} {at : ℕ} {a mid : List ℕ} {next : ℕ} {b new : List ℕ} {last : ℕ} → at ≤ length old → Puts old at a mid next → Puts mid next b new last →
    Puts old at (a ++ b) new last
puts_then {old} {at} {a} {mid} {next} {b} {new} {last} h p q =
    record {
      new_is = q.new_is ∙ rw (p.new_is, p.next_is) (overwritten_then old at a b h);
      next_is = let l = length-append a b in let x = p.next_is in let y = q.next_is in omega arith;
    }

pub put_none : (old : List ℕ) (at : ℕ) → at ≤ length old → Puts old at [] old at
put_none old at h = record { new_is = rw (add-zero at, append-nil (take at old)) (sym (take-append-drop at old)); next_is = omega arith }

-- one byte in front of those that stand
back_one : (old : List ℕ) (i d : ℕ) (bytes : List ℕ) → i < length old → set (overwritten old (suc i) bytes) i d ≡ overwritten old i (d ∷ bytes)
back_one old i d bytes h =
    let l : length (take i old) ≡ i = let k = length-take i old in omega arith in
    let e : suc i + length bytes ≡ i + suc (length bytes) = omega arith in
    let behind = drop (suc i + length bytes) old in
    let seam : overwritten old (suc i) bytes ≡ take i old ++ get_or old i 0 ∷ (bytes ++ behind) =
    ap (λ t. t ++ bytes ++ behind) (take-suc old i 0 h)
    ∙ append_assoc (take i old ++ (get_or old i 0 ∷ [])) bytes behind
    ∙ append_assoc (take i old) (get_or old i 0 ∷ []) (bytes ++ behind)
    in
    ap (λ s. set s i d) seam
    ∙ set_at (take i old) (get_or old i 0) (bytes ++ behind) d i l
    ∙ sym (append_assoc (take i old) (d ∷ bytes) behind)
    ∙ ap (λ k. take i old ++ (d ∷ bytes) ++ drop k old) e

pub put_byte : (old : List ℕ) (at d : ℕ) → at < length old → Puts old at (d ∷ []) (set old at d) (at + 1)
put_byte old at d h =
    record {
      new_is = ap (λ l. set l at d) (put_none old (suc at) (omega arith)).new_is ∙ back_one old at d [] h;
      next_is = refl;
    }

-- a field's length, by its parts
pub field_length : (key : List ℕ) (n : ℕ) → length (field key n) ≡ length key + length (decimal n) + 1
field_length key n = let a = length-append (key ++ decimal n) (line_feed ∷ []) in let b = length-append key (decimal n) in omega arith

-- A field in three pieces: the key and the figure are written, and the line feed has its place behind them.
module _
    (key : List ℕ) (n : ℕ) {old mid : List ℕ} {at start : ℕ} (room : at + length (field key n) ≤ length old) (p : Puts old at key mid start)
  where
    figure_room : start + length (decimal n) ≤ length mid
    figure_room = let f = field_length key n in let l = puts_long p (omega arith) in let s = p.next_is in omega arith

    module _ {last : List ℕ} {end : ℕ} (q : Puts mid start (decimal n) last end) where
      field_long : length last ≡ length old
      field_long = puts_long q figure_room ∙ puts_long p (let f = field_length key n in omega arith)

      feed_room : end < length last
      feed_room = let f = field_length key n in let l = field_long in let s = p.next_is in let e = q.next_is in omega arith

      pub field_puts : Puts old at (field key n) (set last end line_feed) (end + 1)
      field_puts = let within : at ≤ length old = omega arith in puts_then within (puts_then within p q) (put_byte last end line_feed feed_room)

-- The digits of a number from the last to the first: those up to the place i are still to come, and they are those of `rest`.

pub record Digits (old : List ℕ) (at n : ℕ) (new : List ℕ) (i rest : ℕ) : Type 0 where
  pub coming : List ℕ
  pub behind : List ℕ
  pub number_is : decimal n ≡ coming ++ behind
  pub place_is : i ≡ at + length coming
  pub coming_is : at < i → coming ≡ decimal rest
  pub new_is : new ≡ overwritten old i behind

module _ {old : List ℕ} {at n : ℕ} {new : List ℕ} {i rest : ℕ} (w : Digits old at n new i rest) where
  pub digits_more : i ≤ length old → at < i → Digits old at n (set new (i - 1) (zero_digit + rest % 10)) (i - 1) (rest / 10)
  digits_more room h =
      by_less
      rest
      10
      (λ l.
      let one : rest % 10 ≡ rest = omega arith in
      step [] (decimal_small rest l ∙ ap (λ k. (zero_digit + k) ∷ []) (sym one)) (λ some. absurd (omega arith)))
      (λ l. step (decimal (rest / 10)) (decimal_step rest l) (λ some. refl))
    where
      step :
          (front : List ℕ) → decimal rest ≡ front ++ ((zero_digit + rest % 10) ∷ []) → (1 ≤ length front → front ≡ decimal (rest / 10)) →
          Digits old at n (set new (i - 1) (zero_digit + rest % 10)) (i - 1) (rest / 10)
      step front e f =
          let last : w.coming ≡ front ++ ((zero_digit + rest % 10) ∷ []) = w.coming_is h ∙ e in
          let one : i ≡ suc (i - 1) = omega arith in
          let before : i - 1 ≡ at + length front =
          let p = w.place_is in let l = ap length last in let a = length-append front ((zero_digit + rest % 10) ∷ []) in omega arith
          in
          record {
            coming = front;
            behind = (zero_digit + rest % 10) ∷ w.behind;
            number_is = w.number_is ∙ ap (λ l. l ++ w.behind) last ∙ append_assoc front ((zero_digit + rest % 10) ∷ []) w.behind;
            place_is = before;
            coming_is = λ k. f (omega arith);
            new_is =
                ap (λ l. set l (i - 1) (zero_digit + rest % 10)) (w.new_is ∙ ap (λ k. overwritten old k w.behind) one)
                ∙ back_one old (i - 1) (zero_digit + rest % 10) w.behind (omega arith);
          }

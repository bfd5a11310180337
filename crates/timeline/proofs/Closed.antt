-- A value taken out of a column at an index: the loop that closes the gap.
use mathlib.Core.Path.{◌≡◌, refl, sym, ap, ◌∙◌}
use mathlib.Core.List.{List, [], ◌∷◌, ◌++◌, append_assoc, append-nil}
use Prim.Native.Nat.{ℕ, suc, ◌+◌, ◌-◌, ◌≤◌, ◌<◌}
use native.Mathlib.Omega.{arith}
use lib.ListN.{length, get_or, take, drop, set, length-set, length-drop}
use lib.Seq.{get_or-drop, drop-drop, drop-set-lt, set_split}
use Rattle.std.proofs.lemmas.List.{take_more, take_more_set}
use Rattle.timeline.specs.RowLine.{AskRemoveAt, RemovedAt}

-- Those behind the index and before i have gone one place back, and from i on all are as before.
pub record Closed {A : Type 0} (old : List A) (at : ℕ) (new : List A) (i : ℕ) : Type 0 where
  pub long : length new ≡ length old
  pub front : take (i - 1) new ≡ take at old ++ take (i - (at + 1)) (drop (at + 1) old)
  pub behind : drop i new ≡ drop i old

module _ {A : Type 0} {old : List A} {count at : ℕ} (asked : AskRemoveAt old count at) where
  pub closed_none : Closed old at old (at + 1)
  closed_none =
      let none : (at + 1) - (at + 1) ≡ 0 = omega arith in
      let here : (at + 1) - 1 ≡ at = omega arith in
      record {
        long = refl;
        front = rw (none, here) (sym (append-nil (take at old)));
        behind = refl;
      }

  module _ {new : List A} {i : ℕ} (closed : Closed old at new i) where
    pub closed_more : at + 1 ≤ i → i < count → (value : A) → value ≡ get_or new i value → Closed old at (set new (i - 1) value) (i + 1)
    closed_more past within value read =
        let room = asked.room in
        let long = closed.long in
        let none : i + 0 ≡ i = omega arith in
        let gone = i - (at + 1) in
        let before : (i + 1) - 1 ≡ (i - 1) + 1 = omega arith in
        let one_more : (i + 1) - (at + 1) ≡ gone + 1 = omega arith in
        let there : (at + 1) + gone ≡ i = omega arith in
        let same : value ≡ get_or (drop (at + 1) old) gone value =
        read
        ∙ rw none at (sym (get_or-drop i new 0 value) ∙ ap (λ l. get_or l 0 value) closed.behind ∙ get_or-drop i old 0 value)
        ∙ sym (rw there at (get_or-drop (at + 1) old gone value))
        in
        let moved : take (gone + 1) (drop (at + 1) old) ≡ take gone (drop (at + 1) old) ++ (value ∷ []) =
        take_more (drop (at + 1) old) gone value (omega (arith, length-drop (at + 1) old)) ∙ rw (← same) refl
        in
        record {
          long = length-set new (i - 1) value ∙ long;
          front =
              ap (λ n. take n (set new (i - 1) value)) before
              ∙ take_more_set new (i - 1) value (omega arith)
              ∙ ap (λ l. l ++ (value ∷ [])) closed.front
              ∙ append_assoc (take at old) (take gone (drop (at + 1) old)) (value ∷ [])
              ∙ rw (one_more, moved) refl;
          behind = drop-set-lt (i + 1) new (i - 1) value (omega arith) ∙ sym (drop-drop 1 i new) ∙ ap (drop 1) closed.behind ∙ drop-drop 1 i old;
        }

    -- the blank is written over the last
    pub closed_all : (blank : A) → i ≡ count → RemovedAt old count at blank (set new (count - 1) blank)
    closed_all blank done =
        let room = asked.room in
        let within = asked.within in
        let long = closed.long in
        let next : suc (count - 1) ≡ count = omega arith in
        let front : take (count - 1) new ≡ take at old ++ take (count - (at + 1)) (drop (at + 1) old) = rw done at closed.front in
        let behind : drop count new ≡ drop count old = rw done at closed.behind in
        record {
          new_is =
              set_split new (count - 1) blank (omega arith)
              ∙ rw
              (next, front, behind)
              (append_assoc (take at old) (take (count - (at + 1)) (drop (at + 1) old)) (blank ∷ drop count old));
          long = length-set new (count - 1) blank ∙ long;
        }

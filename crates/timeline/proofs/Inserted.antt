-- A value put into a column at an index: the loop that makes room for it, and what then stands at each index.
use mathlib.Core.Path.{◌≡◌, refl, sym, ap, ◌∙◌}
use mathlib.Core.List.{List, ◌∷◌, ◌++◌}
use Prim.Native.Nat.{ℕ, suc, ◌+◌, ◌-◌, ◌≤◌, ◌<◌}
use native.Mathlib.Omega.{arith}
use native.Mathlib.Numerals.{add-one}
use lib.ListN.{length, get_or, take, drop, set, length-set}
use lib.Seq.{get_or-take, take-take, take-set-le, set_split}
use Rattle.std.proofs.lemmas.List.{places, drop_more, drop-set}
use Rattle.rules.proofs.Sequences.{by_less}
use Rattle.timeline.specs.RowLine.{AskInsert, InsertedAt}

-- an index of so many and one is before the place of the value, or it is that place, or it is one further than an index from there on
pub by_place :
    {C : Type 0} (at count k : ℕ) → k < count + 1 → (k < at → C) → (k ≡ at → C) → ((j : ℕ) → at ≤ j → j < count → k ≡ j + 1 → C) → C
by_place at count k h before here after =
    by_less
    k
    at
    before
    (λ most. by_less at k (λ less. after (k - 1) (omega arith) (omega arith) (omega arith)) (λ same. here (omega arith)))

-- Making room: those from i on stand one place further, and the place i may be written over.
pub record Shifted {A : Type 0} (old : List A) (count at : ℕ) (new : List A) (i : ℕ) : Type 0 where
  pub not_before : at ≤ i
  pub within : i ≤ count
  pub long : length new ≡ length old
  pub front : take i new ≡ take i old
  pub behind : drop (i + 1) new ≡ take (count - i) (drop i old) ++ drop (count + 1) old

module _ {A : Type 0} {old : List A} {count at : ℕ} (asked : AskInsert old count at) where
  pub shifted_none : Shifted old count at old count
  shifted_none =
      let none : count - count ≡ 0 = omega arith in
      record {
        not_before = asked.within;
        within = omega arith;
        long = refl;
        front = refl;
        behind = rw none refl;
      }

  module _ {new : List A} {i : ℕ} (shifted : Shifted old count at new i) where
    pub shifted_more : at < i → (value : A) → value ≡ get_or new (i - 1) value → Shifted old count at (set new ((i - 1) + 1) value) (i - 1)
    shifted_more more value read =
        let room = asked.room in
        let within = shifted.within in
        let long = shifted.long in
        let next : (i - 1) + 1 ≡ i = omega arith in
        let one_more : count - (i - 1) ≡ suc (count - i) = omega arith in
        let same : value ≡ get_or old (i - 1) value =
        read
        ∙ sym (get_or-take i new (i - 1) value (omega arith))
        ∙ ap (λ l. get_or l (i - 1) value) shifted.front
        ∙ get_or-take i old (i - 1) value (omega arith)
        in
        let held : drop (i - 1) old ≡ value ∷ drop i old =
        drop_more old (i - 1) value (omega arith) ∙ rw (← same, next) refl
        in
        rw
        next
        (record {
          not_before = omega arith;
          within = omega arith;
          long = length-set new i value ∙ long;
          front =
              take-set-le (i - 1) new i value (omega arith)
              ∙ sym (take-take (i - 1) i new (omega arith))
              ∙ ap (take (i - 1)) shifted.front
              ∙ take-take (i - 1) i old (omega arith);
          behind = rw (next, drop-set new i value (omega arith), shifted.behind, held, one_more) refl;
        })

    -- the value is written where room was made
    pub shifted_put : (value : A) → i ≤ at → InsertedAt old count at value (set new at value)
    shifted_put value done =
        let room = asked.room in
        let long = shifted.long in
        let there : i ≡ at = omega arith in
        let front : take at new ≡ take at old = rw there at shifted.front in
        let behind : drop (at + 1) new ≡ take (count - at) (drop at old) ++ drop (count + 1) old = rw there at shifted.behind in
        record {
          new_is = set_split new at value (omega arith) ∙ rw (front, ← add-one at, behind) refl;
          long = length-set new at value ∙ long;
        }

-- What stands at each index of the column with one value more.
pub record PutAt (old : List ℕ) (count at value : ℕ) (new : List ℕ) : Type 0 where
  pub room : count < length new
  pub before : (k : ℕ) → k < at → get_or new k 0 ≡ get_or old k 0
  pub here : get_or new at 0 ≡ value
  pub after : (k : ℕ) → at ≤ k → k < count → get_or new (k + 1) 0 ≡ get_or old k 0

pub put_at : (old : List ℕ) (count at value : ℕ) → AskInsert old count at → {new : List ℕ} → InsertedAt old count at value new → PutAt old count at value new
put_at old count at value asked is =
    let room = asked.room in
    let within = asked.within in
    record {
      room = let same = is.long in omega arith;
      before = λ k h. rw is.new_is (grind (arith, places));
      here = rw is.new_is (grind (arith, places));
      after = λ k low high. rw is.new_is (grind (arith, places));
    }

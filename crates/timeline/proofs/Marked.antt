-- The entries beside whose mark a test is passed: one mark more, and marks that say of each row whether it leaves.
use mathlib.Core.Path.{◌≡◌, refl, sym, ap, ◌∙◌}
use mathlib.Core.Bool.{Bool, true, false}
use mathlib.Core.List.{List, [], ◌∷◌, ◌++◌, map}
use Prim.Native.Nat.{ℕ, zero, suc, ◌+◌, ◌-◌, ◌≤◌, ◌<◌}
use native.Mathlib.Omega.{arith}
use native.Mathlib.Numerals.{add-one}
use lib.ListN.{length, get_or, take, drop, length-map}
use lib.Seq.{length-take-le, get_or-take, ext_get_or}
use Rattle.std.proofs.lemmas.List.{get_or-map}
use Rattle.rules.specs.declared.Row.{Row}
use Rattle.rules.specs.Sequences.{keep, cons_if}
use Rattle.rules.specs.Placing.{no_row}
use Rattle.timeline.specs.RowLine.{Says}
use Rattle.timeline.specs.Packing.{by_mark}

cons_if_append : {A : Type 0} (b : Bool) (x : A) (l r : List A) → cons_if b x l ++ r ≡ cons_if b x (l ++ r)
cons_if_append true x l r = refl
cons_if_append false x l r = refl

cons_if_map : {A B : Type 0} (f : A → B) (b : Bool) (x : A) (l : List A) → cons_if b (f x) (map f l) ≡ map f (cons_if b x l)
cons_if_map f true x l = refl
cons_if_map f false x l = refl

cons_if_long : {A B : Type 0} (b : Bool) (x : A) (y : B) (l : List A) (r : List B) → length l ≡ length r → length (cons_if b x l) ≡ length (cons_if b y r)
cons_if_long true x y l r e = ap suc e
cons_if_long false x y l r e = e

-- One mark more, where the test is passed and where not.
module _ {A : Type 0} (p : Bool → Bool) where
  passed_next :
      (marks : List Bool) (values : List A) (i : ℕ) (d : A) → p (get_or marks i false) ≡ true → i < length marks → i < length values →
      by_mark p (take (suc i) marks) (take (suc i) values) ≡ by_mark p (take i marks) (take i values) ++ (get_or values i d ∷ [])
  passed_next [] values i d e h k = absurd (omega arith)
  passed_next (m ∷ ms) [] i d e h k = absurd (omega arith)
  passed_next (m ∷ ms) (v ∷ vs) zero d e h k = rw e refl
  passed_next (m ∷ ms) (v ∷ vs) (suc i) d e h k =
      ap (cons_if (p m) v) (passed_next ms vs i d e (omega arith) (omega arith))
      ∙ sym (cons_if_append (p m) v (by_mark p (take i ms) (take i vs)) (get_or vs i d ∷ []))

  failed_next :
      (marks : List Bool) (values : List A) (i : ℕ) → p (get_or marks i false) ≡ false → i < length marks → i < length values →
      by_mark p (take (suc i) marks) (take (suc i) values) ≡ by_mark p (take i marks) (take i values)
  failed_next [] values i e h k = absurd (omega arith)
  failed_next (m ∷ ms) [] i e h k = absurd (omega arith)
  failed_next (m ∷ ms) (v ∷ vs) zero e h k = rw e refl
  failed_next (m ∷ ms) (v ∷ vs) (suc i) e h k = ap (cons_if (p m) v) (failed_next ms vs i e (omega arith) (omega arith))

  module _ (marks : List Bool) (values : List A) (i : ℕ) where
    pub marked_more :
        (d : A) → p (get_or marks i false) ≡ true → i < length marks → i < length values →
        by_mark p (take (i + 1) marks) (take (i + 1) values) ≡ by_mark p (take i marks) (take i values) ++ (get_or values i d ∷ [])
    marked_more d e h k = rw add-one (passed_next marks values i d e h k)

    pub marked_same :
        p (get_or marks i false) ≡ false → i < length marks → i < length values →
        by_mark p (take (i + 1) marks) (take (i + 1) values) ≡ by_mark p (take i marks) (take i values)
    marked_same e h k = rw add-one (failed_next marks values i e h k)

  -- every test is passed
  pub marked_all :
      (marks : List Bool) (values : List A) (n : ℕ) → n ≤ length marks → ((i : ℕ) → i < n → p (get_or marks i false) ≡ true) →
      by_mark p (take n marks) (take n values) ≡ take n values
  marked_all marks values zero few all = refl
  marked_all [] values (suc n) few all = absurd (omega arith)
  marked_all (m ∷ ms) [] (suc n) few all = refl
  marked_all (m ∷ ms) (v ∷ vs) (suc n) few all =
      rw (all zero (omega arith)) (ap (λ l. v ∷ l) (marked_all ms vs n (omega arith) (λ i h. all (suc i) (omega arith))))

  -- no test is passed below an index
  pub marked_from :
      (from count : ℕ) (marks : List Bool) (values : List A) → from ≤ count → count ≤ length marks → count ≤ length values →
      ((i : ℕ) → i < from → p (get_or marks i false) ≡ false) →
      by_mark p (take count marks) (take count values) ≡ by_mark p (take (count - from) (drop from marks)) (take (count - from) (drop from values))
  marked_from zero count marks values few a b none = let all : count - 0 ≡ count = omega arith in rw all refl
  marked_from (suc from) zero marks values few a b none = absurd (omega arith)
  marked_from (suc from) (suc count) [] values few a b none = absurd (omega arith)
  marked_from (suc from) (suc count) (m ∷ ms) [] few a b none = absurd (omega arith)
  marked_from (suc from) (suc count) (m ∷ ms) (v ∷ vs) few a b none =
      let less : suc count - suc from ≡ count - from = omega arith in
      rw (none zero (omega arith), less) (marked_from from count ms vs (omega arith) (omega arith) (omega arith) (λ i h. none (suc i) (omega arith)))

-- Marks of rows.

pub marks_of :
    {line : List Row} {leaving : Row → Bool} {leaves : List Bool} {count : ℕ} → length line ≡ count → Says leaving line leaves →
    take count leaves ≡ map leaving line
marks_of {line} {leaving} {leaves} {count} long says =
    let some = says.long in
    let few : length (take count leaves) ≡ count = length-take-le count leaves (omega arith) in
    ext_get_or
    false
    (take count leaves)
    (map leaving line)
    (few ∙ sym long ∙ sym (length-map line leaving))
    (λ k h.
    let within : k < count = omega (arith, few) in
    get_or-take count leaves k false within ∙ says.says k (omega arith) ∙ sym (get_or-map leaving line k no_row false (omega arith)))

module _ {A : Type 0} (p : Bool → Bool) (leaving : Row → Bool) where
  pub marked_rows : (figure : Row → A) (line : List Row) → by_mark p (map leaving line) (map figure line) ≡ map figure (keep (λ row. p (leaving row)) line)
  marked_rows figure [] = refl
  marked_rows figure (row ∷ line) =
      ap (cons_if (p (leaving row)) (figure row)) (marked_rows figure line)
      ∙ cons_if_map figure (p (leaving row)) row (keep (λ row. p (leaving row)) line)

  pub marked_long :
      (line : List Row) (values : List A) → length values ≡ length line →
      length (by_mark p (map leaving line) values) ≡ length (keep (λ row. p (leaving row)) line)
  marked_long [] values e = refl
  marked_long (row ∷ line) [] e = absurd (omega arith)
  marked_long (row ∷ line) (v ∷ vs) e =
      cons_if_long
      (p (leaving row))
      v
      row
      (by_mark p (map leaving line) vs)
      (keep (λ row. p (leaving row)) line)
      (marked_long line vs (omega arith))

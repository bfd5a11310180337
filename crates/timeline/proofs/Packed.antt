-- The pass that packs: of the first i entries those that stay stand at the front. And what is left when blanks stand behind them: the column of the rows
-- that stay.
use mathlib.Core.Path.{◌≡◌, refl, sym, ap, ◌∙◌}
use mathlib.Core.Bool.{Bool, true, false, not}
use mathlib.Core.List.{List, [], ◌∷◌, ◌++◌, map}
use Prim.Native.Nat.{ℕ, ◌+◌, ◌-◌, ◌≤◌, ◌<◌}
use native.Mathlib.Omega.{arith}
use lib.ListN.{length, get_or, set, take, drop, replicate, length-map, length-set, length-drop}
use lib.Seq.{length-take-le, get_or-drop, drop-drop, drop-set-lt, take_at, drop_at}
use borrow.Rule.Slice.PartMut.{mid_of, put_mid, same_len_mid}
use Rattle.std.proofs.lemmas.List.{take_more_set, get_or-replicate, replicate-append-replicate, same_lists, length-replicate}
use Rattle.rules.specs.declared.Row.{Row}
use Rattle.rules.specs.Placing.{no_row}
use Rattle.timeline.specs.RowLine.{spans_room, column, Says}
use Rattle.timeline.specs.TakenOut.{KeptIs, left_of}
use Rattle.timeline.specs.Packing.{by_mark, PackedIs}
use Rattle.timeline.proofs.ColumnLaws.{column_parts}
use Rattle.timeline.proofs.Marked.{marked_more, marked_same, marked_all, marked_rows, marked_long, marks_of}

module _ {A : Type 0} {marks : List Bool} where
  pub packed_none : (old : List A) (from : ℕ) → from ≤ length marks → ((i : ℕ) → i < from → get_or marks i false ≡ false) → PackedIs old marks from old from
  packed_none old from few none = record {
    long = refl;
    at_most = omega arith;
    front = sym (marked_all not marks old from few (λ i h. ap not (none i h)));
    behind = refl;
  }

  module _ {old new : List A} {i kept : ℕ} (packed : PackedIs old marks i new kept) (marked : i < length marks) (within : i < length old) where
    rest_more : drop (i + 1) new ≡ drop (i + 1) old
    rest_more = sym (drop-drop 1 i new) ∙ ap (drop 1) packed.behind ∙ drop-drop 1 i old

    pub packed_goes : get_or marks i false ≡ true → PackedIs old marks (i + 1) new kept
    packed_goes e = record {
      long = packed.long;
      at_most = omega (arith, packed.at_most);
      front = packed.front ∙ sym (marked_same not marks old i (ap not e) marked within);
      behind = rest_more;
    }

    pub packed_stays : get_or marks i false ≡ false → (value : A) → value ≡ get_or new i value → PackedIs old marks (i + 1) (set new kept value) (kept + 1)
    packed_stays e value read =
        let few = packed.at_most in
        let here : kept < length new = omega (arith, packed.long) in
        let none : i + 0 ≡ i = omega arith in
        let same : value ≡ get_or old i value =
        read ∙ rw none at (sym (get_or-drop i new 0 value) ∙ ap (λ l. get_or l 0 value) packed.behind ∙ get_or-drop i old 0 value)
        in
        record {
          long = length-set new kept value ∙ packed.long;
          at_most = omega arith;
          front =
              take_more_set new kept value here
              ∙ ap (λ l. l ++ (value ∷ [])) packed.front
              ∙ ap (λ v. by_mark not (take i marks) (take i old) ++ (v ∷ [])) same
              ∙ sym (marked_more not marks old i value (ap not e) marked within);
          behind = drop-set-lt (i + 1) new kept value (omega arith) ∙ rest_more;
        }

-- Those that stay, and behind them up to the count a part that is written over with blanks.
module _
    {A : Type 0} {old middle : List A} {leaves : List Bool} {count kept : ℕ} (few : count ≤ spans_room) (room : count ≤ length old)
    (packed : PackedIs old leaves count middle kept)
  where
    abbrev part : List A
    part = mid_of kept (count - kept) middle

    part_long : length part ≡ count - kept
    part_long = length-take-le (count - kept) (drop kept middle) (omega (arith, packed.long, length-drop kept middle))

    blanks_are :
        (items : List A) (i : ℕ) (blank : A) → length items ≡ length part → ((k : ℕ) (d : A) → k < i → get_or items k d ≡ blank) → length part ≤ i →
        items ≡ replicate (count - kept) blank
    blanks_are items i blank same written all =
        let long = length-replicate (count - kept) blank in
        same_lists
        items
        (replicate (count - kept) blank)
        (omega (arith, same, part_long, long))
        (λ k d h. written k d (omega arith) ∙ sym (get_or-replicate (count - kept) k blank d (omega (arith, same, part_long))))

    module _ (line : List Row) (leaving : Row → Bool) (long : length line ≡ count) (says : Says leaving line leaves) where
      marks_are : take count leaves ≡ map leaving line
      marks_are = marks_of long says

      kept_count : kept ≡ length (left_of leaving line)
      kept_count =
          let most = packed.at_most in
          let wide = packed.long in
          sym (length-take-le kept middle (omega arith))
          ∙ ap length (packed.front ∙ ap (λ l. by_mark not l (take count old)) marks_are)
          ∙ marked_long not leaving line (take count old) (length-take-le count old room ∙ sym long)

      column_left :
          (figure : Row → A) {blank : A} → figure no_row ≡ blank → old ≡ column figure line →
          put_mid kept (count - kept) middle (replicate (count - kept) blank) ≡ column figure (left_of leaving line)
      column_left figure {blank} none is =
          let most = packed.at_most in
          let left = left_of leaving line in
          let parts_of : (line : List Row) → column figure line ≡ map figure line ++ replicate (spans_room - length line) blank =
          λ line. rw none at (column_parts figure line)
          in
          let parts : old ≡ map figure line ++ replicate (spans_room - count) blank =
          is ∙ parts_of line ∙ ap (λ n. map figure line ++ replicate (spans_room - n) blank) long
          in
          let held : length (map figure line) ≡ count = length-map line figure ∙ long in
          let past : kept + (count - kept) ≡ count = omega arith in
          let rest : (count - kept) + (spans_room - count) ≡ spans_room - length left = omega (arith, kept_count) in
          let front : take kept middle ≡ map figure left =
          packed.front
          ∙ ap (λ l. by_mark not l (take count old)) marks_are
          ∙ ap (λ l. by_mark not (map leaving line) l) (ap (take count) parts ∙ take_at (map figure line) (replicate (spans_room - count) blank) count held)
          ∙ marked_rows not leaving figure line
          in
          let behind : drop (count - kept) (drop kept middle) ≡ replicate (spans_room - count) blank =
          drop-drop (count - kept) kept middle
          ∙ ap (λ n. drop n middle) past
          ∙ packed.behind
          ∙ ap (drop count) parts
          ∙ drop_at (map figure line) (replicate (spans_room - count) blank) count held
          in
          rw (front, behind, replicate-append-replicate, rest) (sym (parts_of left))

    pub kept_is :
        (items : List A) {i : ℕ} {blank : A} → length items ≡ length part → ((k : ℕ) (d : A) → k < i → get_or items k d ≡ blank) → length part ≤ i →
        KeptIs old leaves count blank (put_mid kept (count - kept) middle items) kept
    kept_is items {i} {blank} same written all = record {
      long = same_len_mid kept (count - kept) middle items same ∙ packed.long;
      at_most = packed.at_most;
      is = λ line leaving figure long says none is. rw (blanks_are items i blank same written all) (column_left line leaving long says figure none is);
      count_is = kept_count;
    }

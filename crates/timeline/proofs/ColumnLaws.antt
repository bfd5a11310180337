-- Columns of the rows on a line: how long they are, what stands in them, and a row put in or taken out.
use mathlib.Core.Path.{◌≡◌, refl, sym, ap, ◌∙◌}
use mathlib.Core.List.{List, [], ◌∷◌, ◌++◌, map, append_assoc, map-append}
use Prim.Native.Nat.{ℕ, zero, suc, ◌+◌, ◌-◌, ◌≤◌, ◌<◌}
use native.Mathlib.Omega.{arith}
use lib.ListN.{length, get_or, take, drop, replicate, length-append, length-map, length-replicate, length-drop, take-append-drop, get_or-append}
use lib.Seq.{length-take-le, take_at, drop_at}
use Rattle.std.proofs.lemmas.List.{get_or-map}
use Rattle.rules.specs.declared.Row.{Row}
use Rattle.rules.specs.Words.{held_by}
use Rattle.rules.specs.Placing.{no_row}
use Rattle.timeline.specs.RowLine.{spans_room, row_begin, row_end, insert_row, column, note_of, GoesAt, InsertedAt, RemovedAt}
use Rattle.timeline.specs.Notes.{no_note}

-- what lies past two lists
past_two : {A : Type 0} (a b c : List A) (n : ℕ) → length a + length b ≡ n → drop n (a ++ (b ++ c)) ≡ c
past_two a b c n long = ap (drop n) (sym (append_assoc a b c)) ∙ drop_at (a ++ b) c n (length-append a b ∙ long)

module _ {A : Type 0} (figure : Row → A) where
  abbrev blanks : ℕ → List A
  blanks n = replicate n (figure no_row)

  map_replicate : (n : ℕ) → map figure (replicate n no_row) ≡ blanks n
  map_replicate zero = refl
  map_replicate (suc n) = ap (λ l. figure no_row ∷ l) (map_replicate n)

  -- the figures of the rows, and blanks
  pub column_parts : (line : List Row) → column figure line ≡ map figure line ++ blanks (spans_room - length line)
  column_parts line =
      let more = spans_room - length line in
      map-append figure line (replicate more no_row) ∙ ap (λ l. map figure line ++ l) (map_replicate more)

  pub column_long : (line : List Row) → length line ≤ spans_room → length (column figure line) ≡ spans_room
  column_long line few =
      let more = spans_room - length line in
      rw
      (column_parts line, length-append, length-replicate, length-map)
      (omega arith)

  pub column_at : (line : List Row) (i : ℕ) (d : A) → i < length line → get_or (column figure line) i d ≡ figure (get_or line i no_row)
  column_at line i d h =
      ap (λ l. get_or l i d) (column_parts line)
      ∙ get_or-append (map figure line) (blanks (spans_room - length line)) d i (omega (arith, length-map line figure))
      ∙ get_or-map figure line i no_row d h

  module _ {line : List Row} {row : Row} {at : ℕ} (goes : GoesAt line row at) (few : length line < spans_room) where
    abbrev front : List A
    front = map figure (take at line)

    abbrev behind : List A
    behind = map figure (drop at line)

    abbrev past : List A
    past = blanks (spans_room - (length line + 1))

    front_long : length front ≡ at
    front_long = length-map (take at line) figure ∙ length-take-le at line goes.within

    behind_long : length behind ≡ length line - at
    behind_long = length-map (drop at line) figure ∙ length-drop at line

    column_without : column figure line ≡ front ++ (behind ++ (figure no_row ∷ past))
    column_without =
        let some : spans_room - length line ≡ suc (spans_room - (length line + 1)) = omega arith in
        column_parts line
        ∙ ap (λ n. map figure line ++ blanks n) some
        ∙ ap (λ l. l ++ (figure no_row ∷ past)) (ap (map figure) (sym (take-append-drop at line)) ∙ map-append figure (take at line) (drop at line))
        ∙ append_assoc front behind (figure no_row ∷ past)

    column_with : column figure (insert_row row line) ≡ front ++ (figure row ∷ (behind ++ past))
    column_with =
        let within = goes.within in
        let long : length (insert_row row line) ≡ length line + 1 =
        ap length goes.is ∙ length-append (take at line) (row ∷ drop at line) ∙ omega (arith, length-take-le at line within, length-drop at line)
        in
        column_parts (insert_row row line)
        ∙ ap (λ n. map figure (insert_row row line) ++ blanks (spans_room - n)) long
        ∙ ap (λ l. l ++ past) (ap (map figure) goes.is ∙ map-append figure (take at line) (row ∷ drop at line))
        ∙ append_assoc front (figure row ∷ behind) past

    pub column_inserted : {new : List A} → InsertedAt (column figure line) (length line) at (figure row) new → new ≡ column figure (insert_row row line)
    column_inserted is =
        let within = goes.within in
        let first = figure no_row ∷ [] in
        let rest : drop (length line + 1) (front ++ (behind ++ (figure no_row ∷ past))) ≡ past =
        ap (λ l. drop (length line + 1) (front ++ l)) (sym (append_assoc behind first past))
        ∙ past_two front (behind ++ first) past (length line + 1) (omega (arith, front_long, behind_long, length-append behind first))
        in
        is.new_is
        ∙ rw (
          column_without,
          take_at front (behind ++ (figure no_row ∷ past)) at front_long,
          drop_at front (behind ++ (figure no_row ∷ past)) at front_long,
          take_at behind (figure no_row ∷ past) (length line - at) behind_long,
          rest,
        )
        (sym column_with)

    pub column_removed :
        {blank : A} → figure no_row ≡ blank → {new : List A} → RemovedAt (column figure (insert_row row line)) (length line + 1) at blank new →
        new ≡ column figure line
    column_removed {blank} none is =
        let within = goes.within in
        is.new_is
        ∙ rw (
          column_with,
          take_at front (figure row ∷ (behind ++ past)) at front_long,
          past_two front (figure row ∷ []) (behind ++ past) (at + 1) (omega (arith, front_long)),
          take_at behind past (length line + 1 - (at + 1)) (omega (arith, behind_long)),
          past_two front (figure row ∷ behind) past (length line + 1) (omega (arith, front_long, behind_long)),
          ← none,
        )
        (sym column_without)

-- What a blank row says.

pub begin_blank : row_begin no_row ≡ 0
unfolding held_by
begin_blank = refl

pub end_blank : row_end no_row ≡ 0
unfolding held_by
end_blank = refl

pub note_blank : (last : ℕ → ℕ) → last 0 ≡ 0 → note_of last no_row ≡ no_note
note_blank last none = rw none refl

-- The last finish of a job's own rows: a finish is what an end leaves past the tick room.
use mathlib.Core.Path.{◌≡◌, ap, sym, ◌∙◌}
use mathlib.Core.List.{List, [], ◌∷◌, map, Memᴰ}
use Prim.Native.Nat.{ℕ, ◌%◌, ◌<◌, max}
use native.Mathlib.Nat.{mul-add-mod_self_right, mod-eq_of_lt}
use native.Mathlib.Omega.{arith}
use lib.ListN.{length, get_or, length-map}
use Rattle.std.proofs.Common.{fold}
use Rattle.std.proofs.lemmas.Grind.{same_number_lists}
use Rattle.std.proofs.lemmas.List.{get_or-map}
use Rattle.rules.specs.declared.Row.{Row}
use Rattle.rules.specs.declared.Setup.{Setup}
use Rattle.rules.specs.Words.{resource}
use Rattle.rules.specs.Codes.{resource_number}
use Rattle.rules.specs.Placing.{no_row}
use Rattle.rules.specs.Bounds.{RowInRange}
use Rattle.rules.proofs.Sequences.{get_or_mem}
use Rattle.timeline.specs.Timeline.{tick_room}
use Rattle.timeline.specs.RowLine.{row_end}
use Rattle.placement.specs.declared.own.Entry.{Entry}
use Rattle.placement.specs.Own.{no_entry, OwnRows}
use Rattle.timetable.specs.Derived.{most_of}
use Rattle.admission.specs.Submitted.{LastIs}

most_folded : {A : Type 0} (figure : A → ℕ) (n : ℕ) (l : List A) → fold (λ m x. max m (figure x)) n l ≡ max n (most_of (map figure l))
unfolding most_of
most_folded figure n [] = omega arith
most_folded figure n (x ∷ l) = let rest = most_folded figure (max n (figure x)) l in omega arith

finish_left : (s : Setup) (row : Row) → RowInRange s row → row_end row % tick_room ≡ row.finish
finish_left s row range =
    mul-add-mod_self_right (resource_number (resource row)) tick_room row.finish ∙ mod-eq_of_lt (let ends = range.ends in omega arith)

-- the finish of the row
abbrev pub finish_of : Entry → ℕ
finish_of entry = entry.booking.end % tick_room

module _ {s : Setup} {rows new : List Row} {own : List Entry} (own_is : OwnRows rows new own) (range : (row : Row) → Memᴰ row new → RowInRange s row) where
  finishes_are : map finish_of own ≡ map (λ row. row.finish) new
  finishes_are =
      same_number_lists
      _
      _
      (length-map own finish_of ∙ own_is.long ∙ sym (length-map new (λ row. row.finish)))
      (λ i below.
      let there : i < length new = omega (arith, length-map own finish_of, own_is.long) in
      get_or-map finish_of own i no_entry 0 (omega (arith, own_is.long))
      ∙ ap finish_of (own_is.is i there)
      ∙ finish_left s (get_or new i no_row) (range _ (get_or_mem new i no_row there))
      ∙ sym (get_or-map (λ row. row.finish) new i no_row 0 there))

pub last_is : {own : List Entry} {last : ℕ} → last ≡ fold (λ m entry. max m (finish_of entry)) 0 own → LastIs own last
last_is {own} folded s rows new own_is range = omega (arith, folded, most_folded finish_of 0 own, ap most_of (finishes_are own_is range))

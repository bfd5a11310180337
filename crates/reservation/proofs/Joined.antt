-- The rows of an admitted job put behind those held: after i of them, the slots hold the rows held and the first i.
use mathlib.Core.Path.{◌≡◌, sym, ap, ◌∙◌}
use mathlib.Core.List.{List, [], ◌∷◌, ◌++◌, append_assoc}
use Prim.Native.Nat.{ℕ, ◌+◌, ◌≤◌, ◌<◌}
use native.Mathlib.Omega.{arith}
use native.Mathlib.Numerals.{add-one}
use lib.ListN.{length, get_or, take, set, length-append}
use lib.Seq.{length-take-le, take-suc, take_all}
use Rattle.rules.specs.declared.Row.{Row}
use Rattle.rules.specs.declared.Setup.{Setup}
use Rattle.rules.specs.Words.{row_limit}
use Rattle.rules.specs.Placing.{no_row}
use Rattle.rules.proofs.Sequences.{get_or_mem}
use Rattle.timeline.specs.RowLine.{slots}
use Rattle.placement.specs.declared.own.Entry.{Entry}
use Rattle.placement.specs.Own.{nth_entry}
use Rattle.timeline.specs.Bookings.{RowIs}
use Rattle.reservation.specs.Parts.{Joining, MoreIs}
use Rattle.reservation.proofs.Slotted.{slot_next}

-- after i rows
pub record Joined (held : List Row) (count : ℕ) (own : List Entry) (job : ℕ) (rows : List Row) (i : ℕ) : Type 0 where
  pub follows : (s : Setup) (old new : List Row) → Joining s old new held count own job → rows ≡ slots row_limit (old ++ take i new)

module _
    {held : List Row} {count : ℕ} {own : List Entry} {job : ℕ} {rows : List Row} {i : ℕ} (sofar : Joined held count own job rows i) where
  pub joined_more : {row : Row} → i < length own → RowIs (nth_entry own i).booking job row → Joined held count own job (set rows (count + i) row) (i + 1)
  joined_more {row} below is = record {
    follows =
        λ s old new join.
        let there : i < length new = omega (arith, join.own_is.long) in
        let next = get_or new i no_row in
        let listed = get_or_mem new i no_row there in
        let same : row ≡ next = is s next join.sound (join.in_range next listed) (ap (λ e. e.booking) (join.own_is.is i there)) (join.one_job next listed) in
        let long = length-append old (take i new) in
        let front = length-take-le i new (omega arith) in
        let count_is = join.count_is in
        let fits = join.fits in
        let all : (old ++ take i new) ++ (next ∷ []) ≡ old ++ take (i + 1) new
        = append_assoc old (take i new) (next ∷ []) ∙ ap (λ l. old ++ l) (sym (ap (λ n. take n new) (add-one i) ∙ take-suc new i no_row there)) in
        rw (sofar.follows s old new join, same)
        (slot_next row_limit (old ++ take i new) next (omega arith) (omega arith) ∙ ap (slots row_limit) all);
  }

  pub joined_all : length own ≤ i → MoreIs held count own job rows
  joined_all all = λ s old new join.
      sofar.follows s old new join ∙ ap (λ l. slots row_limit (old ++ l)) (take_all i new (omega (arith, join.own_is.long)))

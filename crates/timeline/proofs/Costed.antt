-- What the rows that leave have cost: of the first i notes the costs of those that leave, added up.
use mathlib.Core.Path.{◌≡◌, refl, sym, ap, ◌∙◌}
use mathlib.Core.Bool.{Bool, true, false}
use mathlib.Core.List.{List, [], ◌∷◌, map}
use Prim.Native.Nat.{ℕ, ◌+◌, ◌-◌, ◌*◌, ◌≤◌, ◌<◌}
use native.Mathlib.Omega.{arith}
use lib.ListN.{length, get_or, take, drop, length-map}
use lib.Seq.{take_at, take-take}
use Rattle.rules.specs.declared.Row.{Row}
use Rattle.rules.specs.Sequences.{keep, sum_of}
use Rattle.rules.specs.Bounds.{largest_cost}
use Rattle.rules.specs.Placing.{costs}
use Rattle.rules.proofs.Sequences.{sum_append}
use Rattle.timeline.specs.declared.notes.Note.{Note}
use Rattle.timeline.specs.RowLine.{note_of}
use Rattle.timeline.specs.Notes.{no_note, CostIs}
use Rattle.timeline.specs.Packing.{by_mark}
use Rattle.timeline.specs.TakenOut.{FirstLeaving}
use Rattle.timeline.proofs.ColumnLaws.{column_parts}
use Rattle.timeline.proofs.Marked.{marked_more, marked_same, marked_from, marked_rows, marks_of}

-- the notes of those that leave, of the first so many
abbrev going : List Note → List Bool → ℕ → List Note
going notes leaves i = by_mark (λ mark. mark) (take i leaves) (take i notes)

-- after i notes
pub record Costed (notes : List Note) (leaves : List Bool) (i cost : ℕ) : Type 0 where
  pub fits : cost ≤ i * largest_cost
  pub is : cost ≡ sum_of (λ note. note.cost) (going notes leaves i)

module _
    {notes : List Note} {leaves : List Bool} {i cost : ℕ} (costed : Costed notes leaves i cost)
    (marked : i < length leaves) (within : i < length notes)
  where
    abbrev note : Note
    note = get_or notes i no_note

    pub costed_goes : get_or leaves i false ≡ true → note.cost ≤ largest_cost → Costed notes leaves (i + 1) (cost + note.cost)
    costed_goes e fits = record {
      fits = omega (arith, costed.fits);
      is =
          rw
          (marked_more (λ mark. mark) leaves notes i no_note e marked within, sum_append (λ note. note.cost) (going notes leaves i) (note ∷ []))
          (omega (arith, costed.is));
    }

    pub costed_stays : get_or leaves i false ≡ false → Costed notes leaves (i + 1) cost
    costed_stays e = record {
      fits = omega (arith, costed.fits);
      is = costed.is ∙ ap (sum_of (λ note. note.cost)) (sym (marked_same (λ mark. mark) leaves notes i e marked within));
    }

sum_noted : (last : ℕ → ℕ) (rows : List Row) → sum_of (λ note. note.cost) (map (note_of last) rows) ≡ costs rows
sum_noted last [] = refl
sum_noted last (row ∷ rows) = ap (λ n. row.cost + n) (sum_noted last rows)

-- from an index on, below which none leaves
pub cost_is :
    {notes : List Note} {leaves : List Bool} {from count cost : ℕ} → FirstLeaving leaves count from → count ≤ length leaves → count ≤ length notes →
    Costed (take (count - from) (drop from notes)) (take (count - from) (drop from leaves)) (count - from) cost → CostIs notes leaves count cost
cost_is {notes} {leaves} {from} {count} first marks_room room costed line leaving last long says noted =
    let front : take count notes ≡ map (note_of last) line =
    ap (take count) (noted ∙ column_parts (note_of last) line) ∙ take_at (map (note_of last) line) _ count (length-map line (note_of last) ∙ long)
    in
    let all = marked_from (λ mark. mark) from count leaves notes first.at_most marks_room room first.none_before in
    costed.is
    ∙ rw (
      take-take (count - from) (count - from) (drop from leaves) (omega arith),
      take-take (count - from) (count - from) (drop from notes) (omega arith),
      ← all,
      front,
      marks_of long says,
      marked_rows (λ mark. mark) leaving (note_of last) line,
    )
    (sum_noted last (keep leaving line))

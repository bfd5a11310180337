-- The soonest end that notes say, found one by one, is that of the rows on the line.
use mathlib.Core.Path.{◌≡◌, ap, ap₂, sym, ◌∙◌}
use mathlib.Core.List.{List, map}
use Prim.Native.Nat.{ℕ, min}
use native.Mathlib.Omega.{arith}
use lib.ListN.{take}
use Rattle.std.specs.List.{fold}
use Rattle.std.proofs.lemmas.Simd.{map-map}
use Rattle.timeline.specs.declared.notes.Note.{Note}
use Rattle.timeline.specs.RowLine.{note_of}
use Rattle.timetable.specs.Derived.{least_of, never}
use Rattle.timetable.specs.Marks.{SoonestIs}
use Rattle.timetable.proofs.Extremes.{least_none, least_fold}
use Rattle.timetable.proofs.Carried.{column_used}

pub soonest_noted : (notes : List Note) (count : ℕ) → SoonestIs notes count (fold (λ least note. min least note.last) never (take count notes))
soonest_noted notes count line last n is =
    let ends : Note → ℕ = λ note. note.last in
    let used = take count notes in
    let found : fold (λ least note. min least (ends note)) never used ≡ min never (least_of never (map ends used)) = least_fold never ends used (omega arith) in
    let all : min never (least_of never (map ends used)) ≡ least_of never (map ends used) = omega (arith, least_none never ends used) in
    found
    ∙ all
    ∙ ap (λ l. least_of never (map ends l)) (ap₂ take (sym n) is ∙ column_used (note_of last) line)
    ∙ ap (least_of never) (map-map ends (note_of last) line)

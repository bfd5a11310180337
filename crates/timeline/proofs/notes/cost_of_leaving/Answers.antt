-- `timeline::notes::cost_of_leaving` meets its contract: of the first so many notes the costs of those that leave are added up.
use mathlib.Core.Path.{◌≡◌, sym, ◌∙◌}
use mathlib.Core.Bool.{false}
use mathlib.Core.List.{List}
use Prim.Native.Nat.{◌+◌, ◌-◌, ◌≤◌, ◌<◌}
use native.Mathlib.Omega.{arith}
use lib.ListN.{length, take, drop, get_or, length-append, length-take, length-drop}
use Rattle.std.proofs.Common.{rules}
use Rattle.std.proofs.lemmas.List.{get_or-take, get_or-drop}
use Rattle.std.proofs.lemmas.Slice.Zip.{zip_turn, zip_end}
use Rattle.timeline.specs.Notes.{no_note}
use Rattle.timeline.specs.declared.leaving.Leaving.{Leaving}
use Rattle.timeline.proofs.Costed.{costed_goes, costed_stays, cost_is}
use Rattle.timeline.proofs.notes.cost_of_leaving.Goals as goal
use Rattle.timeline.proofs.notes.cost_of_leaving.Goals.{In-Some}

-- what a column has of the indices from the first that leaves on, up to the count
abbrev part : {A : Type 0} → Leaving → List A → List A
part leaving l = take (leaving.count - leaving.from) (drop leaving.from l)

part_long : {A : Type 0} (leaving : Leaving) (l : List A) → leaving.count ≤ length l → length (part leaving l) ≡ leaving.count - leaving.from
part_long leaving l room = omega (arith, length-take (leaving.count - leaving.from) (drop leaving.from l), length-drop leaving.from l)

-- the note and the mark of a turn
turn :
    (c : In-Some) →
    let notes = part c.args.leaving.now c.args.notes.now in
    let marks = part c.args.leaving.now c.args.leaving.now.marks in
    let i = length c.loop-note.yielded in
    (i < length marks) × (i < length notes) × (c.in-Some.note.now ≡ get_or notes i no_note) × (c.in-Some.leaves.now ≡ get_or marks i false)
turn c =
    let leaving = c.args.leaving.now in
    let at =
    zip_turn (part leaving c.args.notes.now) (part leaving leaving.marks) c.loop-note.yielded c.into_iter-note-iterator.result _ c.next.new.self _
    (search rules) (search rules) c.loop-note.yielded_by (c.in-Some.note, c.in-Some.leaves) c.in-Some.is (search rules)
    in
    (at.1, at.0, at.2 no_note, at.3 false)

pub loop-note-preserved-then-leaves : goal.loop-note-preserved-then-leaves
loop-note-preserved-then-leaves c =
    let at = turn (goal.at.loop-note-preserved-then-leaves c).In-Some in
    let leaving = c.args.leaving.now in
    let i = length c.loop-note.yielded in
    let below : i < leaving.count - leaving.from = omega (arith, at.1, part_long leaving c.args.notes.now c.requires.room) in
    let note_is = get_or-take (leaving.count - leaving.from) (drop leaving.from c.args.notes.now) i no_note below ∙ get_or-drop leaving.from c.args.notes.now i no_note in
    let fits = rw (← note_is) at (c.requires.costs_fit (leaving.from + i) (omega arith)) in
    rw (length-append, at.2) (costed_goes c.loop-note.invariant at.0 at.1 (sym at.3 ∙ c.if-leaves.true) fits)

pub loop-note-preserved : goal.loop-note-preserved
loop-note-preserved c =
    let at = turn (goal.at.loop-note-preserved c).In-Some in
    rw length-append (costed_stays c.loop-note.invariant at.0 at.1 (sym at.3 ∙ c.if-leaves.false))

pub returns : goal.returns
returns c =
    let leaving = c.args.leaving.now in
    let all =
    zip_end (part leaving c.args.notes.now) (part leaving leaving.marks) c.loop-note.yielded c.into_iter-note-iterator.result _ c.next.new.self _
    (search rules) (search rules) c.loop-note.yielded_by c.in-None.is (search rules)
    in
    let marks_room : leaving.count ≤ length leaving.marks = omega (arith, leaving.long, leaving.few) in
    let marks = part_long leaving leaving.marks marks_room in
    let notes = part_long leaving c.args.notes.now c.requires.room in
    let same : length c.loop-note.yielded ≡ leaving.count - leaving.from = omega (arith, all, marks, notes) in
    cost_is leaving.first marks_room c.requires.room (rw same at c.loop-note.invariant)

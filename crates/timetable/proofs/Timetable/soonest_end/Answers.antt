-- `timetable::Timetable::soonest_end` meets its contract.
use Prim.Native.Nat.{min}
use mathlib.Core.Path.{sym, ◌∙◌}
use lib.ListN.{take}
use Rattle.std.proofs.Common.{rules, tests}
use Rattle.std.proofs.lemmas.Iterator.{YieldsList-from_slice}
use Rattle.std.proofs.lemmas.Iterator.Consumers.{fold_from_yields_List}
use Rattle.timetable.specs.Derived.{never}
use Rattle.timetable.proofs.Noted.{soonest_noted}
use Rattle.timetable.proofs.Timetable.soonest_end.Goals as goal

pub returns : goal.returns
returns c line last n is =
    let notes = c.args.self.now.notes in
    let used = take c.count.result notes in
    fold_from_yields_List
    _
    (λ least note. min least note.last)
    never
    _
    c.fold.ensures.ran
    (YieldsList-from_slice used cc)
    (λ a x b q k. search (rules, tests))
    ∙ soonest_noted notes c.count.result line last (n ∙ sym c.count.ensures.is) is

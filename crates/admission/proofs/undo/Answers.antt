-- `admission::undo` meets its contract: so many of the own rows are gone from the timeline.
use mathlib.Core.Path.{◌≡◌}
use Prim.Native.Nat.{◌-◌, ◌<◌}
use native.Mathlib.Omega.{arith}
use lib.ListN.{length, length-append}
use Rattle.std.proofs.lemmas.Iterator.Adapters.{YieldsList-from_rev_slice}
use Rattle.std.proofs.lemmas.Iterator.Consumers.{YieldsList-turn}
use Rattle.placement.specs.Own.{nth_entry}
use Rattle.admission.proofs.Undoing.{turned, undoing_more, off_asked}
use Rattle.admission.proofs.undo.Goals as goal
use Rattle.admission.proofs.undo.Goals.{In-Some}

-- the entry is the last of those that are left
turn :
    (c : In-Some) →
    (length c.loop-entry.yielded < length c.args.own.now.items)
    × (c.in-Some.entry.now ≡ nth_entry c.args.own.now.items (length c.args.own.now.items - 1 - length c.loop-entry.yielded))
turn c =
    let own = c.args.own.now.items in
    let all = YieldsList-from_rev_slice own (cc) in
    let t = YieldsList-turn all c.loop-entry.yielded _ c.loop-entry.yielded_by _ _ c.in-Some.entry c.in-Some.is c.next.ensures.steps in
    turned own (length c.loop-entry.yielded) t.0 t.1

pub remove-requires : goal.remove-requires
remove-requires c =
    let t = turn (goal.at.remove-requires c).In-Some in
    (omega arith, off_asked c.loop-entry.invariant c.requires t.0 t.1)

pub loop-entry-preserved : goal.loop-entry-preserved
loop-entry-preserved c =
    let t = turn (goal.at.loop-entry-preserved c).In-Some in
    rw
    (length-append)
    (undoing_more c.loop-entry.invariant c.requires t.0 t.1 c.remove.ensures)

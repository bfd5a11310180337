-- `drcd::Scene::try_inputs` meets its contract: after i messages the rows tried are those of the rules.
use mathlib.Core.Path.{◌≡◌, ap}
use mathlib.Core.Logic.{inl, inr}
use Prim.Native.Nat.{◌<◌}
use native.Mathlib.Omega.{arith}
use lib.ListN.{length, get_or}
use Rattle.drcd.proofs.TriedRows.{no_input, tried_none, tried_off, ask_send, tried_across}
use Rattle.drcd.proofs.Scene.try_inputs.Goals as goal
use Rattle.drcd.proofs.Scene.try_inputs.Goals.{In-loop-i, then-input-machine-via-then-input-machine}
use Rattle.drcd.proofs.Scene.try_inputs.Goals.{then-input-machine-via-else-input-machine+then-input-eq0}

-- the index of this turn, and its input
more : (c : In-loop-i) → c.loop-i.i < length c.args.self.inputs.now.items
more c = rw c.as_slice-input-items.ensures.value at c.loop-i-test.true

reads : (c : In-loop-i) → get_or c.as_slice-input-items.result.now c.loop-i.i no_input ≡ get_or c.args.self.inputs.now.items c.loop-i.i no_input
reads c = ap (λ l. get_or l c.loop-i.i no_input) c.as_slice-input-items.ensures.value

pub loop-i-init : goal.loop-i-init
loop-i-init c = rw c.new-tried.ensures (tried_none c.requires.turn c.requires.long)

pub loop-i-preserved-then-input-machine : goal.loop-i-preserved-then-input-machine
loop-i-preserved-then-input-machine c =
    let at = (goal.at.loop-i-preserved-then-input-machine c).In-loop-i in
    tried_off
    c.requires.turn
    c.loop-i.invariant
    (more at)
    (reads at)
    (elim c.then-input-machine.branch [
      | then-input-machine-via-then-input-machine w ↦ inl w.if-input-machine.true
      | then-input-machine-via-else-input-machine+then-input-eq0 w ↦ inr w.if-input-eq0.true
    ])
    c.max-arrived.ensures

pub send-sent-requires : goal.send-sent-requires
send-sent-requires c =
    let at = (goal.at.send-sent-requires c).In-loop-i in
    ask_send c.requires.turn c.loop-i.invariant (more at) (reads at) c.if-input-machine.false (omega (arith, c.if-input-eq0.false))

pub loop-i-preserved : goal.loop-i-preserved
loop-i-preserved c =
    let at = (goal.at.loop-i-preserved c).In-loop-i in
    tried_across
    c.requires.turn
    c.loop-i.invariant
    (more at)
    (reads at)
    c.if-input-machine.false
    (omega (arith, c.if-input-eq0.false))
    c.send-sent.ensures
    c.max-arrived-in-loop-i.ensures

-- `drcd::choice::choose` meets its contract: after each machine, what is kept is the foremost of the good trials so far.
use mathlib.Core.Bool.{not}
use mathlib.Core.Logic.{⊎_elim}
use mathlib.Core.Path.{◌≡◌, refl, sym, ap, ◌∙◌}
use native.Mathlib.Omega.{arith}
use mathlib.Core.List.{◌∷◌}
use Prim.Native.Nat.{◌+◌, ◌≤◌}
use lib.ListN.{take, length, length-take}
use Rattle.std.proofs.Common.{rules}
use Rattle.std.proofs.Common.{None}
use Rattle.drcd.proofs.Chosen.{displaces, runs_of, turn_few, chosen_none, chosen_all, chosen_unable, chosen_asks, chosen_late, chosen_stays, chosen_taken}
use Rattle.drcd.proofs.choice.choose.Goals as goal
use Rattle.drcd.proofs.choice.choose.Goals.{In-Some, in_default-via-in-None-1, in_default-via-in-Some-kept+else-le}

step : (c : In-Some) → c.loop-machine.machine-iterator.b.rest.now ≡ c.in-Some.field-0-1.now ∷ c.next.new.self.b.rest.now
step c = c.in-Some.ensures.steps.1

machine_is : (c : In-Some) → c.in-Some.machine ≡ c.loop-machine.machine-iterator.a.start
machine_is c = c.in-Some.ensures.steps.0.0

next_is : (c : In-Some) → c.next.new.self.a.start ≡ c.loop-machine.machine-iterator.a.start + 1
next_is c = c.in-Some.ensures.steps.0.1 ∙ ap (λ m. m + 1) (machine_is c)

pub offset_bounds-job-turn : goal.offset_bounds-job-turn
offset_bounds-job-turn c = omega (arith, turn_few c.requires)

pub bounds-job-turn : goal.bounds-job-turn
bounds-job-turn c = turn_few c.requires

pub loop-machine-init : goal.loop-machine-init
loop-machine-init c =
    let machines = c.args.setup.now.table.machines in
    let runs = runs_of c.args.job.now c.args.turn in
    let left : c.zip-machine-items.result.b.rest.now ≡ take machines runs = search rules in
    let room : machines ≤ length runs = omega (arith, length-take machines runs) in
    rw (c.into_iter-machine-iterator.ensures.into_iter_gives, c.zip-machine-items.ensures.first, left) (chosen_none c.requires room, refl)

pub loop-machine-preserved-then-run-eq0 : goal.loop-machine-preserved-then-run-eq0
loop-machine-preserved-then-run-eq0 c =
    let at = (goal.at.loop-machine-preserved-then-run-eq0 c).In-Some in
    (rw (next_is at) (chosen_unable c.requires c.loop-machine.invariant.0 (step at) c.if-run-eq0.true), c.loop-machine.invariant.1)

pub attempt-best-requires : goal.attempt-best-requires
attempt-best-requires c =
    let at = (goal.at.attempt-best-requires c).In-Some in
    record {
      turn = rw (machine_is at) (chosen_asks c.requires c.loop-machine.invariant.0 (step at) c.if-run-eq0.false);
      long = c.loop-machine.invariant.1;
    }

pub loop-machine-preserved-then-task-best : goal.loop-machine-preserved-then-task-best
loop-machine-preserved-then-task-best c =
    let at = (goal.at.loop-machine-preserved-then-task-best c).In-Some in (
      rw
          (next_is at)
          (chosen_late
          c.requires
          c.loop-machine.invariant.0
          (step at)
          c.if-run-eq0.false
          (rw (machine_is at) at c.attempt-best.ensures.attempt)
          c.if-task-best.true),
      c.attempt-best.ensures.long,
    )

pub loop-machine-preserved-in-loop-machine : goal.loop-machine-preserved-in-loop-machine
loop-machine-preserved-in-loop-machine c =
    let at = (goal.at.loop-machine-preserved-in-loop-machine c).In-Some in (
      rw
          (next_is at)
          (chosen_stays
          c.requires
          c.loop-machine.invariant.0
          (step at)
          c.if-run-eq0.false
          (rw (machine_is at) at c.attempt-best.ensures.attempt)
          c.if-task-best.false
          (rw c.in-Some-kept.is (ap not (sym (rw c.in-Some-kept.is at c.if-le.ensures))))),
      c.attempt-best.ensures.long,
    )

pub loop-machine-preserved : goal.loop-machine-preserved
loop-machine-preserved c =
    let at = (goal.at.loop-machine-preserved c).In-Some in (
      rw
          (next_is at, machine_is at)
          (chosen_taken
          c.requires
          c.loop-machine.invariant.0
          (step at)
          c.if-run-eq0.false
          (rw (machine_is at) at c.attempt-best.ensures.attempt)
          c.if-task-best.false
          (elim c.in_default.branch [
            | in_default-via-in-None-1 w ↦ let none : c.loop-machine.kept ≡ None = cc in ap (displaces c.attempt-best.result) none
            | in_default-via-in-Some-kept+else-le w ↦ rw w.in-Some-kept.is (ap not (sym (rw w.in-Some-kept.is at w.if-le.ensures)))
          ])),
      c.attempt-best.ensures.long,
    )

pub returns : goal.returns
returns c = chosen_all c.requires c.loop-machine.invariant.0 (⊎_elim (λ first. absurd (omega arith)) (λ second. second.1.0) c.in-None.ensures.steps)

-- `Register::look` meets its contract: what the first span that ends after the tick says is what the rules see.
use mathlib.Core.Path.{refl}
use Prim.Native.Nat.{◌<◌}
use native.Mathlib.Omega.{arith}
use Rattle.rules.specs.Laws.{IsMachine}
use Rattle.reservation.proofs.Values.{timetable_kept}
use Rattle.reservation.proofs.Sighted.{sees_no_machine, sees_past, sees_none, sees_its_row, ends_asked}
use Rattle.reservation.proofs.Register.look.Goals as goal
use Rattle.reservation.proofs.Register.look.Goals.{Else-at-count, Else-self-machine}
use Rattle.reservation.proofs.Register.look.Goals.{then-at-count-via-then-at-count, then-at-count-via-else-at-count+then-place-span}

is_machine : (c : Else-self-machine) → IsMachine c.self.inside.setup c.args.machine
is_machine c = record { first = c.if-machine-lt1.false; last = c.if-self-machine.false }

-- there is a span that ends after the tick
below : (c : Else-at-count) → c.first_after-at.result < c.self.inside.timetable.line.count
below c = let most = c.first_after-at.ensures.at_most in omega (arith, c.if-at-count.false, c.count.ensures.is)

pub returns-then-machine-lt1 : goal.returns-then-machine-lt1
returns-then-machine-lt1 c =
    rw (← c.self.view_is) (sees_no_machine _ _ _ (λ is. let out = c.then-machine-lt1.either in omega (arith, is.first, is.last)))

pub returns-then-tick-gt-HORIZON : goal.returns-then-tick-gt-HORIZON
returns-then-tick-gt-HORIZON c =
    let there = is_machine (goal.at.returns-then-tick-gt-HORIZON c).Else-self-machine in
    rw (← c.self.view_is) (sees_past _ _ _ (timetable_kept c.self.invariant refl) there c.if-tick-gt-HORIZON.true)

pub first_after-at-requires : goal.first_after-at-requires
first_after-at-requires c = (omega arith, ends_asked (timetable_kept c.self.invariant refl))

pub returns-then-at-count : goal.returns-then-at-count
returns-then-at-count c =
    rw (← c.self.view_is)
    (sees_none _ _ _ (timetable_kept c.self.invariant refl) (is_machine (goal.at.returns-then-at-count c).Else-self-machine) c.first_after-at.ensures
    (λ some. elim c.then-at-count.branch [
      | then-at-count-via-then-at-count w ↦ absurd (omega (arith, w.if-at-count.true, c.count.ensures.is))
      | then-at-count-via-else-at-count+then-place-span w ↦ rw w.span.ensures.is at w.if-place-span.true
    ]))

pub returns : goal.returns
returns c =
    rw (← c.self.view_is)
    (sees_its_row
    _
    _
    _
    (timetable_kept c.self.invariant refl)
    (is_machine (goal.at.returns c).Else-self-machine)
    c.first_after-at.ensures
    c.if-tick-gt-HORIZON.false
    (below (goal.at.returns c).Else-at-count)
    (rw c.span.ensures.is at c.if-place-span.false)
    c.row.ensures)

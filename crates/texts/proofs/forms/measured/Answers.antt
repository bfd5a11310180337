-- `texts::forms::measured` meets its contract: a turn judges one figure and counts the bytes of its line.
use mathlib.Core.Path.{sym}
use native.Mathlib.Omega.{arith}
use Rattle.lines.specs.DueLines.{due_of}
use Rattle.lines.proofs.LineLaws.{fits_takes}
use Rattle.texts.proofs.Writing.{walk_over, walk_unfit, walk_long, unfilled_measured, measured_more, measured_all}
use Rattle.texts.proofs.forms.measured.Goals as goal
use Rattle.texts.proofs.forms.measured.Goals.{then-is_unfit-via-then-is_unfit, then-is_unfit-via-else-is_unfit+then-due-digits}

pub returns-in_err-here : goal.returns-in_err-here
returns-in_err-here g c =
    rw c.from_residual.ensures (unfilled_measured (walk_over c.loop-figure.invariant.walk c.loop-figure-test.true c.in_err-here.was))

pub returns-then-is_unfit : goal.returns-then-is_unfit
returns-then-is_unfit g c =
    let walk = c.loop-figure.invariant.walk in
    let due = c.due-due.ensures c.args.machines in
    unfilled_measured (elim c.then-is_unfit.branch [
      | then-is_unfit-via-then-is_unfit w ↦ walk_unfit walk c.loop-figure-test.true c.in_ok-here.was due (sym w.if-is_unfit.ensures)
      | then-is_unfit-via-else-is_unfit+then-due-digits w ↦
          let l = c.width-digits.ensures in
          let h = w.if-due-digits.true in
          walk_long walk c.loop-figure-test.true c.in_ok-here.was due (omega arith)
    ])

pub loop-figure-preserved : goal.loop-figure-preserved
loop-figure-preserved g c =
    let w = c.width-digits.ensures in
    let h = c.if-due-digits.false in
    let taken = fits_takes {due = due_of c.due-due.result} (record { in_range = sym c.if-is_unfit.ensures; short = omega arith }) in
    measured_more
    c.loop-figure.invariant
    c.loop-figure-test.true
    c.in_ok-here.was
    (c.due-due.ensures c.args.machines)
    taken
    c.after-place.ensures
    (rw (c.text.ensures, c.width-digits.ensures) at c.saturating_add-length.ensures)

pub returns : goal.returns
returns g c =
    rw c.then_some.ensures
    (measured_all c.loop-figure.invariant c.loop-figure-test.false c.loop-figure.auto.figure-index-end c.is_none.result (g.met.L.FormLine.due_there c.args.machines) c.is_none.ensures)

-- `texts::forms::put_form` meets its contract: a turn writes one line.
use mathlib.Core.Path.{◌≡◌}
use mathlib.Core.Bool.{true}
use lib.ListN.{get_or}
use Rattle.lines.specs.Lines.{takes}
use Rattle.lines.specs.DueLines.{due_of}
use Rattle.texts.proofs.Staged.{ask_next}
use Rattle.texts.proofs.Writing.{walk_taken, walk_goes_on, wrote_room, wrote_more, wrote_all}
use Rattle.texts.proofs.forms.put_form.Given.{Over}
use Rattle.texts.proofs.forms.put_form.Goals as goal
use Rattle.texts.proofs.forms.put_form.Goals.{After-due}

taken : (g : Over) (c : After-due g) → takes (due_of c.due.result) (get_or c.args.figures.now c.loop-figure.figure-index 0) ≡ true
taken g c =
    walk_taken c.loop-figure.invariant.walk c.loop-figure-test.true c.in-Some.is (c.due.ensures c.args.machines) c.requires.figures.fills_it

pub unreachable-requires : goal.unreachable-requires
unreachable-requires g c = walk_goes_on c.loop-figure.invariant.walk c.loop-figure-test.true c.requires.figures.fills_it c.in_default.is

pub put_line-at-requires : goal.put_line-at-requires
put_line-at-requires g c =
    wrote_room c.loop-figure.invariant c.requires.room c.loop-figure-test.true c.in-Some.is (c.due.ensures c.args.machines)

pub after-place-requires : goal.after-place-requires
after-place-requires g c = ask_next c.requires.figures.some_machine (c.due.ensures _) (taken g (goal.at.after-place-requires g c).After-due)

pub loop-figure-preserved : goal.loop-figure-preserved
loop-figure-preserved g c =
    wrote_more
    c.loop-figure.invariant
    c.requires.room
    c.loop-figure-test.true
    c.in-Some.is
    (c.due.ensures c.args.machines)
    (taken g (goal.at.loop-figure-preserved g c).After-due)
    c.after-place.ensures
    c.put_line-at.ensures

pub returns : goal.returns
returns g c = wrote_all c.loop-figure.invariant c.loop-figure-test.false

-- `texts::forms::read_form` meets its contract: a turn reads one line, and its figure stands in the row.
use mathlib.Core.Path.{sym, subst}
use native.Mathlib.Omega.{arith}
use Rattle.lines.specs.DueLines.{due_of}
use Rattle.texts.specs.Parts.{FormRead}
use Rattle.texts.proofs.Staged.{ask_next}
use Rattle.texts.proofs.Reading.{Took, took, read_more, read_stops, read_all}
use Rattle.texts.proofs.forms.read_form.Given.{Over}
use Rattle.texts.proofs.forms.read_form.Goals as goal
use Rattle.texts.proofs.forms.read_form.Goals.{In-Ok}

line_read : (g : Over) (c : In-Ok g) → Took (due_of c.due.result) c.args.text.now c.loop-place.at c.in-Ok.field-0.value c.in-Ok.field-0.next
line_read g c = took (sym c.in-Ok.ensures)

pub returns-in_default-line : goal.returns-in_default-line
returns-in_default-line g c =
    subst (FormRead _ _ _ _) (sym c.in_default-line.is)
    (read_stops c.loop-place.invariant c.in-Some.is (c.due.ensures c.args.machines) c.in_default-line.ensures)

pub after-place-requires : goal.after-place-requires
after-place-requires g c = ask_next c.requires.some_machine (c.due.ensures _) (line_read g (goal.at.after-place-requires g c).In-Ok).taken

pub loop-place-smaller : goal.loop-place-smaller
loop-place-smaller g c = let t = line_read g (goal.at.loop-place-smaller g c).In-Ok in omega arith

pub loop-place-preserved : goal.loop-place-preserved
loop-place-preserved g c =
    read_more
    c.loop-place.invariant
    c.in-Some.is
    (c.due.ensures c.args.machines)
    (line_read g (goal.at.loop-place-preserved g c).In-Ok)
    c.after-place.ensures

pub returns : goal.returns
returns g c = read_all c.loop-place.invariant c.in_default.is

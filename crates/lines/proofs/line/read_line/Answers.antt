-- `lines::line::read_line` meets its contract: each return is one of the line's tests.
use mathlib.Core.Path.{◌≡◌, sym, ◌∙◌}
use mathlib.Core.Bool.{true}
use lib.ListN.{length, drop}
use Rattle.std.proofs.lemmas.List.{take_rest}
use Rattle.lines.specs.Lines.{begins}
use Rattle.lines.specs.Parts.{NumberIs}
use Rattle.lines.specs.DueLines.{key_bytes, due_of}
use Rattle.lines.proofs.Begun.{begins_is}
use Rattle.lines.proofs.Lined.{not_begun, ill_line, unfit_line, good_line}
use Rattle.lines.proofs.line.read_line.Goals as goal
use Rattle.lines.proofs.line.read_line.Goals.{After-starts_with, Else-not-starts_with, After-number}

-- the key is looked for where the line begins
began : (c : After-starts_with) → let a = c.args in begins (key_bytes a.due.key) (drop a.at a.text.now) ≡ c.starts_with.result
began c = simp (take_rest, c.text-key.ensures, begins_is) at (sym c.starts_with.ensures.value)

has_begun : (c : Else-not-starts_with) → let a = c.args in begins (key_bytes a.due.key) (drop a.at a.text.now) ≡ true
has_begun c = began (goal.at.Else-not-starts_with c).After-starts_with ∙ c.if-not-starts_with.false

-- and the number after it
found : (c : After-number) → let a = c.args in
    NumberIs (drop (length (key_bytes a.due.key)) (drop a.at a.text.now)) a.due.digits c.number.result
found c = simp (take_rest, c.text-key.ensures) at c.number.ensures

pub returns-then-not-starts_with : goal.returns-then-not-starts_with
returns-then-not-starts_with c =
    not_begun (due_of c.args.due) _ _ (began (goal.at.returns-then-not-starts_with c).After-starts_with ∙ c.if-not-starts_with.true)

pub returns-in_default : goal.returns-in_default
returns-in_default c =
    ill_line
    (due_of c.args.due)
    _
    _
    (has_begun (goal.at.returns-in_default c).Else-not-starts_with)
    (rw c.in_default.is at (found (goal.at.returns-in_default c).After-number))

pub returns-then-is_unfit : goal.returns-then-is_unfit
returns-then-is_unfit c =
    unfit_line
    (due_of c.args.due)
    _
    _
    (has_begun (goal.at.returns-then-is_unfit c).Else-not-starts_with)
    (rw c.in-Some.is at (found (goal.at.returns-then-is_unfit c).After-number))
    (sym c.is_unfit.ensures ∙ c.if-is_unfit.true)

pub returns : goal.returns
returns c =
    rw
    c.text-key.ensures
    (good_line
    (due_of c.args.due)
    _
    _
    (has_begun (goal.at.returns c).Else-not-starts_with)
    (rw c.in-Some.is at (found (goal.at.returns c).After-number))
    (sym c.is_unfit.ensures ∙ c.if-is_unfit.false))

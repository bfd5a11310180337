-- `lines::line::number` meets its contract: each return is one of 15's tests.
use mathlib.Core.Path.{◌≡◌, ap, ◌∙◌, refl, sym}
use mathlib.Core.Bool.{not}
use mathlib.Core.List.{[], ◌∷◌}
use mathlib.Core.Logic.{⊎_elim}
use native.Mathlib.Omega.{arith}
use lib.ListN.{drop}
use borrow.Author.Tests.{eq-eqb, ne_eqb, not-true, not-false}
use Rattle.lines.specs.Figures.{zero_digit, line_feed}
use Rattle.lines.specs.Lines.{begins}
use Rattle.lines.proofs.Numbers.{feed_is, no_digits, too_many, no_feed, leading_zero, well}
use Rattle.lines.proofs.line.number.Goals as goal
use Rattle.lines.proofs.line.number.Goals.{After-ne, else-count-ne1-via-then-count-ne1+else-text-eq48, else-count-ne1-via-else-count-ne1}

feed : (c : After-ne) → not (begins (line_feed ∷ []) (drop c.scan-digits.result.count c.args.text.now)) ≡ c.ne.result
feed c = sym (c.ne.ensures ∙ ap not (feed_is _ _ _ _ c.get.ensures.lookup refl))

pub returns-then-count-eq0 : goal.returns-then-count-eq0
returns-then-count-eq0 c =
    ⊎_elim (λ e. no_digits c.scan-digits.ensures e) (λ e. too_many c.scan-digits.ensures e.1) c.then-count-eq0.either

pub returns-then-ne : goal.returns-then-ne
returns-then-ne c = no_feed c.scan-digits.ensures c.if-most-count.false (not-true _ (feed (goal.at.returns-then-ne c).After-ne ∙ c.if-ne.true))

pub returns-then-text-eq48 : goal.returns-then-text-eq48
returns-then-text-eq48 c =
    leading_zero c.scan-digits.ensures (omega arith) c.if-most-count.false c.if-text-eq48.true

pub returns : goal.returns
returns c =
    well
    c.scan-digits.ensures
    (omega arith)
    c.if-most-count.false
    (not-false _ (feed (goal.at.returns c).After-ne ∙ c.if-ne.false))
    (elim c.else-count-ne1.branch [
      | else-count-ne1-via-then-count-ne1+else-text-eq48 w ↦ rw (ne_eqb _ 1 w.if-count-ne1.true, ne_eqb _ zero_digit w.if-text-eq48.false) refl
      | else-count-ne1-via-else-count-ne1 w ↦ rw (eq-eqb _ 1 w.if-count-ne1.false) refl
    ])

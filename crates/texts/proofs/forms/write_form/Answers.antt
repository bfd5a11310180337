-- `texts::forms::write_form` meets its contract: the lines are judged and measured, and written where they fit.
use mathlib.Core.Path.{◌≡◌, sym, ap, ◌∙◌}
use native.Mathlib.Omega.{arith}
use Rattle.std.specs.Result.{result_ok}
use Rattle.std.proofs.Common.{None}
use Rattle.std.proofs.lemmas.Result.{err_from_is_err_and}
use Rattle.texts.specs.declared.forms.Unwritten.TheVariants.{Unwritable}
use Rattle.texts.proofs.Writers.{fits_written, short_unwritten, unfit_unwritten}
use Rattle.texts.proofs.forms.write_form.Goals as goal

pub returns-in_err-length : goal.returns-in_err-length
returns-in_err-length g c =
    let none : c.measured.result ≡ None = c.ok_or.ensures.ok_part ∙ ap result_ok c.in_err-length.was in
    let first : c.in_err-length.field-0.0 ≡ Unwritable = let said = sym c.in_err-length.was ∙ (rw none at c.ok_or.ensures.value) in cc in
    let refusal = err_from_is_err_and c.from_residual.result c.from_residual.ensures.1 in
    rw (refusal.1, refusal.2, first) (unfit_unwritten _ _ (c.measured.ensures.unfilled none))

pub returns-then-output-length : goal.returns-then-output-length
returns-then-output-length g c =
    let m = c.measured.ensures.filled c.in_ok-length.length (c.ok_or.ensures.ok_part ∙ ap result_ok c.in_ok-length.was) in
    let short = c.if-output-length.true in
    short_unwritten _ _ m.0 (let long = m.1 c.requires.few in omega arith)

pub returns : goal.returns
returns g c =
    let m = c.measured.ensures.filled c.in_ok-length.length (c.ok_or.ensures.ok_part ∙ ap result_ok c.in_ok-length.was) in
    let fits = c.if-output-length.false in
    fits_written _ _ m.0 (let long = m.1 c.requires.few in omega arith) c.put_form.ensures

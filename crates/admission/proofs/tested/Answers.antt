-- `admission::tested` meets its contract: each way out is the first test that refuses.
use mathlib.Core.Path.{refl}
use native.Mathlib.Omega.{arith}
use Rattle.std.proofs.lemmas.Result.{err_from_is_err_and}
use Rattle.admission.proofs.Testing.{tested_early, number_narrow, first_asked, tested_5, tested_6, tested_0}
use Rattle.admission.proofs.tested.Goals as goal

pub returns-in_err-screened : goal.returns-in_err-screened
returns-in_err-screened c =
    let p = err_from_is_err_and c.from_residual.result c.from_residual.ensures.1 in
    rw (p.1, p.2) (tested_early (c.in_err-screened.ensures c.args.setup.now refl))

pub overflow_cast-job : goal.overflow_cast-job
overflow_cast-job c = omega (arith, number_narrow ((c.in_ok-screened.ensures c.args.setup.now refl).in_range refl))

pub returns-then-is_held : goal.returns-then-is_held
returns-then-is_held c = tested_5 (c.in_ok-screened.ensures c.args.setup.now refl) c.if-is_held.ensures

pub first_infeasible-requires : goal.first_infeasible-requires
first_infeasible-requires c = first_asked (c.in_ok-screened.ensures c.args.setup.now refl) c.requires

pub returns-in-Some : goal.returns-in-Some
returns-in-Some c = tested_6 (c.in_ok-screened.ensures c.args.setup.now refl) c.if-is_held.ensures c.in-Some.ensures

pub returns-in-None : goal.returns-in-None
returns-in-None c = tested_0 (c.in_ok-screened.ensures c.args.setup.now refl) c.if-is_held.ensures c.in-None.ensures

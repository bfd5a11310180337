-- `timetable::Timetable::advance` meets its contract: a refused move, one before the soonest end, or the ended jobs' rows taken out.
use mathlib.Core.Path.{ap}
use Rattle.std.proofs.lemmas.Result.{err_from_is_err_and}
use Rattle.timetable.proofs.Fresh.{nothing}
use Rattle.timetable.proofs.Standing.{refused_goes}
use Rattle.timetable.proofs.Left.{quiet_goes, advance_asked, advance_goes}
use Rattle.timetable.proofs.Timetable.advance.Goals as goal

pub returns-in_err-advancement : goal.returns-in_err-advancement
returns-in_err-advancement c s st is =
    let p = err_from_is_err_and c.from_residual.result c.from_residual.ensures.1 in
    rw (p.1, p.2) (refused_goes is _ (c.in_err-advancement.ensures s st (ap (λ t. t.clock) is.is)))

pub returns-then-tick-self : goal.returns-then-tick-self
returns-then-tick-self c s st is = rw (nothing c.default.ensures) (quiet_goes is c.args.tick c.in_ok-advancement.ensures c.if-tick-self.true)

pub take_out-requires : goal.take_out-requires
take_out-requires c =
    advance_asked c.requires.is c.args.tick c.in_ok-advancement.ensures c.rows_ended-leaving.ensures.rows c.rows_ended-leaving.ensures.count

pub returns : goal.returns
returns c s st is =
    let moved = c.rows_ended-leaving.ensures.rows in
    rw
    (nothing c.default-2.ensures)
    (advance_goes is c.args.tick c.in_ok-advancement.ensures moved c.take_out.ensures c.soonest_end-self.ensures)

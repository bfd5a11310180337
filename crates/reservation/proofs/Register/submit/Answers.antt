-- `Register::submit` meets its contract: a refusal leaves the register, and an admission leaves the one with the new rows behind the held ones.
use mathlib.Core.Path.{refl}
use native.Mathlib.Omega.{arith}
use Rattle.reservation.proofs.Values.{timetable_kept, fields_kept}
use Rattle.reservation.proofs.Stepped.{refused_steps, admitted_asked, admitted_number, admitted_fields, admitted_steps}
use Rattle.reservation.proofs.Register.submit.Goals as goal

pub returns-then-is_err : goal.returns-then-is_err
returns-then-is_err c =
    let goes = c.submit-answer.ensures.is _ (timetable_kept c.self.invariant refl) in
    rw (← c.self.view_is) (refused_steps _ _ _ goes.answer_is c.if-is_err.ensures.negation)

pub overflow_cast-job : goal.overflow_cast-job
overflow_cast-job c = omega (arith, admitted_number c.self.invariant c.submit-answer.ensures c.if-is_err.ensures.negation)

pub with_rows-rows-requires : goal.with_rows-rows-requires
with_rows-rows-requires c =
    rw
    (c.count-count.ensures.is, c.as_slice.ensures.value)
    (admitted_asked c.self.invariant c.submit-answer.ensures c.if-is_err.ensures.negation)

pub invariant_of-register : goal.invariant_of-register
invariant_of-register c =
    let more = rw (c.count-count.ensures.is, c.as_slice.ensures.value) at c.with_rows-rows.ensures in
    fields_kept (admitted_fields c.self.invariant c.submit-answer.ensures c.if-is_err.ensures.negation more)

pub returns : goal.returns
returns c =
    let more = rw (c.count-count.ensures.is, c.as_slice.ensures.value) at c.with_rows-rows.ensures in
    rw (← c.self.view_is) (admitted_steps c.self.invariant c.submit-answer.ensures c.if-is_err.ensures.negation more)

-- `Register::left_after` meets its contract: a refusal leaves the very same register, else the rows whose jobs are still held stay.
use Rattle.reservation.proofs.Values.{kept_fields, fields_kept}
use Rattle.reservation.proofs.Stepped.{refused_steps, removed_fields}
use Rattle.reservation.proofs.Register.left_after.Goals as goal

pub returns-then-is_err : goal.returns-then-is_err
returns-then-is_err c = λ call goes leaves. refused_steps _ call _ goes.answer_is c.if-is_err.ensures.negation

pub invariant_of-register : goal.invariant_of-register
invariant_of-register c =
    let asked = c.requires in
    let of = kept_fields c.self.invariant c.self.view_is in
    fields_kept (removed_fields of asked.goes asked.leaves (rw c.count.ensures.is at c.still_held-rows.ensures))

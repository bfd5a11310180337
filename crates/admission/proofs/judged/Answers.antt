-- `admission::judged` meets its contract: what placing found, or what is left once it is taken off again.
use native.Mathlib.Omega.{arith}
use Rattle.admission.proofs.Judging.{base_fits, place_asked, undo_asked, judged_late, judged_full, judged_admitted}
use Rattle.admission.proofs.judged.Goals as goal
use Rattle.admission.proofs.judged.Goals.{in-Ok-2, in-Err}

pub overflow_add-base : goal.overflow_add-base
overflow_add-base c = omega (arith, base_fits c.requires)

pub place-requires : goal.place-requires
place-requires c = place_asked c.requires

pub returns-in-Ok : goal.returns-in-Ok
returns-in-Ok c = judged_admitted c.requires c.place.ensures c.in-Ok.is (omega (arith, c.count-held.ensures.is, c.len.ensures.value))

pub undo-requires : goal.undo-requires
undo-requires c = undo_asked c.requires c.place.ensures

pub returns : goal.returns
returns c =
    elim c.match-place.branch [
      | in-Ok-2 w ↦
          rw
          w.refusal-is
          (judged_full
          c.requires
          c.place.ensures
          w.in-Ok.is
          (omega (arith, w.if-held-len-le-ROWS.false, c.count-held.ensures.is, w.len.ensures.value))
          c.undo.ensures)
      | in-Err w ↦ rw w.refusal-is (judged_late c.requires c.place.ensures w.in-Err.is c.undo.ensures)
    ]

-- Demands 1 and 2 of the code, from the contracts alone: what the rules answer and leave is what a call answers and leaves.
use mathlib.Core.Path.{sym, ap, ◌∙◌}
use borrow.Author.Tests.{ne_eqb}
use Rattle.rules.specs.declared.Job.{Job}
use Rattle.rules.specs.Answers.{answered}
use Rattle.rules.specs.Refusals.{Call, accepted}
use Rattle.rules.proofs.Demand1.{demand_1}
use Rattle.rules.proofs.Demand2.{demand_2}
use Rattle.rules.proofs.Struck.{step_still}
use Rattle.reservation.specs.declared.Register.{Register}
use Rattle.reservation.specs.declared.Reply.{Reply}
use Rattle.reservation.specs.Registers.{state_of, register_of}
use Rattle.reservation.specs.Calls.{Steps, Submits}
use Rattle.reservation.specs.Demands.{Demand1OfCode, Demand2OfCode}

pub demand_1_of_code : {r : Register} {c : Call} {result : Reply} → Steps r c result → Demand1OfCode r c result
demand_1_of_code {r} {c} {result} steps = record {
  answered = rw steps.answer_is (demand_1 r.setup (state_of r) c).answered;
  untouched =
      λ ne.
      let still = step_still r.setup (state_of r) c (ap accepted (sym steps.answer_is) ∙ ne_eqb (answered result.answer).number 0 ne) in
      steps.left_is ∙ ap (register_of r.setup) still;
}

pub demand_2_of_code : {r : Register} {j : Job} {result : Reply} → Submits r j result → Demand2OfCode r j result
demand_2_of_code {r} {j} {result} steps =
    let rules = demand_2 r.setup (state_of r) j in
    record {
      admitted = rw steps.answer_is rules.admitted;
      answered = λ rows is. steps.answer_is ∙ rules.answered rows is;
      with_its_rows = λ rows is. steps.left_is ∙ ap (register_of r.setup) (rules.with_its_rows rows is);
    }

-- Demand 3 of the code: every list of calls has one trace from an opened register, and it is the rules' run.
use mathlib.Core.Path.{◌≡◌, refl, ap₂, subst, subst₂}
use mathlib.Core.List.{List, [], ◌∷◌}
use Rattle.rules.specs.declared.Answer.{Answer}
use Rattle.rules.specs.declared.Setup.{Setup}
use Rattle.rules.specs.Words.{State, fresh, setup_by_default}
use Rattle.rules.specs.Refusals.{Call, step, answers, after}
use Rattle.rules.specs.Demands.{register_left, struck_calls}
use Rattle.rules.proofs.Demand3.{demand_3}
use Rattle.reservation.specs.declared.Register.{Register}
use Rattle.reservation.specs.Registers.{register_of}
use Rattle.reservation.specs.Demands.{opened, Trace, ends, continues, Demand3OfCode}
use Rattle.reservation.proofs.Said.{step_said}

-- a trace whose steps are the rules'
trace_there :
    (s : Setup) (calls : List Call) (st : State) →
    Trace (register_of s st) calls (answers (step s) st calls) (register_of s (after (step s) st calls))
unfolding answers after
trace_there s [] st = ends
trace_there s (c ∷ calls) st =
    let said = step_said s st c in
    let left = (step s st c).left in
    let replies = answers (step s) left calls in
    subst
    (λ a. Trace (register_of s st) (c ∷ calls) (a ∷ replies) (register_of s (after (step s) left calls)))
    said.1
    (continues {result = record { answer = said.0; register = register_of s left }} (record { answer_is = said.1; left_is = refl }) (trace_there s calls left))

-- whatever trace there is, it is that one
trace_only :
    (r : Register) (calls : List Call) (replies : List Answer) (last : Register) → Trace r calls replies last →
    (replies ≡ answers (step r.setup) r.state calls) × (last ≡ register_of r.setup (after (step r.setup) r.state calls))
unfolding answers after
trace_only r calls replies last ends = (refl, refl)
trace_only r calls replies last (continues {c = c} {calls = rest} {replies = more} {result = result} is trace) =
    let below = trace_only result.register rest more last trace in
    let same = rw is.left_is at below in
    (ap₂ ◌∷◌ is.answer_is same.0, same.1)

pub demand_3_of_code : (s : Setup) (calls : List Call) → Demand3OfCode s calls
demand_3_of_code s calls =
    let rules = demand_3 s calls in
    record {
      replies = answers (step s) fresh calls;
      last = register_of s (register_left s calls);
      trace = trace_there s calls fresh;
      determined = trace_only (opened s) calls;
      answers_are = rules.answers_agree;
      left_is = refl;
      state_is = refl;
      demand = rules;
      struck_trace =
          subst₂
          (λ a l. Trace (opened s) (struck_calls s calls) a (register_of s l))
          rules.struck_answers
          rules.struck_state
          (trace_there s (struck_calls s calls) fresh);
    }

-- among them of what `Register::new` makes
pub demand_3_of_new : (calls : List Call) → Demand3OfCode setup_by_default calls
demand_3_of_new = demand_3_of_code setup_by_default

-- `drcd::Scene::attempt` meets its contract.
use native.Mathlib.Omega.{arith}
use Rattle.drcd.proofs.Attempts.{own_cost, ask_least, figures_fit, attempt_is}
use Rattle.drcd.proofs.Scene.attempt.Goals as goal

pub least_free-start-requires : goal.least_free-start-requires
least_free-start-requires c = (omega arith, ask_least c.requires.turn c.try_inputs-arrived.ensures.tried)

pub overflow_mul-result : goal.overflow_mul-result
overflow_mul-result c = omega (arith, own_cost c.requires.turn c.rate.ensures)

pub overflow_add-result : goal.overflow_add-result
overflow_add-result c =
    omega (arith, (figures_fit c.requires.turn c.try_inputs-arrived.ensures.tried c.least_free-start.ensures c.rate.ensures).cost_at_most)

pub overflow_add-result-2 : goal.overflow_add-result-2
overflow_add-result-2 c =
    omega (arith, (figures_fit c.requires.turn c.try_inputs-arrived.ensures.tried c.least_free-start.ensures c.rate.ensures).finish_at_most)

pub returns-clause-attempt : goal.returns-clause-attempt
returns-clause-attempt c = attempt_is c.requires.turn c.try_inputs-arrived.ensures.tried c.least_free-start.ensures c.rate.ensures

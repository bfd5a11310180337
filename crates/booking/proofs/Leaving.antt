-- What the demands say of a refused call, in the form in which `booking` checks it.
use Rattle.std.proofs.Common.{sym, ap, ◌∙◌}
use Rattle.rules.specs.Answers.{answered}
use Rattle.rules.specs.Refusals.{Call}
use Rattle.rules.proofs.Refused.{refused_numbered}
use Rattle.reservation.specs.declared.Register.{Register}
use Rattle.reservation.specs.declared.Reply.{Reply}
use Rattle.reservation.specs.Calls.{Steps}
use Rattle.reservation.proofs.Demands.{demand_1_of_code}
use Rattle.booking.specs.Untouched.{Untouched}

pub untouched_by : {r : Register} {c : Call} {result : Reply} → Steps r c result → Untouched r result
untouched_by steps why e = (demand_1_of_code steps).untouched (λ z. refused_numbered why (sym (ap (λ a. (answered a).number) e) ∙ z))

-- A reader must believe this: one definition for each call, which relates its arguments and its result.
use Rattle.std.specs.Prelude.{◌≡◌, ℕ}
use Rattle.rules.specs.declared.Job.{Job}
use Rattle.rules.specs.declared.Seen.{Seen}
use Rattle.rules.specs.Words.{view}
use Rattle.rules.specs.Answers.{answered}
use Rattle.rules.specs.Refusals.{Call, submits, withdraws, advances, step, look}
use Rattle.rules.specs.Demands.{SeenBy}
use Rattle.reservation.specs.declared.Register.{Register}
use Rattle.reservation.specs.declared.Reply.{Reply}
use Rattle.reservation.specs.Registers.{state_of, register_of}

-- A call: the answer is the rules', and the register left is the one that stands for the state that the rules leave.
pub record Steps (r : Register) (c : Call) (result : Reply) : Type 0 where
  pub answer_is : answered result.answer ≡ (step r.setup (state_of r) c).answer
  pub left_is : result.register ≡ register_of r.setup (step r.setup (state_of r) c).left

abbrev pub Submits : Register → Job → Reply → Type 0
Submits r j result = Steps r (submits j) result

abbrev pub Withdraws : Register → ℕ → Reply → Type 0
Withdraws r n result = Steps r (withdraws n) result

abbrev pub Advances : Register → ℕ → Reply → Type 0
Advances r tick result = Steps r (advances tick) result

-- Look: what the rules see, and by 01's number and row what demand 1 says of it.
pub record Looks (r : Register) (m tick : ℕ) (seen : Seen) : Type 0 where
  pub seen_is : seen ≡ look r.setup (view (state_of r)) m tick
  pub seen_by : SeenBy r.setup (view (state_of r)) m tick seen

-- A reader must believe this: document 01, "The tally": the submissions that arrived, those admitted, and their ratio.
use Rattle.std.specs.Prelude.{◌≡◌, Bool, ◌||◌, cond, ℕ, ◌+◌, ◌*◌, ◌/◌, ltb, eqb, Option, Some, None}
use Rattle.std.proofs.Math.Option.{none, some}
use Rattle.rules.specs.declared.Job.{Job}
use Rattle.rules.specs.Answers.{answered, option_of}
use Rattle.rules.specs.Refusals.{accepted}
use Rattle.reservation.specs.declared.Register.{Register}
use Rattle.reservation.specs.declared.Reply.{Reply}
use Rattle.reservation.specs.Calls.{Submits}
use Rattle.tally.specs.declared.Tally.{Tally}

abbrev pub most_counted : ℕ
most_counted = 4_294_967_295

-- One submission more: arrived by 1, admitted by 1 if accepted. With either at the limit neither moves.
abbrev pub counted : Tally → (accepted : Bool) → Tally
counted t accepted =
    cond (eqb t.arrived most_counted || eqb t.admitted most_counted) t (
    record { arrived = t.arrived + 1; admitted = cond accepted (t.admitted + 1) t.admitted }
    )

-- A submission with a lent tally: it is answered as any other, and the tally that is left counts it.
pub record SubmitsCounted (before : Tally) (r : Register) (j : Job) (after : Tally) (result : Reply) : Type 0 where
  pub submits : Submits r j result
  pub tally_is : after ≡ counted before (accepted (answered result.answer))

-- 01's number for each case of a ratio
abbrev pub ratio_number : Option ℕ → ℕ
ratio_number (Some parts) = 0
ratio_number None = 18

-- 18: arrived is 0, or below admitted.
abbrev pub no_ratio : Tally → Bool
no_ratio t = eqb t.arrived 0 || ltb t.arrived t.admitted

-- The guarantee ratio: 10,000 times admitted, divided by arrived, rounded down.
pub record RatioIs (t : Tally) (r : Option ℕ) : Type 0 where
  pub number_is : ratio_number r ≡ cond (no_ratio t) 18 0
  pub value_is : option_of r ≡ cond (no_ratio t) none (some (10_000 * t.admitted / t.arrived))

-- A reader must believe this: 01's number and values for each case of a call's answer. Document 01, "What each call refuses, in order".
use Rattle.std.specs.Prelude.{Result, Ok, Err, Option, Some, None}
use Rattle.std.proofs.Math.Option as Rules
use Rattle.std.proofs.Math.Option.{none, some}
use Rattle.rules.specs.declared.Answer.{Answer}
use Rattle.rules.specs.declared.answers.Admission.{Admission}
use Rattle.rules.specs.declared.answers.Refusal.{Refusal}
use Rattle.rules.specs.declared.answers.Refusal.TheVariants as R
use Rattle.rules.specs.Refusals.{refusal}

abbrev pub refused : Refusal → Answer
refused R.NumberOutOfRange = refusal 1 0
refused R.Miscounted = refusal 2 0
refused R.FigureOutOfRange = refusal 3 0
refused R.BadMessages = refusal 4 0
refused R.Held = refusal 5 0
refused (R.Infeasible task) = refusal 6 task
refused (R.Missed task) = refusal 7 task
refused R.NoRoom = refusal 8 0
refused R.NotHeld = refusal 9 0
refused R.Begun = refusal 10 0
refused R.ClockBack = refusal 11 0
refused R.PastHorizon = refusal 12 0

abbrev pub answered : Result Admission Refusal → Answer
answered (Ok admission) = record { number = 0; task = 0; cost = admission.cost; rows = admission.rows }
answered (Err r) = refused r

-- what the code answers where the rules have something or nothing
abbrev pub option_of : {A : Type 0} → Option A → Rules.Option A
option_of None = none
option_of (Some a) = some a

-- A refusal has a number other than that of an acceptance.
use Rattle.std.proofs.Common.{◌≡◌}
use Rattle.rules.specs.declared.answers.Refusal.{Refusal}
use Rattle.rules.specs.declared.answers.Refusal.TheVariants as R
use Rattle.rules.specs.Answers.{refused}

pub refused_numbered : (why : Refusal) → (refused why).number ≡ 0 → ⊥
refused_numbered R.NumberOutOfRange e = cc
refused_numbered R.Miscounted e = cc
refused_numbered R.FigureOutOfRange e = cc
refused_numbered R.BadMessages e = cc
refused_numbered R.Held e = cc
refused_numbered (R.Infeasible task) e = cc
refused_numbered (R.Missed task) e = cc
refused_numbered R.NoRoom e = cc
refused_numbered R.NotHeld e = cc
refused_numbered R.Begun e = cc
refused_numbered R.ClockBack e = cc
refused_numbered R.PastHorizon e = cc

-- The worked examples of document 01, and the further ones, hold of the rules, by computation.
use mathlib.Core.Path.{◌≡◌, refl}
use mathlib.Core.List.{map}
use Rattle.rules.specs.Ledger.{ledger, effect}
use Rattle.rules.specs.Examples.{refusal_table}

pub ledger_holds : map (λ e. effect e.given) ledger ≡ map (λ e. e.expected) ledger
unfolding ledger effect
ledger_holds = refl

pub refusals_hold : map (λ e. effect e.given) refusal_table ≡ map (λ e. e.expected) refusal_table
unfolding refusal_table effect
refusals_hold = refl

-- Demand 3 of every script: what is printed is the journal's.
use mathlib.Core.Path.{◌≡◌, refl, ap, ◌∙◌}
use mathlib.Core.List.{List}
use Prim.Native.Nat.{ℕ}
use Rattle.rules.specs.declared.Row.{Row}
use Rattle.rules.specs.declared.Setup.{Setup}
use Rattle.rules.specs.Words.{Calendar, State}
use Rattle.rules.specs.Demands.{register_left, journal_left, Demand3}
use Rattle.rules.proofs.Demand3.{demand_3}
use Rattle.script.specs.Program.{printed, program}
use Rattle.script.specs.Demands.{journal_state, calls_of, Demand3OfScript}

-- equal fields, equal states
same_state : (a b : State) → a.calendar ≡ b.calendar → a.rows ≡ b.rows → a.total ≡ b.total → a ≡ b
same_state a b p q r =
    ap (λ (c : Calendar). state c a.rows a.total) p
    ∙ ap (λ (l : List Row). state b.calendar l a.total) q
    ∙ ap (λ (t : ℕ). state b.calendar b.rows t) r
  where
    state : Calendar → List Row → ℕ → State
    state c l t = record { calendar = c; rows = l; total = t }

pub demand_3_of_script : (s : Setup) (text : List ℕ) → Demand3OfScript s text
unfolding program printed
demand_3_of_script s text =
    let calls = calls_of s text in
    let d : Demand3 s calls = demand_3 s calls in
    let state : register_left s calls ≡ journal_state (journal_left s calls) =
    same_state (register_left s calls) (journal_state (journal_left s calls)) d.calendar_agrees d.rows_agree d.total_agrees
    in
    record { printed_is = rw (d.answers_agree, state) refl; demand = d }

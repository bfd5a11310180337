-- Every answer of the rules is one that a call of the code can give: an admission, or one of the refusals.
use mathlib.Core.Path.{◌≡◌, refl}
use mathlib.Core.Bool.{Bool, true, false, not}
use mathlib.Core.Option.{Option, none, some}
use Prim.Native.Nat.{ℕ, ◌+◌}
use lib.Dec.{ltb, leb}
use lib.ListN.{length}
use Rattle.std.specs.Prelude.{Result, Ok, Err}
use Rattle.rules.specs.declared.Answer.{Answer}
use Rattle.rules.specs.declared.Setup.{Setup}
use Rattle.rules.specs.declared.answers.Admission.{Admission}
use Rattle.rules.specs.declared.answers.Refusal.{Refusal}
use Rattle.rules.specs.declared.answers.Refusal.TheVariants as R
use Rattle.rules.specs.Answers.{answered, refused}
use Rattle.rules.proofs.Demand1.{by_refusal}
use Rattle.rules.specs.Sequences.{any_of}
use Rattle.rules.specs.Words.{State, view, largest_number, row_limit, horizon}
use Rattle.rules.specs.Placing.{costs}
use Rattle.rules.specs.Refusals.{refuse_if, refusal, judged, submit_tests, submit_answer, withdraw_tests, withdraw_answer, advance_tests, advance_answer}
use Rattle.rules.specs.Refusals.{outside, miscounted, out_of_range, bad_messages, first_infeasible, missed, found, placing}
use Rattle.rules.specs.Refusals.{Call, submits, withdraws, advances, settle, step}

abbrev Said : Answer → Type 0
Said a = (r : Result Admission Refusal) × (answered r ≡ a)

-- a withdrawal and a clock move add no rows
abbrev nothing : Admission
nothing = record { cost = 0; rows = 0 }

module _ {n : ℕ} {rest : Answer} where
  -- a test that names a task
  by_task : (why : ℕ → Refusal) (o : Option ℕ) → ((t : ℕ) → refused (why t) ≡ refusal n t) → Said rest → Said (by_refusal rest n o)
  by_task why none is said = said
  by_task why (some t) is said = (Err (why t), is t)

  -- and one that does not
  by_itself : (why : Refusal) (b : Bool) → refused why ≡ refusal n 0 → Said rest → Said (by_refusal rest n (refuse_if b))
  by_itself why true is said = (Err why, is)
  by_itself why false is said = said

pub step_said : (s : Setup) (st : State) (c : Call) → Said (step s st c).answer
unfolding step settle judged submit_answer submit_tests withdraw_answer withdraw_tests advance_answer advance_tests
step_said s st (submits j) =
    let new = found (placing s (view st) j) in
    by_itself R.NumberOutOfRange (outside 1 largest_number j.number) refl
    (by_itself R.Miscounted (miscounted j) refl
    (by_itself R.FigureOutOfRange (out_of_range s j) refl
    (by_itself R.BadMessages (bad_messages j) refl
    (by_itself R.Held ((view st).held j.number) refl
    (by_task R.Infeasible (first_infeasible s st.calendar.clock j) (λ t. refl)
    (by_task R.Missed (missed (placing s (view st) j)) (λ t. refl)
    (by_itself R.NoRoom (ltb row_limit (length st.rows + length new)) refl (Ok (record { cost = costs new; rows = length new }), refl))))))))
step_said s st (withdraws n) =
    by_itself R.NotHeld (not ((view st).held n)) refl
    (by_itself R.Begun (any_of (λ row. leb row.start st.calendar.clock) ((view st).rows_of n)) refl (Ok nothing, refl))
step_said s st (advances tick) =
    by_itself R.ClockBack (ltb tick st.calendar.clock) refl (by_itself R.PastHorizon (ltb horizon tick) refl (Ok nothing, refl))

-- What the rules' step for a withdrawal and for a clock move answers, by the first test that refuses, and what it leaves.
use mathlib.Core.Path.{◌≡◌, refl, ap, ◌∙◌}
use mathlib.Core.Bool.{Bool, true, false, not, ◌&&◌}
use Prim.Native.Nat.{ℕ, ◌≤◌, ◌<◌}
use lib.Dec.{leb}
use borrow.Author.Tests.{lt-ltb, le-ltb}
use Rattle.rules.specs.declared.Row.{Row}
use Rattle.rules.specs.declared.Setup.{Setup}
use Rattle.rules.specs.declared.answers.Refusal.{Refusal}
use Rattle.rules.specs.declared.answers.Refusal.TheVariants as R
use Rattle.rules.specs.Answers.{refused}
use Rattle.rules.specs.Sequences.{any_of}
use Rattle.rules.specs.Words.{State, view, of_job, horizon}
use Rattle.rules.specs.Withdrawing.{withdraw, advance}
use Rattle.rules.specs.Refusals.{refuse_if, refusal, accepted, Call, step, settle}
use Rattle.rules.specs.Refusals.{withdraw_tests, withdraw_answer, withdraws, advance_tests, advance_answer, advances}
use Rattle.rules.specs.Demands.{here, end}
use Rattle.rules.proofs.Tests.{LeftAfter, all_left, passed}
use Rattle.rules.proofs.Demand1.{judged_first, judged_passed}
use Rattle.rules.proofs.Struck.{step_still}
use Rattle.timetable.proofs.Lists.{any_keep}

-- no refusal is numbered as an acceptance
not_accepted : (why : Refusal) → accepted (refused why) ≡ false
not_accepted R.NumberOutOfRange = refl
not_accepted R.Miscounted = refl
not_accepted R.FigureOutOfRange = refl
not_accepted R.BadMessages = refl
not_accepted R.Held = refl
not_accepted (R.Infeasible task) = refl
not_accepted (R.Missed task) = refl
not_accepted R.NoRoom = refl
not_accepted R.NotHeld = refl
not_accepted R.Begun = refl
not_accepted R.ClockBack = refl
not_accepted R.PastHorizon = refl

-- the row is of the job, and starts at or before the clock
abbrev pub begun : (n clock : ℕ) → Row → Bool
begun n clock row = of_job n row && leb row.start clock

module _ (s : Setup) (st : State) where
  -- a refusal leaves all as it was
  pub refused_left : (c : Call) (why : Refusal) → (step s st c).answer ≡ refused why → (step s st c).left ≡ st
  refused_left c why is = step_still s st c (ap accepted is ∙ not_accepted why)

  -- Withdrawals.

  module _ (n : ℕ) where
    pub withdraw_9 : any_of (of_job n) st.rows ≡ false → (step s st (withdraws n)).answer ≡ refusal 9 0
    unfolding step settle withdraw_answer withdraw_tests
    withdraw_9 none = judged_first _ (here refl (ap (λ b. refuse_if (not b)) none))

    module _ (held : any_of (of_job n) st.rows ≡ true) where
      held_passed : LeftAfter 9 (withdraw_tests (view st) n)
      unfolding withdraw_tests
      held_passed = passed all_left (ap (λ b. refuse_if (not b)) held)

      begun_is : any_of (λ row. leb row.start st.calendar.clock) ((view st).rows_of n) ≡ any_of (begun n st.calendar.clock) st.rows
      begun_is = any_keep (λ row. leb row.start st.calendar.clock) (of_job n) st.rows

      pub withdraw_10 : any_of (begun n st.calendar.clock) st.rows ≡ true → (step s st (withdraws n)).answer ≡ refusal 10 0
      unfolding step settle withdraw_answer withdraw_tests
      withdraw_10 some = judged_first _ (held_passed.first (here refl (ap refuse_if (begun_is ∙ some))))

      pub withdraw_0 : any_of (begun n st.calendar.clock) st.rows ≡ false → (step s st (withdraws n)).answer ≡ refusal 0 0
      unfolding step settle withdraw_answer withdraw_tests
      withdraw_0 none = judged_passed _ ((passed held_passed (ap refuse_if (begun_is ∙ none))).clear end)

    pub withdraw_left : (step s st (withdraws n)).answer ≡ refusal 0 0 → (step s st (withdraws n)).left ≡ withdraw st n
    unfolding step settle
    withdraw_left is = rw (ap (λ a. a.number) is) refl

  -- Clock moves.

  module _ (tick : ℕ) where
    pub advance_11 : tick < st.calendar.clock → (step s st (advances tick)).answer ≡ refusal 11 0
    unfolding step settle advance_answer advance_tests
    advance_11 h = judged_first _ (here refl (ap refuse_if (lt-ltb tick st.calendar.clock h)))

    module _ (ahead : st.calendar.clock ≤ tick) where
      ahead_passed : LeftAfter 11 (advance_tests (view st) tick)
      unfolding advance_tests
      ahead_passed = passed all_left (ap refuse_if (le-ltb tick st.calendar.clock ahead))

      pub advance_12 : horizon < tick → (step s st (advances tick)).answer ≡ refusal 12 0
      unfolding step settle advance_answer advance_tests
      advance_12 over = judged_first _ (ahead_passed.first (here refl (ap refuse_if (lt-ltb horizon tick over))))

      pub advance_0 : tick ≤ horizon → (step s st (advances tick)).answer ≡ refusal 0 0
      unfolding step settle advance_answer advance_tests
      advance_0 within = judged_passed _ ((passed ahead_passed (ap refuse_if (le-ltb horizon tick within))).clear end)

    pub advance_left : (step s st (advances tick)).answer ≡ refusal 0 0 → (step s st (advances tick)).left ≡ advance st tick
    unfolding step settle
    advance_left is = rw (ap (λ a. a.number) is) refl

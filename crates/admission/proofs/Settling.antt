-- What the rules answer a submission that has passed refusals 1 to 6, by what placing gives: late, too many rows, or admitted; and what an admission leaves.
use mathlib.Core.Path.{◌≡◌, refl, ap, ◌∙◌}
use mathlib.Core.Bool.{true, false}
use mathlib.Core.List.{List}
use Prim.Native.Nat.{ℕ, ◌+◌, ◌≤◌, ◌<◌}
use lib.Dec.{ltb}
use lib.ListN.{length}
use borrow.Author.Tests.{lt-ltb, le-ltb, eq-eqb}
use Rattle.rules.specs.declared.Row.{Row}
use Rattle.rules.specs.declared.Job.{Job}
use Rattle.rules.specs.declared.Setup.{Setup}
use Rattle.rules.specs.Words.{State, view, row_limit}
use Rattle.rules.specs.Placing.{booked, late}
use Rattle.rules.specs.Withdrawing.{admit}
use Rattle.rules.specs.Refusals.{refuse_if, refusal, admission, missed, found as rows_found, placing, submit_tests, submit_answer, submits, settle, step}
use Rattle.rules.specs.Demands.{here, end}
use Rattle.rules.proofs.Tests.{LeftAfter, in_range_passed, held_passed, feasible_passed, placing_passed, rows_passed}
use Rattle.rules.proofs.Demand1.{submit_answered}
use Rattle.rules.proofs.Admitted.{answer_passed}
use Rattle.screening.proofs.Firsts.{first_answers}
use Rattle.admission.specs.Submitted.{Passed}

module _ (s : Setup) (st : State) (j : Job) (before : Passed s st j) where
  left_feasible : LeftAfter 6 (submit_tests s (view st) j)
  left_feasible =
      feasible_passed s (view st) j (held_passed s (view st) j (in_range_passed s (view st) j before.in_range) before.free) before.feasible

  pub submit_7 : {t : ℕ} → placing s (view st) j ≡ late t → (step s st (submits j)).answer ≡ refusal 7 t
  unfolding step settle missed submit_tests
  submit_7 e = first_answers s (view st) j (left_feasible.first (here refl (ap missed e)))

  module _ (rows : List Row) (is_placed : placing s (view st) j ≡ booked rows) where
    left_placed : LeftAfter 7 (submit_tests s (view st) j)
    unfolding missed
    left_placed = placing_passed s (view st) j left_feasible (ap missed is_placed)

    pub submit_8 : row_limit < length st.rows + length rows → (step s st (submits j)).answer ≡ refusal 8 0
    unfolding step settle rows_found submit_tests
    submit_8 h =
        let over : ltb row_limit (length st.rows + length (rows_found (placing s (view st) j))) ≡ true
        = rw is_placed (lt-ltb row_limit (length st.rows + length rows) h) in
        first_answers s (view st) j (left_placed.first (here refl (ap refuse_if over)))

    module _ (fits : length st.rows + length rows ≤ row_limit) where
      pub submit_0 : (step s st (submits j)).answer ≡ admission rows
      unfolding step settle rows_found submit_tests
      submit_0 =
          let room : ltb row_limit (length st.rows + length (rows_found (placing s (view st) j))) ≡ false
          = rw is_placed (le-ltb row_limit (length st.rows + length rows) fits) in
          answer_passed s (view st) j ((submit_answered s (view st) j).passed.1 ((rows_passed s (view st) j left_placed room).clear end))
          ∙ ap (λ p. admission (rows_found p)) is_placed

      pub submit_left : (step s st (submits j)).left ≡ admit st rows
      unfolding step settle rows_found
      submit_left = rw (eq-eqb (submit_answer s (view st) j).number 0 (ap (λ a. a.number) submit_0), is_placed) refl

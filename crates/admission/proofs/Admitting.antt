-- What an accepted submission leaves: the new rows are those that the rules find. There is at least one, and all carry the job's number.
use mathlib.Core.Path.{◌≡◌, sym, ap, ◌∙◌, subst}
use mathlib.Core.List.{List, ◌++◌, append_cancel_left, Memᴰ}
use native.Mathlib.Omega.{arith}
use Rattle.rules.specs.declared.Row.{Row}
use Rattle.rules.specs.declared.Job.{Job}
use Rattle.rules.specs.declared.Setup.{Setup}
use Rattle.rules.specs.Words.{State, view}
use Rattle.rules.specs.Placing.{books_task, costs}
use Rattle.rules.specs.Withdrawing.{admit}
use Rattle.rules.specs.Refusals.{found, submits, step}
use Rattle.rules.specs.Laws.{IsTask}
use Rattle.rules.specs.Demands.{Admissible}
use Rattle.rules.proofs.Sequences.{any_witness}
use Rattle.rules.proofs.Order.{in_range_count}
use Rattle.rules.proofs.Demand2.{demand_2}
use Rattle.rules.proofs.Demand3.{carries}

module _ (s : Setup) (st : State) (j : Job) (new : List Row) (accepted : (step s st (submits j)).answer.number ≡ 0)
    (left_is : (step s st (submits j)).left ≡ admit st new) where
  made : (rows : List Row) × Admissible s (view st) j rows
  made = (demand_2 s st j).admitted.0 accepted

  new_is : made.0 ≡ new
  unfolding admit
  new_is =
      let same : st.rows ++ made.0 ≡ st.rows ++ new = ap (λ x. x.rows) (sym ((demand_2 s st j).with_its_rows made.0 made.1) ∙ left_is) in
      append_cancel_left st.rows made.0 new same

  pub admissible : Admissible s (view st) j new
  admissible = subst (Admissible s (view st) j) new_is made.1

  pub cost_of_new : (step s st (submits j)).answer.cost ≡ costs new
  cost_of_new = ap (λ a. a.cost) ((demand_2 s st j).answered new admissible)

  -- a job in range has a task, so there is a row
  pub some_new : (row : Row) × Memᴰ row new
  some_new =
      let one : IsTask j 1 = record { first = omega arith; last = (in_range_count s j admissible.in_range).0 } in
      let there = any_witness (books_task 1) new (admissible.places.every_task 1 one) in
      (there.0, there.1)

  pub carry_new : (row : Row) → Memᴰ row new → row.job ≡ j.number
  unfolding found
  carry_new row m = carries s (view st) j row (subst (Memᴰ row) (sym (ap found admissible.places.rows_found)) m)

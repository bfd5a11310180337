-- What a withdrawal is told by the rules, read off a timetable: a number that no row carries, one that a row carries, and whether such a row has begun.
use mathlib.Core.Path.{◌≡◌, refl, sym, ap, subst, ◌∙◌}
use mathlib.Core.Bool.{Bool, true, false}
use mathlib.Core.List.{List}
use Prim.Native.Nat.{ℕ, ◌<◌}
use native.Mathlib.Omega.{arith}
use lib.ListN.{get_or}
use borrow.Author.Tests.{eq-eqb, ne_eqb}
use Rattle.std.specs.Prelude.{Some, None, Result, Ok, Err}
use Rattle.rules.specs.declared.Row.{Row}
use Rattle.rules.specs.declared.Setup.{Setup}
use Rattle.rules.specs.declared.answers.Refusal.{Refusal}
use Rattle.rules.specs.declared.answers.Refusal.TheVariants as R
use Rattle.rules.specs.Answers.{refused}
use Rattle.rules.specs.Sequences.{any_of}
use Rattle.rules.specs.Words.{State, of_job, largest_number}
use Rattle.rules.specs.Placing.{no_row}
use Rattle.rules.specs.Refusals.{step, withdraws}
use Rattle.rules.proofs.Sequences.{any_mem, none_any, mem_get_or}
use Rattle.timeline.specs.RowLine.{line_of}
use Rattle.timeline.proofs.RowLines.{line_has}
use Rattle.timetable.specs.declared.Timetable.{Timetable}
use Rattle.timetable.specs.Marks.{PlaceOf, BegunIs}
use Rattle.timetable.specs.Timetables.{TimetableOf, WithdrawalIs}
use Rattle.timetable.proofs.Steps.{begun, withdraw_9, withdraw_10, withdraw_0}
use Rattle.timetable.proofs.Lines.{any_line}
use Rattle.timetable.proofs.Carried.{job_at}
use Rattle.timetable.proofs.Standing.{count_is, jobs_are, row_there}

module _ {s : Setup} {st : State} {t : Timetable} (is : TimetableOf s st t) (number : ℕ) where
  abbrev line : List Row
  line = line_of st.rows

  -- no row carries a number past the largest
  past_largest : largest_number < number → any_of (of_job number) st.rows ≡ false
  past_largest over =
      none_any
      (of_job number)
      st.rows
      (λ row m. ne_eqb row.job number (λ same. let most = (is.bounded.rows row m).job.last in omega arith))

  -- the search for the first that carries it found none
  not_held : PlaceOf t.jobs t.line.count number None → any_of (of_job number) st.rows ≡ false
  not_held none =
      none_any
      (of_job number)
      st.rows
      (λ row m.
      let at = mem_get_or no_row (line_has st.rows m) in
      ne_eqb
      row.job
      number
      (λ same. none.none_held refl at.0 (omega (arith, at.1, count_is is)) (job_at line (jobs_are is) at.0 at.1 ∙ ap (λ x. x.job) at.2 ∙ same)))

  pub job_there : {from : ℕ} → PlaceOf t.jobs t.line.count number (Some from) → (get_or line from no_row).job ≡ number
  job_there {from} place =
      let below = place.below from refl in
      sym (job_at line (jobs_are is) from (omega (arith, count_is is))) ∙ place.here from refl

  pub job_held : {from : ℕ} → PlaceOf t.jobs t.line.count number (Some from) → any_of (of_job number) st.rows ≡ true
  job_held {from} place = any_mem (of_job number) (row_there is from (place.below from refl)) (eq-eqb _ number (job_there place))

  begun_is : {found : Bool} → BegunIs t number found → any_of (begun number st.calendar.clock) st.rows ≡ found
  begun_is found_is =
      ap (λ clock. any_of (begun number clock) st.rows) (sym (ap (λ x. x.clock) is.is))
      ∙ sym (any_line _ st.rows)
      ∙ sym
      (found_is
      line
      (count_is is)
      (λ i h. let ranged = is.bounded.rows _ (row_there is i h) in omega (arith, ranged.lasts, ranged.ends))
      (jobs_are is)
      (ap (λ x. x.line.begins) is.is))

ok_same : {A E : Type 0} {x y : A} → ◌≡◌ {A = Result A E} (Ok x) (Ok y) → x ≡ y
ok_same same = cc

-- What is judged.
module _ (t : Timetable) (number : ℕ) where
  refuses :
      (why : Refusal) → ((s : Setup) (st : State) → TimetableOf s st t → (step s st (withdraws number)).answer ≡ refused why) → WithdrawalIs t number (Err why)
  refuses why answers = record {
    refuses = λ other same s st is. answers s st is ∙ ap refused cc;
    accepts = λ job from same. absurd cc;
    job_is = λ job from same. absurd cc;
    place = λ job from same. absurd cc;
  }

  pub judged_past : largest_number < number → WithdrawalIs t number (Err R.NotHeld)
  judged_past over = refuses R.NotHeld (λ s st is. withdraw_9 s st number (past_largest is number over))

  pub judged_absent : PlaceOf t.jobs t.line.count number None → WithdrawalIs t number (Err R.NotHeld)
  judged_absent none = refuses R.NotHeld (λ s st is. withdraw_9 s st number (not_held is number none))

  module _ {from : ℕ} (place : PlaceOf t.jobs t.line.count number (Some from)) where
    pub judged_begun : BegunIs t number true → WithdrawalIs t number (Err R.Begun)
    judged_begun begun = refuses R.Begun (λ s st is. withdraw_10 s st number (job_held is number place) (begun_is is number begun))

    pub judged_free : BegunIs t number false → WithdrawalIs t number (Ok (number, from))
    judged_free free = record {
      refuses = λ why same. absurd cc;
      accepts = λ job at same s st is. sym (withdraw_0 s st number (job_held is number place) (begun_is is number free));
      job_is = λ job at same. sym (ap (λ x. x.0) (ok_same same));
      place = λ job at same. let there = ap (λ x. x.1) (ok_same same) in subst (λ i. PlaceOf t.jobs t.line.count number (Some i)) there place;
    }

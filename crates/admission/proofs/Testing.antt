-- Which of refusals 1 to 6 applies first to a submission, for every state that the timetable stands for.
use mathlib.Core.Path.{◌≡◌, refl, sym, ap, ◌∙◌}
use mathlib.Core.Bool.{Bool, true, false}
use mathlib.Core.Option.{some}
use Prim.Native.Nat.{ℕ, ◌≤◌}
use native.Mathlib.Omega.{arith}
use Rattle.std.proofs.Common.{Some, None, Ok, Err}
use Rattle.rules.specs.declared.Answer.{Answer}
use Rattle.rules.specs.declared.Job.{Job}
use Rattle.rules.specs.declared.Setup.{Setup}
use Rattle.rules.specs.declared.answers.Refusal.{Refusal}
use Rattle.rules.specs.declared.answers.Refusal.TheVariants as R
use Rattle.rules.specs.Answers.{refused}
use Rattle.rules.specs.Words.{State, view, of_job, largest_number}
use Rattle.rules.specs.Refusals.{refuse_if, refusal, first_infeasible, submit_tests, submit_answer, submits, settle, step}
use Rattle.rules.specs.Demands.{InRange, here}
use Rattle.rules.proofs.Order.{in_range_count}
use Rattle.rules.proofs.Tests.{in_range_passed, held_passed}
use Rattle.rules.proofs.Order.{in_between}
use Rattle.timeline.specs.RowLine.{line_of}
use Rattle.screening.specs.Screens.{Screens, AskInfeasibles, FirstIs}
use Rattle.screening.proofs.Firsts.{first_answers}
use Rattle.timetable.specs.declared.Timetable.{Timetable}
use Rattle.timetable.specs.Marks.{HeldIs}
use Rattle.timetable.specs.Timetables.{TimetableOf}
use Rattle.timetable.proofs.Lines.{any_line}
use Rattle.timetable.proofs.Standing.{count_is, jobs_are}
use Rattle.admission.specs.Submitted.{AskTested, TestedIs}

-- What the rules answer.

module _ (s : Setup) (st : State) (j : Job) where
  submit_early : {a : Answer} → submit_answer s (view st) j ≡ a → (step s st (submits j)).answer ≡ a
  unfolding step settle
  submit_early is = is

  module _ (range : InRange s j) where
    submit_5 : (view st).held j.number ≡ true → (step s st (submits j)).answer ≡ refusal 5 0
    unfolding step settle submit_tests
    submit_5 e = first_answers s (view st) j ((in_range_passed s (view st) j range).first (here refl (ap refuse_if e)))

    submit_6 :
        {t : ℕ} → (view st).held j.number ≡ false → first_infeasible s st.calendar.clock j ≡ some t → (step s st (submits j)).answer ≡ refusal 6 t
    unfolding step settle submit_tests
    submit_6 free e = first_answers s (view st) j ((held_passed s (view st) j (in_range_passed s (view st) j range) free).first (here refl e))

-- the number of a job in range fits 16 bits
pub number_narrow : {s : Setup} {j : Job} → InRange s j → j.number ≤ largest_number
number_narrow {j = j} range = (in_between 1 largest_number j.number range.number).1

-- What the code answers.

module _ {t : Timetable} {s : Setup} {j : Job} where
  refuses : (why : Refusal) → ((st : State) → TimetableOf s st t → (step s st (submits j)).answer ≡ refused why) → TestedIs t s j (Err why)
  refuses why is = record {
    refuses = λ other e st of. let same : why ≡ other = cc in rw (← same) (is st of);
    passes = λ e. absurd (cc);
  }

  pub tested_early : {why : Refusal} → Screens s j (Err why) → TestedIs t s j (Err why)
  tested_early {why} screens = refuses why (λ st of. submit_early s st j (screens.answer_is why refl (view st)))

  module _ (screens : Screens s j (Ok tt)) where
    pub first_asked : AskTested t s → AskInfeasibles j s.table.machines t.clock
    first_asked ask = record {
      setup = s;
      machines_are = refl;
      machines_at_most = ask.is.sound.room;
      few = (in_range_count s j (screens.in_range refl)).1;
      figures = (screens.in_range refl).figures;
      clock_at_most = omega (arith, ap (λ x. x.clock) ask.is.is, ask.is.bounded.clock);
    }

    held_is : {held : Bool} → HeldIs t.jobs t.line.count j.number held → (st : State) → TimetableOf s st t → (view st).held j.number ≡ held
    held_is is st of = sym (is (line_of st.rows) (count_is of) (jobs_are of) ∙ any_line (of_job j.number) st.rows)

    pub tested_5 : HeldIs t.jobs t.line.count j.number true → TestedIs t s j (Err R.Held)
    tested_5 held = refuses R.Held (λ st of. submit_5 s st j (screens.in_range refl) (held_is held st of))

    at_clock : {st : State} → TimetableOf s st t → first_infeasible s st.calendar.clock j ≡ first_infeasible s t.clock j
    at_clock of = ap (λ c. first_infeasible s c j) (sym (ap (λ x. x.clock) of.is))

    module _ (free : HeldIs t.jobs t.line.count j.number false) where
      pub tested_6 : {task : ℕ} → FirstIs j s.table.machines t.clock (Some task) → TestedIs t s j (Err (R.Infeasible task))
      tested_6 {task} first =
          refuses
          (R.Infeasible task)
          (λ st of. submit_6 s st j (screens.in_range refl) (held_is free st of) (at_clock of ∙ sym (first s refl)))

      pub tested_0 : FirstIs j s.table.machines t.clock None → TestedIs t s j (Ok tt)
      tested_0 first = record {
        refuses = λ why e. absurd (cc);
        passes =
            λ e st of. record {
              in_range = screens.in_range refl;
              free = held_is free st of;
              feasible = at_clock of ∙ sym (first s refl);
            };
      }

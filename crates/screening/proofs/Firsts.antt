-- The answer to a submission by the first test that refuses; refusals 1 to 4, which come first whatever the clock and the rows.
use mathlib.Core.Path.{◌≡◌, refl, sym, ap}
use mathlib.Core.Bool.{true, false}
use Prim.Native.Nat.{ℕ}
use Rattle.std.proofs.Common.{Err}
use Rattle.rules.specs.declared.Job.{Job}
use Rattle.rules.specs.declared.Setup.{Setup}
use Rattle.rules.specs.declared.answers.Refusal.{Refusal}
use Rattle.rules.specs.declared.answers.Refusal.TheVariants as R
use Rattle.rules.specs.Words.{View, largest_number}
use Rattle.rules.specs.Answers.{refused}
use Rattle.rules.specs.Refusals.{refuse_if, outside, refusal, miscounted, out_of_range, bad_messages, submit_tests, submit_answer}
use Rattle.rules.specs.Demands.{FirstRefusal, here}
use Rattle.rules.proofs.Demand1.{judged_first}
use Rattle.rules.proofs.Tests.{LeftAfter, all_left, number_passed, counts_passed, figures_passed}
use Rattle.screening.specs.Screens.{Screens}

pub first_answers : (s : Setup) (v : View) (j : Job) {n t : ℕ} → FirstRefusal n t (submit_tests s v j) → submit_answer s v j ≡ refusal n t
unfolding submit_answer
first_answers s v j f = judged_first _ f

-- One job: each test with those before it passed.

module _ (s : Setup) (j : Job) where
  refuses : (why : Refusal) → ((v : View) → submit_answer s v j ≡ refused why) → Screens s j (Err why)
  refuses why answers = record {
    answer_is = λ other e v. let same : why ≡ other = cc in rw (← same) (answers v);
    in_range = λ e. absurd (cc);
  }

  pub first_1 : true ≡ outside 1 largest_number j.number → Screens s j (Err R.NumberOutOfRange)
  unfolding submit_tests
  first_1 a = refuses R.NumberOutOfRange (λ v. first_answers s v j (all_left.first (here refl (ap refuse_if (sym a)))))

  module _ (a : false ≡ outside 1 largest_number j.number) where
    number : (v : View) → LeftAfter 1 (submit_tests s v j)
    number v = number_passed s v j (sym a)

    pub first_2 : true ≡ miscounted j → Screens s j (Err R.Miscounted)
    unfolding submit_tests
    first_2 b = refuses R.Miscounted (λ v. first_answers s v j ((number v).first (here refl (ap refuse_if (sym b)))))

    module _ (b : false ≡ miscounted j) where
      counts : (v : View) → LeftAfter 2 (submit_tests s v j)
      counts v = counts_passed s v j (number v) (sym b)

      pub first_3 : true ≡ out_of_range s j → Screens s j (Err R.FigureOutOfRange)
      unfolding submit_tests
      first_3 c = refuses R.FigureOutOfRange (λ v. first_answers s v j ((counts v).first (here refl (ap refuse_if (sym c)))))

      pub first_4 : false ≡ out_of_range s j → true ≡ bad_messages j → Screens s j (Err R.BadMessages)
      unfolding submit_tests
      first_4 c d =
          refuses R.BadMessages (λ v. first_answers s v j ((figures_passed s v j (counts v) (sym c)).first (here refl (ap refuse_if (sym d)))))

-- What an accepted submission has shown: that none of its tests refuses it, each said by itself and found by its number.
use mathlib.Core.Path.{◌≡◌, refl}
use mathlib.Core.Bool.{Bool, true, false, cond}
use mathlib.Core.List.{List, [], ◌∷◌}
use mathlib.Core.Option.{Option, none}
use Prim.Native.Nat.{ℕ, ◌+◌, ◌≤◌}
use native.Mathlib.Omega.{arith}
use lib.Dec.{ltb, eqb}
use lib.ListN.{length}
use borrow.Author.Tests.{ltb-false, le-ltb}
use Rattle.rules.specs.declared.Job.{Job}
use Rattle.rules.specs.declared.Setup.{Setup}
use Rattle.rules.specs.Words.{View, row_limit, largest_number}
use Rattle.rules.specs.Placing.{Placing, booked, late}
use Rattle.rules.specs.Refusals.{Test, refuse_if, outside, miscounted, out_of_range, bad_messages, first_infeasible, missed, found, placing, admission}
use Rattle.rules.specs.Refusals.{submit_tests, submit_answer}
use Rattle.rules.specs.Demands.{NoRefusal, end, passes, InRange}
use Rattle.rules.proofs.Sequences.{by_test}
use Rattle.rules.proofs.Demand1.{judged_passed, submit_answered}
use Rattle.rules.proofs.Tests.{in_range_passed, held_passed, feasible_passed, placing_passed, rows_passed}

pub record Admitted (s : Setup) (v : View) (j : Job) : Type 0 where
  pub in_range : InRange s j
  pub not_held : v.held j.number ≡ false
  pub feasible : first_infeasible s v.calendar.clock j ≡ none
  pub rows_found : placing s v j ≡ booked (found (placing s v j))
  pub fits : length v.rows + length (found (placing s v j)) ≤ row_limit

pub refuse_none : (b : Bool) → refuse_if b ≡ none → b ≡ false
refuse_none true e = let z : ◌≡◌ {A = ℕ} 0 1 = cc in absurd (omega arith)
refuse_none false e = refl

not_missed : (p : Placing) → missed p ≡ none → p ≡ booked (found p)
unfolding missed found
not_missed (booked rows) e = refl
not_missed (late t) e = let z : ◌≡◌ {A = ℕ} 0 1 = cc in absurd (omega arith)

booked_not_missed : (p : Placing) → p ≡ booked (found p) → missed p ≡ none
unfolding missed found
booked_not_missed (booked rows) e = refl
booked_not_missed (late t) e = let z : ◌≡◌ {A = ℕ} 0 1 = cc in absurd (omega arith)

-- what the test of a number says; none where no test has it
abbrev pub said_by : ℕ → List Test → Option ℕ
said_by n [] = none
said_by n (test ∷ tests) = cond (eqb test.number n) test.refuses (said_by n tests)

pub none_refuses : {tests : List Test} → NoRefusal tests → (n : ℕ) → said_by n tests ≡ none
none_refuses end n = refl
none_refuses (passes {test = test} h rest) n =
    by_test (eqb test.number n) (λ e. rw e h) (λ e. rw e (none_refuses rest n))

module _ (s : Setup) (v : View) (j : Job) where
  pub admitted : (submit_answer s v j).number ≡ 0 → Admitted s v j
  unfolding submit_tests
  admitted e =
      let silent : (n : ℕ) → said_by n (submit_tests s v j) ≡ none = none_refuses ((submit_answered s v j).passed.0 e) in
      record {
        in_range = record {
          number = refuse_none (outside 1 largest_number j.number) (silent 1);
          counts = refuse_none (miscounted j) (silent 2);
          figures = refuse_none (out_of_range s j) (silent 3);
          messages = refuse_none (bad_messages j) (silent 4);
        };
        not_held = refuse_none (v.held j.number) (silent 5);
        feasible = silent 6;
        rows_found = not_missed (placing s v j) (silent 7);
        fits =
            ltb-false
            row_limit
            (length v.rows + length (found (placing s v j)))
            (refuse_none (ltb row_limit (length v.rows + length (found (placing s v j)))) (silent 8));
      }

  pub admits : Admitted s v j → (submit_answer s v j).number ≡ 0
  unfolding submit_tests
  admits a =
      let in_time = booked_not_missed (placing s v j) a.rows_found in
      let fits = le-ltb row_limit (length v.rows + length (found (placing s v j))) a.fits in
      let free = held_passed s v j (in_range_passed s v j a.in_range) a.not_held in
      (submit_answered s v j).passed.1 ((rows_passed s v j (placing_passed s v j (feasible_passed s v j free a.feasible) in_time) fits).clear end)

  -- the answer of an accepted submission
  pub answer_passed : (submit_answer s v j).number ≡ 0 → submit_answer s v j ≡ admission (found (placing s v j))
  unfolding submit_answer
  answer_passed e = judged_passed (admission (found (placing s v j))) ((submit_answered s v j).passed.0 e)

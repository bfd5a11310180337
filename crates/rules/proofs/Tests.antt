-- Tests made one after the other. What is left to make is known by the number of the last one that has passed, and no proof counts the tests: each fact takes
-- what the test before it left, so one that is inserted moves the fact of the test after it, and the places that name both in a row.
use mathlib.Core.Path.{◌≡◌, ap}
use mathlib.Core.Bool.{false, cond}
use mathlib.Core.List.{List, [], ◌∷◌}
use mathlib.Core.Option.{none}
use Prim.Native.Nat.{ℕ, ◌+◌}
use lib.Dec.{ltb, eqb}
use lib.ListN.{length}
use Rattle.rules.specs.declared.Job.{Job}
use Rattle.rules.specs.declared.Setup.{Setup}
use Rattle.rules.specs.Words.{View, largest_number, row_limit}
use Rattle.rules.specs.Refusals.{Test, refuse_if, outside, miscounted, out_of_range, bad_messages, first_infeasible, missed, found, placing, submit_tests}
use Rattle.rules.specs.Demands.{FirstRefusal, later, NoRefusal, passes, InRange}

-- of these tests those are left to make: none before them refuses
pub record Left (tests left : List Test) : Type 0 where
  pub first : {n t : ℕ} → FirstRefusal n t left → FirstRefusal n t tests
  pub clear : NoRefusal left → NoRefusal tests

pub all_left : {tests : List Test} → Left tests tests
all_left = record { first = λ f. f; clear = λ f. f }

pub passed : {tests left : List Test} {test : Test} → Left tests (test ∷ left) → test.refuses ≡ none → Left tests left
passed before h = record { first = λ f. before.first (later h f); clear = λ f. before.clear (passes h f) }

-- the tests after that of a number
abbrev pub tests_after : ℕ → List Test → List Test
tests_after n [] = []
tests_after n (test ∷ tests) = cond (eqb test.number n) tests (tests_after n tests)

abbrev pub LeftAfter : ℕ → List Test → Type 0
LeftAfter n tests = Left tests (tests_after n tests)

-- The tests of a submission: what is left once each has passed, of what the one before it left.
module _ (s : Setup) (v : View) (j : Job) where
  pub number_passed : outside 1 largest_number j.number ≡ false → LeftAfter 1 (submit_tests s v j)
  unfolding submit_tests
  number_passed number = passed all_left (ap refuse_if number)

  pub counts_passed : LeftAfter 1 (submit_tests s v j) → miscounted j ≡ false → LeftAfter 2 (submit_tests s v j)
  unfolding submit_tests
  counts_passed left counts = passed left (ap refuse_if counts)

  pub figures_passed : LeftAfter 2 (submit_tests s v j) → out_of_range s j ≡ false → LeftAfter 3 (submit_tests s v j)
  unfolding submit_tests
  figures_passed left figures = passed left (ap refuse_if figures)

  pub messages_passed : LeftAfter 3 (submit_tests s v j) → bad_messages j ≡ false → LeftAfter 4 (submit_tests s v j)
  unfolding submit_tests
  messages_passed left messages = passed left (ap refuse_if messages)

  pub in_range_passed : InRange s j → LeftAfter 4 (submit_tests s v j)
  in_range_passed range =
      messages_passed (figures_passed (counts_passed (number_passed range.number) range.counts) range.figures) range.messages

  pub held_passed : LeftAfter 4 (submit_tests s v j) → v.held j.number ≡ false → LeftAfter 5 (submit_tests s v j)
  unfolding submit_tests
  held_passed left free = passed left (ap refuse_if free)

  pub feasible_passed : LeftAfter 5 (submit_tests s v j) → first_infeasible s v.calendar.clock j ≡ none → LeftAfter 6 (submit_tests s v j)
  unfolding submit_tests
  feasible_passed left feasible = passed left feasible

  pub placing_passed : LeftAfter 6 (submit_tests s v j) → missed (placing s v j) ≡ none → LeftAfter 7 (submit_tests s v j)
  unfolding submit_tests
  placing_passed left in_time = passed left in_time

  pub rows_passed :
      LeftAfter 7 (submit_tests s v j) → ltb row_limit (length v.rows + length (found (placing s v j))) ≡ false → LeftAfter 8 (submit_tests s v j)
  unfolding submit_tests
  rows_passed left fits = passed left (ap refuse_if fits)

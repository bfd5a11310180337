-- Demand 1: each call refuses by the number of its first test that refuses, and a refusal leaves the register as it was.
use mathlib.Core.Path.{◌≡◌, refl, sym, ap, ◌∙◌, subst}
use mathlib.Core.Logic.{◌↔◌, ◌≢◌}
use mathlib.Core.Bool.{true, false}
use mathlib.Core.List.Memᴰ
use mathlib.Core.List.{List, [], ◌∷◌, map, Memᴰ}
use mathlib.Core.Option.{Option, none, some, none-ne-some, some-injective}
use Prim.Native.Nat.{ℕ}
use native.Mathlib.Omega.{arith}
use lib.Dec.{ltb, eqb}
use borrow.Author.Tests.{ltb-true, eqb-true, eq-eqb, ne_eqb}
use Rattle.rules.specs.declared.Row.{Row}
use Rattle.rules.specs.declared.Job.{Job}
use Rattle.rules.specs.declared.Setup.{Setup}
use Rattle.rules.specs.declared.Answer.{Answer}
use Rattle.rules.specs.declared.Seen.TheVariants.{NoMachine}
use Rattle.rules.specs.Sequences.{any_of, all_of, keep}
use Rattle.rules.specs.Words.{machines, State, View, view}
use Rattle.rules.specs.Refusals.{Test, judged, refusal, submit_tests, withdraw_tests, advance_tests, submit_answer, withdraw_answer, advance_answer}
use Rattle.rules.specs.Refusals.{Call, submits, withdraws, advances, settle, step, look, running, seen_in}
use Rattle.rules.specs.Demands.{FirstRefusal, here, later, NoRefusal, end, passes, AnsweredBy, numbers_for, Demand1, SeenBy, Demand1Look}
use Rattle.rules.specs.Laws.{IsMachine, RunsAt}
use Rattle.rules.proofs.Sequences.{by_test, clash, any_mem, any_witness, all_mem, mem_map, mem_keep, keep_mem, mem_numbers, numbers_mem}
use Rattle.rules.proofs.Resources.{running_says}

-- a test cannot both pass and refuse
both : {C : Type 0} {o : Option ℕ} {t : ℕ} → o ≡ none → o ≡ some t → C
both {t = t} p q = absurd (none-ne-some t (sym p ∙ q))

-- what is answered where the test names no task, and where it names one
abbrev pub by_refusal : (rest : Answer) (n : ℕ) → Option ℕ → Answer
by_refusal rest n o = elim o as (λ _. Answer) [ none ↦ rest | some t ↦ refusal n t ]

-- the first test that refuses makes the whole answer, where no test is numbered 0
pub judged_by :
    (passed : Answer) (tests : List Test) → passed.number ≡ 0 → ((test : Test) → Memᴰ test tests → test.number ≢ 0) →
    AnsweredBy tests (judged passed tests)
unfolding judged
judged_by passed [] zero_passed nonzero = record {
  first_refusal = λ n t ne. (λ e. absurd (ne (sym (ap (λ a. a.number) e) ∙ zero_passed)), λ f. elim f [ ]);
  by_a_test = λ ne. absurd (ne zero_passed);
  passed = (λ e. end, λ f. zero_passed);
}
judged_by passed (test ∷ tests) zero_passed nonzero =
    go test.refuses refl (judged_by passed tests zero_passed (λ t m. nonzero t (Memᴰ.tail m)))
  where
    after_first : {n t : ℕ} → test.refuses ≡ none → FirstRefusal n t (test ∷ tests) → FirstRefusal n t tests
    after_first o (here e h) = both o h
    after_first o (later h f) = f

    at_first : {n t u : ℕ} → test.refuses ≡ some u → FirstRefusal n t (test ∷ tests) → refusal test.number u ≡ refusal n t
    at_first o (here e h) = cc
    at_first o (later h f) = both h o

    no_refusal : NoRefusal (test ∷ tests) → (test.refuses ≡ none) × NoRefusal tests
    no_refusal (passes h f) = (h, f)

    go :
        (o : Option ℕ) → test.refuses ≡ o → AnsweredBy tests (judged passed tests) →
        AnsweredBy (test ∷ tests) (elim o [ none ↦ judged passed tests | some t ↦ refusal test.number t ])
    go none o below = record {
      first_refusal = λ n t ne. (λ e. later o ((below.first_refusal n t ne).0 e), λ f. (below.first_refusal n t ne).1 (after_first o f));
      by_a_test = λ ne. let first = below.by_a_test ne in (first.0, later o first.1);
      passed = (λ e. passes o (below.passed.0 e), λ f. below.passed.1 (no_refusal f).1);
    }
    go (some u) o below = record {
      first_refusal = λ n t ne. (λ e. here (ap (λ a. a.number) e) (o ∙ ap (λ a. some a.task) e), λ f. at_first o f);
      by_a_test = λ ne. (u, here refl o);
      passed = (λ e. absurd (nonzero test (Memᴰ.head refl) e), λ f. both (no_refusal f).0 o);
    }

-- the first test that refuses makes the answer, whatever its number
pub judged_first : (passed : Answer) {n t : ℕ} {tests : List Test} → FirstRefusal n t tests → judged passed tests ≡ refusal n t
unfolding judged
judged_first passed {n} {t} (here {test = test} {tests = tests} e h) =
    ap (by_refusal (judged passed tests) test.number) h ∙ ap (λ k. refusal k t) e
judged_first passed (later {test = test} {tests = tests} h rest) =
    ap (by_refusal (judged passed tests) test.number) h ∙ judged_first passed rest

-- where no test refuses, the answer is the one that was to be given
pub judged_passed : (passed : Answer) {tests : List Test} → NoRefusal tests → judged passed tests ≡ passed
unfolding judged
judged_passed passed end = refl
judged_passed passed (passes {test = test} {tests = tests} h rest) =
    ap (by_refusal (judged passed tests) test.number) h ∙ judged_passed passed rest

-- the same where the tests have these numbers, none of which is 0
with_numbers :
    (passed : Answer) (tests : List Test) (numbers : List ℕ) → passed.number ≡ 0 → all_of (ltb 0) numbers ≡ true →
    map (λ test. test.number) tests ≡ numbers → AnsweredBy tests (judged passed tests)
with_numbers passed tests numbers zero_passed above e =
    judged_by passed tests zero_passed λ test m z.
    let positive = ltb-true 0 test.number (all_mem (ltb 0) above (subst (Memᴰ test.number) e (mem_map (λ test. test.number) m))) in
    omega arith

-- a refusal leaves the register as it was
settled : {S : Type 0} (a : Answer) (old changed : S) → a.number ≢ 0 → (settle a old changed).left ≡ old
unfolding settle
settled a old changed ne = rw (ne_eqb a.number 0 ne) refl

pub submit_answered : (s : Setup) (v : View) (j : Job) → AnsweredBy (submit_tests s v j) (submit_answer s v j)
unfolding submit_answer submit_tests
submit_answered s v j = with_numbers _ (submit_tests s v j) (numbers_for (submits j)) refl refl refl

pub demand_1 : (s : Setup) (st : State) (c : Call) → Demand1 s st c
unfolding step settle submit_answer withdraw_answer advance_answer submit_tests withdraw_tests advance_tests
demand_1 s st (submits j) = record {
  numbers = refl;
  answered = submit_answered s (view st) j;
  untouched = settled (submit_answer s (view st) j) st _;
}
demand_1 s st (withdraws n) = record {
  numbers = refl;
  answered = with_numbers _ (withdraw_tests (view st) n) (numbers_for (withdraws n)) refl refl refl;
  untouched = settled (withdraw_answer (view st) n) st _;
}
demand_1 s st (advances tick) = record {
  numbers = refl;
  answered = with_numbers _ (advance_tests (view st) tick) (numbers_for (advances tick)) refl refl refl;
  untouched = settled (advance_answer (view st) tick) st _;
}

-- the machines looked for are those numbered 1 to the table's count
pub machine_listed : (s : Setup) (m : ℕ) → (any_of (eqb m) (machines s) ≡ true) ↔ IsMachine s m
machine_listed s m = (
  λ e.
      let w = any_witness (eqb m) (machines s) e in
      let same = eqb-true m w.0 w.2 in
      let range = mem_numbers 1 s.table.machines w.1 in
      record { first = omega arith; last = omega arith },
  λ h. any_mem (eqb m) (numbers_mem 1 s.table.machines m h.first (omega arith)) (eq-eqb m m refl),
)

-- a look at a machine of the table answers the first of the rows there, and at any other 13
module _ (s : Setup) (v : View) (m tick : ℕ) where
  there : List Row
  there = keep (running m tick) v.rows

  look_machine : any_of (eqb m) (machines s) ≡ true → look s v m tick ≡ seen_in there
  unfolding look there
  look_machine h = rw (h, look) refl

  look_none : any_of (eqb m) (machines s) ≡ false → look s v m tick ≡ NoMachine
  unfolding look
  look_none h = rw (h, look) refl

  mem_there : (row : Row) → Memᴰ row there → Memᴰ row v.rows × RunsAt m tick row
  unfolding there
  mem_there row n = let kept = mem_keep (running m tick) v.rows n in (kept.0, (running_says m tick row).0 kept.1)

  there_mem : (row : Row) → Memᴰ row v.rows → RunsAt m tick row → Memᴰ row there
  unfolding there
  there_mem row n runs = keep_mem (running m tick) n ((running_says m tick row).1 runs)

  seen_there : IsMachine s m → (rows : List Row) → rows ≡ there → SeenBy s v m tick (seen_in rows)
  unfolding seen_in
  seen_there is [] e = record {
    no_machine = (λ n. absurd (omega arith), λ none_such. absurd (none_such is));
    passed = (λ n. is, λ _. refl);
    sees = λ row n. absurd (none-ne-some row n);
    idle = (λ _. (is, λ row n runs. Memᴰ.not-nil (subst (Memᴰ row) (sym e) (there_mem row n runs))), λ _. refl);
  }
  seen_there is (x ∷ rows) e =
      let x_there = mem_there x (subst (Memᴰ x) e (Memᴰ.head refl)) in
      record {
        no_machine = (λ n. absurd (omega arith), λ none_such. absurd (none_such is));
        passed = (λ n. is, λ _. refl);
        sees = λ row n. rw (sym (some-injective x row n)) x_there;
        idle = (λ n. let z : ◌≡◌ {A = ℕ} 0 1 = cc in absurd (omega arith), λ empty. absurd (empty.1 x x_there.0 x_there.1));
      }

  seen_nowhere : (IsMachine s m → ⊥) → SeenBy s v m tick NoMachine
  seen_nowhere none_such = record {
    no_machine = (λ _. none_such, λ _. refl);
    passed = (λ n. absurd (omega arith), λ is. absurd (none_such is));
    sees = λ row n. absurd (none-ne-some row n);
    idle = (λ n. let z : ◌≡◌ {A = ℕ} 0 1 = cc in absurd (omega arith), λ empty. absurd (none_such empty.0));
  }

  pub demand_1_look : Demand1Look s v m tick
  demand_1_look =
      by_test
      (any_of (eqb m) (machines s))
      (λ h. rw (look_machine h) (seen_there ((machine_listed s m).0 h) there refl))
      (λ h. rw (look_none h) (seen_nowhere (λ is. clash ((machine_listed s m).1 is) h)))

-- Demand 2: a job is admitted exactly when it is in range, not held, placing finds every task a good trial and the rows fit; and then with those rows.
use mathlib.Core.Path.{◌≡◌, refl, ap, ◌∙◌}
use mathlib.Core.Bool.{true}
use mathlib.Core.List.{List, [], ◌∷◌, ◌++◌, map, Memᴰ}
use mathlib.Core.Option.{Option, none, some}
use Prim.Native.Nat.{ℕ, ◌+◌, ◌≤◌}
use native.Mathlib.Omega.{arith}
use lib.Dec.{ltb}
use borrow.Author.Tests.{ltb-true, lt-ltb, eq-eqb}
use Rattle.rules.specs.declared.Row.{Row}
use Rattle.rules.specs.declared.Job.{Job}
use Rattle.rules.specs.declared.Setup.{Setup}
use Rattle.rules.specs.Sequences.{keep, foremost}
use Rattle.rules.specs.Words.{machines, task_numbers, task_of, run_time, State, View, view}
use Rattle.rules.specs.Placing.{into, release, try, booked}
use Rattle.rules.specs.Withdrawing.{admit}
use Rattle.rules.specs.Refusals.{infeasible, first_infeasible, found, placing, admission, submit_answer, settle, step}
use Rattle.rules.specs.Laws.{IsGood}
use Rattle.rules.specs.Demands.{InRange, Places, Admissible, Demand2}
use Rattle.rules.specs.Placing.{Ground}
use Rattle.rules.specs.Refusals.{ground_of}
use Rattle.rules.proofs.Sequences.{keep_mem, mem_keep, mem_map, numbers_mem}
use Rattle.rules.proofs.Choice.{precedes_false, foremost_mem, foremost_first, foremost_empty, mem_task, choice_kept}
use Rattle.rules.proofs.Inputs.{from_arrived, try_shape}
use Rattle.rules.proofs.Order.{in_range_ends, in_range_lower, lower_acyclic}
use Rattle.rules.proofs.AllPlaced.{all_placed, placed_by_good}
use Rattle.rules.proofs.Admitted.{admitted, admits, answer_passed}

-- a trial does not end before the base plus its run time
trial_ends :
    (s : Setup) (g : Ground) (j : Job) (new : List Row) (t m : ℕ) → g.base + run_time j t m ≤ (try s g j new t m).own.finish
unfolding release
trial_ends s g j new t m =
    let shape = try_shape s g j new t m in
    let waits = shape.waits in
    let ends = ap (λ row. row.finish) shape.own in
    let from = from_arrived (new ++ (try s g j new t m).inputs) m (release g j new t) (into j t) in
    omega arith

-- Necessary Condition 1 of 004: an infeasible task has no good trial, whatever was placed before it
pub infeasible_never_good :
    (s : Setup) (g : Ground) (clock : ℕ) → clock ≤ g.base → (j : Job) (t : ℕ) → infeasible s clock j t ≡ true → (new : List Row) (m : ℕ) →
    IsGood s g j new t m → ⊥
unfolding infeasible
infeasible_never_good s g clock from_base j t e new m good = go (foremost (λ run. run ∷ []) runs) refl e
  where
    runs : List ℕ
    runs = keep (ltb 0) (map (run_time j t) (machines s))

    own_run : Memᴰ (run_time j t m) runs
    own_run =
        let listed = numbers_mem 1 s.table.machines m good.is_machine.first (omega arith) in
        keep_mem (ltb 0) (mem_map (run_time j t) listed) (lt-ltb 0 (run_time j t m) good.able)

    go :
        (o : Option ℕ) → foremost (λ run. run ∷ []) runs ≡ o →
        (elim o [ none ↦ true | some run ↦ ltb (task_of j t).deadline (clock + run) ]) ≡ true → ⊥
    go none f h = foremost_empty _ f own_run
    go (some run) f h =
        let least = (precedes_false _ _ (foremost_first _ runs f own_run)).0 in
        let late = ltb-true (task_of j t).deadline (clock + run) h in
        let ends = trial_ends s g j new t m in
        let in_time = good.in_time in
        omega arith

-- a job whose tasks are all placed has no infeasible task
placed_feasible : (s : Setup) (v : View) (j : Job) (rows : List Row) → Places s v j rows → first_infeasible s v.calendar.clock j ≡ none
unfolding first_infeasible
placed_feasible s v j rows places = go (foremost (λ t. t ∷ []) infeasible_tasks) refl
  where
    infeasible_tasks : List ℕ
    infeasible_tasks = keep (infeasible s v.calendar.clock j) (task_numbers j)

    go : (o : Option ℕ) → foremost (λ t. t ∷ []) infeasible_tasks ≡ o → o ≡ none
    go none f = refl
    go (some t) f =
        let m = mem_keep (infeasible s v.calendar.clock j) (task_numbers j) (foremost_mem _ infeasible_tasks f) in
        let turn = placed_by_good s v j rows places.rows_found t (places.every_task t (mem_task j m.0)) in
        let kept = choice_kept s (ground_of v j) j turn.0 t turn.1 turn.2 in
        absurd (infeasible_never_good s (ground_of v j) v.calendar.clock (omega arith) j t m.1 turn.0 kept.0 kept.2.is_good)

pub demand_2 : (s : Setup) (st : State) (j : Job) → Demand2 s st j
unfolding step settle found
demand_2 s st j = record {
  admitted = (
    λ e.
        let a = admitted s (view st) j e in (
          found (placing s (view st) j),
          record { in_range = a.in_range; not_held = a.not_held; places = places a.in_range a.rows_found; fits = a.fits },
        ),
    λ given. passes given.0 given.1,
  );
  answered = λ rows is. answer_passed s (view st) j (passes rows is) ∙ ap (λ it. admission (found it)) is.places.rows_found;
  with_its_rows = λ rows is. rw (eq-eqb _ 0 (passes rows is)) (ap (λ it. admit st (found it)) is.places.rows_found);
}
  where
    places : {rows : List Row} → InRange s j → placing s (view st) j ≡ booked rows → Places s (view st) j rows
    places {rows} range e = record {
      rows_found = e;
      every_task = all_placed s (view st) j rows (lower_acyclic j (in_range_lower s j range)) (in_range_ends s j range) e;
    }

    passes : (rows : List Row) → Admissible s (view st) j rows → (submit_answer s (view st) j).number ≡ 0
    passes rows is =
        admits s (view st) j (record {
          in_range = is.in_range;
          not_held = is.not_held;
          feasible = placed_feasible s (view st) j rows is.places;
          rows_found = rw is.places.rows_found refl;
          fits = rw is.places.rows_found is.fits;
        })

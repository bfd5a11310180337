-- Placing that succeeds has placed every task, each by a good trial at its turn.
use mathlib.Core.Path.{◌≡◌, refl, sym, ap, ◌∙◌}
use mathlib.Core.Logic.{◌⊎◌, ⊎_elim}
use mathlib.Core.Bool.{Bool, true, not, ◌&&◌, or-false}
use mathlib.Core.List.{List, [], ◌∷◌, ◌++◌}
use mathlib.Core.Option.{none, some}
use Prim.Native.Nat.{ℕ, suc, ◌≤◌, ◌<◌}
use native.Mathlib.Omega.{arith}
use lib.Dec.{eqb}
use borrow.Author.Tests.{eqb-true, eq-eqb}
use Rattle.rules.specs.declared.Row.{Row}
use Rattle.rules.specs.declared.Job.{Job}
use Rattle.rules.specs.declared.Setup.{Setup}
use Rattle.rules.specs.Sequences.{all_of, count_of}
use Rattle.rules.specs.Words.{task_numbers, View}
use Rattle.rules.specs.Placing.{is_task, books_task, placed, into, ready, next_task, Trial, trial_rows, try, choice, booked}
use Rattle.rules.specs.Refusals.{placing}
use Rattle.rules.specs.Laws.{IsTask, Acyclic, EndsListed}
use Rattle.rules.specs.Placing.{Ground}
use Rattle.rules.specs.Refusals.{ground_of}
use Rattle.rules.proofs.Sequences.{by_test, clash, or_cases, and_true, any_append, keep_same, length_keep, length_numbers, count_some, any_mem}
use Rattle.rules.proofs.Choice.{task_mem, next_is_next, none_next, choice_kept}
use Rattle.rules.proofs.Turns.{place_ends}
use Rattle.rules.proofs.Inputs.{booked_no_task, try_shape}
use Rattle.rules.proofs.Order.{count_fewer, always_ready}

-- a trial places its task and no other
pub choice_places :
    (s : Setup) (g : Ground) (j : Job) (new : List Row) (t : ℕ) (trial : Trial) → choice s g j new t ≡ some trial →
    (u : ℕ) → placed (trial_rows trial) u ≡ eqb t u
unfolding is_task
choice_places s g j new t trial e u =
    let r = choice_kept s g j new t trial e in
    let shape = try_shape s g j new t r.0 in
    rw
    (r.1, any_append (books_task u) (try s g j new t r.0).inputs ((try s g j new t r.0).own ∷ []))
    (rw (booked_no_task s j new r.0 shape.inputs u, ap (λ row. books_task u row) shape.own) (or-false (eqb t u)))

abbrev unplaced : List Row → ℕ → Bool
unplaced new u = not (placed new u)

ready_unplaced : (j : Job) (new : List Row) (t : ℕ) → ready j new t ≡ true → unplaced new t ≡ true
unfolding ready
ready_unplaced j new t e = (and_true (unplaced new t) (all_of (λ msg. placed new msg.sender) (into j t)) e).0

module _ (s : Setup) (v : View) (j : Job) where
  -- a turn that books leaves fewer tasks unplaced
  fewer_unplaced :
      (new : List Row) (t : ℕ) (trial : Trial) → next_task j new ≡ some t → choice s (ground_of v j) j new t ≡ some trial →
      count_of (unplaced (new ++ trial_rows trial)) (task_numbers j) < count_of (unplaced new) (task_numbers j)
  fewer_unplaced new t trial is kept =
      let next = next_is_next j new t is in
      rw
      (keep_same (unplaced (new ++ trial_rows trial)) (λ u. unplaced new u && not (eqb t u)) (task_numbers j) (λ u m. still u))
      (count_fewer (unplaced new) (eqb t) (task_mem j t next.is_task) (ready_unplaced j new t next.is_ready) (eq-eqb t t refl))
    where
      still : (u : ℕ) → unplaced (new ++ trial_rows trial) u ≡ unplaced new u && not (eqb t u)
      still u =
          rw
          (any_append (books_task u) new (trial_rows trial), choice_places s (ground_of v j) j new t trial kept u)
          (by_test (placed new u) (λ h. rw h refl) (λ h. rw h refl))

  pub all_placed : (rows : List Row) → Acyclic j → EndsListed j → placing s v j ≡ booked rows → (t : ℕ) → IsTask j t → placed rows t ≡ true
  unfolding placing
  all_placed rows acyclic ends e t is =
      by_test
      (placed rows t)
      (λ h. h)
      (λ h.
      let some_left = count_some (unplaced rows) (task_numbers j) (any_mem (unplaced rows) (task_mem j t is) (ap not h)) in
      let few = end.1 in
      let u = always_ready j acyclic ends rows t is h in
      ⊎_elim (λ z. absurd (omega arith)) (λ idle. clash u.2 (none_next j rows idle u.0 u.1)) end.2)
    where
      Few : ℕ → List Row → Type 0
      Few left new = count_of (unplaced new) (task_numbers j) ≤ left

      all : Few j.taskcount []
      all = let most = length_keep (unplaced []) (task_numbers j) in let count = length_numbers 1 j.taskcount in omega arith

      end : (left : ℕ) × Few left rows × ((left ≡ 0) ⊎ (next_task j rows ≡ none))
      end =
          place_ends s (ground_of v j) j Few
          (λ left new u trial is kept few. let fewer = fewer_unplaced new u trial is kept in omega arith)
          all e

  -- each task placed had a good trial at its turn
  pub placed_by_good :
      (rows : List Row) → placing s v j ≡ booked rows → (t : ℕ) → placed rows t ≡ true →
      (new : List Row) × (trial : Trial) × (choice s (ground_of v j) j new t ≡ some trial)
  unfolding placing
  placed_by_good rows e t is = end.1 t is
    where
      Good : ℕ → List Row → Type 0
      Good left rows = (t : ℕ) → placed rows t ≡ true → (new : List Row) × (trial : Trial) × (choice s (ground_of v j) j new t ≡ some trial)

      keeps :
          (left : ℕ) (new : List Row) (u : ℕ) (trial : Trial) →
          next_task j new ≡ some u → choice s (ground_of v j) j new u ≡ some trial → Good (suc left) new → Good left (new ++ trial_rows trial)
      keeps left new u trial is kept good t h =
          let placed_now = choice_places s (ground_of v j) j new u trial kept t in
          ⊎_elim
          (good t)
          (λ k. (new, trial, ap (choice s (ground_of v j) j new) (sym (eqb-true u t (sym placed_now ∙ k))) ∙ kept))
          (or_cases (placed new t) (placed (trial_rows trial) t) (sym (any_append (books_task t) new (trial_rows trial)) ∙ h))

      end : (left : ℕ) × Good left rows × ((left ≡ 0) ⊎ (next_task j rows ≡ none))
      end = place_ends s (ground_of v j) j Good keeps (λ t h. clash h refl) e

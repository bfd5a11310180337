-- The loop over the turns of a job: after each, what is left to place of the rules' placing starts from the rows booked so far.
use mathlib.Core.Path.{◌≡◌, refl, sym, ap, ◌∙◌, subst}
use mathlib.Core.Logic.{◌≢◌, ⊎_elim}
use mathlib.Core.Bool.{true, false, not, ◌||◌, or-false as or_none}
use mathlib.Core.List.Memᴰ
use mathlib.Core.List.{List, [], ◌∷◌, ◌++◌, append-nil}
use mathlib.Core.List.{Memᴰ}
use mathlib.Core.Option as Rules
use mathlib.Core.Option.{none, some}
use Prim.Native.Nat.{ℕ, suc, ◌+◌, ◌*◌, ◌-◌, ◌≤◌, ◌<◌}
use native.Mathlib.Nat.{sub-zero}
use native.Mathlib.Omega.{arith}
use native.Mathlib.Numerals.{add-one}
use lib.Dec.{eqb}
use lib.ListN.{length, set, replicate, length-set, length-append, length-take, get_or-replicate}
use lib.Seq.{get_or-set_same, get_or-set_other}
use borrow.Author.Tests.{eqb-true, eqb-false, eq-eqb, not-true}
use Rattle.std.proofs.Common.{Option, Some, None, is_some, IsSome, Result, Ok, Err}
use Rattle.rules.specs.declared.Row.{Row}
use Rattle.rules.specs.declared.Message.{Message}
use Rattle.rules.specs.declared.Job.{Job}
use Rattle.rules.specs.declared.Setup.{Setup}
use Rattle.rules.specs.Sequences.{all_of}
use Rattle.rules.specs.Words.{hold_of, most_tasks, messages_of, task_of}
use Rattle.rules.specs.Placing.{Ground, on_rows, is_task, books_task, no_row, task_row, machine_of, machine_for, placed, into, ready, next_task}
use Rattle.rules.specs.Placing.{Trial, trial_rows, costs, try, choice, Turn, over, misses, books, turn, Placing, booked, late, place_from, place}
use Rattle.rules.specs.Laws.{IsNext, IsKept}
use Rattle.rules.specs.Bounds.{Between, RowInRange, largest_cost}
use Rattle.rules.proofs.Sequences.{by_test, and_true, or_right, any_append, all_mem, mem_keep, first_append, first_skip, first_mem, sum_append}
use Rattle.rules.proofs.Sequences.{map_mem}
use Rattle.rules.proofs.Choice.{next_is_next, choice_kept}
use Rattle.rules.proofs.Inputs.{try_shape, booked_no_task}
use Rattle.rules.proofs.Due.{progress_none}
use Rattle.rules.proofs.AllPlaced.{choice_places}
use Rattle.rules.proofs.Order.{in_range_count, in_range_messages, in_range_ends}
use Rattle.rules.proofs.Bounds.{listed_in_range, listed_machine, InBounds, turn_in_bounds, task_figures}
use Rattle.rules.proofs.Counted.{due_length}
use Rattle.rules.proofs.Apart.{AllApart, turn_apart, shares_none_apart, apart_shares_none}
use Rattle.rules.proofs.Resources.{holds_append}
use Rattle.rules.specs.declared.answers.Admission.{Admission}
use Rattle.timeline.specs.Lines.{LineOf}
use Rattle.timeline.specs.RowLine.{most_own}
use Rattle.timeline.specs.Spans.{Spans}
use Rattle.drcd.specs.declared.TaskTurn.{TaskTurn}
use Rattle.drcd.specs.declared.choice.Kept.{Kept}
use Rattle.drcd.specs.declared.inputs.Input.{Input}
use Rattle.drcd.specs.declared.order.Spot.{Spot}
use Rattle.placement.specs.declared.own.Entry.{Entry}
use Rattle.placement.specs.declared.place.Late.{Late}
use Rattle.drcd.specs.Given.{StandsFor, spot_of}
use Rattle.drcd.specs.Inputs.{InputsOf}
use Rattle.drcd.specs.Trials.{reach, Scene, IsTrial}
use Rattle.placement.specs.Own.{OwnRows}
use Rattle.placement.specs.Appending.{Keeping, AppendedIs}
use Rattle.placement.specs.Placements.{Placeable, Placed}
use Rattle.placement.proofs.Pushing.{line_drawn_on}
use Rattle.timeline.proofs.Drawing.{in_range_drawable}
use Rattle.placement.proofs.Floors.{Released, released_none, TurnOf, release_low, release_now, released_more}

pub costs_at_most : (s : Setup) (rows : List Row) → ((row : Row) → Memᴰ row rows → RowInRange s row) → costs rows ≤ length rows * largest_cost
costs_at_most s [] h = omega arith
costs_at_most s (row ∷ rows) h =
    let here = (h row (Memᴰ.head refl)).cost in
    let below = costs_at_most s rows (λ r n. h r (Memᴰ.tail n)) in
    omega arith

module _ (s : Setup) (j : Job) (rows : List Row) {base : ℕ} {line₀ : Spans} (ask : Placeable s j rows base line₀) where
  abbrev ground : Ground
  ground = on_rows base rows

  -- what holds before each turn
  pub record SoFar (spots : List (Option Spot)) (line : Spans) (own : List Entry) (cost release turns : ℕ) : Type 0 where
    pub new : List Row
    pub spots_long : length spots ≡ most_tasks
    pub count_at_most : length new ≤ most_own
    pub cost_is : cost ≡ costs new
    pub line_is : LineOf (rows ++ new) line
    pub own_is : OwnRows rows new own
    pub stands : StandsFor new spots
    pub in_bounds : InBounds s j ask.range ask.sound new
    pub apart : AllApart (rows ++ new)
    pub floor : Released j base spots release turns
    pub rest : place s ground j ≡ place_from s ground j (j.taskcount - turns) new

  -- before the first turn
  none_stands : (t : ℕ) → Between 1 most_tasks t → spot_of (replicate most_tasks None) t ≡ None
  none_stands t on = let low = on.first in let high = on.last in get_or-replicate {A = Option Spot} most_tasks (t - 1) None None (omega arith)

  pub so_far_none : {own : List Entry} → own ≡ [] → SoFar (replicate most_tasks None) line₀ own 0 base 0
  unfolding place
  so_far_none empty =
      record {
        new = [];
        spots_long = refl;
        count_at_most = omega arith;
        cost_is = refl;
        line_is = rw (append-nil rows) ask.line_is;
        own_is = record { long = ap length empty; is = λ i h. absurd (omega arith); goes = λ i h. absurd (omega arith) };
        stands = record {
          placed_is = λ t on. ap is_some (sym (none_stands t on));
          machine_is = λ t spot on h. absurd (let none = none_stands t on in cc);
          finish_is = λ t spot on h. absurd (let none = none_stands t on in cc);
        };
        in_bounds = record { is_due = progress_none s j; in_range = λ row n. absurd (Memᴰ.not-nil n) };
        apart = rw (append-nil rows) (shares_none_apart rows ask.apart);
        floor = released_none j ask.base_at_most (in_range_count s j ask.range).1;
        rest = ap (λ k. place_from s ground j k []) (sym (sub-zero j.taskcount));
      }

  -- One turn of the rules.

  abbrev with_trial : ℕ → Rules.Option Trial → Turn
  with_trial t o = elim o [ none ↦ misses t | some trial ↦ books t trial ]

  abbrev with_task : List Row → Rules.Option ℕ → Turn
  with_task new o = elim o [ none ↦ over | some t ↦ with_trial t (choice s ground j new t) ]

  abbrev after_turn : ℕ → List Row → Turn → Placing
  after_turn k new x =
      elim x [ over ↦ booked new | misses t ↦ late t | books t trial ↦ place_from s ground j k (new ++ trial_rows trial) ]

  turn_over : (new : List Row) (k : ℕ) → next_task j new ≡ none → place_from s ground j (suc k) new ≡ booked new
  unfolding place_from turn
  turn_over new k e = ap (λ o. after_turn k new (with_task new o)) e

  turn_misses : (new : List Row) (k t : ℕ) → next_task j new ≡ some t → choice s ground j new t ≡ none → place_from s ground j (suc k) new ≡ late t
  unfolding place_from turn
  turn_misses new k t e c = ap (λ o. after_turn k new (with_task new o)) e ∙ ap (λ o. after_turn k new (with_trial t o)) c

  turn_books :
      (new : List Row) (k t : ℕ) (trial : Trial) → next_task j new ≡ some t → choice s ground j new t ≡ some trial →
      place_from s ground j (suc k) new ≡ place_from s ground j k (new ++ trial_rows trial)
  unfolding place_from turn
  turn_books new k t trial e c = ap (λ o. after_turn k new (with_task new o)) e ∙ ap (λ o. after_turn k new (with_trial t o)) c

  module _ {spots : List (Option Spot)} {line : Spans} {own : List Entry} {cost release turns : ℕ}
      (p : SoFar spots line own cost release turns) where
    abbrev new : List Row
    new = p.new

    all_in_range : (r : Row) → Memᴰ r (rows ++ new) → RowInRange s r
    all_in_range r n = ⊎_elim (ask.rows_in_range r) (p.in_bounds.in_range r) (Memᴰ.append_cases rows n)

    pub cost_at_most : cost ≤ most_own * largest_cost
    cost_at_most =
        let spent = costs_at_most s new p.in_bounds.in_range in
        let is = p.cost_is in
        let few = p.count_at_most in
        omega arith

    -- the task at an index is the next
    module _ (i : ℕ) (is_next : next_task j new ≡ some (i + 1)) where
      abbrev its : IsNext j new (i + 1)
      its = next_is_next j new (i + 1) is_next

      unplaced : placed new (i + 1) ≡ false
      unfolding ready
      unplaced =
          not-true
          (placed new (i + 1))
          (and_true (not (placed new (i + 1))) (all_of (λ msg. placed new msg.sender) (into j (i + 1))) its.is_ready).0

      pub senders_placed : (msg : Message) → Memᴰ msg (into j (i + 1)) → placed new msg.sender ≡ true
      unfolding ready
      senders_placed msg n =
          all_mem
          (λ msg. placed new msg.sender)
          (and_true (not (placed new (i + 1))) (all_of (λ msg. placed new msg.sender) (into j (i + 1))) its.is_ready).1
          n

      into_listed : (msg : Message) → Memᴰ msg (into j (i + 1)) → Memᴰ msg (messages_of j) × (msg.receiver ≡ i + 1)
      into_listed msg n = let r = mem_keep (λ msg. eqb msg.receiver (i + 1)) (messages_of j) n in (r.0, eqb-true msg.receiver (i + 1) r.1)

      sender_row : (msg : Message) → Memᴰ msg (into j (i + 1)) → RowInRange s (task_row new msg.sender)
      sender_row msg n = p.in_bounds.in_range (task_row new msg.sender) (first_mem no_row (books_task msg.sender) new (senders_placed msg n))

      pub index_listed : i < j.taskcount
      index_listed = let last = its.is_task.last in omega arith

      pub index_below : i < most_tasks
      index_below = let last = its.is_task.last in let few = (in_range_count s j ask.range).1 in omega arith

      within : Between 1 most_tasks (i + 1)
      within = record { first = its.is_task.first; last = let below = index_below in omega arith }

      pub turn_of : TurnOf j spots (i + 1)
      turn_of = record {
        listed = its.is_task;
        few = (in_range_count s j ask.range).1;
        short = (task_figures s j ask.range its.is_task).dispatch;
        vacant = sym (p.stands.placed_is (i + 1) within) ∙ unplaced;
      }

      -- the senders of its messages have spots
      pub senders_found : (msg : Message) → Memᴰ msg (into j (i + 1)) → IsSome (spot_of spots msg.sender)
      senders_found msg n =
          let ends = in_range_ends s j ask.range msg (into_listed msg n).0 in
          sym (p.stands.placed_is msg.sender (listed_in_range s j ask.range ends.0)) ∙ senders_placed msg n

      pub release_fits : turns < j.taskcount → release + (task_of j (i + 1)).dispatch ≤ reach 0
      release_fits more = release_low p.floor turn_of more

      module _ (inputs : List Input) (more : turns < j.taskcount) (next_release : ℕ) (release_is : next_release ≡ release + (task_of j (i + 1)).dispatch)
          (gathered : InputsOf j new (i + 1) inputs) where
        abbrev its_turn : TaskTurn
        its_turn = record { t = i; release = next_release }

        pub scene : Scene s j ground new inputs line its_turn
        scene =
            let few = p.count_at_most in
            let held = ask.held_few in
            record {
              sound = ask.sound;
              range = ask.range;
              drawn =
                  rw
                  (← holds_append rows new)
                  (line_drawn_on
                  p.line_is
                  (omega (arith, length-append rows new))
                  (λ r n. in_range_drawable ask.sound (all_in_range r n))
                  p.apart);
              held_end =
                  λ h n.
                  let of = map_mem hold_of (rows ++ new) (rw (← holds_append rows new) at n) in
                  rw of.2 (all_in_range of.0 of.1).ends;
              listed = its.is_task;
              inputs_are = gathered;
              release_is = release_is ∙ release_now p.floor turn_of rows new p.stands;
              release_at_most = rw release_is (release_fits more);
              senders_placed = senders_placed;
              senders_on = λ msg n. listed_machine (sender_row msg n).holder;
              senders_done = λ msg n. (sender_row msg n).ends;
              none_ahead = λ msg n. p.in_bounds.is_due.message_ahead msg (rw (into_listed msg n).1 unplaced);
            }

        -- the trial that is kept
        module _ (kept : Kept) (starts : List (Option ℕ)) (is_choice : choice s ground j new (i + 1) ≡ some (try s ground j new (i + 1) kept.machine))
            (it : IsTrial s j ground new (i + 1) kept.machine kept.best starts) where
          abbrev m : ℕ
          m = kept.machine

          abbrev trial : Trial
          trial = try s ground j new (i + 1) m

          is_kept : (k : ℕ) × (trial ≡ try s ground j new (i + 1) k) × IsKept s ground j new (i + 1) k
          is_kept = choice_kept s ground j new (i + 1) trial is_choice

          -- its machine is one of the table's
          pub kept_machine : Between 1 s.table.machines m
          unfolding machine_of try
          kept_machine =
              let same : m ≡ is_kept.0 = ap (λ x. machine_of x.own.holder) is_kept.1 in
              let on = is_kept.2.is_good.is_machine in
              rw same (record { first = on.first; last = on.last })

          in_bounds_more : InBounds s j ask.range ask.sound (new ++ trial_rows trial)
          in_bounds_more = rw is_kept.1 (turn_in_bounds s j ask.range ask.sound ground new (i + 1) is_kept.0 its is_kept.2 p.in_bounds)

          apart_more : AllApart (rows ++ (new ++ trial_rows trial))
          apart_more =
              rw
              (holds_append rows (new ++ trial_rows trial))
              (turn_apart s ground j new (i + 1) m (rw (holds_append rows new) at p.apart))

          all_fit : length (new ++ trial_rows trial) ≤ most_own
          all_fit =
              let all = due_length s j (new ++ trial_rows trial) in_bounds_more.is_due in
              let tasks = (in_range_count s j ask.range).1 in
              let messages = in_range_messages s j ask.range in
              let listed = length-take j.messagecount j.messages in
              omega arith

          pub keeping : Keeping s j base rows new kept starts inputs its_turn line own
          keeping =
              let both = length-append new (trial_rows trial) in
              let fit = all_fit in
              record {
                scene = scene;
                held_few = ask.held_few;
                there = kept_machine;
                trial = it;
                line_is = p.line_is;
                own_is = p.own_is;
                in_range = λ r n. in_bounds_more.in_range r (Memᴰ.append_right new n);
                apart = apart_shares_none (rows ++ (new ++ trial_rows trial)) apart_more;
                fits = omega arith;
              }

          -- where the tasks stand now
          own_row : task_row (new ++ trial_rows trial) (i + 1) ≡ trial.own
          unfolding is_task
          own_row =
              let shape = try_shape s ground j new (i + 1) m in
              let here : books_task (i + 1) trial.own ≡ true = rw shape.own (eq-eqb (i + 1) (i + 1) refl) in
              rw (
                first_skip no_row (books_task (i + 1)) new (trial_rows trial) unplaced,
                first_skip no_row (books_task (i + 1)) trial.inputs (trial.own ∷ []) (booked_no_task s j new m shape.inputs (i + 1)),
                here,
              )
              refl

          own_machine : machine_for (new ++ trial_rows trial) (i + 1) ≡ m
          unfolding machine_of
          own_machine = rw (own_row, (try_shape s ground j new (i + 1) m).own) refl

          abbrev spot : Spot
          spot = record { machine = m; finish = kept.best.finish }

          abbrev spots_more : List (Option Spot)
          spots_more = set spots i (Some spot)

          -- the task's own spot, and those of the others
          spot_here : (u : ℕ) → eqb (i + 1) u ≡ true → spot_of spots_more u ≡ Some spot
          spot_here u e =
              let at : u - 1 ≡ i = let same = eqb-true (i + 1) u e in omega arith in
              let below : i < length spots = let long = p.spots_long in let few = index_below in omega arith in
              rw at (get_or-set_same spots i (Some spot) None below)

          spot_other : (u : ℕ) → 1 ≤ u → eqb (i + 1) u ≡ false → spot_of spots_more u ≡ spot_of spots u
          spot_other u first e =
              let other : u - 1 ≢ i = λ at. eqb-false (i + 1) u e (omega arith) in
              get_or-set_other spots i (u - 1) (Some spot) None other

          places : (u : ℕ) → placed (new ++ trial_rows trial) u ≡ placed new u || eqb (i + 1) u
          places u =
              any_append (books_task u) new (trial_rows trial)
              ∙ ap (λ x. placed new u || x) (choice_places s ground j new (i + 1) trial is_choice u)

          -- another task with a spot is one that was placed before
          was_placed : (u : ℕ) (there : Spot) → Between 1 most_tasks u → spot_of spots u ≡ Some there → placed new u ≡ true
          was_placed u there on old = p.stands.placed_is u on ∙ ap is_some old

          row_before : (u : ℕ) → placed new u ≡ true → task_row (new ++ trial_rows trial) u ≡ task_row new u
          row_before u old = first_append no_row (books_task u) new (trial_rows trial) old

          own_stands : (u : ℕ) → eqb (i + 1) u ≡ true → (there : Spot) → spot_of spots_more u ≡ Some there → there ≡ spot
          own_stands u e there is = let here = spot_here u e in cc

          stands_more : StandsFor (new ++ trial_rows trial) spots_more
          stands_more = record {
            placed_is =
                λ u on.
                by_test
                (eqb (i + 1) u)
                (λ e. places u ∙ or_right (placed new u) (eqb (i + 1) u) e ∙ sym (ap is_some (spot_here u e)))
                (λ e.
                places u
                ∙ rw e (or_none (placed new u))
                ∙ p.stands.placed_is u on
                ∙ sym (ap is_some (spot_other u on.first e)));
            machine_is =
                λ u there on is.
                by_test
                (eqb (i + 1) u)
                (λ e. rw (← eqb-true (i + 1) u e) (own_machine ∙ sym (ap (λ x. x.machine) (own_stands u e there is))))
                (λ e.
                let old = sym (spot_other u on.first e) ∙ is in
                rw (row_before u (was_placed u there on old)) (p.stands.machine_is u there on old));
            finish_is =
                λ u there on is.
                by_test
                (eqb (i + 1) u)
                (λ e.
                rw (← eqb-true (i + 1) u e, own_row) (sym it.finish_is ∙ sym (ap (λ x. x.finish) (own_stands u e there is))))
                (λ e.
                let old = sym (spot_other u on.first e) ∙ is in
                rw (row_before u (was_placed u there on old)) (p.stands.finish_is u there on old));
          }

          pub so_far_more :
              {line' : Spans} {own' : List Entry} → AppendedIs s kept starts inputs its_turn line own line' own' →
              SoFar spots_more line' own' (cost + kept.best.cost) next_release (suc turns)
          so_far_more appended =
              let again : i + 1 - 1 ≡ i = omega arith in
              record {
                new = new ++ trial_rows trial;
                spots_long = length-set spots i (Some spot) ∙ p.spots_long;
                count_at_most = all_fit;
                cost_is =
                    let was = p.cost_is in
                    let spent = it.cost_is in
                    let sum = sum_append (λ row. row.cost) new (trial_rows trial) in
                    omega arith;
                line_is = appended.line_is j base rows new keeping;
                own_is = appended.own_is j base rows new keeping;
                stands = stands_more;
                in_bounds = in_bounds_more;
                apart = apart_more;
                floor =
                    rw
                    release_is
                    (subst
                    (λ k. Released j base (set spots k (Some spot)) (release + (task_of j (i + 1)).dispatch) (suc turns))
                    again
                    (rw (add-one turns) at (released_more p.floor turn_of spot p.spots_long)));
                rest =
                    let left_now : j.taskcount - turns ≡ suc (j.taskcount - suc turns) = omega arith in
                    p.rest
                    ∙ ap (λ k. place_from s ground j k new) left_now
                    ∙ turn_books new (j.taskcount - suc turns) (i + 1) trial is_next is_choice;
              }

    -- The ways that the turns end, with the count of the rows that are there.
    module _ {count : ℕ} (count_is : count ≡ length own) where
      -- with all rows
      abbrev admission : Result Admission Late
      admission = Ok (record { cost = cost; rows = count })

      admitted : place s ground j ≡ booked new → Placed s base rows j line own admission
      admitted is = record {
        new = new;
        is = sym is;
        admission_is = λ a e.
            let same : a ≡ record { cost = cost; rows = count } = cc in
            rw same (count_is ∙ p.own_is.long, p.cost_is);
        before_is = λ l e. absurd (cc);
        few = p.count_at_most;
        in_range = p.in_bounds.in_range;
        line_is = p.line_is;
        own_is = p.own_is;
      }

      pub turn_none : next_task j new ≡ none → turns < j.taskcount → Placed s base rows j line own admission
      turn_none e h =
          let left : j.taskcount - turns ≡ suc (j.taskcount - suc turns) = omega arith in
          admitted (p.rest ∙ ap (λ k. place_from s ground j k new) left ∙ turn_over new (j.taskcount - suc turns) e)

      pub all_turns : j.taskcount ≤ turns → Placed s base rows j line own admission
      unfolding place_from
      all_turns h =
          let left : j.taskcount - turns ≡ 0 = omega arith in
          admitted (p.rest ∙ ap (λ k. place_from s ground j k new) left)

      -- at a task without a good trial
      pub turn_late :
          (t : ℕ) → next_task j new ≡ some t → choice s ground j new t ≡ none → turns < j.taskcount →
          Placed s base rows j line own (Err (record { task = t; before = record { cost = cost; rows = count } }))
      turn_late t e c h =
          let left : j.taskcount - turns ≡ suc (j.taskcount - suc turns) = omega arith in
          record {
            new = new;
            is = sym (p.rest ∙ ap (λ k. place_from s ground j k new) left ∙ turn_misses new (j.taskcount - suc turns) t e c);
            admission_is = λ a e. absurd (cc);
            before_is = λ l e.
                let same : l ≡ record { task = t; before = record { cost = cost; rows = count } } = cc in
                rw same (count_is ∙ p.own_is.long, p.cost_is);
            few = p.count_at_most;
            in_range = p.in_bounds.in_range;
            line_is = p.line_is;
            own_is = p.own_is;
          }

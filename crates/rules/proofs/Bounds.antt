-- Every step keeps the bounds: clock and rows in range, no more rows than the limit, no shared tick, and the total the sum of their costs.
use mathlib.Core.Path.{◌≡◌, refl, ap, ◌∙◌}
use mathlib.Core.Logic.{⊎_elim}
use mathlib.Core.Bool.{Bool, true, false, not}
use mathlib.Core.List.{List, [], ◌∷◌, ◌++◌, append-nil}
use mathlib.Core.List.Memᴰ
use mathlib.Core.List.{Memᴰ}
use Prim.Native.Nat.{ℕ, ◌+◌, ◌≤◌, ◌<◌}
use native.Mathlib.Nat.{mul-le-mul, one-le-mul}
use native.Mathlib.Omega.{arith}
use lib.Dec.{ltb, eqb}
use lib.ListN.{length, length-append}
use borrow.Author.Tests.{ltb-true, ltb-false, eqb-false, not-true}
use Rattle.rules.specs.declared.Holder.{Holder}
use Rattle.rules.specs.declared.Row.{Row}
use Rattle.rules.specs.declared.Message.{Message}
use Rattle.rules.specs.declared.Job.{Job}
use Rattle.rules.specs.declared.Setup.{Setup}
use Rattle.rules.specs.Sequences.{any_of, keep}
use Rattle.rules.specs.Words.{largest_number, most_tasks, largest_time, horizon, row_limit, link_time, messages_of, task_of, run_time}
use Rattle.rules.specs.Words.{task_numbers, with_clock, State, with_calendar, view, fresh, of_job}
use Rattle.rules.specs.Placing.{task_booking, message_booking, transfer, books_task, books_message, no_row, task_row, message_row, machine_of}
use Rattle.rules.specs.Placing.{machine_for}
use Rattle.rules.specs.Placing.{placed, crosses, arrival, ready, trial_rows, try, costs, booked, place}
use Rattle.rules.specs.Withdrawing.{admit, remove, withdraw, advance}
use Rattle.rules.specs.Refusals.{outside, task_out_of_range, out_of_range, placing, advance_tests, submit_answer, withdraw_answer, advance_answer}
use Rattle.rules.specs.Refusals.{Call, submits, withdraws, advances, settle, step, after}
use Rattle.rules.specs.Laws.{IsTask, IsNext, IsKept}
use Rattle.rules.specs.Bounds.{Sound, Between, Listed, task, message, RowInRange, Bounded}
use Rattle.rules.specs.Demands.{InRange, between, Owed, to_task, to_message}
use Rattle.rules.specs.Placing.{Ground}
use Rattle.rules.specs.Refusals.{ground_of}
use Rattle.rules.proofs.Sequences.{by_test, clash, or_false, and_true, any_mem, any_none, all_mem, mem_keep, length_keep, count_some, first_mem}
use Rattle.rules.proofs.Sequences.{once_first}
use Rattle.rules.proofs.Sequences.{sum_append, sum_split, numbers_mem}
use Rattle.rules.proofs.Choice.{task_mem}
use Rattle.rules.proofs.Steps.{settle_keeps, after_keeps}
use Rattle.rules.proofs.Turns.{place_keeps}
use Rattle.rules.proofs.Inputs.{booked_only, Shape, try_shape}
use Rattle.rules.proofs.Apart.{AllApart, placing_apart, apart_keep, apart_shares_none, shares_none_apart}
use Rattle.rules.proofs.Due.{TaskFacts, MessageFacts, Progress, progress_none}
use Rattle.rules.proofs.Demand1.{demand_1}
use Rattle.rules.proofs.Order.{in_between, in_range_count, in_range_ends, in_range_differing, in_range_volume}
use Rattle.rules.proofs.Differ.{turn_due}
use Rattle.rules.proofs.Admitted.{refuse_none, none_refuses, admitted}

-- the machine of a task, or the sending one of a message
pub listed_machine : {s : Setup} {h : Holder} → Listed s h → Between 1 s.table.machines (machine_of h)
unfolding machine_of
listed_machine (task m t) = m
listed_machine (message a b x y links tasks) = a

-- The figures of a job in range.
module _ (s : Setup) (j : Job) (range : InRange s j) where
  number_in_range : Between 1 largest_number j.number
  number_in_range = let r = in_between 1 largest_number j.number range.number in record { first = r.0; last = r.1 }

  pub listed_in_range : {t : ℕ} → IsTask j t → Between 1 most_tasks t
  listed_in_range is = let count = in_range_count s j range in record { first = is.first; last = omega arith }

  -- the scheduling time is within the largest, and no task has a figure out of range
  job_figures : (ltb largest_time j.scheduling ≡ false) × (any_of (task_out_of_range s j) (task_numbers j) ≡ false)
  unfolding out_of_range
  job_figures = or_false (ltb largest_time j.scheduling) _ range.figures

  pub scheduling_figure : j.scheduling ≤ largest_time
  scheduling_figure = ltb-false largest_time j.scheduling job_figures.0

  -- a task's deadline is within the horizon, its dispatch time and its run time on each machine within the largest
  pub record TaskFigures (t : ℕ) : Type 0 where
    pub deadline : (task_of j t).deadline ≤ horizon
    pub dispatch : (task_of j t).dispatch ≤ largest_time
    pub runs : (m : ℕ) → Between 1 s.table.machines m → run_time j t m ≤ largest_time

  pub task_figures : {t : ℕ} → IsTask j t → TaskFigures t
  unfolding task_out_of_range
  task_figures {t} is =
      let figures = any_none (task_out_of_range s j) job_figures.1 (task_mem j t is) in
      let deadline = or_false (outside 1 horizon (task_of j t).deadline) _ figures in
      let times = or_false (ltb largest_time (task_of j t).dispatch) _ deadline.1 in
      record {
        deadline = (in_between 1 horizon (task_of j t).deadline deadline.0).1;
        dispatch = ltb-false largest_time (task_of j t).dispatch times.0;
        runs =
            λ m on.
            ltb-false
            largest_time
            (run_time j t m)
            (any_none (λ m. ltb largest_time (run_time j t m)) times.1 (numbers_mem 1 s.table.machines m on.first (omega arith)));
      }

  -- every row that is due ends by the horizon: a task's by its deadline, a message's by its receiver's start
  ends_in_range : {rows : List Row} → Progress s j rows → (row : Row) → Memᴰ row rows → row.finish ≤ horizon
  unfolding arrival
  ends_in_range {rows} prog row n = ends (prog.owed row n [])
    where
      task_ends : (t : ℕ) → placed rows t ≡ true → ((task_row rows t).start ≤ (task_row rows t).finish) × ((task_row rows t).finish ≤ horizon)
      task_ends t p =
          let facts : TaskFacts s j rows t = rw (append-nil rows) at (prog.task_facts t p []) in
          let due = facts.due in
          let by = facts.in_time in
          let deadline = (task_figures facts.is_task).deadline in
          (omega arith, omega arith)

      ends : Owed j (rows ++ []) row → row.finish ≤ horizon
      ends (to_task t is h) =
          let there = any_mem (books_task t) n h in
          let most = prog.task_once t in
          let least = count_some (books_task t) rows there in
          let same : task_row rows t ≡ row = once_first no_row (books_task t) (omega arith) n h in
          rw (← same) (task_ends t there).1
      ends (to_message msg q c h) =
          let there : placed rows msg.receiver ≡ true
          = by_test (placed rows msg.receiver) (λ p. p) (λ p. clash (any_mem (books_message msg) n h) (prog.message_ahead msg p)) in
          let same : message_row rows msg ≡ row = once_first no_row (books_message msg) (prog.message_once msg q there [] c) n h in
          let crossed : between rows msg ≡ true = rw (append-nil rows) at c in
          let facts : MessageFacts s j rows msg = rw (append-nil rows) at (prog.message_facts msg q there []) in
          let arrived : (message_row rows msg).finish ≤ (task_row rows msg.receiver).start = rw crossed at facts.arrived in
          let by = task_ends msg.receiver there in
          rw (← same) (omega arith)

  -- The two kinds of row, and those that placing books.
  module _ (sound : Sound s) where
    task_in_range :
        (t m start : ℕ) → IsTask j t → Between 1 s.table.machines m → 0 < run_time j t m → start + run_time j t m ≤ horizon →
        RowInRange s (task_booking s j t m start)
    task_in_range t m start is on able ends = record {
      holder = task on (listed_in_range is);
      job = number_in_range;
      lasts = omega arith;
      ends = ends;
      cost = mul-le-mul (sound.rates m) ((task_figures is).runs m on);
    }

    message_in_range :
        (msg : Message) (a b start : ℕ) → Memᴰ msg (messages_of j) → Between 1 s.table.machines a → Between 1 s.table.machines b →
        crosses msg a b ≡ true → start + transfer s msg a b ≤ horizon → RowInRange s (message_booking s j msg a b start)
    message_in_range msg a b start n from to c ends =
        let both = and_true (not (eqb a b)) (ltb 0 msg.volume) c in
        let apart = eqb-false a b (not-true (eqb a b) both.0) in
        let takes : 1 ≤ link_time s a b = sound.takes_time a b from.first from.last to.first to.last apart in
        let time : 1 ≤ transfer s msg a b = one-le-mul takes (ltb-true 0 msg.volume both.1) in
        let tasks = in_range_ends s j range msg n in
        record {
          holder = message from to (listed_in_range tasks.0) (listed_in_range tasks.1) apart (in_range_differing s j range msg n);
          job = number_in_range;
          lasts = omega arith;
          ends = ends;
          cost = mul-le-mul (sound.fails a b) (mul-le-mul (sound.times a b) (in_range_volume s j range msg n));
        }

    -- the rows booked are due and in range
    pub record InBounds (new : List Row) : Type 0 where
      pub is_due : Progress s j new
      pub in_range : (row : Row) → Memᴰ row new → RowInRange s row

    module _ (g : Ground) where
      pub turn_in_bounds :
          (new : List Row) (t m : ℕ) → IsNext j new t → IsKept s g j new t m → InBounds new →
          InBounds (new ++ trial_rows (try s g j new t m))
      unfolding ready
      turn_in_bounds new t m next kept before = record {
        is_due = is_due;
        in_range =
            λ row n.
            let ends = ends_in_range is_due row n in
            ⊎_elim
            (before.in_range row)
            (λ h. ⊎_elim (input row ends) (own row ends) (Memᴰ.append_cases (try s g j new t m).inputs h))
            (Memᴰ.append_cases new n);
      }
        where
          shape : Shape s g j new t m (try s g j new t m)
          shape = try_shape s g j new t m

          is_due : Progress s j (new ++ trial_rows (try s g j new t m))
          is_due = turn_due s g j range new t m next kept before.is_due

          on : Between 1 s.table.machines m
          on = record { first = kept.is_good.is_machine.first; last = kept.is_good.is_machine.last }

          input : (row : Row) → row.finish ≤ horizon → Memᴰ row (try s g j new t m).inputs → RowInRange s row
          input row ends n =
              let r = booked_only s j new m shape.inputs row n in
              let msg = r.0 in
              let placed_sender = all_mem (λ msg. placed new msg.sender) (and_true (not (placed new t)) _ next.is_ready).1 r.1 in
              let sender = before.in_range (task_row new msg.sender) (first_mem no_row (books_task msg.sender) new placed_sender) in
              let listed = (mem_keep (λ msg. eqb msg.receiver t) (messages_of j) r.1).0 in
              rw r.4 (message_in_range msg (machine_for new msg.sender) m r.3 listed (listed_machine sender.holder) on r.2 (rw r.4 at ends))

          own : (row : Row) → row.finish ≤ horizon → Memᴰ row ((try s g j new t m).own ∷ []) → RowInRange s row
          own row ends n =
              let same : row ≡ task_booking s j t m (try s g j new t m).own.start = Memᴰ.eq_of_singleton n ∙ shape.own in
              rw same (task_in_range t m _ next.is_task on kept.is_good.able (rw same at ends))

      placing_in_range : {rows : List Row} → place s g j ≡ booked rows → (row : Row) → Memᴰ row rows → RowInRange s row
      placing_in_range e =
          (place_keeps s g j InBounds turn_in_bounds
          (record { is_due = progress_none s j; in_range = λ row n. absurd (Memᴰ.not-nil n) })
          e
          ).in_range

-- The steps.

-- a clock move that is not refused stays within the horizon
pub advanced_in_range : (s : Setup) (st : State) (tick : ℕ) → (step s st (advances tick)).answer.number ≡ 0 → tick ≤ horizon
unfolding advance_tests
advanced_in_range s st tick e =
    ltb-false horizon tick (refuse_none (ltb horizon tick) (none_refuses ((demand_1 s st (advances tick)).answered.passed.0 e) 12))

module _ (s : Setup) where
  pub bounded_fresh : Bounded s fresh
  bounded_fresh = record {
    clock = omega arith;
    count = omega arith;
    rows = λ row n. absurd (Memᴰ.not-nil n);
    apart = λ i k below within. absurd (omega arith);
    total = refl;
  }

  bounded_remove : (leaves : Row → Bool) (st : State) → Bounded s st → Bounded s (remove leaves st)
  unfolding remove
  bounded_remove leaves st b =
      let fewer = length_keep (λ row. not (leaves row)) st.rows in
      let split = sum_split (λ row. row.cost) leaves st.rows in
      let count = b.count in
      let total = b.total in
      record {
        clock = b.clock;
        count = omega arith;
        rows = λ row n. b.rows row (mem_keep (λ row. not (leaves row)) st.rows n).0;
        apart =
            apart_shares_none
            (keep (λ row. not (leaves row)) st.rows)
            (apart_keep (λ row. not (leaves row)) st.rows (shares_none_apart st.rows b.apart));
        total = omega arith;
      }

  bounded_admit :
      (st : State) (new : List Row) → length st.rows + length new ≤ row_limit → ((row : Row) → Memᴰ row new → RowInRange s row) →
      AllApart (st.rows ++ new) → Bounded s st → Bounded s (admit st new)
  unfolding admit
  bounded_admit st new room in_range apart b = record {
    clock = b.clock;
    count = rw (length-append st.rows new) room;
    rows = λ row n. ⊎_elim (b.rows row) (in_range row) (Memᴰ.append_cases st.rows n);
    apart = apart_shares_none (st.rows ++ new) apart;
    total = rw (sum_append (λ row. row.cost) st.rows new) (ap (λ x. x + costs new) b.total);
  }

  module _ (sound : Sound s) where
    pub bounded_step : (st : State) (c : Call) → Bounded s st → Bounded s (step s st c).left
    unfolding step settle placing withdraw advance
    bounded_step st (submits j) b =
        settle_keeps (Bounded s) (submit_answer s (view st) j) b λ e.
        let a = admitted s (view st) j e in
        bounded_admit
        st
        _
        a.fits
        (placing_in_range s j a.in_range sound (ground_of (view st) j) a.rows_found)
        (placing_apart s (view st) j (shares_none_apart st.rows b.apart))
        b
    bounded_step st (withdraws n) b = settle_keeps (Bounded s) (withdraw_answer (view st) n) b (λ e. bounded_remove (of_job n) st b)
    bounded_step st (advances tick) b =
        settle_keeps (Bounded s) (advance_answer (view st) tick) b λ e.
        bounded_remove _ (with_calendar (with_clock tick st.calendar) st)
        (record { clock = advanced_in_range s st tick e; count = b.count; rows = b.rows; apart = b.apart; total = b.total })

    pub bounded_after : (calls : List Call) → Bounded s (after (step s) fresh calls)
    bounded_after calls = after_keeps (Bounded s) (step s) bounded_step calls fresh bounded_fresh

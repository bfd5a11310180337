-- The rows of the trial that is kept, behind those of a job, row by row: the timeline with those so far, and their entries.
use mathlib.Core.Path.{◌≡◌, refl, sym, ap, ◌∙◌, subst}
use mathlib.Core.Logic.{⊎_elim}
use mathlib.Core.Bool.{true}
use mathlib.Core.List.{List, [], ◌∷◌, ◌++◌, append-nil, append_assoc}
use mathlib.Core.List.Memᴰ
use mathlib.Core.List.{Memᴰ}
use Prim.Native.Nat.{ℕ, zero, suc, ◌+◌, ◌-◌, ◌≤◌, ◌<◌}
use native.Mathlib.Omega.{arith}
use lib.Dec.{eqb}
use lib.ListN.{length, get_or, length-append, length-map}
use borrow.Author.Tests.{eqb-true}
use Rattle.std.proofs.lemmas.List.{get_or-map}
use Rattle.rules.specs.declared.Row.{Row}
use Rattle.rules.specs.declared.Message.{Message}
use Rattle.rules.specs.declared.Job.{Job}
use Rattle.rules.specs.declared.Setup.{Setup}
use Rattle.rules.specs.Words.{hold_of, holds, most_tasks, messages_of, no_message, run_time}
use Rattle.rules.specs.Placing.{on_rows, task_booking, message_booking, machine_for, into, trial_rows, try}
use Rattle.rules.specs.Bounds.{RowInRange}
use Rattle.rules.proofs.Sequences.{by_less, get_or_mem, mem_keep, mem_map}
use Rattle.rules.proofs.Pairs.{pairwise_front, pairwise_across}
use Rattle.rules.proofs.Resources.{holds_append}
use Rattle.rules.proofs.Apart.{Apart, AllApart, shares_none_apart, apart_shares_none}
use Rattle.rules.proofs.Inputs.{try_shape}
use Rattle.rules.proofs.Order.{in_range_ends, in_range_volume}
use Rattle.rules.proofs.Bounds.{listed_in_range, task_figures}
use Rattle.std.proofs.Common.{Option, Some, None}
use Rattle.timeline.proofs.Drawing.{in_range_drawable}
use Rattle.timeline.specs.Timeline.{Drawable}
use Rattle.timeline.specs.Lines.{LineOf}
use Rattle.timeline.specs.RowLine.{most_own}
use Rattle.timeline.specs.Spans.{Spans}
use Rattle.timeline.specs.Grown.{Untaken}
use Rattle.timeline.specs.Bookings.{booking_of}
use Rattle.timeline.specs.declared.bookings.Booking.{Booking}
use Rattle.drcd.specs.declared.TaskTurn.{TaskTurn}
use Rattle.drcd.specs.declared.inputs.Input.{Input}
use Rattle.drcd.specs.declared.choice.Kept.{Kept}
use Rattle.placement.specs.declared.own.Entry.{Entry}
use Rattle.drcd.specs.Inputs.{input_of}
use Rattle.drcd.specs.Trials.{message_row_at, rows_upto}
use Rattle.placement.specs.Own.{OwnRows}
use Rattle.placement.specs.Bookings.{AskTaskBooking, TaskBookingIs, AskMessageBooking, MessageBookingIs}
use Rattle.placement.specs.Appending.{Pushable, AskPush, Pushed, Keeping, AskAppend, AppendedIs}

-- The rows of a trial: those of the first messages, the row of the next, and the rest.

module _ (s : Setup) (j : Job) (new : List Row) (m : ℕ) (msgs : List Message) (starts : List (Option ℕ)) where
  upto_more : (i n : ℕ) → i ≤ n → (rest : List Row) × (rows_upto s j new m msgs starts n ≡ rows_upto s j new m msgs starts i ++ rest)
  unfolding rows_upto
  upto_more i zero h = let same : i ≡ 0 = omega arith in ([], rw same refl)
  upto_more i (suc n) h =
      by_less
      i
      (suc n)
      (λ less.
      let below = upto_more i n (omega arith) in (
        below.0 ++ message_row_at s j new m msgs starts n,
        ap (λ l. l ++ message_row_at s j new m msgs starts n) below.1 ∙ append_assoc (rows_upto s j new m msgs starts i) below.0 (message_row_at s j new m msgs starts n),
      ))
      (λ most. let same : i ≡ suc n = omega arith in ([], rw same (sym (append-nil (rows_upto s j new m msgs starts (suc n))))))

-- the next row of a list of which some are done
pub record Next (all done : List Row) (row : Row) : Type 0 where
  pub rest : List Row
  pub splits : all ≡ done ++ (row ∷ rest)

-- the input at an index
abbrev pub nth_input : List Input → ℕ → Input
nth_input inputs i = get_or inputs i (record { sender = 0; source = 0; done = 0; volume = 0 })

-- with some of a trial's rows appended
pub record Behind (rows new done : List Row) (line : Spans) (own : List Entry) : Type 0 where
  pub line_is : LineOf (rows ++ (new ++ done)) line
  pub own_is : OwnRows rows (new ++ done) own

module _
    {s : Setup} {j : Job} {base : ℕ} {rows new : List Row} {kept : Kept} {starts : List (Option ℕ)} {inputs : List Input} {turn : TaskTurn} {line₀ : Spans} {own₀ : List Entry}
    (k : Keeping s j base rows new kept starts inputs turn line₀ own₀) where
  -- the trial's rows: those of its messages, and the task's own
  abbrev all_rows : List Row
  all_rows = trial_rows (try s (on_rows base rows) j new (turn.t + 1) kept.machine)

  abbrev own_row : Row
  own_row = (try s (on_rows base rows) j new (turn.t + 1) kept.machine).own

  -- those of its first so many messages
  abbrev pub first_rows : ℕ → List Row
  first_rows i = rows_upto s j new kept.machine (into j (turn.t + 1)) starts i

  -- a message, and its row
  abbrev message_at : ℕ → Message
  message_at i = get_or (into j (turn.t + 1)) i no_message

  abbrev booking_at : (i start : ℕ) → Row
  booking_at i start = message_booking s j (message_at i) (machine_for new (message_at i).sender) kept.machine start

  inputs_long : length inputs ≡ length (into j (turn.t + 1))
  inputs_long = ap length k.scene.inputs_are ∙ length-map (into j (turn.t + 1)) (input_of new)

  own_last : all_rows ≡ first_rows (length inputs) ++ (own_row ∷ [])
  own_last = rw (k.trial.inputs_are, ← inputs_long) refl

  module _ {i : ℕ} (below : i < length inputs) where
    message_listed : Memᴰ (message_at i) (into j (turn.t + 1))
    message_listed = get_or_mem (into j (turn.t + 1)) i no_message (omega (arith, inputs_long))

    message_into : Memᴰ (message_at i) (messages_of j) × (eqb (message_at i).receiver (turn.t + 1) ≡ true)
    message_into = mem_keep (λ msg. eqb msg.receiver (turn.t + 1)) (messages_of j) message_listed

    module _ {input : Input} (is : input ≡ nth_input inputs i) where
      input_is : input ≡ input_of new (message_at i)
      input_is =
          is
          ∙ ap (λ l. nth_input l i) k.scene.inputs_are
          ∙ get_or-map (input_of new) (into j (turn.t + 1)) i no_message _ (omega (arith, inputs_long))

      message_is :
          (start : ℕ) {booking : Booking} → MessageBookingIs s (turn.t + 1) kept.machine input start booking → booking ≡ booking_of (booking_at i start)
      message_is start made =
          made j new (message_at i) (eqb-true (message_at i).receiver (turn.t + 1) message_into.1) input_is

    -- the rows of the first messages, with one message more
    same_rows : get_or starts i None ≡ None → first_rows (suc i) ≡ first_rows i
    unfolding rows_upto
    same_rows none = rw none (append-nil (first_rows i))

    module _ {start : ℕ} (goes : get_or starts i None ≡ Some start) where
      more_rows : first_rows (suc i) ≡ first_rows i ++ (booking_at i start ∷ [])
      unfolding rows_upto
      more_rows = rw goes refl

      next_message : Next all_rows (first_rows i) (booking_at i start)
      next_message =
          let more = upto_more s j new kept.machine (into j (turn.t + 1)) starts (suc i) (length inputs) below in
          record {
            rest = more.0 ++ (own_row ∷ []);
            splits = own_last ∙ ap (λ l. l ++ (own_row ∷ [])) (more.1 ∙ ap (λ l. l ++ more.0) more_rows) ∙ simp append_assoc;
          }

  -- the task's own row
  own_booked : own_row ≡ task_booking s j (turn.t + 1) kept.machine kept.best.start
  own_booked =
      (try_shape s (on_rows base rows) j new (turn.t + 1) kept.machine).own
      ∙ ap (task_booking s j (turn.t + 1) kept.machine) (sym k.trial.start_is)

  own_runs : kept.best.finish ≡ kept.best.start + run_time j (turn.t + 1) kept.machine
  own_runs = k.trial.finish_is ∙ ap (λ row. row.finish) own_booked

  own_is :
      {booking : Booking} → TaskBookingIs s (turn.t + 1) kept.machine kept.best.start (kept.best.finish - kept.best.start) booking →
      booking ≡ booking_of own_row
  own_is made = made j (omega (arith, own_runs)) ∙ ap booking_of (sym own_booked)

  -- a row of those held, and of the job so far
  old_drawable : (row : Row) → Memᴰ row (rows ++ new) → Drawable (hold_of row)
  old_drawable row n = k.scene.drawn.drawable (hold_of row) (rw (holds_append rows new) at (mem_map hold_of n))

  -- a row that is next, with those before it
  module _ {done : List Row} {row : Row} (next : Next all_rows done row) where
    abbrev before : List Row
    before = rows ++ (new ++ done)

    next_in_range : RowInRange s row
    next_in_range = k.in_range row (subst (Memᴰ row) (sym next.splits) (Memᴰ.append_right done (Memᴰ.head refl)))

    next_fits : length new + length done < most_own
    next_fits =
        let fits : length new + length (done ++ (row ∷ next.rest)) ≤ most_own = rw next.splits at k.fits in
        omega (arith, length-append done (row ∷ next.rest))

    done_drawable : (r : Row) → Memᴰ r done → Drawable (hold_of r)
    done_drawable r n =
        in_range_drawable k.scene.sound (k.in_range r (subst (Memᴰ r) (sym next.splits) (Memᴰ.append_left (row ∷ next.rest) n)))

    before_drawable : (r : Row) → Memᴰ r before → Drawable (hold_of r)
    before_drawable r n =
        ⊎_elim
        (old_drawable r)
        (done_drawable r)
        (Memᴰ.append_cases (rows ++ new) (subst (Memᴰ r) (sym (append_assoc rows new done)) n))

    all_apart : AllApart (before ++ (row ∷ next.rest))
    all_apart =
        let regroup : rows ++ (new ++ all_rows) ≡ before ++ (row ∷ next.rest) = rw next.splits (simp append_assoc) in
        subst AllApart regroup (shares_none_apart (rows ++ (new ++ all_rows)) k.apart)

    before_apart : AllApart before
    before_apart = pairwise_front Apart (holds before) (holds (row ∷ next.rest)) (rw (holds_append before (row ∷ next.rest)) at all_apart)

    untaken : Untaken (holds before) (hold_of row)
    untaken x low high taken =
        pairwise_across
        Apart
        (holds before)
        (holds (row ∷ next.rest))
        (rw (holds_append before (row ∷ next.rest)) at all_apart)
        taken.hold
        (hold_of row)
        taken.listed
        (Memᴰ.head refl)
        taken.on
        x
        taken.within
        (low, high)

    module _ {line : Spans} {own : List Entry} (so_far : Behind rows new done line own) where
      pushable : Pushable rows (new ++ done) line own
      pushable = record {
        held_few = k.held_few;
        room = omega (arith, length-append new done, next_fits);
        drawable = before_drawable;
        apart = apart_shares_none before before_apart;
        line_is = so_far.line_is;
        own_is = so_far.own_is;
      }

      behind_more :
          {booking : Booking} {line' : Spans} {own' : List Entry} → Pushed line own booking line' own' → booking ≡ booking_of row →
          Behind rows new (done ++ (row ∷ [])) line' own'
      behind_more pushed is =
          let takes = in_range_drawable k.scene.sound next_in_range in
          record {
            line_is = rw (← append_assoc new done (row ∷ [])) (pushed.line_is rows (new ++ done) row pushable takes untaken is);
            own_is = rw (← append_assoc new done (row ∷ [])) (pushed.own_is rows (new ++ done) row pushable takes untaken is);
          }

-- The loop: the rows of the first i messages follow those of the job.
pub record Appending
    (s : Setup) (kept : Kept) (starts : List (Option ℕ)) (inputs : List Input) (turn : TaskTurn) (line₀ : Spans) (own₀ : List Entry)
    (line : Spans) (own : List Entry) (i : ℕ) : Type 0 where
  pub follows :
      (j : Job) (base : ℕ) (rows new : List Row) (k : Keeping s j base rows new kept starts inputs turn line₀ own₀) → Behind rows new (first_rows k i) line own

module _
    {s : Setup} {kept : Kept} {starts : List (Option ℕ)} {inputs : List Input} {turn : TaskTurn} {line₀ : Spans} {own₀ : List Entry}
    (ask : AskAppend s kept starts inputs turn line₀ own₀) where
  pub appending_none : Appending s kept starts inputs turn line₀ own₀ line₀ own₀ 0
  unfolding rows_upto
  appending_none = record {
    follows = λ j base rows new k. record { line_is = rw (append-nil new) k.line_is; own_is = rw (append-nil new) k.own_is };
  }

  pub task_at_most : turn.t + 1 ≤ most_tasks
  task_at_most = (listed_in_range s ask.job ask.keeping.scene.range ask.keeping.scene.listed).last

  -- what the task's own row asks
  pub own_lasts : kept.best.start ≤ kept.best.finish
  own_lasts = omega (arith, own_runs ask.keeping)

  pub own_asked : AskTaskBooking s (turn.t + 1) kept.machine kept.best.start (kept.best.finish - kept.best.start)
  own_asked =
      let k = ask.keeping in
      let most = (task_figures s ask.job k.scene.range k.scene.listed).runs kept.machine k.there in
      record {
        task_at_most = task_at_most;
        sound = k.scene.sound;
        there = k.there;
        start_at_most = ask.bounds.start_at_most;
        run_at_most = omega (arith, own_runs k);
      }

  module _ {line : Spans} {own : List Entry} {i : ℕ} (so_far : Appending s kept starts inputs turn line₀ own₀ line own i) where
    -- a row that is next
    push_asked : {row : Row} → Next (all_rows ask.keeping) (first_rows ask.keeping i) row → AskPush line own
    push_asked next = record {
      rows = ask.rows;
      new = ask.new ++ first_rows ask.keeping i;
      pushable = pushable ask.keeping next (so_far.follows ask.job ask.base ask.rows ask.new ask.keeping);
    }

    -- a turn with a message, of the inputs as they are lent
    module _ {lent : List Input} (same_inputs : lent ≡ inputs) (listed : i < length lent) where
      abbrev input : Input
      input = nth_input lent i

      is : input ≡ nth_input inputs i
      is = ap (λ l. nth_input l i) same_inputs

      below : i < length inputs
      below = rw same_inputs at listed

      -- that takes no row
      pub appending_same : get_or starts i None ≡ None → Appending s kept starts inputs turn line₀ own₀ line own (suc i)
      appending_same none = record { follows = λ j base rows new k. rw (same_rows k below none) (so_far.follows j base rows new k) }

      -- that takes one
      module _ {start : ℕ} (goes : get_or starts i None ≡ Some start) where
        pub message_asked : AskMessageBooking s (turn.t + 1) kept.machine input start
        message_asked =
            let k = ask.keeping in
            let same = input_is k below is in
            let range = next_in_range k (next_message k below goes) in
            let lasts = range.lasts in
            let ends = range.ends in
            let tasks = in_range_ends s ask.job k.scene.range (message_at k i) (message_into k below).0 in
            record {
              receiver_at_most = task_at_most;
              sender_at_most = rw same (listed_in_range s ask.job k.scene.range tasks.0).last;
              sound = k.scene.sound;
              source = rw same (k.scene.senders_on (message_at k i) (message_listed k below));
              there = k.there;
              volume = rw same (in_range_volume s ask.job k.scene.range (message_at k i) (message_into k below).0);
              start_at_most = omega arith;
            }

        pub message_push_asked : AskPush line own
        message_push_asked = push_asked (next_message ask.keeping below goes)

        pub appending_more :
            {booking : Booking} → MessageBookingIs s (turn.t + 1) kept.machine input start booking →
            {line' : Spans} {own' : List Entry} → Pushed line own booking line' own' → Appending s kept starts inputs turn line₀ own₀ line' own' (suc i)
        appending_more made pushed = record {
          follows =
              λ j base rows new k.
              rw
              (more_rows k below goes)
              (behind_more k (next_message k below goes) (so_far.follows j base rows new k) pushed (message_is k below is start made));
        }

    -- the task's own row, after the last message
    module _ {lent : List Input} (same_inputs : lent ≡ inputs) (within : i ≤ length lent) (end : length lent ≤ i) where
      last : i ≡ length inputs
      last = omega (arith, ap length same_inputs)

      all_last :
          {j : Job} {base : ℕ} {rows new : List Row} (k : Keeping s j base rows new kept starts inputs turn line₀ own₀) →
          all_rows k ≡ first_rows k i ++ (own_row k ∷ [])
      all_last k = rw last (own_last k)

      next_last :
          {j : Job} {base : ℕ} {rows new : List Row} (k : Keeping s j base rows new kept starts inputs turn line₀ own₀) →
          Next (all_rows k) (first_rows k i) (own_row k)
      next_last k = record { rest = []; splits = all_last k }

      pub own_push_asked : AskPush line own
      own_push_asked = push_asked (next_last ask.keeping)

      module _
          {booking : Booking} (made : TaskBookingIs s (turn.t + 1) kept.machine kept.best.start (kept.best.finish - kept.best.start) booking)
          {line' : Spans} {own' : List Entry} (pushed : Pushed line own booking line' own') where
        all_behind :
            {j : Job} {base : ℕ} {rows new : List Row} (k : Keeping s j base rows new kept starts inputs turn line₀ own₀) →
            Behind rows new (all_rows k) line' own'
        all_behind {j} {base} {rows} {new} k =
            subst
            (λ done. Behind rows new done line' own')
            (sym (all_last k))
            (behind_more k (next_last k) (so_far.follows j base rows new k) pushed (own_is k made))

        pub appended_all : AppendedIs s kept starts inputs turn line₀ own₀ line' own'
        appended_all = record {
          line_is = λ j base rows new k. (all_behind k).line_is;
          own_is = λ j base rows new k. (all_behind k).own_is;
        }

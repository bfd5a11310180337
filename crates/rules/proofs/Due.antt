-- The rows that are due: what placing has booked so far, whatever is booked after it.
use mathlib.Core.Path.{◌≡◌, refl, sym, ap, ◌∙◌, subst}
use mathlib.Core.Logic.{◌⊎◌, inl, inr, ⊎_elim}
use mathlib.Core.Bool.{Bool, true, false, not, ◌||◌}
use mathlib.Core.List.{List, [], ◌∷◌, ◌++◌, append_assoc}
use mathlib.Core.List.Memᴰ
use mathlib.Core.List.{Memᴰ}
use Prim.Native.Nat.{ℕ, ◌+◌, ◌≤◌, ◌<◌}
use native.Mathlib.Omega.{arith}
use lib.Dec.{eqb}
use borrow.Author.Tests.{eqb-true, eqb-false, eq-eqb, not-true}
use Rattle.rules.specs.declared.Holder.TheVariants.{MessageOn}
use Rattle.rules.specs.declared.Row.{Row}
use Rattle.rules.specs.declared.Message.{Message}
use Rattle.rules.specs.declared.Job.{Job}
use Rattle.rules.specs.declared.Setup.{Setup}
use Rattle.rules.specs.Sequences.{any_of, all_of, count_of}
use Rattle.rules.specs.Words.{messages_of, task_of, run_time}
use Rattle.rules.specs.Placing.{transfer, is_task, is_message, books_task, books_message, no_row}
use Rattle.rules.specs.Placing.{task_row, message_row, machine_of, machine_for, placed, crosses, arrival, into, ready, release, all_arrived, Trial}
use Rattle.rules.specs.Placing.{trial_rows}
use Rattle.rules.specs.Demands.{between, Owed, to_task, to_message}
use Rattle.rules.specs.Laws.{IsMachine, IsTask}
use Rattle.rules.specs.Placing.{Ground}
use Rattle.rules.proofs.Sequences.{by_test, clash, and_true, or_cases, any_append, or_right, or_false, all_mem, mem_keep, keep_mem, count_append}
use Rattle.rules.proofs.Sequences.{count_none, first_append, first_skip}
use Rattle.rules.proofs.Pairs.{Pairwise, pairwise_keep}
use Rattle.rules.proofs.Inputs.{Differ, same_pair_same, crossing, booking, booked_no_task, booked_only, booked_none, booked_found, Found, arrives_by}
use Rattle.rules.proofs.Inputs.{Shape, pair_books}

-- an arrival stays what it is while rows are added, once the sender is placed and the message's row, if it takes one, is there
pub arrival_stays :
    (rows ext : List Row) (msg : Message) (b : ℕ) → placed rows msg.sender ≡ true →
    (crosses msg (machine_for rows msg.sender) b ≡ true → any_of (books_message msg) rows ≡ true) →
    arrival (rows ++ ext) msg b ≡ arrival rows msg b
unfolding arrival
arrival_stays rows ext msg b p q =
    rw
    (first_append no_row (books_task msg.sender) rows ext p)
    (by_test
    (crosses msg (machine_for rows msg.sender) b)
    (λ h. rw h (ap (λ row. row.finish) (first_append no_row (books_message msg) rows ext (q h))))
    (λ h. rw h refl))

module _ (s : Setup) (j : Job) (rows : List Row) where
  -- of a placed task
  pub record TaskFacts (t : ℕ) : Type 0 where
    pub is_task : IsTask j t
    pub on_machine : IsMachine s (machine_for rows t)
    pub able : 0 < run_time j t (machine_for rows t)
    pub due : (task_row rows t).finish ≡ (task_row rows t).start + run_time j t (machine_for rows t)
    pub in_time : (task_row rows t).finish ≤ (task_of j t).deadline

  -- of a message into a placed task
  pub record MessageFacts (msg : Message) : Type 0 where
    pub its_link :
        between rows msg ≡ true →
        (message_row rows msg).holder
        ≡ MessageOn (machine_for rows msg.sender) (machine_for rows msg.receiver) msg.sender msg.receiver
    pub due :
        between rows msg ≡ true →
        (message_row rows msg).finish
        ≡ (message_row rows msg).start + transfer s msg (machine_for rows msg.sender) (machine_for rows msg.receiver)
    pub after_sender : between rows msg ≡ true → (task_row rows msg.sender).finish ≤ (message_row rows msg).start
    pub arrived : arrival rows msg (machine_for rows msg.receiver) ≤ (task_row rows msg.receiver).start

-- what holds of the rows booked so far, whatever rows follow
pub record Progress (s : Setup) (j : Job) (new : List Row) : Type 0 where
  pub task_once : (t : ℕ) → count_of (books_task t) new ≤ 1
  pub task_facts : (t : ℕ) → placed new t ≡ true → (ext : List Row) → TaskFacts s j (new ++ ext) t
  pub message_facts :
      (msg : Message) → Memᴰ msg (messages_of j) → placed new msg.receiver ≡ true → (ext : List Row) → MessageFacts s j (new ++ ext) msg
  pub message_once :
      (msg : Message) → Memᴰ msg (messages_of j) → placed new msg.receiver ≡ true → (ext : List Row) →
      between (new ++ ext) msg ≡ true → count_of (books_message msg) new ≡ 1
  pub message_absent :
      (msg : Message) → Memᴰ msg (messages_of j) → placed new msg.receiver ≡ true → (ext : List Row) →
      between (new ++ ext) msg ≡ false → any_of (books_message msg) new ≡ false
  -- no message has a row before its receiver has one
  pub message_ahead : (msg : Message) → placed new msg.receiver ≡ false → any_of (books_message msg) new ≡ false
  pub owed : (row : Row) → Memᴰ row new → (ext : List Row) → Owed j (new ++ ext) row

pub progress_none : (s : Setup) (j : Job) → Progress s j []
progress_none s j = record {
  task_once = λ t. omega arith;
  task_facts = λ t p. clash p refl;
  message_facts = λ msg n p. clash p refl;
  message_once = λ msg n p. clash p refl;
  message_absent = λ msg n p. clash p refl;
  message_ahead = λ msg p. refl;
  owed = λ row n. absurd (Memᴰ.not-nil n);
}

-- One turn: task t on machine m, by a trial of that shape.
module _
    (s : Setup)
    (g : Ground)
    (j : Job)
    (differ : Pairwise Differ (messages_of j))
    (new : List Row)
    (t m : ℕ)
    (trial : Trial)
    (shape : Shape s g j new t m trial)
    (listed : IsTask j t)
    (is_ready : ready j new t ≡ true)
    (is_machine : IsMachine s m)
    (able : 0 < run_time j t m)
    (in_time : trial.own.finish ≤ (task_of j t).deadline)
  where
    abbrev booked : List Row
    booked = new ++ trial_rows trial

    -- the rows in the end, with those of this turn apart
    regroup : (ext : List Row) → booked ++ ext ≡ new ++ (trial.inputs ++ (trial.own ∷ ext))
    regroup ext = append_assoc new (trial_rows trial) ext ∙ ap (λ l. new ++ l) (append_assoc trial.inputs (trial.own ∷ []) ext)

    unplaced : placed new t ≡ false
    unfolding ready
    unplaced =
        not-true (placed new t) (and_true (not (placed new t)) (all_of (λ msg. placed new msg.sender) (into j t)) is_ready).0

    senders : (msg : Message) → Memᴰ msg (into j t) → placed new msg.sender ≡ true
    unfolding ready
    senders msg n =
        all_mem
        (λ msg. placed new msg.sender)
        (and_true (not (placed new t)) (all_of (λ msg. placed new msg.sender) (into j t)) is_ready).1
        n

    into_listed : (msg : Message) → Memᴰ msg (into j t) → Memᴰ msg (messages_of j) × (msg.receiver ≡ t)
    into_listed msg n =
        let r = mem_keep (λ msg. eqb msg.receiver t) (messages_of j) n in (r.0, eqb-true msg.receiver t r.1)

    into_differ : Pairwise Differ (into j t)
    into_differ = pairwise_keep Differ (λ msg. eqb msg.receiver t) differ

    own_is : books_task t trial.own ≡ true
    unfolding is_task
    own_is = rw shape.own (eq-eqb t t refl)

    own_found : (ext : List Row) → task_row (booked ++ ext) t ≡ trial.own
    own_found ext =
        rw (
          regroup ext,
          first_skip no_row (books_task t) new (trial.inputs ++ (trial.own ∷ ext)) unplaced,
          first_skip no_row (books_task t) trial.inputs (trial.own ∷ ext) (booked_no_task s j new m shape.inputs t),
          own_is,
        )
        refl

    machine_own : (ext : List Row) → machine_for (booked ++ ext) t ≡ m
    unfolding machine_of
    machine_own ext = rw (own_found ext, shape.own) refl

    sender_found : (msg : Message) → Memᴰ msg (into j t) → (ext : List Row) → task_row (booked ++ ext) msg.sender ≡ task_row new msg.sender
    sender_found msg n ext = rw (regroup ext) (first_append no_row (books_task msg.sender) new (trial.inputs ++ (trial.own ∷ ext)) (senders msg n))

    receiver_found : (msg : Message) → Memᴰ msg (into j t) → (ext : List Row) → task_row (booked ++ ext) msg.receiver ≡ trial.own
    receiver_found msg n ext = ap (task_row (booked ++ ext)) (into_listed msg n).1 ∙ own_found ext

    receiver_machine : (msg : Message) → Memᴰ msg (into j t) → (ext : List Row) → machine_for (booked ++ ext) msg.receiver ≡ m
    receiver_machine msg n ext = ap (machine_for (booked ++ ext)) (into_listed msg n).1 ∙ machine_own ext

    crossing_same : (msg : Message) → Memᴰ msg (into j t) → (ext : List Row) → between (booked ++ ext) msg ≡ crossing s j new m msg
    crossing_same msg n ext = rw (sender_found msg n ext, receiver_machine msg n ext) refl

    ahead : Progress s j new → (msg : Message) → Memᴰ msg (into j t) → any_of (books_message msg) new ≡ false
    ahead prog msg n = prog.message_ahead msg (rw (into_listed msg n).1 unplaced)

    found_input : (msg : Message) → Memᴰ msg (into j t) → crossing s j new m msg ≡ true → Found s j new m trial.inputs msg
    found_input msg n c = booked_found s j new m shape.inputs into_differ msg n c

    message_found :
        Progress s j new → (msg : Message) (n : Memᴰ msg (into j t)) (c : crossing s j new m msg ≡ true) (ext : List Row) →
        message_row (booked ++ ext) msg ≡ booking s j new m msg (found_input msg n c).at
    message_found prog msg n c ext =
        rw (
          regroup ext,
          first_skip no_row (books_message msg) new (trial.inputs ++ (trial.own ∷ ext)) (ahead prog msg n),
          first_append no_row (books_message msg) trial.inputs (trial.own ∷ ext) (found_input msg n c).some_row,
        )
        (found_input msg n c).found

    arrives : (msg : Message) → Memᴰ msg (into j t) → (ext : List Row) → arrival (booked ++ ext) msg m ≤ trial.own.start
    arrives msg n ext =
        let so_far : List Row = new ++ trial.inputs in
        let sender_there : placed so_far msg.sender ≡ true = rw (any_append (books_task msg.sender) new trial.inputs, senders msg n) refl in
        let sender_same : task_row so_far msg.sender ≡ task_row new msg.sender
        = first_append no_row (books_task msg.sender) new trial.inputs (senders msg n) in
        let row_there : crosses msg (machine_for so_far msg.sender) m ≡ true → any_of (books_message msg) so_far ≡ true
        = λ h.
        let c : crossing s j new m msg ≡ true = rw sender_same at h in
        any_append (books_message msg) new trial.inputs ∙ or_right (any_of (books_message msg) new) (any_of (books_message msg) trial.inputs)
        (found_input msg n c).some_row in
        let stays : arrival (so_far ++ (trial.own ∷ ext)) msg m ≡ arrival so_far msg m
        = arrival_stays so_far (trial.own ∷ ext) msg m sender_there row_there in
        let split : booked ++ ext ≡ so_far ++ (trial.own ∷ ext) = regroup ext ∙ sym (append_assoc new trial.inputs (trial.own ∷ ext)) in
        let by : arrival so_far msg m ≤ all_arrived so_far m (release g j new t) (into j t)
        = arrives_by so_far m (release g j new t) n in
        let waited = shape.waits in
        rw (split, stays) (omega arith)

    own_facts : (ext : List Row) → TaskFacts s j (booked ++ ext) t
    own_facts ext = record {
      is_task = listed;
      on_machine = rw (machine_own ext) is_machine;
      able = rw (machine_own ext) able;
      due = rw (machine_own ext, own_found ext) (ap (λ row. row.finish) shape.own);
      in_time = rw (own_found ext) in_time;
    }

    -- the row of a message that crosses: its link, its length, and not before its sender's finish
    abbrev RowFacts : List Row → Message → Type 0
    RowFacts rows msg =
        ((message_row rows msg).holder
        ≡ MessageOn (machine_for rows msg.sender) (machine_for rows msg.receiver) msg.sender msg.receiver)
        × ((message_row rows msg).finish
        ≡ (message_row rows msg).start + transfer s msg (machine_for rows msg.sender) (machine_for rows msg.receiver))
        × ((task_row rows msg.sender).finish ≤ (message_row rows msg).start)

    input_row :
        Progress s j new → (msg : Message) → Memᴰ msg (into j t) → (ext : List Row) → crossing s j new m msg ≡ true →
        RowFacts (booked ++ ext) msg
    input_row prog msg n ext c =
        rw
        (message_found prog msg n c ext, receiver_machine msg n ext, sender_found msg n ext)
        (refl, refl, (found_input msg n c).after)

    input_facts : Progress s j new → (msg : Message) → Memᴰ msg (into j t) → (ext : List Row) → MessageFacts s j (booked ++ ext) msg
    input_facts prog msg n ext =
        let crossed : between (booked ++ ext) msg ≡ true → crossing s j new m msg ≡ true = λ h. sym (crossing_same msg n ext) ∙ h in
        record {
          its_link = λ h. (input_row prog msg n ext (crossed h)).0;
          due = λ h. (input_row prog msg n ext (crossed h)).1;
          after_sender = λ h. (input_row prog msg n ext (crossed h)).2;
          arrived = rw (receiver_machine msg n ext, receiver_found msg n ext) (arrives msg n ext);
        }

    -- What the turn adds.

    any_booked : (p : Row → Bool) → any_of p booked ≡ any_of p new || (any_of p trial.inputs || any_of p (trial.own ∷ []))
    any_booked p = any_append p new (trial_rows trial) ∙ ap (λ x. any_of p new || x) (any_append p trial.inputs (trial.own ∷ []))

    count_booked : (p : Row → Bool) → count_of p booked ≡ count_of p new + (count_of p trial.inputs + count_of p (trial.own ∷ []))
    count_booked p =
        count_append p new (trial_rows trial) ∙ ap (λ x. count_of p new + x) (count_append p trial.inputs (trial.own ∷ []))

    own_task : (u : ℕ) → books_task u trial.own ≡ eqb t u
    unfolding is_task
    own_task u = rw shape.own refl

    own_no_message : (msg : Message) → books_message msg trial.own ≡ false
    unfolding is_message
    own_no_message msg = rw shape.own refl

    no_input_task : (u : ℕ) → any_of (books_task u) trial.inputs ≡ false
    no_input_task u = booked_no_task s j new m shape.inputs u

    placed_booked : (u : ℕ) → placed booked u ≡ placed new u || (eqb t u || false)
    placed_booked u = rw (any_booked (books_task u), no_input_task u, own_task u) refl

    -- a task placed now was placed before, or is the one of this turn
    now_placed : (u : ℕ) → placed booked u ≡ true → (placed new u ≡ true) ⊎ (t ≡ u)
    now_placed u p =
        ⊎_elim
        inl
        (λ h. inr (eqb-true t u (⊎_elim (λ e. e) (λ e. clash e refl) (or_cases (eqb t u) false h))))
        (or_cases (placed new u) (eqb t u || false) (sym (placed_booked u) ∙ p))

    not_yet : (u : ℕ) → placed booked u ≡ false → (placed new u ≡ false) × (eqb t u ≡ false)
    not_yet u p =
        let h = or_false (placed new u) (eqb t u || false) (sym (placed_booked u) ∙ p) in (h.0, (or_false (eqb t u) false h.1).0)

    was_other : (u : ℕ) → placed new u ≡ true → t ≡ u → ⊥
    was_other u p e = clash p (subst (λ v. placed new v ≡ false) e unplaced)

    -- a message into another task has no row among the inputs
    no_input_for : (msg : Message) → (t ≡ msg.receiver → ⊥) → any_of (books_message msg) trial.inputs ≡ false
    no_input_for msg other =
        booked_none s j new m shape.inputs msg (λ x n _ same. other (sym (into_listed x n).1 ∙ same.receiver))

    -- nor has one into this task that does not cross
    no_input_from : (msg : Message) → Memᴰ msg (into j t) → crossing s j new m msg ≡ false → any_of (books_message msg) trial.inputs ≡ false
    no_input_from msg n c =
        booked_none
        s
        j
        new
        m
        shape.inputs
        msg
        (λ x q d same. clash d (subst (λ v. crossing s j new m v ≡ false) (sym (same_pair_same into_differ x msg q n same)) c))

    to_turn : (msg : Message) → Memᴰ msg (messages_of j) → t ≡ msg.receiver → Memᴰ msg (into j t)
    to_turn msg n e = keep_mem (λ msg. eqb msg.receiver t) n (eq-eqb msg.receiver t (sym e))

    later : (ext : List Row) → booked ++ ext ≡ new ++ (trial_rows trial ++ ext)
    later ext = append_assoc new (trial_rows trial) ext

    task_once_turn : Progress s j new → (u : ℕ) → count_of (books_task u) booked ≤ 1
    task_once_turn prog u =
        let none_in = count_none (books_task u) trial.inputs (no_input_task u) in
        let all = count_booked (books_task u) in
        by_test
        (eqb t u)
        (λ h.
        let before = count_none (books_task u) new (subst (λ v. placed new v ≡ false) (eqb-true t u h) unplaced) in
        let own : count_of (books_task u) (trial.own ∷ []) ≡ 1 = rw (own_task u, h) refl in
        omega arith)
        (λ h.
        let before = prog.task_once u in
        let own : count_of (books_task u) (trial.own ∷ []) ≡ 0 = rw (own_task u, h) refl in
        omega arith)

    no_rows_turn : (msg : Message) → any_of (books_message msg) new ≡ false → any_of (books_message msg) trial.inputs ≡ false →
        any_of (books_message msg) booked ≡ false
    no_rows_turn msg a b = rw (any_booked (books_message msg), a, b, own_no_message msg) refl

    rows_turn : (msg : Message) (a b : ℕ) → count_of (books_message msg) new ≡ a → count_of (books_message msg) trial.inputs ≡ b →
        count_of (books_message msg) booked ≡ a + b
    rows_turn msg a b p q =
        let all = count_booked (books_message msg) in
        let own : count_of (books_message msg) (trial.own ∷ []) ≡ 0 = rw (own_no_message msg) refl in
        omega arith

    pub progress_turn : Progress s j new → Progress s j booked
    progress_turn prog = record {
      task_once = task_once_turn prog;
      task_facts =
          λ u p ext.
          ⊎_elim
          (λ h. rw (later ext) (prog.task_facts u h (trial_rows trial ++ ext)))
          (λ e. subst (TaskFacts s j (booked ++ ext)) e (own_facts ext))
          (now_placed u p);
      message_facts =
          λ msg n p ext.
          ⊎_elim
          (λ h. rw (later ext) (prog.message_facts msg n h (trial_rows trial ++ ext)))
          (λ e. input_facts prog msg (to_turn msg n e) ext)
          (now_placed msg.receiver p);
      message_once =
          λ msg n p ext b.
          ⊎_elim
          (λ h.
          rows_turn
          msg
          1
          0
          (prog.message_once msg n h (trial_rows trial ++ ext) (rw (later ext) at b))
          (count_none (books_message msg) trial.inputs (no_input_for msg (was_other msg.receiver h))))
          (λ e.
          let q = to_turn msg n e in
          rows_turn
          msg
          0
          1
          (count_none (books_message msg) new (ahead prog msg q))
          (found_input msg q (sym (crossing_same msg q ext) ∙ b)).once)
          (now_placed msg.receiver p);
      message_absent =
          λ msg n p ext b.
          ⊎_elim
          (λ h.
          no_rows_turn
          msg
          (prog.message_absent msg n h (trial_rows trial ++ ext) (rw (later ext) at b))
          (no_input_for msg (was_other msg.receiver h)))
          (λ e.
          let q = to_turn msg n e in
          no_rows_turn msg (ahead prog msg q) (no_input_from msg q (sym (crossing_same msg q ext) ∙ b)))
          (now_placed msg.receiver p);
      message_ahead =
          λ msg p.
          let h = not_yet msg.receiver p in
          no_rows_turn msg (prog.message_ahead msg h.0) (no_input_for msg (λ e. eqb-false t msg.receiver h.1 e));
      owed =
          λ row n ext.
          ⊎_elim
          (λ h. rw (later ext) (prog.owed row h (trial_rows trial ++ ext)))
          (λ h. ⊎_elim (input_owed row ext) (own_owed row ext) (Memᴰ.append_cases trial.inputs h))
          (Memᴰ.append_cases new n);
    }
      where
        input_owed : (row : Row) (ext : List Row) → Memᴰ row trial.inputs → Owed j (booked ++ ext) row
        input_owed row ext h =
            let r = booked_only s j new m shape.inputs row h in
            let msg = r.0 in
            to_message
            msg
            (into_listed msg r.1).0
            (crossing_same msg r.1 ext ∙ r.2)
            (subst
            (λ v. books_message msg v ≡ true)
            (sym r.4)
            (pair_books s j msg msg (machine_for new msg.sender) m r.3 (record { sender = refl; receiver = refl })))

        own_owed : (row : Row) (ext : List Row) → Memᴰ row (trial.own ∷ []) → Owed j (booked ++ ext) row
        own_owed row ext h = to_task t listed (rw (Memᴰ.eq_of_singleton h) own_is)

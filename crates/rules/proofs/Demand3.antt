-- Demand 3: one claim about every list of calls.
use mathlib.Core.Path.{◌≡◌, refl, sym, ap, ◌∙◌, subst}
use mathlib.Core.Logic.{⊎_elim}
use mathlib.Core.Bool.{true, false}
use mathlib.Core.List.{List, [], ◌∷◌, ◌++◌, append-nil}
use mathlib.Core.List.Memᴰ
use mathlib.Core.List.{Memᴰ}
use Prim.Native.Nat.{ℕ}
use native.Mathlib.Omega.{arith}
use Rattle.rules.specs.declared.Row.{Row}
use Rattle.rules.specs.declared.Message.{Message}
use Rattle.rules.specs.declared.Job.{Job}
use Rattle.rules.specs.declared.Setup.{Setup}
use Rattle.rules.specs.Words.{State, View, view, fresh, messages_of}
use Rattle.rules.specs.Withdrawing.{admit, remove, withdraw, advance}
use Rattle.rules.specs.Placing.{books_task, books_message, placed, trial_rows, try, Placing, booked, late, place}
use Rattle.rules.specs.Refusals.{submit_answer, withdraw_answer, advance_answer, found, placing, Call, submits, withdraws, advances, step}
use Rattle.rules.specs.Journal.{Entry, Journal, empty, rows_in, journal_view, enter, journal_step}
use Rattle.rules.specs.Laws.{IsTask, EndsListed}
use Rattle.rules.specs.Demands.{TaskDue, between, MessageDue, Owed, EntryDue, register_left, journal_left, Demand3}
use Rattle.rules.specs.Refusals.{ground_of}
use Rattle.rules.proofs.Sequences.{any_witness, mem_keep, count_none, count_some}
use Rattle.rules.proofs.Steps.{settle_keeps, after_keeps}
use Rattle.rules.proofs.Turns.{place_keeps}
use Rattle.rules.proofs.Inputs.{booked_only, try_shape}
use Rattle.rules.proofs.Due.{TaskFacts, MessageFacts, Progress, progress_none}
use Rattle.rules.proofs.Apart.{AllApart, placing_apart, apart_keep, apart_shares_none}
use Rattle.rules.proofs.Pairs.{end}
use Rattle.rules.proofs.Order.{in_range_count, in_range_ends, in_range_lower, lower_acyclic}
use Rattle.rules.proofs.Differ.{turn_due}
use Rattle.rules.proofs.AllPlaced.{all_placed}
use Rattle.rules.proofs.Admitted.{Admitted, admitted}
use Rattle.rules.proofs.Agreement.{agree_fresh, agree_after, rows_for_entry}
use Rattle.rules.proofs.Struck.{struck_state, struck_answers, step_still}

-- What placing gives.

module _ (s : Setup) (v : View) (j : Job) where
  -- every row that is found carries the job's number
  pub carries : (row : Row) → Memᴰ row (found (placing s v j)) → row.job ≡ j.number
  unfolding placing found
  carries = go (place s (ground_of v j) j) refl
    where
      Carries : List Row → Type 0
      Carries rows = (row : Row) → Memᴰ row rows → row.job ≡ j.number

      turn_carries : (new : List Row) (t m : ℕ) → Carries new → Carries (new ++ trial_rows (try s (ground_of v j) j new t m))
      turn_carries new t m h row n =
          let trial = try s (ground_of v j) j new t m in
          let shape = try_shape s (ground_of v j) j new t m in
          ⊎_elim
          (h row)
          (λ k.
          ⊎_elim
          (λ q. ap (λ r. r.job) (booked_only s j new m shape.inputs row q).4)
          (λ q. ap (λ r. r.job) (Memᴰ.eq_of_singleton q ∙ shape.own))
          (Memᴰ.append_cases trial.inputs k))
          (Memᴰ.append_cases new n)

      go : (p : Placing) → place s (ground_of v j) j ≡ p → Carries (found p)
      go (booked rows) e =
          place_keeps s (ground_of v j) j Carries (λ new t m _ _. turn_carries new t m) (λ row n. absurd (Memᴰ.not-nil n)) e
      go (late t) e = λ row n. absurd (Memᴰ.not-nil n)

  module _ (a : Admitted s v j) where
    every_task : (t : ℕ) → IsTask j t → placed (found (placing s v j)) t ≡ true
    every_task =
        all_placed s v j (found (placing s v j)) (lower_acyclic j (in_range_lower s j a.in_range)) (in_range_ends s j a.in_range) a.rows_found

    progress : Progress s j (found (placing s v j))
    unfolding placing
    progress =
        place_keeps s (ground_of v j) j (Progress s j) (turn_due s (ground_of v j) j a.in_range) (progress_none s j) a.rows_found

    -- a job in range has a task, so a row is found
    filled : (row : Row) × Memᴰ row (found (placing s v j))
    filled =
        let one : IsTask j 1 = record { first = omega arith; last = (in_range_count s j a.in_range).0 } in
        let w = any_witness (books_task 1) (found (placing s v j)) (every_task 1 one) in
        (w.0, w.1)

-- The entries: what demand 3 says of a job's rows is itself what each step keeps.

-- where placing has come through, the rows found are those that are due
module _ (s : Setup) (e : Entry) (prog : Progress s e.job e.rows) (every : (t : ℕ) → IsTask e.job t → placed e.rows t ≡ true)
    (ends : EndsListed e.job) where
  -- the facts of all rows, with none to follow
  whole : (P : List Row → Type 0) → P (e.rows ++ []) → P e.rows
  whole P h = subst P (append-nil e.rows) h

  task_due : (t : ℕ) → IsTask e.job t → TaskDue s e e.rows t
  task_due t listed =
      let there = every t listed in
      let facts = whole (λ rows. TaskFacts s e.job rows t) (prog.task_facts t there []) in
      let most = prog.task_once t in
      let least = count_some (books_task t) e.rows there in
      record { once = omega arith; on_machine = facts.on_machine; able = facts.able; due = facts.due; in_time = facts.in_time }

  message_due : (msg : Message) → Memᴰ msg (messages_of e.job) → MessageDue s e.rows msg
  message_due msg n =
      let there = every msg.receiver (ends msg n).1 in
      let facts = whole (λ rows. MessageFacts s e.job rows msg) (prog.message_facts msg n there []) in
      let longer = sym (append-nil e.rows) in
      record {
        once = λ b. prog.message_once msg n there [] (subst (λ rows. between rows msg ≡ true) longer b);
        absent =
            λ b.
            count_none
            (books_message msg)
            e.rows
            (prog.message_absent msg n there [] (subst (λ rows. between rows msg ≡ false) longer b));
        its_link = facts.its_link;
        due = facts.due;
        after_sender = facts.after_sender;
        arrived = facts.arrived;
      }

  entry_due : EntryDue s e e.rows
  entry_due = record {
    tasks_due = task_due;
    messages_due = message_due;
    no_others = λ row n. whole (λ rows. Owed e.job rows row) (prog.owed row n []);
  }

abbrev AllDue : Setup → Journal → Type 0
AllDue s jn = (e : Entry) → Memᴰ e jn.entries → EntryDue s e e.rows

step_due : (s : Setup) (jn : Journal) (c : Call) → AllDue s jn → AllDue s (journal_step s jn c).left
unfolding journal_step enter
step_due s jn (submits j) h =
    let v = journal_view jn in
    settle_keeps
    (AllDue s)
    (submit_answer s v j)
    h
    (λ z e n.
    let a = admitted s v j z in
    ⊎_elim
    (h e)
    (λ k.
    subst
    (λ e. EntryDue s e e.rows)
    (sym (Memᴰ.eq_of_singleton k))
    (entry_due s _ (progress s v j a) (every_task s v j a) (in_range_ends s j a.in_range)))
    (Memᴰ.append_cases jn.entries n))
step_due s jn (withdraws n) h =
    settle_keeps (AllDue s) (withdraw_answer (journal_view jn) n) h (λ _ e m. h e (mem_keep _ jn.entries m).0)
step_due s jn (advances tick) h =
    settle_keeps (AllDue s) (advance_answer (journal_view jn) tick) h (λ _ e m. h e (mem_keep _ jn.entries m).0)

-- No two rows share a tick, whatever is called.
step_apart : (s : Setup) (st : State) (c : Call) → AllApart st.rows → AllApart (step s st c).left.rows
unfolding step admit remove withdraw advance
step_apart s st (submits j) h = settle_keeps (λ (st : State). AllApart st.rows) (submit_answer s (view st) j) h (λ _. placing_apart s (view st) j h)
step_apart s st (withdraws n) h = settle_keeps (λ (st : State). AllApart st.rows) (withdraw_answer (view st) n) h (λ _. apart_keep _ st.rows h)
step_apart s st (advances tick) h = settle_keeps (λ (st : State). AllApart st.rows) (advance_answer (view st) tick) h (λ _. apart_keep _ st.rows h)

-- a row of the journal is one of an entry
entry_with : (entries : List Entry) (row : Row) → Memᴰ row (rows_in entries) → (e : Entry) × Memᴰ e entries × Memᴰ row e.rows
entry_with [] row n = absurd (Memᴰ.not-nil n)
entry_with (e ∷ entries) row n =
    ⊎_elim
    (λ k. (e, Memᴰ.head refl, k))
    (λ k. let r = entry_with entries row k in (r.0, Memᴰ.tail r.1, r.2))
    (Memᴰ.append_cases e.rows n)

pub demand_3 : (s : Setup) (calls : List Call) → Demand3 s calls
demand_3 s calls =
    let both = agree_after s (carries s) (λ v j z. filled s v j (admitted s v j z)) calls fresh empty agree_fresh in
    let agree = both.1 in
    let due : AllDue s (journal_left s calls)
    = after_keeps (AllDue s) (journal_step s) (step_due s) calls empty (λ e n. absurd (Memᴰ.not-nil n)) in
    record {
      answers_agree = both.0;
      calendar_agrees = agree.calendar;
      rows_agree = agree.rows;
      total_agrees = agree.total;
      apart =
          apart_shares_none (register_left s calls).rows (after_keeps (λ (st : State). AllApart st.rows) (step s) (step_apart s) calls fresh end);
      rows_due = λ e n. subst (EntryDue s e) (sym (rows_for_entry agree e n)) (due e n);
      of_held =
          λ row n.
          let r = entry_with (journal_left s calls).entries row (subst (Memᴰ row) agree.rows n) in
          (r.0, r.1, agree.carried r.0 r.1 row r.2);
      struck_state = struck_state (step s) (step_still s) fresh calls;
      struck_answers = struck_answers (step s) (step_still s) fresh calls;
    }

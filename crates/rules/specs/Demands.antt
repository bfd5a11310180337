-- A reader must believe this: demands 1, 2 and 3 of document 01, as claims about the rules. Of the code they are claimed in `reservation/specs/Demands.antt`.
use Rattle.std.specs.Prelude.{◌≡◌, ◌↔◌, ◌≢◌, Bool, true, false, ℕ, ◌+◌, ◌≤◌, ◌<◌, length, get_or}
use mathlib.Core.List.{List, [], ◌∷◌, map, Memᴰ}
use Rattle.std.proofs.Math.Option.{none, some}
use Rattle.rules.specs.declared.Holder.TheVariants.{MessageOn}
use Rattle.rules.specs.declared.Row.{Row}
use Rattle.rules.specs.declared.Message.{Message}
use Rattle.rules.specs.declared.Job.{Job}
use Rattle.rules.specs.declared.Setup.{Setup}
use Rattle.rules.specs.declared.Answer.{Answer}
use Rattle.rules.specs.declared.Seen.{Seen}
use Rattle.rules.specs.declared.Seen.TheVariants.{Idle}
use Rattle.rules.specs.Sequences.{keep, count_of}
use Rattle.rules.specs.Words.{Within, resource, span, largest_number, row_limit, messages_of, task_of, run_time}
use Rattle.rules.specs.Words.{State, View, view, fresh, of_job}
use Rattle.rules.specs.Placing.{books_task, books_message, no_row, task_row, message_row, machine_for, placed, crosses, arrival, transfer, costs, booked}
use Rattle.rules.specs.Withdrawing.{admit}
use Rattle.rules.specs.Refusals.{Test, submit_tests, withdraw_tests, advance_tests, placing, look, seen_number, seen_row}
use Rattle.rules.specs.Refusals.{outside, miscounted, out_of_range, bad_messages, accepted, Call, submits, withdraws, advances, step, answers, after}
use Rattle.rules.specs.Refusals.{struck}
use Rattle.rules.specs.Journal.{Entry, Journal, empty, rows_in, journal_total, journal_step}
use Rattle.rules.specs.Laws.{IsMachine, IsTask, RunsAt}

-- Demand 1: each call ends, and refuses by its number, leaving all untouched.

-- the test numbered n refuses and names task t, and no test before it refuses
pub data FirstRefusal (n t : ℕ) : List Test → Type 0 where
  here : {test : Test} {tests : List Test} → test.number ≡ n → test.refuses ≡ some t → FirstRefusal n t (test ∷ tests)
  later : {test : Test} {tests : List Test} → test.refuses ≡ none → FirstRefusal n t tests → FirstRefusal n t (test ∷ tests)

pub data NoRefusal : List Test → Type 0 where
  end : NoRefusal []
  passes : {test : Test} {tests : List Test} → test.refuses ≡ none → NoRefusal tests → NoRefusal (test ∷ tests)

-- the whole answer is number n, task t, cost 0 and count 0 exactly when test n is the first that refuses, and names t; every number but 0 is such a one;
-- and the number is 0 exactly when no test refuses
pub record AnsweredBy (tests : List Test) (a : Answer) : Type 0 where
  pub first_refusal : (n t : ℕ) → n ≢ 0 → (a ≡ record { number = n; task = t; cost = 0; rows = 0 }) ↔ FirstRefusal n t tests
  pub by_a_test : a.number ≢ 0 → (t : ℕ) × FirstRefusal a.number t tests
  pub passed : (a.number ≡ 0) ↔ NoRefusal tests

abbrev pub tests_for : Setup → View → Call → List Test
tests_for s v (submits j) = submit_tests s v j
tests_for s v (withdraws n) = withdraw_tests v n
tests_for s v (advances tick) = advance_tests v tick

abbrev pub numbers_for : Call → List ℕ
numbers_for (submits j) = 1 ∷ 2 ∷ 3 ∷ 4 ∷ 5 ∷ 6 ∷ 7 ∷ 8 ∷ []
numbers_for (withdraws n) = 9 ∷ 10 ∷ []
numbers_for (advances tick) = 11 ∷ 12 ∷ []

pub record Demand1 (s : Setup) (st : State) (c : Call) : Type 0 where
  pub numbers : map (λ test. test.number) (tests_for s (view st) c) ≡ numbers_for c
  pub answered : AnsweredBy (tests_for s (view st) c) (step s st c).answer
  pub untouched : (step s st c).answer.number ≢ 0 → (step s st c).left ≡ st

-- a look answers 13 exactly for a machine that the table does not have, and else 0; a row that it answers is on the machine at the tick; it answers idle
-- exactly where the table has the machine and no row on it holds the tick
pub record SeenBy (s : Setup) (v : View) (m tick : ℕ) (seen : Seen) : Type 0 where
  pub no_machine : (seen_number seen ≡ 13) ↔ (IsMachine s m → ⊥)
  pub passed : (seen_number seen ≡ 0) ↔ IsMachine s m
  pub sees : (row : Row) → seen_row seen ≡ some row → Memᴰ row v.rows × RunsAt m tick row
  pub idle : (seen ≡ Idle) ↔ (IsMachine s m × ((row : Row) → Memᴰ row v.rows → RunsAt m tick row → ⊥))

abbrev pub Demand1Look : Setup → View → (m tick : ℕ) → Type 0
Demand1Look s v m tick = SeenBy s v m tick (look s v m tick)

-- Demand 2: a job is admitted exactly when DRCD places it, with DRCD's rows.

-- a job that none of 1 to 4 refuses
pub record InRange (s : Setup) (j : Job) : Type 0 where
  pub number : outside 1 largest_number j.number ≡ false
  pub counts : miscounted j ≡ false
  pub figures : out_of_range s j ≡ false
  pub messages : bad_messages j ≡ false

-- placing finds every task a good trial, with these rows
pub record Places (s : Setup) (v : View) (j : Job) (rows : List Row) : Type 0 where
  pub rows_found : placing s v j ≡ booked rows
  pub every_task : (t : ℕ) → IsTask j t → placed rows t ≡ true

-- in range, not held, placed with these rows, and the rows fit
pub record Admissible (s : Setup) (v : View) (j : Job) (rows : List Row) : Type 0 where
  pub in_range : InRange s j
  pub not_held : v.held j.number ≡ false
  pub places : Places s v j rows
  pub fits : length v.rows + length rows ≤ row_limit

pub record Demand2 (s : Setup) (st : State) (j : Job) : Type 0 where
  pub admitted : ((step s st (submits j)).answer.number ≡ 0) ↔ ((rows : List Row) × Admissible s (view st) j rows)
  pub answered :
      (rows : List Row) → Admissible s (view st) j rows →
      (step s st (submits j)).answer ≡ record { number = 0; task = 0; cost = costs rows; rows = length rows }
  pub with_its_rows : (rows : List Row) → Admissible s (view st) j rows → (step s st (submits j)).left ≡ admit st rows

-- Demand 3: one claim about every list of calls.

abbrev pub row_at : List Row → ℕ → Row
row_at rows i = get_or rows i no_row

-- no two rows, by position, on one machine or one link share a tick
abbrev pub NoSharedTick : List Row → Type 0
NoSharedTick rows =
    (i k : ℕ) → i < k → k < length rows → resource (row_at rows i) ≡ resource (row_at rows k) →
    (tick : ℕ) → Within tick (span (row_at rows i)) → Within tick (span (row_at rows k)) → ⊥

-- the rows of a held job
abbrev pub rows_for : List Row → Job → List Row
rows_for rows j = keep (of_job j.number) rows

-- the due length of a task's row on machine m: its run time there
abbrev pub due_length : Entry → (task m : ℕ) → ℕ
due_length e t m = run_time e.job t m

-- What is due to an entry, of the rows that carry its number.

-- a task has exactly one row, on a machine of the table that can run it, of its due length there, and ends by its deadline
pub record TaskDue (s : Setup) (e : Entry) (mine : List Row) (t : ℕ) : Type 0 where
  pub once : count_of (books_task t) mine ≡ 1
  pub on_machine : IsMachine s (machine_for mine t)
  pub able : 0 < run_time e.job t (machine_for mine t)
  pub due : (task_row mine t).finish ≡ (task_row mine t).start + due_length e t (machine_for mine t)
  pub in_time : (task_row mine t).finish ≤ (task_of e.job t).deadline

-- a message with volume whose two tasks are on different machines
abbrev pub between : List Row → Message → Bool
between mine msg = crosses msg (machine_for mine msg.sender) (machine_for mine msg.receiver)

-- such a message has exactly one row, on its link, of link time times volume, not before its sender's finish; any other has none
pub record MessageDue (s : Setup) (mine : List Row) (msg : Message) : Type 0 where
  pub once : between mine msg ≡ true → count_of (books_message msg) mine ≡ 1
  pub absent : between mine msg ≡ false → count_of (books_message msg) mine ≡ 0
  pub its_link :
      between mine msg ≡ true →
      (message_row mine msg).holder
      ≡ MessageOn (machine_for mine msg.sender) (machine_for mine msg.receiver) msg.sender msg.receiver
  pub due :
      between mine msg ≡ true →
      (message_row mine msg).finish
      ≡ (message_row mine msg).start + transfer s msg (machine_for mine msg.sender) (machine_for mine msg.receiver)
  pub after_sender : between mine msg ≡ true → (task_row mine msg.sender).finish ≤ (message_row mine msg).start
  -- its receiver does not begin before it has arrived
  pub arrived : arrival mine msg (machine_for mine msg.receiver) ≤ (task_row mine msg.receiver).start

-- a row of one of the job's tasks, or of one of its messages that has one
pub data Owed (j : Job) (mine : List Row) (row : Row) : Type 0 where
  to_task : (t : ℕ) → IsTask j t → books_task t row ≡ true → Owed j mine row
  to_message : (msg : Message) → Memᴰ msg (messages_of j) → between mine msg ≡ true → books_message msg row ≡ true → Owed j mine row

-- each task and each message has the rows that are due, and there are no others
pub record EntryDue (s : Setup) (e : Entry) (mine : List Row) : Type 0 where
  pub tasks_due : (t : ℕ) → IsTask e.job t → TaskDue s e mine t
  pub messages_due : (msg : Message) → Memᴰ msg (messages_of e.job) → MessageDue s mine msg
  pub no_others : (row : Row) → Memᴰ row mine → Owed e.job mine row

module _ (s : Setup) (calls : List Call) where
  abbrev pub register_left : State
  register_left = after (step s) fresh calls

  abbrev pub journal_left : Journal
  journal_left = after (journal_step s) empty calls

  abbrev pub held_entry : Entry → Type 0
  held_entry e = Memᴰ e journal_left.entries

  abbrev pub struck_calls : List Call
  struck_calls = struck (step s) fresh calls

  pub record Demand3 : Type 0 where
    -- every answer, the clock (the calendar), the rows in their order and the total are the journal's
    pub answers_agree : answers (step s) fresh calls ≡ answers (journal_step s) empty calls
    pub calendar_agrees : register_left.calendar ≡ journal_left.calendar
    pub rows_agree : register_left.rows ≡ rows_in journal_left.entries
    pub total_agrees : register_left.total ≡ journal_total journal_left
    pub apart : NoSharedTick register_left.rows
    -- each held job has exactly the rows that are due, and every row is of a held job
    pub rows_due : (e : Entry) → held_entry e → EntryDue s e (rows_for register_left.rows e.job)
    pub of_held : (row : Row) → Memᴰ row register_left.rows → (e : Entry) × held_entry e × (row.job ≡ e.job.number)
    -- the list struck of its refused calls leaves an equal register and gives the same answers to the other calls
    pub struck_state : after (step s) fresh struck_calls ≡ register_left
    pub struck_answers : answers (step s) fresh struck_calls ≡ keep (λ a. accepted a) (answers (step s) fresh calls)

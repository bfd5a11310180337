-- Document 01, "Ledger of examples": those with a star, as one table. They hold by computation, so nobody has to believe them.
use Rattle.std.specs.Prelude.{List, [], ◌∷◌, ℕ, length}
use Rattle.rules.specs.declared.Holder.TheVariants.{TaskOn, MessageOn}
use Rattle.rules.specs.declared.Row.{Row}
use Rattle.rules.specs.declared.Task.{Task}
use Rattle.rules.specs.declared.Message.{Message}
use Rattle.rules.specs.declared.Job.{Job}
use Rattle.rules.specs.declared.Answer.{Answer}
use Rattle.rules.specs.declared.Seen.{Seen}
use Rattle.rules.specs.Sequences
use Rattle.rules.specs.Words
use Rattle.rules.specs.Placing
use Rattle.rules.specs.Withdrawing
use Rattle.rules.specs.Refusals
use Rattle.rules.specs.Words.{Span, State, fresh, view, setup_by_default}
use Rattle.rules.specs.Placing.{least_free}
use Rattle.rules.specs.Refusals.{Call, submits, withdraws, advances, step, answers, after, submit_answer, look}

-- How the tables are written.

abbrev pub task : (deadline dispatch r1 r2 r3 r4 : ℕ) → Task
task d g r1 r2 r3 r4 = record { deadline = d; dispatch = g; runs = r1 ∷ r2 ∷ r3 ∷ r4 ∷ [] }

abbrev pub message : (sender receiver volume : ℕ) → Message
message x y v = record { sender = x; receiver = y; volume = v }

abbrev pub job_with : (number scheduling : ℕ) → List Task → List Message → Job
job_with n g ts ms = record { number = n; scheduling = g; taskcount = length ts; tasks = ts; messagecount = length ms; messages = ms }

abbrev pub job : ℕ → List Task → List Message → Job
job n ts ms = job_with n 0 ts ms

abbrev pub on : (machine n task start finish cost : ℕ) → Row
on m n t a b c = record { holder = TaskOn m t; job = n; start = a; finish = b; cost = c }

abbrev pub over_link : (source target n sender receiver start finish cost : ℕ) → Row
over_link s r n x y a b c = record { holder = MessageOn s r x y; job = n; start = a; finish = b; cost = c }

abbrev pub from_to : ℕ → ℕ → Span
from_to a b = record { start = a; finish = b }

-- the answers due, figure by figure
abbrev pub admitted : (cost rows : ℕ) → Answer
admitted c n = record { number = 0; task = 0; cost = c; rows = n }

abbrev pub rejected : (number task : ℕ) → Answer
rejected n t = record { number = n; task = t; cost = 0; rows = 0 }

-- that of an accepted withdrawal or clock move
abbrev pub granted : Answer
granted = record { number = 0; task = 0; cost = 0; rows = 0 }

-- An example is a list of calls on a fresh register, a job asked of a given register, a look at one, or a tick sought; it gives answers and rows, an answer,
-- what is seen, or a tick.
pub data Given : Type 0 where
  calls : List Call → Given
  asked : State → Job → Given
  looked : State → (machine tick : ℕ) → Given
  sought : (from len : ℕ) → List Span → Given

pub data Effect : Type 0 where
  leaves : List Answer → List Row → Effect
  answered : Answer → Effect
  sees : Seen → Effect
  tick : ℕ → Effect

unfoldable pub effect : Given → Effect
unfolding
    Sequences.precedes Sequences.prior Sequences.foremost Words.meets Words.same Words.held_by Words.setup_by_default
    Placing.spans_on Placing.free Placing.latest Placing.earliest Placing.least_free Placing.is_task Placing.is_message Placing.machine_of
    Placing.arrival Placing.ready Placing.next_task Placing.release Placing.message_trial Placing.message_trials Placing.all_arrived
    Placing.try Placing.good Placing.good_trials Placing.choice Placing.turn Placing.place_from Placing.place
    Withdrawing.admit Withdrawing.remove Withdrawing.withdraw Withdrawing.ended Withdrawing.advance
    Refusals.judged Refusals.miscounted Refusals.task_out_of_range Refusals.out_of_range Refusals.message_out_of_range Refusals.ascending
    Refusals.bad_messages Refusals.infeasible Refusals.first_infeasible Refusals.missed Refusals.found Refusals.placing Refusals.submit_tests
    Refusals.submit_answer Refusals.withdraw_tests Refusals.withdraw_answer Refusals.advance_tests Refusals.advance_answer Refusals.settle
    Refusals.step Refusals.answers Refusals.after Refusals.running Refusals.seen_in Refusals.look
effect (calls cs) = leaves (answers (step setup_by_default) fresh cs) (after (step setup_by_default) fresh cs).rows
effect (asked st j) = answered (submit_answer setup_by_default (view st) j)
effect (looked st m at) = sees (look setup_by_default (view st) m at)
effect (sought from len spans) = tick (least_free from len spans)

pub record Example : Type 0 where
  pub given : Given
  pub expected : Effect

-- A, with its deadline and its number; H, with its second deadline and its volume
abbrev pub job_A : (number deadline : ℕ) → Job
job_A n d = job n (task d 1 4 5 0 2 ∷ []) []

abbrev pub job_H : (deadline volume : ℕ) → Job
job_H d v = job 7 (task 20 1 4 0 0 0 ∷ task d 1 0 5 0 0 ∷ []) (message 1 2 v ∷ [])

unfoldable pub ledger : List Example
ledger =
    -- A
    record {
      given = calls (submits (job_A 7 10) ∷ []);
      expected = leaves (admitted 20 1 ∷ []) (on 2 7 1 1 6 20 ∷ []);
    }
    -- B
    ∷ record {
      given = calls (submits (job_A 7 5) ∷ []);
      expected = leaves (admitted 40 1 ∷ []) (on 1 7 1 1 5 40 ∷ []);
    }
    -- C
    ∷ record { given = calls (submits (job_A 7 2) ∷ []); expected = leaves (rejected 7 1 ∷ []) [] }
    -- D
    ∷ record { given = calls (submits (job_A 7 1) ∷ []); expected = leaves (rejected 6 1 ∷ []) [] }
    -- E
    ∷ record {
      given = calls (submits (job_A 7 5) ∷ submits (job 8 (task 20 1 4 10 4 0 ∷ []) []) ∷ []);
      expected = leaves (admitted 40 1 ∷ admitted 40 1 ∷ []) (on 1 7 1 1 5 40 ∷ on 2 8 1 1 11 40 ∷ []);
    }
    -- F
    ∷ record { given = sought 0 4 (from_to 1 5 ∷ from_to 9 12 ∷ []); expected = tick 5 }
    -- G
    ∷ record { given = sought 0 5 (from_to 1 5 ∷ from_to 9 12 ∷ []); expected = tick 12 }
    -- H
    ∷ record {
      given = calls (submits (job_H 16 3) ∷ []);
      expected =
          leaves
          (admitted 90 3 ∷ [])
          (on 1 7 1 1 5 40 ∷ over_link 1 2 7 1 2 5 11 30 ∷ on 2 7 2 11 16 20 ∷ []);
    }
    -- I
    ∷ record { given = calls (submits (job_H 15 3) ∷ []); expected = leaves (rejected 7 2 ∷ []) [] }
    -- J
    ∷ record {
      given = calls (submits (job_H 16 0) ∷ []);
      expected = leaves (admitted 60 2 ∷ []) (on 1 7 1 1 5 40 ∷ on 2 7 2 5 10 20 ∷ []);
    }
    -- K
    ∷ record {
      given =
          calls
          (submits
          (job
          7
          (task 10 0 4 0 0 0 ∷ task 20 0 2 0 0 0 ∷ task 30 0 0 5 0 0 ∷ [])
          (message 1 3 2 ∷ message 2 3 2 ∷ []))
          ∷ []);
      expected =
          leaves
          (admitted 120 5 ∷ [])
          (on 1 7 1 0 4 40
          ∷ on 1 7 2 4 6 20
          ∷ over_link 1 2 7 1 3 4 8 20
          ∷ over_link 1 2 7 2 3 8 12 20
          ∷ on 2 7 3 12 17 20
          ∷ []);
    }
    -- L
    ∷ record {
      given = calls (submits (job_A 7 10) ∷ withdraws 7 ∷ []);
      expected = leaves (admitted 20 1 ∷ granted ∷ []) [];
    }
    ∷ record {
      given = calls (submits (job_A 7 10) ∷ advances 1 ∷ withdraws 7 ∷ []);
      expected = leaves (admitted 20 1 ∷ granted ∷ rejected 10 0 ∷ []) (on 2 7 1 1 6 20 ∷ []);
    }
    ∷ record {
      given = calls (submits (job_A 7 10) ∷ advances 6 ∷ withdraws 7 ∷ []);
      expected = leaves (admitted 20 1 ∷ granted ∷ rejected 9 0 ∷ []) [];
    }
    ∷ []

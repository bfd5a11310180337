-- A reader must believe this: document 01, "What each call refuses, in order": the tests, the answers, and one step of the register for each call.
use Rattle.std.specs.Prelude.{Bool, true, false, not, ◌&&◌, ◌||◌, cond, List, [], ◌∷◌, map, ℕ, ◌+◌, ltb, leb, eqb, length}
use Rattle.std.proofs.Math.Option.{Option, none, some}
use Rattle.rules.specs.declared.Row.{Row}
use Rattle.rules.specs.declared.Message.{Message}
use Rattle.rules.specs.declared.Job.{Job}
use Rattle.rules.specs.declared.Setup.{Setup}
use Rattle.rules.specs.declared.Answer.{Answer}
use Rattle.rules.specs.declared.Seen.{Seen}
use Rattle.rules.specs.declared.Seen.TheVariants.{Idle, Booked, NoMachine}
use Rattle.rules.specs.Sequences.{any_of, keep, cons_if, precedes, foremost}
use Rattle.rules.specs.Words.{largest_number, most_tasks, most_messages, largest_time, largest_volume, horizon, row_limit}
use Rattle.rules.specs.Words.{machine, same, resource, machines, messages_of, task_numbers, task_of, run_time, State, View, view}
use Rattle.rules.specs.Placing.{Ground, on_rows, Placing, booked, late, place, costs}
use Rattle.rules.specs.Withdrawing.{admit, withdraw, advance}

-- A test has its refusal's number, and names a task (0 for none) where it refuses.
pub record Test : Type 0 where
  pub number : ℕ
  pub refuses : Option ℕ

abbrev pub refuse_if : Bool → Option ℕ
refuse_if b = cond b (some 0) none

abbrev pub outside : (low high : ℕ) → ℕ → Bool
outside low high n = ltb n low || ltb high n

-- an answer without refusal has number 0; cost and count are 0 in a refusal
abbrev pub refusal : (number task : ℕ) → Answer
refusal n t = record { number = n; task = t; cost = 0; rows = 0 }

-- the first test that refuses gives the answer, `passed` is the answer if none does
unfoldable pub judged : Answer → List Test → Answer
judged passed [] = passed
judged passed (test ∷ tests) = elim test.refuses [ none ↦ judged passed tests | some t ↦ refusal test.number t ]

abbrev pub accepted : Answer → Bool
accepted a = eqb a.number 0

-- Submit.

-- 2: too few or too many tasks, or too many messages
unfoldable pub miscounted : Job → Bool
miscounted j = outside 1 most_tasks j.taskcount || ltb most_messages j.messagecount

-- 3: a task figure or the scheduling time outside its range
unfoldable pub task_out_of_range : Setup → Job → ℕ → Bool
task_out_of_range s j t =
    outside 1 horizon (task_of j t).deadline
    || (ltb largest_time (task_of j t).dispatch || any_of (λ m. ltb largest_time (run_time j t m)) (machines s))

unfoldable pub out_of_range : Setup → Job → Bool
out_of_range s j = ltb largest_time j.scheduling || any_of (task_out_of_range s j) (task_numbers j)

-- 4: a message that breaks the range or order, or whose sender or receiver is no task of the job
unfoldable pub message_out_of_range : Job → Message → Bool
message_out_of_range j msg =
    outside 1 j.taskcount msg.sender
    || (outside 1 j.taskcount msg.receiver
    || (not (ltb msg.sender msg.receiver) || ltb largest_volume msg.volume))

-- messages stand by receiver, then sender
abbrev pub message_order : Message → List ℕ
message_order msg = msg.receiver ∷ msg.sender ∷ []

-- strictly ascending: each figure row precedes the next
unfoldable pub ascending : List (List ℕ) → Bool
ascending [] = true
ascending (x ∷ []) = true
ascending (x ∷ (y ∷ rest)) = precedes x y && ascending (y ∷ rest)

unfoldable pub bad_messages : Job → Bool
bad_messages j = any_of (message_out_of_range j) (messages_of j) || not (ascending (map message_order (messages_of j)))

-- 6, infeasible (01's hopeless): no machine, or clock plus the least non-zero run time exceeds the deadline
unfoldable pub infeasible : Setup → (clock : ℕ) → Job → ℕ → Bool
infeasible s clock j t =
    elim (foremost (λ run. run ∷ []) (keep (ltb 0) (map (run_time j t) (machines s)))) [
      | none ↦ true
      | some run ↦ ltb (task_of j t).deadline (clock + run)
    ]

-- the lowest infeasible task
unfoldable pub first_infeasible : Setup → (clock : ℕ) → Job → Option ℕ
first_infeasible s clock j = foremost (λ t. t ∷ []) (keep (infeasible s clock j) (task_numbers j))

-- 7: at its turn a task has no good trial
unfoldable pub missed : Placing → Option ℕ
missed (booked rows) = none
missed (late t) = some t

unfoldable pub found : Placing → List Row
found (booked rows) = rows
found (late t) = []

-- an acceptance is number 0, with the cost and the count of the new rows
abbrev pub admission : List Row → Answer
admission rows = record { number = 0; task = 0; cost = costs rows; rows = length rows }

-- what a job is placed on: its floors count from the clock and its scheduling time, and every row holds its span
abbrev pub ground_of : View → Job → Ground
ground_of v j = on_rows (v.calendar.clock + j.scheduling) v.rows

module _ (s : Setup) (v : View) (j : Job) where
  unfoldable pub placing : Placing
  placing = place s (ground_of v j) j

  unfoldable pub submit_tests : List Test
  submit_tests =
      record { number = 1; refuses = refuse_if (outside 1 largest_number j.number) }
      ∷ record { number = 2; refuses = refuse_if (miscounted j) }
      ∷ record { number = 3; refuses = refuse_if (out_of_range s j) }
      ∷ record { number = 4; refuses = refuse_if (bad_messages j) }
      ∷ record { number = 5; refuses = refuse_if (v.held j.number) }
      ∷ record { number = 6; refuses = first_infeasible s v.calendar.clock j }
      ∷ record { number = 7; refuses = missed placing }
      ∷ record { number = 8; refuses = refuse_if (ltb row_limit (length v.rows + length (found placing))) }
      ∷ []

  unfoldable pub submit_answer : Answer
  submit_answer = judged (admission (found placing)) submit_tests

-- Withdraw. 9: the job is not held. 10: one of its rows starts at or before the clock.
unfoldable pub withdraw_tests : View → ℕ → List Test
withdraw_tests v n =
    record { number = 9; refuses = refuse_if (not (v.held n)) }
    ∷ record { number = 10; refuses = refuse_if (any_of (λ row. leb row.start v.calendar.clock) (v.rows_of n)) }
    ∷ []

unfoldable pub withdraw_answer : View → ℕ → Answer
withdraw_answer v n = judged (refusal 0 0) (withdraw_tests v n)

-- Clock move. 11: below the clock. 12: above the horizon.
unfoldable pub advance_tests : View → ℕ → List Test
advance_tests v tick =
    record { number = 11; refuses = refuse_if (ltb tick v.calendar.clock) }
    ∷ record { number = 12; refuses = refuse_if (ltb horizon tick) }
    ∷ []

unfoldable pub advance_answer : View → ℕ → Answer
advance_answer v tick = judged (refusal 0 0) (advance_tests v tick)

-- Look: a machine and a tick. 13: the machine is none of the table's.

-- the row is on machine m at the tick
unfoldable pub running : (m tick : ℕ) → Row → Bool
running m tick row = same (resource row) (machine m) && (leb row.start tick && ltb tick row.finish)

unfoldable pub seen_in : List Row → Seen
seen_in [] = Idle
seen_in (row ∷ rows) = Booked row

unfoldable pub look : Setup → View → (m tick : ℕ) → Seen
look s v m tick = elim (any_of (eqb m) (machines s)) [ true ↦ seen_in (keep (running m tick) v.rows) | false ↦ NoMachine ]

-- 01's number and value for each case of a look's answer
abbrev pub seen_number : Seen → ℕ
seen_number Idle = 0
seen_number (Booked row) = 0
seen_number NoMachine = 13

abbrev pub seen_row : Seen → Option Row
seen_row Idle = none
seen_row (Booked row) = some row
seen_row NoMachine = none

-- The calls that demand 3 is about. A withdrawal and a clock move answer a number alone: the other figures are 0.
pub data Call : Type 0 where
  submits : Job → Call
  withdraws : ℕ → Call
  advances : ℕ → Call

pub record Step (S : Type 0) : Type 0 where
  pub answer : Answer
  pub left : S

-- a refusal leaves the register as it was
unfoldable pub settle : {S : Type 0} → Answer → (old changed : S) → Step S
settle a old changed = record { answer = a; left = cond (accepted a) changed old }

unfoldable pub step : Setup → State → Call → Step State
step s st (submits j) = settle (submit_answer s (view st) j) st (admit st (found (placing s (view st) j)))
step s st (withdraws n) = settle (withdraw_answer (view st) n) st (withdraw st n)
step s st (advances tick) = settle (advance_answer (view st) tick) st (advance st tick)

-- A list of calls, each handed what the last one left.
module _ {S : Type 0} (next : S → Call → Step S) where
  unfoldable pub answers : S → List Call → List Answer
  answers st [] = []
  answers st (c ∷ calls) = (next st c).answer ∷ answers (next st c).left calls

  unfoldable pub after : S → List Call → S
  after st [] = st
  after st (c ∷ calls) = after (next st c).left calls

  -- the list struck of its refused calls
  unfoldable pub struck : S → List Call → List Call
  struck st [] = []
  struck st (c ∷ calls) = cons_if (accepted (next st c).answer) c (struck (next st c).left calls)

-- Further examples of document 01's rules, worked out from its text: the order of the refusals, the ends of the ranges, the ties, and each link. They hold by
-- computation.
use Rattle.std.specs.Prelude.{cond, List, [], ◌∷◌, ◌++◌, map, ℕ, ◌+◌, ◌-◌, ◌*◌, eqb, length, replicate}
use Rattle.rules.specs.declared.Row.{Row}
use Rattle.rules.specs.declared.Task.{Task}
use Rattle.rules.specs.declared.Message.{Message}
use Rattle.rules.specs.declared.Job.{Job}
use Rattle.rules.specs.declared.Seen.TheVariants.{Idle, Booked, NoMachine}
use Rattle.rules.specs.Sequences.{numbers}
use Rattle.rules.specs.Words.{State, fresh}
use Rattle.rules.specs.Placing.{costs}
use Rattle.rules.specs.Refusals.{submits, withdraws, advances}
use Rattle.rules.specs.Ledger.{task, message, job_with, job, on, over_link, admitted, rejected, granted}
use Rattle.rules.specs.Ledger.{Given, calls, asked, looked, Effect, leaves, answered, sees, Example, job_A, job_H}

-- How the second table is written.

abbrev pub shows : Given → Effect → Example
shows g o = record { given = g; expected = o }

abbrev pub refuses : State → Job → (number task : ℕ) → Example
refuses st j n t = shows (asked st j) (answered (rejected n t))

abbrev pub admits : State → Job → (cost rows : ℕ) → Example
admits st j c n = shows (asked st j) (answered (admitted c n))

-- a fresh register admits the job, with this cost and these rows
abbrev pub gives : Job → (cost : ℕ) → List Row → Example
gives j c rows = shows (calls (submits j ∷ [])) (leaves (admitted c (length rows) ∷ []) rows)

abbrev pub holding : (clock : ℕ) → List Row → State
holding clock rows = record { calendar = record { clock = clock }; rows = rows; total = costs rows }

-- what n jobs leave that run for one tick each, on machine 4
abbrev pub filled_to : ℕ → State
filled_to n = holding 0 (map (λ k. on 4 (1_000 + k) 1 (k - 1) k 25) (numbers 1 n))

abbrev pub with_7 : State
with_7 = holding 0 (on 1 7 1 0 4 40 ∷ [])

-- the largest figure that a call can be given
abbrev pub greatest : ℕ
greatest = 18_446_744_073_709_551_615

-- one tick on machine 1
abbrev pub easy : Task
easy = task 100 0 1 0 0 0

-- no machine can run it
abbrev pub unrunnable : Task
unrunnable = task 100 0 0 0 0 0

-- dispatched after its deadline
abbrev pub overdue : Task
overdue = task 10 11 1 0 0 0

abbrev pub alone : (number : ℕ) → Task → Job
alone n t = job n (t ∷ []) []

-- two tasks of runs 4 and 2 on machine 1, with their deadlines
abbrev pub pair : (deadline deadline' : ℕ) → List Message → Job
pair d e ms = job 7 (task d 0 4 0 0 0 ∷ task e 0 2 0 0 0 ∷ []) ms

-- three tasks of one tick, with their messages
abbrev pub trio : List Message → Job
trio ms = job 7 (easy ∷ easy ∷ easy ∷ []) ms

-- H, with its number, its second deadline and its second dispatch time
abbrev pub like_H : (number deadline dispatch : ℕ) → Job
like_H n d g = job n (task 20 1 4 0 0 0 ∷ task d g 0 5 0 0 ∷ []) (message 1 2 3 ∷ [])

-- one tick, on this machine alone
abbrev pub only : (machine : ℕ) → Task
only m = record { deadline = 100; dispatch = 0; runs = map (λ k. cond (eqb k m) 1 0) (numbers 1 4) }

-- one tick on machine a, then a message of volume 1, then one tick on machine b; with the rates of a and b, and the time and the rate of the link
abbrev pub across : (a b : ℕ) (rate rate' time fails : ℕ) → Example
across a b ra rb t f =
    gives
    (job 7 (only a ∷ only b ∷ []) (message 1 2 1 ∷ []))
    (ra + rb + f * t)
    (on a 7 1 0 1 ra ∷ over_link a b 7 1 2 1 (1 + t) (f * t) ∷ on b 7 2 (1 + t) (2 + t) rb ∷ [])

-- run 4 on machine 1, then run 2 on machine 1 or 2, with the volume between them
abbrev pub either : (volume : ℕ) → Job
either v = job 7 (task 20 0 4 0 0 0 ∷ task 20 0 2 2 0 0 ∷ []) (message 1 2 v ∷ [])

-- all the entries that a job has room for, with these counts
abbrev pub counting : (taskcount messagecount : ℕ) → Job
counting n k = record {
  number = 7;
  scheduling = 0;
  taskcount = n;
  tasks = replicate 16 easy;
  messagecount = k;
  messages = replicate 32 (message 1 2 0);
}

-- one task and no message, and entries past these counts that would be refused
abbrev pub padded : Job
padded = record {
  number = 7;
  scheduling = 0;
  taskcount = 1;
  tasks = easy ∷ replicate 15 (task 0 0 0 0 0 0);
  messagecount = 0;
  messages = replicate 32 (message 0 0 0);
}

-- messages from tasks 1 to 4 to one task, the last with its volume
abbrev pub to_task : (receiver volume : ℕ) → List Message
to_task r v = message 1 r 1_000 ∷ message 2 r 1_000 ∷ message 3 r 1_000 ∷ message 4 r v ∷ []

-- 16 tasks and 32 messages of the largest figures, tasks 1 to 8 on machine 1 and 9 to 15 on machine 2; with the last task and the last volume
abbrev pub largest : (number scheduling : ℕ) (last : Task) (volume : ℕ) → Job
largest n g last v =
    job_with
    n
    g
    (replicate 8 (task 1_000_000_000 1_000_000 1_000_000 0 0 0)
    ++ (replicate 7 (task 1_000_000_000 1_000_000 0 1_000_000 0 0) ++ (last ∷ [])))
    (to_task 9 1_000
    ++ (to_task 10 1_000
    ++ (to_task 11 1_000
    ++ (to_task 12 1_000 ++ (to_task 13 1_000 ++ (to_task 14 1_000 ++ (to_task 15 1_000 ++ to_task 16 v)))))))

abbrev pub largest_last : Task → Job
largest_last last = largest 65_535 1_000_000 last 1_000

-- The order of the refusals: the first job of each pair breaks both rules, the second only the higher.
abbrev pub tests_in_order : List Example
tests_in_order =
    -- 1 before 2: number 0, and no task
    refuses fresh (job 0 [] []) 1 0
    ∷ refuses fresh (job 7 [] []) 2 0
    -- 2 before 3: no task, and a scheduling time out of range
    ∷ refuses fresh (job_with 7 1_000_001 [] []) 2 0
    ∷ refuses fresh (job_with 7 1_000_001 (easy ∷ []) []) 3 0
    -- 3 before 4: a deadline out of range, and a message of equal ends
    ∷ refuses fresh (pair 0 20 (message 1 1 0 ∷ [])) 3 0
    ∷ refuses fresh (pair 10 20 (message 1 1 0 ∷ [])) 4 0
    -- 4 before 5: such a message, and a number already held
    ∷ refuses with_7 (pair 10 20 (message 1 1 0 ∷ [])) 4 0
    ∷ refuses with_7 (pair 10 20 []) 5 0
    -- 5 before 6: a number already held, and a task without a machine
    ∷ refuses with_7 (alone 7 unrunnable) 5 0
    ∷ refuses with_7 (alone 8 unrunnable) 6 1
    -- 6 before 7: the task placed first is late, and the other has no machine
    ∷ refuses fresh (job 7 (overdue ∷ unrunnable ∷ []) []) 6 2
    ∷ refuses fresh (job 7 (overdue ∷ easy ∷ []) []) 7 1
    -- 7 and 8 never both apply: a late job has no rows found; into a full register it is 7
    ∷ refuses (filled_to 256) (alone 7 overdue) 7 1
    ∷ []

-- 6 and 7.
abbrev pub infeasible_or_late : List Example
infeasible_or_late =
    -- 6 names the lowest task, not the one of the earliest deadline
    refuses fresh (job 7 (easy ∷ unrunnable ∷ task 3 0 4 0 0 0 ∷ []) []) 6 2
    -- 6 reads the least run time that is not 0; equality is in time
    ∷ admits fresh (alone 7 (task 4 0 9 0 4 0)) 40 1
    ∷ refuses fresh (alone 7 (task 3 0 9 0 4 0)) 6 1
    -- 6 reads the clock
    ∷ admits (holding 5 []) (alone 7 (task 9 0 9 0 4 0)) 40 1
    ∷ refuses (holding 5 []) (alone 7 (task 8 0 9 0 4 0)) 6 1
    ∷ admits (holding 999_999_999 []) (alone 7 (task 1_000_000_000 0 1 0 0 0)) 10 1
    ∷ refuses (holding 1_000_000_000 []) (alone 7 (task 1_000_000_000 0 1 0 0 0)) 6 1
    -- 6 reads neither scheduling nor dispatch time: these are late
    ∷ refuses fresh (job_with 7 1 (task 4 0 9 0 4 0 ∷ []) []) 7 1
    ∷ refuses fresh (alone 7 (task 4 1 9 0 4 0)) 7 1
    -- 7 names the first in placing order: both are late, and task 2 has the earlier deadline
    ∷ refuses fresh (job 7 (task 12 20 1 0 0 0 ∷ task 10 20 1 0 0 0 ∷ []) []) 7 2
    ∷ []

-- 8.
abbrev pub full : List Example
full =
    -- with 256 rows held a job of one row is refused, with 255 it fits
    refuses (filled_to 256) (job_A 7 10) 8 0
    ∷ admits (filled_to 255) (job_A 7 10) 20 1
    -- rows of messages count
    ∷ refuses (filled_to 254) (job_H 16 3) 8 0
    ∷ admits (filled_to 253) (job_H 16 3) 90 3
    -- a message of volume 0 has no row
    ∷ admits (filled_to 254) (job_H 16 0) 60 2
    ∷ []

-- The ends of the ranges.
abbrev pub at_the_ends : List Example
at_the_ends =
    -- the largest figures are accepted, and the least
    admits fresh (largest 65_535 1_000_000 (task 1_000_000_000 1_000_000 0 1_000_000 0 0) 1_000) 112_320_000 48
    ∷ admits fresh (alone 1 (task 1 0 1 0 0 0)) 10 1
    -- the job's number; 0 stands in `in_order`
    ∷ refuses fresh (alone 65_536 easy) 1 0
    ∷ refuses fresh (alone greatest easy) 1 0
    -- the counts
    ∷ admits fresh (counting 16 1) 160 16
    ∷ refuses fresh (counting 0 0) 2 0
    ∷ refuses fresh (counting 17 0) 2 0
    ∷ refuses fresh (counting greatest 0) 2 0
    ∷ refuses fresh (counting 16 33) 2 0
    ∷ refuses fresh (counting 16 greatest) 2 0
    -- entries past the counts are no part of the job
    ∷ admits fresh padded 10 1
    -- the scheduling time
    ∷ refuses fresh (largest 65_535 1_000_001 easy 1_000) 3 0
    ∷ refuses fresh (largest 65_535 greatest easy 1_000) 3 0
    -- a deadline, of the last task
    ∷ refuses fresh (largest_last (task 0 0 1 1 1 1)) 3 0
    ∷ refuses fresh (largest_last (task 1_000_000_001 0 1 1 1 1)) 3 0
    ∷ refuses fresh (largest_last (task greatest 0 1 1 1 1)) 3 0
    -- a dispatch time
    ∷ refuses fresh (largest_last (task 1_000_000_000 1_000_001 1 1 1 1)) 3 0
    ∷ refuses fresh (largest_last (task 1_000_000_000 greatest 1 1 1 1)) 3 0
    -- a run time, on each machine
    ∷ refuses fresh (largest_last (task 1_000_000_000 0 1_000_001 1 1 1)) 3 0
    ∷ refuses fresh (largest_last (task 1_000_000_000 0 1 1_000_001 1 1)) 3 0
    ∷ refuses fresh (largest_last (task 1_000_000_000 0 1 1 1_000_001 1)) 3 0
    ∷ refuses fresh (largest_last (task 1_000_000_000 0 1 1 1 1_000_001)) 3 0
    ∷ refuses fresh (largest_last (task 1_000_000_000 0 1 1 1 greatest)) 3 0
    -- a volume, of the last message
    ∷ refuses fresh (largest 65_535 1_000_000 easy 1_001) 4 0
    ∷ refuses fresh (largest 65_535 1_000_000 easy greatest) 4 0
    ∷ []

-- 4.
abbrev pub badly_listed : List Example
badly_listed =
    -- strictly ascending by receiver, then sender: accepted
    admits fresh (trio (message 1 2 0 ∷ message 1 3 0 ∷ message 2 3 0 ∷ [])) 30 3
    -- one pair twice
    ∷ refuses fresh (trio (message 1 2 0 ∷ message 1 2 5 ∷ [])) 4 0
    -- receivers out of order
    ∷ refuses fresh (trio (message 1 3 0 ∷ message 1 2 0 ∷ [])) 4 0
    -- senders out of order
    ∷ refuses fresh (trio (message 1 2 0 ∷ message 2 3 0 ∷ message 1 3 0 ∷ [])) 4 0
    -- equal ends
    ∷ refuses fresh (trio (message 2 2 0 ∷ [])) 4 0
    -- the sender above the receiver
    ∷ refuses fresh (trio (message 3 2 0 ∷ [])) 4 0
    ∷ refuses fresh (trio (message greatest 2 0 ∷ [])) 4 0
    -- sender 0
    ∷ refuses fresh (trio (message 0 2 0 ∷ [])) 4 0
    -- the receiver past the count, or both ends
    ∷ refuses fresh (trio (message 3 4 0 ∷ [])) 4 0
    ∷ refuses fresh (trio (message 1 greatest 0 ∷ [])) 4 0
    ∷ refuses fresh (trio (message 4 5 0 ∷ [])) 4 0
    ∷ []

-- 9 to 12.
abbrev pub withdrawals_and_advances : List Example
withdrawals_and_advances =
    -- 9: a number that is not held, in range or not
    shows
    (calls (withdraws 7 ∷ withdraws 0 ∷ withdraws greatest ∷ []))
    (leaves (rejected 9 0 ∷ rejected 9 0 ∷ rejected 9 0 ∷ []) [])
    -- 10: two rows have ended and the third has not begun; all three stay
    ∷ shows
    (calls (submits (like_H 7 50 30) ∷ advances 11 ∷ withdraws 7 ∷ []))
    (leaves (admitted 90 3 ∷ granted ∷ rejected 10 0 ∷ []) (on 1 7 1 1 5 40 ∷ over_link 1 2 7 1 2 5 11 30 ∷ on 2 7 2 31 36 20 ∷ []))
    -- 10 asks the rows of that job alone
    ∷ shows
    (calls (submits (job_A 7 10) ∷ submits (alone 8 (task 100 30 4 0 0 0)) ∷ advances 2 ∷ withdraws 7 ∷ withdraws 8 ∷ []))
    (leaves (admitted 20 1 ∷ admitted 40 1 ∷ granted ∷ rejected 10 0 ∷ granted ∷ []) (on 2 7 1 1 6 20 ∷ []))
    -- when the third ends they leave
    ∷ shows
    (calls (submits (like_H 7 50 30) ∷ advances 35 ∷ withdraws 7 ∷ advances 36 ∷ withdraws 7 ∷ []))
    (leaves (admitted 90 3 ∷ granted ∷ rejected 10 0 ∷ granted ∷ rejected 9 0 ∷ []) [])
    -- a withdrawal keeps the other rows in order, and what it frees serves a later job
    ∷ shows
    (calls
    (submits (alone 1 (task 9 1 1 0 0 0))
    ∷ submits (alone 2 (task 9 1 1 0 0 0))
    ∷ submits (alone 3 (task 9 1 2 0 0 0))
    ∷ withdraws 2
    ∷ submits (alone 4 (task 9 1 1 0 0 0))
    ∷ []))
    (leaves
    (admitted 10 1 ∷ admitted 10 1 ∷ admitted 20 1 ∷ granted ∷ admitted 10 1 ∷ [])
    (on 1 1 1 1 2 10 ∷ on 1 3 1 3 5 20 ∷ on 1 4 1 2 3 10 ∷ []))
    -- 5 until the job has ended; then its number is free
    ∷ shows
    (calls (submits (job_A 7 10) ∷ advances 5 ∷ submits (job_A 7 20) ∷ advances 6 ∷ submits (job_A 7 20) ∷ []))
    (leaves (admitted 20 1 ∷ granted ∷ rejected 5 0 ∷ granted ∷ admitted 20 1 ∷ []) (on 2 7 1 7 12 20 ∷ []))
    -- 11; the present tick is accepted
    ∷ shows (calls (advances 5 ∷ advances 4 ∷ advances 5 ∷ [])) (leaves (granted ∷ rejected 11 0 ∷ granted ∷ []) [])
    -- 12; the last tick is accepted
    ∷ shows
    (calls (advances 1_000_000_001 ∷ advances greatest ∷ advances 1_000_000_000 ∷ advances 1_000_000_000 ∷ advances 999_999_999 ∷ []))
    (leaves (rejected 12 0 ∷ rejected 12 0 ∷ granted ∷ granted ∷ rejected 11 0 ∷ []) [])
    ∷ []

-- Placing: the ties, the order of the tasks, and the links.
abbrev pub placings : List Example
placings =
    -- cost and start tie on machines 1 and 3: the lower machine
    gives (alone 7 (task 20 1 4 0 4 0)) 40 (on 1 7 1 1 5 40 ∷ [])
    -- after B costs tie: the earlier start
    ∷ shows
    (calls (submits (job_A 7 5) ∷ submits (alone 8 (task 20 1 4 0 4 0)) ∷ []))
    (leaves (admitted 40 1 ∷ admitted 40 1 ∷ []) (on 1 7 1 1 5 40 ∷ on 3 8 1 1 5 40 ∷ []))
    -- after B the lower cost, though it starts later
    ∷ shows
    (calls (submits (job_A 7 5) ∷ submits (alone 8 (task 20 1 4 0 5 0)) ∷ []))
    (leaves (admitted 40 1 ∷ admitted 40 1 ∷ []) (on 1 7 1 1 5 40 ∷ on 1 8 1 5 9 40 ∷ []))
    -- equal deadlines: by number
    ∷ gives (pair 20 20 []) 60 (on 1 7 1 0 4 40 ∷ on 1 7 2 4 6 20 ∷ [])
    -- the earlier deadline first
    ∷ gives (pair 20 10 []) 60 (on 1 7 2 0 2 20 ∷ on 1 7 1 2 6 40 ∷ [])
    -- but a sender before its receiver; on one machine their message takes no row
    ∷ gives (pair 20 10 (message 1 2 9 ∷ [])) 60 (on 1 7 1 0 4 40 ∷ on 1 7 2 4 6 20 ∷ [])
    -- dispatch times add up in placing order: task 2 from 2 + 3 on, task 1 from 2 + 3 + 5 on
    ∷ gives
    (job_with 7 2 (task 30 5 4 0 0 0 ∷ task 10 3 0 2 0 0 ∷ []) [])
    48
    (on 2 7 2 5 7 8 ∷ on 1 7 1 10 14 40 ∷ [])
    -- a message does not wait for its receiver's dispatch
    ∷ gives (like_H 7 50 30) 90 (on 1 7 1 1 5 40 ∷ over_link 1 2 7 1 2 5 11 30 ∷ on 2 7 2 31 36 20 ∷ [])
    -- machine 2 with its link, 8 + 10, costs less than machine 1, 20
    ∷ gives (either 1) 58 (on 1 7 1 0 4 40 ∷ over_link 1 2 7 1 2 4 6 10 ∷ on 2 7 2 6 8 8 ∷ [])
    -- 8 + 20 costs more, and the trial of machine 2 leaves no row
    ∷ gives (either 2) 60 (on 1 7 1 0 4 40 ∷ on 1 7 2 4 6 20 ∷ [])
    -- the rows of another job count, on machines and links
    ∷ shows
    (calls (submits (like_H 7 16 1) ∷ submits (like_H 8 30 1) ∷ []))
    (leaves
    (admitted 90 3 ∷ admitted 90 3 ∷ [])
    (on 1 7 1 1 5 40
    ∷ over_link 1 2 7 1 2 5 11 30
    ∷ on 2 7 2 11 16 20
    ∷ on 1 8 1 5 9 40
    ∷ over_link 1 2 8 1 2 11 17 30
    ∷ on 2 8 2 17 22 20
    ∷ []))
    -- and so do the rows of this job's earlier tasks
    ∷ gives
    (job 7 (task 20 0 4 0 0 0 ∷ task 20 0 0 2 0 0 ∷ task 30 0 0 2 0 0 ∷ []) (message 1 2 2 ∷ message 1 3 2 ∷ []))
    96
    (on 1 7 1 0 4 40 ∷ over_link 1 2 7 1 2 4 8 20 ∷ on 2 7 2 8 10 8 ∷ over_link 1 2 7 1 3 8 12 20 ∷ on 2 7 3 12 14 8 ∷ [])
    -- links that share their sending machine do not disturb each other
    ∷ gives
    (job 7 (task 20 0 4 0 0 0 ∷ task 30 0 0 5 0 0 ∷ task 40 0 0 0 5 0 ∷ []) (message 1 2 2 ∷ message 1 3 2 ∷ []))
    178
    (on 1 7 1 0 4 40 ∷ over_link 1 2 7 1 2 4 8 20 ∷ on 2 7 2 8 13 20 ∷ over_link 1 3 7 1 3 4 10 48 ∷ on 3 7 3 10 15 50 ∷ [])
    -- nor do links that share their receiving machine
    ∷ gives
    (job 7 (task 20 0 4 0 0 0 ∷ task 20 0 0 4 0 0 ∷ task 40 0 0 0 5 0 ∷ []) (message 1 3 2 ∷ message 2 3 2 ∷ []))
    168
    (on 1 7 1 0 4 40 ∷ on 2 7 2 0 4 16 ∷ over_link 1 3 7 1 3 4 10 48 ∷ over_link 2 3 7 2 3 4 6 14 ∷ on 3 7 3 10 15 50 ∷ [])
    -- link 1 to 2 and link 2 to 1 do not disturb each other
    ∷ gives
    (job
    7
    (task 20 0 4 0 0 0 ∷ task 20 0 0 4 0 0 ∷ task 30 0 0 2 0 0 ∷ task 30 0 2 0 0 0 ∷ [])
    (message 1 3 2 ∷ message 2 4 2 ∷ []))
    124
    (on 1 7 1 0 4 40
    ∷ on 2 7 2 0 4 16
    ∷ over_link 1 2 7 1 3 4 8 20
    ∷ on 2 7 3 8 10 8
    ∷ over_link 2 1 7 2 4 4 8 20
    ∷ on 1 7 4 8 10 20
    ∷ [])
    ∷ []

-- Looks at a register that holds A's row, on machine 2 from 1 to 6, and a link row from machine 1 to machine 2, from 6 to 9.
abbrev pub looked_at : State
looked_at = holding 0 (on 2 7 1 1 6 20 ∷ over_link 1 2 8 1 2 6 9 15 ∷ [])

abbrev pub looks : List Example
looks =
    -- a row holds its start and not its finish
    shows (looked looked_at 2 0) (sees Idle)
    ∷ shows (looked looked_at 2 1) (sees (Booked (on 2 7 1 1 6 20)))
    ∷ shows (looked looked_at 2 5) (sees (Booked (on 2 7 1 1 6 20)))
    ∷ shows (looked looked_at 2 6) (sees Idle)
    -- rows of other machines are not seen, nor are links, at either end
    ∷ shows (looked looked_at 1 3) (sees Idle)
    ∷ shows (looked looked_at 1 7) (sees Idle)
    ∷ shows (looked looked_at 2 7) (sees Idle)
    -- any tick may be asked
    ∷ shows (looked looked_at 4 greatest) (sees Idle)
    -- 13: no such machine
    ∷ shows (looked looked_at 0 3) (sees NoMachine)
    ∷ shows (looked looked_at 5 3) (sees NoMachine)
    ∷ shows (looked looked_at greatest 3) (sees NoMachine)
    ∷ []

-- The default tables: two machines, their rates, and the time and the rate of the link.
abbrev pub each_link : List Example
each_link =
    across 1 2 10 4 2 5
    ∷ across 1 3 10 10 3 8
    ∷ across 1 4 10 25 1 6
    ∷ across 2 1 4 10 2 5
    ∷ across 2 3 4 10 1 7
    ∷ across 2 4 4 25 4 9
    ∷ across 3 1 10 10 3 8
    ∷ across 3 2 10 4 1 7
    ∷ across 3 4 10 25 2 5
    ∷ across 4 1 25 10 1 6
    ∷ across 4 2 25 4 4 9
    ∷ across 4 3 25 10 2 5
    ∷ []

unfoldable pub refusal_table : List Example
refusal_table =
    tests_in_order ++ (infeasible_or_late ++ (full ++ (at_the_ends ++ (badly_listed ++ (withdrawals_and_advances ++ (looks ++ (placings ++ each_link)))))))

-- A reader must believe this: document 01, "Placing a job": DRCD of source document 004, as 01 fixes it.
use Rattle.std.specs.Prelude.{Bool, false, not, ◌&&◌, cond, List, [], ◌∷◌, ◌++◌, map, ℕ, zero, suc, ◌+◌, ◌*◌, max, ltb, leb, eqb}
use Rattle.std.proofs.Math.Option.{Option, none, some}
use Rattle.rules.specs.declared.Holder.{Holder}
use Rattle.rules.specs.declared.Holder.TheVariants.{TaskOn, MessageOn}
use Rattle.rules.specs.declared.Row.{Row}
use Rattle.rules.specs.declared.Message.{Message}
use Rattle.rules.specs.declared.Job.{Job}
use Rattle.rules.specs.declared.Setup.{Setup}
use Rattle.rules.specs.Sequences.{any_of, all_of, keep, first_or, sum_of, foremost}
use Rattle.rules.specs.Words.{Span, meets, Resource, machine, link, same, Hold, holds, machines, rate, link_time, link_rate}
use Rattle.rules.specs.Words.{messages_of, task_numbers, task_of, run_time}

-- The least free tick.

unfoldable pub spans_on : Resource → List Hold → List Span
spans_on r hs = map (λ h. h.span) (keep (λ h. same h.on r) hs)

-- `len` ticks from `tick` on meet none of the spans
unfoldable pub free : (len : ℕ) → List Span → (tick : ℕ) → Bool
free len spans tick = not (any_of (meets (record { start = tick; finish = tick + len })) spans)

-- a tick at which nothing is booked any more
unfoldable pub latest : ℕ → List Span → ℕ
latest from [] = from
latest from (s ∷ spans) = max s.finish (latest from spans)

-- the earliest of the ticks tried that is free, not before `from`, or else `last`
unfoldable pub earliest : (from len : ℕ) → List Span → (last : ℕ) → (ticks : List ℕ) → ℕ
earliest from len spans last [] = last
earliest from len spans last (t ∷ ticks) =
    let rest = earliest from len spans last ticks in
    cond (leb from t && (ltb t rest && free len spans t)) t rest

-- The least tick, not before `from`, at which `len` ticks meet none of the spans: `from` itself, or else a tick at which one of them ends.
unfoldable pub least_free : (from len : ℕ) → List Span → ℕ
least_free from len spans = earliest from len spans (latest from spans) (from ∷ map (λ s. s.finish) spans)

-- The rows. These two make all there are.

abbrev pub task_booking : Setup → Job → (task on start : ℕ) → Row
task_booking s j t m start = record {
  holder = TaskOn m t;
  job = j.number;
  start = start;
  finish = start + run_time j t m;
  cost = rate s m * run_time j t m;
}

-- the link time that a message needs from machine a to machine b
abbrev pub transfer : Setup → Message → (a b : ℕ) → ℕ
transfer s msg a b = link_time s a b * msg.volume

abbrev pub message_booking : Setup → Job → Message → (a b start : ℕ) → Row
message_booking s j msg a b start = record {
  holder = MessageOn a b msg.sender msg.receiver;
  job = j.number;
  start = start;
  finish = start + transfer s msg a b;
  cost = link_rate s a b * transfer s msg a b;
}

-- What the rows of one job say of its tasks and messages.

unfoldable pub is_task : ℕ → Holder → Bool
is_task t (TaskOn m k) = eqb k t
is_task t (MessageOn a b x y) = false

unfoldable pub is_message : (sender receiver : ℕ) → Holder → Bool
is_message x y (TaskOn m k) = false
is_message x y (MessageOn a b u v) = eqb u x && eqb v y

abbrev pub books_task : ℕ → Row → Bool
books_task t row = is_task t row.holder

abbrev pub books_message : Message → Row → Bool
books_message msg row = is_message msg.sender msg.receiver row.holder

abbrev pub no_row : Row
no_row = record { holder = TaskOn 0 0; job = 0; start = 0; finish = 0; cost = 0 }

abbrev pub task_row : List Row → ℕ → Row
task_row rows t = first_or no_row (books_task t) rows

abbrev pub message_row : List Row → Message → Row
message_row rows msg = first_or no_row (books_message msg) rows

-- the machine of a task's row, the sending machine of a message's
unfoldable pub machine_of : Holder → ℕ
machine_of (TaskOn m t) = m
machine_of (MessageOn a b x y) = a

abbrev pub machine_for : List Row → ℕ → ℕ
machine_for rows t = machine_of (task_row rows t).holder

abbrev pub placed : List Row → ℕ → Bool
placed rows t = any_of (books_task t) rows

-- a message takes a row if it goes to another machine and its volume is above 0
abbrev pub crosses : Message → (a b : ℕ) → Bool
crosses msg a b = not (eqb a b) && ltb 0 msg.volume

-- A message with a row arrives at its finish, any other at its sender's finish; `b` is its receiver's machine.
unfoldable pub arrival : List Row → Message → (b : ℕ) → ℕ
arrival rows msg b = cond (crosses msg (machine_for rows msg.sender) b) (message_row rows msg).finish (task_row rows msg.sender).finish

-- The order of the tasks. `new` is what this job has booked so far.

-- the messages into a task; in a listed job they stand by ascending sender
abbrev pub into : Job → ℕ → List Message
into j t = keep (λ msg. eqb msg.receiver t) (messages_of j)

unfoldable pub ready : Job → List Row → ℕ → Bool
ready j new t = not (placed new t) && all_of (λ msg. placed new msg.sender) (into j t)

-- among those whose senders are all placed, the earliest deadline, then the lowest number
unfoldable pub next_task : Job → List Row → Option ℕ
next_task j new = foremost (λ t. (task_of j t).deadline ∷ t ∷ []) (keep (ready j new) (task_numbers j))

-- What a job is placed on: the tick from which its floors count, and what is held when it comes.
pub record Ground : Type 0 where
  pub base : ℕ
  pub held : List Hold

-- the ground of a base tick and rows
abbrev pub on_rows : (base : ℕ) → List Row → Ground
on_rows base rows = record { base = base; held = holds rows }

-- 01's floor: the base, and the dispatch times of the tasks placed so far and of this one
unfoldable pub release : Ground → Job → List Row → ℕ → ℕ
release g j new t = g.base + sum_of (λ k. (task_of j k).dispatch) (keep (placed new) (task_numbers j)) + (task_of j t).dispatch

-- A trial of machine m for task t. Everything is sought beside what is held, the rows `new`, and those of this task's messages already tried.

module _ (s : Setup) (held : List Hold) (j : Job) (new : List Row) (m : ℕ) where
  -- the row that a message takes beside those tried before it, if it takes one
  unfoldable pub message_trial : List Row → Message → List Row
  message_trial tried msg =
      let a = machine_for new msg.sender in
      let at = least_free (task_row new msg.sender).finish (transfer s msg a m) (spans_on (link a m) (held ++ holds (new ++ tried))) in
      cond (crosses msg a m) (message_booking s j msg a m at ∷ []) []

  unfoldable pub message_trials : List Row → List Message → List Row
  message_trials tried [] = tried
  message_trials tried (msg ∷ msgs) = message_trials (tried ++ message_trial tried msg) msgs

-- the later of a tick and the arrivals
unfoldable pub all_arrived : (rows : List Row) (b : ℕ) (from : ℕ) → List Message → ℕ
all_arrived rows b from [] = from
all_arrived rows b from (msg ∷ msgs) = max (arrival rows msg b) (all_arrived rows b from msgs)

pub record Trial : Type 0 where
  -- the rows of the messages that take one, then the task's own
  pub inputs : List Row
  pub own : Row

abbrev pub trial_rows : Trial → List Row
trial_rows trial = trial.inputs ++ (trial.own ∷ [])

abbrev pub costs : List Row → ℕ
costs rows = sum_of (λ row. row.cost) rows

module _ (s : Setup) (g : Ground) (j : Job) (new : List Row) (t : ℕ) where
  unfoldable pub try : ℕ → Trial
  try m =
      let inputs = message_trials s g.held j new m [] (into j t) in
      let from = all_arrived (new ++ inputs) m (release g j new t) (into j t) in
      let start = least_free from (run_time j t m) (spans_on (machine m) (g.held ++ holds new)) in
      record { inputs = inputs; own = task_booking s j t m start }

  unfoldable pub good : Trial → Bool
  good trial = leb trial.own.finish (task_of j t).deadline

  -- each machine with a non-zero run time is tried
  unfoldable pub good_trials : List Trial
  good_trials = keep good (map try (keep (λ m. ltb 0 (run_time j t m)) (machines s)))

  -- the lowest cost, then the earliest start, then the lowest machine
  unfoldable pub choice : Option Trial
  choice = foremost (λ trial. costs (trial_rows trial) ∷ trial.own.start ∷ machine_of trial.own.holder ∷ []) good_trials

-- A whole job.

pub data Placing : Type 0 where
  booked : List Row → Placing
  late : ℕ → Placing

-- what is done at one turn: nothing is ready, the task has no good trial, or these rows are booked
pub data Turn : Type 0 where
  over : Turn
  misses : ℕ → Turn
  books : ℕ → Trial → Turn

module _ (s : Setup) (g : Ground) (j : Job) where
  unfoldable pub turn : List Row → Turn
  turn new =
      elim (next_task j new) [
        | none ↦ over
        | some t ↦ elim (choice s g j new t) [ none ↦ misses t | some trial ↦ books t trial ]
      ]

  unfoldable pub place_from : (turns : ℕ) → List Row → Placing
  place_from zero new = booked new
  place_from (suc k) new =
      elim (turn new) [
        | over ↦ booked new
        | misses t ↦ late t
        | books t trial ↦ place_from k (new ++ trial_rows trial)
      ]

  -- one turn for each task
  unfoldable pub place : Placing
  place = place_from j.taskcount []

-- Between functions: what a trial asks and gives.
use Rattle.std.specs.Prelude.{◌≡◌, true, false, ℕ, zero, suc, ◌+◌, ◌*◌, ◌≤◌, ◌<◌, length, get_or, Option, Some, None}
use mathlib.Core.List.{List, [], ◌∷◌, ◌++◌, Memᴰ}
use Rattle.rules.specs.declared.Row.{Row}
use Rattle.rules.specs.declared.Message.{Message}
use Rattle.rules.specs.declared.Job.{Job}
use Rattle.rules.specs.declared.Setup.{Setup}
use Rattle.rules.specs.Sequences.{any_of}
use Rattle.rules.specs.Words.{Hold, link, holds, horizon, largest_time, largest_volume, most_tasks, most_messages, no_message}
use Rattle.rules.specs.Words.{link_time, link_rate, run_time}
use Rattle.rules.specs.Placing.{Ground, spans_on, least_free, message_booking, books_message, machine_for, task_row, placed, into, release}
use Rattle.rules.specs.Placing.{message_trials, all_arrived, costs, trial_rows, try}
use Rattle.rules.specs.Laws.{IsTask}
use Rattle.rules.specs.Bounds.{Sound, Between, largest_link_time, largest_cost}
use Rattle.rules.specs.Demands.{InRange}
use Rattle.timeline.specs.Timeline.{tick_limit}
use Rattle.timeline.specs.Lines.{DrawnOn}
use Rattle.timeline.specs.Spans.{Spans}
use Rattle.drcd.specs.declared.TaskTurn.{TaskTurn}
use Rattle.drcd.specs.declared.Attempt.{Attempt}
use Rattle.drcd.specs.declared.inputs.Input.{Input}
use Rattle.drcd.specs.declared.trial.Sent.{Sent}
use Rattle.drcd.specs.declared.trial.Arrivals.{Arrivals}
use Rattle.drcd.specs.Inputs.{InputsOf}

-- no tick of a trial lies past this, with k messages tried: those of a trial that is not good may pass the horizon
abbrev pub reach : ℕ → ℕ
reach k = horizon + (1 + most_tasks) * largest_time + k * (largest_link_time * largest_volume)

-- One message, to a machine.

abbrev pub link_ticks : Setup → Input → ℕ → ℕ
link_ticks s input m = link_time s input.source m * input.volume

-- what it takes of its link
abbrev pub hold_sent : Input → ℕ → Sent → Hold
hold_sent input m r = record { on = link input.source m; span = record { start = r.start; finish = r.finish } }

pub record AskSend (s : Setup) (line : Spans) (tried : Spans) (input : Input) (m : ℕ) : Type 0 where
  pub held : List Hold
  pub holds_tried : List Hold
  pub sound : Sound s
  pub drawn : DrawnOn held line
  pub drawn_tried : DrawnOn holds_tried tried
  pub few : tried.count < most_messages
  pub held_end : (h : Hold) → Memᴰ h held → h.span.finish ≤ horizon
  pub tried_end : (h : Hold) → Memᴰ h holds_tried → h.span.finish ≤ reach tried.count
  pub source : Between 1 s.table.machines input.source
  pub target : Between 1 s.table.machines m
  pub other : input.source ≡ m → ⊥
  pub done : input.done ≤ horizon
  pub some : 1 ≤ input.volume
  pub volume : input.volume ≤ largest_volume

pub record SentIs (s : Setup) (line : Spans) (tried : Spans) (input : Input) (m : ℕ)
    (tried' : Spans) (r : Sent)
    : Type 0 where
  pub count_is : tried'.count ≡ tried.count + 1
  pub lasts : r.start < r.finish
  pub by : r.finish ≤ reach (tried.count + 1)
  pub cost_at_most : r.cost ≤ largest_cost
  pub finish_is : r.finish ≡ r.start + link_ticks s input m
  pub cost_is : r.cost ≡ link_rate s input.source m * link_ticks s input m
  -- for all holds that they are drawn of
  pub start_is :
      (held holds_tried : List Hold) → DrawnOn held line → DrawnOn holds_tried tried →
      r.start ≡ least_free input.done (link_ticks s input m) (spans_on (link input.source m) (held ++ holds_tried))
  pub joins : (holds_tried : List Hold) → DrawnOn holds_tried tried → DrawnOn (holds_tried ++ (hold_sent input m r ∷ [])) tried'

-- The turn of a task.

-- the timeline is that of what is held and booked so far, and the inputs are those of the messages into the task
pub record Scene (s : Setup) (j : Job) (g : Ground) (new : List Row) (inputs : List Input) (line : Spans) (turn : TaskTurn) : Type 0 where
  pub sound : Sound s
  pub range : InRange s j
  pub drawn : DrawnOn (g.held ++ holds new) line
  pub held_end : (h : Hold) → Memᴰ h (g.held ++ holds new) → h.span.finish ≤ horizon
  pub listed : IsTask j (turn.t + 1)
  pub inputs_are : InputsOf j new (turn.t + 1) inputs
  pub release_is : turn.release ≡ release g j new (turn.t + 1)
  pub release_at_most : turn.release ≤ reach 0
  pub senders_placed : (msg : Message) → Memᴰ msg (into j (turn.t + 1)) → placed new msg.sender ≡ true
  pub senders_on : (msg : Message) → Memᴰ msg (into j (turn.t + 1)) → Between 1 s.table.machines (machine_for new msg.sender)
  pub senders_done : (msg : Message) → Memᴰ msg (into j (turn.t + 1)) → (task_row new msg.sender).finish ≤ horizon
  -- no message into the task has a row yet
  pub none_ahead : (msg : Message) → Memᴰ msg (into j (turn.t + 1)) → any_of (books_message msg) new ≡ false

pub record AskInputs (s : Setup) (inputs : List Input) (line : Spans) (turn : TaskTurn) (m : ℕ) : Type 0 where
  pub job : Job
  pub ground : Ground
  pub new : List Row
  pub scene : Scene s job ground new inputs line turn
  pub there : Between 1 s.table.machines m

-- the row of a message, if it has a start
abbrev pub rows_booked : Setup → Job → Message → (a b : ℕ) → Option ℕ → List Row
rows_booked s j msg a b None = []
rows_booked s j msg a b (Some start) = message_booking s j msg a b start ∷ []

module _ (s : Setup) (j : Job) (new : List Row) (m : ℕ) (msgs : List Message) (starts : List (Option ℕ)) where
  -- that of the message at an index
  abbrev pub message_row_at : ℕ → List Row
  message_row_at i = let msg = get_or msgs i no_message in rows_booked s j msg (machine_for new msg.sender) m (get_or starts i None)

  -- those of the first so many
  unfoldable pub rows_upto : ℕ → List Row
  rows_upto zero = []
  rows_upto (suc i) = rows_upto i ++ message_row_at i

pub record TriedIs (s : Setup) (inputs : List Input) (line : Spans) (turn : TaskTurn) (m : ℕ) (starts : List (Option ℕ)) (r : Arrivals) :
    Type 0 where
  pub arrived_at_most : r.arrived ≤ reach most_messages
  pub cost_at_most : r.cost ≤ most_messages * largest_cost
  pub rows_are :
      (j : Job) (g : Ground) (new : List Row) → Scene s j g new inputs line turn → Between 1 s.table.machines m →
      message_trials s g.held j new m [] (into j (turn.t + 1)) ≡ rows_upto s j new m (into j (turn.t + 1)) starts (length inputs)
  pub arrived_is :
      (j : Job) (g : Ground) (new : List Row) → Scene s j g new inputs line turn → Between 1 s.table.machines m →
      r.arrived
      ≡ all_arrived (new ++ message_trials s g.held j new m [] (into j (turn.t + 1))) m (release g j new (turn.t + 1)) (into j (turn.t + 1))
  pub cost_is :
      (j : Job) (g : Ground) (new : List Row) → Scene s j g new inputs line turn → Between 1 s.table.machines m →
      r.cost ≡ costs (message_trials s g.held j new m [] (into j (turn.t + 1)))

-- A trial.

pub record AskAttempt (s : Setup) (inputs : List Input) (line : Spans) (turn : TaskTurn) (m run : ℕ) : Type 0 where
  pub inputs_ask : AskInputs s inputs line turn m
  pub run_is : run ≡ run_time inputs_ask.job (turn.t + 1) m
  pub able : 1 ≤ run

-- the figures are those of the rules' trial, and the starts those of its messages
pub record IsTrial (s : Setup) (j : Job) (g : Ground) (new : List Row) (t m : ℕ) (it : Attempt) (starts : List (Option ℕ)) : Type 0 where
  pub cost_is : it.cost ≡ costs (trial_rows (try s g j new t m))
  pub start_is : it.start ≡ (try s g j new t m).own.start
  pub finish_is : it.finish ≡ (try s g j new t m).own.finish
  pub inputs_are : (try s g j new t m).inputs ≡ rows_upto s j new m (into j t) starts (length (into j t))

pub record AttemptBounds (it : Attempt) : Type 0 where
  pub cost_at_most : it.cost ≤ (most_messages + 1) * largest_cost
  pub start_at_most : it.start ≤ tick_limit
  pub finish_at_most : it.finish ≤ tick_limit + largest_time

pub record AttemptIs (s : Setup) (inputs : List Input) (line : Spans) (turn : TaskTurn) (m run : ℕ) (it : Attempt) (starts : List (Option ℕ)) :
    Type 0 where
  pub bounds : AttemptBounds it
  pub is :
      (j : Job) (g : Ground) (new : List Row) → Scene s j g new inputs line turn → Between 1 s.table.machines m → run ≡ run_time j (turn.t + 1) m →
      IsTrial s j g new (turn.t + 1) m it starts

-- A reader must believe this: what the laws of proofs/ show of the definitions, in the words of document 01 and of the paper. Claims cite these words.
use Rattle.std.specs.Prelude.{◌≡◌, ◌↔◌, true, ℕ, ◌+◌, ◌≤◌, ◌<◌, length, Option, Some, None}
use Rattle.std.proofs.Math.Option.{none, some}
use mathlib.Core.List.{List, [], ◌∷◌, ◌++◌, Memᴰ}
use Rattle.rules.specs.declared.Call.TheVariants.{Submit, Withdraw, Advance}
use Rattle.rules.specs.declared.Job.{Job}
use Rattle.rules.specs.declared.Message.{Message}
use Rattle.rules.specs.declared.Row.{Row}
use Rattle.rules.specs.declared.Setup.{Setup}
use Rattle.rules.specs.Words.{State, Span, Within, Resource, machine, link, same, resource, span, Hold, holds, messages_of, task_of, run_time}
use Rattle.rules.specs.Words.{no_message}
use Rattle.rules.specs.Placing.{Ground, task_row, machine_for, crosses, arrival, message_booking, transfer, ready, release, message_trial, try}
use Rattle.rules.specs.Placing.{trial_rows, costs}
use Rattle.rules.specs.Refusals.{running, Call, submits, withdraws, advances, step, answers}
use Rattle.rules.specs.Answers.{option_of}
use Rattle.rules.specs.Kinds.{call_of}

-- Resources: a machine is itself alone, and a link is one ordered pair.
abbrev pub SameSays : Type 0
SameSays = (a b : Resource) → (same a b ≡ true) ↔ (a ≡ b)

-- a row of machine m that holds the tick
pub record RunsAt (m tick : ℕ) (row : Row) : Type 0 where
  pub on : resource row ≡ machine m
  pub within : Within tick (span row)

abbrev pub RunningSays : Type 0
RunningSays = (m tick : ℕ) (row : Row) → (running m tick row ≡ true) ↔ RunsAt m tick row

-- a tick is taken if some span holds it
abbrev pub Taken : List Span → ℕ → Type 0
Taken spans tick = (s : Span) × Memᴰ s spans × Within tick s

-- `len` ticks from `tick` on are all untaken
abbrev pub Free : (len : ℕ) → List Span → ℕ → Type 0
Free len spans tick = (x : ℕ) → tick ≤ x → x < tick + len → Taken spans x → ⊥

-- the least tick, not before `from`, at which `len` ticks are free
pub record IsLeast (from len : ℕ) (spans : List Span) (tick : ℕ) : Type 0 where
  pub not_before : from ≤ tick
  pub is_free : Free len spans tick
  pub none_earlier : (x : ℕ) → from ≤ x → x < tick → Free len spans x → ⊥

-- a resource is taken at a tick if some hold on it has the tick
pub record TakenOn (r : Resource) (hs : List Hold) (tick : ℕ) : Type 0 where
  pub hold : Hold
  pub listed : Memᴰ hold hs
  pub on : hold.on ≡ r
  pub within : Within tick hold.span

-- `len` ticks from `tick` on meet no hold of the resource
abbrev pub FreeOn : (r : Resource) → List Hold → (len tick : ℕ) → Type 0
FreeOn r hs len tick = (x : ℕ) → tick ≤ x → x < tick + len → TakenOn r hs x → ⊥

-- of the ticks that are allowed the least at which `len` ticks meet no hold of the resource
pub record IsLeastOn (r : Resource) (hs : List Hold) (len : ℕ) (Allowed : ℕ → Type 0) (tick : ℕ) : Type 0 where
  pub allowed : Allowed tick
  pub is_free : FreeOn r hs len tick
  pub none_earlier : (x : ℕ) → Allowed x → x < tick → FreeOn r hs len x → ⊥

-- a machine of the table, by its number
pub record IsMachine (s : Setup) (m : ℕ) : Type 0 where
  pub first : 1 ≤ m
  pub last : m ≤ s.table.machines

-- a task of the job, by its number
pub record IsTask (j : Job) (t : ℕ) : Type 0 where
  pub first : 1 ≤ t
  pub last : t ≤ j.taskcount

-- the task placed next: among those whose senders are all placed, the earliest deadline, then the lowest number
pub record IsNext (j : Job) (new : List Row) (t : ℕ) : Type 0 where
  pub is_task : IsTask j t
  pub is_ready : ready j new t ≡ true
  pub earliest : (u : ℕ) → IsTask j u → ready j new u ≡ true → (task_of j t).deadline ≤ (task_of j u).deadline
  pub lowest : (u : ℕ) → IsTask j u → ready j new u ≡ true → (task_of j u).deadline ≡ (task_of j t).deadline → t ≤ u

-- not before the task's floor nor any arrival of a message into it, on machine m, beside these rows of the job
pub record NotBefore (g : Ground) (j : Job) (new rows : List Row) (t m tick : ℕ) : Type 0 where
  pub floor : release g j new t ≤ tick
  pub arrivals : (msg : Message) → Memᴰ msg (messages_of j) → msg.receiver ≡ t → arrival rows msg m ≤ tick

-- a task's start is the least tick, not before its floor nor any arrival, at which its run time meets no hold of the machine
abbrev pub TaskStarts : Type 0
TaskStarts =
    (s : Setup) (g : Ground) (j : Job) (new : List Row) (t m : ℕ) →
    IsLeastOn
    (machine m)
    (g.held ++ holds new)
    (run_time j t m)
    (NotBefore g j new (new ++ (try s g j new t m).inputs) t m)
    (try s g j new t m).own.start

-- a message's row starts at the least tick, not before its sender's finish, at which its link time meets no hold of the link, those of messages tried before it
-- included
abbrev pub MessageStarts : Type 0
MessageStarts =
    (s : Setup) (held : List Hold) (j : Job) (new : List Row) (m : ℕ) (tried : List Row) (msg : Message) →
    crosses msg (machine_for new msg.sender) m ≡ true →
    (at : ℕ)
    × (message_trial s held j new m tried msg ≡ message_booking s j msg (machine_for new msg.sender) m at ∷ [])
    × IsLeastOn
    (link (machine_for new msg.sender) m)
    (held ++ holds (new ++ tried))
    (transfer s msg (machine_for new msg.sender) m)
    (λ tick. (task_row new msg.sender).finish ≤ tick)
    at

-- the trial of a machine that is tried and is good
pub record IsGood (s : Setup) (g : Ground) (j : Job) (new : List Row) (t m : ℕ) : Type 0 where
  pub is_machine : IsMachine s m
  pub able : 0 < run_time j t m
  pub in_time : (try s g j new t m).own.finish ≤ (task_of j t).deadline

-- the trial kept: good, of lowest cost, then of earliest start, then of lowest machine
pub record IsKept (s : Setup) (g : Ground) (j : Job) (new : List Row) (t m : ℕ) : Type 0 where
  pub is_good : IsGood s g j new t m
  pub cheapest :
      (k : ℕ) → IsGood s g j new t k →
      costs (trial_rows (try s g j new t m)) ≤ costs (trial_rows (try s g j new t k))
  pub soonest :
      (k : ℕ) → IsGood s g j new t k →
      costs (trial_rows (try s g j new t k)) ≡ costs (trial_rows (try s g j new t m)) →
      (try s g j new t m).own.start ≤ (try s g j new t k).own.start
  pub lowest :
      (k : ℕ) → IsGood s g j new t k →
      costs (trial_rows (try s g j new t k)) ≡ costs (trial_rows (try s g j new t m)) →
      (try s g j new t k).own.start ≡ (try s g j new t m).own.start →
      m ≤ k

-- a chain of messages leads from one task to another
pub data Chain (j : Job) : ℕ → ℕ → Type 0 where
  one : {msg : Message} → Memᴰ msg (messages_of j) → Chain j msg.sender msg.receiver
  on : {a : ℕ} {msg : Message} → Chain j a msg.sender → Memᴰ msg (messages_of j) → Chain j a msg.receiver

-- no chain of messages leads from a task back to itself
abbrev pub Acyclic : Job → Type 0
Acyclic j = (t : ℕ) → Chain j t t → ⊥

-- both ends of each message are tasks of the job
abbrev pub EndsListed : Job → Type 0
EndsListed j = (msg : Message) → Memᴰ msg (messages_of j) → IsTask j msg.sender × IsTask j msg.receiver

-- Each call has one answer: as many replies as calls.
abbrev pub RepliesCounted : Type 0
RepliesCounted = (s : Setup) (st : State) (calls : List Call) → length (answers (step s) st calls) ≡ length calls

-- Each call of the code is the rules' call of its kind, of the same job, number or tick.
abbrev pub CallOfSays : Type 0
CallOfSays =
    ((j : Job) → call_of (Submit j) ≡ submits j)
    × ((n : ℕ) → call_of (Withdraw n) ≡ withdraws n)
    × ((tick : ℕ) → call_of (Advance tick) ≡ advances tick)

-- Where the code answers nothing the rules have nothing, and where it answers something they have that.
abbrev pub OptionOfSays : Type 0 → Type 0
OptionOfSays A = (o : Option A) → (o ≡ None → option_of o ≡ none) × ((a : A) → o ≡ Some a → option_of o ≡ some a)

-- The message that a list answers past its end is blank: its figures are zeros.
abbrev pub NoMessageBlank : Type 0
NoMessageBlank = (no_message.sender ≡ 0) × (no_message.receiver ≡ 0) × (no_message.volume ≡ 0)

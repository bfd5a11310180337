-- What a job in range says of its messages and tasks: how many there are, and that messages go between tasks.
use mathlib.Core.Path.{◌≡◌, ap, subst}
use mathlib.Core.List.{List, Memᴰ}
use Prim.Native.Nat.{ℕ, ◌+◌, ◌-◌, ◌≤◌, ◌<◌}
use native.Mathlib.Omega.{arith}
use lib.ListN.{length, length-take, get_or}
use Rattle.rules.specs.declared.Message.{Message}
use Rattle.rules.specs.declared.Job.{Job}
use Rattle.rules.specs.Words.{most_tasks, most_messages, messages_of, no_message, no_task, task_of}
use Rattle.rules.specs.Bounds.{Between}
use Rattle.rules.proofs.Sequences.{get_or_mem}
use Rattle.rules.proofs.Order.{in_range_count, in_range_messages, in_range_ends}
use Rattle.rules.proofs.Bounds.{listed_in_range}
use Rattle.drcd.specs.Given.{SomeJob}

-- the task at an index
pub task_at : (j : Job) (t : ℕ) → task_of j (t + 1) ≡ get_or j.tasks t no_task
task_at j t = let same : t + 1 - 1 ≡ t = omega arith in ap (λ i. get_or j.tasks i no_task) same

-- both ends of a message are numbers of tasks
pub record EndsWithin (msg : Message) : Type 0 where
  pub sender : Between 1 most_tasks msg.sender
  pub receiver : Between 1 most_tasks msg.receiver

module _ {j : Job} (some : SomeJob j) where
  pub tasks_few : j.taskcount ≤ most_tasks
  tasks_few = (in_range_count some.setup j some.range).1

  pub messages_few : j.messagecount ≤ most_messages
  messages_few = in_range_messages some.setup j some.range

  pub ends_of : (msg : Message) → Memᴰ msg (messages_of j) → EndsWithin msg
  ends_of msg m =
      let ends = in_range_ends some.setup j some.range msg m in
      record {
        sender = listed_in_range some.setup j some.range ends.0;
        receiver = listed_in_range some.setup j some.range ends.1;
      }

  -- of the messages that it lists: how many there are, and the ends of the one at an index
  module _ {msgs : List Message} (listed : msgs ≡ messages_of j) where
    pub messages_listed : length msgs ≤ most_messages
    messages_listed = omega (arith, messages_few, ap length listed, length-take j.messagecount j.messages)

    pub ends_at : (i : ℕ) → i < length msgs → EndsWithin (get_or msgs i no_message)
    ends_at i h = ends_of (get_or msgs i no_message) (subst (Memᴰ (get_or msgs i no_message)) listed (get_or_mem msgs i no_message h))

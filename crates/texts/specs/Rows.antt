-- Between functions: a job as a row of figures, and what the functions ask that read and fill one.
use Rattle.std.specs.Prelude.{◌≡◌, List, map, ℕ, ◌+◌, ◌*◌, ◌≤◌, ◌<◌, length, get_or, take}
use Rattle.rules.specs.declared.Task.{Task}
use Rattle.rules.specs.declared.Job.{Job}
use Rattle.rules.specs.Sequences.{joined}
use Rattle.rules.specs.Words.{most_tasks, most_messages, most_machines, no_task}
use Rattle.texts.specs.JobText.{head_size, task_size, message_size, messages_at, task_figures, message_figures, job_figures}
use Rattle.lines.specs.Put.{Puts}

-- the length of a row: the most figures that a job has
abbrev pub most_figures : ℕ
most_figures = head_size + most_tasks * task_size most_machines + 1 + most_messages * message_size

pub record MachineCount (machines : ℕ) : Type 0 where
  pub some_machine : 1 ≤ machines
  pub at_most : machines ≤ most_machines

pub record AskTask (machines index : ℕ) : Type 0 where
  pub machines_at_most : machines ≤ most_machines
  pub listed : index < most_tasks

-- the message's figures lie within the row
pub record AskMessage (from index : ℕ) : Type 0 where
  pub within : from + most_messages * message_size ≤ most_figures
  pub listed : index < most_messages

-- a row whose counts are in range
pub record CountsInRange (machines : ℕ) (row : List ℕ) : Type 0 where
  pub machines_at_most : machines ≤ most_machines
  pub tasks_at_most : get_or row 2 0 ≤ most_tasks
  pub messages_at_most : get_or row (messages_at machines row) 0 ≤ most_messages

-- a job whose counts are in range, and a row that has room for it
pub record Countable (machines : ℕ) (j : Job) (row : List ℕ) : Type 0 where
  pub machines_at_most : machines ≤ most_machines
  pub tasks_at_most : j.taskcount ≤ most_tasks
  pub messages_at_most : j.messagecount ≤ most_messages
  pub long : length row ≡ most_figures

-- a task's figures, from a place on; it has a run time for every machine that there is room for
pub record TaskPut (machines : ℕ) (task : Task) (old : List ℕ) (at : ℕ) (new : List ℕ) (next : ℕ) : Type 0 where
  pub puts : Puts old at (task_figures machines task) new next
  pub runs_long : length task.runs ≡ most_machines

-- a job's figures, from the row's start on; its arrays have their lengths, and its listed tasks have all their run times
pub record JobPut (machines : ℕ) (j : Job) (old new : List ℕ) (next : ℕ) : Type 0 where
  pub puts : Puts old 0 (job_figures machines j) new next
  pub tasks_long : length j.tasks ≡ most_tasks
  pub messages_long : length j.messages ≡ most_messages
  pub runs_long : (i : ℕ) → i < j.taskcount → length (get_or j.tasks i no_task).runs ≡ most_machines

-- the messages of such a job, from a place on
abbrev pub sent_figures : Job → List ℕ
sent_figures j = joined (map message_figures (take j.messagecount j.messages))

pub record AskSent (from : ℕ) (j : Job) (row : List ℕ) : Type 0 where
  pub messages_at_most : j.messagecount ≤ most_messages
  pub room : from + j.messagecount * message_size ≤ length row

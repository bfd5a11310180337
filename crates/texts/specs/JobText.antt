-- A reader must believe this: the form of a job, and the job that its figures say. Document 01, "Job text"; document 02,
-- request 1, for what can be written, and request 3, for any machine count.
use Rattle.std.specs.Prelude.{Bool, ◌&&◌, List, [], ◌∷◌, ◌++◌, map, ℕ, zero, suc, ◌+◌, ◌-◌, ◌*◌, leb, length, get_or, take, drop, replicate}
use Rattle.rules.specs.declared.Task.{Task}
use Rattle.rules.specs.declared.Message.{Message}
use Rattle.rules.specs.declared.Job.{Job}
use Rattle.rules.specs.Sequences.{all_of, joined}
use Rattle.rules.specs.Words.{most_tasks, most_messages, most_machines, no_message}
use Rattle.lines.specs.Figures.{bytes}
use Rattle.lines.specs.Lines.{Parsed, parsed, refused, largest_figure, any_figure_line, ranged}
use Rattle.texts.specs.Forms.{Form, done, ask, read, written}

-- The lines in order: `job`, `sched`, `tasks`; per task `deadline`, `dispatch` and a `run` for each machine; `messages`; per message `from`, `to`, `volume`.
-- 16: `tasks` not 1 to 16, or `messages` above 32. Other ranges are left to submission.

-- lines in a row whose figures do not matter to what follows
abbrev pub with_line : (key : List ℕ) → Form → Form
with_line key rest = ask (any_figure_line key) (λ n. rest)

unfoldable pub run_lines : (machines : ℕ) → Form → Form
run_lines zero rest = rest
run_lines (suc n) rest = with_line (bytes "run=") (run_lines n rest)

abbrev pub task_lines : (machines : ℕ) → Form → Form
task_lines machines rest = with_line (bytes "deadline=") (with_line (bytes "dispatch=") (run_lines machines rest))

unfoldable pub tasks_lines : (machines count : ℕ) → Form → Form
tasks_lines machines zero rest = rest
tasks_lines machines (suc n) rest = task_lines machines (tasks_lines machines n rest)

abbrev pub message_lines : Form → Form
message_lines rest = with_line (bytes "from=") (with_line (bytes "to=") (with_line (bytes "volume=") rest))

unfoldable pub messages_lines : (count : ℕ) → Form
messages_lines zero = done
messages_lines (suc n) = message_lines (messages_lines n)

-- the count of messages, and their lines
abbrev pub sent_lines : Form
sent_lines = ask (ranged (bytes "messages=") 0 most_messages) messages_lines

abbrev pub job_form : (machines : ℕ) → Form
job_form machines =
    with_line (bytes "job=") (with_line (bytes "sched=") (ask (ranged (bytes "tasks=") 1 most_tasks) (λ tasks. tasks_lines machines tasks sent_lines)))

-- What the figures say. Those of tasks and messages are cut into groups.

unfoldable pub groups : {A : Type 0} → (group : List ℕ → A) → (size n : ℕ) → List ℕ → List A
groups group size zero figures = []
groups group size (suc n) figures = group (take size figures) ∷ groups group size n (drop size figures)

-- entries past the counts are blank
abbrev pub filled : {A : Type 0} → (blank : A) → (most : ℕ) → List A → List A
filled blank most xs = xs ++ replicate (most - length xs) blank

abbrev pub task_said : List ℕ → Task
task_said figures = record { deadline = get_or figures 0 0; dispatch = get_or figures 1 0; runs = filled 0 most_machines (drop 2 figures) }

abbrev pub message_said : List ℕ → Message
message_said figures = record { sender = get_or figures 0 0; receiver = get_or figures 1 0; volume = get_or figures 2 0 }

abbrev pub task_of_zeros : Task
task_of_zeros = record { deadline = 0; dispatch = 0; runs = replicate most_machines 0 }

-- how many figures stand before those of the tasks, how many a task and a message have, and where those of the messages begin
abbrev pub head_size : ℕ
head_size = 3

abbrev pub task_size : (machines : ℕ) → ℕ
task_size machines = 2 + machines

abbrev pub message_size : ℕ
message_size = 3

abbrev pub messages_at : (machines : ℕ) → List ℕ → ℕ
messages_at machines figures = head_size + get_or figures 2 0 * task_size machines

abbrev pub job_said : (machines : ℕ) → List ℕ → Job
job_said machines figures = record {
  number = get_or figures 0 0;
  scheduling = get_or figures 1 0;
  taskcount = get_or figures 2 0;
  tasks = filled task_of_zeros most_tasks (groups task_said (task_size machines) (get_or figures 2 0) (drop head_size figures));
  messagecount = get_or figures (messages_at machines figures) 0;
  messages =
      filled no_message most_messages (
      groups message_said message_size (get_or figures (messages_at machines figures) 0) (drop (messages_at machines figures + 1) figures)
      );
}

-- The text of a job: what the part of the script says that starts at the job's first line.
abbrev pub as_job : (machines : ℕ) → Parsed (List ℕ) → Parsed Job
as_job machines (parsed figures next) = parsed (job_said machines figures) next
as_job machines (refused number place) = refused number place

unfoldable pub job_text : (machines : ℕ) → List ℕ → Parsed Job
job_text machines text = as_job machines (read (job_form machines) text 0)

-- no job
abbrev pub job_of_zeros : Job
job_of_zeros = record {
  number = 0;
  scheduling = 0;
  taskcount = 0;
  tasks = replicate most_tasks task_of_zeros;
  messagecount = 0;
  messages = replicate most_messages no_message;
}

-- The figures of a job, in the order of its lines; those past the counts and past the machines are no part of it.

abbrev pub task_figures : (machines : ℕ) → Task → List ℕ
task_figures machines t = t.deadline ∷ t.dispatch ∷ take machines t.runs

abbrev pub message_figures : Message → List ℕ
message_figures m = m.sender ∷ m.receiver ∷ m.volume ∷ []

abbrev pub job_figures : (machines : ℕ) → Job → List ℕ
job_figures machines j =
    (j.number ∷ j.scheduling ∷ j.taskcount ∷ [])
    ++ (joined (map (task_figures machines) (take j.taskcount j.tasks))
    ++ (j.messagecount ∷ joined (map message_figures (take j.messagecount j.messages))))

-- a figure of at most ten digits
abbrev pub short : ℕ → Bool
short n = leb n largest_figure

-- a job whose counts are in range and whose listed figures are short
abbrev pub writable : (machines : ℕ) → Job → Bool
writable machines j =
    (leb 1 j.taskcount && leb j.taskcount most_tasks) && (leb j.messagecount most_messages && all_of short (job_figures machines j))

-- The text of such a job.
abbrev pub written_job : (machines : ℕ) → Job → List ℕ
written_job machines j = written (job_form machines) (job_figures machines j)

-- Entries past the counts and run times past the machines are no part of a job: here they are blank.
abbrev pub blanked_task : (machines : ℕ) → Task → Task
blanked_task machines t = record { deadline = t.deadline; dispatch = t.dispatch; runs = filled 0 most_machines (take machines t.runs) }

abbrev pub blanked : (machines : ℕ) → Job → Job
blanked machines j = record {
  number = j.number;
  scheduling = j.scheduling;
  taskcount = j.taskcount;
  tasks = filled task_of_zeros most_tasks (map (blanked_task machines) (take j.taskcount j.tasks));
  messagecount = j.messagecount;
  messages = filled no_message most_messages (take j.messagecount j.messages);
}

-- Between functions: a place in a job text as the code has it, and the form that is left there.
use Rattle.std.specs.Prelude.{◌≡◌, refl, false, [], ℕ, suc}
use Rattle.rules.specs.Words.{most_tasks}
use Rattle.texts.specs.declared.job_lines.JobLine.{JobLine}
use Rattle.texts.specs.declared.job_lines.JobLine.TheVariants.{Number, Scheduling, Tasks, Deadline, Dispatch, Run, Messages, From, To, Volume}
use Rattle.lines.specs.Figures.{bytes}
use Rattle.lines.specs.Lines.{ranged}
use Rattle.texts.specs.Forms.{Form, ask, fills}
use Rattle.texts.specs.JobText.{with_line, run_lines, tasks_lines, messages_lines, sent_lines, job_form}

-- the form that is left at a line of a job text
abbrev pub job_at : (machines : ℕ) → JobLine → Form
job_at machines Number = job_form machines
job_at machines Scheduling = with_line (bytes "sched=") (ask (ranged (bytes "tasks=") 1 most_tasks) (λ tasks. tasks_lines machines tasks sent_lines))
job_at machines Tasks = ask (ranged (bytes "tasks=") 1 most_tasks) (λ tasks. tasks_lines machines tasks sent_lines)
job_at machines (Deadline left) = tasks_lines machines (suc left) sent_lines
job_at machines (Dispatch left) = with_line (bytes "dispatch=") (run_lines machines (tasks_lines machines left sent_lines))
job_at machines (Run left runs) = run_lines (suc runs) (tasks_lines machines left sent_lines)
job_at machines Messages = sent_lines
job_at machines (From left) = messages_lines (suc left)
job_at machines (To left) = with_line (bytes "to=") (with_line (bytes "volume=") (messages_lines left))
job_at machines (Volume left) = with_line (bytes "volume=") (messages_lines left)

-- a line is due at each place
pub line_due : (machines : ℕ) (line : JobLine) → fills (job_at machines line) [] ≡ false
unfolding fills run_lines tasks_lines messages_lines
line_due machines Number = refl
line_due machines _ = refl

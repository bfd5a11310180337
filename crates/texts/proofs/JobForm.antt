-- The form of a job: what is asked at each of its lines, and how many figures it has at the most.
use mathlib.Core.Path.{◌≡◌, sym, ap, ◌∙◌}
use mathlib.Core.Bool.{true, false}
use mathlib.Core.List.{List}
use Prim.Native.Nat.{ℕ, zero, suc, ◌+◌, ◌*◌, ◌≤◌}
use native.Mathlib.Nat.{suc-mul, mul-le-mul_right}
use native.Mathlib.Omega.{arith}
use Rattle.rules.specs.Refusals.{outside}
use Rattle.rules.specs.Words.{most_tasks, most_messages}
use Rattle.rules.proofs.Sequences.{or_false}
use Rattle.rules.proofs.Order.{in_between}
use Rattle.lines.specs.declared.line.DueLine.{DueLine}
use Rattle.lines.specs.Figures.{bytes}
use Rattle.lines.specs.Lines.{ranged}
use Rattle.texts.specs.Forms.{Form, ask}
use Rattle.lines.specs.Lines.{takes}
use Rattle.texts.specs.JobText.{head_size, task_size, message_size, run_lines, tasks_lines, messages_lines, sent_lines, job_form}
use Rattle.lines.specs.DueLines.{due_of}
use Rattle.texts.specs.Parts.{DueIs, AtMost, at_end, at_line}
use Rattle.lines.proofs.LineLaws.{takes_fits}
use Rattle.texts.proofs.Staged.{at_most_more}

-- a figure that a line takes lies in its range
pub taken_between : (key : List ℕ) (least most n : ℕ) → takes (ranged key least most) n ≡ true → (least ≤ n) × (n ≤ most)
taken_between key least most n t = in_between least most n (or_false (outside least most n) false (takes_fits {due = ranged key least most} t).in_range).0

-- the line that is due
pub due_is :
    {form : Form} {r : DueLine} {key : List ℕ} {least most : ℕ} {more : ℕ → Form} → form ≡ ask (ranged key least most) more →
    due_of r ≡ ranged key least most → DueIs form r
due_is {more = more} e d =
    record { more = more; is = e ∙ ap (λ due. ask due more) (sym d); digits = let n = ap (λ due. due.digits) d in omega arith }

-- How many figures.

runs_at_most : {n : ℕ} {rest : Form} (runs : ℕ) → AtMost n rest → AtMost (runs + n) (run_lines runs rest)
unfolding run_lines
runs_at_most zero a = at_most_more a (omega arith)
runs_at_most (suc runs) a = at_most_more (at_line (λ n t. runs_at_most runs a)) (omega arith)

messages_at_most : (messages : ℕ) → AtMost (messages * message_size) (messages_lines messages)
unfolding messages_lines
messages_at_most zero = at_end
messages_at_most (suc messages) = at_most_more (at_line (λ i t. at_line (λ j u. at_line (λ k v. messages_at_most messages)))) (omega arith)

sent_at_most : AtMost (1 + most_messages * message_size) sent_lines
sent_at_most = at_line {n = most_messages * message_size} (λ messages t. at_most_more (messages_at_most messages) (few messages t))
  where
    few : (messages : ℕ) → takes (ranged (bytes "messages=") 0 most_messages) messages ≡ true → messages * message_size ≤ most_messages * message_size
    few messages t = let h = taken_between (bytes "messages=") 0 most_messages messages t in omega arith

module _ (machines : ℕ) where
  tasks_at_most : {n : ℕ} {rest : Form} (tasks : ℕ) → AtMost n rest → AtMost (tasks * task_size machines + n) (tasks_lines machines tasks rest)
  unfolding tasks_lines
  tasks_at_most zero a = at_most_more a (omega arith)
  tasks_at_most (suc tasks) a =
      let more = suc-mul tasks (task_size machines) in
      at_most_more (at_line (λ j t. at_line (λ k u. runs_at_most machines (tasks_at_most tasks a)))) (omega arith)

  pub job_form_at_most : AtMost (head_size + most_tasks * task_size machines + 1 + most_messages * message_size) (job_form machines)
  job_form_at_most =
      at_most_more
      (at_line (λ i t. at_line (λ j u. at_line (λ tasks v. at_most_more (tasks_at_most tasks sent_at_most) (few tasks v)))))
      (omega arith)
    where
      few :
          (tasks : ℕ) → takes (ranged (bytes "tasks=") 1 most_tasks) tasks ≡ true →
          tasks * task_size machines + (1 + most_messages * message_size) ≤ most_tasks * task_size machines + 1 + most_messages * message_size
      few tasks t = let h = mul-le-mul_right (task_size machines) (taken_between (bytes "tasks=") 1 most_tasks tasks t).1 in omega arith

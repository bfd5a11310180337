-- Document 02, request 1: worked examples of the writer as tables. They hold by computation, so nobody has to believe them.
use Rattle.std.specs.Prelude.{List, [], ◌∷◌, ◌++◌, ℕ, replicate}
use Rattle.rules.specs.declared.Task.{Task}
use Rattle.rules.specs.declared.Message.{Message}
use Rattle.rules.specs.declared.Job.{Job}
use Rattle.rules.specs.Ledger.{task, message, job_with, job_A, job_H}
use Rattle.lines.specs.Figures
use Rattle.lines.specs.Figures.{bytes}
use Rattle.texts.specs.Forms
use Rattle.texts.specs.Forms.{written}
use Rattle.texts.specs.JobText
use Rattle.texts.specs.JobText.{job_form, written_job}
use Rattle.texts.specs.Writer
use Rattle.texts.specs.Writer.{write_number, write_length, write_left, unwritable_number, unfilled_number}

-- What is to be written: a job, or figures, for so many machines.
pub data ToWrite : Type 0 where
  a_job : (machines : ℕ) → Job → ToWrite
  figures : (machines : ℕ) → List ℕ → ToWrite

abbrev pub text_of : ToWrite → List ℕ
text_of (a_job machines j) = written_job machines j
text_of (figures machines ns) = written (job_form machines) ns

abbrev pub judged_before : ToWrite → ℕ
judged_before (a_job machines j) = unwritable_number machines j
judged_before (figures machines ns) = unfilled_number machines ns

-- a byte that no text has, which stands in every buffer before it is written to
abbrev pub mark : ℕ
mark = 255

-- what a writer answers and leaves, and what is due
pub record WriterCase : Type 0 where
  pub given : ToWrite
  pub room : ℕ
  pub number : ℕ
  pub size : ℕ

pub record Effects : Type 0 where
  pub number : ℕ
  pub size : ℕ
  pub buffer : List ℕ

unfoldable pub effects : ToWrite → (room : ℕ) → Effects
unfolding
    Figures.digits_within Figures.decimal Forms.written Forms.fills JobText.run_lines JobText.tasks_lines JobText.messages_lines
    Writer.write_number Writer.write_length Writer.write_left
effects given room =
    let buffer = replicate room mark in
    let number = write_number (judged_before given) (text_of given) buffer in
    record { number = number; size = write_length number (text_of given); buffer = write_left number (text_of given) buffer }

-- The jobs.

-- figures of ten and of eleven digits
abbrev pub ten_digits : ℕ
ten_digits = 9_999_999_999

abbrev pub eleven_digits : ℕ
eleven_digits = 10_000_000_000

abbrev pub greatest_count : ℕ
greatest_count = 18_446_744_073_709_551_615

abbrev pub task_A : Task
task_A = task 10 1 4 5 0 2

-- these counts beside arrays of two tasks and two messages
abbrev pub miscounts : (tasks messages : ℕ) → Job
miscounts t m =
    record { number = 7; scheduling = 0; taskcount = t; tasks = task_A ∷ task_A ∷ []; messagecount = m; messages = message 1 2 3 ∷ message 1 2 3 ∷ [] }

-- one task and one message
abbrev pub with_figures : (number scheduling : ℕ) → Task → Message → Job
with_figures n s t m = job_with n s (t ∷ []) (m ∷ [])

-- entries past the counts, and a run time past the machines, are no part of a job, however long they are
abbrev pub past_counts : Job
past_counts = record {
  number = 7;
  scheduling = 0;
  taskcount = 1;
  tasks = record { deadline = 10; dispatch = 1; runs = 4 ∷ 5 ∷ 0 ∷ 2 ∷ eleven_digits ∷ [] } ∷ task eleven_digits 1 1 1 1 1 ∷ [];
  messagecount = 0;
  messages = message 1 eleven_digits 1 ∷ [];
}

abbrev pub largest_task : Task
largest_task = record { deadline = ten_digits; dispatch = ten_digits; runs = replicate 8 ten_digits }

-- the longest text: all tasks and messages, and every figure but the counts of ten digits
abbrev pub longest : Job
longest = job_with ten_digits ten_digits (replicate 16 largest_task) (replicate 32 (message ten_digits ten_digits ten_digits))

-- the figures of example A, up to its count of messages
abbrev pub figures_A : List ℕ
figures_A = 7 ∷ 0 ∷ 1 ∷ 10 ∷ 1 ∷ 4 ∷ 5 ∷ 0 ∷ 2 ∷ []

-- The answers.

abbrev pub case : ToWrite → (room number size : ℕ) → WriterCase
case given room number size = record { given = given; room = room; number = number; size = size }

-- of a job that has one figure of eleven digits
abbrev pub too_long : (number scheduling : ℕ) → Task → Message → WriterCase
too_long n s t m = case (a_job 4 (with_figures n s t m)) 999 20 0

unfoldable pub writer_table : List WriterCase
writer_table =
    -- example A has 80 bytes: a buffer of as many suffices
    case (a_job 4 (job_A 7 10)) 0 21 0
    ∷ case (a_job 4 (job_A 7 10)) 79 21 0
    ∷ case (a_job 4 (job_A 7 10)) 80 0 80
    ∷ case (a_job 4 (job_A 7 10)) 81 0 80
    ∷ case (a_job 4 past_counts) 80 0 80
    -- a machine less has a run line less
    ∷ case (a_job 3 (job_A 7 10)) 73 21 0
    ∷ case (a_job 3 (job_A 7 10)) 74 0 74
    -- counts: 1 to 16 tasks, up to 32 messages; 20 comes before 21
    ∷ case (a_job 4 (miscounts 0 0)) 0 20 0
    ∷ case (a_job 4 (miscounts 0 0)) 99 20 0
    ∷ case (a_job 4 (miscounts 17 0)) 0 20 0
    ∷ case (a_job 4 (miscounts greatest_count 0)) 0 20 0
    ∷ case (a_job 4 (miscounts 1 33)) 0 20 0
    ∷ case (a_job 4 (miscounts 1 greatest_count)) 999 20 0
    ∷ case (a_job 4 (miscounts 2 2)) 0 21 0
    -- a scheduling time of ten digits, and of eleven
    ∷ case (a_job 4 (with_figures 7 ten_digits task_A (message 1 2 3))) 0 21 0
    ∷ case (a_job 4 (with_figures 7 ten_digits task_A (message 1 2 3))) 110 0 110
    ∷ case (a_job 4 (with_figures 7 eleven_digits task_A (message 1 2 3))) 0 20 0
    -- eleven digits at each place
    ∷ too_long eleven_digits 0 task_A (message 1 2 3)
    ∷ too_long 7 eleven_digits task_A (message 1 2 3)
    ∷ too_long 7 0 (task eleven_digits 1 4 5 0 2) (message 1 2 3)
    ∷ too_long 7 0 (task 10 eleven_digits 4 5 0 2) (message 1 2 3)
    ∷ too_long 7 0 (task 10 1 eleven_digits 5 0 2) (message 1 2 3)
    ∷ too_long 7 0 (task 10 1 4 eleven_digits 0 2) (message 1 2 3)
    ∷ too_long 7 0 (task 10 1 4 5 eleven_digits 2) (message 1 2 3)
    ∷ too_long 7 0 (task 10 1 4 5 0 eleven_digits) (message 1 2 3)
    ∷ too_long 7 0 task_A (message eleven_digits 2 3)
    ∷ too_long 7 0 task_A (message 1 eleven_digits 3)
    ∷ too_long 7 0 task_A (message 1 2 eleven_digits)
    -- the longest texts, at 4 machines and at 8
    ∷ case (a_job 4 longest) 3_188 21 0
    ∷ case (a_job 4 longest) 3_189 0 3_189
    ∷ case (a_job 8 longest) 4_148 21 0
    ∷ case (a_job 8 longest) 4_149 0 4_149
    -- figures: one for each line, and no other
    ∷ case (figures 4 (figures_A ++ (0 ∷ []))) 79 21 0
    ∷ case (figures 4 (figures_A ++ (0 ∷ []))) 80 0 80
    ∷ case (figures 4 figures_A) 0 20 0
    ∷ case (figures 4 figures_A) 80 20 0
    ∷ case (figures 4 (figures_A ++ (0 ∷ 0 ∷ []))) 80 20 0
    ∷ case (figures 4 []) 80 20 0
    ∷ []

-- The bytes that are left.

pub record BufferCase : Type 0 where
  pub given : ToWrite
  pub room : ℕ
  pub bytes_due : List ℕ

abbrev pub text_A : List ℕ
text_A = bytes "job=7\nsched=0\ntasks=1\ndeadline=10\ndispatch=1\nrun=4\nrun=5\nrun=0\nrun=2\nmessages=0\n"

abbrev pub text_H : List ℕ
text_H =
    bytes "job=7\nsched=0\ntasks=2\ndeadline=20\ndispatch=1\nrun=4\nrun=0\nrun=0\nrun=0\n"
    ++ bytes "deadline=16\ndispatch=1\nrun=0\nrun=5\nrun=0\nrun=0\nmessages=1\nfrom=1\nto=2\nvolume=3\n"

unfoldable pub buffer_table : List BufferCase
buffer_table =
    record { given = a_job 4 (job_A 7 10); room = 0; bytes_due = [] }
    ∷ record { given = a_job 4 (job_A 7 10); room = 79; bytes_due = replicate 79 mark }
    ∷ record { given = a_job 4 (job_A 7 10); room = 80; bytes_due = text_A }
    ∷ record { given = a_job 4 (job_A 7 10); room = 82; bytes_due = text_A ++ (mark ∷ mark ∷ []) }
    ∷ record { given = a_job 4 past_counts; room = 80; bytes_due = text_A }
    ∷ record { given = a_job 4 (miscounts 0 0); room = 3; bytes_due = replicate 3 mark }
    ∷ record { given = a_job 4 (job_H 16 3); room = 149; bytes_due = text_H ++ (mark ∷ []) }
    ∷ record { given = figures 4 (figures_A ++ (0 ∷ [])); room = 81; bytes_due = text_A ++ (mark ∷ []) }
    ∷ record { given = figures 4 figures_A; room = 3; bytes_due = replicate 3 mark }
    ∷ []

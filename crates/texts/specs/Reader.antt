-- A reader must believe this: the contract of the job reader. Document 01, "Job text".
use Rattle.std.specs.Prelude.{◌≡◌, List, ℕ, length, Result, Ok, Err}
use Rattle.rules.specs.declared.Job.{Job}
use Rattle.rules.specs.Words.{setup_by_default}
use Rattle.lines.specs.declared.line.Reading.{Reading}
use Rattle.lines.specs.declared.line.Unread.{Unread}
use Rattle.lines.specs.Lines.{Parsed, parsed, refused}
use Rattle.lines.specs.Readings.{reading_said, ReadingIs}
use Rattle.texts.specs.Forms.{read}
use Rattle.texts.specs.JobText.{job_form, job_text, job_figures}

-- a form's answer has the count of its figures
abbrev pub with_count : Parsed (List ℕ) → Parsed ℕ
with_count (parsed ns next) = parsed (length ns) next
with_count (refused number place) = refused number place

-- the machines of the default table
abbrev pub default_machines : ℕ
default_machines = setup_by_default.table.machines

-- The job reader, for a table of so many machines: the job and the place after its last line, or the refusal's number with its place and no job.
abbrev pub Reads : (machines : ℕ) → (text : List ℕ) → Result (Reading Job) Unread → Type 0
Reads machines text r = ReadingIs (job_text machines text) r

-- a job in place of its figures, with their count
abbrev pub job_counted : (machines : ℕ) → Parsed Job → Parsed ℕ
job_counted machines (parsed job next) = parsed (length (job_figures machines job)) next
job_counted machines (refused number place) = refused number place

-- How many figures were read: as many as the answer's job has.
abbrev pub ReadsCount : (machines : ℕ) → (text : List ℕ) → Result (Reading Job) Unread → Type 0
ReadsCount machines text r = with_count (read (job_form machines) text 0) ≡ job_counted machines (reading_said r)

-- The same where the job goes to a place that is lent: a refusal leaves what stood there.

abbrev pub with_job : Job → Result ℕ Unread → Result (Reading Job) Unread
with_job job (Ok next) = Ok (record { value = job; next = next })
with_job job (Err unread) = Err unread

pub record ReadsInto (machines : ℕ) (text : List ℕ) (old new : Job) (r : Result ℕ Unread) : Type 0 where
  pub reads : Reads machines text (with_job new r)
  pub count : ReadsCount machines text (with_job new r)
  pub kept : (unread : Unread) → r ≡ Err unread → new ≡ old

-- A reader must believe this: what is shown of forms and of jobs, so that the definitions say what is meant. Document 01, "Job text"; document
-- 02, request 1.
use Rattle.std.specs.Prelude.{◌≡◌, Bool, true, false, ◌&&◌, List, [], ◌∷◌, ◌++◌, ℕ, ◌+◌, ◌*◌, ◌≤◌, ◌<◌, eqb, length, get_or, take, drop, Result, Ok}
use Rattle.rules.specs.declared.Job.{Job}
use Rattle.rules.specs.Words.{most_tasks, most_messages, most_machines, no_task, no_message, task_of}
use Rattle.rules.specs.Sequences.{any_of}
use Rattle.lines.specs.Figures.{line_feed}
use Rattle.lines.specs.declared.line.Reading.{Reading}
use Rattle.lines.specs.declared.line.Unread.{Unread}
use Rattle.lines.specs.Lines.{parsed, refused, Due, line}
use Rattle.lines.specs.Readings.{reading_said}
use Rattle.lines.specs.Laws.{Stands}
use Rattle.texts.specs.Forms.{Form, done, ask, read, written, fills, left}
use Rattle.lines.specs.Lines.{takes}
use Rattle.texts.specs.JobText.{job_form, task_said, message_said, head_size, task_size, message_size, messages_at, job_said, job_of_zeros}
use Rattle.texts.specs.JobText.{job_figures, job_text, writable, written_job, blanked}
use Rattle.texts.specs.declared.forms.Unwritten.{Unwritten}
use Rattle.texts.specs.Reader.{Reads}
use Rattle.texts.specs.Writer.{write_number, write_length, write_left, number_written, length_written, WritesJob}

-- What is read of a form fills it, and written again is the bytes that were read.
abbrev pub ReadIsWritten : Type 0
ReadIsWritten =
    (form : Form) (text : List ℕ) (at : ℕ) (ns : List ℕ) (next : ℕ) → read form text at ≡ parsed ns next →
    (fills form ns ≡ true) × Stands (written form ns) text at next

-- What fills a form reads back from its lines, whatever stands around them.
abbrev pub FilledReads : Type 0
FilledReads =
    (form : Form) (ns : List ℕ) → fills form ns ≡ true → (text : List ℕ) (at next : ℕ) → Stands (written form ns) text at next →
    read form text at ≡ parsed ns next

-- What a writer leaves: the buffer's length, and every byte past the text; what is judged before the room refuses first, whatever the buffer; a buffer of
-- exactly the text's length suffices, a shorter one does not; a refusal answers length 0 and leaves the very buffer.
pub record WriterLaws (before : ℕ) (text buffer : List ℕ) (number : ℕ) : Type 0 where
  pub long : length (write_left number text buffer) ≡ length buffer
  pub past_kept : drop (length text) (write_left number text buffer) ≡ drop (length text) buffer
  pub judged_first : (before ≡ 0 → ⊥) → number ≡ before
  pub too_short : before ≡ 0 → length buffer < length text → number ≡ 21
  pub accepted : before ≡ 0 → length text ≤ length buffer → number ≡ 0
  pub text_stands : number ≡ 0 → (write_length number text ≡ length text) × (take (length text) (write_left number text buffer) ≡ text)
  pub exact : before ≡ 0 → length text ≡ length buffer → write_left number text buffer ≡ text
  pub unwritten : (number ≡ 0 → ⊥) → (write_length number text ≡ 0) × (write_left number text buffer ≡ buffer)

abbrev pub WriterLawsHold : Type 0
WriterLawsHold = (before : ℕ) (text buffer : List ℕ) → WriterLaws before text buffer (write_number before text buffer)

-- figures that the form's first lines take
unfoldable pub begins_form : Form → List ℕ → Bool
begins_form form [] = true
begins_form done (n ∷ ns) = false
begins_form (ask due more) (n ∷ ns) = takes due n && begins_form (more n) ns

-- At a refusal every line before the place is well formed, the line there is not, and bytes after it do not matter.
pub record RefusedAt (form : Form) (text : List ℕ) (at number place : ℕ) : Type 0 where
  pub figures : List ℕ
  pub due : Due
  pub more : ℕ → Form
  -- the figures before are those that their lines take, and they stand there; what is due then is that line
  pub good_before : begins_form form figures ≡ true
  pub stand_before : Stands (written form figures) text at place
  pub due_there : left form figures ≡ ask due more
  pub bad_there : line due text place ≡ refused number place
  -- the first line feed from the place on ends the line: what follows may be anything
  pub after_no_matter :
      any_of (eqb line_feed) due.key ≡ false → (bytes rest other : List ℕ) → drop place text ≡ bytes ++ line_feed ∷ rest →
      read form (take place text ++ (bytes ++ line_feed ∷ other)) at ≡ refused number place

abbrev pub RefusedThere : Type 0
RefusedThere =
    (form : Form) (text : List ℕ) (at number place : ℕ) → read form text at ≡ refused number place → RefusedAt form text at number place

-- Jobs, for every count of machines.

-- the arrays of a job have their lengths, as every job of the code has
pub record Sized (machines : ℕ) (j : Job) : Type 0 where
  pub machines_at_most : machines ≤ most_machines
  pub tasks_long : length j.tasks ≡ most_tasks
  pub messages_long : length j.messages ≡ most_messages
  pub runs_long : (i : ℕ) → i < j.taskcount → length (get_or j.tasks i no_task).runs ≡ most_machines

-- A job and its figures. What figures say that fill the form has those figures again; what a writable job's figures say is that job, blank past its counts.
abbrev pub FiguresAgain : Type 0
FiguresAgain = (machines : ℕ) (ns : List ℕ) → fills (job_form machines) ns ≡ true → job_figures machines (job_said machines ns) ≡ ns

abbrev pub SaidAgain : Type 0
SaidAgain = (machines : ℕ) (j : Job) → Sized machines j → writable machines j ≡ true → job_said machines (job_figures machines j) ≡ blanked machines j

-- A row without figures says the job of zeros.
abbrev pub NoneSaid : Type 0
NoneSaid = (machines : ℕ) → job_said machines [] ≡ job_of_zeros

-- The entries of the job that a row says stand in groups: the task of a number, and the message at an index.
abbrev pub TaskStands : Type 0
TaskStands =
    (machines index : ℕ) (row : List ℕ) → index < get_or row 2 0 →
    task_of (job_said machines row) (index + 1) ≡ task_said (take (task_size machines) (drop (head_size + index * task_size machines) row))

abbrev pub MessageStands : Type 0
MessageStands =
    (machines index : ℕ) (row : List ℕ) → index < get_or row (messages_at machines row) 0 →
    get_or (job_said machines row).messages index no_message
    ≡ message_said (take message_size (drop (messages_at machines row + 1 + index * message_size) row))

-- What is read, written again, is the bytes that were read; and what was read is writable.
abbrev pub WrittenAgain : Type 0
WrittenAgain =
    (machines : ℕ) (text : List ℕ) (j : Job) (next : ℕ) → job_text machines text ≡ parsed j next →
    (take next text ≡ written_job machines j) × (writable machines j ≡ true)

-- Every writable job has a text that reads back as it, whatever follows.
abbrev pub ReadsBackAlways : Type 0
ReadsBackAlways =
    (machines : ℕ) (j : Job) → Sized machines j → writable machines j ≡ true → (rest : List ℕ) →
    job_text machines (written_job machines j ++ rest) ≡ parsed (blanked machines j) (length (written_job machines j))

-- Document 02, request 1: the writer and the reader, by their contracts. Reading what was written returns the same counts and listed figures, whatever bytes
-- the buffer has after them; writing a job read with no bytes left over returns those bytes.
abbrev pub ReadsBack : (machines : ℕ) → Job → Result ℕ Unwritten → Result (Reading Job) Unread → Type 0
ReadsBack machines j r back = reading_said back ≡ parsed (blanked machines j) (length_written r)

abbrev pub WrittenReadsBack : Type 0
WrittenReadsBack =
    (machines : ℕ) (j : Job) → Sized machines j → (old new : List ℕ) (r : Result ℕ Unwritten) → WritesJob machines j old new r → number_written r ≡ 0 →
    (back : Result (Reading Job) Unread) → Reads machines new back → ReadsBack machines j r back

pub record Rewritten (machines : ℕ) (text : List ℕ) (j : Job) : Type 0 where
  pub is_writable : writable machines j ≡ true
  pub same_text : written_job machines j ≡ text
  pub same_bytes :
      (old new : List ℕ) (r : Result ℕ Unwritten) → WritesJob machines j old new r → length text ≤ length old →
      (r ≡ Ok (length text)) × (new ≡ text ++ drop (length text) old)

abbrev pub ReadWholeWritten : Type 0
ReadWholeWritten =
    (machines : ℕ) (text : List ℕ) (it : Job) (r : Result (Reading Job) Unread) → Reads machines text r →
    r ≡ Ok (record { value = it; next = length text }) → Rewritten machines text it

-- A job's own figures fill the form exactly if it is writable: 20 is the same for a job and for its row of figures.
abbrev pub FillsIfWritable : Type 0
FillsIfWritable = (machines : ℕ) (j : Job) → Sized machines j → fills (job_form machines) (job_figures machines j) ≡ writable machines j

-- A refused job text: as any form, and none of its keys holds a line feed, so that what follows the ill line never matters.
pub record JobRefusedAt (machines : ℕ) (text : List ℕ) (number place : ℕ) : Type 0 where
  pub there : RefusedAt (job_form machines) text 0 number place
  pub after_no_matter :
      (bytes rest other : List ℕ) → drop place text ≡ bytes ++ line_feed ∷ rest →
      job_text machines (take place text ++ (bytes ++ line_feed ∷ other)) ≡ refused number place

abbrev pub JobRefusedThere : Type 0
JobRefusedThere =
    (machines : ℕ) (text : List ℕ) (number place : ℕ) → job_text machines text ≡ refused number place → JobRefusedAt machines text number place

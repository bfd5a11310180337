-- A reader must believe this: what a writer of texts answers and leaves, and the contract of the job writer. Document 02, request 1.
use Rattle.std.specs.Prelude.{◌≡◌, cond, List, ◌++◌, ℕ, ltb, eqb, length, drop, Result, Ok, Err}
use Rattle.rules.specs.declared.Job.{Job}
use Rattle.texts.specs.declared.forms.Unwritten.{Unwritten}
use Rattle.texts.specs.declared.forms.Unwritten.TheVariants.{Unwritable, NoRoom}
use Rattle.texts.specs.Forms.{written, fills}
use Rattle.texts.specs.JobText.{job_form, writable, written_job}

-- The number of a writer's answer. What is judged before the room refuses first, by its number, or is 0; 21: the buffer is too short for the text.
unfoldable pub write_number : (before : ℕ) → (text buffer : List ℕ) → ℕ
write_number before text buffer = cond (eqb before 0) (cond (ltb (length buffer) (length text)) 21 0) before

-- the length of the text, and 0 in a refusal
unfoldable pub write_length : (number : ℕ) → (text : List ℕ) → ℕ
write_length number text = cond (eqb number 0) (length text) 0

-- The buffer after it: the text from its start on, and later bytes untouched; a refusal writes no byte.
unfoldable pub write_left : (number : ℕ) → (text buffer : List ℕ) → List ℕ
write_left number text buffer = cond (eqb number 0) (text ++ drop (length text) buffer) buffer

-- A writer: the number of its answer and the length, and every byte of the buffer that it leaves.
pub record WritesSo (before : ℕ) (text old new : List ℕ) (number written : ℕ) : Type 0 where
  pub number_is : number ≡ write_number before text old
  pub length_is : written ≡ write_length (write_number before text old) text
  pub buffer_is : new ≡ write_left (write_number before text old) text old

-- The number and the length for each case of the code's answer.
abbrev pub unwritten_number : Unwritten → ℕ
unwritten_number Unwritable = 20
unwritten_number NoRoom = 21

abbrev pub number_written : Result ℕ Unwritten → ℕ
number_written (Ok written) = 0
number_written (Err unwritten) = unwritten_number unwritten

abbrev pub length_written : Result ℕ Unwritten → ℕ
length_written (Ok written) = written
length_written (Err unwritten) = 0

abbrev pub Writes : (before : ℕ) → (text old new : List ℕ) → Result ℕ Unwritten → Type 0
Writes before text old new r = WritesSo before text old new (number_written r) (length_written r)

-- 20: a count out of range or a figure too long, which is checked first.
abbrev pub unwritable_number : (machines : ℕ) → Job → ℕ
unwritable_number machines j = cond (writable machines j) 0 20

-- The job writer, for a table of so many machines.
abbrev pub WritesJob : (machines : ℕ) → Job → (old new : List ℕ) → Result ℕ Unwritten → Type 0
WritesJob machines j old new r = Writes (unwritable_number machines j) (written_job machines j) old new r

-- The same for a job that is given as a row of figures, in the order of its lines. 20 too: there is not one figure for each line.
abbrev pub unfilled_number : (machines : ℕ) → (figures : List ℕ) → ℕ
unfilled_number machines figures = cond (fills (job_form machines) figures) 0 20

abbrev pub WritesFigures : (machines : ℕ) → (figures old new : List ℕ) → Result ℕ Unwritten → Type 0
WritesFigures machines figures old new r = Writes (unfilled_number machines figures) (written (job_form machines) figures) old new r

-- Between functions: what the parts of `run` ask and answer, in the words of the definitions. Document 01, "The program `register`".
use Rattle.std.specs.Prelude.{◌≡◌, List, ◌++◌, map, ℕ, ◌+◌, ◌*◌, ◌≤◌, length, drop, Result, Ok, Err}
use Rattle.std.proofs.Math.Option.{some}
use Rattle.rules.specs.declared.Answer.{Answer}
use Rattle.rules.specs.declared.Setup.{Setup}
use Rattle.rules.specs.Sequences.{joined}
use Rattle.rules.specs.Words.{State, fresh, row_limit}
use Rattle.rules.specs.Refusals as Rules
use Rattle.rules.specs.Refusals.{submits}
use Rattle.rules.specs.declared.Job.{Job}
use Rattle.timetable.specs.declared.Timetable.{Timetable}
use Rattle.timetable.specs.Timetables.{TimetableOf, AskTimetable}
use Rattle.lines.specs.Figures.{field}
use Rattle.lines.specs.Parts.{word_digits}
use Rattle.lines.specs.Put.{Puts}
use Rattle.lines.specs.declared.line.Reading.{Reading}
use Rattle.lines.specs.Readings.{fault_number}
use Rattle.script.specs.declared.acts.Kind.{Kind}
use Rattle.script.specs.declared.acts.Kind.TheVariants.{Submit, Withdraw, Advance}
use Rattle.script.specs.declared.acts.Stop.{Stop}
use Rattle.script.specs.declared.acts.Stop.TheVariants.{Line, NoAct, TooLong}
use Rattle.texts.specs.JobText.{job_text}
use Rattle.texts.specs.Reader.{default_machines}
use Rattle.script.specs.Kinds.{call_of}
use Rattle.script.specs.Acts.{Act, call, unread, as_act, number_act, act}
use Rattle.script.specs.Keys.{job_key, from_key, to_key}
use Rattle.script.specs.Replies.{answer_key, task_key, cost_key, rows_key, refused_key, submission_reply, stop_line}
use Rattle.script.specs.Listing.{clock_key, total_key, held_key, machine_key, link_key, start_key, finish_key, row_bytes, sorted, listing}
use Rattle.script.specs.Program.{input_limit}
use Rattle.script.specs.Contract.{output_size}

-- the number of a reading refusal
abbrev pub stop_number : Stop → ℕ
stop_number (Line fault) = fault_number fault
stop_number NoAct = 17
stop_number TooLong = 19

-- the act that the code read
abbrev pub act_said : Result (Reading Kind) Stop → Job → Act
act_said (Ok reading) j = call (call_of reading.value j) reading.next
act_said (Err stop) j = unread (stop_number stop)

abbrev pub JobActIs : (text : List ℕ) (from : ℕ) → Job → Result (Reading Kind) Stop → Type 0
JobActIs text from j r = act_said r j ≡ as_act submits from (job_text default_machines (drop from text))

-- the act that a figure makes, which was read for a call
abbrev pub figure_said : (ℕ → Rules.Call) → Result (Reading ℕ) Stop → Act
figure_said make (Ok reading) = call (make reading.value) reading.next
figure_said make (Err stop) = unread (stop_number stop)

abbrev pub FigureIs : (key text : List ℕ) → (from : ℕ) → Result (Reading ℕ) Stop → Type 0
FigureIs key text from r = (make : ℕ → Rules.Call) → figure_said make r ≡ number_act make key text from

abbrev pub ActIs : (text : List ℕ) (at : ℕ) → Job → Result (Reading Kind) Stop → Type 0
ActIs text at j r = act_said r j ≡ act default_machines text at

-- the most bytes that a field of a 64-bit number takes: its key, the digits and the line feed
abbrev pub field_room : (key : List ℕ) → ℕ
field_room key = length key + (word_digits + 1)

pub record PutsField (old : List ℕ) (at : ℕ) (key : List ℕ) (n : ℕ) (new : List ℕ) (next : ℕ) : Type 0 where
  pub puts : Puts old at (field key n) new next
  pub short : length (field key n) ≤ field_room key

-- bytes written, and how many they are at the most
pub record PutsAtMost (old : List ℕ) (at : ℕ) (bytes new : List ℕ) (next most : ℕ) : Type 0 where
  pub puts : Puts old at bytes new next
  pub short : length bytes ≤ most

-- the most bytes that replies, rows and a listing take; the reply to a withdrawal or a clock move has one field
abbrev pub most_answer : ℕ
most_answer = field_room answer_key

abbrev pub most_reply : ℕ
most_reply = most_answer + field_room task_key + field_room cost_key + field_room rows_key

abbrev pub most_for : Kind → ℕ
most_for Submit = most_reply
most_for (Withdraw number) = most_answer
most_for (Advance tick) = most_answer

-- the reply to a call
abbrev pub reply_to : Kind → Answer → List ℕ
reply_to Submit a = submission_reply a
reply_to (Withdraw number) a = field answer_key a.number
reply_to (Advance tick) a = field answer_key a.number

abbrev pub PutsReply : (old : List ℕ) (at : ℕ) → Kind → Answer → (new : List ℕ) (next : ℕ) → Type 0
PutsReply old at c a new next = PutsAtMost old at (reply_to c a) new next (most_for c)

abbrev pub most_heading : ℕ
most_heading = field_room clock_key + field_room total_key + field_room held_key

-- the last two fields of every row
abbrev pub span_listed : (start finish : ℕ) → List ℕ
span_listed start finish = field start_key start ++ field finish_key finish

abbrev pub most_span : ℕ
most_span = field_room start_key + field_room finish_key

-- the five fields of a task's row and the seven of a message's
abbrev pub most_task_row : ℕ
most_task_row = field_room machine_key + field_room job_key + field_room task_key + field_room start_key + field_room finish_key

-- those of a message's row before its span
abbrev pub most_ends : ℕ
most_ends = field_room link_key + field_room to_key + field_room job_key + field_room from_key + field_room task_key

abbrev pub most_row : ℕ
most_row = most_ends + most_span

abbrev pub most_listing : ℕ
most_listing = most_heading + row_limit * most_row

-- what is asked where a timetable is listed, and what is written, whichever state it is of
pub record AskRows (output : List ℕ) (at : ℕ) (t : Timetable) : Type 0 where
  pub timetable : AskTimetable t
  pub room : at + row_limit * most_row ≤ length output

abbrev pub PutsRows : (old : List ℕ) (at : ℕ) → Timetable → (new : List ℕ) (next : ℕ) → Type 0
PutsRows old at t new next = (s : Setup) (st : State) → TimetableOf s st t → Puts old at (joined (map row_bytes (sorted st.rows))) new next

pub record AskListing (output : List ℕ) (at : ℕ) (t : Timetable) : Type 0 where
  pub timetable : AskTimetable t
  pub room : at + most_listing ≤ length output

abbrev pub PutsListing : (old : List ℕ) (at : ℕ) → Timetable → (new : List ℕ) (next : ℕ) → Type 0
PutsListing old at t new next = (s : Setup) (st : State) → TimetableOf s st t → Puts old at (listing st) new next

-- the most bytes that a reading refusal takes
abbrev pub most_stop : ℕ
most_stop = field_room refused_key

pub record AskRefusal (output : List ℕ) (at : ℕ) (t : Timetable) : Type 0 where
  pub timetable : AskTimetable t
  pub room : at + (most_stop + most_listing) ≤ length output

abbrev pub PutsRefusal : (old : List ℕ) (at : ℕ) → Stop → Timetable → (new : List ℕ) (next : ℕ) → Type 0
PutsRefusal old at stop t new next =
    (s : Setup) (st : State) → TimetableOf s st t → Puts old at (stop_line (some (stop_number stop)) ++ listing st) new next

-- what is written for an input above the limit
abbrev pub too_long_output : List ℕ
too_long_output = stop_line (some 19) ++ listing fresh

abbrev pub AskTooLong : (output : List ℕ) → Type 0
AskTooLong output = length output ≡ output_size

pub record AskCalls (input output : List ℕ) : Type 0 where
  pub few : length input ≤ input_limit
  pub room : length output ≡ output_size

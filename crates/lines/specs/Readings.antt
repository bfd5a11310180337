-- A reader must believe this: what reading a line or a form answers, by 01's numbers and places. Document 01, "Job text".
use Rattle.std.specs.Prelude.{◌≡◌, ℕ, Result, Ok, Err}
use Rattle.std.proofs.Math.Option.{Option, none, some}
use Rattle.lines.specs.declared.line.Fault.{Fault}
use Rattle.lines.specs.declared.line.Fault.TheVariants.{NoKey, IllWritten, OutOfRange, Unfit}
use Rattle.lines.specs.declared.line.Reading.{Reading}
use Rattle.lines.specs.declared.line.Unread.{Unread}
use Rattle.lines.specs.Lines.{Parsed, parsed, refused}

-- What the form finds: 0 or the refusal's number; the place after what was read, or of the refused line; what was read, if it was.

abbrev pub parsed_number : {A : Type 0} → Parsed A → ℕ
parsed_number (parsed a next) = 0
parsed_number (refused number place) = number

abbrev pub parsed_place : {A : Type 0} → Parsed A → ℕ
parsed_place (parsed a next) = next
parsed_place (refused number place) = place

abbrev pub parsed_value : {A : Type 0} → Parsed A → Option A
parsed_value (parsed a next) = some a
parsed_value (refused number place) = none

-- The same of the code's answer, case by case.

abbrev pub fault_number : Fault → ℕ
fault_number NoKey = 14
fault_number IllWritten = 15
fault_number OutOfRange = 16
fault_number (Unfit number) = number

abbrev pub number_of_reading : {A : Type 0} → Result (Reading A) Unread → ℕ
number_of_reading (Ok reading) = 0
number_of_reading (Err unread) = fault_number unread.fault

abbrev pub reading_place : {A : Type 0} → Result (Reading A) Unread → ℕ
reading_place (Ok reading) = reading.next
reading_place (Err unread) = unread.at

abbrev pub reading_value : {A : Type 0} → Result (Reading A) Unread → Option A
reading_value (Ok reading) = some reading.value
reading_value (Err unread) = none

abbrev pub reading_said : {A : Type 0} → Result (Reading A) Unread → Parsed A
reading_said (Ok reading) = parsed reading.value reading.next
reading_said (Err unread) = refused (fault_number unread.fault) unread.at

-- the whole answer is that of the form, and so are its number, place and value
abbrev pub ReadingIs : {A : Type 0} → Parsed A → Result (Reading A) Unread → Type 0
ReadingIs found answer = reading_said answer ≡ found

-- Between functions: the rows of a register by where they begin on the line, columns with a figure of each, and what the functions that change columns do.
use Rattle.std.specs.Prelude.{◌≡◌, Bool, false, cond, List, [], ◌∷◌, ◌++◌, map, ℕ, ◌+◌, ◌-◌, ◌≤◌, ◌<◌, ltb, length, get_or, take, drop, replicate}
use Rattle.rules.specs.declared.Row.{Row}
use Rattle.rules.specs.Words.{hold_of, row_limit, most_tasks, most_messages}
use Rattle.rules.specs.Placing.{no_row}
use Rattle.timeline.specs.declared.notes.Note.{Note}
use Rattle.timeline.specs.Timeline.{begin_of, end_of}

-- the rows of one job at the most, and the room of the columns
abbrev pub most_own : ℕ
most_own = most_tasks + most_messages

abbrev pub spans_room : ℕ
spans_room = row_limit + most_own

abbrev pub row_begin : Row → ℕ
row_begin row = begin_of (hold_of row)

abbrev pub row_end : Row → ℕ
row_end row = end_of (hold_of row)

-- The line of rows: each is inserted before the first that begins later.
unfoldable pub insert_row : Row → List Row → List Row
insert_row row [] = row ∷ []
insert_row row (other ∷ line) = cond (ltb (row_begin row) (row_begin other)) (row ∷ other ∷ line) (other ∷ insert_row row line)

unfoldable pub line_onto : List Row → List Row → List Row
line_onto line [] = line
line_onto line (row ∷ rows) = line_onto (insert_row row line) rows

abbrev pub line_of : List Row → List Row
line_of rows = line_onto [] rows

-- rows, and blank ones up to a room
abbrev pub slots : (room : ℕ) → List Row → List Row
slots room rows = rows ++ replicate (room - length rows) no_row

-- what each slot says
abbrev pub column : {A : Type 0} → (figure : Row → A) → List Row → List A
column figure line = map figure (slots spans_room line)

-- the begins and ends of rows, in their order on the line
pub record SpansOf (rows : List Row) (begins ends : List ℕ) : Type 0 where
  pub begins_are : begins ≡ column row_begin (line_of rows)
  pub ends_are : ends ≡ column row_end (line_of rows)

-- what is noted of a row: its holder, its cost, and the last finish of its job
abbrev pub note_of : (last : ℕ → ℕ) → Row → Note
note_of last row = record { holder = row.holder; cost = row.cost; last = last row.job }

abbrev pub notes_of : (last : ℕ → ℕ) → List Row → List Note
notes_of last line = column (note_of last) line

-- where a row goes on a line
pub record GoesAt (line : List Row) (row : Row) (at : ℕ) : Type 0 where
  pub within : at ≤ length line
  pub is : insert_row row line ≡ take at line ++ (row ∷ drop at line)

-- A value put at an index of the first so many, and those from there on one place further.
pub record InsertedAt {A : Type 0} (old : List A) (count at : ℕ) (value : A) (new : List A) : Type 0 where
  pub new_is : new ≡ take at old ++ (value ∷ (take (count - at) (drop at old) ++ drop (count + 1) old))
  pub long : length new ≡ length old

pub record AskInsert {A : Type 0} (old : List A) (count at : ℕ) : Type 0 where
  pub room : count < length old
  pub within : at ≤ count

-- A value taken out at an index of the first so many: those after it go one place back, and the last leaves a blank.
pub record RemovedAt {A : Type 0} (old : List A) (count at : ℕ) (blank : A) (new : List A) : Type 0 where
  pub new_is : new ≡ take at old ++ (take (count - (at + 1)) (drop (at + 1) old) ++ (blank ∷ drop count old))
  pub long : length new ≡ length old

pub record AskRemoveAt {A : Type 0} (old : List A) (count at : ℕ) : Type 0 where
  pub room : count ≤ length old
  pub within : at < count

-- the column says of each row whether it leaves
pub record Says (leaves : Row → Bool) (rows : List Row) (column : List Bool) : Type 0 where
  pub long : length rows ≤ length column
  pub says : (k : ℕ) → k < length rows → get_or column k false ≡ leaves (get_or rows k no_row)

-- Between functions: what the parts of the engine ask and answer.
use Rattle.std.specs.Prelude.{◌≡◌, true, false, List, ◌++◌, ℕ, suc, ◌≤◌, length, drop, Option, Some, None, Result}
use Rattle.lines.specs.declared.line.DueLine.{DueLine}
use Rattle.lines.specs.declared.line.Reading.{Reading}
use Rattle.lines.specs.declared.line.Unread.{Unread}
use Rattle.lines.specs.Lines.{parsed, Due, takes}
use Rattle.lines.specs.Readings.{ReadingIs}
use Rattle.lines.specs.DueLines.{due_of}
use Rattle.lines.specs.Parts.{most_scanned}
use Rattle.texts.specs.Forms.{Form, done, ask, read, written, fills}
use Rattle.texts.specs.Reader.{with_count}

-- Places in a form.

-- the form that is left where a line is left, or none
abbrev pub form_left : {L : Type 0} → (form : L → Form) → Option L → Form
form_left form None = done
form_left form (Some line) = form line

-- the line due is the one that the form asks, and its digits can be scanned
pub record DueIs (form : Form) (r : DueLine) : Type 0 where
  pub more : ℕ → Form
  pub is : form ≡ ask (due_of r) more
  pub digits : r.digits ≤ most_scanned

-- the figure is one that the line takes, and there is a machine
pub record AskNext (form : Form) (machines figure : ℕ) : Type 0 where
  pub some_machine : 1 ≤ machines
  pub taken : (due : Due) (more : ℕ → Form) → form ≡ ask due more → takes due figure ≡ true

-- the form that is left is the one that goes on for the figure
abbrev pub NextIs : (form : Form) (figure : ℕ) (left : Form) → Type 0
NextIs form figure left = (due : Due) (more : ℕ → Form) → form ≡ ask due more → left ≡ more figure

-- The engine.

-- a form asks for so many figures at the most
pub data AtMost : ℕ → Form → Type 0 where
  at_end : {n : ℕ} → AtMost n done
  at_line : {n : ℕ} {due : Due} {more : ℕ → Form} → ((k : ℕ) → takes due k ≡ true → AtMost n (more k)) → AtMost (suc n) (ask due more)

pub record AskRead (form : Form) (machines : ℕ) (row : List ℕ) : Type 0 where
  pub some_machine : 1 ≤ machines
  pub room : AtMost (length row) form

-- the figures stand in the row from its start on, if all were read
pub record FormRead (form : Form) (text old new : List ℕ) (r : Result (Reading ℕ) Unread) : Type 0 where
  pub reading_is : ReadingIs (with_count (read form text 0)) r
  pub long : length new ≡ length old
  pub figures_are : (ns : List ℕ) (next : ℕ) → read form text 0 ≡ parsed ns next → new ≡ ns ++ drop (length ns) old

-- figures are few enough that the bytes of their lines can be counted
abbrev pub most_written : ℕ
most_written = 65_536

pub record AskWrite (machines : ℕ) (figures : List ℕ) : Type 0 where
  pub some_machine : 1 ≤ machines
  pub few : length figures ≤ most_written

-- how many bytes the lines have, where the figures fill the form; if they are few enough, the very number
pub record MeasuredIs (form : Form) (figures : List ℕ) (r : Option ℕ) : Type 0 where
  pub unfilled : r ≡ None → fills form figures ≡ false
  pub filled : (n : ℕ) → r ≡ Some n → (fills form figures ≡ true) × (length figures ≤ most_written → n ≡ length (written form figures))

-- the figures fill the form
pub record AskPut (form : Form) (machines : ℕ) (figures : List ℕ) : Type 0 where
  pub some_machine : 1 ≤ machines
  pub fills_it : fills form figures ≡ true

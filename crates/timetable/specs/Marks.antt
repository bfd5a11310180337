-- Between functions: what is read off a timetable, whatever rows it is of.
use Rattle.std.specs.Prelude.{◌≡◌, Bool, ◌&&◌, ℕ, ◌<◌, min, leb, length, get_or, Option, Some, None}
use mathlib.Core.List.{List, map, Memᴰ}
use Rattle.rules.specs.declared.Row.{Row}
use Rattle.rules.specs.Sequences.{any_of}
use Rattle.rules.specs.Words.{of_job}
use Rattle.rules.specs.Placing.{no_row}
use Rattle.timeline.specs.declared.notes.Note.{Note}
use Rattle.timeline.specs.Timeline.{tick_room}
use Rattle.timeline.specs.RowLine.{row_begin, column, notes_of, Says}
use Rattle.timetable.specs.declared.Timetable.{Timetable}
use Rattle.timetable.specs.Derived.{least_of, never}

abbrev pub JobsOf : List Row → List ℕ → Type 0
JobsOf line jobs = jobs ≡ column (λ row. row.job) line

abbrev pub HeldIs : (jobs : List ℕ) (count job : ℕ) → Bool → Type 0
HeldIs jobs count job r = (line : List Row) → length line ≡ count → JobsOf line jobs → r ≡ any_of (of_job job) line

-- the first that carries the number stands there, or none does
pub record PlaceOf (jobs : List ℕ) (count job : ℕ) (r : Option ℕ) : Type 0 where
  pub none_held : r ≡ None → (i : ℕ) → i < count → get_or jobs i 0 ≡ job → ⊥
  pub below : (at : ℕ) → r ≡ Some at → at < count
  pub here : (at : ℕ) → r ≡ Some at → get_or jobs at 0 ≡ job
  pub none_before : (at : ℕ) → r ≡ Some at → (i : ℕ) → i < at → get_or jobs i 0 ≡ job → ⊥

abbrev pub AskBegun : Timetable → (job from : ℕ) → Type 0
AskBegun t job from = (i : ℕ) → i < from → get_or t.jobs i 0 ≡ job → ⊥

abbrev pub BegunIs : Timetable → (job : ℕ) → Bool → Type 0
BegunIs t job r =
    (line : List Row) → length line ≡ t.line.count → ((i : ℕ) → i < t.line.count → (get_or line i no_row).start < tick_room) →
    JobsOf line t.jobs → t.line.begins ≡ column row_begin line → r ≡ any_of (λ row. of_job job row && leb row.start t.clock) line

abbrev pub RowsOfIs : (jobs : List ℕ) (count job : ℕ) → List Bool → Type 0
RowsOfIs jobs count job leaves = (line : List Row) → length line ≡ count → JobsOf line jobs → Says (of_job job) line leaves

-- a job's rows all leave, or all stay
abbrev pub WholeJobs : (leaving : Row → Bool) → List Row → Type 0
WholeJobs leaving rows = (a b : Row) → Memᴰ a rows → Memᴰ b rows → a.job ≡ b.job → leaving a ≡ leaving b

-- whatever the last finish of each job is
abbrev pub RowsEndedIs : (notes : List Note) (count tick : ℕ) → List Bool → Type 0
RowsEndedIs notes count tick leaves =
    (line : List Row) (last : ℕ → ℕ) → length line ≡ count → notes ≡ notes_of last line → Says (λ row. leb (last row.job) tick) line leaves

abbrev pub SoonestIs : (notes : List Note) (count r : ℕ) → Type 0
SoonestIs notes count r =
    (line : List Row) (last : ℕ → ℕ) → length line ≡ count → notes ≡ notes_of last line → r ≡ least_of never (map (λ row. last row.job) line)

-- the soonest end without a job whose last finish is given
abbrev pub SoonestLeft : (notes : List Note) (count soonest last r : ℕ) → Type 0
SoonestLeft notes count soonest last r =
    (line : List Row) (lasts : ℕ → ℕ) → length line ≡ count → notes ≡ notes_of lasts line →
    soonest ≡ min last (least_of never (map (λ row. lasts row.job) line)) → r ≡ least_of never (map (λ row. lasts row.job) line)

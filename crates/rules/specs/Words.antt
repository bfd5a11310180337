-- A reader must believe this: document 01, "Words and ranges": what is said of machines, links, jobs, rows and registers, and every limit.
use Rattle.std.specs.Prelude.{Bool, false, ◌&&◌, List, [], ◌∷◌, ◌++◌, map, ℕ, ◌+◌, ◌-◌, ◌*◌, ◌≤◌, ◌<◌, max, min, ltb, eqb, length, get_or, take, replicate}
use Rattle.rules.specs.declared.Holder.{Holder}
use Rattle.rules.specs.declared.Holder.TheVariants.{TaskOn, MessageOn}
use Rattle.rules.specs.declared.Row.{Row}
use Rattle.rules.specs.declared.Task.{Task}
use Rattle.rules.specs.declared.Message.{Message}
use Rattle.rules.specs.declared.Job.{Job}
use Rattle.rules.specs.declared.Setup.{Setup}
use Rattle.rules.specs.Sequences.{any_of, keep, numbers, joined}

-- The ranges.

abbrev pub largest_number : ℕ
largest_number = 65_535

abbrev pub most_tasks : ℕ
most_tasks = 16

abbrev pub most_messages : ℕ
most_messages = 32

-- a scheduling, dispatch or run time
abbrev pub largest_time : ℕ
largest_time = 1_000_000

abbrev pub largest_volume : ℕ
largest_volume = 1_000

-- the last tick that a deadline or the clock may name
abbrev pub horizon : ℕ
horizon = 1_000_000_000

abbrev pub row_limit : ℕ
row_limit = 256

-- A span holds its start and not its finish.
pub record Span : Type 0 where
  pub start : ℕ
  pub finish : ℕ

abbrev pub Within : ℕ → Span → Type 0
Within tick s = (s.start ≤ tick) × (tick < s.finish)

-- two spans share a tick
unfoldable pub meets : Span → Span → Bool
meets a b = ltb (max a.start b.start) (min a.finish b.finish)

-- What a row books: a machine, or a link, an ordered pair of different machines.
pub data Resource : Type 0 where
  machine : ℕ → Resource
  link : ℕ → ℕ → Resource

unfoldable pub same : Resource → Resource → Bool
same (machine m) (machine n) = eqb m n
same (machine m) (link a b) = false
same (link a b) (machine n) = false
same (link a b) (link c d) = eqb a c && eqb b d

unfoldable pub held_by : Holder → Resource
held_by (TaskOn m t) = machine m
held_by (MessageOn a b s r) = link a b

abbrev pub resource : Row → Resource
resource row = held_by row.holder

abbrev pub span : Row → Span
span row = record { start = row.start; finish = row.finish }

-- A hold: a resource is taken for a span. What a row holds is its resource for its span.
pub record Hold : Type 0 where
  pub on : Resource
  pub span : Span

abbrev pub hold_of : Row → Hold
hold_of row = record { on = resource row; span = span row }

abbrev pub holds : List Row → List Hold
holds rows = map hold_of rows

-- The tables that a register is opened with. Machines are numbered from 1.

-- the machines that a table has room for
abbrev pub most_machines : ℕ
most_machines = 8

abbrev pub machines : Setup → List ℕ
machines s = numbers 1 s.table.machines

abbrev pub rate : Setup → ℕ → ℕ
rate s m = get_or s.table.rates (m - 1) 0

-- the place of link a to b in the link columns, which stand row by row, a row for each sending machine
abbrev pub link_place : ℕ → ℕ → ℕ
link_place a b = (a - 1) * most_machines + (b - 1)

-- link time per unit of volume
abbrev pub link_time : Setup → ℕ → ℕ → ℕ
link_time s a b = get_or s.table.times (link_place a b) 0

abbrev pub link_rate : Setup → ℕ → ℕ → ℕ
link_rate s a b = get_or s.table.fails (link_place a b) 0

-- figures for the machines that there are, and zeros for those that there is room for
abbrev pub row_of : List ℕ → List ℕ
row_of figures = figures ++ replicate (most_machines - length figures) 0

-- such rows, and rows of zeros
abbrev pub square_of : List (List ℕ) → List ℕ
square_of rows = joined (map row_of rows) ++ replicate ((most_machines - length rows) * most_machines) 0

-- the default tables, a row for each machine
unfoldable pub setup_by_default : Setup
setup_by_default = record {
  table = record {
    machines = 4;
    rates = row_of (10 ∷ 4 ∷ 10 ∷ 25 ∷ []);
    times =
        square_of
        ((0 ∷ 2 ∷ 3 ∷ 1 ∷ [])
        ∷ (2 ∷ 0 ∷ 1 ∷ 4 ∷ [])
        ∷ (3 ∷ 1 ∷ 0 ∷ 2 ∷ [])
        ∷ (1 ∷ 4 ∷ 2 ∷ 0 ∷ [])
        ∷ []);
    fails =
        square_of
        ((0 ∷ 5 ∷ 8 ∷ 6 ∷ [])
        ∷ (5 ∷ 0 ∷ 7 ∷ 9 ∷ [])
        ∷ (8 ∷ 7 ∷ 0 ∷ 5 ∷ [])
        ∷ (6 ∷ 9 ∷ 5 ∷ 0 ∷ [])
        ∷ []);
  };
}

-- A job. Array entries past the counts are no part of it. Tasks are numbered from 1.

abbrev pub messages_of : Job → List Message
messages_of j = take j.messagecount j.messages

abbrev pub task_numbers : Job → List ℕ
task_numbers j = numbers 1 j.taskcount

abbrev pub no_task : Task
no_task = record { deadline = 0; dispatch = 0; runs = [] }

abbrev pub no_message : Message
no_message = record { sender = 0; receiver = 0; volume = 0 }

abbrev pub task_of : Job → ℕ → Task
task_of j t = get_or j.tasks (t - 1) no_task

-- 0 says that the machine cannot run it
abbrev pub run_time : Job → ℕ → ℕ → ℕ
run_time j t m = get_or (task_of j t).runs (m - 1) 0

-- The register.

-- what a register holds beside its rows and their total
pub record Calendar : Type 0 where
  pub clock : ℕ

abbrev pub new_calendar : Calendar
new_calendar = record { clock = 0 }

-- the same with another clock
abbrev pub with_clock : ℕ → Calendar → Calendar
with_clock tick cal = record { clock = tick }

pub record State : Type 0 where
  pub calendar : Calendar
  pub rows : List Row
  pub total : ℕ

abbrev pub fresh : State
fresh = record { calendar = new_calendar; rows = []; total = 0 }

-- the same rows and total with another calendar
abbrev pub with_calendar : Calendar → State → State
with_calendar cal st = record { calendar = cal; rows = st.rows; total = st.total }

abbrev pub of_job : ℕ → Row → Bool
of_job n row = eqb row.job n

-- What the rules read: of the register here, of the journal in its own section.
pub record View : Type 0 where
  pub calendar : Calendar
  pub rows : List Row
  pub held : ℕ → Bool
  pub rows_of : ℕ → List Row

-- a job is held while some row carries its number
abbrev pub view : State → View
view st = record {
  calendar = st.calendar;
  rows = st.rows;
  held = λ n. any_of (of_job n) st.rows;
  rows_of = λ n. keep (of_job n) st.rows;
}

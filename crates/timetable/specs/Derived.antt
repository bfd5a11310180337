-- A reader must believe this: what a register keeps beside its rows, so that a call need not look through them. Each is a definition over the rows.
use Rattle.std.specs.Prelude.{List, [], ◌∷◌, map, ℕ, ◌+◌, max, min, length}
use Rattle.rules.specs.declared.Row.{Row}
use Rattle.rules.specs.Sequences.{keep}
use Rattle.rules.specs.Words.{State, of_job, horizon}
use Rattle.timeline.specs.RowLine.{row_begin, row_end, line_of, column, notes_of}
use Rattle.timetable.specs.declared.Timetable.{Timetable}

unfoldable pub least_of : (none : ℕ) → List ℕ → ℕ
least_of none [] = none
least_of none (n ∷ ns) = min n (least_of none ns)

unfoldable pub most_of : List ℕ → ℕ
most_of [] = 0
most_of (n ∷ ns) = max n (most_of ns)

-- past every tick that a call may name
abbrev pub never : ℕ
never = horizon + 1

-- among the rows of a job the last finish
abbrev pub last_finish : List Row → ℕ → ℕ
last_finish rows number = most_of (map (λ row. row.finish) (keep (of_job number) rows))

-- the soonest tick at which a job has ended, and so leaves
abbrev pub soonest_end : List Row → ℕ
soonest_end rows = least_of never (map (λ row. last_finish rows row.job) rows)

-- The one timetable of a state: all that it keeps is made of the rows, and what is not used is blank.
abbrev pub timetable_of : State → Timetable
timetable_of st = record {
  line = record {
    begins = column row_begin (line_of st.rows);
    ends = column row_end (line_of st.rows);
    count = length st.rows;
  };
  jobs = column (λ row. row.job) (line_of st.rows);
  notes = notes_of (last_finish st.rows) (line_of st.rows);
  clock = st.calendar.clock;
  total = st.total;
  soonest = soonest_end st.rows;
}

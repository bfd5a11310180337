-- A reader must believe this: document 01, "Withdrawing, and moving the clock", and how an admission changes the register.
use Rattle.std.specs.Prelude.{Bool, not, List, ◌++◌, ℕ, ◌+◌, ◌-◌, leb}
use Rattle.rules.specs.declared.Row.{Row}
use Rattle.rules.specs.Sequences.{keep, all_of}
use Rattle.rules.specs.Words.{with_clock, State, with_calendar, view, of_job}
use Rattle.rules.specs.Placing.{costs}

-- the rows of an admitted job go after the held ones, and its cost is added
unfoldable pub admit : State → List Row → State
admit st found = record { calendar = st.calendar; rows = st.rows ++ found; total = st.total + costs found }

-- the rows that pass the test leave, the others stay in order, and the cost of those that left is taken off
unfoldable pub remove : (Row → Bool) → State → State
remove leaves st = record {
  calendar = st.calendar;
  rows = keep (λ row. not (leaves row)) st.rows;
  total = st.total - costs (keep leaves st.rows);
}

-- a withdrawal removes all rows of the job
unfoldable pub withdraw : State → ℕ → State
withdraw st n = remove (of_job n) st

-- every one of the rows ends at or before the tick
unfoldable pub ended : ℕ → List Row → Bool
ended tick rows = all_of (λ row. leb row.finish tick) rows

-- a clock move sets the clock, then removes each job whose every row has ended
unfoldable pub advance : State → ℕ → State
advance st tick =
    remove (λ row. ended tick ((view st).rows_of row.job)) (with_calendar (with_clock tick st.calendar) st)

-- A reader must believe this: document 01, "The journal of demand 3". It is fed the calls' arguments alone.
use Rattle.std.specs.Prelude.{Bool, not, List, [], ◌∷◌, ◌++◌, ℕ, eqb}
use Rattle.rules.specs.declared.Row.{Row}
use Rattle.rules.specs.declared.Job.{Job}
use Rattle.rules.specs.declared.Setup.{Setup}
use Rattle.rules.specs.Sequences.{any_of, keep, sum_of}
use Rattle.rules.specs.Words.{Calendar, new_calendar, with_clock, View}
use Rattle.rules.specs.Placing.{costs}
use Rattle.rules.specs.Withdrawing.{ended}
use Rattle.rules.specs.Refusals.{Call, submits, withdraws, advances, Step, settle, submit_answer, withdraw_answer, advance_answer, found, placing}

-- a job as submitted, with its rows and its cost
pub record Entry : Type 0 where
  pub job : Job
  pub rows : List Row
  pub cost : ℕ

pub record Journal : Type 0 where
  pub calendar : Calendar
  pub entries : List Entry

abbrev pub empty : Journal
empty = record { calendar = new_calendar; entries = [] }

abbrev pub entry_of : ℕ → Entry → Bool
entry_of n e = eqb e.job.number n

-- the entries' rows in turn
abbrev pub rows_in : List Entry → List Row
rows_in [] = []
rows_in (e ∷ entries) = e.rows ++ rows_in entries

-- the sum of the entries' costs
abbrev pub journal_total : Journal → ℕ
journal_total jn = sum_of (λ e. e.cost) jn.entries

abbrev pub journal_view : Journal → View
journal_view jn = record {
  calendar = jn.calendar;
  rows = rows_in jn.entries;
  held = λ n. any_of (entry_of n) jn.entries;
  rows_of = λ n. rows_in (keep (entry_of n) jn.entries);
}

unfoldable pub enter : Journal → Job → List Row → Journal
enter jn j rows = record { calendar = jn.calendar; entries = jn.entries ++ (record { job = j; rows = rows; cost = costs rows } ∷ []) }

unfoldable pub journal_step : Setup → Journal → Call → Step Journal
journal_step s jn (submits j) =
    settle (submit_answer s (journal_view jn) j) jn (enter jn j (found (placing s (journal_view jn) j)))
journal_step s jn (withdraws n) =
    settle (withdraw_answer (journal_view jn) n) jn (record { calendar = jn.calendar; entries = keep (λ e. not (entry_of n e)) jn.entries })
journal_step s jn (advances tick) =
    settle (advance_answer (journal_view jn) tick) jn (record
    { calendar = with_clock tick jn.calendar; entries = keep (λ e. not (ended tick e.rows)) jn.entries })

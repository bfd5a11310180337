-- Between functions: the rows that a job has so far.
use Rattle.std.specs.Prelude.{◌≡◌, List, ◌++◌, ℕ, ◌<◌, length, get_or, take}
use Rattle.rules.specs.declared.Holder.TheVariants.{TaskOn}
use Rattle.rules.specs.declared.Row.{Row}
use Rattle.rules.specs.Placing.{no_row}
use Rattle.timeline.specs.RowLine.{line_of, GoesAt}
use Rattle.timeline.specs.Bookings.{booking_of}
use Rattle.placement.specs.declared.own.Entry.{Entry}

-- what a row is noted as, once it has gone to an index
abbrev pub entry_for : (at : ℕ) → Row → Entry
entry_for at row = record { at = at; booking = booking_of row }

abbrev pub no_entry : Entry
no_entry = record { at = 0; booking = record { begin = 0; end = 0; holder = TaskOn 0 0; cost = 0 } }

abbrev pub nth_entry : List Entry → ℕ → Entry
nth_entry own i = get_or own i no_entry

-- the entries are those of the job's rows so far, beside the rows held: each went to its index on the line of those before it
pub record OwnRows (rows new : List Row) (own : List Entry) : Type 0 where
  pub long : length own ≡ length new
  pub is : (i : ℕ) → i < length new → nth_entry own i ≡ entry_for (nth_entry own i).at (get_or new i no_row)
  pub goes : (i : ℕ) → i < length new → GoesAt (line_of (rows ++ take i new)) (get_or new i no_row) (nth_entry own i).at

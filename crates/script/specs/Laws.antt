-- A reader must believe this: what is claimed of the definitions of "The program `register`", document 01. proofs/ show that it holds.
use Rattle.std.specs.Prelude.{◌≡◌, Bool, false, List, ℕ, suc, ◌≤◌, ◌<◌, length, get_or}
use Rattle.rules.specs.declared.Row.{Row}
use Rattle.rules.specs.Sequences.{precedes, count_of}
use Rattle.rules.specs.Placing.{no_row}
use Rattle.script.specs.Listing.{row_order, sorted}
use Rattle.script.specs.Program.{script_from}

-- the listing stands by machine and start, then by link and start: no row precedes the one before it
abbrev pub InOrder : Type 0
InOrder =
    (rows : List Row) (i : ℕ) → suc i < length (sorted rows) →
    precedes (row_order (get_or (sorted rows) (suc i) no_row)) (row_order (get_or (sorted rows) i no_row)) ≡ false

-- its rows are the register's: as many pass any test
abbrev pub SameRows : Type 0
SameRows = (rows : List Row) (test : Row → Bool) → count_of test (sorted rows) ≡ count_of test rows

-- no script is cut short: more turns than there are bytes read nothing more
abbrev pub TurnsEnough : Type 0
TurnsEnough = (machines : ℕ) (text : List ℕ) (turns : ℕ) → length text ≤ turns → script_from machines turns text 0 ≡ script_from machines (length text) text 0

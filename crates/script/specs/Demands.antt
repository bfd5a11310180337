-- A reader must believe this: what demand 3 claims of every script. Document 01, "The journal of demand 3" and "The program `register`".
use Rattle.std.specs.Prelude.{◌≡◌, List, ◌++◌, ℕ}
use Rattle.rules.specs.declared.Setup.{Setup}
use Rattle.rules.specs.Words.{State}
use Rattle.rules.specs.Refusals.{Call, answers}
use Rattle.rules.specs.Journal.{Journal, empty, journal_step, rows_in, journal_total}
use Rattle.rules.specs.Demands.{journal_left, Demand3}
use Rattle.script.specs.Replies.{stop_line}
use Rattle.script.specs.Listing.{listing}
use Rattle.script.specs.Program.{script, replies, program}

-- what a journal holds, as a state
abbrev pub journal_state : Journal → State
journal_state jn = record { calendar = jn.calendar; rows = rows_in jn.entries; total = journal_total jn }

-- the calls that a script makes of a register opened with the setup
abbrev pub calls_of : Setup → List ℕ → List Call
calls_of s text = (script s.table.machines text).calls

-- What is printed are the journal's answers to the script's calls, the reading refusal, and the listing of the journal's clock, rows and total.
pub record Demand3OfScript (s : Setup) (text : List ℕ) : Type 0 where
  pub printed_is :
      program s text
      ≡ replies (calls_of s text) (answers (journal_step s) empty (calls_of s text))
      ++ stop_line (script s.table.machines text).stop
      ++ listing (journal_state (journal_left s (calls_of s text)))
  pub demand : Demand3 s (calls_of s text)

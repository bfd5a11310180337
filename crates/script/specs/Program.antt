-- A reader must believe this: the calls that a script makes, and the whole output. Document 01, "The program `register`".
use Rattle.std.specs.Prelude.{cond, List, [], ◌∷◌, ◌++◌, ℕ, zero, suc, ltb, length}
use Rattle.std.proofs.Math.Option.{Option, none, some}
use Rattle.rules.specs.declared.Answer.{Answer}
use Rattle.rules.specs.declared.Setup.{Setup}
use Rattle.rules.specs.Words.{State, fresh}
use Rattle.rules.specs.Refusals.{Call, step, answers, after}
use Rattle.script.specs.Acts.{input_ends, call, unread, act}
use Rattle.script.specs.Replies.{reply, stop_line}
use Rattle.script.specs.Listing.{listing}

-- The calls of a script in their order, and the reading refusal that ended it, if one did.
pub record Script : Type 0 where
  pub calls : List Call
  pub stop : Option ℕ

unfoldable pub script_from : (machines turns : ℕ) (text : List ℕ) (at : ℕ) → Script
script_from machines zero text at = record { calls = []; stop = none }
script_from machines (suc turns) text at =
    elim (act machines text at) [
      | input_ends ↦ record { calls = []; stop = none }
      | call c next ↦ record { calls = c ∷ (script_from machines turns text next).calls; stop = (script_from machines turns text next).stop }
      | unread number ↦ record { calls = []; stop = some number }
    ]

-- the largest input
abbrev pub input_limit : ℕ
input_limit = 65_536

-- What an input says, for a table of so many machines. 19: it is above the limit, and nothing is acted on.
-- Every act is longer than a byte, so as many turns as there are bytes are enough.
unfoldable pub script : (machines : ℕ) → List ℕ → Script
script machines text = cond (ltb input_limit (length text)) (record { calls = []; stop = some 19 }) (script_from machines (length text) text 0)

-- the bytes of the answers, one after the other
unfoldable pub replies : List Call → List Answer → List ℕ
replies [] given = []
replies (c ∷ calls) [] = []
replies (c ∷ calls) (a ∷ given) = reply c a ++ replies calls given

-- what a script prints from a state on
unfoldable pub printed : Setup → State → Script → List ℕ
printed s st sc = replies sc.calls (answers (step s) st sc.calls) ++ stop_line sc.stop ++ listing (after (step s) st sc.calls)

-- The whole output.
unfoldable pub program : Setup → List ℕ → List ℕ
program s text = printed s fresh (script s.table.machines text)

-- A reader must believe this: demands 1, 2 and 3 of the code, over registers and replies. What the rules owe is `rules/specs/Demands.antt`.
use Rattle.std.specs.Prelude.{◌↔◌, ◌≢◌, ◌≡◌, List, [], ◌∷◌, length}
use Rattle.rules.specs.declared.Answer.{Answer}
use Rattle.rules.specs.declared.Job.{Job}
use Rattle.rules.specs.declared.Row.{Row}
use Rattle.rules.specs.declared.Setup.{Setup}
use Rattle.rules.specs.Words.{fresh, view}
use Rattle.rules.specs.Placing.{costs}
use Rattle.rules.specs.Withdrawing.{admit}
use Rattle.rules.specs.Answers.{answered as answer_of}
use Rattle.rules.specs.Refusals.{answers}
use Rattle.rules.specs.Refusals as Rules
use Rattle.rules.specs.Journal.{empty, journal_step}
use Rattle.rules.specs.Demands.{AnsweredBy, tests_for, Admissible, register_left, Demand3, struck_calls}
use Rattle.rules.specs.Sequences.{keep}
use Rattle.reservation.specs.declared.Register.{Register}
use Rattle.reservation.specs.declared.Reply.{Reply}
use Rattle.reservation.specs.Registers.{state_of, register_of}
use Rattle.reservation.specs.Calls.{Steps}

-- Demand 1: a call's whole answer is that of its first test that refuses, and a refusal leaves the very same register.
-- (What a look answers is `SeenBy`, which its contract has.)
pub record Demand1OfCode (r : Register) (c : Rules.Call) (result : Reply) : Type 0 where
  pub answered : AnsweredBy (tests_for r.setup (view (state_of r)) c) (answer_of result.answer)
  pub untouched : (answer_of result.answer).number ≢ 0 → result.register ≡ r

-- Demand 2: a job is admitted exactly when DRCD places it, with DRCD's rows.
pub record Demand2OfCode (r : Register) (j : Job) (result : Reply) : Type 0 where
  pub admitted : ((answer_of result.answer).number ≡ 0) ↔ ((rows : List Row) × Admissible r.setup (view (state_of r)) j rows)
  pub answered :
      (rows : List Row) → Admissible r.setup (view (state_of r)) j rows →
      answer_of result.answer ≡ record { number = 0; task = 0; cost = costs rows; rows = length rows }
  pub with_its_rows :
      (rows : List Row) → Admissible r.setup (view (state_of r)) j rows → result.register ≡ register_of r.setup (admit (state_of r) rows)

-- Demand 3: one claim about every list of calls, each handed the register that the last one left.

-- a register that is opened fresh
abbrev pub opened : Setup → Register
opened s = register_of s fresh

-- a list of calls, whose every step is what the contract of its call ensures
pub data Trace : Register → List Rules.Call → List Answer → Register → Type 0 where
  ends : {r : Register} → Trace r [] [] r
  continues :
      {r last : Register} {c : Rules.Call} {calls : List Rules.Call} {replies : List Answer} {result : Reply} →
      Steps r c result → Trace result.register calls replies last → Trace r (c ∷ calls) (answer_of result.answer ∷ replies) last

pub record Demand3OfCode (s : Setup) (calls : List Rules.Call) : Type 0 where
  -- there is a trace from an opened register
  pub replies : List Answer
  pub last : Register
  pub trace : Trace (opened s) calls replies last
  -- it is the only one
  pub determined : (replies' : List Answer) (last' : Register) → Trace (opened s) calls replies' last' → (replies' ≡ replies) × (last' ≡ last)
  -- its answers are the journal's, and the register that it leaves is the one whose state demand 3 speaks of, clause by clause
  pub answers_are : replies ≡ answers (journal_step s) empty calls
  pub left_is : last ≡ register_of s (register_left s calls)
  pub state_is : state_of last ≡ register_left s calls
  pub demand : Demand3 s calls
  -- the list struck of its refused calls leaves the very same register, and gives the same answers to the other calls
  pub struck_trace : Trace (opened s) (struck_calls s calls) (keep (λ a. Rules.accepted a) replies) last

-- A reader must believe this: what the program reads. An act is an act line and what follows it. Document 01, "The program `register`".
use Rattle.std.specs.Prelude.{cond, List, ℕ, ◌+◌, leb, length, drop}
use Rattle.rules.specs.Refusals.{Call, submits, withdraws, advances}
use Rattle.lines.specs.Figures.{bytes}
use Rattle.lines.specs.Lines.{Parsed, parsed, refused, any_figure_line, begins, line}
use Rattle.script.specs.Keys.{job_key, tick_key}
use Rattle.texts.specs.JobText.{job_text}

-- the act lines, line feed included
abbrev pub submit_line : List ℕ
submit_line = bytes "act=submit\n"

abbrev pub withdraw_line : List ℕ
withdraw_line = bytes "act=withdraw\n"

abbrev pub clock_line : List ℕ
clock_line = bytes "act=clock\n"

-- What stands at a place: the ordinary end, a call and the place after it, or a reading refusal.
pub data Act : Type 0 where
  input_ends : Act
  call : Call → (next : ℕ) → Act
  unread : (number : ℕ) → Act

-- what was read from a place on, as an act
abbrev pub as_act : {A : Type 0} → (A → Call) → (from : ℕ) → Parsed A → Act
as_act make from (parsed a next) = call (make a) (from + next)
as_act make from (refused number place) = unread number

-- a call that carries a number: the line with that key, from a place on
abbrev pub number_act : (ℕ → Call) → (key text : List ℕ) → (from : ℕ) → Act
number_act make key text from = as_act make from (line (any_figure_line key) (drop from text) 0)

-- The act at a place. 17: no act line where one is due; an ended input there is the ordinary end. A submission's job text starts after its act line.
unfoldable pub act : (machines : ℕ) (text : List ℕ) (at : ℕ) → Act
act machines text at =
    cond (leb (length text) at) input_ends (
    cond (begins submit_line (drop at text)) (as_act submits (at + length submit_line) (job_text machines (drop (at + length submit_line) text))) (
    cond (begins withdraw_line (drop at text)) (number_act withdraws job_key text (at + length withdraw_line)) (
    cond (begins clock_line (drop at text)) (number_act advances tick_key text (at + length clock_line)) (
    unread 17
    ))))

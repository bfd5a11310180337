-- Acts: what was read after an act line, and the act that stands at a place.
use mathlib.Core.Path.{◌≡◌, refl, sym}
use mathlib.Core.Bool.{true, false}
use mathlib.Core.List.{List}
use Prim.Native.Nat.{ℕ, ◌+◌, ◌≤◌, ◌<◌}
use native.Mathlib.Omega.{arith}
use lib.ListN.{length, drop, length-drop}
use borrow.Author.Tests.{le-leb, lt-leb}
use Rattle.std.proofs.Common.{Ok}
use Rattle.rules.specs.declared.Job.{Job}
use Rattle.rules.specs.Refusals.{submits, withdraws, advances}
use Rattle.lines.specs.declared.line.Reading.{Reading}
use Rattle.lines.specs.Lines.{Due, begins, line}
use Rattle.texts.specs.JobText.{job_text}
use Rattle.texts.specs.Reader.{default_machines, Reads}
use Rattle.lines.specs.Readings.{ReadingIs}
use Rattle.lines.proofs.Begun.{key_fits}
use Rattle.texts.proofs.Reached.{line_reached, reads_reached}
use Rattle.script.specs.Keys.{job_key, tick_key}
use Rattle.script.specs.Acts.{input_ends, unread, as_act, number_act, act, submit_line, withdraw_line, clock_line}

-- a place past so many bytes of the part that begins at another lies within the text
part_within : (text : List ℕ) (from next : ℕ) → from ≤ length text → next ≤ length (drop from text) → from + next ≤ length text
part_within text from next start within = omega (arith, length-drop from text)

-- A line, read from a place on.
pub line_within :
    (text : List ℕ) (from : ℕ) (due : Due) {it : Reading ℕ} → ReadingIs (line due (drop from text) 0) (Ok it) → from ≤ length text →
    from + it.next ≤ length text
line_within text from due {it} reads start = part_within text from it.next start (line_reached due (drop from text) 0 it.value it.next (sym reads)).within

-- A job, read from a place on.
pub job_within :
    (text : List ℕ) (from : ℕ) {it : Reading Job} → Reads default_machines (drop from text) (Ok it) → from ≤ length text → from + it.next ≤ length text
job_within text from {it} reads start =
    part_within text from it.next start (reads_reached default_machines (drop from text) (Ok it) reads refl).within

-- The act at a place, by its first bytes.
module _ (machines : ℕ) (text : List ℕ) (at : ℕ) where
  pub at_end : length text ≤ at → act machines text at ≡ input_ends
  unfolding act
  at_end h = rw (le-leb (length text) at h) refl

  module _ (more : at < length text) where
    abbrev rest : List ℕ
    rest = drop at text

    pub at_submit :
        begins submit_line rest ≡ true →
        act machines text at ≡ as_act submits (at + length submit_line) (job_text machines (drop (at + length submit_line) text))
    unfolding act
    at_submit e = rw (lt-leb (length text) at more, e) refl

    pub at_withdraw :
        begins submit_line rest ≡ false → begins withdraw_line rest ≡ true →
        act machines text at ≡ number_act withdraws job_key text (at + length withdraw_line)
    unfolding act
    at_withdraw a b = rw (lt-leb (length text) at more, a, b) refl

    pub at_clock :
        begins submit_line rest ≡ false → begins withdraw_line rest ≡ false → begins clock_line rest ≡ true →
        act machines text at ≡ number_act advances tick_key text (at + length clock_line)
    unfolding act
    at_clock a b c = rw (lt-leb (length text) at more, a, b, c) refl

    pub no_act : begins submit_line rest ≡ false → begins withdraw_line rest ≡ false → begins clock_line rest ≡ false → act machines text at ≡ unread 17
    unfolding act
    no_act a b c = rw (lt-leb (length text) at more, a, b, c) refl

-- an act line lies within the text
pub act_fits : (text : List ℕ) (at : ℕ) → at < length text → (key : List ℕ) → begins key (drop at text) ≡ true → at + length key ≤ length text
act_fits text at more key e = let k = key_fits key (drop at text) e in let l = length-drop at text in omega arith

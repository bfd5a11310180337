-- The line of the rows held and of the first so many of a job's own: how long it is, and one row more, which goes where its figures say.
use mathlib.Core.Path.{◌≡◌, sym, ap, ◌∙◌}
use mathlib.Core.List.{List, ◌++◌, append_assoc}
use Prim.Native.Nat.{ℕ, ◌+◌, ◌≤◌, ◌<◌}
use native.Mathlib.Omega.{arith}
use native.Mathlib.Numerals.{add-one}
use lib.ListN.{length, get_or, take, length-append}
use lib.Seq.{length-take-le, take-suc, take-length}
use Rattle.rules.specs.declared.Row.{Row}
use Rattle.rules.specs.Placing.{no_row}
use Rattle.timeline.specs.RowLine.{insert_row, line_of}
use Rattle.timeline.proofs.RowLines.{line_more, line_long}

module _ (rows new : List Row) where
  abbrev pub rows_to : (i : ℕ) → List Row
  rows_to i = rows ++ take i new

  pub rows_all : (i : ℕ) → i ≡ length new → rows_to i ≡ rows ++ new
  rows_all i e = ap (λ l. rows ++ l) (ap (λ n. take n new) e ∙ take-length new)

  pub line_to_long : (i : ℕ) → i ≤ length new → length (line_of (rows_to i)) ≡ length rows + i
  line_to_long i h = omega (arith, line_long (rows_to i), length-append rows (take i new), length-take-le i new h)

  pub line_to_more : (i : ℕ) → i < length new → line_of (rows_to (i + 1)) ≡ insert_row (get_or new i no_row) (line_of (rows_to i))
  line_to_more i h =
      ap line_of (ap (λ l. rows ++ l) (ap (λ n. take n new) (add-one i) ∙ take-suc new i no_row h) ∙ sym (append_assoc rows (take i new) _))
      ∙ line_more (rows_to i) (get_or new i no_row)

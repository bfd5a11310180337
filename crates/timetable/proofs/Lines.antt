-- What is said of some of the rows on the line, or of the least figure of theirs, is said of the rows.
use mathlib.Core.Path.{◌≡◌, sym, ◌∙◌}
use mathlib.Core.Bool.{Bool}
use mathlib.Core.List.{List, map}
use Prim.Native.Nat.{ℕ, ◌≤◌}
use native.Mathlib.Omega.{arith}
use Rattle.rules.specs.declared.Row.{Row}
use Rattle.rules.specs.Sequences.{any_of}
use Rattle.rules.proofs.Sequences.{by_test, any_mem, any_none, any_witness, none_any}
use Rattle.timeline.specs.RowLine.{line_of}
use Rattle.timeline.proofs.RowLines.{line_has, line_from}
use Rattle.timetable.specs.Derived.{least_of}
use Rattle.timetable.proofs.Extremes.{least_none, least_low, least_above}

pub any_line : (p : Row → Bool) (rows : List Row) → any_of p (line_of rows) ≡ any_of p rows
any_line p rows =
    by_test
    (any_of p rows)
    (λ e. let some = any_witness p rows e in any_mem p (line_has rows some.1) some.2 ∙ sym e)
    (λ e. none_any p (line_of rows) (λ row m. any_none p e (line_from rows m)) ∙ sym e)

pub least_line : (none : ℕ) (f : Row → ℕ) (rows : List Row) → least_of none (map f (line_of rows)) ≡ least_of none (map f rows)
least_line none f rows =
    let most : least_of none (map f (line_of rows)) ≤ least_of none (map f rows)
    = least_above none f _ rows (least_none none f (line_of rows)) (λ row m. least_low none f (line_has rows m)) in
    let least : least_of none (map f rows) ≤ least_of none (map f (line_of rows))
    = least_above none f _ (line_of rows) (least_none none f rows) (λ row m. least_low none f (line_from rows m)) in
    omega arith

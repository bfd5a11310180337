-- Rows that stay: their line is what stays of the line. And the line costs what its rows do.
use Prim.{Unit, tt}
use mathlib.Core.Path.{◌≡◌, refl, sym, ap, ◌∙◌}
use mathlib.Core.Logic.{⊎_elim}
use mathlib.Core.Bool.{Bool, true, false}
use mathlib.Core.List.Memᴰ
use mathlib.Core.List.{List, [], ◌∷◌, Memᴰ}
use Prim.Native.Nat.{◌+◌, ◌<◌}
use native.Mathlib.Omega.{arith}
use lib.Dec.{ltb}
use borrow.Author.Tests.{ltb-true, lt-ltb}
use Rattle.rules.specs.declared.Row.{Row}
use Rattle.rules.specs.Sequences.{keep, cons_if}
use Rattle.rules.specs.Placing.{costs}
use Rattle.rules.proofs.Sequences.{by_test, mem_keep}
use Rattle.rules.proofs.Pairs.{Pairwise, end, more}
use Rattle.timeline.specs.RowLine.{row_begin, insert_row, line_onto, line_of}
use Rattle.timeline.proofs.RowLines.{Ranged, insert_ranged}

-- each row begins no later than those behind it
abbrev Ascends : List Row → Type 0
Ascends line = Pairwise (Ranged (λ a b. Unit {0})) line

insert_ascends : {line : List Row} (row : Row) → Ascends line → Ascends (insert_row row line)
insert_ascends row ascends = insert_ranged (λ a b. Unit {0}) (λ a b r. tt) ascends (λ x m. tt)

insert_first : (row : Row) (line : List Row) → ((x : Row) → Memᴰ x line → row_begin row < row_begin x) → insert_row row line ≡ row ∷ line
unfolding insert_row
insert_first row [] later = refl
insert_first row (other ∷ line) later = rw (lt-ltb (row_begin row) (row_begin other) (later other (Memᴰ.head refl))) refl

module _ (p : Row → Bool) (row : Row) where
  keep_stays : p row ≡ true → {line : List Row} → Ascends line → keep p (insert_row row line) ≡ insert_row row (keep p line)
  unfolding insert_row
  keep_stays e end = rw e refl
  keep_stays e (more {x = other} {xs = line} first rest) =
      by_test
      (ltb (row_begin row) (row_begin other))
      (λ less.
      let sooner = ltb-true (row_begin row) (row_begin other) less in
      rw
      (less, e)
      (sym
      (insert_first
      row
      (keep p (other ∷ line))
      (λ x m.
      ⊎_elim
      (λ same. let begins = ap row_begin same in omega arith)
      (λ k. let later = (first x k).0 in omega arith)
      (Memᴰ.cases_cons (mem_keep p (other ∷ line) m).0)))))
      (λ most.
      rw most
      (ap (cons_if (p other) other) (keep_stays e rest) ∙ by_test (p other) (λ stays. rw (stays, most) refl) (λ leaves. rw leaves refl)))

  keep_leaves : p row ≡ false → (line : List Row) → keep p (insert_row row line) ≡ keep p line
  unfolding insert_row
  keep_leaves e [] = rw e refl
  keep_leaves e (other ∷ line) =
      by_test
      (ltb (row_begin row) (row_begin other))
      (λ less. rw (less, e) refl)
      (λ most. rw most (ap (cons_if (p other) other) (keep_leaves e line)))

onto_keep : (p : Row → Bool) {line : List Row} (rows : List Row) → Ascends line → keep p (line_onto line rows) ≡ line_onto (keep p line) (keep p rows)
unfolding line_onto
onto_keep p [] ascends = refl
onto_keep p {line} (row ∷ rows) ascends =
    onto_keep p {line = insert_row row line} rows (insert_ascends row ascends)
    ∙ by_test
    (p row)
    (λ e. rw e (ap (λ l. line_onto l (keep p rows)) (keep_stays p row e ascends)))
    (λ e. rw e (ap (λ l. line_onto l (keep p rows)) (keep_leaves p row e line)))

pub line_keep : (p : Row → Bool) (rows : List Row) → keep p (line_of rows) ≡ line_of (keep p rows)
line_keep p rows = onto_keep p rows end

insert_costs : (row : Row) (line : List Row) → costs (insert_row row line) ≡ row.cost + costs line
unfolding insert_row
insert_costs row [] = refl
insert_costs row (other ∷ line) =
    by_test (ltb (row_begin row) (row_begin other)) (λ e. rw e refl) (λ e. rw e (omega (arith, insert_costs row line)))

onto_costs : (line rows : List Row) → costs (line_onto line rows) ≡ costs line + costs rows
unfolding line_onto
onto_costs line [] = omega arith
onto_costs line (row ∷ rows) = omega (arith, onto_costs (insert_row row line) rows, insert_costs row line)

pub line_costs : (rows : List Row) → costs (line_of rows) ≡ costs rows
line_costs rows = omega (arith, onto_costs [] rows)

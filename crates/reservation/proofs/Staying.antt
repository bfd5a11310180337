-- The rows whose jobs are still held: the slots hold those that a chain has yielded. Whole jobs leave, so that a row stays if its job has a row that does.
use mathlib.Core.Path.{◌≡◌, refl, sym, ap, ◌∙◌}
use mathlib.Core.Bool.{Bool, not}
use mathlib.Core.List.{List, [], ◌∷◌, ◌++◌, map, map-append, Memᴰ}
use Prim.Native.Nat.{ℕ, ◌+◌, ◌≤◌, ◌<◌}
use native.Mathlib.Omega.{arith}
use denote.Param.Members.{Mut}
use denote.Ref.{Bor}
use lib.ListN.{length, get_or, take, set, length-map}
use lib.Seq.{take-append_seam}
use borrow.Author.Tests.{eqb-true, eq-eqb}
use Rattle.std.specs.Fn.{CalledAt}
use Rattle.std.specs.List.{filter, enumerate_from}
use Rattle.std.specs.Slice.Iter.{iter_rest}
use Rattle.std.specs.Iterator.Adapters.{filter_source, filter_callee, filter_steps, enumerate_source, enumerate_count, enumerate_steps}
use Rattle.std.specs.declared.iter.Enumerate.{Enumerate}
use Rattle.std.specs.declared.iter.Filter.{Filter}
use Rattle.std.proofs.Common.{Iter}
use Rattle.std.proofs.iter.Yields.{fronts}
use Rattle.std.proofs.lemmas.Iterator.{YieldsList, YieldsList-from_slice}
use Rattle.std.proofs.lemmas.Iterator.Consumers.{YieldsList-at, YieldsList-from_filter, YieldsList-from_enumerate}
use Rattle.std.proofs.lemmas.Simd.{map-map}
use Rattle.std.proofs.lemmas.List.FromFn.{length-enumerate_from, get_or-enumerate_from}
use Rattle.rules.specs.declared.Row.{Row}
use Rattle.rules.specs.Sequences.{keep, any_of}
use Rattle.rules.specs.Words.{of_job, row_limit}
use Rattle.rules.proofs.Sequences.{by_test, any_witness, any_mem, keep_mem, mem_keep, keep_same, length_keep}
use Rattle.timeline.specs.RowLine.{line_of, slots}
use Rattle.timeline.proofs.RowLines.{line_long}
use Rattle.timetable.specs.declared.Timetable.{Timetable}
use Rattle.timetable.specs.Marks.{HeldIs, WholeJobs}
use Rattle.timetable.proofs.Lines.{any_line}
use Rattle.reservation.specs.Parts.{Staying}
use Rattle.reservation.proofs.Slotted.{slot_next}

abbrev stay : (Row → Bool) → List Row → List Row
stay leaving rows = keep (λ row. not (leaving row)) rows

filter_keep : (p : Row → Bool) (rows : List Row) → filter p rows ≡ keep p rows
filter_keep p [] = refl
filter_keep p (row ∷ rows) = by_test (p row) (λ e. rw e (ap (λ l. row ∷ l) (filter_keep p rows))) (λ e. rw e (filter_keep p rows))

-- a row stays if its job has a row that does
stays_with_its_job :
    (leaving : Row → Bool) (rows : List Row) → WholeJobs leaving rows → {row : Row} → Memᴰ row rows →
    any_of (of_job row.job) (stay leaving rows) ≡ not (leaving row)
stays_with_its_job leaving rows whole {row} listed =
    by_test
    (any_of (of_job row.job) (stay leaving rows))
    (λ e.
    let some = any_witness (of_job row.job) (stay leaving rows) e in
    let there = mem_keep (λ x. not (leaving x)) rows some.1 in
    e ∙ sym (ap not (sym (whole some.0 row there.0 listed (eqb-true _ _ some.2))) ∙ there.1))
    (λ e.
    by_test
    (not (leaving row))
    (λ s. any_mem (of_job row.job) (keep_mem (λ x. not (leaving x)) listed s) (eq-eqb row.job row.job refl) ∙ sym s)
    (λ s. e ∙ sym s))

-- The rows for which the code answers that their job is held are those that stay.
module _ {all : List Row} {leaving : Row → Bool} {held : List Row} {count : ℕ} {t : Timetable} (staying : Staying all leaving held count t) where
  abbrev pub still : Row → Bool
  still row = any_of (of_job row.job) (line_of (stay leaving all))

  pub still_is : (row : Row) {found : Bool} → HeldIs t.jobs t.line.count row.job found → found ≡ still row
  still_is row is = is (line_of (stay leaving all)) (line_long (stay leaving all) ∙ sym staying.left_is) staying.jobs_are

  pub still_are : filter still (take count held) ≡ stay leaving all
  still_are =
      ap (filter still) (rw (staying.count_is, staying.held_is) (take-append_seam all _))
      ∙ filter_keep still all
      ∙ keep_same still (λ row. not (leaving row)) all λ row m.
      any_line (of_job row.job) (stay leaving all) ∙ stays_with_its_job leaving all staying.whole m

  pub still_few : length (filter still (take count held)) ≤ row_limit
  still_few = omega (arith, ap length still_are, length_keep (λ row. not (leaving row)) all, staying.few)

  -- as a chain gives them, each with its number among them
  pub chain :
      {F : Type 0} (g : Mut F (Bor (Bor Row) × Unit {0}) Bool) {f : F} {passing : Filter (Iter Row) F} {numbered s : Enumerate (Filter (Iter Row) F)} →
      iter_rest (filter_source passing) ≡ take count held → filter_callee passing ≡ f →
      ((row : Bor Row) (b : Bool) (q : F) → CalledAt g f row b q → (q ≡ f) × HeldIs t.jobs t.line.count row.now.job b) →
      enumerate_source numbered ≡ passing → enumerate_count numbered ≡ 0 → s ≡ numbered →
      YieldsList (enumerate_steps (filter_steps fronts g)) (λ p. (p.0, p.1.now)) s (enumerate_from 0 (filter still (take count held)))
  chain g source callee computes passing from same =
      YieldsList-at same
      (YieldsList-from_enumerate
      (YieldsList-at passing
      (YieldsList-from_filter
      g
      still
      (YieldsList-from_slice (take count held) source)
      callee
      (λ row b q k. let called = computes row b q k in (called.0, still_is row.now called.1))))
      from)

-- The rows that a chain has yielded, each with its number among them.
abbrev pub yielded_rows : List (ℕ × Bor Row) → List Row
yielded_rows yielded = map (λ p. p.1.now) yielded

module _ {rows : List Row} (yielded : List (ℕ × Bor Row)) (so_far : rows ≡ slots row_limit (yielded_rows yielded)) (staying : List Row) where
  pub one_more :
      (kept : ℕ) (row : Bor Row) → length staying ≤ row_limit →
      (length yielded < length (enumerate_from 0 staying)) × ((kept, row.now) ≡ get_or (enumerate_from 0 staying) (length yielded) (kept, row.now)) →
      set rows kept row.now ≡ slots row_limit (yielded_rows (yielded ++ ((kept, row) ∷ [])))
  one_more kept row few turn =
      let there : length yielded < length staying = omega (arith, turn.0, length-enumerate_from 0 staying) in
      let number = ap (λ p. p.0) (turn.1 ∙ get_or-enumerate_from 0 staying (length yielded) (kept, row.now) there) in
      let long = length-map yielded (λ p. p.1.now) in
      ap (λ l. set l kept row.now) so_far
      ∙ slot_next row_limit (yielded_rows yielded) row.now (omega (arith, number, long)) (omega (arith, long))
      ∙ ap (slots row_limit) (sym (map-append (λ p. p.1.now) yielded ((kept, row) ∷ [])))

  pub all_yielded : map (λ p. (p.0, p.1.now)) yielded ≡ enumerate_from 0 staying → rows ≡ slots row_limit staying
  all_yielded is =
      so_far
      ∙ ap (slots row_limit) (sym (map-map {B = ℕ × Row} (λ p. p.1) (λ p. (p.0, p.1.now)) yielded) ∙ ap (map (λ p. p.1)) is ∙ rows_of 0 staying)
    where
      rows_of : (n : ℕ) (l : List Row) → map (λ p. p.1) (enumerate_from n l) ≡ l
      rows_of n [] = refl
      rows_of n (row ∷ l) = ap (λ x. row ∷ x) (rows_of (n + 1) l)

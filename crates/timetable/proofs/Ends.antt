-- The last finish of each job and the soonest end: of rows of which jobs leave whole, and compared with a tick.
use mathlib.Core.Path.{◌≡◌, refl, sym, ap, ◌∙◌}
use mathlib.Core.Logic.{⊎_elim}
use mathlib.Core.Bool.{Bool, true, false, not}
use mathlib.Core.List.Memᴰ
use mathlib.Core.List.{List, [], ◌∷◌, map, Memᴰ}
use Prim.Native.Nat.{ℕ, ◌-◌, ◌≤◌, ◌<◌, min}
use native.Mathlib.Omega.{arith}
use lib.Dec.{leb, eqb}
use lib.ListN.{length}
use borrow.Author.Tests.{leb-true, leb-false, le-leb, lt-leb, eqb-true, ne_eqb, not-true}
use Rattle.rules.specs.declared.Row.{Row}
use Rattle.rules.specs.Sequences.{any_of, all_of, keep}
use Rattle.rules.specs.Words.{of_job}
use Rattle.rules.specs.Placing.{no_row}
use Rattle.rules.specs.Withdrawing.{ended}
use Rattle.rules.proofs.Sequences.{by_test, any_witness, keep_mem, mem_keep, keep_none, map_same}
use Rattle.timeline.specs.RowLine.{spans_room, line_of, slots, note_of, notes_of}
use Rattle.timeline.proofs.RowLines.{line_from}
use Rattle.timetable.specs.Derived.{most_of, never, last_finish, soonest_end}
use Rattle.timetable.specs.Marks.{WholeJobs}
use Rattle.timetable.proofs.Lists.{mem_replicate, keep_within}
use Rattle.timetable.proofs.Extremes.{least_none, least_low, least_above}

-- The greatest of figures: at least each of them, and none below it is.

module _ {A : Type 0} (figure : A → ℕ) where
  most_high : {x : A} {l : List A} → Memᴰ x l → figure x ≤ most_of (map figure l)
  unfolding most_of
  most_high (Memᴰ.head e) = let same = ap figure e in omega arith
  most_high (Memᴰ.tail m) = let below = most_high m in omega arith

  most_below : (n : ℕ) (l : List A) → ((x : A) → Memᴰ x l → figure x ≤ n) → most_of (map figure l) ≤ n
  unfolding most_of
  most_below n [] high = omega arith
  most_below n (x ∷ l) high =
      let here = high x (Memᴰ.head refl) in
      let below = most_below n l (λ y m. high y (Memᴰ.tail m)) in
      omega arith

  -- it is at most a tick if all are
  most_at_most : (tick : ℕ) (l : List A) → leb (most_of (map figure l)) tick ≡ all_of (λ x. leb (figure x) tick) l
  unfolding most_of
  most_at_most tick [] = le-leb 0 tick (omega arith)
  most_at_most tick (x ∷ xs) =
      let below = most_at_most tick xs in
      by_test
      (leb (figure x) tick)
      (λ e.
      let low = leb-true (figure x) tick e in
      by_test
      (leb (most_of (map figure xs)) tick)
      (λ f. let rest = leb-true _ tick f in rw (e, ← below, f) (le-leb _ tick (omega arith)))
      (λ f. let high = leb-false _ tick f in rw (e, ← below, f) (lt-leb _ tick (omega arith))))
      (λ e. let high = leb-false (figure x) tick e in rw e (lt-leb _ tick (omega arith)))

-- Of a job's rows.

-- 0 is no job's number
pub last_none : (rows : List Row) → ((row : Row) → Memᴰ row rows → 1 ≤ row.job) → last_finish rows 0 ≡ 0
unfolding most_of
last_none rows numbered =
    ap
    (λ l. most_of (map (λ row. row.finish) l))
    (keep_none (of_job 0) rows (λ row m. ne_eqb row.job 0 (λ e. let some = numbered row m in omega arith)))

pub ended_last : (rows : List Row) (n tick : ℕ) → leb (last_finish rows n) tick ≡ ended tick (keep (of_job n) rows)
unfolding ended
ended_last rows n tick = most_at_most (λ row. row.finish) tick (keep (of_job n) rows)

-- before the soonest end no job has ended
pub none_ended :
    (rows : List Row) (tick : ℕ) → tick < soonest_end rows → (row : Row) → Memᴰ row rows → ended tick (keep (of_job row.job) rows) ≡ false
none_ended rows tick early row m =
    sym (ended_last rows row.job tick)
    ∙ lt-leb _ tick (omega (arith, least_low never (λ x. last_finish rows x.job) m))

-- Jobs leave or stay whole.

-- the row stays
abbrev pub stay : (leaving : Row → Bool) → Row → Bool
stay leaving row = not (leaving row)

-- what hangs on its job alone
pub whole_by : (test : ℕ → Bool) (rows : List Row) → WholeJobs (λ row. test row.job) rows
whole_by test rows a b m n same = ap test same

module _ {leaving : Row → Bool} {rows : List Row} (whole : WholeJobs leaving rows) where
  abbrev staying : List Row
  staying = keep (stay leaving) rows

  -- the rows of a job of which a row stays are all there
  last_kept : (row : Row) → Memᴰ row rows → leaving row ≡ false → last_finish staying row.job ≡ last_finish rows row.job
  last_kept row m stays =
      ap
      (λ l. most_of (map (λ x. x.finish) l))
      (keep_within
      (of_job row.job)
      (stay leaving)
      rows
      (λ x n same. ap not (whole x row n m (eqb-true x.job row.job same) ∙ stays)))

  kept_last : (row : Row) → Memᴰ row staying → last_finish rows row.job ≡ last_finish staying row.job
  kept_last row m =
      let there = mem_keep (stay leaving) rows m in
      sym (last_kept row there.0 (not-true (leaving row) there.1))

  module _ (blank : last_finish rows 0 ≡ 0) where
    blank_kept : last_finish staying 0 ≡ 0
    blank_kept =
        let most : last_finish staying 0 ≤ last_finish rows 0 =
        most_below
        (λ row. row.finish)
        (last_finish rows 0)
        (keep (of_job 0) staying)
        (λ row m.
        let there = mem_keep (of_job 0) staying m in
        most_high (λ x. x.finish) (keep_mem (of_job 0) (mem_keep (stay leaving) rows there.0).0 there.1))
        in
        omega arith

    -- the notes of the rows that stay are right of these alone
    pub notes_kept : notes_of (last_finish rows) (line_of staying) ≡ notes_of (last_finish staying) (line_of staying)
    notes_kept =
        map_same
        (note_of (last_finish rows))
        (note_of (last_finish staying))
        (slots spans_room (line_of staying))
        (λ row m.
        ap
        (λ last. record { holder = row.holder; cost = row.cost; last = last })
        (⊎_elim
        (λ there. kept_last row (line_from staying there))
        (λ none.
        let same : row ≡ no_row = mem_replicate (spans_room - length (line_of staying)) none in
        rw same (blank ∙ sym blank_kept))
        (Memᴰ.append_cases (line_of staying) m)))

-- A job that leaves: the soonest end is its own, or that of the others.

pub soonest_without :
    (rows : List Row) (n : ℕ) → any_of (of_job n) rows ≡ true →
    soonest_end rows ≡ min (last_finish rows n) (soonest_end (keep (stay (of_job n)) rows))
soonest_without rows n held =
    let others = keep (stay (of_job n)) rows in
    let ends : Row → ℕ = λ row. last_finish rows row.job in
    let some = any_witness (of_job n) rows held in
    let whole = whole_by (λ job. eqb job n) rows in
    let own : soonest_end rows ≤ last_finish rows n
    = omega (arith, least_low never ends some.1, ap (last_finish rows) (eqb-true some.0.job n some.2)) in
    let theirs : soonest_end rows ≤ soonest_end others =
    least_above
    never
    (λ row. last_finish others row.job)
    (soonest_end rows)
    others
    (least_none never ends rows)
    (λ row m. omega (arith, kept_last whole row m, least_low never ends (mem_keep (stay (of_job n)) rows m).0))
    in
    let least : min (last_finish rows n) (soonest_end others) ≤ soonest_end rows =
    least_above
    never
    ends
    (min (last_finish rows n) (soonest_end others))
    rows
    (omega (arith, least_none never (λ row. last_finish others row.job) others))
    (λ row m.
    by_test
    (of_job n row)
    (λ e. omega (arith, ap (last_finish rows) (eqb-true row.job n e)))
    (λ e.
    omega (
      arith,
      last_kept whole row m e,
      least_low never (λ row. last_finish others row.job) (keep_mem (stay (of_job n)) m (ap not e)),
    )))
    in
    omega arith

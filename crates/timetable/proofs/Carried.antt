-- What the columns of a timetable say of the rows on its line: the number and the start of each.
use mathlib.Core.Path.{◌≡◌, refl, sym, ap, ◌∙◌}
use mathlib.Core.Bool.{Bool, true, false}
use mathlib.Core.List.{List, map, map-append}
use Prim.Native.Nat.{ℕ, ◌+◌, ◌-◌, ◌%◌, ◌≤◌, ◌<◌}
use native.Mathlib.Nat.{mul-add-mod_self_right, mod-eq_of_lt}
use native.Mathlib.Omega.{arith}
use lib.Dec.{eqb}
use lib.ListN.{length, get_or, take, replicate, length-map}
use lib.Seq.{take_at}
use borrow.Author.Tests.{eqb-true, eq-eqb, le-leb, lt-leb}
use Rattle.std.specs.Bool.{MatchBool}
use Rattle.std.specs.List.{list_any, range_with_len, AllWithin, HoldsAt}
use Rattle.std.proofs.lemmas.List.FromFn.{length-range_with_len, get_or-range_with_len}
use Rattle.rules.specs.declared.Row.{Row}
use Rattle.rules.specs.Words.{of_job}
use Rattle.rules.specs.Placing.{no_row}
use Rattle.rules.proofs.Sequences.{by_test, by_less, any_mem, none_any, mem_get_or, get_or_mem, and_both}
use Rattle.timeline.specs.Timeline.{tick_room}
use Rattle.timeline.specs.RowLine.{spans_room, row_begin, column}
use Rattle.timeline.proofs.ColumnLaws.{column_at}
use Rattle.timetable.specs.declared.Timetable.{Timetable}
use Rattle.timetable.specs.Marks.{JobsOf, HeldIs, AskBegun, BegunIs}
use Rattle.timetable.proofs.Lists.{any_mapped}
use Rattle.timetable.proofs.Steps.{begun}

-- the used part of a column
pub column_used : {A : Type 0} (figure : Row → A) (line : List Row) → take (length line) (column figure line) ≡ map figure line
column_used figure line =
    let blanks = replicate (spans_room - length line) no_row in
    ap (take (length line)) (map-append figure line blanks) ∙ take_at (map figure line) (map figure blanks) (length line) (length-map line figure)

pub job_at : {jobs : List ℕ} (line : List Row) → JobsOf line jobs → (k : ℕ) → k < length line → get_or jobs k 0 ≡ (get_or line k no_row).job
job_at line is k h = ap (λ l. get_or l k 0) is ∙ column_at (λ row. row.job) line k 0 h

start_at :
    {begins : List ℕ} (line : List Row) → begins ≡ column row_begin line → (k : ℕ) → k < length line → (get_or line k no_row).start < tick_room →
    get_or begins k 0 % tick_room ≡ (get_or line k no_row).start
start_at line is k h fits =
    ap (λ l. get_or l k 0 % tick_room) is
    ∙ ap (λ x. x % tick_room) (column_at row_begin line k 0 h)
    ∙ mul-add-mod_self_right _ tick_room (get_or line k no_row).start
    ∙ mod-eq_of_lt fits

-- Whether one carries a number.

pub held_is : (jobs : List ℕ) (count job : ℕ) → HeldIs jobs count job (list_any (λ held. eqb held job) (take count jobs))
held_is jobs count job line n is =
    rw (is, ← n) (ap (list_any (λ held. eqb held job)) (column_used (λ row. row.job) line) ∙ any_mapped (λ held. eqb held job) (λ row. row.job) line)

-- Whether one that carries it has begun.

module _ (t : Timetable) (job : ℕ) where
  abbrev pub HasBegun : ℕ → Type 0
  HasBegun i = (get_or t.jobs i 0 ≡ job) × (get_or t.line.begins i 0 % tick_room ≤ t.clock)

  abbrev pub NotBegun : ℕ → Type 0
  NotBegun i = get_or t.jobs i 0 ≡ job → t.clock < get_or t.line.begins i 0 % tick_room

  begun_here : (i : ℕ) → i < t.line.count → HasBegun i → BegunIs t job true
  begun_here i more here line n starts jobs_are begins_are =
      let there : i < length line = omega arith in
      let soon = start_at line begins_are i there (starts i more) in
      sym
      (any_mem
      (begun job t.clock)
      (get_or_mem line i no_row there)
      (and_both _ _ (eq-eqb _ job (sym (job_at line jobs_are i there) ∙ here.0)) (le-leb _ t.clock (omega arith))))

  begun_all : ((k : ℕ) → k < t.line.count → NotBegun k) → BegunIs t job false
  begun_all later line n starts jobs_are begins_are =
      sym
      (none_any
      (begun job t.clock)
      line
      (λ row m.
      let place = mem_get_or no_row m in
      let there = place.1 in
      let job_is = job_at line jobs_are place.0 there ∙ ap (λ x. x.job) place.2 in
      let soon = start_at line begins_are place.0 there (starts place.0 (omega arith)) ∙ ap (λ x. x.start) place.2 in
      by_test
      (of_job job row)
      (λ e. let less = later place.0 (omega arith) (job_is ∙ eqb-true row.job job e) in rw e (lt-leb row.start t.clock (omega arith)))
      (λ e. rw e refl)))

  -- of the rows from an index on, before which none carries it
  pub begun_from :
      {from count : ℕ} {r : Bool} → AskBegun t job from → count ≡ t.line.count →
      (let at = range_with_len from (count - from) in
      MatchBool r ((k : ℕ) × (k < length at) × HoldsAt HasBegun at k) (AllWithin NotBegun at 0 (length at))) →
      BegunIs t job r
  begun_from {from} {count} {r = true} ask same found =
      let some = length-range_with_len from (count - from) in
      let less : found.0 < count - from = let h = found.1 in omega arith in
      begun_here (from + found.0) (omega arith) (rw (get_or-range_with_len from (count - from) found.0 0 less) at (found.2 0))
  begun_from {from} {count} {r = false} ask same none =
      let some = length-range_with_len from (count - from) in
      begun_all
      (λ k h here.
      by_less
      k
      from
      (λ l. absurd (ask k l here))
      (λ l.
      let less : k - from < count - from = omega arith in
      let place : from + (k - from) ≡ k = omega arith in
      let later = none (k - from) 0 (omega arith) (omega arith) in
      (rw (get_or-range_with_len from (count - from) (k - from) 0 less, place) at later) here))

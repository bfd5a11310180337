-- The line of rows: as many as the rows, and the same ones; rows that share no tick are drawn on it, and a row that takes none of theirs goes where a search
-- finds its place.
use mathlib.Core.Path.{◌≡◌, refl, sym, ap, ◌∙◌, subst}
use mathlib.Core.Logic.{◌⊎◌, inl, inr, ⊎_elim}
use mathlib.Core.List.Memᴰ
use mathlib.Core.List.{List, [], ◌∷◌, ◌++◌, Memᴰ}
use Prim.Native.Nat.{ℕ, zero, suc, ◌+◌, ◌≤◌, ◌<◌}
use native.Mathlib.Omega.{arith}
use lib.Dec.{ltb}
use lib.ListN.{length, get_or, take, drop}
use borrow.Author.Tests.{ltb-true, ltb-false}
use Rattle.rules.specs.declared.Row.{Row}
use Rattle.rules.specs.Words.{Hold, hold_of, holds}
use Rattle.rules.specs.Codes.{resource_number}
use Rattle.rules.specs.Placing.{no_row}
use Rattle.rules.proofs.Sequences.{by_less, by_test, mem_get_or, get_or_mem, mem_map, map_mem}
use Rattle.rules.proofs.Pairs.{Pairwise, end, more, pairwise_at, pairwise_map}
use Rattle.rules.proofs.Apart.{Apart, AllApart}
use Rattle.timeline.specs.Timeline.{begin_of, end_of, Drawable, Drawn, FirstAfter}
use Rattle.timeline.specs.RowLine.{spans_room, row_begin, row_end, insert_row, line_onto, line_of, column, GoesAt}
use Rattle.timeline.specs.Grown.{Untaken}
use Rattle.timeline.proofs.Drawing.{known_same, lasts_at}
use Rattle.timeline.proofs.Grown.{begins_later}
use Rattle.timeline.proofs.ColumnLaws.{column_long, column_at}

-- One row more.

insert_long : (row : Row) (line : List Row) → length (insert_row row line) ≡ suc (length line)
unfolding insert_row
insert_long row [] = refl
insert_long row (other ∷ line) = by_test (ltb (row_begin row) (row_begin other)) (λ e. rw e refl) (λ e. rw e (ap suc (insert_long row line)))

insert_new : (row : Row) (line : List Row) → Memᴰ row (insert_row row line)
unfolding insert_row
insert_new row [] = Memᴰ.head refl
insert_new row (other ∷ line) =
    by_test (ltb (row_begin row) (row_begin other)) (λ e. rw e (Memᴰ.head refl)) (λ e. rw e (Memᴰ.tail (insert_new row line)))

insert_old : (row : Row) {x : Row} (line : List Row) → Memᴰ x line → Memᴰ x (insert_row row line)
unfolding insert_row
insert_old row [] m = absurd (Memᴰ.not-nil m)
insert_old row {x} (other ∷ line) m =
    by_test
    (ltb (row_begin row) (row_begin other))
    (λ e. rw e (Memᴰ.tail m))
    (λ e. rw e (⊎_elim (λ same. Memᴰ.head same) (λ k. Memᴰ.tail (insert_old row line k)) (Memᴰ.cases_cons m)))

insert_from : (row : Row) {x : Row} (line : List Row) → Memᴰ x (insert_row row line) → (x ≡ row) ⊎ Memᴰ x line
unfolding insert_row
insert_from row [] m = Memᴰ.cases_cons m
insert_from row {x} (other ∷ line) m =
    by_test
    (ltb (row_begin row) (row_begin other))
    (λ e. Memᴰ.cases_cons (rw e at m))
    (λ e.
    ⊎_elim
    (λ same. inr (Memᴰ.head same))
    (λ k. ⊎_elim (λ new. inl new) (λ old. inr (Memᴰ.tail old)) (insert_from row line k))
    (Memᴰ.cases_cons (rw e at m)))

-- where it goes: behind those that begin no later, and before the next
insert_there :
    (row : Row) (line : List Row) (at : ℕ) → at ≤ length line → ((i : ℕ) → i < at → row_begin (get_or line i no_row) ≤ row_begin row) →
    (at < length line → row_begin row < row_begin (get_or line at no_row)) → insert_row row line ≡ take at line ++ (row ∷ drop at line)
unfolding insert_row
insert_there row [] zero h before after = refl
insert_there row [] (suc at) h before after = absurd (omega arith)
insert_there row (other ∷ line) zero h before after =
    by_test
    (ltb (row_begin row) (row_begin other))
    (λ e. rw e refl)
    (λ e. let most = ltb-false (row_begin row) (row_begin other) e in let less = after (omega arith) in absurd (omega arith))
insert_there row (other ∷ line) (suc at) h before after =
    by_test
    (ltb (row_begin row) (row_begin other))
    (λ e. let less = ltb-true (row_begin row) (row_begin other) e in let most = before zero (omega arith) in absurd (omega arith))
    (λ e.
    rw e
    (ap
    (λ l. other ∷ l)
    (insert_there row line at (omega arith) (λ i k. before (suc i) (omega arith)) (λ k. after (omega arith)))))

-- The line.

onto_more : (line rows : List Row) (row : Row) → line_onto line (rows ++ (row ∷ [])) ≡ insert_row row (line_onto line rows)
unfolding line_onto
onto_more line [] row = refl
onto_more line (first ∷ rows) row = onto_more (insert_row first line) rows row

pub line_more : (rows : List Row) (row : Row) → line_of (rows ++ (row ∷ [])) ≡ insert_row row (line_of rows)
line_more rows row = onto_more [] rows row

onto_long : (line rows : List Row) → length (line_onto line rows) ≡ length line + length rows
unfolding line_onto
onto_long line [] = omega arith
onto_long line (row ∷ rows) = omega (arith, onto_long (insert_row row line) rows, insert_long row line)

pub line_long : (rows : List Row) → length (line_of rows) ≡ length rows
line_long rows = omega (arith, onto_long [] rows)

onto_has : {x : Row} (line rows : List Row) → Memᴰ x line ⊎ Memᴰ x rows → Memᴰ x (line_onto line rows)
unfolding line_onto
onto_has line [] m = ⊎_elim (λ old. old) (λ new. absurd (Memᴰ.not-nil new)) m
onto_has {x} line (row ∷ rows) m =
    onto_has
    (insert_row row line)
    rows
    (⊎_elim
    (λ old. inl (insert_old row line old))
    (λ new. ⊎_elim (λ same. inl (rw same (insert_new row line))) (λ k. inr k) (Memᴰ.cases_cons new))
    m)

pub line_has : {row : Row} (rows : List Row) → Memᴰ row rows → Memᴰ row (line_of rows)
line_has rows m = onto_has [] rows (inr m)

onto_from : {x : Row} (line rows : List Row) → Memᴰ x (line_onto line rows) → Memᴰ x line ⊎ Memᴰ x rows
unfolding line_onto
onto_from line [] m = inl m
onto_from {x} line (row ∷ rows) m =
    ⊎_elim
    (λ old. ⊎_elim (λ same. inr (Memᴰ.head same)) (λ k. inl k) (insert_from row line old))
    (λ new. inr (Memᴰ.tail new))
    (onto_from (insert_row row line) rows m)

pub line_from : {row : Row} (rows : List Row) → Memᴰ row (line_of rows) → Memᴰ row rows
line_from rows m = ⊎_elim (λ none. absurd (Memᴰ.not-nil none)) (λ k. k) (onto_from [] rows m)

-- Each pair on the line: the earlier begins no later than the other, and what holds of each pair of the rows, whichever comes first, holds of them.
abbrev pub Ranged : (Row → Row → Type 0) → Row → Row → Type 0
Ranged Related a b = (row_begin a ≤ row_begin b) × Related a b

module _ (Related : Row → Row → Type 0) (turned : (a b : Row) → Related a b → Related b a) where
  pub insert_ranged :
      {row : Row} {line : List Row} → Pairwise (Ranged Related) line → ((x : Row) → Memᴰ x line → Related x row) →
      Pairwise (Ranged Related) (insert_row row line)
  unfolding insert_row
  insert_ranged end rel = more (λ y m. absurd (Memᴰ.not-nil m)) end
  insert_ranged {row} (more {x = other} {xs = line} first rest) rel =
      by_test
      (ltb (row_begin row) (row_begin other))
      (λ e.
      let less = ltb-true (row_begin row) (row_begin other) e in
      rw e
      (more
      {x = row}
      {xs = other ∷ line}
      (λ y m. (
        ⊎_elim (λ same. let begins = ap row_begin same in omega arith) (λ k. let later = (first y k).0 in omega arith) (Memᴰ.cases_cons m),
        turned y row (rel y m),
      ))
      (more first rest)))
      (λ e.
      let most = ltb-false (row_begin row) (row_begin other) e in
      rw e
      (more
      {x = other}
      {xs = insert_row row line}
      (λ y m. ⊎_elim (λ same. rw same (most, rel other (Memᴰ.head refl))) (λ k. first y k) (insert_from row line m))
      (insert_ranged rest (λ x m. rel x (Memᴰ.tail m)))))

  onto_ranged :
      {line rows : List Row} → Pairwise (Ranged Related) line → ((x y : Row) → Memᴰ x line → Memᴰ y rows → Related x y) → Pairwise Related rows →
      Pairwise (Ranged Related) (line_onto line rows)
  unfolding line_onto
  onto_ranged {line} ranged rel end = ranged
  onto_ranged {line} ranged rel (more {x = row} {xs = rows} first rest) =
      onto_ranged
      {line = insert_row row line}
      (insert_ranged ranged (λ x m. rel x row m (Memᴰ.head refl)))
      (λ x y m n.
      ⊎_elim
      (λ same. subst (λ z. Related z y) (sym same) (first y n))
      (λ k. rel x y k (Memᴰ.tail n))
      (insert_from row line m))
      rest

  line_ranged : {rows : List Row} → Pairwise Related rows → Pairwise (Ranged Related) (line_of rows)
  line_ranged pairs = onto_ranged end (λ x y m n. absurd (Memᴰ.not-nil m)) pairs

-- of two holds that share no tick that which begins first, or as the other does, ends before that begins
apart_follows : (g h : Hold) → Drawable g → Drawable h → Apart g h → begin_of g ≤ begin_of h → end_of g ≤ begin_of h
apart_follows g h a b apart first =
    by_less
    (begin_of h)
    (end_of g)
    (λ less.
    let same : resource_number g.on ≡ resource_number h.on = omega arith in
    absurd (apart (known_same a.known b.known same) h.span.start (omega arith, omega arith) (omega arith, omega arith)))
    (λ most. most)

module _
    (rows : List Row) (few : length rows ≤ spans_room) (drawable : (row : Row) → Memᴰ row rows → Drawable (hold_of row)) (apart : AllApart rows) where
  abbrev line : List Row
  line = line_of rows

  few_there : length line ≤ spans_room
  few_there = omega (arith, line_long rows)

  begin_at : (i : ℕ) → i < length rows → get_or (column row_begin line) i 0 ≡ row_begin (get_or line i no_row)
  begin_at i h = column_at row_begin line i 0 (omega (arith, line_long rows))

  end_at : (i : ℕ) → i < length rows → get_or (column row_end line) i 0 ≡ row_end (get_or line i no_row)
  end_at i h = column_at row_end line i 0 (omega (arith, line_long rows))

  row_there : (i : ℕ) → i < length rows → Memᴰ (get_or line i no_row) rows
  row_there i h = line_from rows (get_or_mem line i no_row (omega (arith, line_long rows)))

  ranged : Pairwise (Ranged (λ a b. Apart (hold_of a) (hold_of b))) line
  ranged = line_ranged _ (λ a b rel alike tick p q. rel (sym alike) tick q p) (pairwise_map Apart hold_of rows apart)

  follows_at : (i : ℕ) → i + 1 < length rows → row_end (get_or line i no_row) ≤ row_begin (get_or line (i + 1) no_row)
  follows_at i h =
      let pair = pairwise_at _ ranged no_row i (i + 1) (omega arith) (omega (arith, line_long rows)) in
      apart_follows
      (hold_of (get_or line i no_row))
      (hold_of (get_or line (i + 1) no_row))
      (drawable (get_or line i no_row) (row_there i (omega arith)))
      (drawable (get_or line (i + 1) no_row) (row_there (i + 1) h))
      pair.1
      pair.0

  pub line_drawn : Drawn (holds rows) (column row_begin line) (column row_end line) (length rows)
  line_drawn = record {
    begins_long = omega (arith, column_long row_begin line few_there);
    ends_long = omega (arith, column_long row_end line few_there);
    drawable = λ h m. let made = map_mem hold_of rows m in rw made.2 (drawable made.0 made.1);
    there =
        λ h m.
        let made = map_mem hold_of rows m in
        let place = mem_get_or no_row (line_has rows made.1) in
        let within : place.0 < length rows = omega (arith, place.1, line_long rows) in
        let same : hold_of (get_or line place.0 no_row) ≡ h = ap hold_of place.2 ∙ sym made.2 in (
          place.0,
          within,
          record { begins_there = begin_at place.0 within ∙ ap begin_of same; ends_there = end_at place.0 within ∙ ap end_of same },
        );
    held_there =
        λ i h. (
          hold_of (get_or line i no_row),
          mem_map hold_of (row_there i h),
          record { begins_there = begin_at i h; ends_there = end_at i h },
        );
    ascends = λ i h. omega (arith, end_at i (omega arith), begin_at (i + 1) h, follows_at i h);
  }

-- the place that a search finds for a row is where it goes
pub goes_at :
    (rows : List Row) (row : Row) → length rows ≤ spans_room → ((row : Row) → Memᴰ row rows → Drawable (hold_of row)) → AllApart rows →
    Drawable (hold_of row) → Untaken (holds rows) (hold_of row) →
    {at : ℕ} → FirstAfter (column row_end (line_of rows)) (length rows) (row_begin row) at → GoesAt (line_of rows) row at
goes_at rows row few drawable apart takes free {at} first =
    let line = line_of rows in
    let drawn = line_drawn rows few drawable apart in
    let long = line_long rows in
    let lasts = takes.lasts in
    let most = first.at_most in
    record {
      within = omega arith;
      is =
          insert_there
          row
          line
          at
          (omega arith)
          (λ i h. omega (arith, first.before i h, lasts_at drawn i (omega arith), column_at row_begin line i 0 (omega arith)))
          (λ h. omega (arith, begins_later (hold_of row) drawn takes free first at (omega arith) (omega arith), column_at row_begin line at 0 h));
    }

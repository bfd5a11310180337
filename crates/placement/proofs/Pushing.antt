-- One row more behind those of a job: its span goes to its place on the timeline, and its entry behind those of the rows before it.
use mathlib.Core.Path.{◌≡◌, refl, sym, ap, ◌∙◌}
use mathlib.Core.List.{List, [], ◌∷◌, ◌++◌, append_assoc, Memᴰ}
use Prim.Native.Nat.{ℕ, ◌≤◌, ◌<◌}
use native.Mathlib.Omega.{arith}
use lib.ListN.{length, get_or, length-append, get_or-append}
use lib.Seq.{take-append-le, take-append_seam, get_or_at}
use Rattle.rules.specs.declared.Row.{Row}
use Rattle.rules.specs.Words.{hold_of, holds}
use Rattle.rules.specs.Placing.{no_row}
use Rattle.rules.proofs.Sequences.{by_less}
use Rattle.rules.proofs.Apart.{AllApart, shares_none_apart}
use Rattle.timeline.specs.Timeline.{Drawable, FirstAfter}
use Rattle.timeline.specs.Lines.{DrawnOn, LineOf}
use Rattle.timeline.specs.RowLine.{spans_room, row_begin, row_end, line_of, column, GoesAt, InsertedAt}
use Rattle.timeline.specs.Grown.{Untaken, AskSpan, SpanPut}
use Rattle.timeline.specs.Spans.{Spans}
use Rattle.timeline.specs.declared.bookings.Booking.{Booking}
use Rattle.timeline.proofs.Drawing.{ends_ascend}
use Rattle.timeline.proofs.ColumnLaws.{column_inserted}
use Rattle.timeline.proofs.RowLines.{line_more, line_long, line_drawn, goes_at}
use Rattle.placement.specs.declared.own.Entry.{Entry}
use Rattle.placement.specs.Own.{no_entry, nth_entry, entry_for, OwnRows}
use Rattle.placement.specs.Appending.{Pushable, Pushed}

-- the line of rows that share no tick is drawn of what they hold
pub line_drawn_on :
    {rows : List Row} {line : Spans} → LineOf rows line → length rows ≤ spans_room → ((row : Row) → Memᴰ row rows → Drawable (hold_of row)) →
    AllApart rows → DrawnOn (holds rows) line
line_drawn_on {rows} is few drawable apart = rw (is.spans.begins_are, is.spans.ends_are, is.count_is) (line_drawn rows few drawable apart)

-- The entries with one more, of a row that goes to an index.
module _ {rows new : List Row} {own : List Entry} (is : OwnRows rows new own) (row : Row) (at : ℕ) (goes : GoesAt (line_of (rows ++ new)) row at) where
  abbrev noted : List Entry
  noted = own ++ (entry_for at row ∷ [])

  noted_here : nth_entry noted (length new) ≡ entry_for at row
  noted_here = get_or_at own (entry_for at row) [] no_entry (length new) is.long

  noted_before : (i : ℕ) → i < length new → nth_entry noted i ≡ nth_entry own i
  noted_before i below = get_or-append own (entry_for at row ∷ []) no_entry i (omega (arith, is.long))

  at_before : (i : ℕ) → i < length new → (nth_entry noted i).at ≡ (nth_entry own i).at
  at_before i below = ap (λ x. x.at) (noted_before i below)

  row_before : (i : ℕ) → i < length new → get_or (new ++ (row ∷ [])) i no_row ≡ get_or new i no_row
  row_before i below = get_or-append new (row ∷ []) no_row i below

  row_here : get_or (new ++ (row ∷ [])) (length new) no_row ≡ row
  row_here = get_or_at new row [] no_row (length new) refl

  -- the last index of the rows, with one more
  last_index : {i : ℕ} → i < length (new ++ (row ∷ [])) → length new ≤ i → i ≡ length new
  last_index below most = omega (arith, length-append new (row ∷ []))

  own_more : OwnRows rows (new ++ (row ∷ [])) noted
  own_more = record {
    long = omega (arith, is.long, length-append new (row ∷ []), length-append own (entry_for at row ∷ []));
    is =
        λ i below.
        by_less
        i
        (length new)
        (λ old. noted_before i old ∙ rw (at_before i old, row_before i old) (is.is i old))
        (λ most. rw (last_index below most, row_here) (noted_here ∙ ap (λ x. entry_for x.at row) (sym noted_here)));
    goes =
        λ i below.
        by_less
        i
        (length new)
        (λ old. rw (at_before i old, row_before i old, take-append-le i new (row ∷ []) (omega arith)) (is.goes i old))
        (λ most. rw (last_index below most, ap (λ x. x.at) noted_here, row_here, take-append_seam new (row ∷ [])) goes);
  }

-- A row whose span and entry go behind those of others.
module _ {rows new : List Row} {line : Spans} {own : List Entry} (can : Pushable rows new line own) where
  abbrev before : List Row
  before = rows ++ new

  few_before : length before < spans_room
  few_before =
      let few = can.held_few in
      let room = can.room in
      omega (arith, length-append rows new)

  apart_before : AllApart before
  apart_before = shares_none_apart before can.apart

  drawn_before : DrawnOn (holds before) line
  drawn_before = line_drawn_on can.line_is (omega (arith, few_before)) can.drawable apart_before

  pub push_span : AskSpan spans_room line
  push_span = record { ascend = ends_ascend drawn_before; fits = rw can.line_is.count_is few_before }

  module _
      (row : Row) (takes : Drawable (hold_of row)) (free : Untaken (holds before) (hold_of row)) {line' : Spans} {at : ℕ}
      (put : SpanPut line (row_begin row) (row_end row) line' at) where
    count_line : line.count ≡ length (line_of before)
    count_line = can.line_is.count_is ∙ sym (line_long before)

    goes_there : GoesAt (line_of before) row at
    goes_there =
        let first : FirstAfter (column row_end (line_of before)) (length before) (row_begin row) at
        = rw (can.line_is.spans.ends_are, can.line_is.count_is) at put.first_after in
        goes_at before row (omega (arith, few_before)) can.drawable apart_before takes free first

    all_but_last : line_of (rows ++ (new ++ (row ∷ []))) ≡ line_of (before ++ (row ∷ []))
    all_but_last = ap line_of (sym (append_assoc rows new (row ∷ [])))

    line_put : LineOf (rows ++ (new ++ (row ∷ []))) line'
    line_put =
        let few : length (line_of before) < spans_room = omega (arith, few_before, line_long before) in
        let begins_put : InsertedAt (column row_begin (line_of before)) (length (line_of before)) at (row_begin row) line'.begins
        = rw (can.line_is.spans.begins_are, count_line) at put.begins_are in
        let ends_put : InsertedAt (column row_end (line_of before)) (length (line_of before)) at (row_end row) line'.ends
        = rw (can.line_is.spans.ends_are, count_line) at put.ends_are in
        let old = can.line_is.count_is in
        let more = put.count_is in
        record {
          spans = record {
            begins_are = rw (all_but_last, line_more before row) (column_inserted row_begin goes_there few begins_put);
            ends_are = rw (all_but_last, line_more before row) (column_inserted row_end goes_there few ends_put);
          };
          count_is = omega (arith, length-append rows new, length-append new (row ∷ []), length-append rows (new ++ (row ∷ [])));
        }

pub pushed_row :
    {line : Spans} {own : List Entry} {booking : Booking} {line' : Spans} {own' : List Entry} {at : ℕ} →
    SpanPut line booking.begin booking.end line' at → own' ≡ own ++ (record { at = at; booking = booking } ∷ []) → Pushed line own booking line' own'
pushed_row {own = own} {at = at} put noted = record {
  line_is = λ rows new row can takes free is. line_put can row takes free (rw (ap (λ x. x.begin) is, ap (λ x. x.end) is) at put);
  own_is =
      λ rows new row can takes free is.
      rw
      (noted, is)
      (own_more can.own_is row at (goes_there can row takes free (rw (ap (λ x. x.begin) is, ap (λ x. x.end) is) at put)));
}

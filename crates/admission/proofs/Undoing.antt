-- The spans of a job's own rows taken off the timeline again, the last one first: what is left is the timeline of the rows held and of those still there.
use mathlib.Core.Path.{◌≡◌, sym, ap, ◌∙◌}
use mathlib.Core.List.{List, ◌++◌, reverse}
use Prim.Native.Nat.{ℕ, ◌+◌, ◌-◌, ◌≤◌, ◌<◌}
use native.Mathlib.Omega.{arith}
use lib.ListN.{length, get_or, length-reverse}
use Rattle.std.proofs.lemmas.List.{get_or-reverse, get_or_default}
use Rattle.rules.specs.declared.Row.{Row}
use Rattle.rules.specs.Words.{row_limit}
use Rattle.rules.specs.Placing.{no_row}
use Rattle.timeline.specs.Spans.{Spans}
use Rattle.timeline.specs.Grown.{SpanOff}
use Rattle.timeline.specs.Lines.{LineOf}
use Rattle.timeline.specs.RowLine.{spans_room, row_begin, row_end, insert_row, line_of, GoesAt}
use Rattle.timeline.proofs.ColumnLaws.{column_removed, begin_blank, end_blank}
use Rattle.timeline.proofs.RowLines.{line_long}
use Rattle.placement.specs.declared.own.Entry.{Entry}
use Rattle.placement.specs.Own.{no_entry, nth_entry, OwnRows}
use Rattle.admission.specs.Submitted.{AskUndo}
use Rattle.admission.proofs.Owning.{rows_to, line_to_long, line_to_more}

-- the last of the entries that are left, once so many are gone
pub turned :
    (own : List Entry) (gone : ℕ) {entry : Entry} → gone < length (reverse own) → entry ≡ get_or (reverse own) gone entry →
    (gone < length own) × (entry ≡ nth_entry own (length own - 1 - gone))
turned own gone {entry} more is =
    let below : gone < length own = omega (arith, length-reverse own) in
    (below, is ∙ get_or-reverse own gone entry below ∙ get_or_default own (length own - 1 - gone) entry no_entry (omega arith))

-- so many of the own rows are gone
pub record Undoing (line₀ : Spans) (own : List Entry) (line : Spans) (gone : ℕ) : Type 0 where
  pub is :
      (rows new : List Row) → LineOf (rows ++ new) line₀ → length rows ≤ row_limit → OwnRows rows new own →
      LineOf (rows_to rows new (length own - gone)) line

module _ {line₀ : Spans} {own : List Entry} where
  module _ {line : Spans} {gone : ℕ} (so_far : Undoing line₀ own line gone) where
    -- the last of the own rows that are left
    module _ (ask : AskUndo line₀ own) (more : gone < length own) {entry : Entry} (read : entry ≡ nth_entry own (length own - 1 - gone)) where
      -- the line with that row, and without it
      module _ {rows new : List Row} (is : LineOf (rows ++ new) line₀) (few_held : length rows ≤ row_limit) (own_is : OwnRows rows new own) where
        abbrev last : ℕ
        last = length own - 1 - gone

        abbrev row : Row
        row = get_or new last no_row

        abbrev without : List Row
        without = rows_to rows new last

        below : last < length new
        below = omega (arith, own_is.long)

        goes : GoesAt (line_of without) row entry.at
        goes = rw read (own_is.goes last below)

        without_few : length (line_of without) < spans_room
        without_few = omega (arith, below, line_to_long rows new last (omega (arith, below)), own_is.long, ask.own_is.long, ask.new_few)

        again : length own - gone ≡ last + 1
        again = omega arith

        with_it : line_of (rows_to rows new (length own - gone)) ≡ insert_row row (line_of without)
        with_it = ap (λ n. line_of (rows_to rows new n)) again ∙ line_to_more rows new last below

        there : LineOf (rows_to rows new (length own - gone)) line
        there = so_far.is rows new is few_held own_is

        count_there : line.count ≡ length (line_of without) + 1
        count_there =
            there.count_is
            ∙ sym (line_long (rows_to rows new (length own - gone)))
            ∙ ap (λ n. length (line_of (rows_to rows new n))) again
            ∙ omega (arith, below, line_to_long rows new last (omega (arith, below)), line_to_long rows new (last + 1) (omega (arith, below)))

        line_without :
            {line' : Spans} → SpanOff line entry.at line' →
            LineOf without line'
        line_without off = record {
          spans = record {
            begins_are = column_removed row_begin goes without_few begin_blank (rw (← with_it, ← there.spans.begins_are, ← count_there) off.begins_are);
            ends_are = column_removed row_end goes without_few end_blank (rw (← with_it, ← there.spans.ends_are, ← count_there) off.ends_are);
          };
          count_is = let one_less = off.count_is in omega (arith, count_there, line_long without);
        }

      pub undoing_more :
          {line' : Spans} → SpanOff line entry.at line' →
          Undoing line₀ own line' (gone + 1)
      undoing_more off = record {
        is =
            λ rows new is few own_is.
            let same : length own - (gone + 1) ≡ length own - 1 - gone = omega arith in
            rw same (line_without is few own_is off);
      }

      -- the span that is taken off is one of them
      pub off_asked : entry.at < line.count
      off_asked =
          let count = count_there ask.line_is ask.few ask.own_is in
          let within = (goes ask.line_is ask.few ask.own_is).within in
          omega arith

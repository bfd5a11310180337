-- Rows listed one by one, and a whole listing.
use mathlib.Core.Path.{◌≡◌, refl, sym, ap, ◌∙◌, subst}
use mathlib.Core.List.{List, [], ◌∷◌, ◌++◌, map, map-append, append_assoc, append-nil}
use Prim.Native.Nat.{ℕ, suc, ◌+◌, ◌*◌, ◌≤◌, ◌<◌}
use native.Mathlib.Omega.{arith}
use native.Mathlib.Numerals.{add-one}
use lib.ListN.{length, get_or, take}
use lib.Seq.{take-suc, take_all}
use Rattle.rules.specs.declared.Row.{Row}
use Rattle.rules.specs.declared.Setup.{Setup}
use Rattle.rules.specs.Sequences.{joined}
use Rattle.rules.specs.Words.{State, row_limit}
use Rattle.rules.specs.Placing.{no_row}
use Rattle.timeline.specs.RowLine.{line_of}
use Rattle.timetable.specs.declared.Timetable.{Timetable}
use Rattle.timetable.specs.Timetables.{TimetableOf, RowAtIs}
use Rattle.lines.specs.Put.{Puts}
use Rattle.lines.proofs.Put.{puts_then}
use Rattle.script.specs.Listing.{row_bytes, sorted, heading, listing}
use Rattle.script.specs.Parts.{AskRows, PutsRows, PutsListing, PutsAtMost, most_row}
use Rattle.script.proofs.Fields.{PutWithin, within_then}
use Rattle.script.proofs.TimelineOrder.{sorted_line}
use Rattle.timetable.proofs.Standing.{count_is, few_held}

joined_append : (a b : List (List ℕ)) → joined (a ++ b) ≡ joined a ++ joined b
joined_append [] b = refl
joined_append (x ∷ a) b = ap (λ l. x ++ l) (joined_append a b) ∙ sym (append_assoc x (joined a) (joined b))

-- one row more
listed_suc : (l : List Row) (k : ℕ) → k < length l → joined (map row_bytes (take (suc k) l)) ≡ joined (map row_bytes (take k l)) ++ row_bytes (get_or l k no_row)
listed_suc l k h =
    ap (λ t. joined (map row_bytes t)) (take-suc l k no_row h)
    ∙ ap joined (map-append row_bytes (take k l) (get_or l k no_row ∷ []))
    ∙ joined_append (map row_bytes (take k l)) (map row_bytes (get_or l k no_row ∷ []))
    ∙ ap (λ t. joined (map row_bytes (take k l)) ++ t) (append-nil (row_bytes (get_or l k no_row)))

-- the first k rows on the line, as they are listed
abbrev listed_to : (rows : List Row) (k : ℕ) → List ℕ
listed_to rows k = joined (map row_bytes (take k (line_of rows)))

-- k rows are listed, whichever state the timetable stands for
pub record RowsListed (old : List ℕ) (at : ℕ) (t : Timetable) (new : List ℕ) (next k : ℕ) : Type 0 where
  pub at_most : k ≤ t.line.count
  pub follows : (s : Setup) (st : State) → TimetableOf s st t → PutWithin old at (listed_to st.rows k) new next (k * most_row)

module _ {old : List ℕ} {at : ℕ} {t : Timetable} (asked : AskRows old at t) where
  asked_few : t.line.count ≤ row_limit
  asked_few = few_held asked.timetable.is

  module _ {new : List ℕ} {next k : ℕ} (l : RowsListed old at t new next k) where
    pub rows_more :
        k < t.line.count → {row : Row} → RowAtIs t k row → {new' : List ℕ} {last : ℕ} →
        PutsAtMost new next (row_bytes row) new' last most_row → RowsListed old at t new' last (k + 1)
    rows_more h made {new'} {last} p = record {
      at_most = omega arith;
      follows = λ s st of.
          let line = line_of st.rows in
          let row = get_or line k no_row in
          let q = subst (λ r. PutsAtMost new next (row_bytes r) new' last most_row) (made s st of) p in
          let more =
          within_then (row_bytes row) most_row (omega (arith, asked.room, asked_few)) (l.follows s st of) q.puts q.short
          in
          let size : k * most_row + most_row ≡ (k + 1) * most_row = omega arith in
          let bytes : listed_to st.rows k ++ row_bytes row ≡ listed_to st.rows (k + 1) =
          sym (ap (listed_to st.rows) (add-one k) ∙ listed_suc line k (omega (arith, count_is of)))
          in
          let named = subst (λ b. PutWithin old at b new' last (k * most_row + most_row)) bytes more in
          subst (λ n. PutWithin old at (listed_to st.rows (k + 1)) new' last n) size named;
    }

    pub rows_all : t.line.count ≤ k → PutsRows old at t new next
    rows_all h s st of =
        let line = line_of st.rows in
        let all : take k line ≡ sorted st.rows =
        take_all k line (omega (arith, count_is of)) ∙ sym (sorted_line s st.rows of.sound of.bounded.rows)
        in
        subst (λ x. Puts old at (joined (map row_bytes x)) new next) all (l.follows s st of).puts

-- A whole listing: the heading, then the rows.
pub whole_listing :
    {old : List ℕ} {at held : ℕ} {t : Timetable} {mid : List ℕ} {next : ℕ} {new : List ℕ} {last : ℕ} → at ≤ length old → held ≡ t.line.count →
    Puts old at (heading t.clock t.total held) mid next → PutsRows mid next t new last → PutsListing old at t new last
unfolding listing
whole_listing {old} {at} {t = t} {mid} {next} h held_is head rows s st of =
    let count = held_is ∙ ap (λ x. x.line.count) of.is in
    puts_then h (rw (ap (λ x. x.clock) of.is, ap (λ x. x.total) of.is, count) at head) (rows s st of)

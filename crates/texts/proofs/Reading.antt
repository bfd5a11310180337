-- Reading a form line by line into a row of figures.
use mathlib.Core.Path.{◌≡◌, sym, ap, ◌∙◌, subst}
use mathlib.Core.Bool.{true}
use mathlib.Core.List.{List, [], ◌∷◌, ◌++◌, append-nil}
use Prim.Native.Nat.{ℕ, suc, ◌+◌, ◌-◌, ◌≤◌, ◌<◌}
use native.Mathlib.Omega.{arith}
use native.Mathlib.Numerals.{add-one}
use lib.ListN.{length, drop, set, length-append, length-set}
use lib.Seq.{drop-cons, append_snoc, set_at}
use Rattle.std.proofs.Common.{Option, None, Some, Ok, Err}
use Rattle.lines.specs.declared.line.DueLine.{DueLine}
use Rattle.lines.specs.declared.line.Unread.{Unread}
use Rattle.lines.specs.Lines.{parsed, refused, Due, line, takes}
use Rattle.lines.specs.Readings.{fault_number}
use Rattle.lines.specs.DueLines.{due_of}
use Rattle.texts.specs.Forms.{Form, ask, read}
use Rattle.texts.specs.Reader.{with_count}
use Rattle.texts.specs.Parts.{DueIs, NextIs, form_left, AtMost, FormRead}
use Rattle.lines.proofs.LineLaws.{fits_takes, line_took}
use Rattle.texts.proofs.FormLaws.{onto, onto_onto, read_next, read_refused}
use Rattle.texts.proofs.Staged.{at_most_next}
use Rattle.texts.proofs.Reached.{line_reached}

-- a line that was read took its figure, and some bytes of the text
pub record Took (due : Due) (text : List ℕ) (at n next : ℕ) : Type 0 where
  pub read_is : line due text at ≡ parsed n next
  pub taken : takes due n ≡ true
  pub on : at < next
  pub within : next ≤ length text

pub took : {due : Due} {text : List ℕ} {at n next : ℕ} → line due text at ≡ parsed n next → Took due text at n next
took {due} {text} {at} {n} {next} e =
    let reached = line_reached due text at n next e in
    record { read_is = e; taken = fits_takes (line_took due text at n next e).0; on = let far = reached.on in omega arith; within = reached.within }

-- The figures seen so far stand in the row, and reading goes on with the form that is left.
pub record ReadTo {L : Type 0} (form : L → Form) (first : L) (text old : List ℕ) (place : Option L) (row : List ℕ) (at count : ℕ) : Type 0 where
  pub seen : List ℕ
  pub as_many : length seen ≡ count
  pub row_is : row ≡ seen ++ drop count old
  pub long : length row ≡ length old
  pub read_is : read (form first) text 0 ≡ onto seen (read (form_left form place) text at)
  pub room : AtMost (length old - count) (form_left form place)
  pub within : at ≤ length text

module _
    {L : Type 0} {form : L → Form} {first : L} {text old : List ℕ} {place : Option L} {row : List ℕ} {at count : ℕ}
    (w : ReadTo form first text old place row at count)
  where
    module _ {here : L} (is : place ≡ Some here) {r : DueLine} (due : DueIs (form here) r) where
      -- the form that is left begins with the line that is due
      left_is : form_left form place ≡ ask (due_of r) due.more
      left_is = ap (form_left form) is ∙ due.is

      pub read_more :
          {then : Option L} {n next : ℕ} → Took (due_of r) text at n next → NextIs (form here) n (form_left form then) →
          ReadTo form first text old then (set row count n) next (count + 1)
      read_more {then} {n} {next} one goes =
          let some = at_most_next w.room left_is in
          let many = w.as_many in
          let follow : form_left form then ≡ due.more n = goes (due_of r) due.more due.is in
          let there = drop-cons old count 0 (omega (arith, some.0)) in
          record {
            seen = w.seen ++ (n ∷ []);
            as_many = length-append w.seen (n ∷ []) ∙ (omega arith);
            row_is =
                ap (λ l. set l count n) (w.row_is ∙ ap (λ l. w.seen ++ l) there)
                ∙ set_at w.seen _ (drop (suc count) old) n count many
                ∙ sym (append_snoc w.seen n (drop (suc count) old))
                ∙ ap (λ k. w.seen ++ (n ∷ []) ++ drop k old) (sym (add-one count));
            long = length-set row count n ∙ w.long;
            read_is =
                w.read_is
                ∙ ap (λ f. onto w.seen (read f text at)) left_is
                ∙ ap (onto w.seen) (read_next (due_of r) due.more text at n next one.read_is)
                ∙ onto_onto w.seen (n ∷ []) (read (due.more n) text next)
                ∙ ap (λ f. onto (w.seen ++ (n ∷ [])) (read f text next)) (sym follow);
            room = subst (AtMost (length old - (count + 1))) (sym follow) (subst (λ k. AtMost k (due.more n)) (omega arith) (some.1 n one.taken));
            within = one.within;
          }

      -- a line that is refused refuses the form
      pub read_stops : {u : Unread} → refused (fault_number u.fault) u.at ≡ line (due_of r) text at → FormRead (form first) text old row (Err u)
      read_stops {u} e =
          let all : read (form first) text 0 ≡ refused (fault_number u.fault) u.at =
          w.read_is
          ∙ ap (λ f. onto w.seen (read f text at)) left_is
          ∙ ap (onto w.seen) (read_refused (due_of r) due.more text at (fault_number u.fault) u.at (sym e))
          in
          record {
            reading_is = ap with_count (sym all);
            long = w.long;
            figures_are = λ ns next f. let both = sym all ∙ f in cc;
          }

    pub read_all : place ≡ None → FormRead (form first) text old row (Ok (record { value = count; next = at }))
    unfolding read
    read_all over =
        let all : read (form first) text 0 ≡ parsed w.seen at =
        w.read_is ∙ ap (λ p. onto w.seen (read (form_left form p) text at)) over ∙ ap (λ l. parsed l at) (append-nil w.seen)
        in
        record {
          reading_is = ap (λ n. parsed n at) (sym w.as_many) ∙ ap with_count (sym all);
          long = w.long;
          figures_are = λ ns next f.
              let both = sym all ∙ f in
              let same : w.seen ≡ ns = cc in
              subst (λ l. row ≡ l ++ drop (length l) old) same (w.row_is ∙ ap (λ k. w.seen ++ drop k old) (sym w.as_many));
        }

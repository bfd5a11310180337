-- Walking the lines of figures: testing whether they fill the form, counting their bytes and writing them.
use mathlib.Core.Path.{◌≡◌, refl, sym, ap, ◌∙◌, subst}
use mathlib.Core.Bool.{Bool, true, false, not, ◌&&◌}
use mathlib.Core.List.{List, [], ◌∷◌, ◌++◌, append_assoc, append-nil}
use Prim.Native.Nat.{ℕ, min, ◌+◌, ◌-◌, ◌*◌, ◌^◌, ◌≤◌, ◌<◌}
use native.Mathlib.Omega.{arith}
use lib.ListN.{length, get_or, drop, length-append, drop_of_length-le}
use Rattle.std.proofs.lemmas.List.{drop_more}
use Rattle.std.specs.Option.{is_some}
use Rattle.std.specs.Bool.{then_some}
use Rattle.std.proofs.Common.{Option, Some, None}
use Rattle.rules.proofs.Sequences.{clash, by_test, and_true}
use Rattle.lines.specs.declared.keys.Key.{Key}
use Rattle.lines.specs.declared.keys.Key.TheVariants as K
use Rattle.lines.specs.declared.line.DueLine.{DueLine}
use Rattle.lines.specs.Figures.{decimal, field}
use Rattle.lines.specs.Lines.{unfit, takes}
use Rattle.lines.specs.Put.{Puts}
use Rattle.lines.specs.DueLines.{key_bytes, due_of}
use Rattle.lines.specs.Parts.{most_scanned}
use Rattle.texts.specs.Forms.{Form, done, ask, written, fills}
use Rattle.texts.specs.Parts.{DueIs, NextIs, form_left, most_written, MeasuredIs}
use Rattle.lines.proofs.LineLaws.{takes_fits}
use Rattle.lines.proofs.Put.{puts_then, puts_long, field_length}

-- the line of the next figure
abbrev line_of : DueLine → (figures : List ℕ) → (i : ℕ) → List ℕ
line_of r figures i = field (key_bytes r.key) (get_or figures i 0)

-- Figures up to a place were walked: the lines so far, and the form that is left for the others.
pub record Walk {L : Type 0} (form : L → Form) (first : L) (figures : List ℕ) (place : Option L) (i : ℕ) (lines : List ℕ) : Type 0 where
  pub fills_is : fills (form first) figures ≡ fills (form_left form place) (drop i figures)
  pub written_is : written (form first) figures ≡ lines ++ written (form_left form place) (drop i figures)

written_none : (form : Form) → written form [] ≡ []
unfolding written
written_none done = refl
written_none (ask due more) = refl

module _
    {L : Type 0} {form : L → Form} {first : L} {figures : List ℕ} {place : Option L} {i : ℕ} {lines : List ℕ}
    (w : Walk form first figures place i lines)
  where
    module _ (h : i < length figures) where
      rest_is : drop i figures ≡ get_or figures i 0 ∷ drop (i + 1) figures
      rest_is = drop_more figures i 0 h

      pub walk_over : place ≡ None → fills (form first) figures ≡ false
      unfolding fills
      walk_over e = w.fills_is ∙ rw (rest_is, e) refl

      -- what fills the form goes on
      pub walk_goes_on : fills (form first) figures ≡ true → place ≡ None → ⊥
      walk_goes_on f e = clash f (walk_over e)

      module _ {here : L} (at : place ≡ Some here) {r : DueLine} (due : DueIs (form here) r) where
        -- what is due takes the next figure, and the rest goes on
        fills_next :
            fills (form first) figures ≡ takes (due_of r) (get_or figures i 0) && fills (due.more (get_or figures i 0)) (drop (i + 1) figures)
        unfolding fills
        fills_next = w.fills_is ∙ rw (rest_is, at, due.is) refl

        pub walk_taken : fills (form first) figures ≡ true → takes (due_of r) (get_or figures i 0) ≡ true
        walk_taken e = (and_true _ _ (sym fills_next ∙ e)).0

        -- a figure that is unfit or too long ends it
        pub walk_unfit : unfit (due_of r) (get_or figures i 0) ≡ true → fills (form first) figures ≡ false
        walk_unfit u = fills_next ∙ rw u refl

        pub walk_long : r.digits < length (decimal (get_or figures i 0)) → fills (form first) figures ≡ false
        walk_long l =
            by_test (fills (form first) figures) (λ t. absurd (let s = (takes_fits {due = due_of r} (walk_taken t)).short in omega arith)) (λ f. f)

        lines_next :
            written (form first) figures ≡ (lines ++ line_of r figures i) ++ written (due.more (get_or figures i 0)) (drop (i + 1) figures)
        unfolding written
        lines_next =
            w.written_is
            ∙ rw (rest_is, at, due.is) refl
            ∙ sym (append_assoc lines (line_of r figures i) (written (due.more (get_or figures i 0)) (drop (i + 1) figures)))

        -- the lines so far and this one are no longer than all
        pub walk_within : length lines + length (line_of r figures i) ≤ length (written (form first) figures)
        walk_within =
            let all = ap length lines_next in
            let a = length-append lines (line_of r figures i) in
            let b = length-append (lines ++ line_of r figures i) (written (due.more (get_or figures i 0)) (drop (i + 1) figures)) in
            omega arith

        pub walk_more :
            {next : Option L} → takes (due_of r) (get_or figures i 0) ≡ true → NextIs (form here) (get_or figures i 0) (form_left form next) →
            Walk form first figures next (i + 1) (lines ++ line_of r figures i)
        walk_more t goes =
            let follow = goes (due_of r) due.more due.is in
            record { fills_is = rw follow (fills_next ∙ rw t refl); written_is = rw follow lines_next }

    module _ (h : length figures ≤ i) where
      -- without figures a form is filled where no line is left
      pub walk_filled : (over : Bool) → ((line : L) → fills (form line) [] ≡ false) → is_some place ≡ not over → fills (form first) figures ≡ over
      unfolding fills
      walk_filled over due e = w.fills_is ∙ ap (fills (form_left form place)) (drop_of_length-le figures h) ∙ at_end place over e
        where
          at_end : (place : Option L) (over : Bool) → is_some place ≡ not over → fills (form_left form place) [] ≡ over
          at_end None true e = refl
          at_end None false e = sym e
          at_end (Some line) true e = due line ∙ sym e
          at_end (Some line) false e = due line

      pub walk_written : written (form first) figures ≡ lines
      walk_written =
          w.written_is
          ∙ ap (λ l. lines ++ written (form_left form place) l) (drop_of_length-le figures h)
          ∙ ap (λ l. lines ++ l) (written_none (form_left form place))
          ∙ append-nil lines

-- The bytes of the lines so far, which are few enough to be counted.

-- the keys are short: none is longer than this one
abbrev longest_key : ℕ
longest_key = length (key_bytes K.Deadline)

key_short : (key : Key) → length (key_bytes key) ≤ longest_key
key_short K.Job = omega arith
key_short _ = omega arith

-- a key, the digits and a line feed
abbrev longest_line : ℕ
longest_line = longest_key + most_scanned + 1

line_few : {form : Form} {r : DueLine} (n : ℕ) → DueIs form r → takes (due_of r) n ≡ true → length (key_bytes r.key) + length (decimal n) + 1 ≤ longest_line
line_few {r = r} n due t = let a = key_short r.key in let d = due.digits in let b = (takes_fits {due = due_of r} t).short in omega arith

pub record Measured {L : Type 0} (form : L → Form) (first : L) (figures : List ℕ) (place : Option L) (i total : ℕ) : Type 0 where
  pub lines : List ℕ
  pub walk : Walk form first figures place i lines
  pub total_is : i ≤ most_written → total ≡ length lines
  pub few : total ≤ longest_line * i

-- figures that do not fill a form
pub unfilled_measured : {form : Form} {figures : List ℕ} → fills form figures ≡ false → MeasuredIs form figures None
unfilled_measured f = record { unfilled = λ _. f; filled = λ n some. absurd cc }

module _ {L : Type 0} {form : L → Form} {first : L} {figures : List ℕ} {place : Option L} {i total : ℕ} (m : Measured form first figures place i total) where
  module _
      (h : i < length figures) {here : L} (at : place ≡ Some here) {r : DueLine} (due : DueIs (form here) r)
      (t : takes (due_of r) (get_or figures i 0) ≡ true)
    where
      pub measured_more :
          {next : Option L} → NextIs (form here) (get_or figures i 0) (form_left form next) →
          {sum : ℕ} → sum ≡ min (total + (length (key_bytes r.key) + length (decimal (get_or figures i 0)) + 1)) (2 ^ 64 - 1) →
          Measured form first figures next (i + 1) sum
      measured_more goes sum_is =
          let l = length-append m.lines (line_of r figures i) in
          let f = field_length (key_bytes r.key) (get_or figures i 0) in
          let few = line_few _ due t in
          let b = m.few in
          record {
            lines = m.lines ++ line_of r figures i;
            walk = walk_more m.walk h at due t goes;
            total_is = λ some. let e = m.total_is (omega arith) in omega arith;
            few = omega arith;
          }

  -- at the end the form is filled, or it is not
  pub measured_all :
      length figures ≤ i → i ≤ length figures → (over : Bool) → ((line : L) → fills (form line) [] ≡ false) → is_some place ≡ not over →
      MeasuredIs (form first) figures (then_some over total)
  measured_all h at_most over due e = go over (walk_filled m.walk h over due e)
    where
      go : (over : Bool) → fills (form first) figures ≡ over → MeasuredIs (form first) figures (then_some over total)
      go true f =
          record {
            unfilled = λ none. absurd cc;
            filled = λ n some. (f, λ few. let same : total ≡ n = cc in sym same ∙ m.total_is (omega (arith, at_most)) ∙ ap length (sym (walk_written m.walk h)));
          }
      go false f = unfilled_measured f

-- The lines so far stand at the buffer's start.
pub record Wrote {L : Type 0} (form : L → Form) (first : L) (figures : List ℕ) (place : Option L) (i : ℕ) (old output : List ℕ) (at : ℕ) : Type 0 where
  pub lines : List ℕ
  pub walk : Walk form first figures place i lines
  pub puts : Puts old 0 lines output at
  pub long : length output ≡ length old

module _
    {L : Type 0} {form : L → Form} {first : L} {figures : List ℕ} {place : Option L} {i : ℕ} {old output : List ℕ} {at : ℕ}
    (w : Wrote form first figures place i old output at)
  where
    module _
        (room : length (written (form first) figures) ≤ length old) (h : i < length figures) {here : L} (is : place ≡ Some here) {r : DueLine}
        (due : DueIs (form here) r)
      where
        -- there is a place for the next line
        pub wrote_room : at + length (line_of r figures i) ≤ length output
        wrote_room = let more = walk_within w.walk h is due in let p = w.puts.next_is in let same = w.long in omega arith

        pub wrote_more :
            {next : Option L} {new : List ℕ} {end : ℕ} → takes (due_of r) (get_or figures i 0) ≡ true →
            NextIs (form here) (get_or figures i 0) (form_left form next) → Puts output at (line_of r figures i) new end →
            Wrote form first figures next (i + 1) old new end
        wrote_more t goes p =
            record {
              lines = w.lines ++ line_of r figures i;
              walk = walk_more w.walk h is due t goes;
              puts = puts_then (omega arith) w.puts p;
              long = puts_long p wrote_room ∙ w.long;
            }

    pub wrote_all : length figures ≤ i → Puts old 0 (written (form first) figures) output at
    wrote_all h = subst (λ l. Puts old 0 l output at) (sym (walk_written w.walk h)) w.puts

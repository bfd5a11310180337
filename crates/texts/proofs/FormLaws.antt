-- The laws of every form, by induction on it: what is read is what would be written, what fills it reads back, and the first ill line refuses.
use mathlib.Core.Path.{◌≡◌, refl, sym, ap, ◌∙◌, subst}
use mathlib.Core.Bool.{true}
use mathlib.Core.List.{List, [], ◌∷◌, ◌++◌, append_assoc, append-nil}
use Prim.Native.Nat.{ℕ, ◌+◌, ◌≤◌}
use native.Mathlib.Omega.{arith}
use lib.ListN.{length, take, drop, length-append, length-drop, take-append-drop}
use lib.Seq.{drop-drop, drop-append-le, take-append-le, take-append_seam, drop-append_seam, length-take-le}
use Rattle.rules.proofs.Sequences.{clash, and_true, and_both}
use Rattle.lines.specs.Figures.{line_feed, field}
use Rattle.lines.specs.Lines.{Parsed, parsed, refused, Due, line}
use Rattle.texts.specs.Forms.{Form, done, ask, followed, read, written, fills, left}
use Rattle.lines.specs.Lines.{takes}
use Rattle.lines.specs.Laws.{Stands}
use Rattle.texts.specs.Laws.{ReadIsWritten, FilledReads, begins_form, RefusedThere}
use Rattle.lines.proofs.Standing.{stands_none, stands_join, stands_split}
use Rattle.lines.proofs.LineLaws.{fits_takes, takes_fits, line_took, line_reads, line_place, line_same}

-- figures that were read before others
abbrev pub onto : List ℕ → Parsed (List ℕ) → Parsed (List ℕ)
onto ns (parsed more next) = parsed (ns ++ more) next
onto ns (refused number place) = refused number place

pub onto_none : (p : Parsed (List ℕ)) → onto [] p ≡ p
onto_none (parsed more next) = refl
onto_none (refused number place) = refl

pub onto_onto : (a b : List ℕ) (p : Parsed (List ℕ)) → onto a (onto b p) ≡ onto (a ++ b) p
onto_onto a b (parsed more next) = ap (λ l. parsed l next) (sym (append_assoc a b more))
onto_onto a b (refused number place) = refl

-- a line that reads, and what follows
pub read_next :
    (due : Due) (more : ℕ → Form) (text : List ℕ) (at n next : ℕ) → line due text at ≡ parsed n next →
    read (ask due more) text at ≡ onto (n ∷ []) (read (more n) text next)
unfolding read followed
read_next due more text at n next e = rw e (go (read (more n) text next))
  where
    go : (p : Parsed (List ℕ)) → followed p (λ ns last. parsed (n ∷ ns) last) ≡ onto (n ∷ []) p
    go (parsed ns last) = refl
    go (refused number place) = refl

pub read_refused :
    (due : Due) (more : ℕ → Form) (text : List ℕ) (at number place : ℕ) → line due text at ≡ refused number place →
    read (ask due more) text at ≡ refused number place
unfolding read followed
read_refused due more text at number place e = rw e refl

-- the cases of a line that is read: a figure and the place after it, or a refusal
pub read_cases :
    (P : Parsed (List ℕ) → Type 0) (due : Due) (more : ℕ → Form) (text : List ℕ) (at : ℕ) →
    ((n next : ℕ) → line due text at ≡ parsed n next → P (onto (n ∷ []) (read (more n) text next))) →
    ((number place : ℕ) → line due text at ≡ refused number place → P (refused number place)) → P (read (ask due more) text at)
read_cases P due more text at good bad = go (line due text at) refl
  where
    go : (p : Parsed ℕ) → line due text at ≡ p → P (read (ask due more) text at)
    go (parsed n next) e = rw (read_next due more text at n next e) (good n next e)
    go (refused number place) e = rw (read_refused due more text at number place e) (bad number place e)

-- what is read before others
pub onto_parsed : (n : ℕ) (p : Parsed (List ℕ)) {ns : List ℕ} {next : ℕ} → onto (n ∷ []) p ≡ parsed ns next →
    (more : List ℕ) × (p ≡ parsed more next) × (ns ≡ n ∷ more)
onto_parsed n (parsed more last) e = (more, cc, cc)
onto_parsed n (refused number place) e = cc

onto_refused : (n : ℕ) (p : Parsed (List ℕ)) {number place : ℕ} → onto (n ∷ []) p ≡ refused number place → p ≡ refused number place
onto_refused n (parsed more last) e = cc
onto_refused n (refused number place) e = e

pub read_is_written : ReadIsWritten
unfolding read written fills
read_is_written done text at ns next e =
    let none_read : [] ≡ ns = cc in
    let stays : at ≡ next = cc in (
      subst (λ l. fills done l ≡ true) none_read refl,
      subst (λ l. Stands (written done l) text at next) none_read (subst (Stands [] text at) stays (stands_none text at)),
    )
read_is_written (ask due more) text at ns next e₀ =
    let below : (n : ℕ) (mid : ℕ) (rest : List ℕ) → read (more n) text mid ≡ parsed rest next →
    (fills (more n) rest ≡ true) × Stands (written (more n) rest) text mid next
    = λ n mid rest. read_is_written (more n) text mid rest next in
    read_cases
    (λ p. p ≡ parsed ns next → (fills (ask due more) ns ≡ true) × Stands (written (ask due more) ns) text at next)
    due
    more
    text
    at
    (λ n mid took e.
    let rest = onto_parsed n (read (more n) text mid) e in
    let one = line_took due text at n mid took in
    let tail = below n mid rest.0 rest.1 in
    subst
    (λ l. (fills (ask due more) l ≡ true) × Stands (written (ask due more) l) text at next)
    (sym rest.2)
    (and_both (takes due n) (fills (more n) rest.0) (fits_takes one.0) tail.0, stands_join one.1 tail.1))
    (λ number place bad e. cc)
    e₀

-- figures that stand there read, and reading goes on with the form that is left
pub read_along :
    (form : Form) (ns : List ℕ) → begins_form form ns ≡ true → (text : List ℕ) (at next : ℕ) → Stands (written form ns) text at next →
    read form text at ≡ onto ns (read (left form ns) text next)
unfolding written begins_form left
read_along form [] e text at next s = sym (onto_none (read form text next) ∙ ap (read form text) (none_written form s))
  where
    none_written : (form : Form) → Stands (written form []) text at next → next ≡ at
    none_written done s = let i = s.next_is in omega arith
    none_written (ask due more) s = let i = s.next_is in omega arith
read_along done (n ∷ ns) e text at next s = clash e refl
read_along (ask due more) (n ∷ ns) e text at next s =
    let both = and_true (takes due n) (begins_form (more n) ns) e in
    let parts = stands_split (field due.key n) (written (more n) ns) s in
    let mid : ℕ = at + length (field due.key n) in
    read_next due more text at n mid (line_reads due n (takes_fits both.0) parts.0)
    ∙ ap (onto (n ∷ [])) (read_along (more n) ns both.1 text mid next parts.1)
    ∙ onto_onto (n ∷ []) ns (read (left (more n) ns) text next)

-- what fills a form begins it, and nothing is left
fills_begins : (form : Form) (ns : List ℕ) → fills form ns ≡ true → (begins_form form ns ≡ true) × (left form ns ≡ done)
unfolding fills begins_form left
fills_begins done [] e = (refl, refl)
fills_begins done (n ∷ ns) e = clash e refl
fills_begins (ask due more) [] e = clash e refl
fills_begins (ask due more) (n ∷ ns) e =
    let both = and_true (takes due n) (fills (more n) ns) e in
    let rest = fills_begins (more n) ns both.1 in
    (and_both (takes due n) (begins_form (more n) ns) both.0 rest.0, rest.1)

pub filled_reads : FilledReads
unfolding read
filled_reads form ns e text at next s =
    let is = fills_begins form ns e in
    read_along form ns is.0 text at next s ∙ ap (λ f. onto ns (read f text next)) is.1 ∙ ap (λ l. parsed l next) (append-nil ns)

-- The first ill line.

-- what stands before a place stands in every text that begins with the same bytes
stands_front : (front x y : List ℕ) {bytes : List ℕ} {at next : ℕ} → Stands bytes (front ++ x) at next → next ≤ length front → Stands bytes (front ++ y) at next
stands_front front x y {bytes} {at} {next} s h =
    let i = s.next_is in
    record {
      there =
          sym (take-append-drop (length bytes) (drop at (front ++ y)))
          ∙ ap (λ l. l ++ drop (length bytes) (drop at (front ++ y)))
          (taken y (omega arith) ∙ sym (taken x (omega arith)) ∙ ap (take (length bytes)) s.there ∙ take-append_seam bytes (drop next (front ++ x)))
          ∙ ap (λ l. bytes ++ l) (drop-drop (length bytes) at (front ++ y) ∙ ap (λ k. drop k (front ++ y)) (sym i));
      next_is = i;
    }
  where
    taken : (z : List ℕ) → at + length bytes ≤ length front → take (length bytes) (drop at (front ++ z)) ≡ take (length bytes) (drop at front)
    taken z l =
        let d = length-drop at front in
        ap (take (length bytes)) (drop-append-le at front z (omega arith)) ∙ take-append-le (length bytes) (drop at front) z (omega arith)

-- the line that is refused, and what was read before it
pub record Ill (form : Form) (text : List ℕ) (at number place : ℕ) : Type 0 where
  pub figures : List ℕ
  pub due : Due
  pub more : ℕ → Form
  pub good_before : begins_form form figures ≡ true
  pub stand_before : Stands (written form figures) text at place
  pub due_there : left form figures ≡ ask due more
  pub bad_there : line due text place ≡ refused number place

first_ill : (form : Form) (text : List ℕ) (at number place : ℕ) → read form text at ≡ refused number place → Ill form text at number place
unfolding read written begins_form left
first_ill done text at number place e = cc
first_ill (ask due more) text at number place e₀ =
    let below : (n mid : ℕ) → read (more n) text mid ≡ refused number place → Ill (more n) text mid number place
    = λ n mid. first_ill (more n) text mid number place in
    read_cases
    (λ p. p ≡ refused number place → Ill (ask due more) text at number place)
    due
    more
    text
    at
    (λ n mid took e.
    let one = line_took due text at n mid took in
    let ill = below n mid (onto_refused n (read (more n) text mid) e) in
    record {
      figures = n ∷ ill.figures;
      due = ill.due;
      more = ill.more;
      good_before = and_both (takes due n) (begins_form (more n) ill.figures) (fits_takes one.0) ill.good_before;
      stand_before = stands_join one.1 ill.stand_before;
      due_there = ill.due_there;
      bad_there = ill.bad_there;
    })
    (λ number' place' bad e.
    let n : number' ≡ number = cc in
    let p : place' ≡ place = cc in
    let here : at ≡ place = sym (line_place due text at number' place' bad) ∙ p in
    record {
      figures = [];
      due = due;
      more = more;
      good_before = refl;
      stand_before = subst (Stands [] text at) here (stands_none text at);
      due_there = refl;
      bad_there = subst (λ k. line due text k ≡ refused number place) here (bad ∙ narrow e);
    })
    e₀
  where
    -- a refusal of a line and of a form say the same
    narrow : {a b c d : ℕ} → ◌≡◌ {A = Parsed (List ℕ)} (refused a b) (refused c d) → ◌≡◌ {A = Parsed ℕ} (refused a b) (refused c d)
    narrow e = cc

-- the whole law: with the bytes before the place and that line, any text is refused there
pub refused_there : RefusedThere
refused_there form text at number place e =
    let ill = first_ill form text at number place e in
    record {
      figures = ill.figures;
      due = ill.due;
      more = ill.more;
      good_before = ill.good_before;
      stand_before = ill.stand_before;
      due_there = ill.due_there;
      bad_there = ill.bad_there;
      after_no_matter =
          λ no_feed bytes rest other there.
          let front : List ℕ = take place text in
          let within : place ≤ length text = place_within bytes rest there in
          let long : length front ≡ place = length-take-le place text within in
          let whole : text ≡ front ++ drop place text = sym (take-append-drop place text) in
          let other_text : List ℕ = front ++ (bytes ++ line_feed ∷ other) in
          let stands : Stands (written form ill.figures) other_text at place
          = stands_front front (drop place text) (bytes ++ line_feed ∷ other)
          (subst (λ l. Stands (written form ill.figures) l at place) whole ill.stand_before) (omega arith) in
          let there_other : drop place other_text ≡ bytes ++ line_feed ∷ other
          = subst (λ k. drop k other_text ≡ bytes ++ line_feed ∷ other) long (drop-append_seam front (bytes ++ line_feed ∷ other)) in
          let same = line_same ill.due place text other_text bytes rest other no_feed there there_other in
          read_along form ill.figures ill.good_before other_text at place stands
          ∙ ap (λ f. onto ill.figures (read f other_text place)) ill.due_there
          ∙ ap (onto ill.figures) (read_refused ill.due ill.more other_text place number place (sym same ∙ ill.bad_there));
    }
  where
    place_within : (bytes rest : List ℕ) → drop place text ≡ bytes ++ line_feed ∷ rest → place ≤ length text
    place_within bytes rest there =
        let d = length-drop place text in
        let l = ap length there in
        let a = length-append bytes (line_feed ∷ rest) in
        omega arith

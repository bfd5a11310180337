-- A place in a form: the line that is due there, the form that goes on, and the figures that it has room for.
use mathlib.Core.Path.{◌≡◌, sym, ap, ◌∙◌, subst}
use mathlib.Core.Bool.{true}
use Prim.Native.Nat.{ℕ, zero, suc, ◌-◌, ◌≤◌}
use native.Mathlib.Omega.{arith}
use Rattle.lines.specs.declared.line.DueLine.{DueLine}
use Rattle.lines.specs.Lines.{Due, takes}
use Rattle.lines.specs.DueLines.{due_of}
use Rattle.texts.specs.Forms.{Form, ask}
use Rattle.texts.specs.Parts.{DueIs, AskNext, NextIs, AtMost, at_end, at_line}

-- what goes on for a figure, whatever line is said to be due
pub goes_on : {form left : Form} {due : Due} {more : ℕ → Form} {figure : ℕ} → form ≡ ask due more → left ≡ more figure → NextIs form figure left
goes_on {due = due} {more = more} {figure = figure} f l other rest e =
    let same : ask due more ≡ ask other rest = sym f ∙ e in
    let follow : more ≡ rest = cc in
    l ∙ ap (λ m. m figure) follow

pub ask_next : {form : Form} {machines n : ℕ} {r : DueLine} → 1 ≤ machines → DueIs form r → takes (due_of r) n ≡ true → AskNext form machines n
ask_next {n = n} {r = r} some a t =
    record {
      some_machine = some;
      taken = λ due more e.
          let same : ask (due_of r) a.more ≡ ask due more = sym a.is ∙ e in
          let d : due_of r ≡ due = cc in
          subst (λ (x : Due). takes x n ≡ true) d t;
    }

-- Room for figures.

pub at_most_more : {n m : ℕ} {form : Form} → AtMost n form → n ≤ m → AtMost m form
at_most_more at_end h = at_end
at_most_more {m = zero} (at_line f) h = absurd (omega arith)
at_most_more {m = suc m} (at_line {due = due} f) h = at_line {n = m} {due = due} (λ k t. at_most_more (f k t) (omega arith))

pub at_most_next :
    {n : ℕ} {form : Form} {due : Due} {more : ℕ → Form} → AtMost n form → form ≡ ask due more →
    (1 ≤ n) × ((k : ℕ) → takes due k ≡ true → AtMost (n - 1) (more k))
at_most_next at_end e = cc
at_most_next {due = due} {more = more} (at_line {n = n} {due = asked} {more = follow} f) e =
    let d : asked ≡ due = cc in
    let m : follow ≡ more = cc in (
      omega arith,
      λ k t.
          at_most_more (subst (λ g. AtMost n (g k)) m (f k (subst (λ (x : Due). takes x k ≡ true) (sym d) t))) (omega arith),
    )

-- A reader must believe this: a text as a form, and how a form is read and written. Documents 01 and 02: every text is lines of a key and a figure.
use Rattle.std.specs.Prelude.{Bool, true, false, ◌&&◌, List, [], ◌∷◌, ◌++◌, ℕ}
use Rattle.lines.specs.Figures.{field}
use Rattle.lines.specs.Lines.{Parsed, parsed, refused, Due, line, takes}

-- Nothing more, or a due line and, for the figure read there, the form that goes on: counts decide how many lines follow, and a range may depend on figures
-- before it.
pub data Form : Type 0 where
  done : Form
  ask : Due → (ℕ → Form) → Form

-- reading goes on after what was read; nothing after a refused line is read
unfoldable pub followed : {A B : Type 0} → Parsed A → (A → (next : ℕ) → Parsed B) → Parsed B
followed (parsed a next) more = more a next
followed (refused number place) more = refused number place

-- The figures of a form's lines, and the place after the last one; or the first refusal, with its place.
unfoldable pub read : Form → (text : List ℕ) → (at : ℕ) → Parsed (List ℕ)
read done text at = parsed [] at
read (ask due more) text at = followed (line due text at) (λ n next. followed (read (more n) text next) (λ ns last. parsed (n ∷ ns) last))

-- The lines of figures, each with the key that is due; a row of figures that ends early has the lines up to there.
unfoldable pub written : Form → List ℕ → List ℕ
written done ns = []
written (ask due more) [] = []
written (ask due more) (n ∷ ns) = field due.key n ++ written (more n) ns

-- a figure for each line of the form, and no other
unfoldable pub fills : Form → List ℕ → Bool
fills done [] = true
fills done (n ∷ ns) = false
fills (ask due more) [] = false
fills (ask due more) (n ∷ ns) = takes due n && fills (more n) ns

-- what is left of a form after figures
unfoldable pub left : Form → List ℕ → Form
left form [] = form
left done (n ∷ ns) = done
left (ask due more) (n ∷ ns) = left (more n) ns

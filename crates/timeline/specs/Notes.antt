-- Between functions: what the rows that leave have cost, by what is noted of them.
use Rattle.std.specs.Prelude.{◌≡◌, Bool, List, ℕ, ◌≤◌, ◌<◌, length, get_or}
use Rattle.rules.specs.declared.Row.{Row}
use Rattle.rules.specs.declared.Holder.TheVariants.{TaskOn}
use Rattle.rules.specs.Sequences.{keep}
use Rattle.rules.specs.Placing.{costs}
use Rattle.rules.specs.Bounds.{largest_cost}
use Rattle.timeline.specs.declared.notes.Note.{Note}
use Rattle.timeline.specs.RowLine.{notes_of, Says}

abbrev pub no_note : Note
no_note = record { holder = TaskOn 0 0; cost = 0; last = 0 }

pub record AskCosts (notes : List Note) (count : ℕ) : Type 0 where
  pub room : count ≤ length notes
  pub costs_fit : (i : ℕ) → i < count → (get_or notes i no_note).cost ≤ largest_cost

-- whatever rows they are noted of, and whichever leave
abbrev pub CostIs : (notes : List Note) (leaves : List Bool) (count r : ℕ) → Type 0
CostIs notes leaves count r =
    (line : List Row) (leaving : Row → Bool) (last : ℕ → ℕ) → length line ≡ count → Says leaving line leaves → notes ≡ notes_of last line →
    r ≡ costs (keep leaving line)

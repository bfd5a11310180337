-- The default tables are in range, and the same both ways: each a test computed over the whole table.
use mathlib.Core.Path.{◌≡◌, refl}
use mathlib.Core.Logic.{⊎_elim}
use mathlib.Core.Bool.{Bool, true, ◌||◌, ◌&&◌}
use mathlib.Core.List.{List, [], ◌∷◌}
use Prim.Native.Nat.{ℕ, zero, suc, ◌-◌, ◌≤◌}
use native.Mathlib.Omega.{arith}
use lib.Dec.{ltb, leb, eqb}
use lib.ListN.{get_or}
use borrow.Author.Tests.{ltb-true, leb-true, eqb-true}
use Rattle.rules.specs.declared.Setup.{Setup}
use Rattle.rules.specs.Sequences.{all_of}
use Rattle.rules.specs.Words.{machines, link_time, link_rate, link_place, setup_by_default}
use Rattle.rules.specs.Bounds.{largest_rate, largest_link_time, Sound}
use Rattle.rules.proofs.Sequences.{and_true, or_cases, all_mem, numbers_mem}

-- a bound of every entry holds at every place; past the end the entry is 0
entries_at_most : (k : ℕ) (l : List ℕ) → all_of (λ x. leb x k) l ≡ true → (i : ℕ) → get_or l i 0 ≤ k
entries_at_most k [] e i = omega arith
entries_at_most k (x ∷ xs) e zero = leb-true x k (and_true (leb x k) (all_of (λ x. leb x k) xs) e).0
entries_at_most k (x ∷ xs) e (suc i) = entries_at_most k xs (and_true (leb x k) (all_of (λ x. leb x k) xs) e).1 i

-- a test of all ordered pairs of machines holds of each pair
all_pairs :
    (s : Setup) (p : ℕ → ℕ → Bool) → all_of (λ a. all_of (p a) (machines s)) (machines s) ≡ true →
    (a b : ℕ) → 1 ≤ a → a ≤ s.table.machines → 1 ≤ b → b ≤ s.table.machines → p a b ≡ true
all_pairs s p e a b a_first a_last b_first b_last =
    all_mem
    (p a)
    (all_mem (λ a. all_of (p a) (machines s)) e (numbers_mem 1 s.table.machines a a_first (omega arith)))
    (numbers_mem 1 s.table.machines b b_first (omega arith))

pub default_sound : Sound setup_by_default
unfolding setup_by_default
default_sound = record {
  room = omega arith;
  rates = λ m. entries_at_most largest_rate setup_by_default.table.rates refl (m - 1);
  times = λ a b. entries_at_most largest_link_time setup_by_default.table.times refl (link_place a b);
  fails = λ a b. entries_at_most largest_rate setup_by_default.table.fails refl (link_place a b);
  takes_time =
      λ a b a_first a_last b_first b_last ne.
      ⊎_elim
      (λ h. absurd (ne (eqb-true a b h)))
      (ltb-true 0 (link_time setup_by_default a b))
      (or_cases
      (eqb a b)
      (ltb 0 (link_time setup_by_default a b))
      (all_pairs setup_by_default (λ a b. eqb a b || ltb 0 (link_time setup_by_default a b)) refl a b a_first a_last b_first b_last));
}

pub symmetric_default :
    (a b : ℕ) → 1 ≤ a → a ≤ setup_by_default.table.machines → 1 ≤ b → b ≤ setup_by_default.table.machines →
    (link_time setup_by_default a b ≡ link_time setup_by_default b a) × (link_rate setup_by_default a b ≡ link_rate setup_by_default b a)
unfolding setup_by_default
symmetric_default a b a_first a_last b_first b_last =
    let both = and_true _ _ (all_pairs setup_by_default alike refl a b a_first a_last b_first b_last) in
    (eqb-true _ _ both.0, eqb-true _ _ both.1)
  where
    alike : ℕ → ℕ → Bool
    alike a b =
        eqb (link_time setup_by_default a b) (link_time setup_by_default b a)
        && eqb (link_rate setup_by_default a b) (link_rate setup_by_default b a)

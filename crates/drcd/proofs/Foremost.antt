-- The foremost of a list, one element more at a time.
use mathlib.Core.Path.{◌≡◌, refl, ap, ◌∙◌}
use mathlib.Core.Bool.{Bool, true, false, cond}
use mathlib.Core.List.{List, [], ◌∷◌, ◌++◌, append-nil}
use mathlib.Core.Option.{Option, none, some}
use Prim.Native.Nat.{ℕ, suc, ◌+◌}
use native.Mathlib.Omega.{arith}
use native.Mathlib.Numerals.{add-one}
use Rattle.rules.specs.Sequences.{cons_if, keep, numbers, precedes, prior, foremost}
use Rattle.rules.proofs.Sequences.{by_test, keep_append, numbers_more}
use Rattle.rules.proofs.Choice.{not_precedes_trans}
use Rattle.rules.proofs.Order.{precedes_trans}

module _ (p : ℕ → Bool) (n : ℕ) where
  -- of the numbers from 1 on, those that pass a test, with one number more
  pub keep_next : keep p (numbers 1 (suc n)) ≡ keep p (numbers 1 n) ++ cons_if (p (suc n)) (suc n) []
  keep_next =
      let same : 1 + n ≡ suc n = omega arith in
      let one_more = numbers_more 1 n ∙ ap (λ m. numbers 1 n ++ (m ∷ [])) same in
      ap (keep p) one_more ∙ keep_append p (numbers 1 n) (suc n ∷ [])

  keep_more : keep p (numbers 1 (n + 1)) ≡ keep p (numbers 1 n) ++ cons_if (p (n + 1)) (n + 1) []
  keep_more = rw add-one keep_next

  pub keep_passing : p (n + 1) ≡ true → keep p (numbers 1 (n + 1)) ≡ keep p (numbers 1 n) ++ ((n + 1) ∷ [])
  keep_passing e = rw (keep_more, e) refl

  pub keep_failing : p (n + 1) ≡ false → keep p (numbers 1 (n + 1)) ≡ keep p (numbers 1 n)
  keep_failing e = rw (keep_more, e, append-nil) refl

module _ {A : Type 0} (f : A → List ℕ) where
  -- what an element after all others makes of their foremost: it is taken if its figures precede
  abbrev pub later : A → Option A → A
  later x none = x
  later x (some y) = cond (precedes (f x) (f y)) x y

  pub foremost_more : (l : List A) (x : A) → foremost f (l ++ (x ∷ [])) ≡ some (later x (foremost f l))
  unfolding foremost prior
  foremost_more [] x = refl
  foremost_more (y ∷ l) x = rw (foremost_more l x) (ap some (go (foremost f l)))
    where
      go : (o : Option A) → prior f y (some (later x o)) ≡ later x (some (prior f y o))
      go none = refl
      go (some z) =
          by_test
          (precedes (f x) (f z))
          (λ a.
          by_test
          (precedes (f z) (f y))
          (λ b. rw (a, b, a, precedes_trans (f x) (f z) (f y) a b) refl)
          (λ b. rw (a, b) refl))
          (λ a.
          by_test
          (precedes (f z) (f y))
          (λ b. rw (a, b, a) refl)
          (λ b. rw (a, b, not_precedes_trans (f x) (f z) (f y) a b) refl))

  pub foremost_of_none : foremost f [] ≡ none
  unfolding foremost
  foremost_of_none = refl

  pub foremost_of_one : (x : A) → foremost f (x ∷ []) ≡ some x
  unfolding foremost prior
  foremost_of_one x = refl

  -- of the first two the one that stays first
  pub foremost_merged : (x y : A) (l : List A) → foremost f (x ∷ y ∷ l) ≡ foremost f (cond (precedes (f y) (f x)) y x ∷ l)
  unfolding foremost prior
  foremost_merged x y l = ap some (go (foremost f l))
    where
      go : (o : Option A) → cond (precedes (f (prior f y o)) (f x)) (prior f y o) x ≡ prior f (cond (precedes (f y) (f x)) y x) o
      go none = refl
      go (some z) =
          by_test
          (precedes (f y) (f x))
          (λ a.
          by_test
          (precedes (f z) (f y))
          (λ b. rw (b, a, b, precedes_trans (f z) (f y) (f x) b a) refl)
          (λ b. rw (b, a, b) refl))
          (λ a.
          by_test
          (precedes (f z) (f y))
          (λ b. rw (b, a) refl)
          (λ b. rw (b, a, not_precedes_trans (f z) (f y) (f x) b a) refl))

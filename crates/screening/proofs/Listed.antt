-- A test of the tasks or the machines that are numbered from 1, made over the list that they stand in.
use mathlib.Core.Path.{◌≡◌, refl, sym, ap, ◌∙◌}
use mathlib.Core.Bool.{Bool, false, ◌||◌}
use mathlib.Core.List.{List, [], ◌∷◌, map, Memᴰ}
use Prim.Native.Nat.{ℕ, zero, suc, ◌+◌, ◌-◌, ◌≤◌, ◌<◌}
use native.Mathlib.Omega.{arith}
use lib.ListN.{get_or, take, length}
use lib.Seq.{get_or-take}
use Rattle.std.proofs.lemmas.List.{get_or_default}
use Rattle.std.specs.List.{list_any, AllWithin}
use Rattle.rules.specs.declared.Job.{Job}
use Rattle.rules.specs.declared.Task.{Task}
use Rattle.rules.specs.Sequences.{any_of, numbers}
use Rattle.rules.specs.Words.{task_of, no_task}
use Rattle.rules.proofs.Sequences.{none_any, map_same, mem_numbers}

-- Lists.

-- the rules and the library say the same of some of a list
pub any_listed : {A : Type 0} (p : A → Bool) (l : List A) → any_of p l ≡ list_any p l
any_listed p [] = refl
any_listed p (x ∷ l) = ap (λ b. p x || b) (any_listed p l)

any_mapped : {A B : Type 0} (p : B → Bool) (f : A → B) (l : List A) → any_of (λ x. p (f x)) l ≡ any_of p (map f l)
any_mapped p f [] = refl
any_mapped p f (x ∷ l) = ap (λ b. p (f x) || b) (any_mapped p f l)

module _ {A : Type 0} (d : A) where
  -- those numbered from a on
  numbered_from : (xs : List A) (a n : ℕ) → n ≤ length xs → map (λ m. get_or xs (m - a) d) (numbers a n) ≡ take n xs
  numbered_from xs a zero h = refl
  numbered_from [] a (suc n) h = absurd (omega arith)
  numbered_from (x ∷ xs) a (suc n) h =
      let own : a - a ≡ 0 = omega arith in
      let later = λ (m : ℕ) (mem : Memᴰ m (numbers (suc a) n)).
      let above = (mem_numbers (suc a) n mem).0 in
      let one_on : m - a ≡ suc (m - suc a) = omega arith in
      ap (λ i. get_or (x ∷ xs) i d) one_on in
      rw own (ap (λ l. x ∷ l) (map_same _ _ (numbers (suc a) n) later ∙ numbered_from xs (suc a) n (omega arith)))

  -- those numbered 1 to n are the first n
  pub numbered : (xs : List A) (n : ℕ) → n ≤ length xs → map (λ m. get_or xs (m - 1) d) (numbers 1 n) ≡ take n xs
  numbered xs n h = numbered_from xs 1 n h

  pub any_numbered : (p : A → Bool) (xs : List A) (n : ℕ) → n ≤ length xs → any_of (λ m. p (get_or xs (m - 1) d)) (numbers 1 n) ≡ list_any p (take n xs)
  any_numbered p xs n h = any_mapped p (λ m. get_or xs (m - 1) d) (numbers 1 n) ∙ any_listed p _ ∙ ap (list_any p) (numbered xs n h)

-- The tasks of a job.

-- the tasks of a job, of which the array holds as many as the count says
pub record Lists (j : Job) (l : List Task) : Type 0 where
  pub listed : l ≡ take j.taskcount j.tasks
  pub long : length l ≡ j.taskcount

module _ {j : Job} {l : List Task} (tasks : Lists j l) where
  -- the task at an index has the next number
  pub own_task : (i t : ℕ) (task : Task) → i < length l → t ≡ i + 1 → get_or l i task ≡ task_of j t
  own_task i t task more next =
      let few : i < j.taskcount = omega (arith, tasks.long) in
      let at : i ≡ t - 1 = omega arith in
      get_or_default l i task no_task more
      ∙ (ap (λ k. get_or k i no_task) tasks.listed ∙ (get_or-take j.taskcount j.tasks i no_task few ∙ ap (λ k. get_or j.tasks k no_task) at))

  -- a test that none of the first i tasks passes
  pub none_numbered :
      (p : ℕ → Bool) (i : ℕ) → i ≤ length l → AllWithin (λ task. (t : ℕ) → task_of j t ≡ task → false ≡ p t) l 0 i → any_of p (numbers 1 i) ≡ false
  none_numbered p i within passed =
      none_any
      p
      (numbers 1 i)
      (λ t mem.
      let range = mem_numbers 1 i mem in
      let below : t - 1 < i = omega arith in
      sym (passed (t - 1) no_task (omega arith) below t (sym (own_task (t - 1) t no_task (omega arith) (omega arith)))))

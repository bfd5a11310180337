-- The task chosen next is the earliest of those ready; the trial kept is good, and no good one is better.
use mathlib.Core.Path.{◌≡◌, refl, sym, ap, ◌∙◌, subst}
use mathlib.Core.Logic.{⊎_elim}
use mathlib.Core.Bool.{Bool, true, false, ◌&&◌, cond}
use mathlib.Core.List.Memᴰ
use mathlib.Core.List.{List, [], ◌∷◌, map, Memᴰ}
use mathlib.Core.Option.{Option, none, some}
use Prim.Native.Nat.{ℕ, ◌≤◌, ◌<◌}
use native.Mathlib.Omega.{arith}
use lib.Dec.{ltb, eqb}
use borrow.Author.Tests.{ltb-true, ltb-false, leb-true, eqb-true, lt-ltb, le-ltb, le-leb, eq-eqb}
use Rattle.rules.specs.declared.Job.{Job}
use Rattle.rules.specs.declared.Row.{Row}
use Rattle.rules.specs.declared.Setup.{Setup}
use Rattle.rules.specs.Sequences.{keep, precedes, prior, foremost}
use Rattle.rules.specs.Words.{machines, task_numbers, task_of, run_time}
use Rattle.rules.specs.Placing.{ready, next_task, Trial, trial_rows, costs, machine_of, try, good, good_trials, choice}
use Rattle.rules.specs.Laws.{IsTask, IsNext, IsGood, IsKept}
use Rattle.rules.specs.Placing.{Ground}
use Rattle.rules.proofs.Sequences.{by_test, clash, or_cases, or_left, or_false, and_true, and_cases}
use Rattle.rules.proofs.Sequences.{keep_mem, mem_keep, mem_map, map_mem, mem_numbers, numbers_mem}

-- The order by figures.

-- a row of figures that does not precede another: its first figure is not below, and where the first figures agree the rest do not precede
pub precedes_false : {x y : ℕ} (xs ys : List ℕ) → precedes (x ∷ xs) (y ∷ ys) ≡ false → (y ≤ x) × (x ≡ y → precedes xs ys ≡ false)
unfolding precedes
precedes_false {x} {y} xs ys e =
    let h = or_false (ltb x y) (eqb x y && precedes xs ys) e in
    (ltb-false x y h.0, λ q. ⊎_elim (clash (eq-eqb x y q)) (λ r. r) (and_cases (eqb x y) (precedes xs ys) h.1))

-- a lower first figure decides
pub lower_precedes : (x y : ℕ) (xs ys : List ℕ) → x < y → precedes (x ∷ xs) (y ∷ ys) ≡ true
unfolding precedes
lower_precedes x y xs ys h = or_left _ (eqb x y && precedes xs ys) (lt-ltb x y h)

pub false_precedes : (x y : ℕ) (xs ys : List ℕ) → y ≤ x → (x ≡ y → precedes xs ys ≡ false) → precedes (x ∷ xs) (y ∷ ys) ≡ false
unfolding precedes
false_precedes x y xs ys h k = rw (le-ltb x y h) (by_test (eqb x y) (λ e. rw e (k (eqb-true x y e))) (λ e. rw e refl))

pub precedes_asym : (xs ys : List ℕ) → precedes xs ys ≡ true → precedes ys xs ≡ false
unfolding precedes
precedes_asym [] [] e = refl
precedes_asym [] (y ∷ ys) e = refl
precedes_asym (x ∷ xs) [] e = clash e refl
precedes_asym (x ∷ xs) (y ∷ ys) e =
    ⊎_elim
    (λ h. let k = ltb-true x y h in false_precedes y x ys xs (omega arith) (λ q. absurd (omega arith)))
    (λ h.
    let r = and_true (eqb x y) (precedes xs ys) h in
    let q = eqb-true x y r.0 in
    false_precedes y x ys xs (omega arith) (λ p. precedes_asym xs ys r.1))
    (or_cases (ltb x y) (eqb x y && precedes xs ys) e)

pub precedes_irrefl : (xs : List ℕ) → precedes xs xs ≡ false
precedes_irrefl xs = by_test (precedes xs xs) (precedes_asym xs xs) (λ h. h)

pub not_precedes_trans : (zs ys xs : List ℕ) → precedes zs ys ≡ false → precedes ys xs ≡ false → precedes zs xs ≡ false
unfolding precedes
not_precedes_trans [] [] xs p q = q
not_precedes_trans [] (y ∷ ys) xs p q = clash refl p
not_precedes_trans (z ∷ zs) [] [] p q = refl
not_precedes_trans (z ∷ zs) [] (x ∷ xs) p q = clash refl q
not_precedes_trans (z ∷ zs) (y ∷ ys) [] p q = refl
not_precedes_trans (z ∷ zs) (y ∷ ys) (x ∷ xs) p q =
    let a = precedes_false {x = z} {y = y} zs ys p in
    let b = precedes_false {x = y} {y = x} ys xs q in
    false_precedes z x zs xs (omega arith) (λ e. not_precedes_trans zs ys xs (a.1 (omega arith)) (b.1 (omega arith)))

-- The foremost of a list.

module _ {A : Type 0} (f : A → List ℕ) where
  -- none of an empty list; of any other, an element that no element precedes
  abbrev Foremost : List A → Option A → Type 0
  Foremost l none = l ≡ []
  Foremost l (some x) = Memᴰ x l × ((y : A) → Memᴰ y l → precedes (f y) (f x) ≡ false)

  foremost_is : (l : List A) → Foremost l (foremost f l)
  unfolding foremost prior
  foremost_is [] = refl
  foremost_is (x ∷ xs) = add (foremost f xs) (foremost_is xs)
    where
      stay : ((y : A) → Memᴰ y xs → precedes (f y) (f x) ≡ false) → Foremost (x ∷ xs) (some x)
      stay h = (Memᴰ.head refl, λ y m. ⊎_elim (λ q. rw q (precedes_irrefl (f x))) (h y) (Memᴰ.cases_cons m))

      choose : (z : A) (t : Bool) → precedes (f z) (f x) ≡ t → Foremost xs (some z) → Foremost (x ∷ xs) (some (cond t z x))
      choose z true e h =
          (Memᴰ.tail h.0, λ y m. ⊎_elim (λ q. rw q (precedes_asym (f z) (f x) e)) (h.1 y) (Memᴰ.cases_cons m))
      choose z false e h = stay (λ y m. not_precedes_trans (f y) (f z) (f x) (h.1 y m) e)

      add : (o : Option A) → Foremost xs o → Foremost (x ∷ xs) (some (prior f x o))
      add none h = stay (λ y m. absurd (Memᴰ.not-nil (rw h at m)))
      add (some z) h = choose z (precedes (f z) (f x)) refl h

  pub foremost_mem : (l : List A) {x : A} → foremost f l ≡ some x → Memᴰ x l
  foremost_mem l e = (subst (Foremost l) e (foremost_is l)).0

  pub foremost_first : (l : List A) {x y : A} → foremost f l ≡ some x → Memᴰ y l → precedes (f y) (f x) ≡ false
  foremost_first l {x} {y} e m = (subst (Foremost l) e (foremost_is l)).1 y m

  pub foremost_none : (l : List A) → foremost f l ≡ none → l ≡ []
  foremost_none l e = subst (Foremost l) e (foremost_is l)

  pub foremost_empty : {l : List A} {y : A} → foremost f l ≡ none → Memᴰ y l → ⊥
  foremost_empty {l} e m = Memᴰ.not-nil (rw (foremost_none l e) at m)

-- The task placed next.

pub task_mem : (j : Job) (t : ℕ) → IsTask j t → Memᴰ t (task_numbers j)
task_mem j t h = numbers_mem 1 j.taskcount t h.first (omega arith)

pub mem_task : (j : Job) {t : ℕ} → Memᴰ t (task_numbers j) → IsTask j t
mem_task j m = let h = mem_numbers 1 j.taskcount m in record { first = h.0; last = omega arith }

pub next_is_next : (j : Job) (new : List Row) (t : ℕ) → next_task j new ≡ some t → IsNext j new t
unfolding next_task
next_is_next j new t e = record {
  is_task = mem_task j found.0;
  is_ready = found.1;
  earliest = λ u h r. (not_before u h r).0;
  lowest = λ u h r q. (precedes_false _ _ ((not_before u h r).1 q)).0;
}
  where
    figures : ℕ → List ℕ
    figures u = (task_of j u).deadline ∷ u ∷ []

    waiting : List ℕ
    waiting = keep (ready j new) (task_numbers j)

    found : Memᴰ t (task_numbers j) × (ready j new t ≡ true)
    found = mem_keep (ready j new) (task_numbers j) (foremost_mem figures waiting e)

    not_before :
        (u : ℕ) → IsTask j u → ready j new u ≡ true →
        ((task_of j t).deadline ≤ (task_of j u).deadline)
        × ((task_of j u).deadline ≡ (task_of j t).deadline → precedes (u ∷ []) (t ∷ []) ≡ false)
    not_before u h r = precedes_false _ _ (foremost_first figures waiting e (keep_mem (ready j new) (task_mem j u h) r))

pub none_next : (j : Job) (new : List Row) → next_task j new ≡ none → (u : ℕ) → IsTask j u → ready j new u ≡ false
unfolding next_task
none_next j new e u h =
    by_test (ready j new u) (λ r. absurd (foremost_empty _ e (keep_mem (ready j new) (task_mem j u h) r))) (λ r. r)

-- The trial kept.

module _ (s : Setup) (g : Ground) (j : Job) (new : List Row) (t : ℕ) where
  able : ℕ → Bool
  able m = ltb 0 (run_time j t m)

  pub good_mem : (m : ℕ) → IsGood s g j new t m → Memᴰ (try s g j new t m) (good_trials s g j new t)
  unfolding good_trials good able
  good_mem m fine = keep_mem (good s g j new t) (mem_map (try s g j new t) tried) (le-leb _ _ fine.in_time)
    where
      listed : Memᴰ m (machines s)
      listed = numbers_mem 1 s.table.machines m fine.is_machine.first (omega arith)

      tried : Memᴰ m (keep able (machines s))
      tried = keep_mem able listed (lt-ltb 0 (run_time j t m) fine.able)

  pub mem_good :
      {trial : Trial} → Memᴰ trial (good_trials s g j new t) →
      (m : ℕ) × (trial ≡ try s g j new t m) × IsGood s g j new t m
  unfolding good_trials good able
  mem_good mem =
      let kept = mem_keep (good s g j new t) (map (try s g j new t) (keep able (machines s))) mem in
      let made = map_mem (try s g j new t) (keep able (machines s)) kept.0 in
      let tried = mem_keep able (machines s) made.1 in
      let listed = mem_numbers 1 s.table.machines tried.0 in
      let h = listed.1 in (
        made.0,
        made.2,
        record {
          is_machine = record { first = listed.0; last = omega arith };
          able = ltb-true 0 (run_time j t made.0) tried.1;
          in_time = leb-true _ _ (ap (good s g j new t) (sym made.2) ∙ kept.1);
        },
      )

  -- a trial chosen is kept: no good one has figures before its own
  chosen_kept :
      (m : ℕ) → IsGood s g j new t m → choice s g j new t ≡ some (try s g j new t m) → IsKept s g j new t m
  unfolding choice try machine_of
  chosen_kept m fine e = record {
    is_good = fine;
    cheapest = λ k h. (by_cost k h).0;
    soonest = λ k h p. (precedes_false _ _ ((by_cost k h).1 p)).0;
    lowest = λ k h p q. (precedes_false _ _ ((precedes_false _ _ ((by_cost k h).1 p)).1 q)).0;
  }
    where
      cost : ℕ → ℕ
      cost k = costs (trial_rows (try s g j new t k))

      others : ℕ → List ℕ
      others k = (try s g j new t k).own.start ∷ k ∷ []

      by_cost : (k : ℕ) → IsGood s g j new t k → (cost m ≤ cost k) × (cost k ≡ cost m → precedes (others k) (others m) ≡ false)
      by_cost k h = precedes_false _ _ (foremost_first _ (good_trials s g j new t) e (good_mem k h))

  pub choice_kept :
      (trial : Trial) → choice s g j new t ≡ some trial →
      (m : ℕ) × (trial ≡ try s g j new t m) × IsKept s g j new t m
  unfolding choice
  choice_kept trial e =
      let r = mem_good (foremost_mem _ (good_trials s g j new t) e) in
      (r.0, r.1, chosen_kept r.0 r.2 (e ∙ ap some r.1))

  pub no_choice : choice s g j new t ≡ none → (m : ℕ) → IsGood s g j new t m → ⊥
  unfolding choice
  no_choice e m fine = foremost_empty _ e (good_mem m fine)

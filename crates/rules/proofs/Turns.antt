-- One induction for all facts of placing: what holds of no rows and is kept at each turn holds of the whole job.
use mathlib.Core.Path.{◌≡◌, refl, sym, ap, ◌∙◌, subst}
use mathlib.Core.Logic.{◌⊎◌, inl, inr}
use mathlib.Core.List.{List, [], ◌++◌}
use mathlib.Core.Option.{Option, none, some}
use Prim.Native.Nat.{ℕ, zero, suc}
use native.Mathlib.Omega.{arith}
use Rattle.rules.specs.declared.Row.{Row}
use Rattle.rules.specs.declared.Job.{Job}
use Rattle.rules.specs.declared.Setup.{Setup}
use Rattle.rules.specs.Placing.{Trial, trial_rows, Turn, over, misses, books, Placing, booked, late, turn, place_from, place, next_task, choice, try}
use Rattle.rules.specs.Laws.{IsNext, IsKept}
use Rattle.rules.specs.Placing.{Ground}
use Rattle.rules.proofs.Choice.{next_is_next, choice_kept}

booked_same : {a b : List Row} → booked a ≡ booked b → a ≡ b
booked_same e = cc

late_booked {ℓ} : {C : Type ℓ} {t : ℕ} {rows : List Row} → late t ≡ booked rows → C
late_booked e = let z : ◌≡◌ {A = ℕ} 0 1 = cc in absurd (omega arith)

module _ (s : Setup) (g : Ground) (j : Job) where
  -- what is kept of the turns left and the rows so far
  module _
      (P : ℕ → List Row → Type 0)
      (kept :
      (left : ℕ) (new : List Row) (t : ℕ) (trial : Trial) → next_task j new ≡ some t → choice s g j new t ≡ some trial →
      P (suc left) new → P left (new ++ trial_rows trial))
    where
      -- at the end no turn is left, or no task is ready
      abbrev pub Ends : List Row → Type 0
      Ends rows = (left : ℕ) × P left rows × ((left ≡ 0) ⊎ (next_task j rows ≡ none))

      place_from_ends : (turns : ℕ) (new rows : List Row) → P turns new → place_from s g j turns new ≡ booked rows → Ends rows
      unfolding place_from turn
      place_from_ends zero new rows h e = (zero, subst (P zero) (booked_same e) h, inl refl)
      place_from_ends (suc k) new rows h e = go (next_task j new) refl e (λ next q. place_from_ends k next rows q)
        where
          Below : Type 0
          Below = (next : List Row) → P k next → place_from s g j k next ≡ booked rows → Ends rows

          went : Turn → Placing
          went x = elim x [ over ↦ booked new | misses t ↦ late t | books t trial ↦ place_from s g j k (new ++ trial_rows trial) ]

          chose :
              (t : ℕ) (o : Option Trial) → next_task j new ≡ some t → choice s g j new t ≡ o →
              went (elim o [ none ↦ misses t | some trial ↦ books t trial ]) ≡ booked rows → Below → Ends rows
          chose t none n c q below = late_booked q
          chose t (some trial) n c q below = below (new ++ trial_rows trial) (kept k new t trial n c h) q

          go :
              (o : Option ℕ) → next_task j new ≡ o →
              went (elim o [ none ↦ over | some t ↦ elim (choice s g j new t) [ none ↦ misses t | some trial ↦ books t trial ] ]) ≡ booked rows →
              Below → Ends rows
          go none n q below = let same = booked_same q in (suc k, subst (P (suc k)) same h, inr (ap (next_task j) (sym same) ∙ n))
          go (some t) n q below = chose t (choice s g j new t) n refl q below

      pub place_ends : {rows : List Row} → P j.taskcount [] → place s g j ≡ booked rows → Ends rows
      unfolding place
      place_ends {rows} h e = place_from_ends j.taskcount [] rows h e

  -- what is kept of the rows alone
  module _
      (P : List Row → Type 0)
      (kept :
      (new : List Row) (t m : ℕ) → IsNext j new t → IsKept s g j new t m → P new →
      P (new ++ trial_rows (try s g j new t m)))
    where
      pub place_keeps : {rows : List Row} → P [] → place s g j ≡ booked rows → P rows
      place_keeps h e =
          (place_ends (λ left. P) (λ left new t trial n c q.
          let k = choice_kept s g j new t trial c in
          rw k.1 (kept new t k.0 (next_is_next j new t n) k.2 q)) h e).1

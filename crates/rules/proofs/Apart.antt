-- Holds of one resource share no tick: what placing finds is apart from all that was held, and from the rest of it.
use mathlib.Core.Path.{◌≡◌, refl, sym, ap, ◌∙◌, subst}
use mathlib.Core.Logic.{⊎_elim}
use mathlib.Core.Bool.{Bool}
use mathlib.Core.List.{List, [], ◌∷◌, ◌++◌, append-nil, append_assoc}
use mathlib.Core.List.Memᴰ
use mathlib.Core.List.{Memᴰ}
use Prim.Native.Nat.{ℕ, ◌+◌}
use native.Mathlib.Omega.{arith}
use Rattle.rules.specs.declared.Row.{Row}
use Rattle.rules.specs.declared.Message.{Message}
use Rattle.rules.specs.declared.Job.{Job}
use Rattle.rules.specs.declared.Setup.{Setup}
use Rattle.rules.specs.Words.{link, held_by, Within, Hold, hold_of, holds, run_time, View}
use Rattle.rules.specs.Placing.{Ground, least_free, spans_on, transfer, task_row, machine_for, into, release, message_trial, message_trials, all_arrived}
use Rattle.rules.specs.Placing.{trial_rows, try}
use Rattle.rules.specs.Placing.{Placing, booked, late, place, no_row}
use Rattle.rules.specs.Sequences.{keep}
use Rattle.rules.specs.Refusals.{ground_of, found, placing}
use Rattle.rules.specs.Demands.{NoSharedTick}
use Rattle.rules.proofs.Sequences.{by_test, map_mem}
use Rattle.rules.proofs.Pairs.{Pairwise, pairwise_keep, pairwise_snoc, pairwise_at, at_pairwise, pairwise_map, map_pairwise}
use Rattle.rules.proofs.LeastTick.{least_is_least}
use Rattle.rules.proofs.Resources.{holds_append, one_more, spans_taken}
use Rattle.rules.proofs.Turns.{place_keeps}
use Rattle.rules.proofs.Inputs.{crossing, booking, booked_only, try_shape}

-- two holds of one resource share no tick
abbrev pub Apart : Hold → Hold → Type 0
Apart a b = a.on ≡ b.on → (tick : ℕ) → Within tick a.span → Within tick b.span → ⊥

-- a hold at the least free tick of a resource is apart from those that were there
found_apart :
    (hs : List Hold) (from len : ℕ) (h : Hold) → h.span.start ≡ least_free from len (spans_on h.on hs) →
    h.span.finish ≡ h.span.start + len → (x : Hold) → Memᴰ x hs → Apart x h
found_apart hs from len h starts lasts x n alike tick in_x in_h =
    let is = least_is_least from len (spans_on h.on hs) in
    let low = in_h.0 in
    let high = in_h.1 in
    is.is_free tick (omega arith) (omega arith) ((spans_taken h.on hs tick).1 (record { hold = x; listed = n; on = alike; within = in_x }))

module _ (s : Setup) (held : List Hold) (j : Job) (new : List Row) (m : ℕ) where
  trials_apart :
      (tried : List Row) (msgs : List Message) → Pairwise Apart (held ++ holds (new ++ tried)) →
      Pairwise Apart (held ++ holds (new ++ message_trials s held j new m tried msgs))
  unfolding message_trials message_trial held_by
  trials_apart tried [] h = h
  trials_apart tried (msg ∷ msgs) h =
      let a = machine_for new msg.sender in
      let before : List Hold = held ++ holds (new ++ tried) in
      let from : ℕ = (task_row new msg.sender).finish in
      let at : ℕ = least_free from (transfer s msg a m) (spans_on (link a m) before) in
      let row : Row = booking s j new m msg at in
      let regroup : before ++ (hold_of row ∷ []) ≡ held ++ holds (new ++ (tried ++ (row ∷ [])))
      = one_more (held) (new ++ tried) row ∙ ap (λ l. held ++ holds l) (append_assoc new tried (row ∷ [])) in
      by_test
      (crossing s j new m msg)
      (λ c.
      rw
      c
      (trials_apart
      (tried ++ (row ∷ []))
      msgs
      (subst (Pairwise Apart) regroup (pairwise_snoc Apart h (found_apart before from (transfer s msg a m) (hold_of row) refl refl)))))
      (λ c. rw (c, append-nil tried) (trials_apart tried msgs h))

-- the rows of a turn are apart from all before them, and from each other
pub turn_apart :
    (s : Setup) (g : Ground) (j : Job) (new : List Row) (t m : ℕ) → Pairwise Apart (g.held ++ holds new) →
    Pairwise Apart (g.held ++ holds (new ++ trial_rows (try s g j new t m)))
unfolding try held_by
turn_apart s g j new t m h =
    let ins : List Row = message_trials s g.held j new m [] (into j t) in
    let from : ℕ = all_arrived (new ++ ins) m (release g j new t) (into j t) in
    let own : Row = (try s g j new t m).own in
    let regroup : (g.held ++ holds (new ++ ins)) ++ (hold_of own ∷ []) ≡ g.held ++ holds (new ++ (ins ++ (own ∷ [])))
    = one_more g.held (new ++ ins) own ∙ ap (λ l. g.held ++ holds l) (append_assoc new ins (own ∷ [])) in
    let before : Pairwise Apart (g.held ++ holds (new ++ ins))
    = trials_apart s g.held j new m [] (into j t) (rw (append-nil new) h) in
    let held_before : (x : Hold) → Memᴰ x (g.held ++ holds new) → Apart x (hold_of own)
    = found_apart (g.held ++ holds new) from (run_time j t m) (hold_of own) refl refl in
    let an_input : (x : Hold) → Memᴰ x (holds ins) → Apart x (hold_of own)
    = λ x n alike.
    let made = map_mem hold_of ins n in
    let b = booked_only s j new m (try_shape s g j new t m).inputs made.0 made.1 in
    let z : ◌≡◌ {A = ℕ} 0 1 = cc (sym (ap (λ h. h.on) (made.2 ∙ ap hold_of b.4)) ∙ alike) in
    absurd (omega arith) in
    subst
    (Pairwise Apart)
    regroup
    (pairwise_snoc
    Apart
    before
    (λ x n.
    ⊎_elim
    (λ k. held_before x (Memᴰ.append_left (holds new) k))
    (λ k.
    ⊎_elim
    (λ q. held_before x (Memᴰ.append_right g.held q))
    (an_input x)
    (Memᴰ.append_cases (holds new) (rw (holds_append new ins) at k)))
    (Memᴰ.append_cases g.held n)))

pub placing_apart : (s : Setup) (v : View) (j : Job) → Pairwise Apart (holds v.rows) → Pairwise Apart (holds (v.rows ++ found (placing s v j)))
unfolding found placing
placing_apart s v j h = rw (holds_append v.rows (found (placing s v j))) (go (place s (ground_of v j) j) refl)
  where
    go : (p : Placing) → place s (ground_of v j) j ≡ p → Pairwise Apart (holds v.rows ++ holds (found p))
    go (booked rows) e =
        place_keeps
        s
        (ground_of v j)
        j
        (λ new. Pairwise Apart (holds v.rows ++ holds new))
        (λ new t m _ _ k. turn_apart s (ground_of v j) j new t m k)
        (rw (append-nil (holds v.rows)) h)
        e
    go (late t) e = rw (append-nil (holds v.rows)) h

abbrev pub AllApart : List Row → Type 0
AllApart rows = Pairwise Apart (holds rows)

pub apart_keep : (p : Row → Bool) (rows : List Row) → AllApart rows → AllApart (keep p rows)
apart_keep p rows h = map_pairwise Apart hold_of (keep p rows) (pairwise_keep _ p (pairwise_map Apart hold_of rows h))

-- by position, and back
pub apart_shares_none : (rows : List Row) → AllApart rows → NoSharedTick rows
apart_shares_none rows h i k = pairwise_at _ (pairwise_map Apart hold_of rows h) no_row i k

pub shares_none_apart : (rows : List Row) → NoSharedTick rows → AllApart rows
shares_none_apart rows h = map_pairwise Apart hold_of rows (at_pairwise _ rows no_row (λ i k below within. h i k below within))

-- Resources and the rows on them: when two resources are the same, when a row runs on a machine, and which ticks of a resource are taken.
use mathlib.Core.Path.{◌≡◌, refl, sym, ap, ◌∙◌}
use mathlib.Core.Logic.{◌↔◌}
use mathlib.Core.Bool.{◌&&◌}
use mathlib.Core.List.{List, [], ◌∷◌, ◌++◌, append_assoc}
use Prim.Native.Nat.{ℕ, ◌≤◌}
use native.Mathlib.Omega.{arith}
use lib.Dec.{ltb, leb, eqb}
use borrow.Author.Tests.{eqb-true, eq-eqb, ltb-true, lt-ltb, leb-true, le-leb}
use Rattle.rules.specs.declared.Row.{Row}
use Rattle.rules.specs.Sequences.{keep}
use Rattle.rules.specs.Words.{Resource, machine, link, same, resource, Hold, hold_of, holds}
use Rattle.rules.specs.Placing.{spans_on, least_free}
use Rattle.rules.specs.Refusals.{running}
use Rattle.rules.specs.Laws.{SameSays, RunningSays, Taken, TakenOn, IsLeastOn}
use Rattle.rules.proofs.Sequences.{clash, and_true, and_both, mem_map, map_mem, mem_keep, keep_mem}
use Rattle.rules.proofs.LeastTick.{least_is_least}

pub same_says : SameSays
unfolding same
same_says (machine m) (machine n) = (λ e. ap machine (eqb-true m n e), λ e. eq-eqb m n (cc))
same_says (machine m) (link c d) = (λ e. clash e refl, λ e. absurd (never e))
  where
    never : machine m ≡ link c d → ⊥
    never e = let z : ◌≡◌ {A = ℕ} 0 1 = cc in omega arith
same_says (link a b) (machine n) = (λ e. clash e refl, λ e. absurd (never e))
  where
    never : link a b ≡ machine n → ⊥
    never e = let z : ◌≡◌ {A = ℕ} 0 1 = cc in omega arith
same_says (link a b) (link c d) = (
  λ e.
      let both = and_true (eqb a c) (eqb b d) e in
      let p = eqb-true a c both.0 in
      let q = eqb-true b d both.1 in
      cc,
  λ e. and_both (eqb a c) (eqb b d) (eq-eqb a c (cc)) (eq-eqb b d (cc)),
)

pub running_says : RunningSays
unfolding running
running_says m tick row = (
  λ e.
      let on = and_true (same (resource row) (machine m)) (leb row.start tick && ltb tick row.finish) e in
      let within = and_true (leb row.start tick) (ltb tick row.finish) on.1 in
      record {
        on = (same_says (resource row) (machine m)).0 on.0;
        within = (leb-true row.start tick within.0, ltb-true tick row.finish within.1);
      },
  λ runs.
      and_both
      (same (resource row) (machine m))
      (leb row.start tick && ltb tick row.finish)
      ((same_says (resource row) (machine m)).1 runs.on)
      (and_both
      (leb row.start tick)
      (ltb tick row.finish)
      (le-leb row.start tick runs.within.0)
      (lt-ltb tick row.finish runs.within.1)),
)

-- What rows hold.

pub holds_append : (a b : List Row) → holds (a ++ b) ≡ holds a ++ holds b
holds_append [] b = refl
holds_append (row ∷ a) b = ap (λ l. hold_of row ∷ l) (holds_append a b)

pub one_more : (hs : List Hold) (rows : List Row) (row : Row) → (hs ++ holds rows) ++ (hold_of row ∷ []) ≡ hs ++ holds (rows ++ (row ∷ []))
one_more hs rows row = append_assoc hs (holds rows) (hold_of row ∷ []) ∙ ap (λ l. hs ++ l) (sym (holds_append rows (row ∷ [])))

-- the spans of a resource take the ticks that its holds have
pub spans_taken : (r : Resource) (hs : List Hold) (tick : ℕ) → Taken (spans_on r hs) tick ↔ TakenOn r hs tick
unfolding spans_on
spans_taken r hs tick = (
  λ taken.
      let made = map_mem (λ h. h.span) (keep (λ h. same h.on r) hs) taken.1 in
      let kept = mem_keep (λ h. same h.on r) hs made.1 in
      record {
        hold = made.0;
        listed = kept.0;
        on = (same_says made.0.on r).0 kept.1;
        within = rw made.2 at taken.2;
      },
  λ taken. (
    taken.hold.span,
    mem_map (λ h. h.span) (keep_mem (λ h. same h.on r) taken.listed ((same_says taken.hold.on r).1 taken.on)),
    taken.within,
  ),
)

-- the tick found among the spans of a resource is the least that is allowed, where those allowed are those not before `from`
pub least_on :
    (r : Resource) (hs : List Hold) (from len : ℕ) (Allowed : ℕ → Type 0) → ((x : ℕ) → (from ≤ x) ↔ Allowed x) →
    IsLeastOn r hs len Allowed (least_free from len (spans_on r hs))
least_on r hs from len Allowed allows =
    let least = least_is_least from len (spans_on r hs) in
    record {
      allowed = (allows (least_free from len (spans_on r hs))).0 least.not_before;
      is_free = λ x low high taken. least.is_free x low high ((spans_taken r hs x).1 taken);
      none_earlier =
          λ x ok below is_free.
          least.none_earlier x ((allows x).1 ok) below (λ y low high taken. is_free y low high ((spans_taken r hs y).0 taken));
    }

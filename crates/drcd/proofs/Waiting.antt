-- Which tasks wait: message by message, those marked are the receivers of messages whose senders are not placed.
use mathlib.Core.Logic.{◌≢◌}
use mathlib.Core.Path.{◌≡◌, refl, ◌∙◌}
use mathlib.Core.Bool.{Bool, true, false, not, ◌&&◌, and-true, and-false}
use mathlib.Core.List.{List, [], ◌∷◌, ◌++◌}
use Prim.Native.Nat.{ℕ, ◌+◌, ◌-◌, ◌<◌}
use native.Mathlib.Omega.{arith}
use lib.Dec.{eqb}
use lib.ListN.{get_or, set, replicate, length, length-set, get_or-replicate}
use lib.Seq.{get_or-set_same, get_or-set_other}
use borrow.Author.Tests.{eqb-true, eqb-false}
use Rattle.std.specs.Prelude.{Option, is_some}
use Rattle.rules.specs.declared.Row.{Row}
use Rattle.rules.specs.declared.Message.{Message}
use Rattle.rules.specs.Sequences.{all_of, keep}
use Rattle.rules.specs.Words.{most_tasks}
use Rattle.rules.specs.Placing.{placed}
use Rattle.std.proofs.lemmas.List.Folds.{list_all-append}
use Rattle.rules.proofs.Sequences.{by_test, keep_append}
use Rattle.drcd.specs.declared.order.Spot.{Spot}
use Rattle.drcd.specs.Given.{StandsFor, spot_of}
use Rattle.drcd.proofs.Listed.{EndsWithin}

-- of these messages, those into the task come from tasks that are placed
abbrev pub all_placed : List Row → ℕ → List Message → Bool
all_placed new t msgs = all_of (λ msg. placed new msg.sender) (keep (λ msg. eqb msg.receiver t) msgs)

placed_push :
    (new : List Row) (t : ℕ) (msgs : List Message) (msg : Message) →
    all_placed new t (msgs ++ (msg ∷ [])) ≡ all_placed new t msgs && all_placed new t (msg ∷ [])
placed_push new t msgs msg =
    rw
    keep_append
    (list_all-append (λ msg. placed new msg.sender) (keep (λ msg. eqb msg.receiver t) msgs) (keep (λ msg. eqb msg.receiver t) (msg ∷ [])))

-- which tasks wait by some messages
pub record Waited (spots : List (Option Spot)) (msgs : List Message) (waits : List Bool) : Type 0 where
  pub long : length waits ≡ most_tasks
  pub is :
      (new : List Row) → StandsFor new spots → (t : ℕ) → t < most_tasks →
      get_or waits t false ≡ not (all_placed new (t + 1) msgs)

pub waited_none : (spots : List (Option Spot)) → Waited spots [] (replicate most_tasks false)
waited_none spots = record { long = refl; is = λ new stands t few. get_or-replicate most_tasks t false false few }

module _ {spots : List (Option Spot)} {msgs : List Message} {waits : List Bool} (sofar : Waited spots msgs waits) {msg : Message} (ends : EndsWithin msg) where
  pub waited_placed : is_some (spot_of spots msg.sender) ≡ true → Waited spots (msgs ++ (msg ∷ [])) waits
  waited_placed some = record {
    long = sofar.long;
    is = λ new stands t few.
        let is : placed new msg.sender ≡ true = stands.placed_is msg.sender ends.sender ∙ some in
        let passes : all_placed new (t + 1) (msg ∷ []) ≡ true
        = by_test (eqb msg.receiver (t + 1)) (λ h. rw (h, is) refl) (λ h. rw h refl) in
        rw (placed_push, passes, and-true) (sofar.is new stands t few);
  }

  pub waited_unplaced : is_some (spot_of spots msg.sender) ≡ false → Waited spots (msgs ++ (msg ∷ [])) (set waits (msg.receiver - 1) true)
  waited_unplaced none = record {
    long = length-set waits (msg.receiver - 1) true ∙ sofar.long;
    is = λ new stands t few.
        let is_not : placed new msg.sender ≡ false = stands.placed_is msg.sender ends.sender ∙ none in
        by_test
        (eqb msg.receiver (t + 1))
        (λ h.
        let it = eqb-true msg.receiver (t + 1) h in
        let same : msg.receiver - 1 ≡ t = omega arith in
        let at : t < length waits = let l = sofar.long in omega arith in
        let waits_now : all_placed new (t + 1) (msg ∷ []) ≡ false = rw (h, is_not) refl in
        rw (placed_push, waits_now, and-false, same, get_or-set_same waits t true false at) refl)
        (λ h.
        let ne = eqb-false msg.receiver (t + 1) h in
        let other : t ≢ msg.receiver - 1 = λ e. let first = ends.receiver.first in ne (omega arith) in
        let passes : all_placed new (t + 1) (msg ∷ []) ≡ true = rw h refl in
        rw
        (placed_push, passes, and-true, get_or-set_other waits (msg.receiver - 1) t true false other)
        (sofar.is new stands t few));
  }

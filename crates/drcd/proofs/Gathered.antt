-- The messages into a task, gathered one after the other: the inputs so far are those of the messages into the task among the first ones.
use mathlib.Core.Logic.{◌≢◌}
use mathlib.Core.Path.{◌≡◌, refl, sym, ap, subst}
use mathlib.Core.List.Memᴰ
use mathlib.Core.List.{List, [], ◌∷◌, ◌++◌, append-nil, map, Memᴰ}
use Prim.Native.Nat.{ℕ, ◌≤◌, ◌<◌}
use native.Mathlib.Omega.{arith}
use lib.Dec.{eqb}
use lib.ListN.{length, length-append, length-take, take}
use borrow.Author.Tests.{eq-eqb, ne_eqb}
use Rattle.std.proofs.Common.{Option, Some, None}
use Rattle.std.specs.Prelude.{is_some}
use Rattle.std.proofs.lemmas.List.{map_push}
use Rattle.rules.specs.declared.Row.{Row}
use Rattle.rules.specs.declared.Message.{Message}
use Rattle.rules.specs.Sequences.{keep}
use Rattle.rules.specs.Words.{most_tasks}
use Rattle.rules.specs.Bounds.{Between}
use Rattle.rules.proofs.Sequences.{clash, keep_append}
use Rattle.drcd.specs.declared.inputs.Input.{Input}
use Rattle.drcd.specs.declared.order.Spot.{Spot}
use Rattle.drcd.specs.Given.{StandsFor, spot_of}
use Rattle.drcd.specs.Inputs.{input_of, SendersPlaced}

-- of some messages those into a task
abbrev pub into_among : (t : ℕ) → List Message → List Message
into_among t msgs = keep (λ msg. eqb msg.receiver t) msgs

module _ (t : ℕ) (msgs : List Message) (msg : Message) where
  into_same : msg.receiver ≢ t → into_among t (msgs ++ (msg ∷ [])) ≡ into_among t msgs
  into_same other = rw (keep_append, ne_eqb msg.receiver t other) (append-nil (into_among t msgs))

  into_more : msg.receiver ≡ t → into_among t (msgs ++ (msg ∷ [])) ≡ into_among t msgs ++ (msg ∷ [])
  into_more same = rw (keep_append, eq-eqb msg.receiver t same) refl

  earlier_among : msg.receiver ≡ t → {m : Message} → Memᴰ m (into_among t msgs) → Memᴰ m (into_among t (msgs ++ (msg ∷ [])))
  earlier_among same n = subst (Memᴰ _) (sym (into_more same)) (Memᴰ.append_left (msg ∷ []) n)

  last_among : msg.receiver ≡ t → Memᴰ msg (into_among t (msgs ++ (msg ∷ [])))
  last_among same = subst (Memᴰ msg) (sym (into_more same)) (Memᴰ.append_right (into_among t msgs) (Memᴰ.head refl))

-- of some messages those into the task are gathered
pub record Gathered (t : ℕ) (spots : List (Option Spot)) (msgs : List Message) (inputs : List Input) : Type 0 where
  pub few : length inputs ≤ length msgs
  pub is : (new : List Row) → StandsFor new spots → SendersPlaced spots (into_among t msgs) → inputs ≡ map (input_of new) (into_among t msgs)

pub gathered_none : (t : ℕ) (spots : List (Option Spot)) → Gathered t spots [] []
gathered_none t spots = record { few = omega arith; is = λ new stands placed. refl }

module _ {t : ℕ} {spots : List (Option Spot)} {msgs : List Message} {inputs : List Input} (sofar : Gathered t spots msgs inputs) (msg : Message) where
  pub gathered_other : msg.receiver ≢ t → Gathered t spots (msgs ++ (msg ∷ [])) inputs
  gathered_other other = record {
    few = let few = sofar.few in omega (arith, length-append msgs (msg ∷ []));
    is = λ new stands placed. rw (into_same t msgs msg other) (sofar.is new stands (rw (into_same t msgs msg other) at placed));
  }

  pub gathered_more :
      msg.receiver ≡ t → Between 1 most_tasks msg.sender → (spot : Spot) → spot_of spots msg.sender ≡ Some spot →
      Gathered
      t
      spots
      (msgs ++ (msg ∷ []))
      (inputs ++ (record { sender = msg.sender; source = spot.machine; done = spot.finish; volume = msg.volume } ∷ []))
  gathered_more same sender spot there = record {
    few = let few = sofar.few in omega (arith, length-append msgs (msg ∷ []), length-append {A = Input});
    is = λ new stands placed.
        rw (
          into_more t msgs msg same,
          map_push,
          ← sofar.is new stands (λ m n. placed m (earlier_among t msgs msg same n)),
          stands.machine_is msg.sender spot sender there,
          stands.finish_is msg.sender spot sender there,
        )
        refl;
  }

  -- one whose sender is not placed
  pub gathered_unplaced : msg.receiver ≡ t → spot_of spots msg.sender ≡ None → Gathered t spots (msgs ++ (msg ∷ [])) inputs
  gathered_unplaced same none = record {
    few = let few = sofar.few in omega (arith, length-append msgs (msg ∷ []));
    is = λ new stands placed. absurd (clash (placed msg (last_among t msgs msg same)) (ap is_some none));
  }

-- there is room for one more
pub gathered_few :
    {t : ℕ} {spots : List (Option Spot)} {inputs : List Input} (i : ℕ) (msgs : List Message) →
    Gathered t spots (take i msgs) inputs → i < length msgs → length inputs < length msgs
gathered_few i msgs sofar more = let few = sofar.few in omega (arith, length-take i msgs)

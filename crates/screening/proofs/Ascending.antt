-- Laws of refusal 4: messages that ascend.
use mathlib.Core.Path.{◌≡◌, refl}
use mathlib.Core.Bool.{Bool, true, false, not}
use mathlib.Core.List.{List, [], ◌∷◌, map}
use Prim.Native.Nat.{ℕ, zero, suc, ◌+◌, ◌<◌}
use native.Mathlib.Omega.{arith}
use native.Mathlib.Numerals.{add-one, unary_clauses}
use lib.ListN.{get_or, length}
use Rattle.std.specs.List.{AllAdjacentBelow, IsAllAdjacentAnswer, list_any}
use Rattle.rules.specs.declared.Job.{Job}
use Rattle.rules.specs.declared.Message.{Message}
use Rattle.rules.specs.Sequences.{precedes}
use Rattle.rules.specs.Words.{messages_of, no_message}
use Rattle.rules.specs.Refusals.{message_out_of_range, message_order, ascending, bad_messages}
use Rattle.rules.proofs.Sequences.{by_test}
use Rattle.screening.proofs.Listed.{any_listed}

-- Rows of figures that ascend, over any list of messages.

-- one message stands before another
abbrev pub before : Message → Message → Bool
before x y = precedes (message_order x) (message_order y)

-- messages each of which stands before the next ascend
all_ascend : (l : List Message) → AllAdjacentBelow (λ x y. true ≡ before x y) l (length l) → true ≡ ascending (map message_order l)
unfolding ascending
all_ascend [] h = refl
all_ascend (x ∷ []) h = refl
all_ascend (x ∷ (y ∷ l)) h =
    rw (← h 0 x (omega arith), ← all_ascend (y ∷ l) (λ k d more. rw add-one (simp unary_clauses at (h (suc k) d (omega arith))))) refl

-- messages of which one does not stand before the next do not ascend
one_not :
    (l : List Message) (k : ℕ) → k + 1 < length l → false ≡ before (get_or l k no_message) (get_or l (k + 1) no_message) →
    false ≡ ascending (map message_order l)
unfolding ascending
one_not [] k h e = absurd (omega arith)
one_not (x ∷ []) k h e = absurd (omega arith)
one_not (x ∷ (y ∷ l)) zero h e = rw (← e) refl
one_not (x ∷ (y ∷ l)) (suc k) h e =
    rw
    (← one_not (y ∷ l) k (omega arith) (rw add-one (simp unary_clauses at e)))
    (by_test (before x y) (λ yes. rw yes refl) (λ no. rw no refl))

pub ascending_is : (l : List Message) (r : Bool) → IsAllAdjacentAnswer (λ x y b. b ≡ before x y) l r → r ≡ ascending (map message_order l)
ascending_is l true h = all_ascend l h
ascending_is l false h = one_not l h.0 h.1 (h.2 no_message)

-- The messages of a job.

-- `a` is the answer of whether some message is out of range
module _ (j : Job) {a : Bool} (outside : a ≡ list_any (message_out_of_range j) (messages_of j)) where
  pub one_outside : a ≡ true → a ≡ bad_messages j
  unfolding bad_messages
  one_outside e = rw (any_listed (message_out_of_range j) (messages_of j), ← outside, e) refl

  pub none_outside : {b : Bool} → a ≡ false → b ≡ ascending (map message_order (messages_of j)) → not b ≡ bad_messages j
  unfolding bad_messages
  none_outside e h = rw (any_listed (message_out_of_range j) (messages_of j), ← outside, e, ← h) refl

-- The order of a job's messages and tasks: listed messages ascend strictly, no chain of them leads back, and so some unplaced task is always ready.
use mathlib.Core.Path.{◌≡◌, refl, sym, ap, subst}
use mathlib.Core.Logic.{◌≢◌, ⊎_elim}
use mathlib.Core.Bool.{Bool, true, false, not, ◌&&◌}
use mathlib.Core.List.{List, [], ◌∷◌, map, Memᴰ}
use Prim.Native.Nat.{ℕ, zero, suc, ◌+◌, ◌≤◌, ◌<◌}
use native.Mathlib.Omega.{arith}
use lib.Dec.{ltb, eqb}
use lib.ListN.{length, length-map, get_or}
use borrow.Author.Tests.{ltb-true, ltb-false, eqb-true, eq-eqb, not-false}
use Rattle.rules.specs.declared.Row.{Row}
use Rattle.rules.specs.declared.Message.{Message}
use Rattle.rules.specs.declared.Job.{Job}
use Rattle.rules.specs.declared.Setup.{Setup}
use Rattle.rules.specs.Sequences.{any_of, all_of, cons_if, keep, count_of, precedes}
use Rattle.rules.specs.Words.{largest_volume, most_tasks, most_messages, messages_of, task_numbers}
use Rattle.rules.specs.Placing.{placed, into, ready}
use Rattle.rules.specs.Refusals.{outside, miscounted, message_out_of_range, message_order, ascending, bad_messages}
use Rattle.rules.specs.Laws.{IsTask, Chain, one, on, Acyclic, EndsListed}
use Rattle.rules.specs.Demands.{InRange}
use Rattle.rules.proofs.Sequences.{by_test, clash, or_false, and_true, and_both, and_cases, any_mem, any_witness, any_none, mem_keep, count_some}
use Rattle.rules.proofs.Choice.{precedes_asym, not_precedes_trans, task_mem, mem_task}

-- Rows of figures.

pub precedes_trans : (a b c : List ℕ) → precedes a b ≡ true → precedes b c ≡ true → precedes a c ≡ true
precedes_trans a b c p q =
    by_test (precedes a c) (λ h. h) (λ h. clash p (not_precedes_trans a c b h (precedes_asym b c q)))

ascending_rest : (x : List ℕ) (l : List (List ℕ)) → ascending (x ∷ l) ≡ true → ascending l ≡ true
unfolding ascending
ascending_rest x [] e = refl
ascending_rest x (y ∷ l) e = (and_true (precedes x y) (ascending (y ∷ l)) e).1

first_precedes : (x : List ℕ) (l : List (List ℕ)) → ascending (x ∷ l) ≡ true → (k : ℕ) → k < length l → precedes x (get_or l k []) ≡ true
unfolding ascending
first_precedes x [] e k h = absurd (omega arith)
first_precedes x (y ∷ l) e zero h = (and_true (precedes x y) (ascending (y ∷ l)) e).0
first_precedes x (y ∷ l) e (suc k) h =
    let both = and_true (precedes x y) (ascending (y ∷ l)) e in
    precedes_trans x y (get_or l k []) both.0 (first_precedes y l both.1 k (omega arith))

-- in an ascending list each precedes all that come later, not only the next
pub ascending_pairs :
    (l : List (List ℕ)) → ascending l ≡ true → (i k : ℕ) → i < k → k < length l → precedes (get_or l i []) (get_or l k []) ≡ true
ascending_pairs [] e i k h b = absurd (omega arith)
ascending_pairs (x ∷ l) e i zero h b = absurd (omega arith)
ascending_pairs (x ∷ l) e zero (suc k) h b = first_precedes x l e k (omega arith)
ascending_pairs (x ∷ l) e (suc i) (suc k) h b = ascending_pairs l (ascending_rest x l e) i k (omega arith) (omega arith)

-- The messages of a job in range.

pub in_between : (low high n : ℕ) → outside low high n ≡ false → (low ≤ n) × (n ≤ high)
in_between low high n e =
    let both = or_false (ltb n low) (ltb high n) e in
    (ltb-false n low both.0, ltb-false high n both.1)

module _ (s : Setup) (j : Job) (range : InRange s j) where
  pub in_range_count : (1 ≤ j.taskcount) × (j.taskcount ≤ most_tasks)
  unfolding miscounted
  in_range_count =
      in_between 1 most_tasks j.taskcount (or_false (outside 1 most_tasks j.taskcount) (ltb most_messages j.messagecount) range.counts).0

  pub in_range_messages : j.messagecount ≤ most_messages
  unfolding miscounted
  in_range_messages =
      ltb-false most_messages j.messagecount (or_false (outside 1 most_tasks j.taskcount) (ltb most_messages j.messagecount) range.counts).1

  listed_order : (any_of (message_out_of_range j) (messages_of j) ≡ false) × (not (ascending (map message_order (messages_of j))) ≡ false)
  unfolding bad_messages
  listed_order = or_false (any_of (message_out_of_range j) (messages_of j)) (not (ascending (map message_order (messages_of j)))) range.messages

  message_in_range :
      (msg : Message) → Memᴰ msg (messages_of j) →
      IsTask j msg.sender × IsTask j msg.receiver × (msg.sender < msg.receiver) × (msg.volume ≤ largest_volume)
  unfolding message_out_of_range
  message_in_range msg m =
      let x = msg.sender in
      let y = msg.receiver in
      let a = or_false (outside 1 j.taskcount x) _ (any_none (message_out_of_range j) listed_order.0 m) in
      let b = or_false (outside 1 j.taskcount y) _ a.1 in
      let c = or_false (not (ltb x y)) (ltb largest_volume msg.volume) b.1 in
      let p = in_between 1 j.taskcount x a.0 in
      let q = in_between 1 j.taskcount y b.0 in (
        record { first = p.0; last = p.1 },
        record { first = q.0; last = q.1 },
        ltb-true x y (not-false (ltb x y) c.0),
        ltb-false largest_volume msg.volume c.1,
      )

  pub in_range_ends : EndsListed j
  in_range_ends msg m = let r = message_in_range msg m in (r.0, r.1)

  pub in_range_lower : (msg : Message) → Memᴰ msg (messages_of j) → msg.sender < msg.receiver
  in_range_lower msg m = (message_in_range msg m).2

  pub in_range_differing : (msg : Message) → Memᴰ msg (messages_of j) → msg.sender ≢ msg.receiver
  in_range_differing msg m e = let below = (message_in_range msg m).2 in omega arith

  pub in_range_volume : (msg : Message) → Memᴰ msg (messages_of j) → msg.volume ≤ largest_volume
  in_range_volume msg m = (message_in_range msg m).3

  -- of two listed messages, by position, the earlier one's receiver and sender precede the later one's
  pub distinct_listed :
      (d : Message) (i k : ℕ) → i < k → k < length (messages_of j) →
      precedes (message_order (get_or (messages_of j) i d)) (message_order (get_or (messages_of j) k d)) ≡ true
  distinct_listed d i k h b =
      rw
      (← figures_at (messages_of j) i (omega arith), ← figures_at (messages_of j) k b)
      (ascending_pairs (map message_order (messages_of j)) (not-false _ listed_order.1) i k h (rw length-map b))
    where
      figures_at : (l : List Message) (n : ℕ) → n < length l → get_or (map message_order l) n [] ≡ message_order (get_or l n d)
      figures_at [] n h = absurd (omega arith)
      figures_at (x ∷ l) zero h = refl
      figures_at (x ∷ l) (suc n) h = figures_at l n (omega arith)

-- Chains of messages.

pub chain_append : {j : Job} {a b c : ℕ} → Chain j a b → Chain j b c → Chain j a c
chain_append first (one m) = on first m
chain_append first (on rest m) = on (chain_append first rest) m

pub lower_acyclic : (j : Job) → ((msg : Message) → Memᴰ msg (messages_of j) → msg.sender < msg.receiver) → Acyclic j
lower_acyclic j lower t c = let h = ascends c in omega arith
  where
    ascends : {a b : ℕ} → Chain j a b → a < b
    ascends (one {msg = msg} m) = lower msg m
    ascends (on {msg = msg} c m) = let h = ascends c in let k = lower msg m in omega arith

-- Tests over lists.

pub all_witness : {A : Type 0} (p : A → Bool) (l : List A) → all_of p l ≡ false → (x : A) × Memᴰ x l × (p x ≡ false)
all_witness p [] e = clash refl e
all_witness {A} p (x ∷ xs) e =
    ⊎_elim
    (λ h. (x, Memᴰ.head refl, h))
    (λ h. let w : (y : A) × Memᴰ y xs × (p y ≡ false) = all_witness p xs h in (w.0, Memᴰ.tail w.1, w.2))
    (and_cases (p x) (all_of p xs) e)

module _ {A : Type 0} (p q : A → Bool) where
  -- of those that pass one test, some pass another and the rest fail it
  pub count_split : (l : List A) → count_of p l ≡ count_of (λ x. p x && q x) l + count_of (λ x. p x && not (q x)) l
  count_split [] = omega arith
  count_split (x ∷ xs) = go (p x) (q x) (count_split xs)
    where
      yes_of : List A
      yes_of = keep (λ x. p x && q x) xs

      no_of : List A
      no_of = keep (λ x. p x && not (q x)) xs

      go :
          (a b : Bool) → length (keep p xs) ≡ length yes_of + length no_of →
          length (cons_if a x (keep p xs)) ≡ length (cons_if (a && b) x yes_of) + length (cons_if (a && not b) x no_of)
      go true true h = omega arith
      go true false h = omega arith
      go false b h = h

  pub count_fewer : {x : A} {l : List A} → Memᴰ x l → p x ≡ true → q x ≡ true → count_of (λ y. p y && not (q y)) l < count_of p l
  count_fewer {x} {l} m h k =
      let split = count_split l in
      let some = count_some (λ y. p y && q y) l (any_mem (λ y. p y && q y) m (and_both (p x) (q x) h k)) in
      omega arith

-- Some task is ready.

module _ (j : Job) (new : List Row) where
  -- a task not placed
  pub record Waits (t : ℕ) : Type 0 where
    pub is_task : IsTask j t
    pub unplaced : placed new t ≡ false

  -- an unplaced task that is not ready waits for a sender
  sender_waits : EndsListed j → (u : ℕ) → Waits u → ready j new u ≡ false → (w : ℕ) × Waits w × Chain j w u
  unfolding ready
  sender_waits ends u wait e =
      ⊎_elim
      (clash (ap not wait.unplaced))
      (λ h. from (all_witness (λ msg. placed new msg.sender) (into j u) h))
      (and_cases (not (placed new u)) (all_of (λ msg. placed new msg.sender) (into j u)) e)
    where
      from : (msg : Message) × Memᴰ msg (into j u) × (placed new msg.sender ≡ false) → (w : ℕ) × Waits w × Chain j w u
      from w =
          let kept = mem_keep (λ msg. eqb msg.receiver u) (messages_of j) w.1 in (
            w.0.sender,
            record { is_task = (ends w.0 kept.0).0; unplaced = w.2 },
            subst (Chain j w.0.sender) (eqb-true w.0.receiver u kept.1) (one kept.0),
          )

module _ (j : Job) (acyclic : Acyclic j) (ends : EndsListed j) (new : List Row) where
  -- Walking back over unplaced senders meets a task again. `unseen` tells the tasks not met yet; whatever leads to u leads on to each task met.
  no_walk :
      ((u : ℕ) → IsTask j u → ready j new u ≡ false) → (turns : ℕ) (unseen : ℕ → Bool) → count_of unseen (task_numbers j) < turns →
      (u : ℕ) → Waits j new u → ((v : ℕ) → unseen v ≡ false → (x : ℕ) → Chain j x u → Chain j x v) → ⊥
  no_walk idle zero unseen few u wait met = omega arith
  no_walk idle (suc turns) unseen few u wait met =
      let w = sender_waits j new ends u wait (idle u wait.is_task) in
      by_test
      (unseen w.0)
      (λ h.
      let fewer = count_fewer unseen (λ v. eqb v w.0) (task_mem j w.0 w.1.is_task) h (eq-eqb w.0 w.0 refl) in
      no_walk idle turns (λ v. unseen v && not (eqb v w.0)) (omega arith) w.0 w.1 (still_met w.0 w.2))
      (λ h. acyclic w.0 (met w.0 h w.0 w.2))
    where
      still_met : (w : ℕ) → Chain j w u → (v : ℕ) → unseen v && not (eqb v w) ≡ false → (x : ℕ) → Chain j x w → Chain j x v
      still_met w back v seen x c =
          ⊎_elim
          (λ h. met v h x (chain_append c back))
          (λ h. subst (Chain j x) (sym (eqb-true v w (not-false _ h))) c)
          (and_cases (unseen v) (not (eqb v w)) seen)

  pub always_ready : (t : ℕ) → IsTask j t → placed new t ≡ false → (u : ℕ) × IsTask j u × (ready j new u ≡ true)
  always_ready t is e =
      by_test
      (any_of (ready j new) (task_numbers j))
      (λ h. let w = any_witness (ready j new) (task_numbers j) h in (w.0, mem_task j w.1, w.2))
      (λ h.
      let idle : (u : ℕ) → IsTask j u → ready j new u ≡ false = λ u it. any_none (ready j new) h (task_mem j u it) in
      let wait : Waits j new t = record { is_task = is; unplaced = e } in
      let all : ℕ → Bool = λ v. true in
      absurd (no_walk idle (suc (count_of all (task_numbers j))) all (omega arith) t wait (λ v seen x c. clash refl seen)))

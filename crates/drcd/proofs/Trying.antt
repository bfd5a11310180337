-- The messages of a trial, one after the other: the rows found so far are those of the rules.
use mathlib.Core.Path.{◌≡◌, refl, sym, ap, ◌∙◌, subst}
use mathlib.Core.Bool.{true, false}
use mathlib.Core.List.Memᴰ
use mathlib.Core.List.{List, [], ◌∷◌, ◌++◌, append-nil, append_assoc, Memᴰ}
use Prim.Native.Nat.{ℕ, ◌+◌, max}
use native.Mathlib.Omega.{arith}
use Rattle.rules.specs.declared.Row.{Row}
use Rattle.rules.specs.declared.Message.{Message}
use Rattle.rules.specs.declared.Job.{Job}
use Rattle.rules.specs.declared.Setup.{Setup}
use Rattle.rules.specs.Sequences.{any_of}
use Rattle.rules.specs.Words.{link, Hold, holds}
use Rattle.rules.specs.Placing.{least_free, spans_on, transfer, message_booking, books_task, books_message, no_row, task_row, machine_for, placed, crosses}
use Rattle.rules.specs.Placing.{arrival, message_trial, message_trials, all_arrived, costs}
use Rattle.rules.proofs.Sequences.{any_append, or_right, first_append, first_skip, sum_append}
use Rattle.rules.proofs.Pairs.{Pairwise, pairwise_front, pairwise_across}
use Rattle.rules.proofs.Inputs.{Differ, crossing, Booked, message_trials_book, booked_none, booked_found, pair_books}
use Rattle.rules.proofs.Due.{arrival_stays}

module _ (s : Setup) (held : List Hold) (j : Job) (new : List Row) (m : ℕ) where
  trials_append : (tried : List Row) (a b : List Message) →
      message_trials s held j new m tried (a ++ b) ≡ message_trials s held j new m (message_trials s held j new m tried a) b
  unfolding message_trials
  trials_append tried [] b = refl
  trials_append tried (msg ∷ a) b = trials_append (tried ++ message_trial s held j new m tried msg) a b

-- the last arrival, of one message more
arrived_append : (rows : List Row) (b from : ℕ) (msgs : List Message) (msg : Message) →
    all_arrived rows b from (msgs ++ (msg ∷ [])) ≡ max (all_arrived rows b from msgs) (arrival rows msg b)
unfolding all_arrived
arrived_append rows b from [] msg = omega arith
arrived_append rows b from (x ∷ msgs) msg = let below = arrived_append rows b from msgs msg in omega arith

-- arrivals that stay, all together
arrived_stays :
    (rows rows' : List Row) (b from : ℕ) (msgs : List Message) → ((msg : Message) → Memᴰ msg msgs → arrival rows' msg b ≡ arrival rows msg b) →
    all_arrived rows' b from msgs ≡ all_arrived rows b from msgs
unfolding all_arrived
arrived_stays rows rows' b from [] h = refl
arrived_stays rows rows' b from (x ∷ msgs) h =
    let here = h x (Memᴰ.head refl) in
    let below = arrived_stays rows rows' b from msgs (λ msg n. h msg (Memᴰ.tail n)) in
    omega arith

-- One message more.

-- the rows tried of the first messages, as the code has them
pub record Tried (s : Setup) (j : Job) (m release : ℕ) (held : List Hold) (new : List Row) (msgs : List Message) (tried : List Row) (arrived cost : ℕ)
    : Type 0 where
  pub rows_are : tried ≡ message_trials s held j new m [] msgs
  pub arrived_is : arrived ≡ all_arrived (new ++ tried) m release msgs
  pub cost_is : cost ≡ costs tried

module _
    (s : Setup)
    (j : Job)
    (m release : ℕ)
    (held : List Hold)
    (new : List Row)
    (msgs : List Message)
    (msg : Message)
    (senders : (x : Message) → Memᴰ x (msgs ++ (msg ∷ [])) → placed new x.sender ≡ true)
    (ahead : (x : Message) → Memᴰ x (msgs ++ (msg ∷ [])) → any_of (books_message x) new ≡ false)
    (differ : Pairwise Differ (msgs ++ (msg ∷ [])))
    (tried : List Row)
    (arrived cost : ℕ)
    (sofar : Tried s j m release held new msgs tried arrived cost)
  where
    abbrev a : ℕ
    a = machine_for new msg.sender

    abbrev done : ℕ
    done = (task_row new msg.sender).finish

    in_list : Memᴰ msg (msgs ++ (msg ∷ []))
    in_list = Memᴰ.append_right msgs (Memᴰ.head refl)

    is_booked : Booked s j new m tried msgs
    is_booked =
        let r = message_trials_book s j new m held [] msgs in
        subst (λ rows. Booked s j new m rows msgs) (sym (sofar.rows_are ∙ r.1)) r.2

    -- a sender's row stays what it is
    sender_there : (x : Message) → Memᴰ x (msgs ++ (msg ∷ [])) → (rows : List Row) → task_row (new ++ rows) x.sender ≡ task_row new x.sender
    sender_there x n rows = first_append no_row (books_task x.sender) new rows (senders x n)

    -- it arrives at its sender's finish
    pub tried_without : crosses msg a m ≡ false → Tried s j m release held new (msgs ++ (msg ∷ [])) tried (max arrived done) cost
    unfolding message_trials message_trial arrival
    tried_without c = record {
      rows_are =
          rw
          (trials_append s held j new m [] msgs (msg ∷ []), c, append-nil (message_trials s held j new m [] msgs))
          sofar.rows_are;
      arrived_is =
          let at : arrival (new ++ tried) msg m ≡ done = rw (sender_there msg in_list tried, c) refl in
          rw (arrived_append (new ++ tried) m release msgs msg, at) (ap (λ x. max x done) sofar.arrived_is);
      cost_is = sofar.cost_is;
    }

    -- the arrivals of the others stay
    others : (row : Row) → all_arrived (new ++ (tried ++ (row ∷ []))) m release msgs ≡ all_arrived (new ++ tried) m release msgs
    others row =
        arrived_stays
        (new ++ tried)
        (new ++ (tried ++ (row ∷ [])))
        m
        release
        msgs
        (λ x n.
        let listed = Memᴰ.append_left (msg ∷ []) n in
        let sender_in : placed (new ++ tried) x.sender ≡ true = rw (any_append (books_task x.sender) new tried, senders x listed) refl in
        let row_in : crosses x (machine_for (new ++ tried) x.sender) m ≡ true → any_of (books_message x) (new ++ tried) ≡ true
        = λ h.
        let c : crossing s j new m x ≡ true = rw (sender_there x listed tried) at h in
        let f = booked_found s j new m is_booked (pairwise_front Differ msgs (msg ∷ []) differ) x n c in
        any_append (books_message x) new tried ∙ or_right (any_of (books_message x) new) (any_of (books_message x) tried) f.some_row in
        ap (λ rows. arrival rows x m) (sym (append_assoc new tried (row ∷ []))) ∙ arrival_stays (new ++ tried) (row ∷ []) x m sender_in row_in)

    -- and it arrives at the finish of its own
    arrives_with :
        crosses msg a m ≡ true → (row : Row) →
        row ≡ message_booking s j msg a m (least_free done (transfer s msg a m) (spans_on (link a m) (held ++ holds (new ++ tried)))) →
        arrival (new ++ (tried ++ (row ∷ []))) msg m ≡ row.finish
    unfolding arrival
    arrives_with c row is =
        let at = least_free done (transfer s msg a m) (spans_on (link a m) (held ++ holds (new ++ tried))) in
        let own : books_message msg row ≡ true
        = subst (λ r. books_message msg r ≡ true) (sym is) (pair_books s j msg msg a m at (record { sender = refl; receiver = refl })) in
        let none_tried : any_of (books_message msg) tried ≡ false
        = booked_none s j new m is_booked msg (λ x n _. pairwise_across Differ msgs (msg ∷ []) differ x msg n (Memᴰ.head refl)) in
        rw (
          sender_there msg in_list (tried ++ (row ∷ [])),
          c,
          first_skip no_row (books_message msg) new (tried ++ (row ∷ [])) (ahead msg in_list),
          first_skip no_row (books_message msg) tried (row ∷ []) none_tried,
          own,
        )
        refl

    -- it takes a row, and arrives at its finish
    pub tried_with :
        crosses msg a m ≡ true → (row : Row) →
        row ≡ message_booking s j msg a m (least_free done (transfer s msg a m) (spans_on (link a m) (held ++ holds (new ++ tried)))) →
        Tried s j m release held new (msgs ++ (msg ∷ [])) (tried ++ (row ∷ [])) (max arrived row.finish) (cost + row.cost)
    unfolding message_trials message_trial
    tried_with c row is = record {
      rows_are =
          let was = sofar.rows_are in
          rw (trials_append s held j new m [] msgs (msg ∷ []), c) (rw (← was) (ap (λ x. tried ++ (x ∷ [])) is));
      arrived_is =
          rw
          (arrived_append (new ++ (tried ++ (row ∷ []))) m release msgs msg, arrives_with c row is, others row)
          (ap (λ x. max x row.finish) sofar.arrived_is);
      cost_is = let both = sum_append (λ r. r.cost) tried (row ∷ []) in let was = sofar.cost_is in omega arith;
    }

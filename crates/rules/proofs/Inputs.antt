-- A trial: the rows that its messages take are the bookings of those that cross to the machine, in their order, and its own row waits for all of them.
use mathlib.Core.Path.{◌≡◌, refl, sym, ap, ◌∙◌, subst}
use mathlib.Core.Logic.{◌↔◌, ⊎_elim}
use mathlib.Core.Bool.{Bool, true, false}
use mathlib.Core.List.{List, [], ◌∷◌, ◌++◌, append-nil, append_assoc}
use mathlib.Core.List.Memᴰ
use mathlib.Core.List.{Memᴰ}
use Prim.Native.Nat.{ℕ, suc, ◌≤◌}
use native.Mathlib.Omega.{arith}
use lib.Dec.{eqb}
use borrow.Author.Tests.{eqb-true, eq-eqb}
use Rattle.rules.specs.declared.Row.{Row}
use Rattle.rules.specs.declared.Message.{Message}
use Rattle.rules.specs.declared.Job.{Job}
use Rattle.rules.specs.declared.Setup.{Setup}
use Rattle.rules.specs.Sequences.{any_of, count_of}
use Rattle.rules.specs.Words.{Span, machine, link, Hold, holds, messages_of, run_time}
use Rattle.rules.specs.Placing.{least_free, spans_on, task_booking, message_booking, transfer, is_task, is_message, books_task, books_message}
use Rattle.rules.specs.Placing.{task_row, message_row, machine_for, crosses, arrival, into, release, message_trial, message_trials, all_arrived, Trial}
use Rattle.rules.specs.Placing.{try}
use Rattle.rules.specs.Laws.{NotBefore, TaskStarts, MessageStarts}
use Rattle.rules.specs.Placing.{Ground}
use Rattle.rules.proofs.Sequences.{by_test, clash, and_true, and_both, count_none, mem_keep, keep_mem}
use Rattle.rules.proofs.Pairs.{Pairwise, end, more}
use Rattle.rules.proofs.LeastTick.{least_is_least}
use Rattle.rules.proofs.Resources.{least_on}

-- the same sender and the same receiver
pub record SamePair (x y : Message) : Type 0 where
  pub sender : x.sender ≡ y.sender
  pub receiver : x.receiver ≡ y.receiver

abbrev pub Differ : Message → Message → Type 0
Differ x y = SamePair x y → ⊥

module _ (s : Setup) (j : Job) (x y : Message) (a b at : ℕ) where
  -- a booking is a message's row exactly if it is of that pair
  pub books_pair : books_message y (message_booking s j x a b at) ≡ true → SamePair x y
  unfolding is_message
  books_pair e =
      let both = and_true (eqb x.sender y.sender) (eqb x.receiver y.receiver) e in
      record { sender = eqb-true x.sender y.sender both.0; receiver = eqb-true x.receiver y.receiver both.1 }

  pub pair_books : SamePair x y → books_message y (message_booking s j x a b at) ≡ true
  unfolding is_message
  pair_books same =
      and_both
      (eqb x.sender y.sender)
      (eqb x.receiver y.receiver)
      (eq-eqb x.sender y.sender same.sender)
      (eq-eqb x.receiver y.receiver same.receiver)

  pub differ_books : Differ x y → books_message y (message_booking s j x a b at) ≡ false
  differ_books d = by_test (books_message y (message_booking s j x a b at)) (λ h. absurd (d (books_pair h))) (λ h. h)

module _ (s : Setup) (j : Job) (new : List Row) (m : ℕ) where
  abbrev pub crossing : Message → Bool
  crossing msg = crosses msg (machine_for new msg.sender) m

  abbrev pub booking : Message → ℕ → Row
  booking msg at = message_booking s j msg (machine_for new msg.sender) m at

  -- the rows are the bookings of the messages that cross, in their order, none before its sender's finish
  pub data Booked : List Row → List Message → Type 0 where
    none : Booked [] []
    skip : {rows : List Row} {msg : Message} {msgs : List Message} → crossing msg ≡ false → Booked rows msgs → Booked rows (msg ∷ msgs)
    book :
        {rows : List Row} {msg : Message} {msgs : List Message} (at : ℕ) → crossing msg ≡ true → (task_row new msg.sender).finish ≤ at →
        Booked rows msgs → Booked (booking msg at ∷ rows) (msg ∷ msgs)

  pub message_trials_book :
      (held : List Hold) (tried : List Row) (msgs : List Message) →
      (rows : List Row) × (message_trials s held j new m tried msgs ≡ tried ++ rows) × Booked rows msgs
  unfolding message_trials message_trial
  message_trials_book held tried [] = ([], sym (append-nil tried), none)
  message_trials_book held tried (msg ∷ msgs) =
      let a = machine_for new msg.sender in
      let spans : List Span = spans_on (link a m) (held ++ holds (new ++ tried)) in
      let at : ℕ = least_free (task_row new msg.sender).finish (transfer s msg a m) spans in
      let row : Row = booking msg at in
      by_test
      (crossing msg)
      (λ h.
      let r = message_trials_book held (tried ++ (row ∷ [])) msgs in (
        row ∷ r.0,
        rw h (r.1 ∙ append_assoc tried (row ∷ []) r.0),
        book at h (least_is_least (task_row new msg.sender).finish (transfer s msg a m) spans).not_before r.2,
      ))
      (λ h. let r = message_trials_book held tried msgs in (r.0, rw (h, append-nil tried) r.1, skip h r.2))

  pub booked_no_task : {rows : List Row} {msgs : List Message} → Booked rows msgs → (t : ℕ) → any_of (books_task t) rows ≡ false
  unfolding is_task
  booked_no_task none t = refl
  booked_no_task (skip h rest) t = booked_no_task rest t
  booked_no_task (book at h k rest) t = booked_no_task rest t

  -- each of the rows books a message that crosses
  pub booked_only :
      {rows : List Row} {msgs : List Message} → Booked rows msgs → (row : Row) → Memᴰ row rows →
      (msg : Message) × Memᴰ msg msgs × (crossing msg ≡ true) × (at : ℕ) × (row ≡ booking msg at)
  booked_only none row n = absurd (Memᴰ.not-nil n)
  booked_only (skip h rest) row n =
      let r = booked_only rest row n in (r.0, Memᴰ.tail r.1, r.2, r.3, r.4)
  booked_only (book {rows = rows} {msg = msg} {msgs = msgs} at h k rest) row n =
      ⊎_elim
      (λ e. (msg, Memᴰ.head refl, h, at, e))
      (λ d. let r = booked_only rest row d in (r.0, Memᴰ.tail r.1, r.2, r.3, r.4))
      (Memᴰ.cases_cons n)

  -- no row is a message's where every message that crosses has another sender or receiver
  pub booked_none :
      {rows : List Row} {msgs : List Message} → Booked rows msgs → (y : Message) →
      ((x : Message) → Memᴰ x msgs → crossing x ≡ true → Differ x y) → any_of (books_message y) rows ≡ false
  booked_none none y d = refl
  booked_none (skip h rest) y d = booked_none rest y (λ x n. d x (Memᴰ.tail n))
  booked_none (book {msg = msg} at h k rest) y d =
      rw
      (differ_books s j msg y (machine_for new msg.sender) m at (d msg (Memᴰ.head refl) h))
      (booked_none rest y (λ x n. d x (Memᴰ.tail n)))

  -- a message that crosses has exactly one of the rows
  pub record Found (rows : List Row) (y : Message) : Type 0 where
    pub at : ℕ
    pub after : (task_row new y.sender).finish ≤ at
    pub found : message_row rows y ≡ booking y at
    pub some_row : any_of (books_message y) rows ≡ true
    pub once : count_of (books_message y) rows ≡ 1

  pub booked_found :
      {rows : List Row} {msgs : List Message} → Booked rows msgs → Pairwise Differ msgs → (y : Message) → Memᴰ y msgs → crossing y ≡ true →
      Found rows y
  booked_found none p y n c = absurd (Memᴰ.not-nil n)
  booked_found (skip {msg = msg} h rest) (more f p) y n c =
      ⊎_elim (λ e. clash (subst (λ x. crossing x ≡ true) e c) h) (λ d. booked_found rest p y d c) (Memᴰ.cases_cons n)
  booked_found (book {rows = rows} {msg = msg} {msgs = msgs} at h k rest) (more f p) y n c =
      ⊎_elim first (λ d. later d (booked_found rest p y d c)) (Memᴰ.cases_cons n)
    where
      alike : SamePair msg msg
      alike = record { sender = refl; receiver = refl }

      is_first : books_message msg (booking msg at) ≡ true
      is_first = pair_books s j msg msg (machine_for new msg.sender) m at alike

      absent : any_of (books_message msg) rows ≡ false
      absent = booked_none rest msg (λ x q _ same. f x q (record { sender = sym same.sender; receiver = sym same.receiver }))

      its_own : Found (booking msg at ∷ rows) msg
      its_own = record {
        at = at;
        after = k;
        found = rw is_first refl;
        some_row = rw is_first refl;
        once = rw is_first (ap suc (count_none (books_message msg) rows absent));
      }

      first : y ≡ msg → Found (booking msg at ∷ rows) y
      first e = subst (Found (booking msg at ∷ rows)) (sym e) its_own

      later : Memᴰ y msgs → Found rows y → Found (booking msg at ∷ rows) y
      later d r =
          let other : books_message y (booking msg at) ≡ false = differ_books s j msg y (machine_for new msg.sender) m at (f y d) in
          record { at = r.at; after = r.after; found = rw other r.found; some_row = rw other r.some_row; once = rw other r.once }

-- of two messages of one list with the same sender and receiver there is only one
pub same_pair_same :
    {msgs : List Message} → Pairwise Differ msgs → (x y : Message) → Memᴰ x msgs → Memᴰ y msgs → SamePair x y → x ≡ y
same_pair_same end x y n q same = elim n [ ]
same_pair_same (more {x = z} {xs = zs} f p) x y n q same =
    ⊎_elim
    (λ e. ⊎_elim (λ e'. e ∙ sym e') (λ d. absurd (f y d (subst (λ v. SamePair v y) e same))) (Memᴰ.cases_cons q))
    (λ d.
    ⊎_elim
    (λ e. absurd (f x d (subst (λ v. SamePair v x) e (record { sender = sym same.sender; receiver = sym same.receiver }))))
    (λ d'. same_pair_same p x y d d' same)
    (Memᴰ.cases_cons q))
    (Memᴰ.cases_cons n)

-- The arrivals.

pub arrives_by : (rows : List Row) (b from : ℕ) {msg : Message} {msgs : List Message} → Memᴰ msg msgs → arrival rows msg b ≤ all_arrived rows b from msgs
unfolding all_arrived
arrives_by rows b from {msg = msg} (Memᴰ.head {x = y} {xs = ys} e) =
    let q : arrival rows msg b ≡ arrival rows y b = ap (λ v. arrival rows v b) e in omega arith
arrives_by rows b from (Memᴰ.tail {x = y} {xs = ys} n) = let below = arrives_by rows b from n in omega arith

pub from_arrived : (rows : List Row) (b from : ℕ) (msgs : List Message) → from ≤ all_arrived rows b from msgs
unfolding all_arrived
from_arrived rows b from [] = omega arith
from_arrived rows b from (msg ∷ msgs) = let below = from_arrived rows b from msgs in omega arith

pub arrived_at_most :
    (rows : List Row) (b from : ℕ) (msgs : List Message) (x : ℕ) → from ≤ x → ((msg : Message) → Memᴰ msg msgs → arrival rows msg b ≤ x) →
    all_arrived rows b from msgs ≤ x
unfolding all_arrived
arrived_at_most rows b from [] x h by = h
arrived_at_most rows b from (msg ∷ msgs) x h by =
    let first = by msg (Memᴰ.head refl) in
    let below = arrived_at_most rows b from msgs x h (λ y n. by y (Memᴰ.tail n)) in
    omega arith

-- the shape of a trial of machine m for task t
pub record Shape (s : Setup) (g : Ground) (j : Job) (new : List Row) (t m : ℕ) (trial : Trial) : Type 0 where
  pub inputs : Booked s j new m trial.inputs (into j t)
  pub own : trial.own ≡ task_booking s j t m trial.own.start
  pub waits : all_arrived (new ++ trial.inputs) m (release g j new t) (into j t) ≤ trial.own.start

pub try_shape : (s : Setup) (g : Ground) (j : Job) (new : List Row) (t m : ℕ) → Shape s g j new t m (try s g j new t m)
unfolding try
try_shape s g j new t m =
    let r = message_trials_book s j new m g.held [] (into j t) in
    let ins : List Row = message_trials s g.held j new m [] (into j t) in
    let from : ℕ = all_arrived (new ++ ins) m (release g j new t) (into j t) in
    record {
      inputs = subst (λ rows. Booked s j new m rows (into j t)) (sym r.1) r.2;
      own = refl;
      waits = (least_is_least from (run_time j t m) (spans_on (machine m) (g.held ++ holds new))).not_before;
    }

-- a tick is not before all arrivals and the floor exactly if it is not before each of them
all_arrived_says :
    (g : Ground) (j : Job) (new rows : List Row) (t m : ℕ) (x : ℕ) →
    (all_arrived rows m (release g j new t) (into j t) ≤ x) ↔ NotBefore g j new rows t m x
all_arrived_says g j new rows t m x = (
  λ h. record {
    floor = let by = from_arrived rows m (release g j new t) (into j t) in omega arith;
    arrivals =
        λ msg n e.
        let its = keep_mem (λ msg. eqb msg.receiver t) n (eq-eqb msg.receiver t e) in
        let by = arrives_by rows m (release g j new t) its in
        omega arith;
  },
  λ h.
      arrived_at_most rows m (release g j new t) (into j t) x h.floor λ msg n.
      let r = mem_keep (λ msg. eqb msg.receiver t) (messages_of j) n in
      h.arrivals msg r.0 (eqb-true msg.receiver t r.1),
)

-- the law of a task's start
pub task_starts : TaskStarts
unfolding try
task_starts s g j new t m =
    let rows : List Row = new ++ message_trials s g.held j new m [] (into j t) in
    least_on
    (machine m)
    (g.held ++ holds new)
    (all_arrived rows m (release g j new t) (into j t))
    (run_time j t m)
    (NotBefore g j new rows t m)
    (all_arrived_says g j new rows t m)

-- the law of a message's start
pub message_starts : MessageStarts
unfolding message_trial
message_starts s held j new m tried msg h =
    let a = machine_for new msg.sender in
    let from : ℕ = (task_row new msg.sender).finish in
    let hs : List Hold = held ++ holds (new ++ tried) in (
      least_free from (transfer s msg a m) (spans_on (link a m) hs),
      rw h refl,
      least_on (link a m) hs from (transfer s msg a m) (λ tick. from ≤ tick) (λ x. (λ k. k, λ k. k)),
    )

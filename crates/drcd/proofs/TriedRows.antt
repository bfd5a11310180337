-- The loop over the messages of a trial: what holds after i of them, and what each kind of turn keeps.
use mathlib.Core.Path.{◌≡◌, refl, sym, ap, ◌∙◌, subst}
use mathlib.Core.Logic.{◌⊎◌, inl, inr, ⊎_elim}
use mathlib.Core.Bool.{Bool, true, false, not, ◌&&◌}
use mathlib.Core.List.Memᴰ
use mathlib.Core.List.{List, [], ◌∷◌, ◌++◌, append-nil, append_assoc, Memᴰ}
use Prim.Native.Nat.{ℕ, zero, suc, ◌+◌, ◌*◌, ◌≤◌, ◌<◌, max}
use native.Mathlib.Omega.{arith}
use native.Mathlib.Numerals.{add-one}
use lib.Dec.{eqb}
use lib.ListN.{length, get_or, take, drop, set, length-set, length-map, take-append-drop}
use Rattle.std.proofs.Common.{Option, Some, None}
use Rattle.std.proofs.lemmas.List.{get_or-map}
use lib.Seq.{take-suc, get_or-set_same, get_or-set_other}
use borrow.Author.Tests.{eq-eqb, ne_eqb, lt-ltb, le-ltb}
use Rattle.rules.specs.declared.Row.{Row}
use Rattle.rules.specs.declared.Message.{Message}
use Rattle.rules.specs.declared.Job.{Job}
use Rattle.rules.specs.declared.Setup.{Setup}
use Rattle.rules.specs.Words.{link, held_by, Hold, holds, messages_of, horizon, most_messages, largest_volume, no_message}
use Rattle.rules.specs.Placing.{Ground, least_free, spans_on, transfer, message_booking, task_row, machine_for, crosses, into, release}
use Rattle.rules.specs.Placing.{message_trials, all_arrived}
use Rattle.rules.specs.Bounds.{Between, largest_cost}
use Rattle.rules.proofs.Sequences.{length_keep, mem_keep, get_or_mem}
use Rattle.rules.proofs.Pairs.{Pairwise, pairwise_keep, pairwise_front}
use Rattle.rules.proofs.Inputs.{Differ}
use Rattle.rules.proofs.Order.{in_range_volume}
use Rattle.rules.proofs.Differ.{in_range_differ}
use Rattle.rules.proofs.Resources.{holds_append}
use Rattle.timeline.specs.Spans.{Spans}
use Rattle.timeline.specs.Lines.{DrawnOn, none_on}
use Rattle.drcd.specs.declared.TaskTurn.{TaskTurn}
use Rattle.drcd.specs.declared.inputs.Input.{Input}
use Rattle.drcd.specs.declared.trial.Sent.{Sent}
use Rattle.drcd.specs.Given.{SomeJob}
use Rattle.drcd.specs.Inputs.{input_of}
use Rattle.drcd.specs.Trials.{reach, hold_sent, AskSend, SentIs, Scene, AskInputs, rows_booked, rows_upto}
use Rattle.drcd.proofs.Listed.{messages_listed}
use Rattle.drcd.proofs.Trying.{Tried, tried_without, tried_with}

-- Which messages cross.

pub crosses_not : (msg : Message) (a b : ℕ) → (a ≡ b) ⊎ (msg.volume ≡ 0) → crosses msg a b ≡ false
crosses_not msg a b off = ⊎_elim (λ e. rw (eq-eqb a b e) refl) (λ e. rw (le-ltb 0 msg.volume (omega arith)) (no_and (eqb a b))) off
  where
    no_and : (t : Bool) → not t && false ≡ false
    no_and true = refl
    no_and false = refl

pub crosses_does : (msg : Message) (a b : ℕ) → (a ≡ b → ⊥) → 1 ≤ msg.volume → crosses msg a b ≡ true
crosses_does msg a b apart some = rw (ne_eqb a b apart, lt-ltb 0 msg.volume some) refl

-- The rows of the first messages.

module _ (s : Setup) (j : Job) (new : List Row) (m : ℕ) (msgs : List Message) where
  -- they go by the starts of the first alone
  rows_same :
      (starts starts' : List (Option ℕ)) (i : ℕ) → ((k : ℕ) → k < i → get_or starts' k None ≡ get_or starts k None) →
      rows_upto s j new m msgs starts' i ≡ rows_upto s j new m msgs starts i
  unfolding rows_upto
  rows_same starts starts' zero same = refl
  rows_same starts starts' (suc i) same =
      rw (same i (omega arith), rows_same starts starts' i (λ k h. same k (omega arith))) refl

  -- one message more, with its start or none
  rows_more :
      (starts : List (Option ℕ)) (i : ℕ) (start : Option ℕ) → i < length starts →
      rows_upto s j new m msgs (set starts i start) (suc i)
      ≡ rows_upto s j new m msgs starts i
      ++ rows_booked s j (get_or msgs i no_message) (machine_for new (get_or msgs i no_message).sender) m start
  unfolding rows_upto
  rows_more starts i start below =
      rw (
        get_or-set_same starts i start None below,
        rows_same starts (set starts i start) i (λ k h. get_or-set_other starts i k start None (omega arith)),
      )
      refl

  rows_without :
      (starts : List (Option ℕ)) (i : ℕ) → i < length starts →
      rows_upto s j new m msgs (set starts i None) (suc i) ≡ rows_upto s j new m msgs starts i
  rows_without starts i below = rows_more starts i None below ∙ append-nil (rows_upto s j new m msgs starts i)

-- what the rules say of the messages passed, and how the rows of those that cross stand on the line
pub record Follows (s : Setup) (j : Job) (g : Ground) (new : List Row) (t m : ℕ) (tried : Spans) (starts : List (Option ℕ)) (arrived cost i : ℕ)
    : Type 0 where
  pub so_far : Tried s j m (release g j new t) g.held new (take i (into j t)) (rows_upto s j new m (into j t) starts i) arrived cost
  pub drawn : DrawnOn (holds (rows_upto s j new m (into j t) starts i)) tried
  pub ends : (h : Hold) → Memᴰ h (holds (rows_upto s j new m (into j t) starts i)) → h.span.finish ≤ reach tried.count

pub record TriedSo
    (s : Setup) (inputs : List Input) (line : Spans) (turn : TaskTurn) (m : ℕ)
    (tried : Spans) (starts : List (Option ℕ)) (arrived cost i : ℕ)
    : Type 0 where
  pub within : i ≤ length inputs
  pub count_at_most : tried.count ≤ i
  pub starts_long : length starts ≡ most_messages
  pub arrived_at_most : arrived ≤ reach tried.count
  pub cost_at_most : cost ≤ tried.count * largest_cost
  pub follows :
      (j : Job) (g : Ground) (new : List Row) → Scene s j g new inputs line turn → Between 1 s.table.machines m →
      Follows s j g new (turn.t + 1) m tried starts arrived cost i

-- as many inputs as messages into the task
pub inputs_all :
    {s : Setup} {j : Job} {g : Ground} {new : List Row} {inputs : List Input} {line : Spans} {turn : TaskTurn} →
    Scene s j g new inputs line turn → length inputs ≡ length (into j (turn.t + 1))
inputs_all {j = j} {new = new} {turn = turn} scene = ap length scene.inputs_are ∙ length-map (into j (turn.t + 1)) (input_of new)

-- what stands at an index past the inputs
abbrev pub no_input : Input
no_input = record { sender = 0; source = 0; done = 0; volume = 0 }

-- The message at an index.
module _
    {s : Setup} {j : Job} {g : Ground} {new : List Row} {inputs : List Input} {line : Spans} {turn : TaskTurn}
    (scene : Scene s j g new inputs line turn) (i : ℕ) (more : i < length inputs)
  where
    abbrev msgs : List Message
    msgs = into j (turn.t + 1)

    abbrev msg : Message
    msg = get_or msgs i no_message

    listed : i < length msgs
    listed = omega (arith, inputs_all scene)

    incoming : Memᴰ msg msgs
    incoming = get_or_mem msgs i no_message listed

    first_more : take (suc i) msgs ≡ take i msgs ++ (msg ∷ [])
    first_more = take-suc msgs i no_message listed

    all_parts : (take i msgs ++ (msg ∷ [])) ++ drop (suc i) msgs ≡ msgs
    all_parts = ap (λ l. l ++ drop (suc i) msgs) (sym first_more) ∙ take-append-drop (suc i) msgs

    among : (x : Message) → Memᴰ x (take i msgs ++ (msg ∷ [])) → Memᴰ x msgs
    among x n = subst (Memᴰ x) all_parts (Memᴰ.append_left (drop (suc i) msgs) n)

    differ_now : Pairwise Differ (take i msgs ++ (msg ∷ []))
    differ_now =
        pairwise_front
        Differ
        (take i msgs ++ (msg ∷ []))
        (drop (suc i) msgs)
        (subst (Pairwise Differ) (sym all_parts) (pairwise_keep Differ (λ x. eqb x.receiver (turn.t + 1)) (in_range_differ s j scene.range)))

    its_volume : msg.volume ≤ largest_volume
    its_volume = in_range_volume s j scene.range msg (mem_keep (λ x. eqb x.receiver (turn.t + 1)) (messages_of j) incoming).0

    -- the input at the index is of it
    pub is_of : get_or inputs i no_input ≡ input_of new msg
    is_of = ap (λ l. get_or l i no_input) scene.inputs_are ∙ get_or-map (input_of new) msgs i no_message no_input listed

    module _ {m : ℕ} {tried : Spans} {starts : List (Option ℕ)} {arrived cost : ℕ}
        (follows : Follows s j g new (turn.t + 1) m tried starts arrived cost i) where
      abbrev rows : List Row
      rows = rows_upto s j new m msgs starts i

      abbrev a : ℕ
      a = machine_for new msg.sender

      abbrev done : ℕ
      done = (task_row new msg.sender).finish

      follows_without :
          crosses msg a m ≡ false → i < length starts →
          Follows s j g new (turn.t + 1) m tried (set starts i None) (max arrived done) cost (suc i)
      follows_without c below = record {
        so_far =
            rw
            (first_more, rows_without s j new m msgs starts i below)
            (tried_without
            s
            j
            m
            (release g j new (turn.t + 1))
            g.held
            new
            (take i msgs)
            msg
            (λ x n. scene.senders_placed x (among x n))
            (λ x n. scene.none_ahead x (among x n))
            differ_now
            rows
            arrived
            cost
            follows.so_far
            c);
        drawn = rw (rows_without s j new m msgs starts i below) follows.drawn;
        ends = rw (rows_without s j new m msgs starts i below) follows.ends;
      }

      module _
          (c : crosses msg a m ≡ true) (below : i < length starts) {tried' : Spans} {r : Sent}
          (sent : SentIs s line tried (input_of new msg) m tried' r)
        where
          abbrev row : Row
          row = message_booking s j msg a m r.start

          row_is : row ≡ message_booking s j msg a m (least_free done (transfer s msg a m) (spans_on (link a m) (g.held ++ holds (new ++ rows))))
          row_is =
              let same : (g.held ++ holds new) ++ holds rows ≡ g.held ++ holds (new ++ rows)
              = append_assoc g.held (holds new) (holds rows) ∙ ap (λ l. g.held ++ l) (sym (holds_append new rows)) in
              ap
              (message_booking s j msg a m)
              (sent.start_is (g.held ++ holds new) (holds rows) scene.drawn follows.drawn
              ∙ ap (λ l. least_free done (transfer s msg a m) (spans_on (link a m) l)) same)

          holds_more : holds (rows ++ (row ∷ [])) ≡ holds rows ++ (hold_sent (input_of new msg) m r ∷ [])
          unfolding held_by
          holds_more =
              holds_append rows (row ∷ [])
              ∙ ap (λ x. holds rows ++ ((record { on = link a m; span = record { start = r.start; finish = x } }) ∷ [])) (sym sent.finish_is)

          follows_with :
              Follows
              s
              j
              g
              new
              (turn.t + 1)
              m
              tried'
              (set starts i (Some r.start))
              (max arrived r.finish)
              (cost + r.cost)
              (suc i)
          follows_with = record {
            so_far =
                rw
                (first_more, rows_more s j new m msgs starts i (Some r.start) below, sent.finish_is, sent.cost_is)
                (tried_with
                s
                j
                m
                (release g j new (turn.t + 1))
                g.held
                new
                (take i msgs)
                msg
                (λ x n. scene.senders_placed x (among x n))
                (λ x n. scene.none_ahead x (among x n))
                differ_now
                rows
                arrived
                cost
                follows.so_far
                c
                row
                row_is);
            drawn = rw (rows_more s j new m msgs starts i (Some r.start) below, holds_more) (sent.joins (holds rows) follows.drawn);
            ends =
                rw
                (rows_more s j new m msgs starts i (Some r.start) below, holds_more)
                (λ h n.
                ⊎_elim
                (λ old. let end = follows.ends h old in let count = sent.count_is in omega arith)
                (λ own. let same = ap (λ x. x.span.finish) (Memᴰ.eq_of_singleton own) in let by = sent.by in let count = sent.count_is in omega arith)
                (Memᴰ.append_cases (holds rows) n));
          }

-- Nothing is held.
drawn_none : (room : ℕ) → DrawnOn [] (none_on room)
drawn_none room = record {
  begins_long = omega arith;
  ends_long = omega arith;
  drawable = λ h n. absurd (Memᴰ.not-nil n);
  there = λ h n. absurd (Memᴰ.not-nil n);
  held_there = λ i h. absurd (omega arith);
  ascends = λ i h. absurd (omega arith);
}

-- The turns.
module _ {s : Setup} {inputs : List Input} {line : Spans} {turn : TaskTurn} {m : ℕ} (ask : AskInputs s inputs line turn m) where
  abbrev Now : (tried : Spans) (starts : List (Option ℕ)) (arrived cost i : ℕ) → Type 0
  Now = TriedSo s inputs line turn m

  pub tried_none : {starts : List (Option ℕ)} → length starts ≡ most_messages → Now (none_on most_messages) starts turn.release 0 0
  unfolding message_trials all_arrived rows_upto
  tried_none long = record {
    within = omega arith;
    count_at_most = omega arith;
    starts_long = long;
    arrived_at_most = ask.scene.release_at_most;
    cost_at_most = omega arith;
    follows =
        λ j g new scene there.
        record {
          so_far = record { rows_are = refl; arrived_is = scene.release_is; cost_is = refl };
          drawn = drawn_none most_messages;
          ends = λ h n. absurd (Memᴰ.not-nil n);
        };
  }

  inputs_few : length inputs ≤ most_messages
  inputs_few =
      let some : SomeJob ask.job = record { setup = s; range = ask.scene.range } in
      let kept = length_keep (λ msg. eqb msg.receiver (turn.t + 1)) (messages_of ask.job) in
      omega (arith, inputs_all ask.scene, messages_listed some refl)

  module _
      {tried : Spans} {starts : List (Option ℕ)} {arrived cost i : ℕ}
      (now : Now tried starts arrived cost i) (more : i < length inputs)
      {input : Input} (input_is : input ≡ get_or inputs i no_input)
    where
      its : {j : Job} {g : Ground} {new : List Row} (scene : Scene s j g new inputs line turn) → input ≡ input_of new (msg scene i more)
      its scene = input_is ∙ is_of scene i more

      done_early : input.done ≤ horizon
      done_early =
          let scene = ask.scene in
          let by = scene.senders_done (msg scene i more) (incoming scene i more) in
          omega (arith, ap (λ x. x.done) (its scene))

      pub tried_off : (input.source ≡ m) ⊎ (input.volume ≡ 0) → {later : ℕ} → later ≡ max arrived input.done → Now tried (set starts i None) later cost (i + 1)
      tried_off off {later} later_is =
          let few = now.count_at_most in
          let late = now.arrived_at_most in
          let early = done_early in
          record {
            within = omega arith;
            count_at_most = omega arith;
            starts_long = length-set starts i None ∙ now.starts_long;
            arrived_at_most = omega arith;
            cost_at_most = now.cost_at_most;
            follows =
                λ j g new scene there.
                let is = its scene in
                let off_there = ⊎_elim (λ e. inl (sym (ap (λ x. x.source) is) ∙ e)) (λ e. inr (sym (ap (λ x. x.volume) is) ∙ e)) off in
                rw
                (add-one i, later_is, ap (λ x. x.done) is)
                (follows_without scene i more (now.follows j g new scene there) (crosses_not (msg scene i more) _ m off_there)
                (omega (arith, now.starts_long, inputs_few)));
          }

      module _ (apart : input.source ≡ m → ⊥) (volumed : 1 ≤ input.volume) where
        pub ask_send : AskSend s line tried input m
        ask_send =
            let scene = ask.scene in
            let is = its scene in
            let follows = now.follows ask.job ask.ground ask.new scene ask.there in
            let few = now.count_at_most in
            record {
              held = ask.ground.held ++ holds ask.new;
              holds_tried = holds (rows_upto s ask.job ask.new m (into ask.job (turn.t + 1)) starts i);
              sound = scene.sound;
              drawn = scene.drawn;
              drawn_tried = follows.drawn;
              few = omega (arith, inputs_few);
              held_end = scene.held_end;
              tried_end = follows.ends;
              source = rw (ap (λ x. x.source) is) (scene.senders_on (msg scene i more) (incoming scene i more));
              target = ask.there;
              other = apart;
              done = done_early;
              some = volumed;
              volume = omega (arith, ap (λ x. x.volume) is, its_volume scene i more);
            }

        pub tried_across :
            {tried' : Spans} {r : Sent} → SentIs s line tried input m tried' r →
            {later : ℕ} → later ≡ max arrived r.finish → Now tried' (set starts i (Some r.start)) later (cost + r.cost) (i + 1)
        tried_across {r = r} sent {later} later_is =
            let few = now.count_at_most in
            let late = now.arrived_at_most in
            let count = sent.count_is in
            let by = sent.by in
            let spent = now.cost_at_most in
            let own = sent.cost_at_most in
            record {
              within = omega arith;
              count_at_most = omega arith;
              starts_long = length-set starts i (Some r.start) ∙ now.starts_long;
              arrived_at_most = omega arith;
              cost_at_most = omega arith;
              follows =
                  λ j g new scene there.
                  let is = its scene in
                  let c
                  = crosses_does
                  (msg scene i more)
                  (machine_for new (msg scene i more).sender)
                  m
                  (λ e. apart (ap (λ x. x.source) is ∙ e))
                  (rw (ap (λ x. x.volume) is) at volumed) in
                  rw
                  (add-one i, later_is)
                  (follows_with
                  scene
                  i
                  more
                  (now.follows j g new scene there)
                  c
                  (omega (arith, now.starts_long, inputs_few))
                  (rw is at sent));
            }

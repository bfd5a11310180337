-- A script run act by act: what has been printed, and what is still to come.
use mathlib.Core.Path.{◌≡◌, refl, sym, ap, ◌∙◌, subst}
use mathlib.Core.Bool.{true}
use mathlib.Core.List.{List, [], ◌∷◌, ◌++◌, append_assoc}
use mathlib.Core.Option.{Option, none, some}
use Prim.Native.Nat.{ℕ, zero, suc, ◌+◌, ◌-◌, ◌*◌, ◌≤◌, ◌<◌}
use native.Mathlib.Nat.{zero-add}
use native.Mathlib.Omega.{arith}
use lib.ListN.{length, take, drop, length-drop, length-append}
use lib.Seq.{take_at, drop_at}
use borrow.Author.Tests.{lt-ltb, le-ltb}
use Rattle.std.proofs.Common.{Result}
use Rattle.rules.specs.declared.Answer.{Answer}
use Rattle.rules.specs.declared.Setup.{Setup}
use Rattle.rules.specs.Words.{State, fresh, setup_by_default}
use Rattle.rules.specs.Refusals.{Call, submits, withdraws, advances, step, answers, after}
use Rattle.rules.proofs.Sequences.{by_test, by_less}
use Rattle.lines.specs.Lines.{Parsed, parsed, refused, any_figure_line, begins, line}
use Rattle.lines.specs.Put.{Puts}
use Rattle.lines.proofs.Put.{puts_then}
use Rattle.texts.specs.JobText.{job_text}
use Rattle.texts.specs.Reader.{default_machines}
use Rattle.texts.proofs.Reached.{Reached, least_line, line_reached, least_job, job_reached}
use Rattle.timetable.specs.declared.Timetable.{Timetable}
use Rattle.rules.specs.declared.Job.{Job}
use Rattle.rules.specs.declared.answers.Admission.{Admission}
use Rattle.rules.specs.declared.answers.Refusal.{Refusal}
use Rattle.rules.specs.Answers.{answered}
use Rattle.timetable.specs.Timetables.{TimetableOf, Goes, timetable_fresh}
use Rattle.script.specs.declared.acts.Kind.{Kind}
use Rattle.script.specs.declared.acts.Kind.TheVariants.{Submit, Withdraw, Advance}
use Rattle.script.specs.declared.acts.Stop.{Stop}
use Rattle.script.specs.Kinds.{call_of}
use Rattle.script.specs.Keys.{job_key, tick_key}
use Rattle.script.specs.Acts.{Act, input_ends, call, unread, as_act, number_act, act, submit_line, withdraw_line, clock_line}
use Rattle.script.specs.Replies.{reply, stop_line}
use Rattle.script.specs.Listing.{listing}
use Rattle.script.specs.Program.{Script, script_from, script, replies, printed, program, input_limit}
use Rattle.script.specs.Laws.{TurnsEnough}
use Rattle.script.specs.Contract.{output_size, Runs}
use Rattle.script.specs.Parts.{stop_number, most_answer, most_reply, most_for, reply_to, PutsReply, PutsListing, PutsRefusal}
use Rattle.script.specs.Parts.{too_long_output, AskCalls}
use Rattle.script.proofs.Fields.{PutWithin, within_none, within_then}
use Rattle.script.proofs.Acted.{at_end, at_submit, at_withdraw, at_clock, no_act, act_fits}
use Rattle.script.proofs.Held.{fresh_stands}

-- the most bytes of the reply to a call
abbrev most_said : Call → ℕ
most_said (submits j) = most_reply
most_said (withdraws n) = most_answer
most_said (advances tick) = most_answer

-- How far an act reaches: past its place, within the text, and by half the bytes of its reply at the least.
pub record Reaches (text : List ℕ) (at : ℕ) (c : Call) (next : ℕ) : Type 0 where
  pub on : at < next
  pub within : next ≤ length text
  pub enough : most_said c + 2 * at ≤ 2 * next

-- by what was read after its act line
read_reaches :
    {A : Type 0} (make : A → Call) (text : List ℕ) (at size least : ℕ) (found : Parsed A) (c : Call) (next : ℕ) →
    ((a : A) (last : ℕ) → found ≡ parsed a last → Reached (drop (at + size) text) 0 least last) → ((a : A) → most_said (make a) ≤ 2 * (size + least)) →
    0 < size → at + size ≤ length text → as_act make (at + size) found ≡ call c next → Reaches text at c next
read_reaches make text at size least (parsed a last) c next reached most longer fits e =
    let there = reached a last refl in
    let to : at + size + last ≡ next = cc in
    let same : make a ≡ c = cc in
    record {
      on = omega arith;
      within = omega (arith, length-drop (at + size) text, there.within);
      enough = subst (λ x. most_said x + 2 * at ≤ 2 * next) same (omega (arith, most a, there.on));
    }
read_reaches make text at size least (refused number place) c next reached most longer fits e = absurd (let z : ◌≡◌ {A = ℕ} 0 1 = cc in omega arith)

module _ (machines : ℕ) (text : List ℕ) (at : ℕ) (c : Call) (next : ℕ) (e : act machines text at ≡ call c next) (more : at < length text) where
  -- a call that carries a number
  number_reaches :
      (make : ℕ → Call) (key first : List ℕ) → ((n : ℕ) → most_said (make n) ≤ 2 * (length first + least_line key)) → 0 < length first →
      begins first (drop at text) ≡ true → act machines text at ≡ number_act make key text (at + length first) → Reaches text at c next
  number_reaches make key first most longer begun is =
      let from = drop (at + length first) text in
      read_reaches make text at (length first) (least_line key) (line (any_figure_line key) from 0) c next (line_reached (any_figure_line key) from 0) most longer
      (act_fits text at more first begun)
      (sym is ∙ e)

  job_reaches : begins submit_line (drop at text) ≡ true → Reaches text at c next
  job_reaches begun =
      let from = drop (at + length submit_line) text in
      read_reaches submits text at (length submit_line) least_job (job_text machines from) c next (job_reached machines from) (λ j. omega arith) (omega arith)
      (act_fits text at more submit_line begun)
      (sym (at_submit machines text at more begun) ∙ e)

  before_end : Reaches text at c next
  before_end =
      by_test
      (begins submit_line (drop at text))
      job_reaches
      (λ x.
      by_test
      (begins withdraw_line (drop at text))
      (λ y. number_reaches withdraws job_key withdraw_line (λ n. omega arith) (omega arith) y (at_withdraw machines text at more x y))
      (λ y.
      by_test
      (begins clock_line (drop at text))
      (λ z. number_reaches advances tick_key clock_line (λ n. omega arith) (omega arith) z (at_clock machines text at more x y z))
      (λ z.
      let none : unread 17 ≡ call c next = sym (no_act machines text at more x y z) ∙ e in
      absurd (let clash : ◌≡◌ {A = ℕ} 0 1 = cc in omega arith))))

pub act_reaches : (machines : ℕ) (text : List ℕ) (at : ℕ) (c : Call) (next : ℕ) → act machines text at ≡ call c next → Reaches text at c next
act_reaches machines text at c next e =
    by_less
    at
    (length text)
    (before_end machines text at c next e)
    (λ over.
    let none : input_ends ≡ call c next = sym (at_end machines text at over) ∙ e in
    absurd (let clash : ◌≡◌ {A = ℕ} 0 1 = cc in omega arith))

-- The calls from a place on: as many turns as there are bytes left are enough.

ended_there : (machines : ℕ) (text : List ℕ) (at turns : ℕ) → length text ≤ at → script_from machines turns text at ≡ record { calls = []; stop = none }
unfolding script_from
ended_there machines text at zero h = refl
ended_there machines text at (suc turns) h = rw (at_end machines text at h, script_from) refl

-- a call in front
abbrev with_call : Call → Script → Script
with_call c rest = record { calls = c ∷ rest.calls; stop = rest.stop }

pub script_call :
    (machines : ℕ) (text : List ℕ) (at turns : ℕ) (c : Call) (next : ℕ) → act machines text at ≡ call c next →
    script_from machines (suc turns) text at ≡ with_call c (script_from machines turns text next)
unfolding script_from
script_call machines text at turns c next e = rw (e, script_from) refl

pub script_ended :
    (machines : ℕ) (text : List ℕ) (at turns : ℕ) → act machines text at ≡ input_ends →
    script_from machines (suc turns) text at ≡ record { calls = []; stop = none }
unfolding script_from
script_ended machines text at turns e = rw (e, script_from) refl

pub script_unread :
    (machines : ℕ) (text : List ℕ) (at turns number : ℕ) → act machines text at ≡ unread number →
    script_from machines (suc turns) text at ≡ record { calls = []; stop = some number }
unfolding script_from
script_unread machines text at turns number e = rw (e, script_from) refl

pub enough_turns :
    (machines : ℕ) (text : List ℕ) (at a b : ℕ) → length text ≤ at + a → length text ≤ at + b →
    script_from machines a text at ≡ script_from machines b text at
enough_turns machines text at zero b h k =
    let over : length text ≤ at = omega arith in
    ended_there machines text at zero over ∙ sym (ended_there machines text at b over)
enough_turns machines text at (suc a) zero h k =
    let over : length text ≤ at = omega arith in
    ended_there machines text at (suc a) over ∙ sym (ended_there machines text at zero over)
enough_turns machines text at (suc a) (suc b) h k = go (act machines text at) refl (λ next p q. enough_turns machines text next a b p q)
  where
    go :
        (x : Act) → act machines text at ≡ x →
        ((next : ℕ) → length text ≤ next + a → length text ≤ next + b → script_from machines a text next ≡ script_from machines b text next) →
        script_from machines (suc a) text at ≡ script_from machines (suc b) text at
    go input_ends e below = script_ended machines text at a e ∙ sym (script_ended machines text at b e)
    go (call c next) e below =
        let on = (act_reaches machines text at c next e).on in
        script_call machines text at a c next e ∙ ap (with_call c) (below next (omega arith) (omega arith)) ∙ sym (script_call machines text at b c next e)
    go (unread n) e below = script_unread machines text at a n e ∙ sym (script_unread machines text at b n e)

stop_none : stop_line none ≡ []
unfolding stop_line
stop_none = refl

pub turns_enough : TurnsEnough
turns_enough machines text turns h = enough_turns machines text 0 turns (length text) (omega arith) (omega arith)

-- What is printed from a state on: a call's reply and what follows it, or the end.
module _ (s : Setup) (st : State) where
  pub printed_call : (c : Call) (rest : Script) → printed s st (with_call c rest) ≡ reply c (step s st c).answer ++ printed s (step s st c).left rest
  unfolding printed replies answers after
  printed_call c rest =
      let r = reply c (step s st c).answer in
      let rs = replies rest.calls (answers (step s) (step s st c).left rest.calls) in
      let l = listing (after (step s) (step s st c).left rest.calls) in
      ap (λ x. x ++ l) (append_assoc r rs (stop_line rest.stop)) ∙ append_assoc r (rs ++ stop_line rest.stop) l

  pub printed_stop : (stop : Option ℕ) → printed s st (record { calls = []; stop = stop }) ≡ stop_line stop ++ listing st
  unfolding printed replies answers after
  printed_stop stop = refl

-- A call of the code has the replies of the one that it is of the rules.

said_most : (kind : Kind) (j : Job) → most_for kind ≡ most_said (call_of kind j)
said_most Submit j = refl
said_most (Withdraw number) j = refl
said_most (Advance tick) j = refl

said_reply : (kind : Kind) (j : Job) (a : Answer) → reply_to kind a ≡ reply (call_of kind j) a
unfolding reply
said_reply Submit j a = refl
said_reply (Withdraw number) j a = refl
said_reply (Advance tick) j a = refl

-- The loop: so many bytes are read, their answers are written, and the timetable stands for the state that they leave.
pub record Running (text old : List ℕ) (t : Timetable) (at : ℕ) (new : List ℕ) (end : ℕ) : Type 0 where
  pub asked : AskCalls text old
  pub state : State
  pub timetable : TimetableOf setup_by_default state t
  pub bytes : List ℕ
  pub within : PutWithin old 0 bytes new end (2 * at)
  pub to_come : program setup_by_default text ≡ bytes ++ printed setup_by_default state (script_from default_machines (length text - at) text at)
  pub inside : at ≤ length text

-- an input within the limit is read from its start on
within_limit : (text : List ℕ) → length text ≤ input_limit → script setup_by_default.table.machines text ≡ script_from default_machines (length text) text 0
unfolding script setup_by_default
within_limit text few = rw (le-ltb input_limit (length text) few) refl

-- the bytes written and those of the end are all
whole :
    {all old bytes new tail : List ℕ} {end most : ℕ} {new' : List ℕ} {last : ℕ} → PutWithin old 0 bytes new end most → all ≡ bytes ++ tail →
    Puts new end tail new' last → Puts old 0 all new' last
whole {old = old} {new' = new'} {last} w is p = subst (λ b. Puts old 0 b new' last) (sym is) (puts_then (omega arith) w.puts p)

pub running_none : {text old : List ℕ} {t : Timetable} → AskCalls text old → t ≡ timetable_fresh → Running text old t 0 old 0
unfolding program
running_none {text} asked is =
    let off : length text - 0 ≡ length text = omega arith in
    record {
      asked = asked;
      state = fresh;
      timetable = fresh_stands is;
      bytes = [];
      within = within_none (omega arith);
      to_come = rw (within_limit text asked.few, off) refl;
      inside = omega arith;
    }

module _ {text old : List ℕ} {t : Timetable} {at : ℕ} {new : List ℕ} {end : ℕ} (w : Running text old t at new end) where
  -- the ordinary end
  pub running_ends :
      {new' : List ℕ} {last : ℕ} → length text ≤ at → PutsListing new end t new' last →
      Puts old 0 (program setup_by_default text) new' last
  running_ends over p =
      let all : program setup_by_default text ≡ w.bytes ++ listing w.state =
      w.to_come
      ∙ ap (λ x. w.bytes ++ printed setup_by_default w.state x) (ended_there default_machines text at (length text - at) over)
      ∙ ap (λ x. w.bytes ++ x) (printed_stop setup_by_default w.state none ∙ ap (λ l. l ++ listing w.state) stop_none)
      in
      whole w.within all (p setup_by_default w.state w.timetable)

  module _ (more : at < length text) where
    left_over : length text - at ≡ suc (length text - suc at)
    left_over = omega arith

    -- a reading refusal
    pub running_stops :
        (why : Stop) {new' : List ℕ} {last : ℕ} → act default_machines text at ≡ unread (stop_number why) →
        PutsRefusal new end why t new' last → Puts old 0 (program setup_by_default text) new' last
    running_stops why e p =
        let said = stop_number why in
        let stop : script_from default_machines (length text - at) text at ≡ record { calls = []; stop = some said } =
        ap (λ n. script_from default_machines n text at) left_over
        ∙ script_unread default_machines text at (length text - suc at) said e
        in
        let all : program setup_by_default text ≡ w.bytes ++ (stop_line (some said) ++ listing w.state) =
        w.to_come
        ∙ ap (λ x. w.bytes ++ printed setup_by_default w.state x) stop
        ∙ ap (λ x. w.bytes ++ x) (printed_stop setup_by_default w.state (some said))
        in
        whole w.within all (p setup_by_default w.state w.timetable)

    -- a call of any kind
    module _ (kind : Kind) (j : Job) (next : ℕ) (says : act default_machines text at ≡ call (call_of kind j) next) where
      abbrev c : Call
      c = call_of kind j

      reach : Reaches text at c next
      reach = act_reaches default_machines text at c next says

      -- fewer bytes are left
      pub running_less : length text - next < length text - at
      running_less = omega (arith, reach.on, reach.within)

      pub running_called :
          {t' : Timetable} {r : Result Admission Refusal} {a : Answer} {new' : List ℕ} {last : ℕ} → Goes setup_by_default w.state c t' r →
          a ≡ answered r → PutsReply new end kind a new' last → Running text old t' next new' last
      running_called {a = a} goes a_is p =
          let st = w.state in
          let left = (step setup_by_default st c).left in
          let rest = script_from default_machines (length text - next) text next in
          let said = reply_to kind a in
          let turned : script_from default_machines (length text - at) text at ≡ with_call c rest =
          ap (λ n. script_from default_machines n text at) left_over
          ∙ script_call default_machines text at (length text - suc at) c next says
          ∙ ap
          (with_call c)
          (enough_turns default_machines text next (length text - suc at) (length text - next) (omega (arith, reach.on)) (omega (arith, reach.within)))
          in
          let same : reply c (step setup_by_default st c).answer ≡ said =
          ap (reply c) (sym goes.answer_is ∙ sym a_is) ∙ sym (said_reply kind j a)
          in
          let written =
          within_then
          said
          (most_for kind)
          (omega (arith, said_most kind j, reach.enough, reach.within, w.asked.few, w.asked.room))
          w.within
          p.puts
          p.short
          in
          record {
            asked = w.asked;
            state = left;
            timetable = goes.left;
            bytes = w.bytes ++ said;
            within = record {
              puts = written.puts;
              short = omega (arith, written.short, said_most kind j, reach.enough);
              long = written.long;
            };
            to_come =
                w.to_come
                ∙ ap (λ x. w.bytes ++ printed setup_by_default st x) turned
                ∙ ap (λ x. w.bytes ++ x) (printed_call setup_by_default st c rest)
                ∙ ap (λ x. w.bytes ++ (x ++ printed setup_by_default left rest)) same
                ∙ sym (append_assoc w.bytes said (printed setup_by_default left rest));
            inside = reach.within;
          }

-- What stands in the buffer at the end.

-- bytes that keep the buffer's length lie within it
puts_fit : {old : List ℕ} {bytes new : List ℕ} {next : ℕ} → Puts old 0 bytes new next → length new ≡ length old → length bytes ≤ length old
puts_fit {old} {bytes} {new} p l =
    let a = ap length p.new_is ∙ length-append (take 0 old ++ bytes) (drop (0 + length bytes) old) in
    let b = length-append (take 0 old) bytes in
    omega arith

pub whole_run :
    (input old new : List ℕ) (count : ℕ) → length old ≡ output_size → length new ≡ length old → Puts old 0 (program setup_by_default input) new count →
    Runs input old new count
whole_run input old new count long kept p =
    let bytes = program setup_by_default input in
    let zero_on : 0 + length bytes ≡ length bytes = zero-add (length bytes) in
    let n : count ≡ length bytes = p.next_is ∙ zero_on in
    let stands : new ≡ bytes ++ drop (length bytes) old = p.new_is ∙ ap (λ k. bytes ++ drop k old) zero_on in
    let fit = puts_fit p kept in
    record {
      written = ap (take count) stands ∙ take_at bytes (drop (length bytes) old) count (sym n);
      count_is = n;
      untouched = ap (drop count) stands ∙ drop_at bytes (drop (length bytes) old) count (sym n) ∙ ap (λ k. drop k old) (sym n);
      fits = omega arith;
    }

-- 19, and nothing is acted on
pub too_long :
    (input : List ℕ) {old new : List ℕ} {last : ℕ} → input_limit < length input → Puts old 0 too_long_output new last →
    Puts old 0 (program setup_by_default input) new last
unfolding program script
too_long input {old} {new} {last} over p =
    let all : program setup_by_default input ≡ too_long_output = rw (lt-ltb input_limit (length input) over) (printed_stop setup_by_default fresh (some 19)) in
    subst (λ b. Puts old 0 b new last) (sym all) p

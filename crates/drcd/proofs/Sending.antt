-- One message of a trial: how long its link is taken, where that is found beside what is held and tried, and what it leaves.
use mathlib.Core.Path.{◌≡◌, sym, ap, ◌∙◌}
use mathlib.Core.Logic.{⊎_elim}
use mathlib.Core.List.Memᴰ
use mathlib.Core.List.{List, ◌++◌}
use Prim.Native.Nat.{ℕ, ◌+◌, ◌*◌, ◌^◌, ◌≤◌, ◌<◌}
use native.Mathlib.Omega.{arith}
use native.Mathlib.Nat.{mul-le-mul, one-le-mul}
use Rattle.rules.specs.declared.Setup.{Setup}
use Rattle.rules.specs.Words.{link, Hold, largest_volume, most_messages, link_time, link_rate}
use Rattle.rules.specs.Asked.{HasLink}
use Rattle.rules.specs.Codes.{resource_number}
use Rattle.rules.specs.Placing.{spans_on, least_free}
use Rattle.rules.specs.Bounds.{largest_rate, largest_link_time, largest_cost}
use Rattle.rules.proofs.LeastTick.{least_at_most}
use Rattle.timeline.specs.declared.line.Sought.{Sought}
use Rattle.timeline.specs.Spans.{Spans}
use Rattle.timeline.specs.Timeline.{known_link, tick_room, Drawable}
use Rattle.timeline.specs.Lines.{DrawnOn}
use Rattle.timeline.specs.Beside.{AskBeside, BesideIs}
use Rattle.timeline.specs.Grown.{Untaken, AskSpan, SpanPut}
use Rattle.timeline.proofs.Drawing.{in_room, known_below, ends_ascend}
use Rattle.timeline.proofs.Grown.{untaken_least}
use Rattle.timeline.proofs.Agreeing.{span_held}
use Rattle.drcd.specs.declared.inputs.Input.{Input}
use Rattle.drcd.specs.declared.trial.Sent.{Sent}
use Rattle.drcd.specs.Trials.{reach, link_ticks, hold_sent, AskSend, SentIs}

-- what beside some holds is free is so beside the last of them
untaken_last : (held tried : List Hold) (h : Hold) → Untaken (held ++ tried) h → Untaken tried h
untaken_last held tried h free x low high taken =
    free x low high (record { hold = taken.hold; listed = Memᴰ.append_right held taken.listed; on = taken.on; within = taken.within })

module _ {s : Setup} {line : Spans} {tried : Spans} {input : Input} {m : ℕ}
    (ask : AskSend s line tried input m)
  where
    its_link : HasLink input.source m
    its_link = record { source = in_room ask.sound.room ask.source; target = in_room ask.sound.room ask.target }

    -- what is found, whatever it is sought as
    least_reach :
        (len : ℕ) → least_free input.done len (spans_on (link input.source m) (ask.held ++ ask.holds_tried)) ≤ reach tried.count
    least_reach len =
        least_at_most
        input.done
        len
        (spans_on (link input.source m) (ask.held ++ ask.holds_tried))
        (reach tried.count)
        (let done = ask.done in omega arith)
        (λ s n.
        let of = span_held (link input.source m) (ask.held ++ ask.holds_tried) n in
        let ends = ap (λ s. s.finish) of.2 in
        ⊎_elim
        (λ old. let end = ask.held_end of.0 old in omega arith)
        (λ new. let end = ask.tried_end of.0 new in omega arith)
        (Memᴰ.append_cases ask.held of.1))

    pub ask_span : AskSpan most_messages tried
    ask_span = record { ascend = ends_ascend ask.drawn_tried; fits = ask.few }

    module _ {time : ℕ} (time_is : time ≡ link_time s input.source m) where
      abbrev len : ℕ
      len = time * input.volume

      len_is : len ≡ link_ticks s input m
      len_is = ap (λ t. t * input.volume) time_is

      pub takes : (1 ≤ len) × (len ≤ largest_link_time * largest_volume)
      takes =
          let from = ask.source in
          let to = ask.target in
          let some = ask.sound.takes_time input.source m from.first from.last to.first to.last ask.other in
          let first : 1 ≤ link_ticks s input m = one-le-mul some ask.some in
          let last : link_ticks s input m ≤ largest_link_time * largest_volume = mul-le-mul (ask.sound.times input.source m) ask.volume in
          (omega (arith, len_is), omega (arith, len_is))

      pub cost_at_most : {fail : ℕ} → fail ≡ link_rate s input.source m → fail * len ≤ largest_cost
      cost_at_most {fail} fail_is =
          let most : fail ≤ largest_rate = omega (arith, ask.sound.fails input.source m) in
          mul-le-mul most takes.1

      module _ {resource : ℕ} (resource_is : resource ≡ resource_number (link input.source m)) where
        abbrev sought : Sought
        sought = record { resource = resource; from = input.done; len = len }

        pub ask_beside : AskBeside line tried sought
        ask_beside =
            let takes = takes in
            let done = ask.done in
            record {
              held = ask.held;
              drawn = ask.drawn;
              beside = ask.holds_tried;
              drawn_beside = ask.drawn_tried;
              on = link input.source m;
              known = known_link its_link;
              code_is = sym resource_is;
              from_at_most = omega arith;
              some = takes.0;
              len_at_most = omega arith;
            }

        module _ {start : ℕ} (found : BesideIs line tried sought start) where
          found_for :
              (held holds_tried : List Hold) → DrawnOn held line → DrawnOn holds_tried tried →
              start ≡ least_free input.done (link_ticks s input m) (spans_on (link input.source m) (held ++ holds_tried))
          found_for held holds_tried drawn drawn_tried =
              found.is held holds_tried (link input.source m) drawn drawn_tried (known_link its_link) (sym resource_is)
              ∙ ap (λ l. least_free input.done l (spans_on (link input.source m) (held ++ holds_tried))) len_is

          start_at_most : start ≤ reach tried.count
          start_at_most =
              let is = found_for ask.held ask.holds_tried ask.drawn ask.drawn_tried in
              omega (arith, least_reach (link_ticks s input m))

          -- its place on the line, and where it ends there
          pub place_fits : resource * tick_room + start + len < 2 ^ 64
          place_fits =
              let takes = takes in
              let few = ask.few in
              omega (arith, start_at_most, known_below (known_link its_link))

          module _ {fail : ℕ} (fail_is : fail ≡ link_rate s input.source m) where
            abbrev sent : Sent
            sent = record { start = start; finish = start + len; cost = fail * len }

            sent_drawable : Drawable (hold_sent input m sent)
            sent_drawable =
                let takes = takes in
                let few = ask.few in
                let at = start_at_most in
                record { known = known_link its_link; lasts = omega arith; ends = omega arith }

            sent_untaken : (holds_tried : List Hold) → DrawnOn holds_tried tried → Untaken holds_tried (hold_sent input m sent)
            sent_untaken holds_tried drawn =
                untaken_last
                ask.held
                holds_tried
                (hold_sent input m sent)
                (untaken_least
                (ask.held ++ holds_tried)
                (hold_sent input m sent)
                input.done
                (link_ticks s input m)
                (found_for ask.held holds_tried ask.drawn drawn)
                (ap (λ l. start + l) len_is))

            pub sent_is :
                {tried' : Spans} {place : ℕ} →
                SpanPut tried (resource * tick_room + start) (resource * tick_room + start + len) tried' place → SentIs s line tried input m tried' sent
            sent_is put =
                let takes = takes in
                let at = start_at_most in
                record {
                  count_is = put.count_is;
                  lasts = omega arith;
                  by = omega arith;
                  cost_at_most = cost_at_most fail_is;
                  finish_is = ap (λ l. start + l) len_is;
                  cost_is = cc (fail_is, len_is);
                  start_is = found_for;
                  joins =
                      λ holds_tried drawn.
                      put.is holds_tried (hold_sent input m sent) drawn (omega arith) (omega arith) sent_drawable (sent_untaken holds_tried drawn);
                }

-- The turns of placing a job: whatever rows the timeline is of, the turns so far are those of the rules.
use mathlib.Core.Path.{◌≡◌, sym, ap}
use mathlib.Core.List.{List, []}
use mathlib.Core.Option.{some}
use Prim.Native.Nat.{ℕ, suc, ◌+◌, ◌-◌, ◌^◌, ◌≤◌, ◌<◌}
use native.Mathlib.Omega.{arith}
use lib.ListN.{length, get_or, set, replicate}
use Rattle.std.proofs.Common.{Option, Some, None, Ok, Err}
use Rattle.rules.specs.declared.Row.{Row}
use Rattle.rules.specs.declared.Job.{Job}
use Rattle.rules.specs.declared.Setup.{Setup}
use Rattle.rules.specs.Words.{most_tasks, no_task, task_of}
use Rattle.rules.specs.Placing.{next_task, on_rows}
use Rattle.timeline.specs.Spans.{Spans}
use Rattle.drcd.specs.declared.TaskTurn.{TaskTurn}
use Rattle.drcd.specs.declared.choice.Kept.{Kept}
use Rattle.drcd.specs.declared.inputs.Input.{Input}
use Rattle.drcd.specs.declared.order.Spot.{Spot}
use Rattle.drcd.specs.Order.{NextReadyIs}
use Rattle.drcd.specs.Inputs.{AskGather, GatheredIs, InputsOf}
use Rattle.drcd.specs.Trials.{Scene}
use Rattle.drcd.specs.Choice.{AskChoose, ChoiceIs, IsKeptOf}
use Rattle.placement.specs.declared.own.Entry.{Entry}
use Rattle.placement.specs.Appending.{Keeping, AskAppend, AppendedIs}
use Rattle.placement.specs.Placements.{Placeable, AskPlace, PlacedIs}
use Rattle.placement.proofs.Placed.{SoFar, so_far_none, so_far_more, cost_at_most, senders_found, index_listed, index_below, release_fits, scene, keeping}
use Rattle.placement.proofs.Placed.{turn_none, turn_late, all_turns}

-- what holds before each turn, of all rows that the timeline is of
pub record Turning (s : Setup) (j : Job) (base : ℕ) (line₀ : Spans) (spots : List (Option Spot)) (line : Spans) (own : List Entry)
    (cost release turns : ℕ) : Type 0 where
  pub so_far : (rows : List Row) (ask : Placeable s j rows base line₀) → SoFar s j rows ask spots line own cost release turns

module _ {s : Setup} {j : Job} {base : ℕ} {line₀ : Spans} (asked : AskPlace s j base line₀) where
  abbrev Now : List (Option Spot) → Spans → List Entry → (cost release turns : ℕ) → Type 0
  Now = Turning s j base line₀

  pub turning_none : {own : List Entry} → own ≡ [] → Now (replicate most_tasks None) line₀ own 0 base 0
  turning_none empty = record { so_far = λ rows ask. so_far_none s j rows ask empty }

  module _ {spots : List (Option Spot)} {line : Spans} {own : List Entry} {cost release turns : ℕ} (now : Now spots line own cost release turns) where
    abbrev witness : SoFar s j asked.rows asked.placeable spots line own cost release turns
    witness = now.so_far asked.rows asked.placeable

    pub turning_all :
        j.taskcount ≤ turns → {count : ℕ} → count ≡ length own → PlacedIs s j base line₀ line own (Ok (record { cost = cost; rows = count }))
    turning_all all count_is rows ask = all_turns s j rows ask (now.so_far rows ask) count_is all

    module _ (more : turns < j.taskcount) where
      pub turning_over :
          NextReadyIs j spots None → {count : ℕ} → count ≡ length own → PlacedIs s j base line₀ line own (Ok (record { cost = cost; rows = count }))
      turning_over none count_is rows ask =
          let p = now.so_far rows ask in
          turn_none s j rows ask p count_is (sym (none p.new p.stands)) more

      module _ (t : ℕ) (next : NextReadyIs j spots (Some t)) where
        is_next : (rows : List Row) (ask : Placeable s j rows base line₀) → next_task j (now.so_far rows ask).new ≡ some (t + 1)
        is_next rows ask = let p = now.so_far rows ask in sym (next p.new p.stands)

        abbrev its_next : next_task j witness.new ≡ some (t + 1)
        its_next = is_next asked.rows asked.placeable

        pub index_few : t < most_tasks
        index_few = index_below s j asked.rows asked.placeable witness t its_next

        -- the dispatch time that the turn adds
        abbrev dispatch : ℕ
        dispatch = (get_or j.tasks t no_task).dispatch

        release_is : release + dispatch ≡ release + (task_of j (t + 1)).dispatch
        release_is = let same : t ≡ t + 1 - 1 = omega arith in ap (λ k. release + (get_or j.tasks k no_task).dispatch) same

        pub release_room : release + dispatch < 2 ^ 64
        release_room =
            let fits = release_fits s j asked.rows asked.placeable witness t its_next more in
            let is = release_is in
            omega arith

        pub gather_asked : AskGather j t spots
        gather_asked = record {
          job = record { setup = s; range = asked.placeable.range };
          listed = index_listed s j asked.rows asked.placeable witness t its_next;
        }

        module _ {inputs : List Input} (gathered : GatheredIs j t spots inputs) where
          abbrev its_turn : TaskTurn
          its_turn = record { t = t; release = release + dispatch }

          inputs_of : (rows : List Row) (ask : Placeable s j rows base line₀) → InputsOf j (now.so_far rows ask).new (t + 1) inputs
          inputs_of rows ask = let p = now.so_far rows ask in gathered p.new p.stands (senders_found s j rows ask p t (is_next rows ask))

          scene_of :
              (rows : List Row) (ask : Placeable s j rows base line₀) →
              Scene s j (on_rows base rows) (now.so_far rows ask).new inputs line its_turn
          scene_of rows ask =
              scene s j rows ask (now.so_far rows ask) t (is_next rows ask) inputs more (release + dispatch) release_is (inputs_of rows ask)

          pub choose_asked : AskChoose s j inputs line its_turn
          choose_asked = record { ground = on_rows base asked.rows; new = witness.new; scene = scene_of asked.rows asked.placeable }

          module _ {found : Option Kept} {starts : List (Option ℕ)} (choosing : ChoiceIs s j inputs line its_turn found starts) where
            kept_of :
                (rows : List Row) (ask : Placeable s j rows base line₀) →
                IsKeptOf s j (on_rows base rows) (now.so_far rows ask).new (t + 1) found starts
            kept_of rows ask = choosing.is (on_rows base rows) (now.so_far rows ask).new (scene_of rows ask)

            pub turning_late :
                found ≡ None → {count : ℕ} → count ≡ length own →
                PlacedIs s j base line₀ line own (Err (record { task = t + 1; before = record { cost = cost; rows = count } }))
            turning_late none count_is rows ask =
                turn_late s j rows ask (now.so_far rows ask) count_is (t + 1) (is_next rows ask) ((kept_of rows ask).none_found none) more

            module _ {kept : Kept} (is : found ≡ Some kept) where
              pub cost_room : cost + kept.best.cost < 2 ^ 64
              cost_room =
                  let spent = cost_at_most s j asked.rows asked.placeable witness in
                  let own_cost = (choosing.bounds kept is).cost_at_most in
                  omega arith

              keeping_of :
                  (rows : List Row) (ask : Placeable s j rows base line₀) →
                  Keeping s j base rows (now.so_far rows ask).new kept starts inputs its_turn line own
              keeping_of rows ask =
                  let one = (kept_of rows ask).one_found kept is in
                  keeping s j rows ask (now.so_far rows ask) t (is_next rows ask) inputs more (release + dispatch) release_is (inputs_of rows ask) kept starts one.0 one.1

              pub append_asked : AskAppend s kept starts inputs its_turn line own
              append_asked = record {
                job = j;
                base = base;
                rows = asked.rows;
                new = witness.new;
                keeping = keeping_of asked.rows asked.placeable;
                bounds = choosing.bounds kept is;
              }

              pub turning_more :
                  {line' : Spans} {own' : List Entry} → AppendedIs s kept starts inputs its_turn line own line' own' →
                  Now (set spots t (Some (record { machine = kept.machine; finish = kept.best.finish }))) line' own' (cost + kept.best.cost)
                  (release + dispatch) (suc turns)
              turning_more appended = record {
                so_far =
                    λ rows ask.
                    let one = (kept_of rows ask).one_found kept is in
                    so_far_more s j rows ask (now.so_far rows ask) t (is_next rows ask) inputs more (release + dispatch) release_is (inputs_of rows ask) kept starts one.0 one.1
                    appended;
              }

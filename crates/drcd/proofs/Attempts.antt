-- A whole trial: from what its messages found and the start that is sought, its figures are those of the rules' trial.
use mathlib.Core.Path.{◌≡◌, refl, ap, ap₂, ◌∙◌}
use mathlib.Core.List.{List, [], ◌∷◌, ◌++◌}
use Prim.Native.Nat.{ℕ, ◌+◌, ◌*◌, ◌≤◌}
use native.Mathlib.Omega.{arith}
use native.Mathlib.Nat.{mul-le-mul}
use Rattle.std.proofs.Common.{Option}
use Rattle.rules.specs.declared.Row.{Row}
use Rattle.rules.specs.declared.Job.{Job}
use Rattle.rules.specs.declared.Setup.{Setup}
use Rattle.rules.specs.Words.{machine, holds, largest_time, rate, run_time}
use Rattle.rules.specs.Asked.{HasMachine}
use Rattle.rules.specs.Placing.{Ground, least_free, spans_on, into, release, message_trials, all_arrived, try}
use Rattle.rules.specs.Bounds.{Between, largest_rate, largest_cost}
use Rattle.rules.proofs.Sequences.{sum_append}
use Rattle.rules.proofs.Numbers.{machine_below}
use Rattle.rules.proofs.Bounds.{task_figures}
use Rattle.timeline.specs.Spans.{Spans}
use Rattle.timeline.specs.Timeline.{known_machine, tick_limit, AskLeast, LeastIs}
use Rattle.timeline.proofs.Drawing.{in_room, drawn_asks}
use Rattle.timeline.proofs.Agreeing.{drawable_found}
use Rattle.drcd.specs.declared.TaskTurn.{TaskTurn}
use Rattle.drcd.specs.declared.Attempt.{Attempt}
use Rattle.drcd.specs.declared.inputs.Input.{Input}
use Rattle.drcd.specs.declared.trial.Arrivals.{Arrivals}
use Rattle.drcd.specs.Trials.{Scene, AskAttempt, TriedIs, rows_upto, IsTrial, AttemptBounds, AttemptIs}
use Rattle.drcd.proofs.TriedRows.{inputs_all}

module _ {s : Setup} {inputs : List Input} {line : Spans} {turn : TaskTurn} {m run : ℕ} (ask : AskAttempt s inputs line turn m run) where
  has_machine : HasMachine m
  has_machine = in_room ask.inputs_ask.scene.sound.room ask.inputs_ask.there

  run_at_most : run ≤ largest_time
  run_at_most =
      let it = ask.inputs_ask in
      let is = ask.run_is in
      omega (arith, (task_figures s it.job it.scene.range it.scene.listed).runs m it.there)

  -- what the task's own row costs
  pub own_cost : {own : ℕ} → own ≡ rate s m → own * run ≤ largest_cost
  own_cost {own} rate_is =
      let most : own ≤ largest_rate = omega (arith, ask.inputs_ask.scene.sound.rates m) in
      mul-le-mul most run_at_most

  module _ {starts : List (Option ℕ)} {found : Arrivals} (tried : TriedIs s inputs line turn m starts found) where
    pub ask_least : AskLeast line.ends line.count m found.arrived run
    ask_least =
        let it = ask.inputs_ask in
        let late = tried.arrived_at_most in
        drawn_asks
        (it.ground.held ++ holds it.new)
        line.begins
        line.ends
        line.count
        it.scene.drawn
        m
        found.arrived
        run
        (machine_below has_machine)
        (omega arith)
        (omega (arith, run_at_most))

    module _ {start : ℕ} (least : LeastIs line.begins line.ends line.count m found.arrived run start) {own : ℕ} (rate_is : own ≡ rate s m) where
      abbrev it : Attempt
      it = record { cost = found.cost + own * run; start = start; finish = start + run }

      start_found :
          (j : Job) (g : Ground) (new : List Row) → Scene s j g new inputs line turn →
          start ≡ least_free found.arrived run (spans_on (machine m) (g.held ++ holds new))
      start_found j g new scene =
          least.is (g.held ++ holds new) (machine m) scene.drawn (known_machine has_machine) refl ask.able

      pub figures_fit : AttemptBounds it
      figures_fit =
          let it = ask.inputs_ask in
          let held = it.ground.held ++ holds it.new in
          let late = tried.arrived_at_most in
          let is = start_found it.job it.ground it.new it.scene in
          let early : start ≤ tick_limit
          = omega (arith, drawable_found held it.scene.drawn.drawable (machine m) found.arrived run (omega arith)) in
          let spent = tried.cost_at_most in
          record {
            cost_at_most = omega (arith, own_cost rate_is);
            start_at_most = early;
            finish_at_most = omega (arith, run_at_most);
          }

      is_trial :
          (j : Job) (g : Ground) (new : List Row) → Scene s j g new inputs line turn → Between 1 s.table.machines m →
          run ≡ run_time j (turn.t + 1) m → IsTrial s j g new (turn.t + 1) m it starts
      unfolding try
      is_trial j g new scene there run_is =
          let t = turn.t + 1 in
          let ins : List Row = message_trials s g.held j new m [] (into j t) in
          let from : ℕ = all_arrived (new ++ ins) m (release g j new t) (into j t) in
          let start_is : start ≡ least_free from (run_time j t m) (spans_on (machine m) (g.held ++ holds new))
          = start_found j g new scene
          ∙ ap₂ (λ a l. least_free a l (spans_on (machine m) (g.held ++ holds new))) (tried.arrived_is j g new scene there) run_is in
          let own_row = (try s g j new t m).own in
          let own_cost : own * run ≡ own_row.cost = ap₂ (λ a b. a * b) rate_is run_is in
          let sum = sum_append (λ row. row.cost) ins (own_row ∷ []) in
          let was = tried.cost_is j g new scene there in
          record {
            cost_is = omega arith;
            start_is = start_is;
            finish_is = ap₂ (λ a b. a + b) start_is run_is;
            inputs_are = tried.rows_are j g new scene there ∙ ap (rows_upto s j new m (into j t) starts) (inputs_all scene);
          }

      pub attempt_is : AttemptIs s inputs line turn m run it starts
      attempt_is = record { bounds = figures_fit; is = is_trial }

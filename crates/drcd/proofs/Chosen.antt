-- The choice among the machines, one after the other: what is kept is the foremost of the good trials so far.
use mathlib.Core.Path.{◌≡◌, refl, sym, ap, ◌∙◌, subst}
use mathlib.Core.Bool.{Bool, true, false, not}
use mathlib.Core.List.{List, [], ◌∷◌, ◌++◌, map, map-append, append-nil}
use mathlib.Core.Option.{none, some}
use mathlib.Core.Option as Rules
use Prim.Native.Nat.{ℕ, ◌+◌, ◌-◌, ◌≤◌, ◌<◌}
use native.Mathlib.Omega.{arith}
use lib.Dec.{ltb, leb}
use lib.ListN.{get_or, length, take, drop, length-take, length-drop}
use lib.Seq.{drop-cons}
use borrow.Author.Tests.{le-leb, lt-leb, lt-ltb, le-ltb}
use Rattle.std.proofs.Common.{Option, Some, None}
use Rattle.std.specs.Ordering.{nat_cmp, is_le, is_some_and, partial_ordering_then}
use Rattle.std.proofs.lemmas.Bool.Decides.{nat_tests}
use Rattle.std.proofs.Common.{get_or-take, add-one}
use Rattle.rules.specs.declared.Row.{Row}
use Rattle.rules.specs.declared.Task.{Task}
use Rattle.rules.specs.declared.Job.{Job}
use Rattle.rules.specs.declared.Setup.{Setup}
use Rattle.rules.specs.Sequences.{cons_if, keep, numbers, precedes, foremost}
use Rattle.rules.specs.Words.{most_tasks, no_task, task_of, run_time}
use Rattle.rules.specs.Placing.{Ground, Trial, trial_rows, costs, machine_of, try, good, good_trials, choice}
use Rattle.rules.specs.Bounds.{Between}
use Rattle.rules.proofs.Sequences.{clash, keep_append}
use Rattle.timeline.specs.Spans.{Spans}
use Rattle.drcd.specs.declared.TaskTurn.{TaskTurn}
use Rattle.drcd.specs.declared.Attempt.{Attempt}
use Rattle.drcd.specs.declared.choice.Kept.{Kept}
use Rattle.drcd.specs.declared.inputs.Input.{Input}
use Rattle.drcd.specs.Given.{SomeJob}
use Rattle.drcd.specs.Trials.{Scene, IsTrial, AskAttempt, AttemptBounds, AttemptIs}
use Rattle.drcd.specs.Choice.{AskChoose, ChoiceIs}
use Rattle.drcd.proofs.Listed.{tasks_few, task_at}
use Rattle.drcd.proofs.Foremost.{later, foremost_more, keep_passing, keep_failing}

-- The order of trials.

-- the figures that the rules compare
abbrev pub figures : Trial → List ℕ
figures trial = costs (trial_rows trial) ∷ trial.own.start ∷ machine_of trial.own.holder ∷ []

-- code's test: the cost, and then the start, of what is kept is no higher
abbrev pub comes_first : (kept_cost kept_start cost start : ℕ) → Bool
comes_first kept_cost kept_start cost start = is_some_and is_le (partial_ordering_then (Some (nat_cmp kept_cost cost)) (Some (nat_cmp kept_start start)))

-- a trial takes the place of what is kept
abbrev pub displaces : Attempt → Option Kept → Bool
displaces it None = true
displaces it (Some kept) = not (comes_first kept.best.cost kept.best.start it.cost it.start)

-- on a higher machine it is the rules' order
precedes_kept :
    (cost start m kept_cost kept_start k : ℕ) → k < m →
    precedes (cost ∷ start ∷ m ∷ []) (kept_cost ∷ kept_start ∷ k ∷ []) ≡ not (comes_first kept_cost kept_start cost start)
unfolding precedes
precedes_kept cost start m kept_cost kept_start k h = grind (arith, nat_tests)

-- The good trials of the first n machines.

module _ (s : Setup) (g : Ground) (j : Job) (new : List Row) (t : ℕ) where
  abbrev pub tried : ℕ → Trial
  tried = try s g j new t

  abbrev pub is_good : Trial → Bool
  is_good = good s g j new t

  abbrev pub able : ℕ → Bool
  able m = ltb 0 (run_time j t m)

  abbrev pub trials : ℕ → List Trial
  trials n = keep is_good (map tried (keep able (numbers 1 n)))

  trials_unable : (n : ℕ) → able (n + 1) ≡ false → trials (n + 1) ≡ trials n
  trials_unable n e = ap (λ l. keep is_good (map tried l)) (keep_failing able n e)

  trials_able : (n : ℕ) → able (n + 1) ≡ true → trials (n + 1) ≡ trials n ++ cons_if (is_good (tried (n + 1))) (tried (n + 1)) []
  trials_able n e =
      ap (λ l. keep is_good (map tried l)) (keep_passing able n e)
      ∙ ap (keep is_good) (map-append tried (keep able (numbers 1 n)) ((n + 1) ∷ []))
      ∙ keep_append is_good (map tried (keep able (numbers 1 n))) (tried (n + 1) ∷ [])

  its_machine : (m : ℕ) → machine_of (tried m).own.holder ≡ m
  unfolding try machine_of
  its_machine m = refl

  figures_are : (m : ℕ) {it : Attempt} {starts : List (Option ℕ)} → IsTrial s j g new t m it starts → figures (tried m) ≡ it.cost ∷ it.start ∷ m ∷ []
  figures_are m its = rw (its.cost_is, its.start_is, its_machine m) refl

  -- the trial of the machine that is kept
  abbrev pub kept_trial : Option Kept → Rules.Option Trial
  kept_trial None = none
  kept_trial (Some kept) = some (tried kept.machine)

  -- what is kept is the trial of one of the first n machines
  abbrev pub Keeps : (n : ℕ) (starts : List (Option ℕ)) → Option Kept → Type 0
  Keeps n starts None = Unit {0}
  Keeps n starts (Some kept) = (kept.machine ≤ n) × IsTrial s j g new t kept.machine kept.best starts

  keeps_more : (n : ℕ) (starts : List (Option ℕ)) (kept : Option Kept) → Keeps n starts kept → Keeps (n + 1) starts kept
  keeps_more n starts None keeps = tt
  keeps_more n starts (Some kept) keeps = (omega arith, keeps.1)

  -- the rules' order is code's test
  module _ (n : ℕ) (starts : List (Option ℕ)) {it : Attempt} {found : List (Option ℕ)} (its : IsTrial s j g new t (n + 1) it found) where
    order : (kept : Kept) → Keeps n starts (Some kept) → precedes (figures (tried (n + 1))) (figures (tried kept.machine)) ≡ displaces it (Some kept)
    order kept keeps =
        let same = precedes_kept it.cost it.start (n + 1) kept.best.cost kept.best.start kept.machine (omega arith) in
        rw (figures_are (n + 1) its, figures_are kept.machine keeps.1) same

    later_stays :
        (kept : Option Kept) → Keeps n starts kept → displaces it kept ≡ false → some (later figures (tried (n + 1)) (kept_trial kept)) ≡ kept_trial kept
    later_stays None keeps e = clash refl e
    later_stays (Some kept) keeps e = rw (order kept keeps ∙ e) refl

    later_taken : (kept : Option Kept) → Keeps n starts kept → displaces it kept ≡ true → later figures (tried (n + 1)) (kept_trial kept) ≡ tried (n + 1)
    later_taken None keeps e = refl
    later_taken (Some kept) keeps e = rw (order kept keeps ∙ e) refl

-- what is kept is the foremost of them
pub record IsBest (s : Setup) (g : Ground) (j : Job) (new : List Row) (t n : ℕ) (kept : Option Kept) (starts : List (Option ℕ)) : Type 0 where
  pub keeps : Keeps s g j new t n starts kept
  pub foremost_is : foremost figures (trials s g j new t n) ≡ kept_trial s g j new t kept

best_none : (s : Setup) (g : Ground) (j : Job) (new : List Row) (t : ℕ) (starts : List (Option ℕ)) → IsBest s g j new t 0 None starts
unfolding foremost
best_none s g j new t starts = record { keeps = tt; foremost_is = refl }

module _ {s : Setup} {g : Ground} {j : Job} {new : List Row} {t n : ℕ} {kept : Option Kept} {starts : List (Option ℕ)}
    (best : IsBest s g j new t n kept starts)
  where
    abbrev following : Trial
    following = tried s g j new t (n + 1)

    best_same : trials s g j new t (n + 1) ≡ trials s g j new t n → IsBest s g j new t (n + 1) kept starts
    best_same e = record { keeps = keeps_more s g j new t n starts kept best.keeps; foremost_is = rw e best.foremost_is }

    best_unable : run_time j t (n + 1) ≡ 0 → IsBest s g j new t (n + 1) kept starts
    best_unable e = best_same (trials_unable s g j new t n (le-ltb 0 (run_time j t (n + 1)) (omega arith)))

    module _ (runs : 1 ≤ run_time j t (n + 1)) {it : Attempt} {found : List (Option ℕ)} (its : IsTrial s j g new t (n + 1) it found) where
      -- it is good if code's finish is not past the deadline
      with_it : trials s g j new t (n + 1) ≡ trials s g j new t n ++ cons_if (leb it.finish (task_of j t).deadline) following []
      unfolding good
      with_it =
          trials_able s g j new t n (lt-ltb 0 (run_time j t (n + 1)) runs)
          ∙ ap (λ x. trials s g j new t n ++ cons_if (leb x (task_of j t).deadline) following []) (sym its.finish_is)

      best_late : (task_of j t).deadline < it.finish → IsBest s g j new t (n + 1) kept starts
      best_late late =
          best_same (rw (with_it, lt-leb it.finish (task_of j t).deadline late) (append-nil (trials s g j new t n)))

      module _ (in_time : it.finish ≤ (task_of j t).deadline) where
        foremost_next : foremost figures (trials s g j new t (n + 1)) ≡ some (later figures following (kept_trial s g j new t kept))
        foremost_next =
            rw
            (with_it, le-leb it.finish (task_of j t).deadline in_time)
            (foremost_more figures (trials s g j new t n) following ∙ ap (λ o. some (later figures following o)) best.foremost_is)

        best_stays : displaces it kept ≡ false → IsBest s g j new t (n + 1) kept starts
        best_stays e =
            record {
              keeps = keeps_more s g j new t n starts kept best.keeps;
              foremost_is = foremost_next ∙ later_stays s g j new t n starts its kept best.keeps e;
            }

        best_taken : displaces it kept ≡ true → IsBest s g j new t (n + 1) (Some (record { machine = n + 1; best = it })) found
        best_taken e =
            record {
              keeps = (omega arith, its);
              foremost_is = foremost_next ∙ ap some (later_taken s g j new t n starts its kept best.keeps e);
            }

-- Machine by machine.

-- the first of the elements left
first_left :
    (xs : List ℕ) (i x : ℕ) (left : List ℕ) → drop i xs ≡ x ∷ left →
    (i < length xs) × (x ≡ get_or xs i 0) × (left ≡ drop (i + 1) xs)
first_left xs i x left e =
    let below : i < length xs = omega (arith, ap length e, length-drop i xs) in
    let both = sym e ∙ drop-cons xs i 0 below in
    (below, cc, rw add-one (cc))

-- the run times of the task of a turn, by machine
abbrev pub runs_of : Job → TaskTurn → List ℕ
runs_of j turn = (get_or j.tasks turn.t no_task).runs

-- what is kept before a machine is tried, whose run time stands first among those left
pub record Chosen
    (s : Setup) (j : Job) (inputs : List Input) (line : Spans) (turn : TaskTurn)
    (kept : Option Kept) (starts : List (Option ℕ)) (machine : ℕ) (left : List ℕ)
    : Type 0
  where
    pub passed : ℕ
    pub next : machine ≡ passed + 1
    pub within : passed ≤ s.table.machines
    pub room : s.table.machines ≤ length (runs_of j turn)
    pub left_is : left ≡ drop passed (take s.table.machines (runs_of j turn))
    pub bounds : (k : Kept) → kept ≡ Some k → AttemptBounds k.best
    pub is : (g : Ground) (new : List Row) → Scene s j g new inputs line turn → IsBest s g j new (turn.t + 1) passed kept starts

module _ {s : Setup} {j : Job} {inputs : List Input} {line : Spans} {turn : TaskTurn} (ask : AskChoose s j inputs line turn) where
  abbrev Now : Option Kept → List (Option ℕ) → ℕ → List ℕ → Type 0
  Now = Chosen s j inputs line turn

  pub turn_few : turn.t < most_tasks
  turn_few =
      let some : SomeJob j = record { setup = s; range = ask.scene.range } in
      let last = ask.scene.listed.last in
      omega (arith, tasks_few some)

  pub chosen_none : {starts : List (Option ℕ)} → s.table.machines ≤ length (runs_of j turn) → Now None starts 1 (take s.table.machines (runs_of j turn))
  chosen_none {starts} room = record {
    passed = 0;
    next = refl;
    within = omega arith;
    room = room;
    left_is = refl;
    bounds = λ k e. absurd (cc);
    is = λ g new scene. best_none s g j new (turn.t + 1) starts;
  }

  module _ {kept : Option Kept} {starts : List (Option ℕ)} {machine : ℕ} {left : List ℕ} (now : Now kept starts machine left) where
    pub chosen_all : length left ≡ 0 → ChoiceIs s j inputs line turn kept starts
    unfolding choice good_trials
    chosen_all over = record {
      bounds = now.bounds;
      is = λ g new scene.
          let within = now.within in
          let room = now.room in
          let past = sym (ap length now.left_is) ∙ over in
          let whole : now.passed ≡ s.table.machines
          = omega (arith, past, length-drop now.passed (take s.table.machines (runs_of j turn)), length-take s.table.machines (runs_of j turn)) in
          let best = rw whole at (now.is g new scene) in
          record {
            none_found = λ e. best.foremost_is ∙ ap (kept_trial s g j new (turn.t + 1)) e;
            one_found = λ k e. (
              best.foremost_is ∙ ap (kept_trial s g j new (turn.t + 1)) e,
              (subst (Keeps s g j new (turn.t + 1) s.table.machines starts) e best.keeps).1,
            );
          };
    }

    module _ {run : ℕ} {later : List ℕ} (step : left ≡ run ∷ later) where
      abbrev task : Task
      task = get_or j.tasks turn.t no_task

      parts :
          (now.passed < length (take s.table.machines task.runs))
          × (run ≡ get_or (take s.table.machines task.runs) now.passed 0)
          × (later ≡ drop (now.passed + 1) (take s.table.machines task.runs))
      parts = first_left (take s.table.machines task.runs) now.passed run later (sym now.left_is ∙ step)

      further : now.passed + 1 ≤ s.table.machines
      further = omega (arith, parts.0, length-take s.table.machines task.runs)

      there : Between 1 s.table.machines machine
      there = let next = now.next in record { first = omega arith; last = omega (arith, further) }

      run_next : run ≡ run_time j (turn.t + 1) (now.passed + 1)
      run_next =
          let same : now.passed + 1 - 1 ≡ now.passed = omega arith in
          parts.1
          ∙ get_or-take s.table.machines task.runs now.passed 0 (omega (arith, further))
          ∙ ap (λ i. get_or task.runs i 0) (sym same)
          ∙ ap (λ task. get_or task.runs (now.passed + 1 - 1) 0) (sym (task_at j turn.t))

      run_is : run ≡ run_time j (turn.t + 1) machine
      run_is = run_next ∙ ap (run_time j (turn.t + 1)) (sym now.next)

      deadline_is : task.deadline ≡ (task_of j (turn.t + 1)).deadline
      deadline_is = ap (λ task. task.deadline) (sym (task_at j turn.t))

      -- what is kept stays
      same :
          ((g : Ground) (new : List Row) → Scene s j g new inputs line turn → IsBest s g j new (turn.t + 1) (now.passed + 1) kept starts) →
          Now kept starts (machine + 1) later
      same is = record {
        passed = now.passed + 1;
        next = ap (λ m. m + 1) now.next;
        within = further;
        room = now.room;
        left_is = parts.2;
        bounds = now.bounds;
        is = is;
      }

      pub chosen_unable : run ≡ 0 → Now kept starts (machine + 1) later
      chosen_unable unable = same (λ g new scene. best_unable (now.is g new scene) (sym run_next ∙ unable))

      module _ (able : run ≡ 0 → ⊥) where
        runs : 1 ≤ run_time j (turn.t + 1) (now.passed + 1)
        runs = omega (arith, able, run_next)

        -- what a trial of the machine asks
        pub chosen_asks : AskAttempt s inputs line turn machine run
        chosen_asks = record {
          inputs_ask = record { job = j; ground = ask.ground; new = ask.new; scene = ask.scene; there = there };
          run_is = run_is;
          able = omega (arith, able);
        }

        module _ {it : Attempt} {found : List (Option ℕ)} (result : AttemptIs s inputs line turn machine run it found) where
          its : {g : Ground} {new : List Row} → Scene s j g new inputs line turn → IsTrial s j g new (turn.t + 1) (now.passed + 1) it found
          its {g} {new} scene = rw now.next at (result.is j g new scene there run_is)

          pub chosen_late : task.deadline < it.finish → Now kept starts (machine + 1) later
          chosen_late late = same (λ g new scene. best_late (now.is g new scene) runs (its scene) (omega (arith, deadline_is)))

          module _ (in_time : it.finish ≤ task.deadline) where
            timely : it.finish ≤ (task_of j (turn.t + 1)).deadline
            timely = omega (arith, deadline_is)

            pub chosen_stays : displaces it kept ≡ false → Now kept starts (machine + 1) later
            chosen_stays e = same (λ g new scene. best_stays (now.is g new scene) runs (its scene) timely e)

            pub chosen_taken : displaces it kept ≡ true → Now (Some (record { machine = machine; best = it })) found (machine + 1) later
            chosen_taken e = record {
              passed = now.passed + 1;
              next = ap (λ m. m + 1) now.next;
              within = further;
              room = now.room;
              left_is = parts.2;
              bounds = λ k e. subst AttemptBounds (cc) result.bounds;
              is = λ g new scene. rw now.next (best_taken (now.is g new scene) runs (its scene) timely e);
            }

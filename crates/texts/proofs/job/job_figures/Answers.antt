-- `texts::job::job_figures` meets its contract: three figures, one task in a turn, and the messages behind their count.
use mathlib.Core.Path.{◌≡◌, sym, ap, ◌∙◌}
use Prim.Native.Nat.{◌+◌, ◌*◌, ◌≤◌}
use native.Mathlib.Omega.{arith}
use borrow.Author.Count.{below_more}
use lib.ListN.{length, get_or, length-take, length-set}
use Rattle.std.proofs.lemmas.List.{get_or_default, get_or-take}
use Rattle.rules.specs.Words.{most_tasks, most_machines, no_task}
use Rattle.rules.proofs.Indexed.{length_mapped}
use Rattle.texts.specs.JobText.{head_size, task_size}
use Rattle.texts.specs.Rows.{most_figures}
use Rattle.texts.proofs.Figured.{tasks_within}
use Rattle.texts.proofs.Laid.{laid_within, laid_more, laid_all, put_job}
use Rattle.texts.proofs.job.job_figures.Goals as goal
use Rattle.texts.proofs.job.job_figures.Goals.{At-loop-task}

-- the listed tasks have their place
within : (c : At-loop-task) → length c.tasks-task-items.result.now * task_size c.args.machines ≤ most_tasks * task_size most_machines
within c = tasks_within c.requires.machines_at_most (omega (arith, c.requires.tasks_at_most, c.tasks-task-items.ensures.long))

-- the row keeps its length, and what is put in has its place
row_long : (c : At-loop-task) → length c.loop-task.row ≡ most_figures
row_long c = c.loop-task.invariant.laid.long ∙ simp length-set c.requires.long

place : (c : At-loop-task) → c.loop-task.at ≤ head_size + most_tasks * task_size most_machines
place c = omega (arith, laid_within c.loop-task.invariant.laid, within c)

pub loop-task-preserved : goal.loop-task-preserved
loop-task-preserved c =
    let few = within (goal.at.loop-task-preserved c).At-loop-task in
    let long = c.requires.long in
    let taken = c.loop-task-test.true in
    record {
      laid = laid_more c.loop-task.invariant.laid _ (simp length-set (omega arith)) taken (simp length-take (omega arith)) c.put_task-at.ensures.puts;
      runs_long =
          below_more _ _ c.loop-task.invariant.runs_long (ap (λ t. length t.runs) (get_or_default _ _ no_task _ taken) ∙ c.put_task-at.ensures.runs_long);
    }

pub returns : goal.returns
returns c =
    let job = c.args.job.now in
    let long = c.requires.long in
    let listed = c.tasks-task-items.ensures.listed in
    let tasks = rw listed at (laid_all c.loop-task.invariant.laid c.loop-task-test.false) in
    let all : length c.args.job.now.tasks ≡ most_tasks = search length_mapped in
    let at = (goal.at.returns c).At-loop-task in
    record {
      puts = put_job c.args.row.now c.args.machines job (omega arith) tasks (omega (arith, place at, row_long at)) c.put_messages.ensures;
      tasks_long = all;
      messages_long = search length_mapped;
      runs_long = λ i h.
          ap (λ t. length t.runs) (sym (get_or-take job.taskcount job.tasks i no_task h) ∙ ap (λ l. get_or l i no_task) (sym listed))
          ∙ c.loop-task.invariant.runs_long i (omega (arith, c.loop-task-test.false, c.tasks-task-items.ensures.long));
    }

-- `texts::job::job_of` meets its contract: its entries are the row's groups, and zeros past them.
use mathlib.Core.Path.{refl}
use Prim.Native.Nat.{◌+◌}
use Rattle.std.proofs.Common.{rules}
use Rattle.rules.specs.Words.{no_message}
use Rattle.texts.specs.JobText.{head_size, task_size, message_size, messages_at, task_said, message_said, task_of_zeros}
use Rattle.texts.proofs.Made.{made_groups, zero_task}
use Rattle.texts.proofs.job.job_of.Goals as goal

pub returns : goal.returns
returns c =
    let a = c.args in
    let row = a.row.now in
    rw (
      made_groups
          task_said
          (task_size a.machines)
          head_size
          row
          task_of_zeros
          c.filled.ensures
          c.requires.tasks_at_most
          (λ i task made. search rules)
          (λ task zero. search (zero_task, rules)),
      made_groups
          message_said
          message_size
          (messages_at a.machines row + 1)
          row
          no_message
          c.filled-2.ensures
          c.requires.messages_at_most
          (λ i message made. search rules)
          (λ message zero. search rules),
    )
    refl

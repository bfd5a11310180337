-- Where the entries of a job stand in its row, what a row without figures says, and how many machines the default table has.
use mathlib.Core.Path.{◌≡◌, refl, sym, ap, ◌∙◌}
use mathlib.Core.List.{List}
use Prim.Native.Nat.{ℕ, zero, suc, ◌+◌, ◌-◌, ◌*◌, ◌<◌}
use native.Mathlib.Nat.{zero-mul, suc-mul}
use native.Mathlib.Omega.{arith}
use lib.ListN.{get_or, take, drop, get_or-append}
use lib.Seq.{drop-drop}
use Rattle.rules.specs.Words.{no_task, no_message, most_tasks, most_messages}
use Rattle.texts.specs.JobText.{groups, filled, task_said, message_said, task_of_zeros, job_said}
use Rattle.texts.specs.JobText.{head_size, task_size, message_size, messages_at}
use Rattle.texts.specs.Laws.{NoneSaid, TaskStands, MessageStands}
use Rattle.texts.proofs.Groups.{groups_length}

groups_at :
    {A : Type 0} (said : List ℕ → A) (size n : ℕ) (figures : List ℕ) (i : ℕ) (none : A) → i < n →
    get_or (groups said size n figures) i none ≡ said (take size (drop (i * size) figures))
unfolding groups
groups_at said size zero figures i none h = absurd (omega arith)
groups_at said size (suc n) figures zero none h = ap (λ k. said (take size (drop k figures))) (sym (zero-mul size))
groups_at said size (suc n) figures (suc i) none h =
    let more = suc-mul i size in
    let on : size + i * size ≡ suc i * size = omega arith in
    groups_at said size n (drop size figures) i none (omega arith)
    ∙ ap (λ l. said (take size l)) (drop-drop (i * size) size figures ∙ ap (λ k. drop k figures) on)

-- the entry at an index below the count, in an array filled up with blank ones
filled_at :
    {A : Type 0} (said : List ℕ → A) (size n : ℕ) (figures : List ℕ) (i : ℕ) (blank none : A) (most : ℕ) → i < n →
    get_or (filled blank most (groups said size n figures)) i none ≡ said (take size (drop (i * size) figures))
filled_at said size n figures i blank none most h =
    let long = groups_length said size n figures in
    get_or-append (groups said size n figures) _ none i (omega arith) ∙ groups_at said size n figures i none h

-- the same where the groups begin at a place of the row
pub group_of :
    {A : Type 0} (said : List ℕ → A) (size n from : ℕ) (row : List ℕ) (i : ℕ) (blank none : A) (most : ℕ) → i < n →
    get_or (filled blank most (groups said size n (drop from row))) i none ≡ said (take size (drop (from + i * size) row))
group_of said size n from row i blank none most h =
    filled_at said size n (drop from row) i blank none most h ∙ ap (λ l. said (take size l)) (drop-drop (i * size) from row)

pub none_said : NoneSaid
unfolding groups
none_said machines = refl

pub task_stands : TaskStands
task_stands machines index row h =
    let same : index + 1 - 1 ≡ index = omega arith in
    ap (λ i. get_or (job_said machines row).tasks i no_task) same
    ∙ group_of task_said (task_size machines) (get_or row 2 0) head_size row index task_of_zeros no_task most_tasks h

pub message_stands : MessageStands
message_stands machines index row h =
    group_of
    message_said
    message_size
    (get_or row (messages_at machines row) 0)
    (messages_at machines row + 1)
    row
    index
    no_message
    no_message
    most_messages
    h

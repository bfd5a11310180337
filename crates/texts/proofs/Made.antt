-- A job's tasks and messages, as arrays that are filled item by item.
use mathlib.Core.Path.{◌≡◌, sym, ◌∙◌}
use mathlib.Core.List.{List}
use Prim.Native.Nat.{ℕ, ◌+◌, ◌-◌, ◌*◌, ◌≤◌}
use native.Mathlib.Omega.{arith}
use lib.ListN.{length, take, drop, replicate, length-append, length-replicate}
use Rattle.std.specs.Array.{AllOfLen}
use Rattle.std.proofs.lemmas.List.{ext_get_or, get_or-append_right, get_or-replicate}
use Rattle.rules.specs.declared.Task.{Task}
use Rattle.rules.specs.Words.{most_machines}
use Rattle.rules.proofs.Sequences.{by_less}
use Rattle.texts.specs.JobText.{groups, filled, task_of_zeros}
use Rattle.rules.specs.Arrays.{MadeBy}
use Rattle.texts.proofs.Groups.{groups_length}
use Rattle.texts.proofs.Entries.{group_of}

-- items that say a row's groups, from a place on, and blank ones past them
pub made_groups :
    {A : Type 0} (said : List ℕ → A) (size from : ℕ) (row : List ℕ) (blank : A) {most count : ℕ} {Made : ℕ → A → Type 0} {IsBlank : A → Type 0}
    {items : List A} → MadeBy Made IsBlank most count items → count ≤ most →
    ((i : ℕ) (a : A) → Made i a → a ≡ said (take size (drop (from + i * size) row))) → ((a : A) → IsBlank a → a ≡ blank) →
    items ≡ filled blank most (groups said size count (drop from row))
made_groups {A} said size from row blank {most} {count} {items = items} made few said_is blank_is =
    let cut : List A = groups said size count (drop from row) in
    let many : length cut ≡ count = groups_length said size count (drop from row) in
    let all = length-append cut (replicate (most - length cut) blank) in
    let rest = length-replicate (most - length cut) blank in
    let long = made.long in
    ext_get_or blank items (filled blank most cut) (omega arith) (λ i h.
    by_less
    i
    count
    (λ l. said_is i _ (made.made_is i blank (omega arith) l) ∙ sym (group_of said size count from row i blank blank most l))
    (λ l.
    blank_is _ (made.past_is i blank (omega arith) l)
    ∙ sym (get_or-append_right cut _ count i blank many l ∙ get_or-replicate (most - length cut) (i - count) blank blank (omega arith))))

-- a task whose every figure is 0
pub zero_task : {t : Task} → t.deadline ≡ 0 → t.dispatch ≡ 0 → AllOfLen (λ n. n ≡ 0) t.runs most_machines → t ≡ task_of_zeros
zero_task {t} d e runs =
    let long = runs.long in
    let zeros : t.runs ≡ replicate most_machines 0 =
    ext_get_or 0 t.runs _ (omega arith) (λ i h. runs.at i 0 (omega arith) ∙ sym (get_or-replicate most_machines i 0 0 (omega arith)))
    in
    λ i. record { deadline = d i; dispatch = e i; runs = zeros i }

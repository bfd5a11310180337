-- The job that a row of figures says: its entries, cut from the row one by one, and what was read into it.
use mathlib.Core.Path.{◌≡◌, refl, sym, ap, ◌∙◌}
use mathlib.Core.List.{List, ◌++◌}
use Prim.Native.Nat.{ℕ, ◌+◌, ◌-◌, ◌*◌, ◌≤◌, ◌<◌}
use native.Mathlib.Nat.{add-zero, mul-le-mul}
use native.Mathlib.Omega.{arith}
use lib.ListN.{length, get_or, take, drop, replicate, length-drop}
use lib.Seq.{drop-drop, get_or-take, get_or-drop, length-take-le}
use Rattle.std.proofs.lemmas.List.{drop-replicate, drop-take}
use Rattle.std.proofs.Common.{Result, Ok, Err}
use Rattle.rules.specs.declared.Task.{Task}
use Rattle.rules.specs.Words.{most_tasks, most_machines}
use Rattle.lines.specs.declared.line.Reading.{Reading}
use Rattle.lines.specs.declared.line.Unread.{Unread}
use Rattle.lines.specs.Lines.{Parsed, parsed, refused}
use Rattle.lines.specs.Readings.{fault_number, reading_said}
use Rattle.texts.specs.Forms.{read}
use Rattle.texts.specs.JobText.{filled, task_said, task_size}
use Rattle.texts.specs.JobText.{job_form, messages_at, job_said, as_job, job_text}
use Rattle.texts.specs.Reader.{with_count}
use Rattle.texts.specs.Parts.{AtMost, FormRead}
use Rattle.texts.specs.Rows.{most_figures, CountsInRange}
use Rattle.texts.proofs.FormLaws.{read_is_written}
use Rattle.texts.proofs.Staged.{at_most_more}
use Rattle.texts.proofs.JobForm.{job_form_at_most}
use Rattle.texts.proofs.JobParts.{Parts, filled_parts}
use Rattle.texts.proofs.JobLaws.{row_said, parts_said}

-- the figures of tasks leave room for those of the messages
pub tasks_within : {machines n : ℕ} → machines ≤ most_machines → n ≤ most_tasks → n * task_size machines ≤ most_tasks * task_size most_machines
tasks_within {machines} few h = let size : task_size machines ≤ task_size most_machines = omega arith in mul-le-mul h size

-- a group's figures stand in the row
in_group : (size at k : ℕ) (row : List ℕ) → k < size → get_or row (at + k) 0 ≡ get_or (take size (drop at row)) k 0
in_group size at k row h = sym (get_or-take size (drop at row) k 0 h ∙ get_or-drop at row k 0)

first_of_group : (size at : ℕ) (row : List ℕ) → 0 < size → get_or row at 0 ≡ get_or (take size (drop at row)) 0 0
first_of_group size at row h = ap (λ n. get_or row n 0) (sym (add-zero at)) ∙ in_group size at 0 row h

-- Entries where they stand in a row.

-- a task's run times are copied from behind its two figures, and stand before zeros
pub task_there :
    (row : List ℕ) (from machines : ℕ) {runs : List ℕ} → machines ≤ most_machines → from + task_size machines ≤ length row →
    runs ≡ take (from + 2 + machines - (from + 2)) (drop (from + 2) row) →
    ◌≡◌
    {A = Task}
    (record { deadline = get_or row from 0; dispatch = get_or row (from + 1) 0; runs = runs ++ drop machines (replicate most_machines 0) })
    (task_said (take (task_size machines) (drop from row)))
task_there row from machines {runs} few room e =
    let group : List ℕ = take (task_size machines) (drop from row) in
    let cut : from + 2 + machines - (from + 2) ≡ machines = omega arith in
    let all : runs ≡ drop 2 group = rw cut at e ∙ ap (take machines) (sym (drop-drop 2 from row)) ∙ sym (drop-take 2 machines (drop from row)) in
    let many : length (drop 2 group) ≡ machines =
    ap length (sym all ∙ rw cut at e) ∙ length-take-le machines (drop (from + 2) row) (omega (arith, length-drop (from + 2) row))
    in
    let filled_up : runs ++ drop machines (replicate most_machines 0) ≡ filled 0 most_machines (drop 2 group) =
    rw (drop-replicate {X = ℕ} machines most_machines 0, all, many) refl
    in
    λ i. record {
      deadline = first_of_group (task_size machines) from row (omega arith) i;
      dispatch = in_group (task_size machines) from 1 row (omega arith) i;
      runs = filled_up i;
    }

-- A job that was read.

-- its row has room for every job
pub job_room : (machines : ℕ) → machines ≤ most_machines → AtMost most_figures (job_form machines)
job_room machines h = at_most_more (job_form_at_most machines) (omega arith)

-- the figures that were read stand in the row, and are those of a job's parts
pub record RowRead (machines : ℕ) (text old row : List ℕ) (next : ℕ) : Type 0 where
  pub figures : List ℕ
  pub read_is : read (job_form machines) text 0 ≡ parsed figures next
  pub row_is : row ≡ figures ++ drop (length figures) old
  pub parts : Parts machines figures

module _ (machines : ℕ) {text old row : List ℕ} {r : Result (Reading ℕ) Unread} (w : FormRead (job_form machines) text old row r) where
  -- what was said to be found, by what the form finds
  found : {p : Parsed ℕ} {q : Parsed (List ℕ)} → reading_said r ≡ p → read (job_form machines) text 0 ≡ q → p ≡ with_count q
  found e f = sym e ∙ w.reading_is ∙ ap with_count f

  pub row_read : {it : Reading ℕ} → r ≡ Ok it → RowRead machines text old row it.next
  row_read {it} e = go (read (job_form machines) text 0) refl
    where
      go : (p : Parsed (List ℕ)) → read (job_form machines) text 0 ≡ p → RowRead machines text old row it.next
      go (parsed ns last) f =
          let same = found (ap reading_said e) f in
          let end : last ≡ it.next = cc in
          record {
            figures = ns;
            read_is = f ∙ ap (parsed ns) end;
            row_is = w.figures_are ns last f;
            parts = filled_parts machines ns (read_is_written (job_form machines) text 0 ns last f).0;
          }
      go (refused number place) f = let same = found (ap reading_said e) f in cc

  -- a refused line refuses the job
  pub job_unread : {u : Unread} → r ≡ Err u → refused (fault_number u.fault) u.at ≡ job_text machines text
  unfolding job_text
  job_unread {u} e = go (read (job_form machines) text 0) refl
    where
      go : (p : Parsed (List ℕ)) → read (job_form machines) text 0 ≡ p → refused (fault_number u.fault) u.at ≡ as_job machines p
      go (parsed ns last) f = let same = found (ap reading_said e) f in cc
      go (refused number place) f = let same = found (ap reading_said e) f in cc

module _ {machines : ℕ} {text old row : List ℕ} {next : ℕ} (w : RowRead machines text old row next) where
  row_is_said : job_said machines row ≡ job_said machines w.figures
  row_is_said = ap (job_said machines) w.row_is ∙ row_said machines w.parts (drop (length w.figures) old) ∙ sym (parts_said machines w.parts)

  pub row_counts : machines ≤ most_machines → CountsInRange machines row
  row_counts few =
      let said = row_is_said ∙ parts_said machines w.parts in
      let tasks : get_or row 2 0 ≡ w.parts.taskcount = ap (λ j. j.taskcount) said in
      let messages : get_or row (messages_at machines row) 0 ≡ w.parts.messagecount = ap (λ j. j.messagecount) said in
      let t = w.parts.tasks_at_most in
      let m = w.parts.messages_at_most in
      record { machines_at_most = few; tasks_at_most = omega arith; messages_at_most = omega arith }

  -- what the figures say that were read, whatever stood in the row
  pub row_job : parsed (job_said machines row) next ≡ job_text machines text
  unfolding job_text
  row_job = ap (λ j. parsed j next) row_is_said ∙ ap (as_job machines) (sym w.read_is)

-- Jobs and their figures: what figures say has those figures again, what is said of a job's figures is the job, and what fills the form is a writable job's.
use mathlib.Core.Path.{◌≡◌, refl, sym, ap, ◌∙◌, subst}
use mathlib.Core.Bool.{true, ◌&&◌}
use mathlib.Core.List.{List, [], ◌∷◌, ◌++◌, map, append_assoc, append-nil}
use Prim.Native.Nat.{ℕ, ◌+◌, ◌*◌, ◌≤◌, ◌<◌}
use native.Mathlib.Nat.{add-zero}
use native.Mathlib.Omega.{arith}
use lib.Dec.{leb}
use lib.ListN.{length, get_or, take, drop}
use lib.Seq.{drop-drop, take_at, drop_at, drop-append_seam, length-take-le, get_or-take}
use borrow.Author.Tests.{le-leb, leb-true}
use Rattle.std.proofs.lemmas.List.{map-id, get_or-drop}
use Rattle.rules.specs.declared.Job.{Job}
use Rattle.rules.specs.Words.{most_tasks, most_messages, no_task, no_message}
use Rattle.rules.specs.Sequences.{all_of, joined}
use Rattle.rules.proofs.Sequences.{clash, by_test, and_true, and_both}
use Rattle.std.specs.Prelude.{Result}
use Rattle.lines.specs.declared.line.Reading.{Reading}
use Rattle.lines.specs.declared.line.Unread.{Unread}
use Rattle.lines.specs.Lines.{Parsed, parsed, refused}
use Rattle.texts.specs.Forms.{read, written, fills}
use Rattle.texts.specs.JobText.{job_form, head_size}
use Rattle.texts.specs.JobText.{groups, filled, task_said, message_said, task_of_zeros, task_size, message_size, messages_at, job_said}
use Rattle.texts.specs.JobText.{as_job, job_text}
use Rattle.texts.specs.Reader.{with_count, job_counted, Reads, ReadsCount}
use Rattle.texts.specs.JobText.{task_figures, message_figures, job_figures, short, writable, written_job, blanked_task, blanked}
use Rattle.lines.specs.Laws.{Stands}
use Rattle.texts.specs.Laws.{Sized, FiguresAgain, SaidAgain, WrittenAgain, ReadsBackAlways, FillsIfWritable}
use Rattle.lines.proofs.Standing.{stands_take}
use Rattle.texts.proofs.FormLaws.{read_is_written, filled_reads}
use Rattle.texts.proofs.JobParts.{Parts, filled_parts, parts_fill}
use Rattle.texts.proofs.Groups.{groups_length, groups_front, joined_groups, joined_length, groups_joined}

-- What a job's parts say.

module _ (machines : ℕ) {ns : List ℕ} (p : Parts machines ns) where
  abbrev pub said : Job
  said = record {
    number = p.number;
    scheduling = p.scheduling;
    taskcount = p.taskcount;
    tasks = filled task_of_zeros most_tasks (groups task_said (task_size machines) p.taskcount p.tasks);
    messagecount = p.messagecount;
    messages = filled no_message most_messages (groups message_said message_size p.messagecount p.messages);
  }

  -- whatever figures follow
  module _ (rest : List ℕ) where
    abbrev sent_figures : List ℕ
    sent_figures = p.messagecount ∷ (p.messages ++ rest)

    abbrev in_parts : List ℕ
    in_parts = p.number ∷ p.scheduling ∷ p.taskcount ∷ (p.tasks ++ sent_figures)

    whole_row : ns ++ rest ≡ in_parts
    whole_row =
        ap (λ l. l ++ rest) p.whole
        ∙ ap (λ l. p.number ∷ p.scheduling ∷ p.taskcount ∷ l) (append_assoc p.tasks (p.messagecount ∷ p.messages) rest)

    -- the count of messages has its place
    past_tasks : drop (messages_at machines in_parts) in_parts ≡ sent_figures
    past_tasks = subst (λ k. drop k in_parts ≡ sent_figures) at (drop-append_seam (p.number ∷ p.scheduling ∷ p.taskcount ∷ p.tasks) sent_figures)
      where
        at : length (p.number ∷ p.scheduling ∷ p.taskcount ∷ p.tasks) ≡ messages_at machines in_parts
        at = let many = p.tasks_many in omega arith

    count_there : get_or in_parts (messages_at machines in_parts) 0 ≡ p.messagecount
    count_there =
        ap (λ k. get_or in_parts k 0) (sym (add-zero (messages_at machines in_parts)))
        ∙ sym (get_or-drop (messages_at machines in_parts) in_parts 0 0)
        ∙ ap (λ l. get_or l 0 0) past_tasks

    messages_there : drop (messages_at machines in_parts + 1) in_parts ≡ p.messages ++ rest
    messages_there = sym (drop-drop 1 (messages_at machines in_parts) in_parts) ∙ ap (drop 1) past_tasks

    pub row_said : job_said machines (ns ++ rest) ≡ said
    row_said =
        ap (job_said machines) whole_row
        ∙ (λ i. record {
          number = p.number;
          scheduling = p.scheduling;
          taskcount = p.taskcount;
          tasks = filled task_of_zeros most_tasks (groups_front task_said (task_size machines) p.taskcount p.tasks sent_figures p.tasks_many i);
          messagecount = count_there i;
          messages = filled no_message most_messages (groups message_said message_size (count_there i) (messages_there i));
        })
        ∙ ap
        (λ l. record {
          number = p.number;
          scheduling = p.scheduling;
          taskcount = p.taskcount;
          tasks = said.tasks;
          messagecount = p.messagecount;
          messages = filled no_message most_messages l;
        })
        (groups_front message_said message_size p.messagecount p.messages rest p.messages_many)

  pub parts_said : job_said machines ns ≡ said
  parts_said = ap (job_said machines) (sym (append-nil ns)) ∙ row_said []

  -- the groups that stand in a filled array
  kept_groups : {A : Type 0} (said_of : List ℕ → A) (size n : ℕ) (blank : A) (most : ℕ) (fs : List ℕ) →
      take n (filled blank most (groups said_of size n fs)) ≡ groups said_of size n fs
  kept_groups said_of size n blank most fs = take_at (groups said_of size n fs) _ n (groups_length said_of size n fs)

  -- the job that is said has the figures again
  pub figures_said : job_figures machines (job_said machines ns) ≡ ns
  figures_said =
      ap (job_figures machines) parts_said
      ∙ ap
      (λ l. p.number ∷ p.scheduling ∷ p.taskcount ∷ (joined (map (task_figures machines) l) ++
      (p.messagecount ∷ joined (map message_figures (take p.messagecount said.messages)))))
      (kept_groups task_said (task_size machines) p.taskcount task_of_zeros most_tasks p.tasks)
      ∙ ap
      (λ l. p.number ∷ p.scheduling ∷ p.taskcount ∷ (l ++ (p.messagecount ∷ joined (map message_figures (take p.messagecount said.messages)))))
      (joined_groups task_said (task_figures machines) (task_size machines) task_again p.taskcount p.tasks p.tasks_many)
      ∙ ap
      (λ l. p.number ∷ p.scheduling ∷ p.taskcount ∷ (p.tasks ++ (p.messagecount ∷ joined (map message_figures l))))
      (kept_groups message_said message_size p.messagecount no_message most_messages p.messages)
      ∙ ap
      (λ l. p.number ∷ p.scheduling ∷ p.taskcount ∷ (p.tasks ++ (p.messagecount ∷ l)))
      (joined_groups message_said message_figures message_size message_again p.messagecount p.messages p.messages_many)
      ∙ sym p.whole
    where
      task_again : (fs : List ℕ) → length fs ≡ task_size machines → task_figures machines (task_said fs) ≡ fs
      task_again [] l = absurd (omega arith)
      task_again (x ∷ []) l = absurd (omega arith)
      task_again (x ∷ (y ∷ fs)) l = ap (λ r. x ∷ y ∷ r) (take_at fs _ machines (omega arith))

      message_again : (fs : List ℕ) → length fs ≡ message_size → message_figures (message_said fs) ≡ fs
      message_again [] l = absurd (omega arith)
      message_again (x ∷ []) l = absurd (omega arith)
      message_again (x ∷ (y ∷ [])) l = absurd (omega arith)
      message_again (x ∷ (y ∷ (z ∷ []))) l = refl
      message_again (x ∷ (y ∷ (z ∷ (w ∷ fs)))) l = absurd (omega arith)

-- What a job's own figures say.

module _ (machines : ℕ) (j : Job) (sized : Sized machines j) (few : j.taskcount ≤ most_tasks) where
  listed_tasks : length (take j.taskcount j.tasks) ≡ j.taskcount
  listed_tasks = length-take-le j.taskcount j.tasks (let l = sized.tasks_long in omega arith)

  task_long : (i : ℕ) → i < length (take j.taskcount j.tasks) →
      length (task_figures machines (get_or (take j.taskcount j.tasks) i no_task)) ≡ task_size machines
  task_long i h =
      let here : i < j.taskcount = let l = listed_tasks in omega arith in
      let runs = sized.runs_long i here in
      let room = sized.machines_at_most in
      rw (get_or-take j.taskcount j.tasks i no_task here)
      (let l = length-take-le machines (get_or j.tasks i no_task).runs (omega arith) in omega arith)

  pub tasks_many : length (joined (map (task_figures machines) (take j.taskcount j.tasks))) ≡ j.taskcount * task_size machines
  tasks_many =
      joined_length task_said (task_figures machines) (task_size machines) no_task (take j.taskcount j.tasks) task_long
      ∙ ap (λ k. k * task_size machines) listed_tasks

module _ (machines : ℕ) (j : Job) (sized : Sized machines j) (few : j.messagecount ≤ most_messages) where
  listed_messages : length (take j.messagecount j.messages) ≡ j.messagecount
  listed_messages = length-take-le j.messagecount j.messages (let l = sized.messages_long in omega arith)

  pub messages_many : length (joined (map message_figures (take j.messagecount j.messages))) ≡ j.messagecount * message_size
  messages_many =
      joined_length message_said message_figures message_size no_message (take j.messagecount j.messages) (λ i h. refl)
      ∙ ap (λ k. k * message_size) listed_messages

-- the counts and figures of a writable job
pub record WritableCounts (machines : ℕ) (j : Job) : Type 0 where
  pub some_task : 1 ≤ j.taskcount
  pub tasks_at_most : j.taskcount ≤ most_tasks
  pub messages_at_most : j.messagecount ≤ most_messages
  pub all_short : all_of short (job_figures machines j) ≡ true

pub writable_counts : (machines : ℕ) (j : Job) → writable machines j ≡ true → WritableCounts machines j
writable_counts machines j w =
    let both = and_true (leb 1 j.taskcount && leb j.taskcount most_tasks) _ w in
    let t = and_true (leb 1 j.taskcount) (leb j.taskcount most_tasks) both.0 in
    let m = and_true (leb j.messagecount most_messages) (all_of short (job_figures machines j)) both.1 in
    record {
      some_task = leb-true 1 _ t.0;
      tasks_at_most = leb-true _ most_tasks t.1;
      messages_at_most = leb-true _ most_messages m.0;
      all_short = m.1;
    }

pub counts_writable : (machines : ℕ) (j : Job) → WritableCounts machines j → writable machines j ≡ true
counts_writable machines j c =
    and_both
    (leb 1 j.taskcount && leb j.taskcount most_tasks)
    (leb j.messagecount most_messages && all_of short (job_figures machines j))
    (and_both (leb 1 j.taskcount) (leb j.taskcount most_tasks) (le-leb 1 _ c.some_task) (le-leb _ most_tasks c.tasks_at_most))
    (and_both (leb j.messagecount most_messages) (all_of short (job_figures machines j)) (le-leb _ most_messages c.messages_at_most) c.all_short)

-- the job that is said is writable
pub said_writable : (machines : ℕ) {ns : List ℕ} (p : Parts machines ns) → writable machines (job_said machines ns) ≡ true
said_writable machines {ns} p =
    let same = parts_said machines p in
    let t : (job_said machines ns).taskcount ≡ p.taskcount = ap (λ j. j.taskcount) same in
    let m : (job_said machines ns).messagecount ≡ p.messagecount = ap (λ j. j.messagecount) same in
    let least = p.some_task in
    let tasks = p.tasks_at_most in
    let messages = p.messages_at_most in
    counts_writable machines (job_said machines ns) (record {
      some_task = omega arith;
      tasks_at_most = omega arith;
      messages_at_most = omega arith;
      all_short = subst (λ l. all_of short l ≡ true) (sym (figures_said machines p)) p.all_short;
    })

module _ (machines : ℕ) (j : Job) (sized : Sized machines j) (w : writable machines j ≡ true) where
  counts : WritableCounts machines j
  counts = writable_counts machines j w

  pub job_parts : Parts machines (job_figures machines j)
  job_parts = record {
    number = j.number;
    scheduling = j.scheduling;
    taskcount = j.taskcount;
    tasks = joined (map (task_figures machines) (take j.taskcount j.tasks));
    messagecount = j.messagecount;
    messages = joined (map message_figures (take j.messagecount j.messages));
    whole = refl;
    some_task = counts.some_task;
    tasks_at_most = counts.tasks_at_most;
    messages_at_most = counts.messages_at_most;
    tasks_many = tasks_many machines j sized counts.tasks_at_most;
    messages_many = messages_many machines j sized counts.messages_at_most;
    all_short = counts.all_short;
  }

  pub said_again : job_said machines (job_figures machines j) ≡ blanked machines j
  unfolding job_parts
  said_again =
      parts_said machines job_parts
      ∙ (λ i. record {
        number = j.number;
        scheduling = j.scheduling;
        taskcount = j.taskcount;
        tasks = filled task_of_zeros most_tasks (tasks_again i);
        messagecount = j.messagecount;
        messages = filled no_message most_messages (messages_again i);
      })
    where
      tasks_again :
          groups task_said (task_size machines) j.taskcount (joined (map (task_figures machines) (take j.taskcount j.tasks)))
          ≡ map (blanked_task machines) (take j.taskcount j.tasks)
      tasks_again =
          let few = counts.tasks_at_most in
          ap (λ k. groups task_said (task_size machines) k (joined (map (task_figures machines) (take j.taskcount j.tasks))))
          (sym (listed_tasks machines j sized few))
          ∙ groups_joined task_said (task_figures machines) (task_size machines) no_task (take j.taskcount j.tasks) (task_long machines j sized few)

      messages_again :
          groups message_said message_size j.messagecount (joined (map message_figures (take j.messagecount j.messages))) ≡ take j.messagecount
          j.messages
      messages_again =
          ap (λ k. groups message_said message_size k (joined (map message_figures (take j.messagecount j.messages))))
          (sym (listed_messages machines j sized counts.messages_at_most))
          ∙ groups_joined message_said message_figures message_size no_message (take j.messagecount j.messages) (λ i h. refl)
          ∙ map-id (take j.messagecount j.messages)

-- The two laws.

pub written_again : WrittenAgain
unfolding job_text
written_again machines text j next e = go (read (job_form machines) text 0) refl e
  where
    go :
        (p : Parsed (List ℕ)) → read (job_form machines) text 0 ≡ p → as_job machines p ≡ parsed j next →
        (take next text ≡ written_job machines j) × (writable machines j ≡ true)
    go (parsed ns last) r q =
        let is : job_said machines ns ≡ j = cc in
        let end : last ≡ next = cc in
        let took = read_is_written (job_form machines) text 0 ns last r in
        let parts = filled_parts machines ns took.0 in (
          ap (λ k. take k text) (sym end)
              ∙ stands_take took.1
              ∙ ap (written (job_form machines)) (sym (figures_said machines parts))
              ∙ ap (written_job machines) is,
          subst (λ j. writable machines j ≡ true) is (said_writable machines parts),
        )
    go (refused number place) r q = cc

pub reads_back : ReadsBackAlways
unfolding job_text
reads_back machines j sized w rest =
    let ns : List ℕ = job_figures machines j in
    let text : List ℕ = written_job machines j ++ rest in
    let stands : Stands (written_job machines j) text 0 (length (written_job machines j))
    = record { there = ap (λ l. written_job machines j ++ l) (sym (drop-append_seam (written_job machines j) rest)); next_is = omega arith } in
    let reads = filled_reads (job_form machines) ns (parts_fill machines ns (job_parts machines j sized w)) text 0 (length (written_job machines j)) stands in
    ap (as_job machines) reads ∙ ap (λ k. parsed k (length (written_job machines j))) (said_again machines j sized w)

pub figures_again : FiguresAgain
figures_again machines ns f = figures_said machines (filled_parts machines ns f)

-- as many figures were read as the job has
pub read_counted : (machines : ℕ) (text : List ℕ) → with_count (read (job_form machines) text 0) ≡ job_counted machines (job_text machines text)
unfolding job_text
read_counted machines text = go (read (job_form machines) text 0) refl
  where
    go : (p : Parsed (List ℕ)) → read (job_form machines) text 0 ≡ p → with_count p ≡ job_counted machines (as_job machines p)
    go (parsed ns next) e =
        let fills_it = (read_is_written (job_form machines) text 0 ns next e).0 in
        ap (λ l. parsed (length l) next) (sym (figures_again machines ns fills_it))
    go (refused number place) e = refl

-- so an answer that is the text's job says their count
pub reads_counted : (machines : ℕ) (text : List ℕ) (r : Result (Reading Job) Unread) → Reads machines text r → ReadsCount machines text r
reads_counted machines text r is = read_counted machines text ∙ ap (job_counted machines) (sym is)

pub job_said_again : SaidAgain
job_said_again machines j sized w = said_again machines j sized w

-- A job's own figures fill the form exactly if it is writable.

filled_counts : (machines : ℕ) (j : Job) → Sized machines j → Parts machines (job_figures machines j) → WritableCounts machines j
filled_counts machines j sized p =
    let tasks : j.taskcount ≡ p.taskcount = ap (λ l. get_or l 2 0) p.whole in
    let some = p.some_task in
    let few = p.tasks_at_most in
    let many = tasks_many machines j sized (omega arith) in
    let size : ℕ = j.taskcount * task_size machines in
    let sent : j.messagecount ≡ p.messagecount
    = ap (λ l. get_or l 0 0)
    (sym (drop_at (joined (map (task_figures machines) (take j.taskcount j.tasks))) _ size many)
    ∙ ap (λ l. drop size (drop head_size l)) p.whole
    ∙ drop_at p.tasks (p.messagecount ∷ p.messages) size (p.tasks_many ∙ ap (λ k. k * task_size machines) (sym tasks))) in
    let less = p.messages_at_most in
    record { some_task = omega arith; tasks_at_most = omega arith; messages_at_most = omega arith; all_short = p.all_short }

pub fills_if_writable : FillsIfWritable
fills_if_writable machines j sized =
    let figures : List ℕ = job_figures machines j in
    by_test
    (writable machines j)
    (λ w. parts_fill machines figures (job_parts machines j sized w) ∙ sym w)
    (λ u.
    by_test
    (fills (job_form machines) figures)
    (λ f. clash (counts_writable machines j (filled_counts machines j sized (filled_parts machines figures f))) u)
    (λ f. f ∙ sym u))

-- The lines of a job in their order: what fills the form has a number, a scheduling time, tasks and messages with their figures, and what has these fills it.
use mathlib.Core.Path.{◌≡◌, refl, sym, ap, ◌∙◌, subst}
use mathlib.Core.Bool.{true, false}
use mathlib.Core.List.{List, [], ◌∷◌, ◌++◌, append-nil}
use Prim.Native.Nat.{ℕ, zero, suc, ◌*◌, ◌≤◌}
use native.Mathlib.Nat.{suc-mul}
use native.Mathlib.Omega.{arith}
use lib.ListN.{length, replicate, length-append, length-replicate}
use borrow.Author.Tests.{le-ltb, le-leb, leb-true}
use Rattle.rules.specs.Words.{most_tasks, most_messages}
use Rattle.rules.specs.Sequences.{all_of}
use Rattle.rules.proofs.Sequences.{clash, and_true, and_both}
use Rattle.lines.specs.Figures.{bytes}
use Rattle.lines.specs.Lines.{largest_figure, any_figure_line, ranged}
use Rattle.texts.specs.Forms.{Form, done, fills}
use Rattle.lines.specs.Lines.{takes}
use Rattle.texts.specs.JobText.{with_line, run_lines, task_lines, tasks_lines, message_lines, messages_lines, sent_lines, job_form}
use Rattle.texts.specs.JobText.{task_size, message_size}
use Rattle.texts.specs.JobText.{short}
use Rattle.lines.proofs.Decimals.{figure_length, all_append}
use Rattle.lines.proofs.LineLaws.{fits_takes}
use Rattle.texts.proofs.JobForm.{taken_between}

-- Lines whose ranges are left to submission, in a row.

-- a figure within a range that ten digits can say
ranged_takes : (key : List ℕ) (least most n : ℕ) → least ≤ n → n ≤ most → n ≤ largest_figure → takes (ranged key least most) n ≡ true
ranged_takes key least most n l h s =
    fits_takes {due = ranged key least most} (record { in_range = rw (le-ltb n least l, le-ltb most n h) refl; short = figure_length n s })

any_takes : (key : List ℕ) (n : ℕ) → short n ≡ true → takes (any_figure_line key) n ≡ true
any_takes key n s = let h = leb-true n largest_figure s in ranged_takes key 0 largest_figure n (omega arith) h h

takes_any : (key : List ℕ) (n : ℕ) → takes (any_figure_line key) n ≡ true → short n ≡ true
takes_any key n e = le-leb n largest_figure (taken_between key 0 largest_figure n e).1

with_lines : List (List ℕ) → Form → Form
with_lines [] rest = rest
with_lines (key ∷ keys) rest = with_line key (with_lines keys rest)

lines_fill :
    (keys : List (List ℕ)) (rest : Form) (xs ns : List ℕ) → length xs ≡ length keys → all_of short xs ≡ true → fills rest ns ≡ true →
    fills (with_lines keys rest) (xs ++ ns) ≡ true
unfolding with_lines fills
lines_fill [] rest [] ns l s e = e
lines_fill [] rest (a ∷ xs) ns l s e = absurd (omega arith)
lines_fill (key ∷ keys) rest [] ns l s e = absurd (omega arith)
lines_fill (key ∷ keys) rest (a ∷ xs) ns l s e =
    let both = and_true (short a) (all_of short xs) s in
    and_both
    (takes (any_figure_line key) a)
    (fills (with_lines keys rest) (xs ++ ns))
    (any_takes key a both.0)
    (lines_fill keys rest xs ns (omega arith) both.1 e)

-- the figures of the first lines, and those of the rest
pub record Split (many : ℕ) (rest : Form) (ns : List ℕ) : Type 0 where
  pub xs : List ℕ
  pub bs : List ℕ
  pub both : ns ≡ xs ++ bs
  pub as_many : length xs ≡ many
  pub all_short : all_of short xs ≡ true
  pub fills_rest : fills rest bs ≡ true

fill_lines : (keys : List (List ℕ)) (rest : Form) (ns : List ℕ) → fills (with_lines keys rest) ns ≡ true → Split (length keys) rest ns
unfolding with_lines fills
fill_lines [] rest ns e = record { xs = []; bs = ns; both = refl; as_many = refl; all_short = refl; fills_rest = e }
fill_lines (key ∷ keys) rest [] e = clash e refl
fill_lines (key ∷ keys) rest (n ∷ ns) e =
    let first = and_true (takes (any_figure_line key) n) (fills (with_lines keys rest) ns) e in
    let below = fill_lines keys rest ns first.1 in
    record {
      xs = n ∷ below.xs;
      bs = below.bs;
      both = ap (λ l. n ∷ l) below.both;
      as_many = ap suc below.as_many;
      all_short = and_both (short n) (all_of short below.xs) (takes_any key n first.0) below.all_short;
      fills_rest = below.fills_rest;
    }

-- The lines of tasks and messages are such.

times : ℕ → List (List ℕ) → List (List ℕ)
times zero keys = []
times (suc n) keys = keys ++ times n keys

times_length : (n : ℕ) (keys : List (List ℕ)) → length (times n keys) ≡ n * length keys
unfolding times
times_length zero keys = omega arith
times_length (suc n) keys = length-append keys (times n keys) ∙ (let b = times_length n keys in let m = suc-mul n (length keys) in omega arith)

lines_append : (a b : List (List ℕ)) (rest : Form) → with_lines (a ++ b) rest ≡ with_lines a (with_lines b rest)
unfolding with_lines
lines_append [] b rest = refl
lines_append (key ∷ a) b rest = ap (with_line key) (lines_append a b rest)

task_keys : (machines : ℕ) → List (List ℕ)
task_keys machines = bytes "deadline=" ∷ bytes "dispatch=" ∷ replicate machines (bytes "run=")

message_keys : List (List ℕ)
message_keys = bytes "from=" ∷ bytes "to=" ∷ bytes "volume=" ∷ []

runs_are : (machines : ℕ) (rest : Form) → run_lines machines rest ≡ with_lines (replicate machines (bytes "run=")) rest
unfolding run_lines with_lines
runs_are zero rest = refl
runs_are (suc n) rest = ap (with_line (bytes "run=")) (runs_are n rest)

tasks_are : (machines count : ℕ) (rest : Form) → tasks_lines machines count rest ≡ with_lines (times count (task_keys machines)) rest
unfolding tasks_lines times task_keys with_lines
tasks_are machines zero rest = refl
tasks_are machines (suc n) rest =
    ap (task_lines machines) (tasks_are machines n rest)
    ∙ ap (λ f. with_line (bytes "deadline=") (with_line (bytes "dispatch=") f)) (runs_are machines (with_lines (times n (task_keys machines)) rest))
    ∙ sym (lines_append (task_keys machines) (times n (task_keys machines)) rest)

messages_are : (count : ℕ) → messages_lines count ≡ with_lines (times count message_keys) done
unfolding messages_lines times message_keys with_lines
messages_are zero = refl
messages_are (suc n) = ap message_lines (messages_are n)

task_keys_length : (machines : ℕ) → length (task_keys machines) ≡ task_size machines
unfolding task_keys
task_keys_length machines = let l = length-replicate machines (bytes "run=") in omega arith

-- A job's figures, part by part.
pub record Parts (machines : ℕ) (ns : List ℕ) : Type 0 where
  pub number : ℕ
  pub scheduling : ℕ
  pub taskcount : ℕ
  pub tasks : List ℕ
  pub messagecount : ℕ
  pub messages : List ℕ
  pub whole : ns ≡ number ∷ scheduling ∷ taskcount ∷ (tasks ++ (messagecount ∷ messages))
  pub some_task : 1 ≤ taskcount
  pub tasks_at_most : taskcount ≤ most_tasks
  pub messages_at_most : messagecount ≤ most_messages
  pub tasks_many : length tasks ≡ taskcount * task_size machines
  pub messages_many : length messages ≡ messagecount * message_size
  pub all_short : all_of short ns ≡ true

-- what fills the form has these parts
pub filled_parts : (machines : ℕ) (ns : List ℕ) → fills (job_form machines) ns ≡ true → Parts machines ns
unfolding fills message_keys
filled_parts machines [] e = clash e refl
filled_parts machines (a ∷ []) e = clash (and_true (takes (any_figure_line (bytes "job=")) a) false e).1 refl
filled_parts machines (a ∷ (b ∷ [])) e =
    let first = and_true (takes (any_figure_line (bytes "job=")) a) _ e in
    clash (and_true (takes (any_figure_line (bytes "sched=")) b) false first.1).1 refl
filled_parts machines (a ∷ (b ∷ (t ∷ ns))) e =
    let first = and_true (takes (any_figure_line (bytes "job=")) a) _ e in
    let second = and_true (takes (any_figure_line (bytes "sched=")) b) _ first.1 in
    let third = and_true (takes (ranged (bytes "tasks=") 1 most_tasks) t) (fills (tasks_lines machines t sent_lines) ns) second.1 in
    let count = taken_between (bytes "tasks=") 1 most_tasks t third.0 in
    let split = fill_lines (times t (task_keys machines)) sent_lines ns (subst (λ f. fills f ns ≡ true) (tasks_are machines t sent_lines) third.1) in
    let rest = sent split.bs split.fills_rest in
    let whole : a ∷ b ∷ t ∷ ns ≡ a ∷ b ∷ t ∷ (split.xs ++ (rest.0 ∷ rest.1)) =
    ap (λ l. a ∷ b ∷ t ∷ l) (split.both ∙ ap (λ l. split.xs ++ l) rest.2) in
    record {
      number = a;
      scheduling = b;
      taskcount = t;
      tasks = split.xs;
      messagecount = rest.0;
      messages = rest.1;
      whole = whole;
      some_task = count.0;
      tasks_at_most = count.1;
      messages_at_most = rest.3;
      tasks_many = split.as_many ∙ times_length t (task_keys machines) ∙ ap (λ k. t * k) (task_keys_length machines);
      messages_many = rest.4;
      all_short =
          and_both
          (short a)
          (all_of short (b ∷ t ∷ ns))
          (takes_any (bytes "job=") a first.0)
          (and_both
          (short b)
          (all_of short (t ∷ ns))
          (takes_any (bytes "sched=") b second.0)
          (and_both
          (short t)
          (all_of short ns)
          (le-leb t largest_figure (let m = count.1 in omega arith))
          (subst (λ l. all_of short l ≡ true) (sym split.both) (all_append short split.xs split.bs split.all_short rest.5))));
    }
  where
    nothing_left : (l : List ℕ) → fills done l ≡ true → l ≡ []
    nothing_left [] e = refl
    nothing_left (x ∷ l) e = clash e refl

    -- the count of messages and their figures
    sent :
        (bs : List ℕ) → fills sent_lines bs ≡ true →
        (k : ℕ) × (ms : List ℕ) × (bs ≡ k ∷ ms) × (k ≤ most_messages) × (length ms ≡ k * message_size) × (all_of short bs ≡ true)
    sent [] e = clash e refl
    sent (k ∷ ms) e =
        let first = and_true (takes (ranged (bytes "messages=") 0 most_messages) k) (fills (messages_lines k) ms) e in
        let count = taken_between (bytes "messages=") 0 most_messages k first.0 in
        let split = fill_lines (times k message_keys) done ms (subst (λ f. fills f ms ≡ true) (messages_are k) first.1) in
        let none = nothing_left split.bs split.fills_rest in
        let same : ms ≡ split.xs = split.both ∙ ap (λ l. split.xs ++ l) none ∙ append-nil split.xs in (
          k,
          ms,
          refl,
          count.1,
          ap length same ∙ split.as_many ∙ times_length k message_keys,
          and_both (short k) (all_of short ms) (le-leb k largest_figure (let m = count.1 in omega arith))
              (subst (λ l. all_of short l ≡ true) (sym same) split.all_short),
        )

-- and what has these parts fills the form
pub parts_fill : (machines : ℕ) (ns : List ℕ) → Parts machines ns → fills (job_form machines) ns ≡ true
unfolding fills message_keys
parts_fill machines ns p =
    let all = subst (λ l. all_of short l ≡ true) p.whole p.all_short in
    let a = and_true (short p.number) _ all in
    let b = and_true (short p.scheduling) _ a.1 in
    let c = and_true (short p.taskcount) _ b.1 in
    let d = all_split p.tasks (p.messagecount ∷ p.messages) c.1 in
    let e = and_true (short p.messagecount) (all_of short p.messages) d.1 in
    let few = p.tasks_at_most in
    let less = p.messages_at_most in
    let sent : fills sent_lines (p.messagecount ∷ p.messages) ≡ true
    = and_both
    (takes (ranged (bytes "messages=") 0 most_messages) p.messagecount)
    (fills (messages_lines p.messagecount) p.messages)
    (ranged_takes (bytes "messages=") 0 most_messages p.messagecount (omega arith) less (omega arith))
    (subst
    (λ f. fills f p.messages ≡ true)
    (sym (messages_are p.messagecount))
    (subst
    (λ l. fills (with_lines (times p.messagecount message_keys) done) l ≡ true)
    (append-nil p.messages)
    (lines_fill (times p.messagecount message_keys) done p.messages [] (p.messages_many ∙ sym (times_length p.messagecount message_keys)) e.1
    refl))) in
    let rest : fills (tasks_lines machines p.taskcount sent_lines) (p.tasks ++ (p.messagecount ∷ p.messages)) ≡ true
    = subst
    (λ f. fills f (p.tasks ++ (p.messagecount ∷ p.messages)) ≡ true)
    (sym (tasks_are machines p.taskcount sent_lines))
    (lines_fill
    (times p.taskcount (task_keys machines))
    sent_lines
    p.tasks
    (p.messagecount ∷ p.messages)
    (p.tasks_many ∙ ap (λ k. p.taskcount * k) (sym (task_keys_length machines)) ∙ sym (times_length p.taskcount (task_keys machines)))
    d.0
    sent) in
    subst
    (λ l. fills (job_form machines) l ≡ true)
    (sym p.whole)
    (and_both
    (takes (any_figure_line (bytes "job=")) p.number)
    _
    (any_takes (bytes "job=") p.number a.0)
    (and_both
    (takes (any_figure_line (bytes "sched=")) p.scheduling)
    _
    (any_takes (bytes "sched=") p.scheduling b.0)
    (and_both
    (takes (ranged (bytes "tasks=") 1 most_tasks) p.taskcount)
    _
    (ranged_takes (bytes "tasks=") 1 most_tasks p.taskcount p.some_task few (omega arith))
    rest)))
  where
    all_split : (xs ys : List ℕ) → all_of short (xs ++ ys) ≡ true → (all_of short xs ≡ true) × (all_of short ys ≡ true)
    all_split [] ys e = (refl, e)
    all_split (x ∷ xs) ys e =
        let first = and_true (short x) (all_of short (xs ++ ys)) e in
        let below = all_split xs ys first.1 in
        (and_both (short x) (all_of short xs) first.0 below.0, below.1)

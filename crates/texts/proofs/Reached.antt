-- How many bytes a form takes at the least: what was read lies within the text, and reaches so far.
use mathlib.Core.Path.{◌≡◌, refl, sym, ap, ◌∙◌}
use mathlib.Core.Bool.{true}
use mathlib.Core.List.{List}
use Prim.Native.Nat.{ℕ, zero, suc, ◌+◌, ◌≤◌}
use native.Mathlib.Omega.{arith}
use lib.ListN.{length, drop, length-append, length-drop}
use Rattle.std.proofs.Common.{Result, Ok}
use Rattle.rules.specs.declared.Job.{Job}
use Rattle.rules.specs.Words.{most_tasks}
use Rattle.lines.specs.declared.line.Reading.{Reading}
use Rattle.lines.specs.declared.line.Unread.{Unread}
use Rattle.lines.specs.Figures.{bytes, field}
use Rattle.lines.specs.Lines.{Parsed, parsed, refused, Due, line}
use Rattle.lines.specs.Readings.{reading_said}
use Rattle.texts.specs.Forms.{Form, done, ask, read}
use Rattle.lines.specs.Lines.{takes}
use Rattle.texts.specs.JobText.{tasks_lines, sent_lines, job_form, as_job, job_text}
use Rattle.texts.specs.Reader.{Reads}
use Rattle.lines.proofs.Decimals.{decimal_some}
use Rattle.texts.proofs.FormLaws.{onto_parsed, read_cases}
use Rattle.texts.proofs.JobForm.{taken_between}
use Rattle.lines.proofs.LineLaws.{line_took, fits_takes}
use Rattle.lines.proofs.Put.{field_length}

-- what was read takes so many bytes at the least, and ends within the text
pub record Reached (text : List ℕ) (at least next : ℕ) : Type 0 where
  pub on : at + least ≤ next
  pub within : next ≤ length text

-- a key, a digit and a line feed
abbrev pub least_line : (key : List ℕ) → ℕ
least_line key = length key + 2

pub line_reached : (due : Due) (text : List ℕ) (at n next : ℕ) → line due text at ≡ parsed n next → Reached text at (least_line due.key) next
line_reached due text at n next e =
    let both = line_took due text at n next e in
    let is = both.1.next_is in
    let lengths = ap length both.1.there in
    let all = length-append (field due.key n) (drop next text) in
    let long = field_length due.key n in
    let some = decimal_some n in
    let before = length-drop at text in
    let behind = length-drop next text in
    record { on = omega arith; within = omega arith }

-- a form has so many bytes at the least
pub data AtLeast : ℕ → Form → Type 0 where
  from_here : {form : Form} → AtLeast 0 form
  one_line : {n : ℕ} {due : Due} {more : ℕ → Form} → ((k : ℕ) → takes due k ≡ true → AtLeast n (more k)) → AtLeast (least_line due.key + n) (ask due more)

pub form_within : (form : Form) (text : List ℕ) (at : ℕ) {ns : List ℕ} {next : ℕ} → at ≤ length text → read form text at ≡ parsed ns next →
    Reached text at 0 next
unfolding read
form_within done text at {ns} {next} h e = let same : at ≡ next = cc in record { on = omega arith; within = omega arith }
form_within (ask due more) text at {ns} {next} h e =
    read_cases
    (λ p. p ≡ parsed ns next → Reached text at 0 next)
    due
    more
    text
    at
    (λ n mid q f.
    let here = line_reached due text at n mid q in
    let on = here.on in
    let rest = form_within (more n) text mid here.within (onto_parsed n (read (more n) text mid) f).1 in
    let further = rest.on in
    record { on = omega arith; within = rest.within })
    (λ number place q f. cc)
    e

pub form_reached :
    {least : ℕ} {form : Form} (text : List ℕ) (at : ℕ) {ns : List ℕ} {next : ℕ} → AtLeast least form → at ≤ length text → read form text at ≡ parsed ns next →
    Reached text at least next
form_reached {form = form} text at from_here h e = form_within form text at h e
form_reached text at {ns} {next} (one_line {n = least} {due = due} {more = more} below) h e =
    read_cases
    (λ p. p ≡ parsed ns next → Reached text at (least_line due.key + least) next)
    due
    more
    text
    at
    (λ n mid q f.
    let here = line_reached due text at n mid q in
    let on = here.on in
    let rest = form_reached text mid (below n (fits_takes (line_took due text at n mid q).0)) here.within (onto_parsed n (read (more n) text mid) f).1 in
    let further = rest.on in
    record { on = omega arith; within = rest.within })
    (λ number place q f. cc)
    e

-- The lines up to a first task's dispatch time are due for every job.
abbrev least_task : ℕ
least_task = least_line (bytes "deadline=") + (least_line (bytes "dispatch=") + 0)

abbrev pub least_job : ℕ
least_job = least_line (bytes "job=") + (least_line (bytes "sched=") + (least_line (bytes "tasks=") + least_task))

job_at_least : (machines : ℕ) → AtLeast least_job (job_form machines)
unfolding tasks_lines
job_at_least machines = one_line (λ i t. one_line (λ j u. one_line (λ tasks v. some_task tasks (taken_between (bytes "tasks=") 1 most_tasks tasks v).0)))
  where
    some_task : (tasks : ℕ) → 1 ≤ tasks → AtLeast least_task (tasks_lines machines tasks sent_lines)
    some_task zero h = absurd (omega arith)
    some_task (suc tasks) h = one_line (λ i t. one_line (λ j u. from_here))

pub job_reached : (machines : ℕ) (text : List ℕ) (job : Job) (next : ℕ) → job_text machines text ≡ parsed job next → Reached text 0 least_job next
unfolding job_text
job_reached machines text job next e = go (read (job_form machines) text 0) refl e
  where
    go : (p : Parsed (List ℕ)) → read (job_form machines) text 0 ≡ p → as_job machines p ≡ parsed job next → Reached text 0 least_job next
    go (parsed ns last) q f = let same : last ≡ next = cc in form_reached text 0 (job_at_least machines) (omega arith) (rw same at q)
    go (refused number place) q f = cc

-- what a reading answers that found a job
pub reads_parsed :
    (machines : ℕ) (text : List ℕ) (r : Result (Reading Job) Unread) → Reads machines text r → {it : Reading Job} → r ≡ Ok it →
    job_text machines text ≡ parsed it.value it.next
reads_parsed machines text r reads e = sym reads ∙ ap reading_said e

pub reads_reached :
    (machines : ℕ) (text : List ℕ) (r : Result (Reading Job) Unread) → Reads machines text r → {it : Reading Job} → r ≡ Ok it →
    Reached text 0 least_job it.next
reads_reached machines text r reads {it} e = job_reached machines text it.value it.next (reads_parsed machines text r reads e)

-- No key of a job text holds a line feed, so bytes after the ill line do not matter.
use mathlib.Core.Path.{◌≡◌, refl, ap, subst}
use mathlib.Core.Bool.{false}
use mathlib.Core.List.{List, [], ◌∷◌}
use Prim.Native.Nat.{ℕ, zero, suc}
use lib.Dec.{eqb}
use Rattle.rules.specs.Sequences.{any_of}
use Rattle.lines.specs.Figures.{line_feed}
use Rattle.lines.specs.Lines.{Parsed, parsed, refused, Due}
use Rattle.texts.specs.Forms.{Form, done, ask, read, left}
use Rattle.texts.specs.JobText.{run_lines, tasks_lines, messages_lines, job_form, as_job, job_text}
use Rattle.texts.specs.Laws.{JobRefusedThere}
use Rattle.texts.proofs.FormLaws.{refused_there}

data Plain : Form → Type 0 where
  plain_end : Plain done
  plain_line : {due : Due} {more : ℕ → Form} → any_of (eqb line_feed) due.key ≡ false → ((n : ℕ) → Plain (more n)) → Plain (ask due more)

plain_left : (form : Form) (ns : List ℕ) → Plain form → Plain (left form ns)
unfolding left
plain_left form [] p = p
plain_left done (n ∷ ns) p = plain_end
plain_left (ask due more) (n ∷ ns) (plain_line k rest) = plain_left (more n) ns (rest n)

plain_key : {due : Due} {more : ℕ → Form} → Plain (ask due more) → any_of (eqb line_feed) due.key ≡ false
plain_key (plain_line k rest) = k

plain_runs : (runs : ℕ) {rest : Form} → Plain rest → Plain (run_lines runs rest)
unfolding run_lines
plain_runs zero p = p
plain_runs (suc n) p = plain_line refl (λ _. plain_runs n p)

plain_tasks : (machines tasks : ℕ) {rest : Form} → Plain rest → Plain (tasks_lines machines tasks rest)
unfolding tasks_lines
plain_tasks machines zero p = p
plain_tasks machines (suc n) p = plain_line refl (λ _. plain_line refl (λ _. plain_runs machines (plain_tasks machines n p)))

plain_messages : (messages : ℕ) → Plain (messages_lines messages)
unfolding messages_lines
plain_messages zero = plain_end
plain_messages (suc n) = plain_line refl (λ _. plain_line refl (λ _. plain_line refl (λ _. plain_messages n)))

plain_job : (machines : ℕ) → Plain (job_form machines)
plain_job machines =
    plain_line refl (λ _. plain_line refl (λ _. plain_line refl (λ tasks. plain_tasks machines tasks (plain_line refl plain_messages))))

unread : (machines : ℕ) (p : Parsed (List ℕ)) {number place : ℕ} → as_job machines p ≡ refused number place → p ≡ refused number place
unread machines (parsed ns next) e = cc
unread machines (refused number place) e = cc

pub job_refused_there : JobRefusedThere
unfolding job_text
job_refused_there machines text number place e =
    let at = refused_there (job_form machines) text 0 number place (unread machines (read (job_form machines) text 0) e) in
    let key = plain_key (subst Plain at.due_there (plain_left (job_form machines) at.figures (plain_job machines))) in
    record { there = at; after_no_matter = λ bytes rest other h. ap (as_job machines) (at.after_no_matter key bytes rest other h) }

-- Jobs written into a buffer: what was written reads back as the job, and what was read with nothing left over is written as it stood.
use mathlib.Core.Path.{◌≡◌, refl, sym, ap, ◌∙◌, subst}
use mathlib.Core.Bool.{true, false, cond}
use mathlib.Core.List.{List, [], ◌∷◌, ◌++◌}
use Prim.Native.Nat.{ℕ, ◌+◌, ◌≤◌, ◌<◌}
use native.Mathlib.Nat.{zero-add}
use native.Mathlib.Omega.{arith}
use lib.ListN.{length, take, drop}
use lib.Seq.{take-append_seam, take_all}
use Rattle.std.proofs.Common.{Result, Ok, Err}
use Rattle.rules.specs.declared.Job.{Job}
use Rattle.rules.specs.Words.{most_tasks, most_messages, most_machines}
use Rattle.rules.proofs.Sequences.{clash, by_test, and_true}
use Rattle.lines.specs.Lines.{parsed, takes}
use Rattle.lines.specs.Put.{Puts}
use Rattle.texts.specs.declared.forms.Unwritten.{Unwritten}
use Rattle.texts.specs.declared.forms.Unwritten.TheVariants.{Unwritable, NoRoom}
use Rattle.texts.specs.Forms.{Form, written, fills}
use Rattle.texts.specs.JobText.{job_form, job_figures, job_text, writable, written_job, blanked}
use Rattle.texts.specs.Writer.{write_number, write_left, number_written, length_written, Writes, unwritable_number, WritesJob, unfilled_number, WritesFigures}
use Rattle.texts.specs.Laws.{Sized, WrittenReadsBack, ReadWholeWritten}
use Rattle.texts.specs.Parts.{AtMost, at_end, at_line}
use Rattle.texts.specs.Rows.{most_figures}
use Rattle.texts.proofs.Figured.{job_room}
use Rattle.texts.proofs.JobLaws.{WritableCounts, writable_counts, fills_if_writable, written_again, reads_back}
use Rattle.texts.proofs.Reached.{reads_parsed}
use Rattle.texts.proofs.Writers.{writer_laws}

-- a row that fills a form is no longer than the form allows
filled_at_most : {n : ℕ} {form : Form} → AtMost n form → (ns : List ℕ) → fills form ns ≡ true → length ns ≤ n
unfolding fills
filled_at_most at_end [] e = omega arith
filled_at_most at_end (x ∷ ns) e = clash e refl
filled_at_most (at_line f) [] e = omega arith
filled_at_most (at_line {due = due} f) (x ∷ ns) e =
    let both = and_true (takes due x) _ e in
    let below = filled_at_most (f x both.0) ns both.1 in
    omega arith

-- what is accepted was writable
accepted_writable : (machines : ℕ) (j : Job) (text buffer : List ℕ) → write_number (unwritable_number machines j) text buffer ≡ 0 → writable machines j ≡ true
accepted_writable machines j text buffer e =
    by_test (writable machines j) (λ w. w) (λ u.
    let first : unwritable_number machines j ≡ 20 = rw u refl in
    absurd (let n = (writer_laws (unwritable_number machines j) text buffer).judged_first (λ z. let c : ◌≡◌ {A = ℕ} 0 20 = cc in omega arith) in omega arith))

pub written_reads_back : WrittenReadsBack
unfolding write_left
written_reads_back machines j sized old new r w e back reads =
    let text : List ℕ = written_job machines j in
    let laws = writer_laws (unwritable_number machines j) text old in
    let number : write_number (unwritable_number machines j) text old ≡ 0 = sym w.number_is ∙ e in
    let there : new ≡ text ++ drop (length text) old = w.buffer_is ∙ ap (λ n. write_left n text old) number in
    let found : job_text machines new ≡ parsed (blanked machines j) (length text)
    = ap (job_text machines) there ∙ reads_back machines j sized (accepted_writable machines j text old number) (drop (length text) old) in
    reads ∙ found ∙ ap (parsed (blanked machines j)) (sym (w.length_is ∙ (laws.text_stands number).0))

pub read_whole_written : ReadWholeWritten
unfolding write_left
read_whole_written machines text j back reads e =
    let again = written_again machines text j (length text) (reads_parsed machines text back reads e) in
    let same : written_job machines j ≡ text = sym again.0 ∙ take_all (length text) text (omega arith) in
    let first : unwritable_number machines j ≡ 0 = rw again.1 refl in
    let long = ap length same in
    record {
      is_writable = again.1;
      same_text = same;
      same_bytes = λ old new r w room.
          let laws = writer_laws (unwritable_number machines j) (written_job machines j) old in
          let number = laws.accepted first (omega arith) in (
            accepted r (w.number_is ∙ number) (w.length_is ∙ (laws.text_stands number).0 ∙ long),
            w.buffer_is ∙ ap (λ n. write_left n (written_job machines j) old) number ∙ ap (λ l. l ++ drop (length l) old) same,
          );
    }
  where
    -- what is answered where no number refuses
    accepted : (r : Result ℕ Unwritten) {size : ℕ} → number_written r ≡ 0 → length_written r ≡ size → r ≡ Ok size
    accepted (Ok written) n l = ap Ok l
    accepted (Err Unwritable) n l = absurd (omega arith)
    accepted (Err NoRoom) n l = absurd (omega arith)

-- What the writers' functions answer.

-- no job has more lines
pub many_figures : {machines : ℕ} (figures : List ℕ) → machines ≤ most_machines → most_figures < length figures → fills (job_form machines) figures ≡ false
many_figures {machines} figures few h =
    by_test (fills (job_form machines) figures) (λ f. absurd (let most = filled_at_most (job_room machines few) figures f in omega arith)) (λ u. u)

-- counts out of range
not_counted : (machines : ℕ) (j : Job) → (WritableCounts machines j → ⊥) → writable machines j ≡ false
not_counted machines j never = by_test (writable machines j) (λ w. absurd (never (writable_counts machines j w))) (λ u. u)

pub many_tasks : (machines : ℕ) (j : Job) → most_tasks < j.taskcount → writable machines j ≡ false
many_tasks machines j h = not_counted machines j (λ c. let few = c.tasks_at_most in omega arith)

pub many_messages : (machines : ℕ) (j : Job) → most_messages < j.messagecount → writable machines j ≡ false
many_messages machines j h = not_counted machines j (λ c. let few = c.messages_at_most in omega arith)

-- figures put from a row's start on are its first ones, and lie within it
pub row_front : {old figures new : List ℕ} {next : ℕ} → Puts old 0 figures new next → take next new ≡ figures
row_front {old} {figures} {new} {next} p =
    let n : next ≡ length figures = p.next_is ∙ zero-add (length figures) in
    rw (n, p.new_is) (take-append_seam figures (drop (0 + length figures) old))

-- a row that holds the job's figures
pub row_written :
    (machines : ℕ) (j : Job) → Sized machines j → {figures old new : List ℕ} (r : Result ℕ Unwritten) → figures ≡ job_figures machines j →
    WritesFigures machines figures old new r → WritesJob machines j old new r
row_written machines j sized {old = old} {new = new} r is w =
    let same : unfilled_number machines (job_figures machines j) ≡ unwritable_number machines j
    = ap (λ b. cond b 0 20) (fills_if_writable machines j sized) in
    subst (λ n. Writes n (written_job machines j) old new r) same (subst (λ l. WritesFigures machines l old new r) is w)

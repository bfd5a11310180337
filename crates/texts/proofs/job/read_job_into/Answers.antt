-- `texts::job::read_job_into` meets its contract: the figures that were read say the job.
use mathlib.Core.Path.{◌≡◌, refl}
use lib.ListN.{length}
use Rattle.std.proofs.Common.{rules, Ok, Err}
use Rattle.std.proofs.lemmas.Result.{err_from_is_err_and}
use Rattle.texts.specs.Rows.{most_figures}
use Rattle.texts.specs.Reader.{with_job}
use Rattle.texts.proofs.JobLaws.{reads_counted}
use Rattle.texts.proofs.Figured.{job_room, row_read, row_counts, row_job, job_unread}
use Rattle.texts.proofs.job.read_job_into.Goals as goal

pub read_form-requires : goal.read_form-requires
read_form-requires c =
    let long : length c.args.row.now ≡ most_figures = search rules in
    record { some_machine = c.requires.some_machine; room = rw long (job_room c.args.machines c.requires.at_most) }

pub job_of-requires : goal.job_of-requires
job_of-requires c = row_counts (row_read c.args.machines c.read_form.ensures c.in_ok-read.was) c.requires.at_most

pub returns-in_err-read : goal.returns-in_err-read
returns-in_err-read c =
    let refusal = err_from_is_err_and c.from_residual.result c.from_residual.ensures.1 in
    let unread = job_unread c.args.machines c.read_form.ensures c.in_err-read.was in
    rw
    (refusal.1, refusal.2)
    (record {
      reads = unread;
      count = reads_counted c.args.machines c.args.text.now (with_job c.args.job.now (Err c.in_err-read.field-0.0)) unread;
      kept = λ _ e. refl;
    })

pub returns : goal.returns
returns c =
    let said = rw (← c.job_of.ensures) at (row_job (row_read c.args.machines c.read_form.ensures c.in_ok-read.was)) in
    record {
      reads = said;
      count = reads_counted c.args.machines c.args.text.now (with_job c.job_of.result (Ok c.in_ok-read.read.next)) said;
      kept = λ unread e. cc;
    }

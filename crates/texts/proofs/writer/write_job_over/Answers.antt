-- `texts::writer::write_job_over` meets its contract: counts out of range are refused, and a job's own figures are written as its text.
use Rattle.texts.specs.JobText.{written_job}
use Rattle.texts.specs.Laws.{Sized}
use Rattle.texts.proofs.JobWriting.{many_tasks, many_messages, row_front, row_written}
use Rattle.texts.proofs.Writers.{unfit_unwritten}
use Rattle.texts.proofs.writer.write_job_over.Goals as goal
use Rattle.texts.proofs.writer.write_job_over.Goals.{then-job-via-then-job, then-job-via-else-job+then-job-2}

pub returns-then-job : goal.returns-then-job
returns-then-job c =
    let a = c.args in
    let text = written_job a.machines a.job.now in
    elim c.then-job.branch [
      | then-job-via-then-job w ↦ unfit_unwritten text _ (many_tasks a.machines a.job.now w.if-job.true)
      | then-job-via-else-job+then-job-2 w ↦ unfit_unwritten text _ (many_messages a.machines a.job.now w.if-job-2.true)
    ]

pub returns : goal.returns
returns c =
    let put = c.job_figures-count.ensures in
    let sized : Sized c.args.machines c.args.job.now =
    record { machines_at_most = c.requires.at_most; tasks_long = put.tasks_long; messages_long = put.messages_long; runs_long = put.runs_long }
    in
    row_written c.args.machines c.args.job.now sized _ (row_front put.puts) c.write_figures.ensures

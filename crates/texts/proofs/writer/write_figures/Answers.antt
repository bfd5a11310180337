-- `texts::writer::write_figures` meets its contract: more figures than any job has fill no job.
use Rattle.texts.proofs.JobWriting.{many_figures}
use Rattle.texts.proofs.Writers.{unfit_unwritten}
use Rattle.texts.proofs.writer.write_figures.Goals as goal

pub returns-then-figures-gt-FIGURES : goal.returns-then-figures-gt-FIGURES
returns-then-figures-gt-FIGURES c = unfit_unwritten _ _ (many_figures _ c.requires.at_most c.if-figures-gt-FIGURES.true)

-- `script::acts::figure_act` meets its contract: a line that was read ends within the text.
use Rattle.std.proofs.Common.{arith}
use Rattle.std.proofs.lemmas.List.{take_rest}
use Rattle.script.proofs.Acted.{line_within}
use Rattle.script.proofs.acts.figure_act.Goals as goal

pub overflow_add-result : goal.overflow_add-result
overflow_add-result c =
    omega (arith, line_within c.args.input.now c.args.from _ (simp take_rest at c.in_ok-line.ensures) c.requires, c.well_formed)

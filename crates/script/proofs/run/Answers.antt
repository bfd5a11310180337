-- `script::run` meets its contract: an input above the limit is not acted on.
use mathlib.Core.Path.{◌≡◌}
use lib.ListN.{length}
use borrow.Author.Rules.{rules}
use Rattle.script.specs.Contract.{output_size}
use Rattle.script.proofs.Running.{whole_run, too_long}
use Rattle.script.proofs.run.Goals as goal

pub returns-then-input-gt-INPUT : goal.returns-then-input-gt-INPUT
returns-then-input-gt-INPUT c =
    let a = c.args in
    let long : length a.output.now ≡ output_size = search rules in
    whole_run _ _ _ _ long c.put_too_long.auto.output (too_long a.input.now c.if-input-gt-INPUT.true c.put_too_long.ensures)

use mathlib.Core.Path.{◌≡◌}
use lib.ListN.{length}
use Rattle.rules.specs.Words.{most_messages}
use Rattle.drcd.proofs.Chosen.{Chosen}
use Rattle.drcd.proofs.choice.choose.Given as goal

abbrev pub invariant-loop-machine : goal.invariant-loop-machine
invariant-loop-machine l =
    Chosen l.setup l.job l.inputs.items l.line l.fn.turn l.kept l.starts l.machine-iterator.a.start l.machine-iterator.b.rest.now × (length l.tried ≡ most_messages)

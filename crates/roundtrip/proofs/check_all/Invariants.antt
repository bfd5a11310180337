use Rattle.std.proofs.Common.{◌+◌, ◌≤◌, length}
use Rattle.roundtrip.proofs.check_all.Given as goal

abbrev pub invariant-loop-rest : goal.invariant-loop-rest
invariant-loop-rest g l = l.jobs + length l.rest ≤ length l.text

abbrev pub decreases-loop-rest : goal.decreases-loop-rest
decreases-loop-rest g l = length l.rest

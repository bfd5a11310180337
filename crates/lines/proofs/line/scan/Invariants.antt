use Rattle.lines.proofs.Scanned.{Scanned}
use Rattle.lines.proofs.line.scan.Given as goal

abbrev pub invariant-loop-count : goal.invariant-loop-count
invariant-loop-count l = Scanned l.text l.value l.count

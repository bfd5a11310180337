use Rattle.lines.proofs.Put.{Copied}
use Rattle.lines.proofs.keys.put_key.Given as goal

abbrev pub invariant-loop-i : goal.invariant-loop-i
invariant-loop-i l = Copied l.initial.output l.at l.text l.output l.i

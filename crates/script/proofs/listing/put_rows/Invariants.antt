use Rattle.script.proofs.Listed.{RowsListed}
use Rattle.script.proofs.listing.put_rows.Given as goal

abbrev pub invariant-loop-k : goal.invariant-loop-k
invariant-loop-k l = RowsListed l.initial.output l.at l.timetable l.output l.next l.k

use Rattle.reservation.proofs.Joined.{Joined}
use Rattle.reservation.proofs.changes.with_rows.Given as goal

abbrev pub invariant-loop-i : goal.invariant-loop-i
invariant-loop-i l = Joined l.initial.rows l.count l.own l.job l.rows l.i

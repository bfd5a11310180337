use Rattle.std.proofs.Common.{◌≡◌}
use Rattle.rules.specs.Words.{row_limit}
use Rattle.timeline.specs.RowLine.{slots}
use Rattle.reservation.proofs.Staying.{yielded_rows}
use Rattle.reservation.proofs.changes.still_held.Given as goal

abbrev pub invariant-loop-kept : goal.invariant-loop-kept
invariant-loop-kept l = l.rows ≡ slots row_limit (yielded_rows l.yielded)

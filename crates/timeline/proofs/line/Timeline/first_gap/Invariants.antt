use Prim.Native.Nat.{◌+◌}
use lib.ListN.{length}
use Rattle.timeline.proofs.Walks.{Walked}
use Rattle.timeline.proofs.line.Timeline.first_gap.Given as goal

abbrev pub invariant-loop-begin : goal.invariant-loop-begin
invariant-loop-begin g l = Walked l.self.begins l.self.ends l.self.count l.first l.at l.len (l.first + length l.yielded) l.place

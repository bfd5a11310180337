-- `timeline::line::Timeline::first_after` meets its contract: those of the first so many that pass the test stand before the others.
use lib.Dec.{leb}
use Rattle.std.proofs.Common.{rules}
use Rattle.std.proofs.lemmas.List.Sorted.{IsPartitionPoint-from_clause}
use Rattle.timeline.proofs.Walks.{ends_parted, first_is}
use Rattle.timeline.proofs.line.Timeline.first_after.Goals as goal

pub returns : goal.returns
returns g c =
    let found = c.partition_point.ensures in
    let place = c.args.place in
    let within = c.self.invariant in
    let ascend = rw (← c.self.view_is) at c.requires in
    rw (← c.self.view_is)
    (first_is within ascend place found.bound
    (IsPartitionPoint-from_clause (λ end. leb end place) _ _ found.partitioned (ends_parted within ascend place) (λ a r q k. search rules)))

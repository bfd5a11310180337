-- `timeline::line::Timeline::least_free` meets its contract: the place found is the least free tick of every resource with the number.
use Rattle.std.proofs.Common.{rules}
use Rattle.timeline.proofs.Walks.{gap_asked}
use Rattle.timeline.proofs.Found.{found_least}
use Rattle.timeline.proofs.line.Timeline.least_free.Goals as goal

pub first_gap-requires : goal.first_gap-requires
first_gap-requires g c =
    let sought = c.args.sought in
    (search rules, gap_asked _ _ sought.resource sought.from _ _ c.requires c.first_after.ensures)

pub returns : goal.returns
returns g c =
    let sought = c.args.sought in
    record {
      is =
          λ held on drawn known number some.
          found_least held on _ _ _ sought.resource sought.from _ _ _ drawn known number some c.requires.from_at_most c.requires.len_at_most
          c.first_after.ensures c.first_gap.ensures;
    }

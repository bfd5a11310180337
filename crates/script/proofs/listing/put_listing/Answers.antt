-- `script::listing::put_listing` meets its contract: the heading, then the rows.
use native.Mathlib.Omega.{arith}
use Rattle.script.proofs.Listed.{whole_listing}
use Rattle.script.proofs.listing.put_listing.Goals as goal

pub returns : goal.returns
returns c =
    let room = c.requires.room in
    whole_listing (omega arith) c.count-held.ensures.is c.put_heading-start.ensures.puts c.put_rows.ensures

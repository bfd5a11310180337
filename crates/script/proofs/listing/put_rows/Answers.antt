-- `script::listing::put_rows` meets its contract: row by row, in the order of the line.
use native.Mathlib.Omega.{arith}
use Rattle.script.proofs.Listed.{rows_more, rows_all}
use Rattle.script.proofs.listing.put_rows.Goals as goal

pub loop-k-preserved : goal.loop-k-preserved
loop-k-preserved c =
    rows_more c.requires c.loop-k.invariant (omega (arith, c.loop-k-test.true, c.count-k-end.ensures.is)) c.row.ensures c.put_row-next.ensures

pub returns : goal.returns
returns c = rows_all c.requires c.loop-k.invariant (omega (arith, c.loop-k-test.false, c.count-k-end.ensures.is))

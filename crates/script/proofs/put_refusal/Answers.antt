-- `script::put_refusal` meets its contract: the refusal's field, then the listing.
use Rattle.std.proofs.Common.{arith, sym}
use Rattle.lines.proofs.Put.{puts_then}
use Rattle.script.specs.Replies.{stop_line}
use Rattle.script.proofs.put_refusal.Goals as goal

pub returns : goal.returns
unfolding stop_line
returns c s st of =
    let room = c.requires.room in
    rw (sym c.number.ensures) (puts_then (omega arith) c.put_any_field-start.ensures.puts (c.put_listing.ensures s st of))

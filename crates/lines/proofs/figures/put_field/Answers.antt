-- `lines::figures::put_field` meets its contract: three pieces, one after the other.
use Rattle.lines.proofs.Put.{field_puts}
use Rattle.lines.proofs.figures.put_field.Goals as goal

pub returns : goal.returns
returns c =
    field_puts c.args.key.now c.args.n c.requires c.put_bytes-start.ensures c.put_figure-end.ensures

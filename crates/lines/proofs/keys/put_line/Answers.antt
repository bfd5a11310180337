-- `lines::keys::put_line` meets its contract: three pieces, one after the other.
use Rattle.lines.specs.DueLines.{key_bytes}
use Rattle.lines.proofs.Put.{field_puts}
use Rattle.lines.proofs.keys.put_line.Goals as goal

pub returns : goal.returns
returns c =
    field_puts (key_bytes c.args.key) c.args.figure c.requires c.put_key-start.ensures c.put_figure-end.ensures

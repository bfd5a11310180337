-- `script::listing::put_heading` meets its contract: three fields, one after the other.
use Rattle.std.proofs.Common.{arith}
use Rattle.script.specs.Listing.{clock_key, total_key, held_key}
use Rattle.script.proofs.Fields.{first_field, within_field, at_most}
use Rattle.script.proofs.listing.put_heading.Goals as goal

pub returns : goal.returns
returns c =
    let room = c.requires in
    let one = first_field clock_key (omega arith) c.put_any_field-at1.ensures in
    let two = within_field total_key (omega arith) one c.put_any_field-at2.ensures in
    at_most (within_field held_key (omega arith) two c.put_any_field.ensures)

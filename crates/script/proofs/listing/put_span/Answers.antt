-- `script::listing::put_span` meets its contract: two fields, one after the other.
use native.Mathlib.Omega.{arith}
use Rattle.script.specs.Listing.{start_key, finish_key}
use Rattle.script.proofs.Fields.{first_field, within_field, at_most}
use Rattle.script.proofs.listing.put_span.Goals as goal

pub returns : goal.returns
returns c =
    let room = c.requires in
    let one = first_field start_key (omega arith) c.put_any_field-at1.ensures in
    at_most (within_field finish_key (omega arith) one c.put_any_field.ensures)

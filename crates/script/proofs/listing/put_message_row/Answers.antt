-- `script::listing::put_message_row` meets its contract: five fields, one after the other, and the span.
use Rattle.std.proofs.Common.{arith}
use Rattle.lines.specs.Figures.{field}
use Rattle.script.specs.Keys.{job_key, from_key, to_key}
use Rattle.script.specs.Replies.{task_key}
use Rattle.script.specs.Listing.{link_key, start_key, finish_key}
use Rattle.script.specs.Parts.{most_span}
use Rattle.script.proofs.Fields.{first_field, within_field, within_two, at_most}
use Rattle.script.proofs.listing.put_message_row.Goals as goal

pub returns : goal.returns
returns c =
    let room = c.requires in
    let row = c.args.row in
    let one = first_field link_key (omega arith) c.put_any_field-at1.ensures in
    let two = within_field to_key (omega arith) one c.put_any_field-at2.ensures in
    let three = within_field job_key (omega arith) two (rw c.from.ensures at c.put_any_field-at3.ensures) in
    let four = within_field from_key (omega arith) three c.put_any_field-at4.ensures in
    let five = within_field task_key (omega arith) four c.put_any_field-at5.ensures in
    at_most (within_two (field start_key row.start) (field finish_key row.finish) most_span (omega arith) five (rw (c.from-2.ensures, c.from-3.ensures) at c.put_span.ensures))

-- `script::replies::put_submitted` meets its contract: four fields, one after the other.
use Rattle.std.proofs.Common.{arith}
use Rattle.script.specs.Replies.{answer_key, task_key, cost_key, rows_key}
use Rattle.script.proofs.Fields.{first_field, within_field, at_most}
use Rattle.script.proofs.replies.put_submitted.Goals as goal

pub returns : goal.returns
returns c =
    let room = c.requires in
    let one = first_field answer_key (omega arith) c.put_any_field-at1.ensures in
    let two = within_field task_key (omega arith) one c.put_any_field-at2.ensures in
    let three = within_field cost_key (omega arith) two c.put_any_field-at3.ensures in
    at_most (within_field rows_key (omega arith) three c.put_any_field.ensures)

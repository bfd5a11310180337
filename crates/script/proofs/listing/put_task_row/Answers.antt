-- `script::listing::put_task_row` meets its contract: three fields, one after the other, and the span.
use native.Mathlib.Omega.{arith}
use Rattle.lines.specs.Figures.{field}
use Rattle.script.specs.Keys.{job_key}
use Rattle.script.specs.Replies.{task_key}
use Rattle.script.specs.Listing.{machine_key, start_key, finish_key, task_listed}
use Rattle.script.specs.Parts.{most_span, most_task_row}
use Rattle.script.proofs.Fields.{PutWithin, first_field, within_field, within_two}
use Rattle.script.proofs.listing.put_task_row.Goals as goal
use Rattle.script.proofs.listing.put_task_row.Goals.{After-put_span}

written : (c : After-put_span) →
    let a = c.args in
    PutWithin a.output.now a.at (task_listed a.machine a.task a.row) c.put_span.new.output c.put_span.result most_task_row
written c =
    let a = c.args in
    let room = c.requires in
    let one = first_field machine_key (omega arith) c.put_any_field-at1.ensures in
    let two = within_field job_key (omega arith) one (rw c.from.ensures at c.put_any_field-at2.ensures) in
    let three = within_field task_key (omega arith) two c.put_any_field-at3.ensures in
    within_two (field start_key a.row.start) (field finish_key a.row.finish) most_span (omega arith) three (rw (c.from-2.ensures, c.from-3.ensures) at c.put_span.ensures)

pub returns : goal.returns
returns c = let w = written (goal.at.returns c).After-put_span in record { puts = w.puts; short = let s = w.short in omega arith }

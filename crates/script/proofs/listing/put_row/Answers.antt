-- `script::listing::put_row` meets its contract: what holds the row decides.
use Rattle.script.specs.Listing.{row_lines}
use Rattle.script.proofs.listing.put_row.Goals as goal

pub returns-in-TaskOn : goal.returns-in-TaskOn
unfolding row_lines
returns-in-TaskOn c = rw c.in-TaskOn.is (rw (c.from.ensures, c.from-in-TaskOn.ensures) at c.put_task_row.ensures)

pub returns-in-MessageOn : goal.returns-in-MessageOn
unfolding row_lines
returns-in-MessageOn c =
    rw
    c.in-MessageOn.is
    (rw
    (c.from-in-MessageOn.ensures, c.from-in-MessageOn-2.ensures, c.from-in-MessageOn-3.ensures, c.from-in-MessageOn-4.ensures) at
    c.put_message_row.ensures)

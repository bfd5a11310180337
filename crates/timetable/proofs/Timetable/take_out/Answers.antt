-- `timetable::Timetable::take_out` meets its contract: each column is kept without the rows that leave, whose cost is within the total.
use Rattle.timetable.proofs.Fresh.{blank_note}
use Rattle.timetable.proofs.Removed.{costs_asked, cost_within, taken_out}
use Rattle.timetable.proofs.Timetable.take_out.Goals as goal

pub cost_of_leaving-requires : goal.cost_of_leaving-requires
cost_of_leaving-requires c = costs_asked c.requires

pub overflow_sub-self : goal.overflow_sub-self
overflow_sub-self c = cost_within c.requires c.cost_of_leaving.ensures

pub returns : goal.returns
returns c =
    taken_out
    c.args.self.now
    c.requires.count_is
    c.cost_of_leaving.ensures
    _
    c.keep_staying.ensures.begins
    c.keep_staying.ensures.ends
    c.keep_staying-2.ensures
    (rw (blank_note c.default.ensures) at c.keep_staying-3.ensures)

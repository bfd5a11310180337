-- `screening::screened` meets its contract: each way out is the first test that refuses.
use Rattle.screening.proofs.Firsts.{first_1, first_2, first_3, first_4}
use Rattle.screening.proofs.screened.Goals as goal

pub returns-then-number_outside : goal.returns-then-number_outside
returns-then-number_outside c s same = first_1 s c.args.job.now c.if-number_outside.ensures

pub returns-then-miscounted : goal.returns-then-miscounted
returns-then-miscounted c s same = first_2 s c.args.job.now c.if-number_outside.ensures c.if-miscounted.ensures

pub returns-then-out_of_range : goal.returns-then-out_of_range
returns-then-out_of_range c s same = first_3 s c.args.job.now c.if-number_outside.ensures c.if-miscounted.ensures (c.if-out_of_range.ensures s same)

pub returns-then-bad_messages : goal.returns-then-bad_messages
returns-then-bad_messages c s same =
    first_4 s c.args.job.now c.if-number_outside.ensures c.if-miscounted.ensures (c.if-out_of_range.ensures s same) c.if-bad_messages.ensures

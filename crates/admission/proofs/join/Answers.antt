-- `admission::join` meets its contract: the first i of the own rows have joined the numbers and the notes.
use Rattle.admission.proofs.Joining.{joining_more, joining_all, job_asked}
use Rattle.admission.proofs.join.Goals as goal

pub insert_at-requires : goal.insert_at-requires
insert_at-requires c = job_asked c.loop-i.invariant c.requires c.as_slice-entry-items.ensures.value c.loop-i-test.true

pub loop-i-preserved : goal.loop-i-preserved
loop-i-preserved c =
    joining_more c.loop-i.invariant c.requires c.as_slice-entry-items.ensures.value c.loop-i-test.true c.insert_at.ensures c.insert_at-in-loop-i.ensures

pub returns : goal.returns
returns c = joining_all c.loop-i.invariant c.as_slice-entry-items.ensures.value c.loop-i.auto.i-end c.loop-i-test.false

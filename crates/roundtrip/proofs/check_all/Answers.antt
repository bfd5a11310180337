-- `roundtrip::check_all` ends: a text that was read has some bytes, and ends within what is left.
use Rattle.std.proofs.Common.{arith}
use Rattle.texts.specs.Reader.{default_machines}
use Rattle.texts.proofs.Reached.{Reached, least_job, reads_reached}
use Rattle.roundtrip.proofs.check_all.Goals as goal
use Rattle.roundtrip.proofs.check_all.Goals.{In-Ok}

reached : (g : _) (c : In-Ok g) → Reached c.loop-rest.rest.now 0 least_job c.in-Ok.read.next
reached g c = reads_reached default_machines _ _ c.read_job.ensures.job c.in-Ok.is

pub split_at-requires : goal.split_at-requires
split_at-requires g c = (reached g (goal.at.split_at-requires g c).In-Ok).within

pub loop-rest-smaller : goal.loop-rest-smaller
loop-rest-smaller g c = omega (arith, (reached g (goal.at.loop-rest-smaller g c).In-Ok).on, c.split_at.ensures.back_len)

pub loop-rest-preserved : goal.loop-rest-preserved
loop-rest-preserved g c = omega (arith, (reached g (goal.at.loop-rest-preserved g c).In-Ok).on, c.split_at.ensures.back_len, c.loop-rest.invariant)

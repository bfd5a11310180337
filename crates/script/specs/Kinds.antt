-- Between functions: the call that was read, whose job, of a submission, stands beside it.
use Rattle.rules.specs.declared.Job.{Job}
use Rattle.rules.specs.Refusals.{Call, submits, withdraws, advances}
use Rattle.script.specs.declared.acts.Kind.{Kind}
use Rattle.script.specs.declared.acts.Kind.TheVariants.{Submit, Withdraw, Advance}

abbrev pub call_of : Kind → Job → Call
call_of Submit j = submits j
call_of (Withdraw number) j = withdraws number
call_of (Advance tick) j = advances tick

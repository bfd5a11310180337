-- A reader must believe this: the calls of the code, as calls of the rules.
use Rattle.rules.specs.Refusals.{submits, withdraws, advances}
use Rattle.rules.specs.Refusals as Rules
use Rattle.rules.specs.declared.Call.{Call}
use Rattle.rules.specs.declared.Call.TheVariants.{Submit, Withdraw, Advance}

abbrev pub call_of : Call → Rules.Call
call_of (Submit j) = submits j
call_of (Withdraw n) = withdraws n
call_of (Advance tick) = advances tick

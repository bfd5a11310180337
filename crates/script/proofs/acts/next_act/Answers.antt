-- `script::acts::next_act` meets its contract: the act line decides.
use Rattle.std.proofs.Common.{◌≡◌, ◌+◌, false, length, drop, ◌∙◌, sym, rules}
use Rattle.std.proofs.lemmas.List.{take_rest}
use Rattle.std.proofs.lemmas.Result.{err_from_is_err_and}
use Rattle.rules.specs.Refusals.{withdraws, advances}
use Rattle.lines.specs.Lines.{begins}
use Rattle.texts.specs.Reader.{default_machines}
use Rattle.script.specs.declared.acts.Kind.TheVariants.{Withdraw, Advance}
use Rattle.script.specs.Acts.{number_act, act, submit_line, withdraw_line, clock_line}
use Rattle.script.specs.Keys.{job_key, tick_key}
use Rattle.script.proofs.Acted.{at_submit, at_withdraw, at_clock, no_act}
use Rattle.script.proofs.acts.next_act.Goals as goal
use Rattle.script.proofs.acts.next_act.Goals.{After-begins_with, Else-begins_with, After-begins_with-2, Else-begins_with-2, After-begins_with-3, Then-begins_with-2, Then-begins_with-3}

-- what the tests of the first bytes say

first : (c : After-begins_with) → let a = c.args in begins submit_line (drop a.at a.input.now) ≡ c.begins_with.result
first c = simp take_rest at (sym c.begins_with.ensures.value)

no_first : (c : Else-begins_with) → let a = c.args in begins submit_line (drop a.at a.input.now) ≡ false
no_first c = first (goal.at.Else-begins_with c).After-begins_with ∙ c.if-begins_with.false

second : (c : After-begins_with-2) → let a = c.args in begins withdraw_line (drop a.at a.input.now) ≡ c.begins_with-2.result
second c = simp take_rest at (sym c.begins_with-2.ensures.value)

no_second : (c : Else-begins_with-2) → let a = c.args in begins withdraw_line (drop a.at a.input.now) ≡ false
no_second c = second (goal.at.Else-begins_with-2 c).After-begins_with-2 ∙ c.if-begins_with-2.false

third : (c : After-begins_with-3) → let a = c.args in begins clock_line (drop a.at a.input.now) ≡ c.begins_with-3.result
third c = simp take_rest at (sym c.begins_with-3.ensures.value)

-- what stands there

withdraw_there : (c : Then-begins_with-2) → let a = c.args in act default_machines a.input.now a.at ≡ number_act withdraws job_key a.input.now (a.at + length withdraw_line)
withdraw_there c =
    let p = goal.at.Then-begins_with-2 c in
    at_withdraw default_machines _ _ c.requires (no_first p.Else-begins_with) (second p.After-begins_with-2 ∙ c.if-begins_with-2.true)

clock_there : (c : Then-begins_with-3) → let a = c.args in act default_machines a.input.now a.at ≡ number_act advances tick_key a.input.now (a.at + length clock_line)
clock_there c =
    let p = goal.at.Then-begins_with-3 c in
    at_clock default_machines _ _ c.requires (no_first p.Else-begins_with) (no_second p.Else-begins_with-2) (third p.After-begins_with-3 ∙ c.if-begins_with-3.true)

pub returns-then-begins_with : goal.returns-then-begins_with
returns-then-begins_with c =
    let begun = first (goal.at.returns-then-begins_with c).After-begins_with ∙ c.if-begins_with.true in
    c.submit_act.ensures ∙ sym (at_submit default_machines _ _ c.requires begun)

pub returns-in_err-number : goal.returns-in_err-number
returns-in_err-number c =
    let stop = err_from_is_err_and c.from_residual.result c.from_residual.ensures.1 in
    rw (stop.1, stop.2) (c.in_err-number.ensures withdraws ∙ sym (withdraw_there (goal.at.returns-in_err-number c).Then-begins_with-2))

pub returns-then-begins_with-2 : goal.returns-then-begins_with-2
returns-then-begins_with-2 c =
    let said : c.map.result.value ≡ Withdraw c.in_ok-number.number.value = search rules in
    rw (said, c.map.ensures.next) (c.in_ok-number.ensures withdraws ∙ sym (withdraw_there (goal.at.returns-then-begins_with-2 c).Then-begins_with-2))

pub returns-in_err-tick : goal.returns-in_err-tick
returns-in_err-tick c =
    let stop = err_from_is_err_and c.from_residual-in_err-tick.result c.from_residual-in_err-tick.ensures.1 in
    rw (stop.1, stop.2) (c.in_err-tick.ensures advances ∙ sym (clock_there (goal.at.returns-in_err-tick c).Then-begins_with-3))

pub returns-then-begins_with-3 : goal.returns-then-begins_with-3
returns-then-begins_with-3 c =
    let said : c.map-then-begins_with-3.result.value ≡ Advance c.in_ok-tick.tick.value = search rules in
    rw (said, c.map-then-begins_with-3.ensures.next) (c.in_ok-tick.ensures advances ∙ sym (clock_there (goal.at.returns-then-begins_with-3 c).Then-begins_with-3))

pub returns : goal.returns
returns c =
    let p = goal.at.returns c in
    let none = third p.After-begins_with-3 ∙ c.if-begins_with-3.false in
    sym (no_act default_machines _ _ c.requires (no_first p.Else-begins_with) (no_second p.Else-begins_with-2) none)

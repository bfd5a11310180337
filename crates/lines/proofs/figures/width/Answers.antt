-- `lines::figures::width` meets its contract: a number has one digit more than the logarithm says.
use Rattle.std.proofs.Common.{rules}
use Rattle.lines.proofs.Decimals.{logarithm_width}
use Rattle.lines.proofs.figures.width.Goals as goal

pub returns : goal.returns
returns c =
    let l = c.checked_ilog10.ensures in
    logarithm_width c.args.n c.checked_ilog10.result l.none l.power_le l.next_power_gt c.map_or.ensures (λ k said. search rules)

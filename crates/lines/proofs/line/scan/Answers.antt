-- `lines::line::scan` meets its contract: `count` digits have been read, and they say `value`.
use mathlib.Core.Path.{◌≡◌, sym, ◌∙◌}
use Prim.Native.Nat.{◌^◌, ◌≤◌, ◌<◌}
use native.Mathlib.Omega.{arith}
use lib.ListN.{length, get_or, take, length-take}
use Rattle.std.proofs.lemmas.List.{get_or-take}
use Rattle.lines.specs.Figures.{is_digit}
use Rattle.lines.specs.Parts.{most_scanned}
use Rattle.lines.proofs.Digits.{ascii_digit}
use Rattle.lines.proofs.Scanned.{scanned_more, scan_bound, scan_other, scan_all}
use Rattle.lines.proofs.line.scan.Goals as goal
use Rattle.lines.proofs.line.scan.Goals.{In-loop-count, After-is_ascii_digit, Else-not-is_ascii_digit}

-- a byte is looked at
module _ (c : In-loop-count) where
  within : (c.loop-count.count < length c.args.text.now) × (c.loop-count.count ≤ c.args.most)
  within =
      let l = length-take c.min-looked_at.result c.args.text.now in
      let m = c.min-looked_at.ensures in
      let t = c.loop-count-test.true in
      (omega arith, omega arith)

  byte_is : get_or (take c.min-looked_at.result c.args.text.now) c.loop-count.count 0 ≡ get_or c.args.text.now c.loop-count.count 0
  byte_is =
      get_or-take
      c.min-looked_at.result
      c.args.text.now
      c.loop-count.count
      0
      (omega (arith, length-take c.min-looked_at.result c.args.text.now, c.loop-count-test.true))

  bound : c.loop-count.value < 10 ^ most_scanned
  bound = scan_bound c.loop-count.invariant (omega (arith, within, c.requires))

-- whether it is a digit
tested : (c : After-is_ascii_digit) → is_digit (get_or c.args.text.now c.loop-count.count 0) ≡ c.is_ascii_digit.result
tested c = rw (← byte_is (goal.at.After-is_ascii_digit c).In-loop-count) (sym (c.is_ascii_digit.ensures.value ∙ ascii_digit _))

pub returns-then-not-is_ascii_digit : goal.returns-then-not-is_ascii_digit
returns-then-not-is_ascii_digit c =
    let its = within (goal.at.returns-then-not-is_ascii_digit c).In-loop-count in
    scan_other c.loop-count.invariant its.1 its.0 (tested (goal.at.returns-then-not-is_ascii_digit c).After-is_ascii_digit ∙ c.if-not-is_ascii_digit.true)

pub loop-count-preserved : goal.loop-count-preserved
loop-count-preserved c =
    rw
    (c.from.ensures, byte_is (goal.at.loop-count-preserved c).In-loop-count)
    (scanned_more
    c.loop-count.invariant
    (within (goal.at.loop-count-preserved c).In-loop-count).0
    (tested (goal.at.loop-count-preserved c).After-is_ascii_digit ∙ c.if-not-is_ascii_digit.false))

pub returns : goal.returns
returns c =
    let m = c.min-looked_at.ensures in
    let l = length-take c.min-looked_at.result c.args.text.now in
    let all : c.loop-count.count ≡ c.min-looked_at.result = omega arith in
    rw (← all) (scan_all c.loop-count.invariant (omega arith))

pub overflow_mul-value : goal.overflow_mul-value
overflow_mul-value c = omega (arith, bound (goal.at.overflow_mul-value c).In-loop-count)

pub overflow_add-value : goal.overflow_add-value
overflow_add-value c = omega (arith, bound (goal.at.overflow_add-value c).In-loop-count)

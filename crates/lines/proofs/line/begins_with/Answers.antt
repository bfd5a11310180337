-- `lines::line::begins_with` meets its contract: up to the byte i the key and the text agree.
use Prim.Native.Nat.{◌<◌}
use native.Mathlib.Omega.{arith}
use lib.ListN.{length}
use Rattle.lines.proofs.Begun.{compared_none, compared_more, differs, too_short, key_ended}
use Rattle.lines.proofs.line.begins_with.Goals as goal
use Rattle.lines.proofs.line.begins_with.Goals.{In-loop-i}

pub loop-i-init : goal.loop-i-init
loop-i-init c = compared_none c.args.key.now c.args.text.now

-- the text is as long as the key, so there is a byte
byte_there : (c : In-loop-i) → c.loop-i.i < length c.args.text.now
byte_there c = omega (arith, c.if-text-key.false, c.loop-i-test.true)

pub returns-then-text-i-clause-value : goal.returns-then-text-i-clause-value
returns-then-text-i-clause-value c =
    differs c.loop-i.invariant c.loop-i-test.true (byte_there (goal.at.returns-then-text-i-clause-value c).In-loop-i) c.if-text-i.true

pub loop-i-preserved : goal.loop-i-preserved
loop-i-preserved c =
    compared_more c.loop-i.invariant c.loop-i-test.true (byte_there (goal.at.loop-i-preserved c).In-loop-i) c.if-text-i.false

pub returns-clause-value : goal.returns-clause-value
returns-clause-value c = key_ended c.loop-i.invariant (omega (arith, c.loop-i-test.false))

pub returns-then-text-key-clause-value : goal.returns-then-text-key-clause-value
returns-then-text-key-clause-value c = too_short _ _ c.if-text-key.true

-- `script::output::put_any_field` meets its contract: a 64-bit number has twenty digits at the most.
use Prim.Native.Nat.{◌≤◌}
use native.Mathlib.Omega.{arith}
use lib.ListN.{length}
use Rattle.lines.specs.Figures.{field}
use Rattle.lines.proofs.Decimals.{word_length}
use Rattle.script.specs.Parts.{field_room}
use Rattle.lines.proofs.Put.{field_length}
use Rattle.script.proofs.output.put_any_field.Goals as goal
use Rattle.script.proofs.output.put_any_field.Goals.{Start}

short : (s : Start) → length (field s.args.key.now s.args.n) ≤ field_room s.args.key.now
short s =
    let long = field_length s.args.key.now s.args.n in
    let digits = word_length s.args.n (omega (arith, s.well_formed)) in
    omega arith

pub put_field-requires : goal.put_field-requires
put_field-requires c = omega (arith, short (goal.at.put_field-requires c).Start, c.requires)

pub returns : goal.returns
returns c = record { puts = c.put_field.ensures; short = short (goal.at.returns c).Start }

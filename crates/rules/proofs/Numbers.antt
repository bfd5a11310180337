-- The number of a resource lies below a bound.
use Prim.Native.Nat.{ℕ, ◌<◌}
use native.Mathlib.Omega.{arith}
use Rattle.rules.specs.Words.{link}
use Rattle.rules.specs.Asked.{HasMachine, HasLink}
use Rattle.rules.specs.Codes.{resource_number, resource_bound}

pub machine_below : {m : ℕ} → HasMachine m → m < resource_bound
machine_below is = let last = is.last in omega arith

pub link_below : {a b : ℕ} → HasLink a b → resource_number (link a b) < resource_bound
link_below is = let source = is.source.last in let target = is.target.last in omega arith

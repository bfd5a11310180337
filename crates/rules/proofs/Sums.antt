-- What code asks of an index: it lies below the bound of what it indexes.
use Prim.Native.Nat.{ℕ, ◌<◌, ◌≤◌}
use native.Mathlib.Omega.{arith}

pub index_below : {i n most : ℕ} → i < n → n ≤ most → i < most
index_below h m = omega arith

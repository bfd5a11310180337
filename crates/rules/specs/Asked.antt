-- Between functions: what the code's accessors of the tables ask of the machines that they are given.
use Rattle.std.specs.Prelude.{ℕ, ◌≤◌}
use Rattle.rules.specs.Words.{most_machines}

pub record HasMachine (m : ℕ) : Type 0 where
  pub first : 1 ≤ m
  pub last : m ≤ most_machines

pub record HasLink (a b : ℕ) : Type 0 where
  pub source : HasMachine a
  pub target : HasMachine b

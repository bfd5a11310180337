-- Between functions: one number for a resource, which searches and the listing go by.
use Rattle.std.specs.Prelude.{ℕ, ◌+◌, ◌*◌}
use Rattle.rules.specs.declared.Holder.{Holder}
use Rattle.rules.specs.declared.Holder.TheVariants.{TaskOn, MessageOn}
use Rattle.rules.specs.Words.{Resource, machine, link, most_machines}
use Rattle.rules.specs.Asked.{HasMachine, HasLink}

-- one past the machines that a table has room for
abbrev pub machine_bound : ℕ
machine_bound = most_machines + 1

-- machines by their own numbers, and above them links by sending and then receiving machine
abbrev pub resource_number : Resource → ℕ
resource_number (machine m) = m
resource_number (link a b) = a * machine_bound + b

-- the numbers of resources lie below this
abbrev pub resource_bound : ℕ
resource_bound = machine_bound * machine_bound

-- holders whose machines a table has room for
pub data Numbered : Holder → Type 0 where
  on_machine : {m t : ℕ} → HasMachine m → Numbered (TaskOn m t)
  on_link : {a b x y : ℕ} → HasLink a b → Numbered (MessageOn a b x y)

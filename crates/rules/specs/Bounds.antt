-- A reader must believe this: the tables that a register may be opened with, and beside demand 3 what every step keeps. Each call asks it of its register and
-- ensures it again.
use Rattle.std.specs.Prelude.{◌≡◌, ◌≢◌, ℕ, ◌≤◌, ◌<◌, length}
use mathlib.Core.List.{Memᴰ}
use Rattle.rules.specs.declared.Holder.{Holder}
use Rattle.rules.specs.declared.Holder.TheVariants.{TaskOn, MessageOn}
use Rattle.rules.specs.declared.Row.{Row}
use Rattle.rules.specs.declared.Setup.{Setup}
use Rattle.rules.specs.Words.{largest_number, most_tasks, most_machines, horizon, row_limit, rate, link_time, link_rate, State}
use Rattle.rules.specs.Placing.{costs}
use Rattle.rules.specs.Demands.{NoSharedTick}

-- the largest rate of a machine or a link, the largest link time, and the largest cost of a row that they give
abbrev pub largest_rate : ℕ
largest_rate = 1_000_000

abbrev pub largest_link_time : ℕ
largest_link_time = 1_000

abbrev pub largest_cost : ℕ
largest_cost = 1_000_000_000_000

-- tables whose figures are in range; a link between two machines takes time
pub record Sound (s : Setup) : Type 0 where
  pub room : s.table.machines ≤ most_machines
  pub rates : (m : ℕ) → rate s m ≤ largest_rate
  pub times : (a b : ℕ) → link_time s a b ≤ largest_link_time
  pub fails : (a b : ℕ) → link_rate s a b ≤ largest_rate
  pub takes_time : (a b : ℕ) → 1 ≤ a → a ≤ s.table.machines → 1 ≤ b → b ≤ s.table.machines → (a ≡ b → ⊥) → 1 ≤ link_time s a b

pub record Between (low high n : ℕ) : Type 0 where
  pub first : low ≤ n
  pub last : n ≤ high

-- a holder's machines are the table's and its tasks in range; the two machines of a link differ, and so do the two tasks of a message
pub data Listed (s : Setup) : Holder → Type 0 where
  task : {m t : ℕ} → Between 1 s.table.machines m → Between 1 most_tasks t → Listed s (TaskOn m t)
  message :
      {a b x y : ℕ} → Between 1 s.table.machines a → Between 1 s.table.machines b →
      Between 1 most_tasks x → Between 1 most_tasks y → a ≢ b → x ≢ y → Listed s (MessageOn a b x y)

pub record RowInRange (s : Setup) (row : Row) : Type 0 where
  pub holder : Listed s row.holder
  pub job : Between 1 largest_number row.job
  pub lasts : row.start < row.finish
  pub ends : row.finish ≤ horizon
  pub cost : row.cost ≤ largest_cost

-- what every step keeps of a register
pub record Bounded (s : Setup) (st : State) : Type 0 where
  pub clock : st.calendar.clock ≤ horizon
  pub count : length st.rows ≤ row_limit
  pub rows : (row : Row) → Memᴰ row st.rows → RowInRange s row
  pub apart : NoSharedTick st.rows
  pub total : st.total ≡ costs st.rows

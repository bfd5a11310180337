-- No two messages of a job in range have the same sender and the same receiver; so each turn of placing it keeps what is due.
use mathlib.Core.Path.{◌≡◌}
use mathlib.Core.Bool.{true}
use mathlib.Core.List.{List, ◌++◌}
use Prim.Native.Nat.{ℕ}
use Rattle.rules.specs.declared.Row.{Row}
use Rattle.rules.specs.declared.Message.{Message}
use Rattle.rules.specs.declared.Job.{Job}
use Rattle.rules.specs.declared.Setup.{Setup}
use Rattle.rules.specs.Sequences.{precedes}
use Rattle.rules.specs.Words.{messages_of}
use Rattle.rules.specs.Placing.{trial_rows, try}
use Rattle.rules.specs.Refusals.{message_order}
use Rattle.rules.specs.Laws.{IsNext, IsKept}
use Rattle.rules.specs.Demands.{InRange}
use Rattle.rules.specs.Placing.{Ground}
use Rattle.rules.proofs.Sequences.{clash}
use Rattle.rules.proofs.Pairs.{Pairwise, at_pairwise}
use Rattle.rules.proofs.Choice.{precedes_irrefl}
use Rattle.rules.proofs.Order.{distinct_listed}
use Rattle.rules.proofs.Inputs.{Differ, try_shape}
use Rattle.rules.proofs.Due.{Progress, progress_turn}

precedes_differ : (x y : Message) → precedes (message_order x) (message_order y) ≡ true → Differ x y
precedes_differ x y e same =
    let alike : precedes (message_order y) (message_order y) ≡ true = rw (same.sender, same.receiver) at e in
    clash alike (precedes_irrefl (message_order y))

pub in_range_differ : (s : Setup) (j : Job) → InRange s j → Pairwise Differ (messages_of j)
in_range_differ s j range = at_pairwise Differ (messages_of j) blank (λ i k h b. precedes_differ _ _ (distinct_listed s j range blank i k h b))
  where
    blank : Message
    blank = record { sender = 0; receiver = 0; volume = 0 }

pub turn_due :
    (s : Setup) (g : Ground) (j : Job) → InRange s j → (new : List Row) (t m : ℕ) →
    IsNext j new t → IsKept s g j new t m → Progress s j new → Progress s j (new ++ trial_rows (try s g j new t m))
turn_due s g j range new t m next kept =
    progress_turn s g j (in_range_differ s j range) new t m (try s g j new t m) (try_shape s g j new t m) next.is_task
    next.is_ready kept.is_good.is_machine kept.is_good.able kept.is_good.in_time

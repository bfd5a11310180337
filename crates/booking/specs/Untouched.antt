-- A refused call leaves the register that it was handed.
use Rattle.std.specs.Prelude.{◌≡◌, Err}
use Rattle.rules.specs.declared.answers.Refusal.{Refusal}
use Rattle.reservation.specs.declared.Register.{Register}
use Rattle.reservation.specs.declared.Reply.{Reply}

abbrev pub Untouched : Register → Reply → Type 0
Untouched before reply = (why : Refusal) → reply.answer ≡ Err why → reply.register ≡ before

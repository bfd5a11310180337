-- What holds of a fresh start and is kept by each call holds after every list of calls.
use mathlib.Core.Path.{◌≡◌}
use mathlib.Core.List.{List, [], ◌∷◌}
use borrow.Author.Tests.{eqb-true}
use Rattle.rules.specs.declared.Answer.{Answer}
use Rattle.rules.specs.Refusals.{accepted, Call, Step, settle, after}
use Rattle.rules.proofs.Sequences.{by_test}

-- a refusal keeps what held, so only an accepted call has something to show
pub settle_keeps :
    {S : Type 0} (P : S → Type 0) (a : Answer) {old changed : S} → P old → (a.number ≡ 0 → P changed) → P (settle a old changed).left
unfolding settle
settle_keeps P a h k = by_test (accepted a) (λ e. rw e (k (eqb-true a.number 0 e))) (λ e. rw e h)

pub after_keeps :
    {S : Type 0} (P : S → Type 0) (next : S → Call → Step S) → ((st : S) (c : Call) → P st → P (next st c).left) →
    (calls : List Call) (st : S) → P st → P (after next st calls)
unfolding after
after_keeps P next kept [] st h = h
after_keeps P next kept (c ∷ calls) st h = after_keeps P next kept calls (next st c).left (kept st c h)

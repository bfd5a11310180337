-- Lists of calls: each has one answer; and the list struck of its refused calls leaves the same state and gives the same answers to the other calls.
use mathlib.Core.Path.{◌≡◌, refl, sym, ap, ◌∙◌}
use mathlib.Core.Bool.{false}
use mathlib.Core.List.{List, [], ◌∷◌}
use Prim.Native.Nat.{suc}
use Rattle.rules.specs.declared.Setup.{Setup}
use Rattle.rules.specs.Sequences.{keep}
use Rattle.rules.specs.Words.{State}
use Rattle.rules.specs.Refusals.{accepted, Call, submits, withdraws, advances, Step, settle, step, answers, after, struck}
use Rattle.rules.specs.Laws.{RepliesCounted}
use Rattle.rules.proofs.Sequences.{by_test}

pub replies_counted : RepliesCounted
unfolding answers
replies_counted s st [] = refl
replies_counted s st (c ∷ calls) = ap suc (replies_counted s (step s st c).left calls)

-- of any steps that leave the state as it was where they refuse
module _ {S : Type 0} (next : S → Call → Step S) (still : (st : S) (c : Call) → accepted (next st c).answer ≡ false → (next st c).left ≡ st) where
  pub struck_state : (st : S) (calls : List Call) → after next st (struck next st calls) ≡ after next st calls
  unfolding after struck
  struck_state st [] = refl
  struck_state st (c ∷ calls) =
      let below = struck_state (next st c).left calls in
      by_test
      (accepted (next st c).answer)
      (λ h. rw h below)
      (λ h. rw h (ap (λ x. after next x (struck next (next st c).left calls)) (sym (still st c h)) ∙ below))

  pub struck_answers : (st : S) (calls : List Call) → answers next st (struck next st calls) ≡ keep (λ a. accepted a) (answers next st calls)
  unfolding answers struck
  struck_answers st [] = refl
  struck_answers st (c ∷ calls) =
      let below = struck_answers (next st c).left calls in
      by_test
      (accepted (next st c).answer)
      (λ h. rw h (ap (λ l. (next st c).answer ∷ l) below))
      (λ h. rw h (ap (λ x. answers next x (struck next (next st c).left calls)) (sym (still st c h)) ∙ below))

-- the register's steps are such
pub step_still : (s : Setup) (st : State) (c : Call) → accepted (step s st c).answer ≡ false → (step s st c).left ≡ st
unfolding step settle
step_still s st (submits j) h = rw h
step_still s st (withdraws n) h = rw h
step_still s st (advances tick) h = rw h

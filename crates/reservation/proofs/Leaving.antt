-- The rows that leave with a withdrawal and with a clock move: whole jobs, or none if the call is refused.
use mathlib.Core.Path.{refl, sym, ap}
use mathlib.Core.Bool.{false, not}
use Prim.Native.Nat.{ℕ}
use lib.Dec.{eqb}
use Rattle.rules.specs.declared.Setup.{Setup}
use Rattle.rules.specs.Words.{State, of_job, view}
use Rattle.rules.specs.Withdrawing.{remove, withdraw, ended, advance}
use Rattle.rules.specs.Refusals.{withdraws, advances, withdraw_answer, advance_answer, step}
use Rattle.rules.proofs.Sequences.{keep_all}
use Rattle.rules.proofs.Steps.{settle_keeps}
use Rattle.reservation.specs.Parts.{Leaves}

none_leaves : (st : State) → Leaves st st
none_leaves st = record {
  leaving = λ row. false;
  whole = λ a b m n same. refl;
  rows_are = sym (keep_all (λ row. not false) st.rows (λ row m. refl));
}

module _ (s : Setup) (st : State) where
  pub withdrawal_leaves : (n : ℕ) → Leaves st (step s st (withdraws n)).left
  unfolding step withdraw remove
  withdrawal_leaves n =
      settle_keeps
      (Leaves st)
      (withdraw_answer (view st) n)
      (none_leaves st)
      (λ z. record { leaving = of_job n; whole = λ a b _ _ same. ap (λ job. eqb job n) same; rows_are = refl })

  pub clock_move_leaves : (tick : ℕ) → Leaves st (step s st (advances tick)).left
  unfolding step advance remove
  clock_move_leaves tick =
      settle_keeps
      (Leaves st)
      (advance_answer (view st) tick)
      (none_leaves st)
      (λ z. record {
        leaving = λ row. ended tick ((view st).rows_of row.job);
        whole = λ a b _ _ same. ap (λ job. ended tick ((view st).rows_of job)) same;
        rows_are = refl;
      })

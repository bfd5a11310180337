-- `timetable::Timetable::rows_of` meets its contract: each mark says whether the row at its index has the number.
use mathlib.Core.Path.{◌≡◌, ap, ◌∙◌}
use mathlib.Core.Bool.{false}
use Prim.Native.Nat.{ℕ, ◌<◌}
use native.Mathlib.Omega.{arith}
use lib.Dec.{eqb}
use lib.ListN.{get_or}
use borrow.Author.Tests.{ne_eqb}
use Rattle.std.proofs.Common.{rules}
use Rattle.timetable.proofs.Carried.{job_at}
use Rattle.timetable.proofs.Timetable.rows_of.Goals as goal
use Rattle.timetable.proofs.Timetable.rows_of.Goals.{After-filled}

mark : (c : After-filled) (i : ℕ) → i < c.args.self.now.line.count → get_or c.filled.result i false ≡ eqb (get_or c.args.self.now.jobs i 0) c.args.job
mark c i h =
    let count = c.count-count.ensures in
    let made = c.filled.ensures.made_is i false (omega arith) (omega arith) in
    search (rules, made)

pub invariant_of-result : goal.invariant_of-result
invariant_of-result c =
    let count = c.count-count.ensures in
    record {
      long = c.filled.ensures.long;
      few = count.fits;
      first = record {
        at_most = omega (arith, c.requires.within);
        none_before =
            λ i h.
            mark (goal.at.invariant_of-result c).After-filled i (omega (arith, c.requires.within)) ∙ ne_eqb _ _ (c.requires.before i h);
      };
    }

pub returns-clause-rows : goal.returns-clause-rows
returns-clause-rows c line n is =
    let count = c.count-count.ensures in
    let long = c.filled.ensures.long in
    record {
      long = omega arith;
      says =
          λ k h.
          mark (goal.at.returns-clause-rows c).After-filled k (omega arith) ∙ ap (λ held. eqb held c.args.job) (job_at line is k h);
    }

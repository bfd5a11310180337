-- `timetable::Timetable::has_begun` meets its contract: some row from the index on has the number and has begun, or none does.
use Prim.Native.Nat.{◌-◌}
use mathlib.Core.Path.{refl}
use Rattle.std.proofs.Common.{rules, tests}
use Rattle.std.proofs.lemmas.Iterator.{YieldsList-from_range, cases_from_any}
use Rattle.timetable.proofs.Carried.{HasBegun, NotBegun, begun_from}
use Rattle.timetable.proofs.Timetable.has_begun.Goals as goal

pub returns : goal.returns
returns c =
    let t = c.args.self.now in
    let from = c.args.from in
    begun_from
    t
    c.args.job
    c.requires
    c.count.ensures.is
    (cases_from_any
    _
    _
    c.any.result
    (HasBegun t c.args.job)
    (NotBegun t c.args.job)
    c.any.ensures.ran
    (YieldsList-from_range from c.count.result (c.count.result - from) refl refl)
    (λ i q k. search (rules, tests))
    (λ i q k. search (rules, tests)))

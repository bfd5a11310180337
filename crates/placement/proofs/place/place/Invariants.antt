use Rattle.placement.proofs.Turning.{Turning}
use Rattle.placement.proofs.place.place.Given as goal

abbrev pub invariant-loop : goal.invariant-loop
invariant-loop l = Turning l.setup l.job l.fn.base l.initial.line l.spots l.line l.own.items l.cost l.release l.counter

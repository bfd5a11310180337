-- Document 01's example of a ratio, and the two ways to have none.
use mathlib.Core.Path.{refl}
use Rattle.std.proofs.Common.{Some, None}
use Rattle.tally.specs.Tallies.{RatioIs}

two_in_three : RatioIs (record { arrived = 3; admitted = 2 }) (Some 6_666)
two_in_three = record { number_is = refl; value_is = refl }

none_arrived : RatioIs (record { arrived = 0; admitted = 0 }) None
none_arrived = record { number_is = refl; value_is = refl }

more_admitted : RatioIs (record { arrived = 2; admitted = 3 }) None
more_admitted = record { number_is = refl; value_is = refl }

-- What an answer of the code says by its number, place and value, where it is the form's.
use mathlib.Core.Path.{ap}
use Rattle.std.specs.Prelude.{Ok, Err}
use Rattle.lines.specs.Readings.{parsed_number, parsed_place, parsed_value}
use Rattle.lines.specs.Laws.{ReadingSays}

pub reading_says : {A : Type 0} → ReadingSays A
reading_says found (Ok reading) e = record { number_is = ap parsed_number e; place_is = ap parsed_place e; value_is = ap parsed_value e }
reading_says found (Err unread) e = record { number_is = ap parsed_number e; place_is = ap parsed_place e; value_is = ap parsed_value e }

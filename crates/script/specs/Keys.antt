-- A reader must believe this: keys of document 01 that scripts and listings share with the job text, each with its equals sign.
use Rattle.std.specs.Prelude.{List, ℕ}
use Rattle.lines.specs.Figures.{bytes}

abbrev pub job_key : List ℕ
job_key = bytes "job="

abbrev pub from_key : List ℕ
from_key = bytes "from="

abbrev pub to_key : List ℕ
to_key = bytes "to="

abbrev pub tick_key : List ℕ
tick_key = bytes "tick="

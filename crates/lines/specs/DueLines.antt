-- Between functions: keys and due lines as the code has them.
use Rattle.std.specs.Prelude.{List, ℕ}
use Rattle.rules.specs.Answers.{option_of}
use Rattle.lines.specs.declared.keys.Key.{Key}
use Rattle.lines.specs.declared.keys.Key.TheVariants as K
use Rattle.lines.specs.declared.line.DueLine.{DueLine}
use Rattle.lines.specs.Figures.{bytes}
use Rattle.lines.specs.Lines.{Due}
use Rattle.lines.specs.Readings.{fault_number}

abbrev pub key_bytes : Key → List ℕ
key_bytes K.Job = bytes "job="
key_bytes K.Sched = bytes "sched="
key_bytes K.Tasks = bytes "tasks="
key_bytes K.Deadline = bytes "deadline="
key_bytes K.Dispatch = bytes "dispatch="
key_bytes K.Run = bytes "run="
key_bytes K.Messages = bytes "messages="
key_bytes K.From = bytes "from="
key_bytes K.To = bytes "to="
key_bytes K.Volume = bytes "volume="
key_bytes K.Tick = bytes "tick="

abbrev pub due_of : DueLine → Due
due_of d = record {
  key = key_bytes d.key;
  digits = d.digits;
  least = d.least;
  most = d.most;
  except = option_of d.except;
  refuses = fault_number d.refuses;
}

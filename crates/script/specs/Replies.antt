-- A reader must believe this: the bytes of an answer, one field a line. Document 01, "The program `register`".
use Rattle.std.specs.Prelude.{List, [], ◌++◌, ℕ}
use Rattle.std.proofs.Math.Option.{Option, none, some}
use Rattle.rules.specs.declared.Answer.{Answer}
use Rattle.rules.specs.Refusals.{Call, submits, withdraws, advances}
use Rattle.lines.specs.Figures.{bytes, field}

abbrev pub answer_key : List ℕ
answer_key = bytes "answer="

abbrev pub task_key : List ℕ
task_key = bytes "task="

abbrev pub cost_key : List ℕ
cost_key = bytes "cost="

abbrev pub rows_key : List ℕ
rows_key = bytes "rows="

abbrev pub refused_key : List ℕ
refused_key = bytes "refused="

abbrev pub submission_reply : Answer → List ℕ
submission_reply a = field answer_key a.number ++ field task_key a.task ++ field cost_key a.cost ++ field rows_key a.rows

-- withdrawals and clock moves print `answer` only
unfoldable pub reply : Call → Answer → List ℕ
reply (submits j) a = submission_reply a
reply (withdraws n) a = field answer_key a.number
reply (advances tick) a = field answer_key a.number

-- a reading refusal prints its number
unfoldable pub stop_line : Option ℕ → List ℕ
stop_line none = []
stop_line (some number) = field refused_key number

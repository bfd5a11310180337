-- `timetable::Timetable::rows_ended` meets its contract: each mark says whether the job of the row at its index has ended.
use mathlib.Core.Path.{◌≡◌, ap, ◌∙◌}
use mathlib.Core.Bool.{false}
use native.Mathlib.Omega.{arith}
use lib.Dec.{leb}
use lib.ListN.{get_or}
use Rattle.std.proofs.Common.{rules}
use Rattle.timeline.specs.Notes.{no_note}
use Rattle.timeline.specs.RowLine.{note_of}
use Rattle.timeline.proofs.ColumnLaws.{column_at}
use Rattle.timetable.proofs.Timetable.rows_ended.Goals as goal

pub returns-clause-rows : goal.returns-clause-rows
returns-clause-rows c line last n is =
    let count = c.count-count.ensures in
    let marked = c.filled.ensures in
    rw
    c.new.ensures.marks
    (record {
      long = omega arith;
      says =
          λ k h.
          let mark = marked.made_is k false (omega arith) (omega arith) in
          let test : get_or c.filled.result k false ≡ leb (get_or c.args.self.now.notes k no_note).last c.args.tick = search (rules, mark) in
          test
          ∙ ap (λ notes. leb (get_or notes k no_note).last c.args.tick) is
          ∙ ap (λ note. leb note.last c.args.tick) (column_at (note_of last) line k no_note h);
    })

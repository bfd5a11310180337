-- Rows in slots: what is made by default is a blank row, and a row goes into the first blank one.
use mathlib.Core.Path.{◌≡◌, sym, ap, ◌∙◌}
use mathlib.Core.List.{List, [], ◌∷◌, ◌++◌}
use Prim.Native.Nat.{ℕ, suc, ◌-◌, ◌<◌}
use native.Mathlib.Omega.{arith}
use lib.ListN.{length, set, replicate, length-append}
use lib.Seq.{set-append_seam, append_snoc}
use Rattle.rules.specs.declared.Holder.TheVariants.{TaskOn}
use Rattle.rules.specs.declared.Row.{Row}
use Rattle.rules.specs.Placing.{no_row}
use Rattle.timeline.specs.RowLine.{slots}

pub blank_is :
    (row : Row) → (row.holder ≡ TaskOn 0 0) × ((row.job ≡ 0) × ((row.start ≡ 0) × ((row.finish ≡ 0) × (row.cost ≡ 0)))) → row ≡ no_row
blank_is row (holder, (job, (start, (finish, cost)))) = λ i. record { holder = holder i; job = job i; start = start i; finish = finish i; cost = cost i }

pub slot_next :
    (room : ℕ) (rows : List Row) (row : Row) {at : ℕ} → at ≡ length rows → length rows < room → set (slots room rows) at row ≡ slots room (rows ++ (row ∷ []))
slot_next room rows row at_is less =
    let more : room - length rows ≡ suc (room - length (rows ++ (row ∷ []))) = let both = length-append rows (row ∷ []) in omega arith in
    let behind = replicate (room - length (rows ++ (row ∷ []))) no_row in
    ap (λ n. set (slots room rows) n row) at_is
    ∙ ap (λ n. set (rows ++ replicate n no_row) (length rows) row) more
    ∙ set-append_seam rows no_row behind row
    ∙ sym (append_snoc rows row behind)

-- Rows of one job that is not held, put after the held ones: the last finish of a held job is as it was, that of the new one is the last of its rows, and the
-- soonest end is the sooner of what it was and of that.
use mathlib.Core.Path.{◌≡◌, refl, sym, ap, ap₂, ◌∙◌}
use mathlib.Core.Logic.{⊎_elim}
use mathlib.Core.List.{List, [], ◌∷◌, ◌++◌, map, append-nil}
use mathlib.Core.List.Memᴰ
use mathlib.Core.List.{Memᴰ}
use Prim.Native.Nat.{ℕ, ◌-◌, ◌≤◌, min}
use native.Mathlib.Omega.{arith}
use lib.ListN.{length}
use borrow.Author.Tests.{eq-eqb, ne_eqb}
use Rattle.rules.specs.declared.Row.{Row}
use Rattle.rules.specs.Sequences.{keep}
use Rattle.rules.specs.Words.{of_job}
use Rattle.rules.proofs.Sequences.{keep_append, keep_all, keep_none, map_same}
use Rattle.timeline.specs.RowLine.{spans_room, slots, note_of, notes_of}
use Rattle.timetable.specs.Derived.{least_of, most_of, never, last_finish, soonest_end}
use Rattle.timetable.proofs.Lists.{mem_replicate}
use Rattle.timetable.proofs.Extremes.{least_none, least_low, least_above}

-- The least and the most of figures.

module _ {A : Type 0} (none : ℕ) (figure : A → ℕ) where
  least_append : (a b : List A) → least_of none (map figure (a ++ b)) ≡ min (least_of none (map figure a)) (least_of none (map figure b))
  unfolding least_of
  least_append [] b = omega (arith, least_none none figure b)
  least_append (x ∷ a) b = omega (arith, least_append a b)

  -- of those that all say the same
  least_same :
      (n : ℕ) (l : List A) → n ≤ none → ((x : A) → Memᴰ x l → figure x ≡ n) → {x : A} → Memᴰ x l → least_of none (map figure l) ≡ n
  least_same n l within same {x} some =
      omega (arith, least_low none figure some, same x some, least_above none figure n l within (λ y m. omega (arith, same y m)))

pub most_bounded : (bound : ℕ) (rows : List Row) → ((row : Row) → Memᴰ row rows → row.finish ≤ bound) → most_of (map (λ row. row.finish) rows) ≤ bound
unfolding most_of
most_bounded bound [] h = omega arith
most_bounded bound (row ∷ rows) h =
    let first = h row (Memᴰ.head refl) in let below = most_bounded bound rows (λ r m. h r (Memᴰ.tail m)) in omega arith

-- Notes that differ in the last finish of jobs that are not on the line.

pub notes_same :
    (lasts lasts' : ℕ → ℕ) (line : List Row) → ((row : Row) → Memᴰ row line → lasts row.job ≡ lasts' row.job) → lasts 0 ≡ lasts' 0 →
    notes_of lasts line ≡ notes_of lasts' line
notes_same lasts lasts' line same blank =
    map_same
    (note_of lasts)
    (note_of lasts')
    (slots spans_room line)
    (λ row m.
    ap
    (λ n. record { holder = row.holder; cost = row.cost; last = n })
    (⊎_elim
    (same row)
    (λ k. let job : row.job ≡ 0 = ap (λ r. r.job) (mem_replicate (spans_room - length line) k) in ap lasts job ∙ blank ∙ sym (ap lasts' job))
    (Memᴰ.append_cases line m)))

-- The last finish and the soonest end.

module _ (held new : List Row) where
  -- of a number that no new row carries
  pub last_kept : (n : ℕ) → ((row : Row) → Memᴰ row new → row.job ≡ n → ⊥) → last_finish (held ++ new) n ≡ last_finish held n
  last_kept n none =
      ap
      (λ l. most_of (map (λ row. row.finish) l))
      (keep_append (of_job n) held new
      ∙ ap (λ l. keep (of_job n) held ++ l) (keep_none (of_job n) new (λ row m. ne_eqb row.job n (none row m)))
      ∙ append-nil (keep (of_job n) held))

  module _ (n : ℕ) (one_job : (row : Row) → Memᴰ row new → row.job ≡ n) (new_job : (row : Row) → Memᴰ row held → row.job ≡ n → ⊥) where
    pub last_held : (row : Row) → Memᴰ row held → last_finish (held ++ new) row.job ≡ last_finish held row.job
    last_held row m = last_kept row.job (λ other k same. new_job row m (sym same ∙ one_job other k))

    pub last_new : last_finish (held ++ new) n ≡ most_of (map (λ row. row.finish) new)
    last_new =
        ap
        (λ l. most_of (map (λ row. row.finish) l))
        (keep_append (of_job n) held new
        ∙ ap₂
        ◌++◌
        (keep_none (of_job n) held (λ row m. ne_eqb row.job n (new_job row m)))
        (keep_all (of_job n) new (λ row m. eq-eqb row.job n (one_job row m))))

    pub soonest_joined :
        {last : ℕ} → last ≡ most_of (map (λ row. row.finish) new) → last ≤ never → {row : Row} → Memᴰ row new →
        soonest_end (held ++ new) ≡ min (soonest_end held) last
    soonest_joined {last} is within some =
        let ends : Row → ℕ = λ row. last_finish (held ++ new) row.job in
        least_append never ends held new
        ∙ ap₂
        min
        (ap (least_of never) (map_same _ _ held last_held))
        (least_same never ends last new within (λ row m. ap (last_finish (held ++ new)) (one_job row m) ∙ last_new ∙ sym is) some)

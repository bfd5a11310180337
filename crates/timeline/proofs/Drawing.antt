-- What is drawn on the line: a number names one resource, the spans ascend, and a search may be asked.
use mathlib.Core.Path.{◌≡◌, ap}
use Prim.Native.Nat.{ℕ, zero, suc, ◌≤◌, ◌<◌}
use native.Mathlib.Omega.{arith}
use native.Mathlib.Numerals.{add-one}
use mathlib.Core.List.{List}
use lib.ListN.{get_or}
use Rattle.rules.specs.declared.Holder.{Holder}
use Rattle.rules.specs.declared.Row.{Row}
use Rattle.rules.specs.declared.Setup.{Setup}
use Rattle.rules.specs.Words.{Resource, machine, Hold, held_by, hold_of, most_machines}
use Rattle.rules.specs.Asked.{HasMachine}
use Rattle.rules.specs.Bounds.{Sound, Between, Listed, task, message, RowInRange}
use Rattle.rules.specs.Codes.{resource_number, resource_bound}
use Rattle.rules.proofs.Sequences.{by_less}
use Rattle.rules.proofs.Numbers.{machine_below, link_below}
use Rattle.timeline.specs.Timeline.{Known, known_machine, known_link, Drawable, Drawn, AskLeast, tick_limit, longest_sought}

pub known_below : {r : Resource} → Known r → resource_number r < resource_bound
known_below (known_machine is) = machine_below is
known_below (known_link is) = link_below is

-- equal numbers are those of one resource
pub known_same : {r s : Resource} → Known r → Known s → resource_number r ≡ resource_number s → r ≡ s
known_same (known_machine p) (known_machine q) e = ap machine e
known_same (known_machine p) (known_link q) e = absurd (omega arith)
known_same (known_link p) (known_machine q) e = absurd (omega arith)
known_same (known_link {a} {b} p) (known_link {a = c} {b = d} q) e =
    let first : a ≡ c = omega arith in
    let second : b ≡ d = omega arith in
    cc

-- A row in range can be drawn.

pub in_room : {machines m : ℕ} → machines ≤ most_machines → Between 1 machines m → HasMachine m
in_room room there = record { first = there.first; last = omega (arith, room, there.last) }

listed_known : {s : Setup} {h : Holder} → Sound s → Listed s h → Known (held_by h)
unfolding held_by
listed_known sound (task m t) = known_machine (in_room sound.room m)
listed_known sound (message a b x y links tasks) = known_link (record { source = in_room sound.room a; target = in_room sound.room b })

pub in_range_drawable : {s : Setup} {row : Row} → Sound s → RowInRange s row → Drawable (hold_of row)
in_range_drawable sound range =
    let ends = range.ends in
    record { known = listed_known sound range.holder; lasts = range.lasts; ends = omega arith }

module _ {held : List Hold} {begins ends : List ℕ} {count : ℕ} (drawn : Drawn held begins ends count) where
  pub lasts_at : (i : ℕ) → i < count → get_or begins i 0 < get_or ends i 0
  lasts_at i h =
      let there = drawn.held_there i h in
      let hold = drawn.drawable there.0 there.1 in
      omega arith

  -- each ends before every later one begins
  pub follows : (i k : ℕ) → i < k → k < count → get_or ends i 0 ≤ get_or begins k 0
  follows i zero h within = absurd (omega arith)
  follows i (suc k) h within =
      let next : get_or ends k 0 ≤ get_or begins (suc k) 0 = rw add-one at (drawn.ascends k (omega arith)) in
      by_less
      i
      k
      (λ less. omega (arith, follows i k less (omega arith), lasts_at k (omega arith)))
      (λ most. let same : i ≡ k = omega arith in rw same next)

  pub begins_ascend : (i k : ℕ) → i ≤ k → k < count → get_or begins i 0 ≤ get_or begins k 0
  begins_ascend i k h within =
      by_less
      i
      k
      (λ less. omega (arith, follows i k less within, lasts_at i (omega arith)))
      (λ most. let same : i ≡ k = omega arith in rw same (omega arith))

  pub ends_ascend : (i k : ℕ) → i ≤ k → k < count → get_or ends i 0 ≤ get_or ends k 0
  ends_ascend i k h within =
      by_less
      i
      k
      (λ less. omega (arith, follows i k less within, lasts_at k within))
      (λ most. let same : i ≡ k = omega arith in rw same (omega arith))

pub drawn_asks :
    (held : List Hold) (begins ends : List ℕ) (count : ℕ) → Drawn held begins ends count →
    (code from len : ℕ) → code < resource_bound → from ≤ tick_limit → len ≤ longest_sought → AskLeast ends count code from len
drawn_asks held begins ends count drawn code from len below early short = record {
  ascend = ends_ascend drawn;
  ends_below =
      λ i h.
      let there = drawn.held_there i h in
      let hold = drawn.drawable there.0 there.1 in
      omega (arith, known_below hold.known);
  code_below = below;
  from_at_most = early;
  len_at_most = short;
}

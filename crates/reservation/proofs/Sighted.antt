-- Laws of a look: the first span on the timeline that ends after a tick on a machine holds it, or no row there does; and so the rules see the row that has the
-- figures of that span, or none.
use mathlib.Core.Path.{◌≡◌, refl, sym, ap, ◌∙◌, subst}
use mathlib.Core.List.{List, Memᴰ}
use Prim.Native.Nat.{ℕ, ◌+◌, ◌*◌, ◌≤◌, ◌<◌}
use native.Mathlib.Omega.{arith}
use lib.ListN.{get_or}
use Rattle.rules.specs.declared.Row.{Row}
use Rattle.rules.specs.declared.Seen.{Seen}
use Rattle.rules.specs.declared.Setup.{Setup}
use Rattle.rules.specs.declared.Seen.TheVariants.{Idle, Booked, NoMachine}
use Rattle.rules.specs.Words.{State, resource, hold_of, holds, horizon, view}
use Rattle.rules.specs.Asked.{HasMachine}
use Rattle.rules.specs.Codes.{resource_number}
use Rattle.rules.specs.Placing.{no_row}
use Rattle.rules.specs.Refusals.{look}
use Rattle.rules.specs.Laws.{IsMachine, RunsAt}
use Rattle.rules.specs.Demands.{NoSharedTick, SeenBy}
use Rattle.rules.proofs.Sequences.{by_less, mem_get_or, mem_map}
use Rattle.rules.proofs.Apart.{shares_none_apart}
use Rattle.rules.proofs.Demand1.{demand_1_look}
use Rattle.timeline.specs.Timeline.{known_machine, tick_room, Drawable, Drawn, EndsAscend, FirstAfter}
use Rattle.timeline.specs.Lines.{DrawnOn}
use Rattle.timeline.specs.RowLine.{row_begin, row_end, line_of}
use Rattle.timeline.proofs.Drawing.{known_same, in_range_drawable, begins_ascend, ends_ascend}
use Rattle.timeline.proofs.RowLines.{line_drawn}
use Rattle.timetable.specs.declared.Timetable.{Timetable}
use Rattle.timetable.specs.Timetables.{TimetableOf, RowAtIs}
use Rattle.timetable.proofs.Standing.{row_there, booking_at}
use Rattle.reservation.specs.declared.Register.{Register}
use Rattle.reservation.specs.Registers.{state_of}
use Rattle.reservation.specs.Calls.{Looks}

-- where a tick of a machine is on the line
abbrev pub place_of : (m tick : ℕ) → ℕ
place_of m tick = m * tick_room + tick

-- if the first span that ends after a tick on a machine begins later, or there is none, then no row is on the machine at the tick
none_runs :
    {rows : List Row} {begins ends : List ℕ} {count m tick at : ℕ} → Drawn (holds rows) begins ends count → FirstAfter ends count (place_of m tick) at →
    (at < count → place_of m tick < get_or begins at 0) → (row : Row) → Memᴰ row rows → RunsAt m tick row → ⊥
none_runs {at = at} drawn first later row listed runs =
    let there = drawn.there (hold_of row) (mem_map hold_of listed) in
    let on = ap resource_number runs.on in
    by_less
    there.0
    at
    (λ less. omega (arith, first.before there.0 less, there.2.ends_there, runs.within.1))
    (λ most. omega (arith, begins_ascend drawn at there.0 most there.1, there.2.begins_there, runs.within.0, later (omega arith)))

-- a row that begins at a tick on a machine or before, and ends after it, is on the machine
row_runs :
    {m tick : ℕ} (row : Row) → HasMachine m → tick ≤ horizon → Drawable (hold_of row) → row_begin row ≤ place_of m tick → place_of m tick < row_end row →
    RunsAt m tick row
row_runs {m} row has early takes begun later =
    let same : resource_number (resource row) ≡ m = omega (arith, takes.lasts, takes.ends) in
    record { on = known_same takes.known (known_machine has) same; within = (omega arith, omega arith) }

-- no two rows are on a machine at one tick
one_runs :
    (rows : List Row) {m tick : ℕ} → NoSharedTick rows → {a b : Row} → Memᴰ a rows → Memᴰ b rows → RunsAt m tick a → RunsAt m tick b → a ≡ b
one_runs rows {m} {tick} apart {a} {b} a_listed b_listed a_runs b_runs =
    let i = mem_get_or no_row a_listed in
    let k = mem_get_or no_row b_listed in
    let here : RunsAt m tick (get_or rows i.0 no_row) = rw i.2 a_runs in
    let there : RunsAt m tick (get_or rows k.0 no_row) = rw k.2 b_runs in
    by_less
    i.0
    k.0
    (λ less. absurd (apart i.0 k.0 less k.1 (here.on ∙ sym there.on) tick here.within there.within))
    (λ most.
    by_less
    k.0
    i.0
    (λ less. absurd (apart k.0 i.0 less i.1 (there.on ∙ sym here.on) tick there.within here.within))
    (λ least.
    let same : i.0 ≡ k.0 = omega arith in
    sym i.2 ∙ ap (λ n. get_or rows n no_row) same ∙ k.2))

-- The line of a timetable.
module _ {s : Setup} {st : State} {t : Timetable} (of : TimetableOf s st t) where
  held_drawn : DrawnOn (holds st.rows) t.line
  held_drawn =
      let few = of.bounded.count in
      rw of.is
      (line_drawn st.rows (omega arith) (λ row m. in_range_drawable of.sound (of.bounded.rows row m)) (shares_none_apart st.rows of.bounded.apart))

  -- what the search asks
  pub ends_asked : EndsAscend t.line.ends t.line.count
  ends_asked = ends_ascend held_drawn

-- What is seen in a register.
module _ (r : Register) (m tick : ℕ) where
  saw : SeenBy r.setup (view (state_of r)) m tick (look r.setup (view (state_of r)) m tick)
  saw = demand_1_look r.setup (view (state_of r)) m tick

  -- what the rules see has 01's number and row
  as_seen : {seen : Seen} → look r.setup (view (state_of r)) m tick ≡ seen → Looks r m tick seen
  as_seen is = record { seen_is = sym is; seen_by = subst (SeenBy r.setup (view (state_of r)) m tick) is saw }

  pub sees_no_machine : (IsMachine r.setup m → ⊥) → Looks r m tick NoMachine
  sees_no_machine none_such = go (look r.setup (view (state_of r)) m tick) refl
    where
      go : (seen : Seen) → look r.setup (view (state_of r)) m tick ≡ seen → Looks r m tick NoMachine
      go Idle is = absurd (none_such ((as_seen is).seen_by.passed.0 refl))
      go (Booked row) is = absurd (none_such ((as_seen is).seen_by.passed.0 refl))
      go NoMachine is = as_seen is

  module _ {t : Timetable} (of : TimetableOf r.setup r.state t) (is_machine : IsMachine r.setup m) where
    sees_idle : ((row : Row) → Memᴰ row r.state.rows → RunsAt m tick row → ⊥) → Looks r m tick Idle
    sees_idle none_runs_there = as_seen (saw.idle.1 (is_machine, none_runs_there))

    -- past the horizon every row has ended
    pub sees_past : horizon < tick → Looks r m tick Idle
    sees_past past = sees_idle (λ row listed runs. let ends = (of.bounded.rows row listed).ends in omega (arith, runs.within.1))

    -- a row on the machine at the tick is the one seen
    sees_row : (row : Row) → Memᴰ row r.state.rows → RunsAt m tick row → Looks r m tick (Booked row)
    sees_row row listed runs = go (look r.setup (view (state_of r)) m tick) refl
      where
        go : (seen : Seen) → look r.setup (view (state_of r)) m tick ≡ seen → Looks r m tick (Booked row)
        go Idle is = absurd ((saw.idle.0 is).1 row listed runs)
        go (Booked other) is =
            let seen = (as_seen is).seen_by.sees other refl in
            as_seen (is ∙ ap Booked (one_runs r.state.rows of.bounded.apart seen.0 listed seen.1 runs))
        go NoMachine is = absurd ((as_seen is).seen_by.no_machine.0 refl is_machine)

    module _ {at : ℕ} (first : FirstAfter t.line.ends t.line.count (place_of m tick) at) where
      -- no span ends after the tick, or the first that does begins later
      pub sees_none : (at < t.line.count → place_of m tick < get_or t.line.begins at 0) → Looks r m tick Idle
      sees_none later = sees_idle (none_runs (held_drawn of) first later)

      -- it begins at the tick or before: its row is made of its figures
      pub sees_its_row :
          tick ≤ horizon → (below : at < t.line.count) → get_or t.line.begins at 0 ≤ place_of m tick →
          {row : Row} → RowAtIs t at row → Looks r m tick (Booked row)
      sees_its_row early below begun is =
          let row = get_or (line_of r.state.rows) at no_row in
          let held = row_there of at below in
          let has : HasMachine m = record { first = is_machine.first; last = omega (arith, is_machine.last, of.sound.room) } in
          let figures = booking_at of at below in
          let begin = ap (λ x. x.begin) figures in
          let end = ap (λ x. x.end) figures in
          rw
          (is r.setup r.state of)
          (sees_row
          row
          held
          (row_runs
          row
          has
          early
          (in_range_drawable of.sound (of.bounded.rows row held))
          (omega (arith, begin))
          (omega (arith, end, first.after at (omega arith) below))))

-- Between functions: holds as spans on one ascending number line, and what a search asks and answers.
use Rattle.std.specs.Prelude.{◌≡◌, ℕ, ◌+◌, ◌*◌, ◌≤◌, ◌<◌, length, get_or}
use mathlib.Core.List.{List, Memᴰ}
use Rattle.rules.specs.Words.{Resource, machine, link, Hold}
use Rattle.rules.specs.Asked.{HasMachine, HasLink}
use Rattle.rules.specs.Codes.{resource_number, resource_bound}
use Rattle.rules.specs.Placing.{spans_on, least_free}

-- one past every tick that a span names
abbrev pub tick_room : ℕ
tick_room = 4_294_967_296

-- ticks that searches begin at and spans end at, and how long what is sought may be: together they stay below the room
abbrev pub tick_limit : ℕ
tick_limit = 2_000_000_000

abbrev pub longest_sought : ℕ
longest_sought = 2_000_000_000

-- a resource that a table has room for
pub data Known : Resource → Type 0 where
  known_machine : {m : ℕ} → HasMachine m → Known (machine m)
  known_link : {a b : ℕ} → HasLink a b → Known (link a b)

-- where a hold begins and ends on the line
abbrev pub begin_of : Hold → ℕ
begin_of h = resource_number h.on * tick_room + h.span.start

abbrev pub end_of : Hold → ℕ
end_of h = resource_number h.on * tick_room + h.span.finish

-- a hold that the line can take
pub record Drawable (h : Hold) : Type 0 where
  pub known : Known h.on
  pub lasts : h.span.start < h.span.finish
  pub ends : h.span.finish ≤ tick_limit

-- the hold stands at an index
pub record StandsAt (h : Hold) (begins ends : List ℕ) (i : ℕ) : Type 0 where
  pub begins_there : get_or begins i 0 ≡ begin_of h
  pub ends_there : get_or ends i 0 ≡ end_of h

-- The first so many begins and ends are those of the holds, ascending: each ends before the next begins, or as it does.
pub record Drawn (held : List Hold) (begins ends : List ℕ) (count : ℕ) : Type 0 where
  pub begins_long : count ≤ length begins
  pub ends_long : count ≤ length ends
  pub drawable : (h : Hold) → Memᴰ h held → Drawable h
  pub there : (h : Hold) → Memᴰ h held → (i : ℕ) × (i < count) × StandsAt h begins ends i
  pub held_there : (i : ℕ) → i < count → (h : Hold) × Memᴰ h held × StandsAt h begins ends i
  pub ascends : (i : ℕ) → i + 1 < count → get_or ends i 0 ≤ get_or begins (i + 1) 0

-- Halving.

abbrev pub EndsAscend : (ends : List ℕ) (count : ℕ) → Type 0
EndsAscend ends count = (i k : ℕ) → i ≤ k → k < count → get_or ends i 0 ≤ get_or ends k 0

-- those before it end at or before the place, and it ends after it
pub record FirstAfter (ends : List ℕ) (count at r : ℕ) : Type 0 where
  pub at_most : r ≤ count
  pub before : (i : ℕ) → i < r → get_or ends i 0 ≤ at
  pub after : (i : ℕ) → r ≤ i → i < count → at < get_or ends i 0

-- Walking.

pub record AskGap (ends : List ℕ) (count first at len : ℕ) : Type 0 where
  pub within : first ≤ count
  pub ascend : EndsAscend ends count
  pub after : (i : ℕ) → first ≤ i → i < count → at < get_or ends i 0
  -- every place reached, and so many ticks on, fits a word
  pub at_fits : at + len < 2 * (resource_bound * tick_room)
  pub ends_fit : (i : ℕ) → i < count → get_or ends i 0 + len < 2 * (resource_bound * tick_room)

-- So many ticks from a place on would meet a span below an index.
pub record Met (begins ends : List ℕ) (len below place : ℕ) : Type 0 where
  pub which : ℕ
  pub is_below : which < below
  pub begins_soon : get_or begins which 0 < place + len
  pub ends_later : place < get_or ends which 0

-- The spans from an index on up to one are passed: they end at or before the place, and from no earlier place are there so many ticks without one of them.
pub record SpansPassed (begins ends : List ℕ) (first at len stop place : ℕ) : Type 0 where
  pub not_before : at ≤ place
  pub ended : (i : ℕ) → first ≤ i → i < stop → get_or ends i 0 ≤ place
  pub none_earlier : (x : ℕ) → at ≤ x → x < place → Met begins ends len stop x

-- Some spans are passed, and the next leaves so many ticks.
pub record GapIs (begins ends : List ℕ) (count first at len r : ℕ) : Type 0 where
  pub stop : ℕ
  pub at_most : stop ≤ count
  pub passed : SpansPassed begins ends first at len stop r
  pub room : stop < count → r + len ≤ get_or begins stop 0

-- The search.

pub record AskLeast (ends : List ℕ) (count code from len : ℕ) : Type 0 where
  pub ascend : EndsAscend ends count
  pub ends_below : (i : ℕ) → i < count → get_or ends i 0 < resource_bound * tick_room
  pub code_below : code < resource_bound
  pub from_at_most : from ≤ tick_limit
  pub len_at_most : len ≤ longest_sought

-- whatever resource has the number, and whatever is held that is drawn so
pub record LeastIs (begins ends : List ℕ) (count code from len r : ℕ) : Type 0 where
  pub is :
      (held : List Hold) (on : Resource) → Drawn held begins ends count → Known on → resource_number on ≡ code → 1 ≤ len →
      r ≡ least_free from len (spans_on on held)

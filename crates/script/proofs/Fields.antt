-- Fields written one after the other, and the room that they take.
use mathlib.Core.Path.{◌≡◌, refl, ◌∙◌}
use mathlib.Core.List.{List, [], ◌++◌, append_assoc}
use Prim.Native.Nat.{ℕ, ◌+◌, ◌≤◌}
use native.Mathlib.Omega.{arith}
use lib.ListN.{length, length-append}
use Rattle.lines.specs.Figures.{field}
use Rattle.lines.specs.Put.{Puts}
use Rattle.script.specs.Parts.{field_room, PutsField, PutsAtMost}
use Rattle.lines.proofs.Put.{puts_then, puts_long, put_none}

-- bytes written from a place on, no more than so many
pub record PutWithin (old : List ℕ) (at : ℕ) (bytes new : List ℕ) (next most : ℕ) : Type 0 where
  pub puts : Puts old at bytes new next
  pub short : length bytes ≤ most
  pub long : length new ≡ length old

module _ {old : List ℕ} {at : ℕ} where
  pub within_none : at ≤ length old → PutWithin old at [] old at 0
  within_none h = record { puts = put_none old at h; short = omega arith; long = refl }

  -- where the next byte goes
  pub within_next : {bytes new : List ℕ} {next most : ℕ} → PutWithin old at bytes new next most → next ≤ at + most
  within_next w = let p = w.puts.next_is in let s = w.short in omega arith

  -- more bytes
  pub within_then :
      {bytes mid : List ℕ} {next most : ℕ} (more : List ℕ) {new : List ℕ} {last : ℕ} (size : ℕ) → at + (most + size) ≤ length old →
      PutWithin old at bytes mid next most → Puts mid next more new last → length more ≤ size → PutWithin old at (bytes ++ more) new last (most + size)
  within_then {bytes} {mid} {next} {most} more size h w p l =
      let n = within_next w in
      record {
        puts = puts_then (omega arith) w.puts p;
        short = let a = length-append bytes more in let s = w.short in omega arith;
        long = puts_long p (let g = w.long in omega arith) ∙ w.long;
      }

  -- a field more
  pub within_field :
      {bytes mid : List ℕ} {next most : ℕ} (key : List ℕ) {n : ℕ} {new : List ℕ} {last : ℕ} → at + (most + field_room key) ≤ length old →
      PutWithin old at bytes mid next most → PutsField mid next key n new last → PutWithin old at (bytes ++ field key n) new last (most + field_room key)
  within_field key {n} h w p = within_then (field key n) (field_room key) h w p.puts p.short

  -- two fields more, written together
  pub within_two :
      {bytes mid : List ℕ} {next most : ℕ} (first second : List ℕ) {new : List ℕ} {last : ℕ} (size : ℕ) → at + (most + size) ≤ length old →
      PutWithin old at bytes mid next most → PutsAtMost mid next (first ++ second) new last size →
      PutWithin old at (bytes ++ first ++ second) new last (most + size)
  within_two {bytes} first second size h w p = rw (append_assoc bytes first second) (within_then (first ++ second) size h w p.puts p.short)

  -- the first field
  pub first_field :
      (key : List ℕ) {n : ℕ} {new : List ℕ} {last : ℕ} → at + field_room key ≤ length old → PutsField old at key n new last →
      PutWithin old at (field key n) new last (field_room key)
  first_field key h p = record { puts = p.puts; short = p.short; long = puts_long p.puts (let l = p.short in omega arith) }

  -- what a caller learns
  pub at_most : {bytes new : List ℕ} {next most : ℕ} → PutWithin old at bytes new next most → PutsAtMost old at bytes new next most
  at_most w = record { puts = w.puts; short = w.short }

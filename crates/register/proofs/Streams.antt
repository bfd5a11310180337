-- What the streams of the program gave and took.
use Rattle.std.proofs.Common.{◌≡◌, ℕ, ◌+◌, ◌-◌, ◌≤◌, ◌<◌, List, ◌++◌, length, take, refl, sym, true, ltb, ap, ◌∙◌, inl, inr, arith}
use Rattle.std.proofs.Math.Seq.{length-take-le, take-add}
use Rattle.std.proofs.lemmas.List.{append_assoc}
use Rattle.std.proofs.lemmas.Bool.{lt-ltb, cases_lt}
use Rattle.std.specs.List.{slice_range}
use Rattle.std.specs.Prelude.{Option, None, Some, Result, Ok, Err, OnOk, IfSome}
use Rattle.std.specs.Io.KnownBytes.{Appends, Consumes}
use Rattle.rules.specs.declared.Setup.{Setup}
use Rattle.register.specs.Reading.{HoldsInput}
use Rattle.script.specs.Program.{input_limit, program, script}

-- of an input above the limit nothing is acted on
pub too_long_alike : (s : Setup) (xs ys : List ℕ) → input_limit < length xs → input_limit < length ys → program s xs ≡ program s ys
unfolding program script
too_long_alike s xs ys long longer =
    let first : ltb input_limit (length xs) ≡ true = lt-ltb input_limit (length xs) long in
    let second : ltb input_limit (length ys) ≡ true = lt-ltb input_limit (length ys) longer in
    rw (first, second) refl

-- what was written for the bytes that were read is what all of the input prints
pub answered : {E : Type 0} (s : Setup) (r : Result Unit E) (bytes old new : Option (List ℕ)) (buffer : List ℕ) (count : ℕ) → count ≤ input_limit + 1 → HoldsInput bytes buffer count → OnOk r (Appends old new (program s (take count buffer))) → OnOk r (IfSome bytes (λ text. Appends old new (program s text)))
answered s (Err e) bytes old new buffer count few held wrote = tt
answered s (Ok x) None old new buffer count few held wrote = tt
answered s (Ok x) (Some text) old new buffer count few held wrote = elim (cases_lt input_limit count) [
  | inl more ↦
      let above = held.above more in
      let first : length (take count text) ≡ count = length-take-le count text (omega (arith, above.1)) in
      let same : program s (take count buffer) ≡ program s text = ap (program s) above.0 ∙ too_long_alike s (take count text) text (omega (arith, first)) above.1 in
      rw (← same) wrote
  | inr all ↦ rw (← held.whole all) wrote
]

-- the bytes up to a place, and those after it up to the next
up_to_next : (at next : ℕ) (old new : List ℕ) → at ≤ next → take at new ≡ take at old → take at old ++ slice_range new at next ≡ take next new
up_to_next at next old new after kept =
    let all : at + (next - at) ≡ next = omega arith in
    rw (← kept) (sym (take-add at (next - at) new) ∙ ap (λ n. take n new) all)

-- one read more: what was consumed is what stands up to its end
pub consumed_next :
    (first before after : Option (List ℕ)) (at next : ℕ) (old new : List ℕ) → at ≤ next → take at new ≡ take at old → Consumes first before (take at old) →
    Consumes before after (slice_range new at next) → Consumes first after (take next new)
consumed_next None before after at next old new more kept sofar one = tt
consumed_next (Some text) None after at next old new more kept sofar one = absurd sofar
consumed_next (Some text) (Some rest) None at next old new more kept sofar one = absurd one
consumed_next (Some text) (Some rest) (Some last) at next old new more kept sofar one =
    sofar ∙ ap (λ xs. take at old ++ xs) one ∙ sym (append_assoc (take at old) (slice_range new at next) last)
    ∙ ap (λ xs. xs ++ last) (up_to_next at next old new more kept)

-- What a writer of texts answers and leaves: the number by what was judged before the room and by the room, then the length and every byte.
use mathlib.Core.Path.{◌≡◌, refl, sym, ap, ◌∙◌}
use mathlib.Core.Bool.{Bool, true, false, cond}
use mathlib.Core.List.{List, ◌++◌, append-nil}
use Prim.Native.Nat.{ℕ, ◌≤◌, ◌<◌}
use native.Mathlib.Nat.{zero-add}
use native.Mathlib.Omega.{arith}
use lib.Dec.{eqb}
use lib.ListN.{length, take, drop, length-append, length-drop, drop_of_length-le}
use lib.Seq.{take-append_seam, drop-append_seam}
use borrow.Author.Tests.{lt-ltb, le-ltb, eqb-true, eqb-false}
use Rattle.std.proofs.Common.{Ok, Err}
use Rattle.rules.proofs.Sequences.{by_test, by_less}
use Rattle.lines.specs.Put.{Puts}
use Rattle.texts.specs.declared.forms.Unwritten.{Unwritten}
use Rattle.texts.specs.declared.forms.Unwritten.TheVariants.{Unwritable, NoRoom}
use Rattle.texts.specs.Writer.{write_number, write_length, write_left, unwritten_number, Writes}
use Rattle.texts.specs.Laws.{WriterLaws, WriterLawsHold}

module _ (text buffer : List ℕ) where
  number_fits : length text ≤ length buffer → write_number 0 text buffer ≡ 0
  unfolding write_number
  number_fits h = rw (write_number, le-ltb _ _ h) refl

  number_short : length buffer < length text → write_number 0 text buffer ≡ 21
  unfolding write_number
  number_short h = rw (write_number, lt-ltb _ _ h) refl

  number_judged : (before : ℕ) → eqb before 0 ≡ false → write_number before text buffer ≡ before
  unfolding write_number
  number_judged before e = rw (write_number, e) refl

  left_accepted : write_left 0 text buffer ≡ text ++ drop (length text) buffer
  unfolding write_left
  left_accepted = refl

  left_refused : (number : ℕ) → eqb number 0 ≡ false → write_left number text buffer ≡ buffer
  unfolding write_left
  left_refused number e = rw (write_left, e) refl

  length_accepted : write_length 0 text ≡ length text
  unfolding write_length
  length_accepted = refl

  length_refused : (number : ℕ) → eqb number 0 ≡ false → write_length number text ≡ 0
  unfolding write_length
  length_refused number e = rw (write_length, e) refl

  -- what was tested before the room is so, and the text fits and was put in
  pub fits_written :
      {fit : Bool} {new : List ℕ} {next : ℕ} → fit ≡ true → length text ≤ length buffer → Puts buffer 0 text new next →
      Writes (cond fit 0 20) text buffer new (Ok next)
  fits_written f h p =
      rw f record {
        number_is = sym (number_fits h);
        length_is = p.next_is ∙ zero-add (length text) ∙ rw (number_fits h) (sym length_accepted);
        buffer_is = p.new_is ∙ ap (λ n. text ++ drop n buffer) (zero-add (length text)) ∙ rw (number_fits h) (sym left_accepted);
      }

  -- nothing was put in: whatever was judged before, or too short a buffer
  unwritten_by : (before : ℕ) (u : Unwritten) → write_number before text buffer ≡ unwritten_number u → Writes before text buffer buffer (Err u)
  unwritten_by before u e =
      let n = refuses u in
      record {
        number_is = sym e;
        length_is = rw e (sym (length_refused (unwritten_number u) n));
        buffer_is = rw e (sym (left_refused (unwritten_number u) n));
      }
    where
      refuses : (u : Unwritten) → eqb (unwritten_number u) 0 ≡ false
      refuses Unwritable = refl
      refuses NoRoom = refl

  pub short_unwritten : {fit : Bool} → fit ≡ true → length buffer < length text → Writes (cond fit 0 20) text buffer buffer (Err NoRoom)
  short_unwritten f h = rw f (unwritten_by 0 NoRoom (number_short h))

  -- 20: what was tested before the room is not so
  pub unfit_unwritten : {fit : Bool} → fit ≡ false → Writes (cond fit 0 20) text buffer buffer (Err Unwritable)
  unfit_unwritten f = rw f (unwritten_by 20 Unwritable (number_judged 20 refl))

  -- the laws where the text fits, and where a number refuses
  laws_fit : length text ≤ length buffer → WriterLaws 0 text buffer 0
  laws_fit h =
      let lines : ℕ = length text in
      record {
        long =
            ap length left_accepted
            ∙ (let all = length-append text (drop lines buffer) in let rest = length-drop lines buffer in omega arith);
        past_kept = ap (drop lines) left_accepted ∙ drop-append_seam text (drop lines buffer);
        judged_first = λ n. absurd (n refl);
        too_short = λ e short. absurd (omega arith);
        accepted = λ e l. refl;
        text_stands = λ e. (length_accepted, ap (take lines) left_accepted ∙ take-append_seam text (drop lines buffer));
        exact = λ e same. left_accepted ∙ ap (λ l. text ++ l) (drop_of_length-le buffer {i = lines} (omega arith)) ∙ append-nil text;
        unwritten = λ n. absurd (n refl);
      }

  laws_refused : (before number : ℕ) → eqb number 0 ≡ false → ((before ≡ 0 → ⊥) → number ≡ before) → (before ≡ 0 → length buffer < length text) →
      (before ≡ 0 → number ≡ 21) → WriterLaws before text buffer number
  laws_refused before number n first short by =
      let same = left_refused number n in
      let isnt = eqb-false number 0 n in
      record {
        long = ap length same;
        past_kept = ap (drop (length text)) same;
        judged_first = first;
        too_short = λ e h. by e;
        accepted = λ e h. absurd (let l = short e in omega arith);
        text_stands = λ e. absurd (isnt e);
        exact = λ e h. absurd (let l = short e in omega arith);
        unwritten = λ e. (length_refused number n, same);
      }

pub writer_laws : WriterLawsHold
writer_laws before text buffer =
    by_test
    (eqb before 0)
    (λ e. rw (eqb-true before 0 e) (
    by_less
    (length buffer)
    (length text)
    (λ h. rw (number_short text buffer h) (laws_refused text buffer 0 21 refl (λ n. absurd (n refl)) (λ z. h) (λ z. refl)))
    (λ h. rw (number_fits text buffer h) (laws_fit text buffer h))))
    (λ e.
    let isnt = eqb-false before 0 e in
    rw (number_judged text buffer before e) (laws_refused text buffer before before e (λ n. refl) (λ z. absurd (isnt z)) (λ z. absurd (isnt z))))

-- The figures of a job, laid into a row: one by one, and entry by entry.
use mathlib.Core.Path.{◌≡◌, sym, ap, ◌∙◌}
use mathlib.Core.List.{List, [], ◌∷◌, ◌++◌, map, append_assoc, append-nil}
use Prim.Native.Nat.{ℕ, zero, suc, ◌+◌, ◌*◌, ◌≤◌, ◌<◌}
use native.Mathlib.Nat.{suc-mul, mul-le-mul_right}
use native.Mathlib.Omega.{arith}
use native.Mathlib.Numerals.{add-one}
use lib.ListN.{length, get_or, take, set, length-set}
use lib.Seq.{take_all}
use Rattle.rules.specs.declared.Job.{Job}
use Rattle.rules.specs.Sequences.{joined}
use Rattle.texts.specs.JobText.{head_size, task_figures, job_figures}
use Rattle.lines.specs.Put.{Puts}
use Rattle.texts.specs.Rows.{sent_figures}
use Rattle.lines.proofs.Put.{puts_long, puts_then, put_byte}

-- the figures of one entry more
joined_next :
    {A : Type 0} (figures_of : A → List ℕ) (entries : List A) (i : ℕ) (blank : A) → i < length entries →
    joined (map figures_of (take (suc i) entries)) ≡ joined (map figures_of (take i entries)) ++ figures_of (get_or entries i blank)
joined_next figures_of [] i blank h = absurd (omega arith)
joined_next figures_of (a ∷ entries) zero blank h = append-nil (figures_of a)
joined_next figures_of (a ∷ entries) (suc i) blank h =
    ap (λ r. figures_of a ++ r) (joined_next figures_of entries i blank (omega arith))
    ∙ sym (append_assoc (figures_of a) (joined (map figures_of (take i entries))) (figures_of (get_or entries i blank)))

-- the figures of i entries stand in a row from a place on, at most so many of each
pub record Laid {A : Type 0} (figures_of : A → List ℕ) (size : ℕ) (old : List ℕ) (from : ℕ) (entries : List A) (new : List ℕ) (at i : ℕ) : Type 0 where
  pub puts : Puts old from (joined (map figures_of (take i entries))) new at
  pub few : at ≤ from + i * size
  pub at_most : i ≤ length entries
  pub long : length new ≡ length old

module _
    {A : Type 0} {figures_of : A → List ℕ} {size : ℕ} {old : List ℕ} {from : ℕ} {entries : List A} {new : List ℕ} {at i : ℕ}
    (w : Laid figures_of size old from entries new at i)
  where
    pub laid_within : at ≤ from + length entries * size
    laid_within = let few = w.few in let most = mul-le-mul_right size w.at_most in omega arith

    -- the next entry has its place
    pub laid_room : from + length entries * size ≤ length old → i < length entries → at + size ≤ length new
    laid_room room h =
        let few = w.few in
        let long = w.long in
        let one = suc-mul i size in
        let most : suc i * size ≤ length entries * size = mul-le-mul_right size (omega arith) in
        omega arith

    pub laid_more :
        (blank : A) {newer : List ℕ} {next : ℕ} → from + length entries * size ≤ length old → i < length entries →
        length (figures_of (get_or entries i blank)) ≤ size → Puts new at (figures_of (get_or entries i blank)) newer next →
        Laid figures_of size old from entries newer next (i + 1)
    laid_more blank {newer} {next} room h few p =
        let place = laid_room room h in
        record {
          puts = rw (add-one i, joined_next figures_of entries i blank h) (puts_then (omega arith) w.puts p);
          few = let n = p.next_is in let m = w.few in let one = suc-mul i size in rw (add-one i) (omega arith);
          at_most = omega arith;
          long = puts_long p (omega arith) ∙ w.long;
        }

    pub laid_all : length entries ≤ i → Puts old from (joined (map figures_of entries)) new at
    laid_all h = rw (take_all i entries h) at w.puts

-- Figures put one by one.

put_two : (old : List ℕ) (at a b : ℕ) → at + 2 ≤ length old → Puts old at (a ∷ b ∷ []) (set (set old at a) (at + 1) b) (at + 2)
put_two old at a b h =
    let l = length-set old at a in
    let two : at + 2 ≡ at + 1 + 1 = omega arith in
    rw two (puts_then (omega arith) (put_byte old at a (omega arith)) (put_byte (set old at a) (at + 1) b (omega arith)))

put_three : (old : List ℕ) (at a b c : ℕ) → at + 3 ≤ length old → Puts old at (a ∷ b ∷ c ∷ []) (set (set (set old at a) (at + 1) b) (at + 2) c) (at + 3)
put_three old at a b c h =
    let first = put_two old at a b (omega arith) in
    let l = puts_long first (omega arith) in
    let three : at + 3 ≡ at + 2 + 1 = omega arith in
    rw three (puts_then (omega arith) first (put_byte (set (set old at a) (at + 1) b) (at + 2) c (omega arith)))

-- a job's: its head, its tasks, the count of its messages and they
pub put_job :
    (old : List ℕ) (machines : ℕ) (j : Job) {mid : List ℕ} {at : ℕ} {new : List ℕ} {next : ℕ} → head_size ≤ length old →
    Puts
    (set (set (set old 0 j.number) 1 j.scheduling) 2 j.taskcount)
    head_size
    (joined (map (task_figures machines) (take j.taskcount j.tasks)))
    mid
    at →
    at < length mid → Puts (set mid at j.messagecount) (at + 1) (sent_figures j) new next → Puts old 0 (job_figures machines j) new next
put_job old machines j {mid} {at} h tasks place sent =
    let head = put_three old 0 j.number j.scheduling j.taskcount h in
    let long = puts_long head h in
    puts_then (omega arith) head (puts_then (omega arith) tasks (puts_then (omega arith) (put_byte mid at j.messagecount place) sent))

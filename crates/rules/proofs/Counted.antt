-- How many rows are due: at most one for each task and one for each message.
use mathlib.Core.Path.{◌≡◌, refl, ◌∙◌}
use mathlib.Core.Logic.{◌⊎◌, inl, inr, ⊎_elim}
use mathlib.Core.Bool.{Bool, true, false, not}
use mathlib.Core.List.{List, [], ◌∷◌, ◌++◌, map}
use mathlib.Core.List.Memᴰ
use mathlib.Core.List.{Memᴰ}
use Prim.Native.Nat.{ℕ, suc, ◌+◌, ◌≤◌}
use native.Mathlib.Omega.{arith}
use lib.ListN.{length, length-append, length-map}
use borrow.Author.Tests.{not-true}
use Rattle.rules.specs.declared.Row.{Row}
use Rattle.rules.specs.declared.Message.{Message}
use Rattle.rules.specs.declared.Job.{Job}
use Rattle.rules.specs.declared.Setup.{Setup}
use Rattle.rules.specs.Sequences.{any_of, cons_if, keep, count_of}
use Rattle.rules.specs.Words.{messages_of, task_numbers}
use Rattle.rules.specs.Placing.{books_task, books_message, placed}
use Rattle.rules.specs.Demands.{between, Owed, to_task, to_message}
use Rattle.rules.proofs.Sequences.{by_test, clash, any_mem, mem_keep, count_none, mem_map, map_mem, length_numbers}
use Rattle.rules.proofs.Choice.{task_mem}
use Rattle.rules.proofs.Due.{Progress}

module _ {A : Type 0} where
  -- what passes and what does not make up the whole
  length_split : (p : A → Bool) (l : List A) → length l ≡ count_of p l + length (keep (λ x. not (p x)) l)
  length_split p [] = omega arith
  length_split p (x ∷ xs) = go (p x) (length_split p xs)
    where
      go :
          (t : Bool) → length xs ≡ count_of p xs + length (keep (λ x. not (p x)) xs) →
          suc (length xs) ≡ length (cons_if t x (keep p xs)) + length (cons_if (not t) x (keep (λ x. not (p x)) xs))
      go true h = omega arith
      go false h = omega arith

  -- fewer pass among fewer
  count_keep : (p q : A → Bool) (l : List A) → count_of p (keep q l) ≤ count_of p l
  count_keep p q [] = omega arith
  count_keep p q (x ∷ xs) = go (q x) (p x) refl (count_keep p q xs)
    where
      go : (t u : Bool) → p x ≡ u → count_of p (keep q xs) ≤ count_of p xs → count_of p (cons_if t x (keep q xs)) ≤ length (cons_if u x (keep p xs))
      go true true e h = rw e (omega arith)
      go true false e h = rw e h
      go false true e h = omega arith
      go false false e h = h

-- a list is no longer than tests of which each element passes some, and of which each is passed at most once
pub length_by_tests :
    {A B : Type 0} (p : B → A → Bool) (tests : List B) (l : List A) → ((x : A) → Memᴰ x l → any_of (λ b. p b x) tests ≡ true) →
    ((b : B) → Memᴰ b tests → count_of (p b) l ≤ 1) → length l ≤ length tests
length_by_tests p [] [] some once = omega arith
length_by_tests p [] (x ∷ l) some once = clash (some x (Memᴰ.head refl)) refl
length_by_tests {A} {B} p (b ∷ tests) l some once =
    let split = length_split (p b) l in
    let first = once b (Memᴰ.head refl) in
    let below : length rest ≤ length tests = length_by_tests p tests rest others fewer in
    omega arith
  where
    rest : List A
    rest = keep (λ x. not (p b x)) l

    others : (x : A) → Memᴰ x rest → any_of (λ c. p c x) tests ≡ true
    others x n =
        let r = mem_keep (λ x. not (p b x)) l n in
        rw (not-true (p b x) r.1) at (some x r.0)

    fewer : (c : B) → Memᴰ c tests → count_of (p c) rest ≤ 1
    fewer c n = let here = once c (Memᴰ.tail n) in let less = count_keep (p c) (λ x. not (p b x)) l in omega arith

-- The rows of one job.

abbrev books : ℕ ⊎ Message → Row → Bool
books (inl t) = books_task t
books (inr msg) = books_message msg

-- the tasks, then the messages
abbrev bookable : Job → List (ℕ ⊎ Message)
bookable j = map inl (task_numbers j) ++ map inr (messages_of j)

module _ (s : Setup) (j : Job) (rows : List Row) (prog : Progress s j rows) where
  -- a message into a task that is not placed has no row, nor has one that is not between; any other has one
  message_most : (msg : Message) → Memᴰ msg (messages_of j) → count_of (books_message msg) rows ≤ 1
  message_most msg n =
      by_test
      (placed rows msg.receiver)
      (λ p.
      by_test
      (between (rows ++ []) msg)
      (λ c. let one = prog.message_once msg n p [] c in omega arith)
      (λ c. none (prog.message_absent msg n p [] c)))
      (λ p. none (prog.message_ahead msg p))
    where
      none : any_of (books_message msg) rows ≡ false → count_of (books_message msg) rows ≤ 1
      none e = let zero = count_none (books_message msg) rows e in omega arith

  most_one : (b : ℕ ⊎ Message) → Memᴰ b (bookable j) → count_of (books b) rows ≤ 1
  most_one b n =
      ⊎_elim
      (λ h. let r = map_mem inl (task_numbers j) h in rw r.2 (prog.task_once r.0))
      (λ h. let r = map_mem inr (messages_of j) h in rw r.2 (message_most r.0 r.1))
      (Memᴰ.append_cases (map inl (task_numbers j)) n)

  -- a row that is owed is that of a task or of a message
  each_booked : (row : Row) → Owed j (rows ++ []) row → any_of (λ b. books b row) (bookable j) ≡ true
  each_booked row (to_task t is h) = any_mem (λ b. books b row) (Memᴰ.append_left (map inr (messages_of j)) (mem_map inl (task_mem j t is))) h
  each_booked row (to_message msg n c h) = any_mem (λ b. books b row) (Memᴰ.append_right (map inl (task_numbers j)) (mem_map inr n)) h

  -- the rows that are due are at most one for each task and one for each message
  pub due_length : length rows ≤ j.taskcount + length (messages_of j)
  due_length =
      let most = length_by_tests books (bookable j) rows (λ row n. each_booked row (prog.owed row n [])) most_one in
      let both = length-append (map inl (task_numbers j)) (map inr (messages_of j)) in
      let tasks : length (map {B = ℕ ⊎ Message} inl (task_numbers j)) ≡ j.taskcount = length-map (task_numbers j) inl ∙ length_numbers 1 j.taskcount in
      let messages : length (map {B = ℕ ⊎ Message} inr (messages_of j)) ≡ length (messages_of j) = length-map (messages_of j) inr in
      omega arith

-- Laws of the list functions that the definitions use. They speak of no rule.
use mathlib.Core.Path.{◌≡◌, refl, sym, ap, ◌∙◌}
use mathlib.Core.Logic.{◌⊎◌, inl, inr, ⊎_elim}
use mathlib.Core.Bool.{Bool, true, false, not, ◌||◌, ◌&&◌, true≢false}
use mathlib.Core.List.Memᴰ
use mathlib.Core.List.{List, [], ◌∷◌, ◌++◌, map, Memᴰ}
use Prim.Native.Nat.{ℕ, zero, suc, ◌+◌, ◌≤◌, ◌<◌}
use native.Mathlib.Omega.{arith}
use lib.ListN.{length, length-append, get_or}
use lib.Dec.{ltb, eqb}
use borrow.Author.Tests.{ltb-true, ltb-false, eqb-true, eqb-false}
use Rattle.rules.specs.Sequences.{any_of, all_of, cons_if, keep, count_of, first_or, sum_of, numbers}

-- Tests.

-- a test is true or false
pub by_test {ℓ} : {C : Type ℓ} (b : Bool) → (b ≡ true → C) → (b ≡ false → C) → C
by_test true f g = f refl
by_test false f g = g refl

-- one number is below another, or it is not
pub by_less {ℓ} : {C : Type ℓ} (a b : ℕ) → (a < b → C) → (b ≤ a → C) → C
by_less a b f g = by_test (ltb a b) (λ e. f (ltb-true a b e)) (λ e. g (ltb-false a b e))

pub clash {ℓ} : {C : Type ℓ} {b : Bool} → b ≡ true → b ≡ false → C
clash p q = absurd (true≢false (sym p ∙ q))

pub or_cases : (a b : Bool) → a || b ≡ true → (a ≡ true) ⊎ (b ≡ true)
or_cases true b e = inl refl
or_cases false b e = inr e

pub or_left : (a b : Bool) → a ≡ true → a || b ≡ true
or_left a b e = rw e refl

pub or_right : (a b : Bool) → b ≡ true → a || b ≡ true
or_right true b e = refl
or_right false b e = e

pub or_false : (a b : Bool) → a || b ≡ false → (a ≡ false) × (b ≡ false)
or_false true b e = clash refl e
or_false false b e = (refl, e)

pub and_true : (a b : Bool) → a && b ≡ true → (a ≡ true) × (b ≡ true)
and_true true b e = (refl, e)
and_true false b e = clash e refl

pub and_both : (a b : Bool) → a ≡ true → b ≡ true → a && b ≡ true
and_both a b p q = rw (p, q) refl

pub and_cases : (a b : Bool) → a && b ≡ false → (a ≡ false) ⊎ (b ≡ false)
and_cases true b e = inr e
and_cases false b e = inl refl

module _ {A : Type 0} where
  -- Some and all of a list.

  pub any_mem : (p : A → Bool) {x : A} {l : List A} → Memᴰ x l → p x ≡ true → any_of p l ≡ true
  any_mem p (Memᴰ.head {x = y} {xs = ys} e) h = or_left (p y) (any_of p ys) (ap p (sym e) ∙ h)
  any_mem p (Memᴰ.tail {x = y} {xs = ys} m) h = or_right (p y) (any_of p ys) (any_mem p m h)

  pub any_witness : (p : A → Bool) (l : List A) → any_of p l ≡ true → (x : A) × Memᴰ x l × (p x ≡ true)
  any_witness p [] e = clash e refl
  any_witness p (x ∷ xs) e = step (any_witness p xs) (or_cases (p x) (any_of p xs) e)
    where
      step :
          (any_of p xs ≡ true → (y : A) × Memᴰ y xs × (p y ≡ true)) → (p x ≡ true) ⊎ (any_of p xs ≡ true) →
          (y : A) × Memᴰ y (x ∷ xs) × (p y ≡ true)
      step below (inl h) = (x, Memᴰ.head refl, h)
      step below (inr h) = ((below h).0, Memᴰ.tail (below h).1, (below h).2)

  pub any_none : (p : A → Bool) {x : A} {l : List A} → any_of p l ≡ false → Memᴰ x l → p x ≡ false
  any_none p {x = x} e m = by_test (p x) (λ h. clash (any_mem p m h) e) (λ h. h)

  pub none_any : (p : A → Bool) (l : List A) → ((x : A) → Memᴰ x l → p x ≡ false) → any_of p l ≡ false
  none_any p [] h = refl
  none_any p (x ∷ xs) h = rw (h x (Memᴰ.head refl)) (none_any p xs (λ y m. h y (Memᴰ.tail m)))

  pub all_mem : (p : A → Bool) {x : A} {l : List A} → all_of p l ≡ true → Memᴰ x l → p x ≡ true
  all_mem p {l = []} e m = elim m [ ]
  all_mem p {l = y ∷ ys} e (Memᴰ.head q) = ap p q ∙ (and_true (p y) (all_of p ys) e).0
  all_mem p {l = y ∷ ys} e (Memᴰ.tail m) = all_mem p (and_true (p y) (all_of p ys) e).1 m

  pub any_append : (p : A → Bool) (a b : List A) → any_of p (a ++ b) ≡ any_of p a || any_of p b
  any_append p [] b = refl
  any_append p (x ∷ a) b = go (p x) (any_append p a b)
    where
      go : (t : Bool) → any_of p (a ++ b) ≡ any_of p a || any_of p b → t || any_of p (a ++ b) ≡ (t || any_of p a) || any_of p b
      go true below = refl
      go false below = below

  -- Those that pass a test.

  pub keep_mem : (p : A → Bool) {x : A} {l : List A} → Memᴰ x l → p x ≡ true → Memᴰ x (keep p l)
  keep_mem p {x = x} (Memᴰ.head {x = y} {xs = ys} e) h = rw (ap p (sym e) ∙ h) (Memᴰ.head e)
  keep_mem p {x = x} (Memᴰ.tail {x = y} {xs = ys} m) h = go (p y) (keep_mem p m h)
    where
      go : (t : Bool) → Memᴰ x (keep p ys) → Memᴰ x (cons_if t y (keep p ys))
      go true k = Memᴰ.tail k
      go false k = k

  pub mem_keep : (p : A → Bool) (l : List A) {x : A} → Memᴰ x (keep p l) → Memᴰ x l × (p x ≡ true)
  mem_keep p [] m = absurd (Memᴰ.not-nil m)
  mem_keep p (y ∷ ys) {x} m = go (p y) refl (λ k. mem_keep p ys k) m
    where
      go :
          (t : Bool) → p y ≡ t → (Memᴰ x (keep p ys) → Memᴰ x ys × (p x ≡ true)) → Memᴰ x (cons_if t y (keep p ys)) →
          Memᴰ x (y ∷ ys) × (p x ≡ true)
      go true e below k = ⊎_elim (λ q. (Memᴰ.head q, ap p q ∙ e)) (λ d. (Memᴰ.tail (below d).0, (below d).1)) (Memᴰ.cases_cons k)
      go false e below k = (Memᴰ.tail (below k).0, (below k).1)

  pub keep_append : (p : A → Bool) (a b : List A) → keep p (a ++ b) ≡ keep p a ++ keep p b
  keep_append p [] b = refl
  keep_append p (x ∷ a) b = go (p x) (keep_append p a b)
    where
      go : (t : Bool) → keep p (a ++ b) ≡ keep p a ++ keep p b → cons_if t x (keep p (a ++ b)) ≡ cons_if t x (keep p a) ++ keep p b
      go true below = ap (λ l. x ∷ l) below
      go false below = below

  pub keep_all : (p : A → Bool) (l : List A) → ((x : A) → Memᴰ x l → p x ≡ true) → keep p l ≡ l
  keep_all p [] h = refl
  keep_all p (x ∷ xs) h = rw (h x (Memᴰ.head refl)) (ap (λ l. x ∷ l) (keep_all p xs (λ y m. h y (Memᴰ.tail m))))

  pub keep_none : (p : A → Bool) (l : List A) → ((x : A) → Memᴰ x l → p x ≡ false) → keep p l ≡ []
  keep_none p [] h = refl
  keep_none p (x ∷ xs) h = rw (h x (Memᴰ.head refl)) (keep_none p xs (λ y m. h y (Memᴰ.tail m)))

  pub keep_same : (p q : A → Bool) (l : List A) → ((x : A) → Memᴰ x l → p x ≡ q x) → keep p l ≡ keep q l
  keep_same p q [] h = refl
  keep_same p q (x ∷ xs) h = rw (h x (Memᴰ.head refl)) (ap (cons_if (q x) x) (keep_same p q xs (λ y m. h y (Memᴰ.tail m))))

  pub length_keep : (p : A → Bool) (l : List A) → length (keep p l) ≤ length l
  length_keep p [] = omega arith
  length_keep p (x ∷ xs) = go (p x) (length_keep p xs)
    where
      go : (t : Bool) → length (keep p xs) ≤ length xs → length (cons_if t x (keep p xs)) ≤ suc (length xs)
      go true h = omega arith
      go false h = omega arith

  -- Counts.

  pub count_append : (p : A → Bool) (a b : List A) → count_of p (a ++ b) ≡ count_of p a + count_of p b
  count_append p a b = rw (keep_append p a b) (length-append (keep p a) (keep p b))

  pub count_none : (p : A → Bool) (l : List A) → any_of p l ≡ false → count_of p l ≡ 0
  count_none p l e = ap length (keep_none p l (λ x m. any_none p e m))

  pub count_some : (p : A → Bool) (l : List A) → any_of p l ≡ true → 1 ≤ count_of p l
  count_some p l e = go (keep p l) (keep_mem p w.1 w.2)
    where
      w : (x : A) × Memᴰ x l × (p x ≡ true)
      w = any_witness p l e

      go : (k : List A) → Memᴰ w.0 k → 1 ≤ length k
      go [] m = absurd (Memᴰ.not-nil m)
      go (y ∷ ys) m = omega arith

  -- The first that passes a test.

  pub first_append : (d : A) (p : A → Bool) (a b : List A) → any_of p a ≡ true → first_or d p (a ++ b) ≡ first_or d p a
  first_append d p [] b e = clash e refl
  first_append d p (x ∷ a) b e =
      by_test (p x) (λ h. rw h refl) (λ h. let below : any_of p a ≡ true = rw h at e in rw h (first_append d p a b below))

  pub first_skip : (d : A) (p : A → Bool) (a b : List A) → any_of p a ≡ false → first_or d p (a ++ b) ≡ first_or d p b
  first_skip d p [] b e = refl
  first_skip d p (x ∷ a) b e =
      rw (or_false (p x) (any_of p a) e).0 (first_skip d p a b (or_false (p x) (any_of p a) e).1)

  pub first_mem : (d : A) (p : A → Bool) (l : List A) → any_of p l ≡ true → Memᴰ (first_or d p l) l
  first_mem d p [] e = clash e refl
  first_mem d p (x ∷ xs) e =
      by_test
      (p x)
      (λ h. rw h (Memᴰ.head refl))
      (λ h. let below : any_of p xs ≡ true = rw h at e in rw h (Memᴰ.tail (first_mem d p xs below)))

  -- the only one that passes a test is the first that does
  pub once_first : (d : A) (p : A → Bool) {x : A} {l : List A} → count_of p l ≡ 1 → Memᴰ x l → p x ≡ true → first_or d p l ≡ x
  once_first d p {x = x} c (Memᴰ.head e) h = rw (ap p (sym e) ∙ h) (sym e)
  once_first d p {x = x} c (Memᴰ.tail {x = y} {xs = ys} m) h =
      by_test
      (p y)
      (λ e.
      let one : suc (count_of p ys) ≡ 1 = rw e at c in
      let more = count_some p ys (any_mem p m h) in
      absurd (omega arith))
      (λ e. let one : count_of p ys ≡ 1 = rw e at c in rw e (once_first d p one m h))

  -- Sums.

  pub sum_append : (f : A → ℕ) (a b : List A) → sum_of f (a ++ b) ≡ sum_of f a + sum_of f b
  sum_append f [] b = omega arith
  sum_append f (x ∷ a) b = let below = sum_append f a b in omega arith

  -- what passes and what does not make up the whole
  pub sum_split : (f : A → ℕ) (p : A → Bool) (l : List A) → sum_of f l ≡ sum_of f (keep p l) + sum_of f (keep (λ x. not (p x)) l)
  sum_split f p [] = omega arith
  sum_split f p (x ∷ xs) = go (p x) (sum_split f p xs)
    where
      go :
          (t : Bool) → sum_of f xs ≡ sum_of f (keep p xs) + sum_of f (keep (λ x. not (p x)) xs) →
          f x + sum_of f xs
          ≡ sum_of f (cons_if t x (keep p xs)) + sum_of f (cons_if (not t) x (keep (λ x. not (p x)) xs))
      go true h = omega arith
      go false h = omega arith

  -- an element stands at some position, and what stands at a position is an element
  pub mem_get_or : {x : A} {l : List A} (d : A) → Memᴰ x l → (i : ℕ) × (i < length l) × (get_or l i d ≡ x)
  mem_get_or d (Memᴰ.head e) = (zero, omega arith, sym e)
  mem_get_or d (Memᴰ.tail m) = let r = mem_get_or d m in (suc r.0, (let h = r.1 in omega arith), r.2)

  pub get_or_mem : (l : List A) (i : ℕ) (d : A) → i < length l → Memᴰ (get_or l i d) l
  get_or_mem [] i d h = absurd (omega arith)
  get_or_mem (x ∷ xs) zero d h = Memᴰ.head refl
  get_or_mem (x ∷ xs) (suc i) d h = Memᴰ.tail (get_or_mem xs i d (omega arith))

-- two functions that agree on every one of a list
pub map_same : {A B : Type 0} (f g : A → B) (l : List A) → ((x : A) → Memᴰ x l → f x ≡ g x) → map f l ≡ map g l
map_same f g [] h = refl
map_same f g (x ∷ l) h = rw (h x (Memᴰ.head refl)) (ap (λ rest. g x ∷ rest) (map_same f g l (λ y m. h y (Memᴰ.tail m))))

pub mem_map : {A B : Type 0} (f : A → B) {x : A} {l : List A} → Memᴰ x l → Memᴰ (f x) (map f l)
mem_map f (Memᴰ.head e) = Memᴰ.head (ap f e)
mem_map f (Memᴰ.tail m) = Memᴰ.tail (mem_map f m)

pub map_mem : {A B : Type 0} (f : A → B) (l : List A) {y : B} → Memᴰ y (map f l) → (x : A) × Memᴰ x l × (y ≡ f x)
map_mem f [] m = absurd (Memᴰ.not-nil m)
map_mem {A} f (x ∷ xs) {y} m =
    ⊎_elim
    (λ e. (x, Memᴰ.head refl, e))
    (λ d. let r : (z : A) × Memᴰ z xs × (y ≡ f z) = map_mem f xs d in (r.0, Memᴰ.tail r.1, r.2))
    (Memᴰ.cases_cons m)

-- Numbers in a row.

pub length_numbers : (a n : ℕ) → length (numbers a n) ≡ n
length_numbers a zero = refl
length_numbers a (suc n) = ap suc (length_numbers (suc a) n)

-- one number more
pub numbers_more : (a n : ℕ) → numbers a (suc n) ≡ numbers a n ++ ((a + n) ∷ [])
numbers_more a zero = let same : a ≡ a + 0 = omega arith in ap (λ b. b ∷ []) same
numbers_more a (suc n) =
    let same : suc a + n ≡ a + suc n = omega arith in
    ap (λ l. a ∷ l) (numbers_more (suc a) n ∙ ap (λ b. numbers (suc a) n ++ (b ∷ [])) same)

pub mem_numbers : (a n : ℕ) {x : ℕ} → Memᴰ x (numbers a n) → (a ≤ x) × (x < a + n)
mem_numbers a zero m = absurd (Memᴰ.not-nil m)
mem_numbers a (suc n) {x} m =
    ⊎_elim
    (λ e. (omega arith, omega arith))
    (λ d. let r : (suc a ≤ x) × (x < suc a + n) = mem_numbers (suc a) n d in (omega arith, omega arith))
    (Memᴰ.cases_cons m)

pub numbers_mem : (a n x : ℕ) → a ≤ x → x < a + n → Memᴰ x (numbers a n)
numbers_mem a zero x h k = absurd (omega arith)
numbers_mem a (suc n) x h k = go (eqb a x) refl (λ below. numbers_mem (suc a) n x below (omega arith))
  where
    go : (t : Bool) → eqb a x ≡ t → (suc a ≤ x → Memᴰ x (numbers (suc a) n)) → Memᴰ x (a ∷ numbers (suc a) n)
    go true e rest = Memᴰ.head (sym (eqb-true a x e))
    go false e rest = let ne = eqb-false a x e in Memᴰ.tail (rest (omega (arith, ne)))

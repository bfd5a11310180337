-- The register's state and the journal agree, whatever is called.
use mathlib.Core.Path.{◌≡◌, refl, sym, ap, ap₂, ◌∙◌, subst}
use mathlib.Core.Logic.{⊎_elim}
use mathlib.Core.Bool.{Bool, false, not, ◌||◌}
use mathlib.Core.List.Memᴰ
use mathlib.Core.List.{List, [], ◌∷◌, ◌++◌, append-nil, append_assoc, Memᴰ}
use Prim.Native.Nat.{ℕ}
use native.Mathlib.Omega.{arith}
use lib.Dec.{eqb}
use borrow.Author.Tests.{eqb-true, eqb-false, eq-eqb, ne_eqb}
use Rattle.rules.specs.declared.Row.{Row}
use Rattle.rules.specs.declared.Job.{Job}
use Rattle.rules.specs.declared.Setup.{Setup}
use Rattle.rules.specs.declared.Answer.{Answer}
use Rattle.rules.specs.Sequences.{any_of, keep, sum_of}
use Rattle.rules.specs.Words.{Calendar, with_clock, State, with_calendar, View, view, fresh, of_job}
use Rattle.rules.specs.Placing.{costs}
use Rattle.rules.specs.Withdrawing.{admit, remove, withdraw, ended, advance}
use Rattle.rules.specs.Refusals.{accepted, submit_answer, withdraw_answer, advance_answer, found, placing}
use Rattle.rules.specs.Refusals.{Call, submits, withdraws, advances, Step, settle, step, answers, after}
use Rattle.rules.specs.Journal.{Entry, Journal, empty, entry_of, rows_in, journal_total, journal_view, enter, journal_step}
use Rattle.rules.proofs.Sequences.{by_test, any_none, any_mem, none_any, any_append, keep_append, keep_all, keep_none, mem_keep, sum_append, sum_split}
use Rattle.rules.proofs.Admitted.{admitted}
use Rattle.rules.proofs.Pairs.{Pairwise, end, more, pairwise_keep, pairwise_snoc}

-- the state is what the journal comes to, each entry has rows, its cost is theirs and its number is on them, and no two entries share a number
pub record Agree (st : State) (jn : Journal) : Type 0 where
  pub calendar : st.calendar ≡ jn.calendar
  pub rows : st.rows ≡ rows_in jn.entries
  pub total : st.total ≡ journal_total jn
  pub costed : (e : Entry) → Memᴰ e jn.entries → e.cost ≡ costs e.rows
  pub carried : (e : Entry) → Memᴰ e jn.entries → (row : Row) → Memᴰ row e.rows → row.job ≡ e.job.number
  pub nonempty : (e : Entry) → Memᴰ e jn.entries → (row : Row) × Memᴰ row e.rows
  pub distinct : Pairwise (λ d e. d.job.number ≡ e.job.number → ⊥) jn.entries

-- The entries' rows in turn.

-- the test of rows says of each row of an entry what the test of entries says of the entry
abbrev Uniform : (Row → Bool) → (Entry → Bool) → List Entry → Type 0
Uniform p q entries = (e : Entry) → Memᴰ e entries → (row : Row) → Memᴰ row e.rows → p row ≡ q e

module _ (p : Row → Bool) (q : Entry → Bool) where
  -- so the rows that pass are those of the entries that pass
  keep_rows : (entries : List Entry) → Uniform p q entries → keep p (rows_in entries) ≡ rows_in (keep q entries)
  keep_rows [] h = refl
  keep_rows (e ∷ entries) h =
      let here = h e (Memᴰ.head refl) in
      let below = keep_rows entries (λ d m. h d (Memᴰ.tail m)) in
      rw (keep_append, below) (by_test
      (q e)
      (λ t. rw (t, keep_all p e.rows (λ row m. here row m ∙ t)) refl)
      (λ t. rw (t, keep_none p e.rows (λ row m. here row m ∙ t)) refl))

  -- and some row passes exactly if some entry does, where no entry is without rows
  any_rows :
      (entries : List Entry) → Uniform p q entries → ((e : Entry) → Memᴰ e entries → (row : Row) × Memᴰ row e.rows) →
      any_of p (rows_in entries) ≡ any_of q entries
  any_rows [] h k = refl
  any_rows (e ∷ entries) h k =
      let here = h e (Memᴰ.head refl) in
      let row = k e (Memᴰ.head refl) in
      any_append p e.rows (rows_in entries)
      ∙ ap₂ ◌||◌
      (by_test
      (q e)
      (λ t. any_mem p row.1 (here row.0 row.1 ∙ t) ∙ sym t)
      (λ t. none_any p e.rows (λ r m. here r m ∙ t) ∙ sym t))
      (any_rows entries (λ d m. h d (Memᴰ.tail m)) (λ d m. k d (Memᴰ.tail m)))

rows_append : (a b : List Entry) → rows_in (a ++ b) ≡ rows_in a ++ rows_in b
rows_append [] b = refl
rows_append (e ∷ a) b = ap (λ l. e.rows ++ l) (rows_append a b) ∙ sym (append_assoc e.rows (rows_in a) (rows_in b))

costs_rows :
    (entries : List Entry) → ((e : Entry) → Memᴰ e entries → e.cost ≡ costs e.rows) →
    costs (rows_in entries) ≡ sum_of (λ e. e.cost) entries
costs_rows [] h = refl
costs_rows (e ∷ entries) h =
    let here = h e (Memᴰ.head refl) in
    let below = costs_rows entries (λ d m. h d (Memᴰ.tail m)) in
    let both = sum_append (λ row. row.cost) e.rows (rows_in entries) in
    omega arith

-- of elements with different figures, the one with a given figure is alone
keep_alone :
    {A : Type 0} (f : A → ℕ) {x : A} {l : List A} → Pairwise (λ a b. f a ≡ f b → ⊥) l → Memᴰ x l → keep (λ y. eqb (f y) (f x)) l ≡ x ∷ []
keep_alone f end m = elim m [ ]
keep_alone f {x = x} (more {x = y} {xs = ys} h rest) (Memᴰ.head e) =
    rw (eq-eqb (f y) (f x) (ap f (sym e)))
    (ap₂ ◌∷◌ (sym e) (keep_none _ ys (λ z m. ne_eqb (f z) (f x) (λ q. h z m (ap f (sym e) ∙ sym q)))))
keep_alone f {x = x} (more {x = y} h rest) (Memᴰ.tail m) = rw (ne_eqb (f y) (f x) (h x m)) (keep_alone f rest m)

-- What agrees.

pub agree_fresh : Agree fresh empty
agree_fresh = record {
  calendar = refl;
  rows = refl;
  total = refl;
  costed = λ e m. absurd (Memᴰ.not-nil m);
  carried = λ e m. absurd (Memᴰ.not-nil m);
  nonempty = λ e m. absurd (Memᴰ.not-nil m);
  distinct = end;
}

module _ {st : State} {jn : Journal} (ag : Agree st jn) where
  rows_kept : (p : Row → Bool) (q : Entry → Bool) → Uniform p q jn.entries → keep p st.rows ≡ rows_in (keep q jn.entries)
  rows_kept p q h = ap (keep p) ag.rows ∙ keep_rows p q jn.entries h

  by_job : (n : ℕ) → Uniform (of_job n) (entry_of n) jn.entries
  by_job n e m row k = ap (λ i. eqb i n) (ag.carried e m row k)

  pub views_agree : view st ≡ journal_view jn
  views_agree = λ i. record {
    calendar = ag.calendar i;
    rows = ag.rows i;
    held = λ n. (ap (any_of (of_job n)) ag.rows ∙ any_rows _ _ jn.entries (by_job n) ag.nonempty) i;
    rows_of = λ n. rows_kept (of_job n) (entry_of n) (by_job n) i;
  }

  -- the rows that carry an entry's number are the entry's
  pub rows_for_entry : (e : Entry) → Memᴰ e jn.entries → keep (of_job e.job.number) st.rows ≡ e.rows
  rows_for_entry e m =
      rows_kept _ _ (by_job e.job.number)
      ∙ ap rows_in (keep_alone (λ d. d.job.number) ag.distinct m)
      ∙ append-nil e.rows

  -- a calendar that is changed alike
  agree_calendar : (change : Calendar → Calendar) → Agree (with_calendar (change st.calendar) st)
      (record { calendar = change jn.calendar; entries = jn.entries })
  agree_calendar change = record {
    calendar = ap change ag.calendar;
    rows = ag.rows;
    total = ag.total;
    costed = ag.costed;
    carried = ag.carried;
    nonempty = ag.nonempty;
    distinct = ag.distinct;
  }

  -- rows and entries removed alike
  agree_remove :
      (p : Row → Bool) (q : Entry → Bool) → Uniform p q jn.entries →
      Agree (remove p st) (record { calendar = jn.calendar; entries = keep (λ e. not (q e)) jn.entries })
  unfolding remove
  agree_remove p q h = record {
    calendar = ag.calendar;
    rows = rows_kept _ (λ e. not (q e)) (λ e m row k. ap not (h e m row k));
    total =
        let was = ag.total in
        let both = sum_split (λ e. e.cost) q jn.entries in
        let gone = ap costs (rows_kept p q h) ∙ costs_rows (keep q jn.entries) (λ e m. ag.costed e (held q e m)) in
        omega arith;
    costed = λ e m. ag.costed e (held _ e m);
    carried = λ e m. ag.carried e (held _ e m);
    nonempty = λ e m. ag.nonempty e (held _ e m);
    distinct = pairwise_keep _ _ ag.distinct;
  }
    where
      held : (test : Entry → Bool) (e : Entry) → Memᴰ e (keep test jn.entries) → Memᴰ e jn.entries
      held test e m = (mem_keep test jn.entries m).0

  -- rows and an entry added alike
  agree_enter :
      (j : Job) (rows : List Row) → any_of (entry_of j.number) jn.entries ≡ false →
      ((row : Row) → Memᴰ row rows → row.job ≡ j.number) → (row : Row) × Memᴰ row rows → Agree (admit st rows) (enter jn j rows)
  unfolding admit enter
  agree_enter j rows new carried nonempty = record {
    calendar = ag.calendar;
    rows = ap₂ ◌++◌ ag.rows (sym (append-nil rows)) ∙ sym (rows_append jn.entries (entry ∷ []));
    total =
        let was = ag.total in
        let both = sum_append (λ e. e.cost) jn.entries (entry ∷ []) in
        omega arith;
    costed = with_new _ ag.costed refl;
    carried = with_new _ ag.carried carried;
    nonempty = with_new _ ag.nonempty nonempty;
    distinct = pairwise_snoc _ ag.distinct (λ e m. eqb-false _ _ (any_none (entry_of j.number) new m));
  }
    where
      entry : Entry
      entry = record { job = j; rows = rows; cost = costs rows }

      with_new :
          (P : Entry → Type 0) → ((e : Entry) → Memᴰ e jn.entries → P e) → P entry →
          (e : Entry) → Memᴰ e (jn.entries ++ (entry ∷ [])) → P e
      with_new P old this e m = ⊎_elim (old e) (λ k. subst P (sym (Memᴰ.eq_of_singleton k)) this) (Memᴰ.append_cases jn.entries m)

-- One call, and any list of calls.

-- equal answers, and what is left agrees
abbrev Alike : Step State → Step Journal → Type 0
Alike a b = (a.answer ≡ b.answer) × Agree a.left b.left

settle_alike :
    {a b : Answer} {st changed : State} {jn entered : Journal} → a ≡ b → Agree st jn → (b.number ≡ 0 → Agree changed entered) →
    Alike (settle a st changed) (settle b jn entered)
unfolding settle
settle_alike {b = b} q ag h = rw q (refl, by_test (accepted b) (λ t. rw t (h (eqb-true _ _ t))) (λ t. rw t ag))

-- over the two facts of placing that its rows carry the job's number, and that a job admitted has a row
module _ (s : Setup)
    (carries : (v : View) (j : Job) (row : Row) → Memᴰ row (found (placing s v j)) → row.job ≡ j.number)
    (filled : (v : View) (j : Job) → (submit_answer s v j).number ≡ 0 → (row : Row) × Memᴰ row (found (placing s v j))) where
  pub agree_step :
      (st : State) (jn : Journal) (c : Call) → Agree st jn →
      ((step s st c).answer ≡ (journal_step s jn c).answer) × Agree (step s st c).left (journal_step s jn c).left
  unfolding step journal_step withdraw advance
  agree_step st jn (submits j) ag =
      let v = journal_view jn in
      settle_alike (ap (λ u. submit_answer s u j) (views_agree ag)) ag
      (λ e. rw (views_agree ag) (agree_enter ag j (found (placing s v j)) (admitted s v j e).not_held (carries v j) (filled v j e)))
  agree_step st jn (withdraws n) ag =
      settle_alike (ap (λ v. withdraw_answer v n) (views_agree ag)) ag (λ e. agree_remove ag (of_job n) (entry_of n) (by_job ag n))
  agree_step st jn (advances tick) ag =
      settle_alike (ap (λ v. advance_answer v tick) (views_agree ag)) ag
      (λ e.
      agree_remove (agree_calendar ag (with_clock tick)) _ (λ d. ended tick d.rows)
      (λ d m row k. ap (ended tick) (ap (view st).rows_of (ag.carried d m row k) ∙ rows_for_entry ag d m)))

  pub agree_after :
      (calls : List Call) (st : State) (jn : Journal) → Agree st jn →
      (answers (step s) st calls ≡ answers (journal_step s) jn calls) × Agree (after (step s) st calls) (after (journal_step s) jn calls)
  unfolding answers after
  agree_after [] st jn ag = (refl, ag)
  agree_after (c ∷ calls) st jn ag =
      let here = agree_step st jn c ag in
      let rest = agree_after calls (step s st c).left (journal_step s jn c).left here.1 in
      (ap₂ ◌∷◌ here.0 rest.0, rest.1)

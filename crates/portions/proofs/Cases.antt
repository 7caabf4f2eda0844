-- What a sweep keeps after t steps, and the step from it: the tests are the tally's, and the rows are the listing's. Assumes nothing.
use mathlib.Core.Path.{◌≡◌, refl, sym, ap, ◌∙◌}
use mathlib.Core.Logic.{⊎_elim}
use mathlib.Core.Bool.{true, false, cond}
use mathlib.Core.Option.{Option, none, some}
use mathlib.Core.List.{List, [], ◌++◌, append-nil}
use Prim.Native.Nat.{ℕ, suc, ◌*◌, ◌/◌, ◌%◌, ◌≤◌, ◌<◌}
use native.Mathlib.Nat.{eq-or-lt_of_le, mod-lt, mul-mod_right, mul-div_cancel_left, mul-zero, mul-one}
use native.Mathlib.Omega.{arith}
use lib.Dec.{eqb}
use lib.ListN.{length}
use borrow.Author.Tests.{lt-ltb, le-ltb, eq-eqb, ne_eqb}
use Rattle.portions.specs.Stopping.{joined}
use Rattle.portions.specs.Tally.{closes_after, rows_after}
use Rattle.portions.specs.Cases.{Cases, KeptCase, to_list, is_some, case_after, row_of, listed, listing, none_left, kept_after, closes, stepped, row_written, opened, next_kept}
use Rattle.portions.proofs.Multiples.{which, end_mod, end_div, stay_mod, stay_div, stay_below, div_below}

module _ {A : Type 0} where
  one_or_none : (o : Option (List A)) → length (to_list o) ≡ cond (is_some o) 1 0
  one_or_none none = refl
  one_or_none (some r) = refl

  pub one_sized : (size : ℕ) (o : Option (List A)) → ((r : List A) → o ≡ some r → length r ≡ size) → length (joined (to_list o)) ≡ size * length (to_list o)
  unfolding joined
  one_sized size none f = sym (mul-zero size)
  one_sized size (some r) f = rw (append-nil, mul-one) (f r refl)

module _ {A : Type 0} (p : Cases A) (pos : 0 < p.N) where
  open p use {Case, N, cases, row}

  pub open_at : (t : ℕ) → t < N * cases → kept_after p t ≡ record { number = t / N; made = t % N; state = case_after p (t / N) (t % N) }
  unfolding kept_after
  open_at t l = rw (lt-ltb t (N * cases) l)

  done_at : kept_after p (N * cases) ≡ none_left p
  unfolding kept_after
  done_at = rw (le-ltb (N * cases) (N * cases) (omega arith))

  pub made_at : (t : ℕ) → t ≤ N * cases → (kept_after p t).made ≡ t % N
  made_at t le =
      ⊎_elim
      (λ (e : t ≡ N * cases). rw (e, done_at) (sym (mul-mod_right N cases)))
      (λ (l : t < N * cases). rw (open_at t l))
      (eq-or-lt_of_le le)

  -- it is a case that is there, or none
  pub record Held (s : KeptCase Case) : Type 0 where
    pub number_ok : s.number ≤ cases
    pub made_ok : s.made < N
    pub none_made : s.number ≡ cases → s.made ≡ 0

  pub held_at : (t : ℕ) → t ≤ N * cases → Held (kept_after p t)
  held_at t le =
      ⊎_elim
      (λ (e : t ≡ N * cases). rw (e, done_at) (record { number_ok = omega arith; made_ok = pos; none_made = λ h. refl }))
      (λ (l : t < N * cases).
      let h = div_below N pos t cases l in
      rw (open_at t l) (record { number_ok = omega arith; made_ok = mod-lt t pos; none_made = λ e. omega arith }))
      (eq-or-lt_of_le le)

  pub ended_at : (t : ℕ) → t ≤ N * cases → eqb (kept_after p t).number cases ≡ eqb t (N * cases)
  ended_at t le =
      ⊎_elim
      (λ (e : t ≡ N * cases). rw (e, done_at) (eq-eqb cases cases refl ∙ sym (eq-eqb (N * cases) (N * cases) refl)))
      (λ (l : t < N * cases).
      let h = div_below N pos t cases l in
      rw (open_at t l) (ne_eqb (t / N) cases (λ e. omega arith) ∙ sym (ne_eqb t (N * cases) (λ e. omega arith))))
      (eq-or-lt_of_le le)

  -- a step from what is kept after t steps
  module _ (t : ℕ) (l : t < N * cases) where
    pub open_number : (kept_after p t).number < cases
    open_number = rw (open_at t l) (div_below N pos t cases l)

    pub open_made : (kept_after p t).made < N
    open_made = rw (open_at t l) (mod-lt t pos)

    closes_end : suc (t % N) ≡ N → closes p (kept_after p t) ≡ true
    unfolding closes
    closes_end e = rw (open_at t l) (eq-eqb _ _ e)

    closes_stay : suc (t % N) < N → closes p (kept_after p t) ≡ false
    unfolding closes
    closes_stay h = rw (open_at t l) (ne_eqb (suc (t % N)) N (λ e. omega arith))

    tally_end : suc (t % N) ≡ N → closes_after N cases (listed p) t ≡ true
    tally_end e = eq-eqb _ _ (end_mod N pos t e)

    tally_stay : suc (t % N) < N → closes_after N cases (listed p) t ≡ false
    tally_stay h = ne_eqb (suc t % N) 0 (λ e. omega (arith, stay_mod N pos t h))

    pub closes_at : closes p (kept_after p t) ≡ closes_after N cases (listed p) t
    closes_at = ⊎_elim (λ e. closes_end e ∙ sym (tally_end e)) (λ h. closes_stay h ∙ sym (tally_stay h)) (which N pos t)

    row_end : suc (t % N) ≡ N → row (kept_after p t).number (stepped p (kept_after p t)) ≡ row_of p (t / N)
    unfolding stepped row_of case_after
    row_end e = rw (open_at t l) (ap (λ (n : ℕ). row (t / N) (case_after p (t / N) n)) e)

    written_end : suc (t % N) ≡ N → row_written p (kept_after p t) ≡ to_list (row_of p (t / N))
    unfolding row_written
    written_end e = rw (closes_end e, row_end e)

    written_stay : suc (t % N) < N → row_written p (kept_after p t) ≡ []
    unfolding row_written
    written_stay h = rw (closes_stay h)

    next_end : suc (t % N) ≡ N → next_kept p (kept_after p t) ≡ kept_after p (suc t)
    unfolding next_kept opened case_after
    next_end e =
        rw (closes_end e, open_at t l)
        (⊎_elim
        (λ (q : suc t ≡ N * cases).
        let h : suc (t / N) ≡ cases = sym (end_div N pos t e) ∙ ap (λ (n : ℕ). n / N) q ∙ mul-div_cancel_left cases pos in
        rw (eq-eqb (suc (t / N)) cases h, q, done_at))
        (λ (q : suc t < N * cases).
        let h : suc (t / N) < cases = omega (arith, div_below N pos (suc t) cases q, end_div N pos t e) in
        rw (ne_eqb (suc (t / N)) cases (λ z. omega arith), open_at (suc t) q, end_div N pos t e, end_mod N pos t e))
        (eq-or-lt_of_le l))

    next_stay : suc (t % N) < N → next_kept p (kept_after p t) ≡ kept_after p (suc t)
    unfolding next_kept stepped case_after
    next_stay h = rw (closes_stay h, open_at t l, open_at (suc t) (stay_below N pos t h cases l), stay_div N pos t h, stay_mod N pos t h)

    pub next_at : next_kept p (kept_after p t) ≡ kept_after p (suc t)
    next_at = ⊎_elim next_end next_stay (which N pos t)

    pub listing_at : listing p (t / N) ++ row_written p (kept_after p t) ≡ listing p (suc t / N)
    unfolding listing
    listing_at =
        ⊎_elim
        (λ e. rw (written_end e, end_div N pos t e))
        (λ h. rw (written_stay h, stay_div N pos t h, append-nil))
        (which N pos t)

    pub count_at : length (row_written p (kept_after p t)) ≡ rows_after N cases (listed p) t
    unfolding listed
    count_at =
        ⊎_elim
        (λ e. rw (written_end e, tally_end e) (one_or_none (row_of p (t / N))))
        (λ h. rw (written_stay h, tally_stay h))
        (which N pos t)

    -- rows of one size
    pub sized_at : (size : ℕ) → ((k : ℕ) (r : List A) → row_of p k ≡ some r → length r ≡ size)
        → length (joined (row_written p (kept_after p t))) ≡ size * length (row_written p (kept_after p t))
    unfolding joined
    sized_at size f =
        ⊎_elim
        (λ e. rw (written_end e) (one_sized size (row_of p (t / N)) (f (t / N))))
        (λ h. rw (written_stay h) (sym (mul-zero size)))
        (which N pos t)

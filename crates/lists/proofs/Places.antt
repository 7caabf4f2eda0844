-- An array of which one place or two are changed: g at place a, then h at place b unless that is a. Places from n on are left alone. Assumes nothing.
use mathlib.Core.Path.{◌≡◌, refl, sym, ◌∙◌}
use mathlib.Core.Bool.{cond}
use mathlib.Core.Logic.{⊎_elim}
use mathlib.Core.List.{List}
use Prim.Native.Nat.{ℕ, ◌≤◌, ◌<◌}
use native.Mathlib.Omega.{arith}
use borrow.Author.Tests.{lt-ltb, le-ltb, ltb-true, eq-eqb, ne_eqb}
use lib.Dec.{eqb, ltb}
use lib.ListN.{length, get_or, set, length-set}
use lib.Seq.{get_or-set_same, get_or-set_other}
use Rattle.lists.specs.Tables.{tab, over}
use Rattle.lists.proofs.Counting.{by-test, lt_or_le, eq_or_ne}
use Rattle.lists.proofs.Fills.{is_tab, tab_same, get_d_tab, length-tab}

module _ {A : Type 0} (n : ℕ) (z : A) where
  -- only the first n are looked at
  pub over_same : (f g : ℕ → A) (d : List A) → ((k : ℕ) → k < n → f k ≡ g k) → over n f z d ≡ over n g z d
  unfolding over
  over_same f g d h = tab_same (length d) _ _ (λ k lk. by-test (ltb k n) (λ t. rw t (h k (ltb-true k n t))) (λ t. rw t))

  -- each element changed by its place, and again
  pub over-over : (f g : ℕ → A → A) (d : List A)
      → over n (λ i. f i (get_or (over n (λ j. g j (get_or d j z)) z d) i z)) z (over n (λ j. g j (get_or d j z)) z d) ≡ over n (λ i. f i (g i (get_or d i z))) z d
  unfolding over
  over-over f g d =
      let e : ℕ → A = λ j. cond (ltb j n) (g j (get_or d j z)) (get_or d j z) in
      rw (length-tab (length d) e)
      (tab_same (length d) (λ i. cond (ltb i n) (f i (get_or (tab (length d) e) i z)) (get_or (tab (length d) e) i z)) (λ i. cond (ltb i n) (f i (g i (get_or d i z))) (get_or d i z))
      (λ k lk. ⊎_elim
      (λ a. rw (get_d_tab (length d) e z k lk, lt-ltb k n a))
      (λ b. rw (get_d_tab (length d) e z k lk, le-ltb k n b))
      (lt_or_le k n)))

  module _ (g : ℕ → A → A) (a : ℕ) (d : List A) where
    abbrev pub once : List A
    once = over n (λ i. cond (eqb a i) (g i (get_or d i z)) (get_or d i z)) z d

    pub once_stored : a < n → set d a (g a (get_or d a z)) ≡ once
    unfolding over
    once_stored l =
        is_tab (length d) (λ i. cond (ltb i n) (cond (eqb a i) (g i (get_or d i z)) (get_or d i z)) (get_or d i z)) z (set d a (g a (get_or d a z))) (length-set d a _)
        (λ k lk. ⊎_elim
        (λ e. rw (← e, lt-ltb a n l, eq-eqb a a refl) (get_or-set_same d a (g a (get_or d a z)) z (rw e lk)))
        (λ ne. ⊎_elim
        (λ b. rw (lt-ltb k n b, ne_eqb a k ne) (get_or-set_other d a k (g a (get_or d a z)) z (λ q. ne (sym q))))
        (λ b. rw (le-ltb k n b) (get_or-set_other d a k (g a (get_or d a z)) z (λ q. ne (sym q))))
        (lt_or_le k n))
        (eq_or_ne a k))

    pub once_past : n ≤ a → d ≡ once
    unfolding over
    once_past l =
        is_tab (length d) (λ i. cond (ltb i n) (cond (eqb a i) (g i (get_or d i z)) (get_or d i z)) (get_or d i z)) z d refl
        (λ k lk. ⊎_elim
        (λ b. rw (lt-ltb k n b, ne_eqb a k (λ e. omega arith)))
        (λ b. rw (le-ltb k n b))
        (lt_or_le k n))

  module _ (g h : ℕ → A → A) (a b : ℕ) (d : List A) where
    abbrev pub twice : ℕ → A → A
    twice i x = cond (eqb a i) (g i x) (cond (eqb b i) (h i x) x)

    apart : (a ≡ b → ⊥) → (i : ℕ) (x : A) → cond (eqb b i) (h i (cond (eqb a i) (g i x) x)) (cond (eqb a i) (g i x) x) ≡ twice i x
    apart ne i x =
        ⊎_elim
        (λ e. rw (eq-eqb a i e, ne_eqb b i (λ q. ne (e ∙ sym q))))
        (λ q. rw (ne_eqb a i q))
        (eq_or_ne a i)

    joined : a ≡ b → (i : ℕ) (x : A) → cond (eqb a i) (g i x) x ≡ twice i x
    joined e i x = ⊎_elim (λ q. rw (eq-eqb a i q)) (λ q. rw (ne_eqb a i q, ne_eqb b i (λ p. q (e ∙ p)))) (eq_or_ne a i)

    module _ {x : List A} (first : x ≡ once g a d) where
      pub twice_stored : b < n → (a ≡ b → ⊥) → set x b (h b (get_or x b z)) ≡ over n (λ i. twice i (get_or d i z)) z d
      twice_stored l ne =
          once_stored h b x l
          ∙ rw first (over-over (λ i y. cond (eqb b i) (h i y) y) (λ i y. cond (eqb a i) (g i y) y) d)
          ∙ over_same _ (λ i. twice i (get_or d i z)) d (λ i l. apart ne i (get_or d i z))

      pub twice_joined : a ≡ b → x ≡ over n (λ i. twice i (get_or d i z)) z d
      twice_joined e = first ∙ over_same _ (λ i. twice i (get_or d i z)) d (λ i l. joined e i (get_or d i z))

      pub twice_past : n ≤ b → x ≡ over n (λ i. twice i (get_or d i z)) z d
      twice_past l =
          ⊎_elim
          (λ e. twice_joined e)
          (λ ne. once_past h b x l
          ∙ rw first (over-over (λ i y. cond (eqb b i) (h i y) y) (λ i y. cond (eqb a i) (g i y) y) d)
          ∙ over_same _ (λ i. twice i (get_or d i z)) d (λ i l. apart ne i (get_or d i z)))
          (eq_or_ne a b)

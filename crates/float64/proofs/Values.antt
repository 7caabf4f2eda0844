-- Doubles from 0 up compare as the fractions that they are. Assumes nothing.
use mathlib.Core.Path.{◌≡◌, sym, ◌∙◌}
use mathlib.Core.Logic.{⊎_elim}
use mathlib.Core.Bool.{true, false, ◌&&◌, ◌||◌, true≢false}
use Prim.Native.Nat.{ℕ, ◌*◌, ◌≤◌, ◌<◌}
use native.Mathlib.Omega.{arith}
use borrow.Author.Tests.{lt-ltb, le-ltb, lt-leb, le-leb, eq-eqb, ne_eqb}
use lib.Dec.{ltb, leb, eqb}
use lib.Ieee.{Float, nan, inf, fin, up, down, lt, le}
use lib.Ieee.Exact.{HasValue}
use lib.Ieee.Fits.{down_pos}
use lib.Ieee.Order.{transfer}
use Rattle.lists.proofs.Counting.{lt_or_le, compared}

-- two comparisons that hold together
same_ltb : (p q u v : ℕ) → (q ≤ p → v ≤ u) → (v ≤ u → q ≤ p) → ltb p q ≡ ltb u v
same_ltb p q u v f g =
    ⊎_elim
    (λ h. ⊎_elim (λ k. lt-ltb p q h ∙ sym (lt-ltb u v k)) (λ k. let l = g k in absurd (apart h l)) (lt_or_le u v))
    (λ h. let k = f h in le-ltb p q h ∙ sym (le-ltb u v k))
    (lt_or_le p q)
  where
    apart : {m n : ℕ} → m < n → n ≤ m → ⊥
    apart h k = omega arith

not_ltb : (p q u v : ℕ) → ltb q p ≡ ltb v u → leb p q ≡ leb u v
not_ltb p q u v e =
    ⊎_elim
    (λ h. lt-leb p q h ∙ sym (lt-leb u v (⊎_elim (λ k. k) (λ k. absurd (true≢false (sym (lt-ltb q p h) ∙ e ∙ le-ltb v u k))) (lt_or_le v u))))
    (λ h. le-leb p q h ∙ sym (le-leb u v (⊎_elim (λ k. absurd (true≢false (sym (lt-ltb v u k) ∙ sym e ∙ le-ltb q p h))) (λ k. k) (lt_or_le v u))))
    (lt_or_le q p)

lt_or_eq-leb : (p q : ℕ) → (ltb p q || (eqb p q && true)) ≡ leb p q
lt_or_eq-leb p q =
    ⊎_elim
    (λ h. rw (lt-ltb p q h, le-leb p q (let z : p ≤ q = omega arith in z)))
    (⊎_elim
    (λ e. rw (eq-eqb p q e, le-ltb p q (let z : q ≤ p = omega arith in z), le-leb p q (let z : p ≤ q = omega arith in z)))
    (λ h. rw (ne_eqb p q (λ e. omega arith), le-ltb p q (let z : q ≤ p = omega arith in z), lt-leb p q h)))
    (compared p q)

module _ (m n e d a b c c' : ℕ) (E : 0 < e) (D : 0 < d) (C : 0 < c) (C' : 0 < c') (p : m * c ≡ a * e) (q : n * c' ≡ b * d) where
  crossed : ltb (m * d) (n * e) ≡ ltb (a * c') (b * c)
  crossed = same_ltb (m * d) (n * e) (a * c') (b * c) (transfer b a c' c n m d e D E (sym q) (sym p)) (transfer n m d e b a c' c C' C q p)

module _ (a c b c' : ℕ) (C : 0 < c) (C' : 0 < c') where
  pub lt_values : (x y : Float) → HasValue x false a c → HasValue y false b c' → lt x y ≡ ltb (a * c') (b * c)
  unfolding lt
  lt_values nan y p q = absurd p
  lt_values (inf s) y p q = absurd p
  lt_values (fin true m e) y p q = absurd (true≢false p.0)
  lt_values (fin false m e) nan p q = absurd q
  lt_values (fin false m e) (inf t) p q = absurd q
  lt_values (fin false m e) (fin true n d) p q = absurd (true≢false q.0)
  lt_values (fin false m e) (fin false n d) p q = crossed (m * up e) (n * up d) (down e) (down d) a b c c' (down_pos e) (down_pos d) C C' p.1 q.1

module _ (a c b c' : ℕ) (C : 0 < c) (C' : 0 < c') where
  pub le_values : (x y : Float) → HasValue x false a c → HasValue y false b c' → le x y ≡ leb (a * c') (b * c)
  unfolding le
  le_values nan y p q = absurd p
  le_values (inf s) y p q = absurd p
  le_values (fin true m e) y p q = absurd (true≢false p.0)
  le_values (fin false m e) nan p q = absurd q
  le_values (fin false m e) (inf t) p q = absurd q
  le_values (fin false m e) (fin true n d) p q = absurd (true≢false q.0)
  le_values (fin false m e) (fin false n d) p q =
      lt_or_eq-leb (m * up e * down d) (n * up d * down e)
      ∙ not_ltb (m * up e * down d) (n * up d * down e) (a * c') (b * c)
      (crossed (n * up d) (m * up e) (down d) (down e) b a c' c (down_pos d) (down_pos e) C' C q.1 p.1)

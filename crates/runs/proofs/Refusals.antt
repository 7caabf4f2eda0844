-- Rule 11 of a run, both ways: a refusal of its grid or event, or more steps made than it has. Assumes nothing.
use Prim.Native.Nat.{ℕ, ◌≤◌, ◌<◌}
use mathlib.Core.Path.{◌≡◌}
use mathlib.Core.Logic.{◌↔◌, ◌⊎◌, inl, inr, ⊎_elim}
use mathlib.Core.Bool.{true, false, not, ◌||◌}
use lib.Dec.{eqb, ltb}
use borrow.Author.Tests.{ne_eqb, eqb-true, eqb-false, lt-ltb, ltb-true, ltb-false}
use Rattle.lists.proofs.Counting.{by-test, contrary}

-- what rule 11 asks, of a refusal k and of m steps made of n
pub either : (k n m : ℕ) → ((not (eqb k 0) || ltb n m) ≡ true) ↔ ((k ≡ 0 → ⊥) ⊎ (n < m))
either k n m = (
  λ h. by-test (eqb k 0) (λ z. inr (ltb-true n m (rw z at h))) (λ z. inl (eqb-false k 0 z)),
  λ b. ⊎_elim (λ (ne : k ≡ 0 → ⊥). rw (ne_eqb k 0 ne)) (λ (l : n < m). by-test (eqb k 0) (λ z. rw (z, lt-ltb n m l)) (λ z. rw z)) b,
)

-- what rule 11 lets through, of a refusal k and of steps made of n
pub unbroken : (k n made : ℕ) → (not (eqb k 0) || ltb n made) ≡ false → (k ≡ 0) × (made ≤ n)
unbroken k n made h = by-test (eqb k 0) (λ z. (eqb-true k 0 z, ltb-false n made (rw z at h))) (λ z. contrary (rw z) h)

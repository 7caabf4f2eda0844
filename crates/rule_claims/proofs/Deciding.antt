-- The first of an order's rules that is broken, where no number stands twice in the order and none is 0. Assumes nothing.
use Prim.Native.Nat.{ℕ}
use mathlib.Core.Path.{◌≡◌, refl, sym}
use mathlib.Core.Bool.{Bool, true, false, not, ◌&&◌, ◌||◌}
use mathlib.Core.List.{List, [], ◌∷◌, ◌++◌}
use borrow.Author.Tests.{eq-eqb, not-true}
use lib.Dec.{eqb}
use Rattle.lists.specs.Scans.{every}
use Rattle.lists.proofs.Counting.{by-test, contrary}
use Rattle.lists.proofs.Scanning.{left, right, both, or_second}
use Rattle.rules.specs.Studies.{first, among}
use Rattle.rule_claims.specs.Claims.{Decides}

-- each number once
abbrev pub once : List ℕ → Bool
once [] = true
once (k ∷ ks) = not (among ks k) && once ks

among_later : (before after : List ℕ) (k : ℕ) → among (before ++ (k ∷ after)) k ≡ true
among_later [] after k = rw (eq-eqb k k refl)
among_later (j ∷ js) after k = or_second (eqb j k) (among (js ++ (k ∷ after)) k) (among_later js after k)

module _ (breaks : ℕ → Bool) where
  abbrev kept : ℕ → Bool
  kept j = not (breaks j)

  -- what is returned stands in the order, or is 0
  found_among : (order : List ℕ) (k : ℕ) → (k ≡ 0 → ⊥) → first breaks order ≡ k → among order k ≡ true
  unfolding first
  found_among [] k z e = absurd (z (sym e))
  found_among (j ∷ js) k z e =
      by-test (breaks j)
      (λ b. let q : j ≡ k = rw b at e in rw (eq-eqb j k q))
      (λ b. let q : first breaks js ≡ k = rw b at e in or_second (eqb j k) (among js k) (found_among js k z q))

  kept_of : (j : ℕ) → breaks j ≡ false → kept j ≡ true
  kept_of j b = rw b

  broken_first : (before after : List ℕ) (k : ℕ) → (k ≡ 0 → ⊥) → once (before ++ (k ∷ after)) ≡ true → first breaks (before ++ (k ∷ after)) ≡ k → (breaks k ≡ true) × (every kept before ≡ true)
  unfolding first
  broken_first [] after k z u e =
      by-test (breaks k)
      (λ b. (b, refl))
      (λ b. let q : first breaks after ≡ k = rw b at e in contrary (found_among after k z q) (not-true (among after k) (left (not (among after k)) (once after) u)))
  broken_first (j ∷ js) after k z u e =
      by-test (breaks j)
      (λ b. let q : j ≡ k = rw b at e in
      contrary (among_later js after k) (rw q at (not-true (among (js ++ (k ∷ after)) j) (left (not (among (js ++ (k ∷ after)) j)) (once (js ++ (k ∷ after))) u))))
      (λ b. let q : first breaks (js ++ (k ∷ after)) ≡ k = rw b at e in
      let r = broken_first js after k z (right (not (among (js ++ (k ∷ after)) j)) (once (js ++ (k ∷ after))) u) q in
      (r.0, both (kept j) (every kept js) (kept_of j b) r.1))

  first_broken : (before after : List ℕ) (k : ℕ) → breaks k ≡ true → every kept before ≡ true → first breaks (before ++ (k ∷ after)) ≡ k
  unfolding first
  first_broken [] after k b p = rw b
  first_broken (j ∷ js) after k b p = rw (not-true (breaks j) (left (kept j) (every kept js) p)) (first_broken js after k b (right (kept j) (every kept js) p))

  none-broken : (order : List ℕ) → among order 0 ≡ false → first breaks order ≡ 0 → every kept order ≡ true
  unfolding first
  none-broken [] z e = refl
  none-broken (j ∷ js) z e =
      by-test (breaks j)
      (λ b. let q : j ≡ 0 = rw b at e in contrary (rw (eq-eqb j 0 q)) z)
      (λ b. let q : first breaks js ≡ 0 = rw b at e in both (kept j) (every kept js) (kept_of j b) (none-broken js (later (eqb j 0) (among js 0) z) q))
    where
      later : (x y : Bool) → (x || y) ≡ false → y ≡ false
      later true y h = contrary refl h
      later false y h = h

  accepted_first : (order : List ℕ) → every kept order ≡ true → first breaks order ≡ 0
  unfolding first
  accepted_first [] p = refl
  accepted_first (j ∷ js) p = rw (not-true (breaks j) (left (kept j) (every kept js) p)) (accepted_first js (right (kept j) (every kept js) p))

  among-split : (order before after : List ℕ) (k : ℕ) → order ≡ before ++ (k ∷ after) → among order 0 ≡ false → k ≡ 0 → ⊥
  among-split order before after k s z e = contrary (rw (s, ← e) (among_later before after k)) z

  pub decides : (order : List ℕ) → once order ≡ true → among order 0 ≡ false → Decides (first breaks order) breaks order
  decides order u z =
      record {
        refused = λ before after k s. (
          (λ e. broken_first before after k (among-split order before after k s z) (rw s at u) (rw s at e)),
          (λ h. rw s (first_broken before after k h.0 h.1)),
        );
        accepted = (none-broken order z, accepted_first order);
      }

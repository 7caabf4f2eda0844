-- What a write to a part of an array leaves of the whole. Assumes nothing.
use Rattle.std.proofs.lemmas.List.{take-append-drop, set-append_left, get_or-append_right, get_or-take, get_or-drop, get_or-map}
use borrow.Rule.Slice.PartMut.{mid_of, put_mid}
use borrow.Author.Tests.{lt-ltb, le-ltb}
use lib.Ieee.{Float, nan}
use lib.ListN.{length, take, drop, set, get_or-append, length-append, length-drop, length-map}
use lib.Seq.{length-take-le}
use native.Mathlib.Omega.{arith}
use Prim.Native.Nat.{ℕ, zero, suc, ◌+◌, ◌-◌, ◌≤◌, ◌<◌}
use mathlib.Core.List.{List, ◌++◌, map}
use mathlib.Core.Logic.{⊎_elim}
use mathlib.Core.Path.{◌≡◌, refl, sym, ap, ◌∙◌}
use Rattle.lists.specs.Tables.{over}
use Rattle.lists.proofs.Counting.{lt_or_le}
use Rattle.lists.proofs.Fills.{upto, upto_over, length_upto, is_tab}
use Rattle.float64.specs.Arithmetic.{of, ◌⊗◌}
use Rattle.float64.specs.Constants.{half}
use Rattle.switching_plan.specs.Switching.{interrupted}

module _ {A : Type 0} where
  front : (n : ℕ) (f : ℕ → A) (a b : List A) → n ≤ length a → upto n f a ++ b ≡ upto n f (a ++ b)
  unfolding upto
  front zero f a b h = refl
  front (suc n) f a b h =
      sym (set-append_left (upto n f a) b n (f n) (omega (arith, length_upto n f a))) ∙ ap (λ (x : List A). set x n (f n)) (front n f a b (omega arith))

  same : (n : ℕ) (f g : ℕ → A) (d : List A) → ((k : ℕ) → k < n → f k ≡ g k) → upto n f d ≡ upto n g d
  unfolding upto
  same zero f g d h = refl
  same (suc n) f g d h = rw (same n f g d (λ k l. h k (omega arith)), h n (omega arith))

  -- the first n replaced, and the rest behind them
  pub over_front : (n : ℕ) (f g : ℕ → A) (z : A) (d : List A) → n ≤ length d → ((k : ℕ) → k < n → f k ≡ g k) → over n f z (take n d) ++ drop n d ≡ over n g z d
  over_front n f g z d h e =
      let long : n ≤ length (take n d) = omega (arith, length-take-le n d h) in
      ap (λ (x : List A). x ++ drop n d) (sym (upto_over n f z (take n d)))
      ∙ front n f (take n d) (drop n d) long
      ∙ ap (upto n f) (take-append-drop n d)
      ∙ same n f g d e
      ∙ upto_over n g z d

-- the m numbers behind the first n halved
pub halved : (n m : ℕ) (d : List Float) → n + m ≤ length d → put_mid n (n + m - n) d (map (λ (i : Float). i ⊗ half) (mid_of n (n + m - n) d)) ≡ interrupted n m d
unfolding over
halved n m d room =
    let e : n + m - n ≡ m = omega arith in
    let first : length (take n d) ≡ n = length-take-le n d (omega arith) in
    let rest : length (drop n d) ≡ length d - n = length-drop n d in
    let middle : length (take m (drop n d)) ≡ m = length-take-le m (drop n d) (omega arith) in
    let halves = map (λ (i : Float). i ⊗ half) (take m (drop n d)) in
    let long : length halves ≡ m = length-map (take m (drop n d)) (λ (i : Float). i ⊗ half) ∙ middle in
    let behind = λ (k : ℕ) (p : n ≤ k). get_or-append_right (take n d) (halves ++ drop m (drop n d)) n k nan first p in
    let at = λ (k : ℕ) (p : n ≤ k). (let there : n + (k - n) ≡ k = omega arith in get_or-drop n d (k - n) nan ∙ ap (of d) there) in
    rw e
    (is_tab (length d) _ nan _ (simp (length-append, length-map, first, middle, length-drop) (omega arith))
    (λ k l. ⊎_elim
    (λ p. rw (lt-ltb k n p, lt-ltb k (n + m) (omega arith)) (get_or-append (take n d) _ nan k (omega arith) ∙ get_or-take n d k nan p))
    (λ p. ⊎_elim
    (λ q. rw (le-ltb k n p, lt-ltb k (n + m) q)
    (behind k p
    ∙ get_or-append halves _ nan (k - n) (omega arith)
    ∙ get_or-map (λ (i : Float). i ⊗ half) (take m (drop n d)) (k - n) nan nan (omega arith)
    ∙ ap (λ (i : Float). i ⊗ half) (get_or-take m (drop n d) (k - n) nan (omega arith) ∙ at k p)))
    (λ q. rw (le-ltb k (n + m) q)
    (behind k p
    ∙ get_or-append_right halves (drop m (drop n d)) m (k - n) nan long (omega arith)
    ∙ get_or-drop m (drop n d) (k - n - m) nan
    ∙ (let there : m + (k - n - m) ≡ k - n = omega arith in ap (of (drop n d)) there)
    ∙ at k p))
    (lt_or_le k (n + m)))
    (lt_or_le k n)))

-- A loop that stores numbers from a position of a longer list on: after i turns the list is `sets d at (tab i f)`, d what it was before; and numbers that are copied to a place. Assumes nothing.
use Prim.Native.Nat.{ℕ, suc, ◌+◌, ◌-◌, ◌≤◌}
use native.Mathlib.Numerals.{add-one}
use native.Mathlib.Omega.{arith}
use mathlib.Core.Path.{◌≡◌, sym, ap, ◌∙◌}
use mathlib.Core.List.{List, [], ◌∷◌, ◌++◌, append_assoc}
use lib.ListN.{length, set, take, drop}
use lib.Seq.{sets, sets-eq, drop-drop}
use borrow.Rule.Slice.PartMut.{put_mid}
use Rattle.lists.specs.Tables.{tab}
use Rattle.lists.proofs.Fills.{length-tab}

module _ {A : Type 0} where
  -- one list after another
  pub sets_append : (xs ys d : List A) (at : ℕ) → sets d at (xs ++ ys) ≡ sets (sets d at xs) (at + length xs) ys
  sets_append [] ys d at = let e : at ≡ at + 0 = omega arith in ap (λ (k : ℕ). sets d k ys) e
  sets_append (x ∷ xs) ys d at =
      let e : suc at + length xs ≡ at + suc (length xs) = omega arith in
      sets_append xs ys (set d at x) (suc at) ∙ ap (λ (k : ℕ). sets (sets (set d at x) (suc at) xs) k ys) e

  -- the next one of a table
  pub sets_more : (f : ℕ → A) (d : List A) (at i : ℕ) {x : List A} {v : A} → x ≡ sets d at (tab i f) → v ≡ f i → set x (at + i) v ≡ sets d at (tab (i + 1) f)
  unfolding tab
  sets_more f d at i h e = rw (add-one, sets_append, length-tab {A = A} i f, h, e)

  -- n of them copied to their place
  pub put_sets : (n : ℕ) (d xs : List A) (at : ℕ) → at + n ≤ length d → length xs ≡ n → put_mid at (at + n - at) d xs ≡ sets d at xs
  put_sets n d xs at h e =
      let k : at + n - at ≡ n = omega arith in
      let q : drop (at + length xs) d ≡ drop (at + n - at) (drop at d) = rw (e, k) (sym (drop-drop n at d)) in
      sym (sets-eq xs d at (rw e h) ∙ ap (λ z. take at d ++ xs ++ z) q ∙ append_assoc (take at d) xs (drop (at + n - at) (drop at d)))

-- An array with the elements of a list in front: one element more, and what of it is looked at. Assumes nothing.
use Prim.Native.Nat.{ℕ, zero, suc, ◌+◌, ◌<◌, ◌≤◌}
use mathlib.Core.Path.{◌≡◌, refl, sym, ◌∙◌, ap}
use mathlib.Core.Bool.{Bool, true, false, cond}
use mathlib.Core.List.{List, [], ◌∷◌, ◌++◌, append_assoc}
use native.Mathlib.Omega.{arith}
use lib.Dec.{ltb}
use lib.ListN.{length, take, set, replicate, length-append}
use lib.Seq.{take-append-le, take-take, take_all}
use borrow.Author.Tests.{ltb-true, ltb-false}
use Rattle.lists.specs.Scans.{every}
use Rattle.lists.proofs.Scanning.{left, right, both}
use Rattle.whole_sheets.specs.Sheets.{laid}

module _ {A : Type 0} (z : A) where
  take-blank : (m k : ℕ) → m ≤ k → take m (replicate k z) ≡ replicate m z
  take-blank zero k h = refl
  take-blank (suc m) zero h = absurd (omega arith)
  take-blank (suc m) (suc k) h = ap {B = List A} (λ r. z ∷ r) (take-blank m k (omega arith))

  put_next : (x : A) (xs : List A) (m k : ℕ) → length xs < m → m ≤ length xs + k → take m (xs ++ (x ∷ replicate k z)) ≡ set (take m (xs ++ replicate k z)) (length xs) x
  put_next x [] zero k h e = absurd (omega arith)
  put_next x [] (suc m) zero h e = absurd (omega arith)
  put_next x [] (suc m) (suc k) h e = ap {B = List A} (λ r. x ∷ r) (take-blank m (suc k) (omega arith) ∙ sym (take-blank m k (omega arith)))
  put_next x (y ∷ ys) zero k h e = absurd (omega arith)
  put_next x (y ∷ ys) (suc m) k h e = ap {B = List A} (λ r. y ∷ r) (put_next x ys m k (omega arith) (omega arith))

  pub laid_more : (m : ℕ) (xs : List A) (x : A) → cond (ltb (length xs) m) (set (laid m z xs) (length xs) x) (laid m z xs) ≡ laid m z (xs ++ (x ∷ []))
  laid_more m xs x = go (ltb (length xs) m) refl
    where
      go : (t : Bool) → ltb (length xs) m ≡ t → cond t (set (laid m z xs) (length xs) x) (laid m z xs) ≡ laid m z (xs ++ (x ∷ []))
      go true e = sym (put_next x xs m m (ltb-true (length xs) m e) (omega arith)) ∙ ap (take m) (sym (append_assoc xs (x ∷ []) (replicate m z)))
      go false e =
          let h : m ≤ length xs = ltb-false (length xs) m e in
          take-append-le m xs (replicate m z) h
          ∙ sym (take-append-le m xs (x ∷ []) h)
          ∙ sym (take-append-le m (xs ++ (x ∷ [])) (replicate m z) (rw length-append (omega arith)))

every_front : {A : Type 0} (f : A → Bool) (n : ℕ) (xs : List A) → every f xs ≡ true → every f (take n xs) ≡ true
every_front f zero xs h = refl
every_front f (suc n) [] h = refl
every_front f (suc n) (x ∷ xs) h = both (f x) (every f (take n xs)) (left (f x) (every f xs) h) (every_front f n xs (right (f x) (every f xs) h))

-- the elements that an array has of the list, all passed
pub every-laid : {A : Type 0} (f : A → Bool) (m : ℕ) (z : A) (xs : List A) → every f xs ≡ true → every f (take (length xs) (laid m z xs)) ≡ true
every-laid f m z xs h = go (ltb (length xs) m) refl
  where
    go : (t : Bool) → ltb (length xs) m ≡ t → every f (take (length xs) (laid m z xs)) ≡ true
    go true e =
        let k : length xs < m = ltb-true (length xs) m e in
        ap (every f) (take-take (length xs) m (xs ++ replicate m z) (omega arith) ∙ take-append-le (length xs) xs (replicate m z) (omega arith) ∙ take_all (length xs) xs (omega arith)) ∙ h
    go false e =
        let k : m ≤ length xs = ltb-false (length xs) m e in
        ap (λ ys. every f (take (length xs) ys)) (take-append-le m xs (replicate m z) k) ∙ every_front f (length xs) (take m xs) (every_front f m xs h)

-- A scan of a list up to a count, at any element type and any test. Assumes nothing.
use Prim.Native.Nat.{ℕ, zero, suc, ◌+◌, ◌≤◌, ◌<◌, min}
use native.Mathlib.Nat.{not-suc-le-zero, le_of_suc-le-suc, eq-or-lt_of_le}
use native.Mathlib.Numerals.{add-one}
use native.Mathlib.Omega.{arith}
use borrow.Author.Tests.{lt-ltb}
use mathlib.Core.Path.{◌≡◌, refl, sym, ap, ◌∙◌}
use mathlib.Core.Logic.{⊎_elim}
use mathlib.Core.Bool.{Bool, true, false, not, ◌&&◌, ◌||◌}
use mathlib.Core.List.{List, [], ◌∷◌, map}
use lib.Dec.{ltb, leb-suc-suc}
use lib.ListN.{length, get_or, take, length-map, length-take}
use Rattle.lists.specs.Scans.{every, passing, some}
use Rattle.lists.proofs.Counting.{by-test}

pub and_second : (a b : Bool) → b ≡ false → (a && b) ≡ false
and_second true b h = h
and_second false b h = refl

pub and_first : (a b : Bool) → a ≡ false → (a && b) ≡ false
and_first a b h = rw h

pub or_second : (a b : Bool) → b ≡ true → (a || b) ≡ true
or_second true b h = refl
or_second false b h = h

pub both : (a b : Bool) → a ≡ true → b ≡ true → (a && b) ≡ true
both a b h k = rw (h, k)

pub left : (a b : Bool) → (a && b) ≡ true → a ≡ true
left true b h = refl
left false b h = h

pub right : (a b : Bool) → (a && b) ≡ true → b ≡ true
right true b h = h
right false b h = let z : true ≡ false = sym h in cc

module _ {A : Type 0} (f : A → Bool) (d : A) where
  -- an element that fails, within the count
  pub bad : (xs : List A) (i n : ℕ) → i < n → i < length xs → f (get_or xs i d) ≡ false → every f (take n xs) ≡ false
  bad [] i n h k e = absurd (not-suc-le-zero k)
  bad (x ∷ xs) i zero h k e = absurd (not-suc-le-zero h)
  bad (x ∷ xs) zero (suc n) h k e = and_first (f x) (every f (take n xs)) e
  bad (x ∷ xs) (suc i) (suc n) h k e = and_second (f x) (every f (take n xs)) (bad xs i n (le_of_suc-le-suc h) (le_of_suc-le-suc k) e)

  more_suc : (xs : List A) (i : ℕ) → i < length xs → every f (take i xs) ≡ true → f (get_or xs i d) ≡ true → every f (take (suc i) xs) ≡ true
  more_suc [] i k p e = absurd (not-suc-le-zero k)
  more_suc (x ∷ xs) zero k p e = both (f x) true e refl
  more_suc (x ∷ xs) (suc i) k p e =
      both (f x) (every f (take (suc i) xs)) (left (f x) (every f (take i xs)) p)
      (more_suc xs i (le_of_suc-le-suc k) (right (f x) (every f (take i xs)) p) e)

  -- one more element that passes
  pub more : (xs : List A) (i : ℕ) → i < length xs → every f (take i xs) ≡ true → f (get_or xs i d) ≡ true → every f (take (i + 1) xs) ≡ true
  more xs i k p e = rw add-one (more_suc xs i k p e)

  -- what all elements pass, and the one that is read past the end, passes wherever it is read
  pub passed : (xs : List A) (k : ℕ) → f d ≡ true → every f xs ≡ true → f (get_or xs k d) ≡ true
  passed [] k e p = e
  passed (x ∷ xs) zero e p = left (f x) (every f xs) p
  passed (x ∷ xs) (suc k) e p = passed xs k e (right (f x) (every f xs) p)

  -- the first that fails, at i within the count, is where the scan stops
  pub passing_at : (xs : List A) (i n : ℕ) → i < n → i < length xs → every f (take i xs) ≡ true → f (get_or xs i d) ≡ false → passing f (take n xs) ≡ i
  passing_at [] i n h k p e = absurd (not-suc-le-zero k)
  passing_at (x ∷ xs) i zero h k p e = absurd (not-suc-le-zero h)
  passing_at (x ∷ xs) zero (suc n) h k p e = rw e
  passing_at (x ∷ xs) (suc i) (suc n) h k p e =
      rw (left (f x) (every f (take i xs)) p) (ap suc (passing_at xs i n (le_of_suc-le-suc h) (le_of_suc-le-suc k) (right (f x) (every f (take i xs)) p) e))

-- what passes one test passes another that asks for less
pub every_of : {A : Type 0} (f h : A → Bool) → ((x : A) → f x ≡ true → h x ≡ true) → (xs : List A) → every f xs ≡ true → every h xs ≡ true
every_of f h i [] p = refl
every_of f h i (x ∷ xs) p = both (h x) (every h xs) (i x (left (f x) (every f xs) p)) (every_of f h i xs (right (f x) (every f xs) p))

-- how many a count takes
pub length_cut : {A : Type 0} (xs : List A) (n m k : ℕ) → length xs ≡ m → k ≡ min n m → k ≡ length (take n xs)
length_cut xs n m k l e = rw (length-take, l) e

module _ {A : Type 0} (f : A → Bool) where
  -- all of a list that passes is passing
  pub passing_all : (xs : List A) → every f xs ≡ true → passing f xs ≡ length xs
  passing_all [] p = refl
  passing_all (x ∷ xs) p = rw (left (f x) (every f xs) p) (ap suc (passing_all xs (right (f x) (every f xs) p)))

  -- the scan stops early exactly where not all pass
  pub passing_short : (ys : List A) → ltb (passing f ys) (length ys) ≡ not (every f ys)
  passing_short [] = refl
  passing_short (y ∷ ys) = by-test (f y) (λ e. rw e (leb-suc-suc (suc (passing f ys)) (length ys) ∙ passing_short ys)) (λ e. rw e (lt-ltb 0 (suc (length ys)) (omega arith)))

-- the length of an array of structs, as owning it tells
pub unmapped : {A B : Type 0} (f : A → B) (l : List A) (n : ℕ) → length (map f l) ≡ n → length l ≡ n
unmapped f l n h = sym (length-map l f) ∙ h

module _ (f : ℕ → Bool) where
  -- one that holds, below the count
  pub some_found : (n i : ℕ) → i < n → f i ≡ true → some n f ≡ true
  some_found zero i l h = absurd (not-suc-le-zero l)
  some_found (suc n) i l h =
      ⊎_elim
      (λ e. or_second (some n f) (f n) (rw (← e) h))
      (λ lt. rw (some_found n i lt h))
      (eq-or-lt_of_le (le_of_suc-le-suc l))

  -- one more that does not
  pub some_none : (i : ℕ) → some i f ≡ false → f i ≡ false → some (i + 1) f ≡ false
  some_none i p h = rw (add-one, p, h)

-- two tests that agree below the count
pub some_same : (f g : ℕ → Bool) (n : ℕ) → ((k : ℕ) → k < n → f k ≡ g k) → some n f ≡ some n g
some_same f g zero h = refl
some_same f g (suc n) h = rw (some_same f g n (λ k l. h k (omega arith)), h n (omega arith))

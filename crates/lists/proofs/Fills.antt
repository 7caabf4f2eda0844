-- A loop that fills an array from the front: after i turns the array is `upto i f d`, d what it was before. Assumes nothing.
use mathlib.Core.Path.{◌≡◌, refl, sym, ap, ◌∙◌}
use mathlib.Core.Bool.{cond}
use mathlib.Core.Logic.{⊎_elim}
use mathlib.Core.List.{List, [], ◌∷◌}
use Prim.Native.Nat.{ℕ, zero, suc, ◌+◌, ◌≤◌, ◌<◌}
use native.Mathlib.Nat.{not-suc-le-zero, eq-or-lt_of_le, le_of_suc-le-suc}
use native.Mathlib.Numerals.{add-one}
use native.Mathlib.Omega.{arith}
use borrow.Author.Tests.{lt-ltb, le-ltb}
use lib.Dec.{ltb}
use lib.ListN.{length, get_or, set, replicate, length-set, length-append, length-replicate, get_or-replicate, get_or-append}
use lib.Seq.{get_or-set_same, get_or-set_other, ext_get_or, get_or_at}
use Rattle.lists.specs.Tables.{tab, blank, over, padded}
use Rattle.lists.proofs.Counting.{lt_or_le}

module _ {ℓ} {A : Type ℓ} where
  -- the first n elements of d replaced by f 0, .., f (n - 1), by stores in order
  unfoldable pub upto : ℕ → (ℕ → A) → List A → List A
  upto zero f d = d
  upto (suc n) f d = set (upto n f d) n (f n)

  pub upto_none : (f : ℕ → A) (d : List A) → d ≡ upto 0 f d
  unfolding upto
  upto_none f d = refl

  -- one store more
  pub upto_more : (f : ℕ → A) (d : List A) {x : List A} {v : A} (i : ℕ) → x ≡ upto i f d → v ≡ f i → set x i v ≡ upto (i + 1) f d
  unfolding upto
  upto_more f d i e h = rw (add-one, e, h)

  -- an array that is z everywhere has its first element as it is to be, where that is z
  pub upto_first : (m : ℕ) (f : ℕ → A) (z : A) → f 0 ≡ z → blank m z ≡ upto 1 f (blank m z)
  unfolding upto blank
  upto_first zero f z e = refl
  upto_first (suc m) f z e = rw e

  pub length_upto : (n : ℕ) (f : ℕ → A) (d : List A) → length (upto n f d) ≡ length d
  unfolding upto
  length_upto zero f d = refl
  length_upto (suc n) f d = length-set (upto n f d) n (f n) ∙ length_upto n f d

  pub get_d_upto_in : (n : ℕ) (f : ℕ → A) (d : List A) (z : A) (k : ℕ) → k < n → k < length d → get_or (upto n f d) k z ≡ f k
  unfolding upto
  get_d_upto_in zero f d z k l m = absurd (not-suc-le-zero l)
  get_d_upto_in (suc n) f d z k l m =
      ⊎_elim
      (λ e. rw e (get_or-set_same (upto n f d) n (f n) z (rw (length_upto n f d, ← e) m)))
      (λ lt. get_or-set_other (upto n f d) n k (f n) z (λ e. omega arith) ∙ get_d_upto_in n f d z k lt m)
      (eq-or-lt_of_le (le_of_suc-le-suc l))

  pub get_d_upto_out : (n : ℕ) (f : ℕ → A) (d : List A) (z : A) (k : ℕ) → n ≤ k → get_or (upto n f d) k z ≡ get_or d k z
  unfolding upto
  get_d_upto_out zero f d z k l = refl
  get_d_upto_out (suc n) f d z k l =
      get_or-set_other (upto n f d) n k (f n) z (λ e. omega arith) ∙ get_d_upto_out n f d z k (omega arith)

  pub length-tab : (n : ℕ) (f : ℕ → A) → length (tab n f) ≡ n
  unfolding tab
  length-tab zero f = refl
  length-tab (suc n) f = length-append (tab n f) _ ∙ omega (arith, length-tab n f)

  pub get_d_tab : (n : ℕ) (f : ℕ → A) (z : A) (k : ℕ) → k < n → get_or (tab n f) k z ≡ f k
  unfolding tab
  get_d_tab zero f z k l = absurd (not-suc-le-zero l)
  get_d_tab (suc n) f z k l =
      ⊎_elim
      (λ e. rw e (get_or_at (tab n f) (f n) [] z n (length-tab n f)))
      (λ lt. get_or-append (tab n f) _ z k (rw length-tab lt) ∙ get_d_tab n f z k lt)
      (eq-or-lt_of_le (le_of_suc-le-suc l))

  -- a list of n elements with f's at each index is tab n f
  pub is_tab : (n : ℕ) (f : ℕ → A) (z : A) (x : List A) → length x ≡ n → ((k : ℕ) → k < n → get_or x k z ≡ f k) → x ≡ tab n f
  is_tab n f z x e h = ext_get_or z x (tab n f) (e ∙ sym (length-tab n f)) (λ k l. h k (rw e at l) ∙ sym (get_d_tab n f z k (rw e at l)))

  -- an array of which the first n elements are written
  pub upto_over : (n : ℕ) (f : ℕ → A) (z : A) (d : List A) → upto n f d ≡ over n f z d
  unfolding over
  upto_over n f z d =
      is_tab (length d) (λ i. cond (ltb i n) (f i) (get_or d i z)) z (upto n f d) (length_upto n f d)
      (λ k lk. ⊎_elim
      (λ a. rw (lt-ltb k n a) (get_d_upto_in n f d z k a lk))
      (λ b. rw (le-ltb k n b) (get_d_upto_out n f d z k b))
      (lt_or_le k n))

  pub length_over : (n : ℕ) (f : ℕ → A) (z : A) (d : List A) → length (over n f z d) ≡ length d
  unfolding over
  length_over n f z d = length-tab (length d) _

  pub length-blank : (n : ℕ) (z : A) → length (blank n z) ≡ n
  unfolding blank
  length-blank n z = length-replicate n z

  -- the same said of each index: one store more
  pub points_more : (z : A) (f : ℕ → A) (x : List A) (v : A) (i : ℕ) → i < length x
      → ((j : ℕ) → j < i → get_or x j z ≡ f j) → v ≡ f i → (j : ℕ) → j < i + 1 → get_or (set x i v) j z ≡ f j
  points_more z f x v i l all h j m =
      ⊎_elim
      (λ e. rw e (get_or-set_same x i v z l ∙ h))
      (λ lt. get_or-set_other x i j v z (λ e. omega arith) ∙ all j lt)
      (eq-or-lt_of_le (let q : j ≤ i = omega arith in q))

  -- two tables that agree at each index
  pub tab_same : (n : ℕ) (f g : ℕ → A) → ((k : ℕ) → k < n → f k ≡ g k) → tab n f ≡ tab n g
  unfolding tab
  tab_same zero f g h = refl
  tab_same (suc n) f g h = rw (tab_same n f g (λ k l. h k (omega arith)), h n (omega arith))

  -- a filled array of which the rest is as it was made
  pub upto_padded : (n m : ℕ) (f : ℕ → A) (z : A) → n ≤ m → upto n f (blank m z) ≡ padded m n f z
  unfolding padded blank
  upto_padded n m f z l =
      is_tab m (λ i. cond (ltb i n) (f i) z) z (upto n f (replicate m z)) (length_upto n f _ ∙ length-replicate m z)
      (λ k lk. ⊎_elim
      (λ a. rw (lt-ltb k n a) (get_d_upto_in n f (replicate m z) z k a (rw length-replicate lk)))
      (λ b. rw (le-ltb k n b) (get_d_upto_out n f (replicate m z) z k b ∙ get_or-replicate m k z z lk))
      (lt_or_le k n))

  pub get_d_padded : (m n : ℕ) (f : ℕ → A) (z d : A) (k : ℕ) → k < n → n ≤ m → get_or (padded m n f z) k d ≡ f k
  unfolding padded
  get_d_padded m n f z d k l h = get_d_tab m _ d k (omega arith) ∙ rw (lt-ltb k n l)

  -- past the count
  pub get_d_rest : (m n : ℕ) (f : ℕ → A) (z d : A) (k : ℕ) → n ≤ k → k < m → get_or (padded m n f z) k d ≡ z
  unfolding padded
  get_d_rest m n f z d k l h = get_d_tab m _ d k h ∙ rw (le-ltb k n l)

  pub padded_same : (m n : ℕ) (f g : ℕ → A) (z : A) → ((k : ℕ) → k < n → f k ≡ g k) → padded m n f z ≡ padded m n g z
  unfolding padded
  padded_same m n f g z h =
      tab_same m (λ i. cond (ltb i n) (f i) z) (λ i. cond (ltb i n) (g i) z)
      (λ k lk. ⊎_elim (λ a. rw (lt-ltb k n a) (h k a)) (λ b. rw (le-ltb k n b)) (lt_or_le k n))

  -- the first s of an array that is padded from n on or before, replaced
  pub over_longer : (m n s : ℕ) (f g : ℕ → A) (z d : A) → n ≤ s → over s g d (padded m n f z) ≡ padded m s g z
  unfolding over padded
  over_longer m n s f g z d l =
      rw (length-tab m (λ i. cond (ltb i n) (f i) z))
      (tab_same m (λ i. cond (ltb i s) (g i) (get_or (tab m (λ q. cond (ltb q n) (f q) z)) i d)) (λ i. cond (ltb i s) (g i) z)
      (λ k lk. ⊎_elim
      (λ a. rw (lt-ltb k s a))
      (λ b. rw (le-ltb k s b) (get_d_tab m (λ q. cond (ltb q n) (f q) z) d k lk ∙ rw (le-ltb k n (let h : n ≤ k = omega arith in h))))
      (lt_or_le k s)))

  pub over-padded : (m n : ℕ) (f g : ℕ → A) (z d : A) → over n g d (padded m n f z) ≡ padded m n g z
  over-padded m n f g z d = over_longer m n n f g z d (omega arith)

  -- each of them replaced by what it is
  pub over_each : (m n : ℕ) (f : ℕ → A) (g : ℕ → A → A) (z d : A) → n ≤ m → over n (λ i. g i (get_or (padded m n f z) i d)) d (padded m n f z) ≡ padded m n (λ i. g i (f i)) z
  over_each m n f g z d l = over-padded m n f _ z d ∙ padded_same m n _ (λ i. g i (f i)) z (λ k lk. ap (g k) (get_d_padded m n f z d k lk l))

  -- only the first n of s replaced
  pub over_within : (m n s : ℕ) (f g : ℕ → A) (z d : A) → n ≤ s → over n g d (padded m s f z) ≡ padded m s (λ i. cond (ltb i n) (g i) (get_or (padded m s f z) i d)) z
  unfolding over padded
  over_within m n s f g z d l =
      let e : ℕ → A = λ q. cond (ltb q s) (f q) z in
      rw (length-tab m e)
      (tab_same m (λ i. cond (ltb i n) (g i) (get_or (tab m e) i d)) (λ i. cond (ltb i s) (cond (ltb i n) (g i) (get_or (tab m e) i d)) z)
      (λ k lk. ⊎_elim
      (λ a. rw (lt-ltb k s a))
      (λ b. rw (le-ltb k n (let h : n ≤ k = omega arith in h), le-ltb k s b) (get_d_tab m e d k lk ∙ rw (le-ltb k s b)))
      (lt_or_le k s)))

  -- an array that is z everywhere
  pub blank-padded : (m n : ℕ) (z : A) → blank m z ≡ padded m n (λ i. z) z
  unfolding blank padded
  blank-padded m n z =
      is_tab m (λ i. cond (ltb i n) z z) z (replicate m z) (length-replicate m z)
      (λ k lk. get_or-replicate m k z z lk ∙ ⊎_elim (λ a. rw (lt-ltb k n a)) (λ b. rw (le-ltb k n b)) (lt_or_le k n))

  -- what is read within a list does not depend on what is read past its end
  pub get_d_within : (x : List A) (k : ℕ) (d e : A) → k < length x → get_or x k d ≡ get_or x k e
  get_d_within [] k d e l = absurd (not-suc-le-zero l)
  get_d_within (y ∷ ys) zero d e l = refl
  get_d_within (y ∷ ys) (suc k) d e l = get_d_within ys k d e (le_of_suc-le-suc l)

  -- stores of what stood there
  pub upto_kept : (n : ℕ) (f : ℕ → A) (z : A) (d : List A) → ((k : ℕ) → k < n → f k ≡ get_or d k z) → d ≡ upto n f d
  upto_kept n f z d h =
      ext_get_or z d (upto n f d) (sym (length_upto n f d))
      (λ k lk. ⊎_elim
      (λ a. sym (h k a) ∙ sym (get_d_upto_in n f d z k a lk))
      (λ b. sym (get_d_upto_out n f d z k b))
      (lt_or_le k n))

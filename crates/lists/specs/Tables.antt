-- Lists by their elements. Definitions only.
-- They are shut (`unfoldable`): a list of 96 elements is not to be written out wherever it stands.
use Rattle.std.specs.Prelude.{ℕ, zero, suc, cond, List, [], ◌∷◌, ◌++◌, ltb, length, get_or, replicate}

module _ {ℓ} {A : Type ℓ} where
  -- f 0, f 1, .., f (n - 1)
  unfoldable pub tab : ℕ → (ℕ → A) → List A
  tab zero f = []
  tab (suc n) f = tab n f ++ (f n ∷ [])

  -- n elements, each z: an array `[z; n]`
  unfoldable pub blank : ℕ → A → List A
  blank n z = replicate n z

  -- d with its first n elements replaced by f 0, .., f (n - 1). What is past the end of d is left off. z is the element that is read past an end.
  unfoldable pub over : ℕ → (ℕ → A) → A → List A → List A
  over n f z d = tab (length d) (λ i. cond (ltb i n) (f i) (get_or d i z))

  -- an array of m: f 0, .., f (n - 1), and z from there on
  unfoldable pub padded : ℕ → ℕ → (ℕ → A) → A → List A
  padded m n f z = tab m (λ i. cond (ltb i n) (f i) z)

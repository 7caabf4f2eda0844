-- Lists gone through from the front. Definitions only.
use Rattle.std.specs.Prelude.{ℕ, zero, suc, Bool, true, false, not, ◌&&◌, ◌||◌, cond, List, [], ◌∷◌}

module _ {A : Type 0} (f : A → Bool) where
  -- f passes each element
  abbrev pub every : List A → Bool
  every [] = true
  every (x ∷ xs) = f x && every xs

  -- how many elements pass before the first that fails, so that this is its position; all of them where none fails
  abbrev pub passing : List A → ℕ
  passing [] = 0
  passing (x ∷ xs) = cond (f x) (suc (passing xs)) 0

-- f holds of one of 0, 1, .., n - 1
abbrev pub some : ℕ → (ℕ → Bool) → Bool
some zero f = false
some (suc n) f = some n f || f n

-- and of each of them: it fails of none
abbrev pub each : ℕ → (ℕ → Bool) → Bool
each n f = not (some n (λ i. not (f i)))

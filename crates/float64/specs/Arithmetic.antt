-- Every + - * / is rounded once: the operations in a circle. Definitions only.
use Rattle.std.specs.Prelude.{ℕ, zero, suc, List, get_or, Float}
use Rattle.std.specs.Float.{nan, binary64}
use Rattle.std.specs.Float.Ieee.{add, sub, mul, div}
use Rattle.float64.specs.Constants.{nought}

infixl 60 ◌⊕◌
infixl 60 ◌⊖◌
infixl 70 ◌⊗◌
infixl 70 ◌⊘◌
abbrev pub ◌⊕◌ : Float → Float → Float
x ⊕ y = add binary64 x y

abbrev pub ◌⊖◌ : Float → Float → Float
x ⊖ y = sub binary64 x y

abbrev pub ◌⊗◌ : Float → Float → Float
x ⊗ y = mul binary64 x y

abbrev pub ◌⊘◌ : Float → Float → Float
x ⊘ y = div binary64 x y

-- `powi(2)` is v times v
abbrev pub squared : Float → Float
squared v = v ⊗ v

-- the number that stands at a position of an array
abbrev pub of : List Float → ℕ → Float
of v i = get_or v i nan

-- s and then f 0, f 1, .., f (n - 1), added one after the other
abbrev pub added_up : Float → (ℕ → Float) → ℕ → Float
added_up s f zero = s
added_up s f (suc n) = added_up s f n ⊕ f n

-- `sum` starts at zero
abbrev pub sum_of : (ℕ → Float) → ℕ → Float
sum_of f n = added_up nought f n

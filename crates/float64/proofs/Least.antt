-- The smaller of two doubles, neither a NaN: it is one of them, and at most each. Assumes nothing.
use mathlib.Core.Path.{◌≡◌, ◌∙◌}
use mathlib.Core.Logic.{◌⊎◌, inl, inr}
use mathlib.Core.Bool.{true, false, not}
use lib.Dec.{T}
use lib.Ieee.Bits.{is_false}
use lib.Ieee.{Float, is_nan, ne, lt, le}
use Rattle.lists.proofs.Counting.{by-test}
use Rattle.float64.specs.Choice.{min_of}
use Rattle.float64.proofs.Order.{le_of_not_lt, le_of_lt, le-refl_float}
use Rattle.float64.proofs.Tests.{ne_self}
use Rattle.float64.proofs.Choosing.{min_is}

module _ (a b : Float) (A : T (not (is_nan a))) (B : T (not (is_nan b))) where
  number : ne a a ≡ false
  number = ne_self a ∙ is_false (is_nan a) A

  second : lt b a ≡ true → min_of a b ≡ b
  second h = rw (min_is a b, number, h)

  first : lt b a ≡ false → min_of a b ≡ a
  first h = rw (min_is a b, number, h)

  pub min-one_of : (min_of a b ≡ a) ⊎ (min_of a b ≡ b)
  min-one_of = by-test (lt b a) (λ h. inr (second h)) (λ h. inl (first h))

  pub min-le_first : T (le (min_of a b) a)
  min-le_first = by-test (lt b a) (λ h. rw (second h) (le_of_lt b a h)) (λ h. rw (first h) (le-refl_float a A))

  pub min-le_second : T (le (min_of a b) b)
  min-le_second = by-test (lt b a) (λ h. rw (second h) (le-refl_float b B)) (λ h. rw (first h) (le_of_not_lt b a B A h))

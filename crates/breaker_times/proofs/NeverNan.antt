-- The fastest time so far is never a NaN, whatever the breakers' times are: one comparison takes the smaller. Assumes nothing.
use mathlib.Core.Path.{◌≡◌, sym, subst}
use mathlib.Core.Bool.{true, not, cond, true≢false}
use mathlib.Core.List.{List, [], ◌∷◌, foldl}
use lib.Dec.{T}
use lib.Ieee.Bits.{is_false}
use lib.Ieee.{Float, nan, inf, fin, is_nan, lt, of_bits}
use Rattle.lists.proofs.Counting.{by-test}
use Rattle.float64.specs.Choice.{min_of}
use Rattle.float64.proofs.Tests.{ne_self}
use Rattle.float64.proofs.Choosing.{min_is}
use Rattle.grid.specs.declared.parts.DcBreaker.{DcBreaker}
use Rattle.breaker_times.specs.Breakers.{time_of, faster, largest}

-- what is below something is a number
pub number : (t c : Float) → lt t c ≡ true → T (not (is_nan t))
unfolding lt is_nan
number nan c h = absurd (true≢false (sym h))
number (inf s) c h = tt
number (fin s m e) c h = tt

pub largest-number : T (not (is_nan largest))
unfolding of_bits is_nan
largest-number = tt

pub by_one_test : (t a : Float) → T (not (is_nan a)) → cond (lt t a) t a ≡ min_of a t
by_one_test t a A = sym (rw (min_is a t, ne_self a, is_false (is_nan a) A))

-- the smaller is no NaN either: what is below a is a number
kept : (t a : Float) → T (not (is_nan a)) → T (not (is_nan (min_of a t)))
kept t a A = subst (λ (x : Float). T (not (is_nan x))) (by_one_test t a A) (by-test (lt t a) (λ h. rw h (number t a h)) (λ h. rw h A))

pub never_nan : (bs : List DcBreaker) → T (not (is_nan (foldl faster largest bs)))
never_nan bs = from bs largest largest-number
  where
    from : (bs : List DcBreaker) (t : Float) → T (not (is_nan t)) → T (not (is_nan (foldl faster t bs)))
    from [] t N = N
    from (b ∷ bs) t N = from bs (min_of t (time_of b)) (kept (time_of b) t N)

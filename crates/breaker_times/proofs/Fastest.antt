-- The fastest of a list of breakers whose times are numbers below the largest double. Assumes nothing.
use Prim.Native.Nat.{suc, ◌<◌}
use native.Mathlib.Omega.{arith}
use mathlib.Core.Path.{◌≡◌, refl, sym, ◌∙◌, subst}
use mathlib.Core.Logic.{◌⊎◌, inl, inr, ⊎_elim}
use mathlib.Core.Bool.{true, not}
use mathlib.Core.List.{List, [], ◌∷◌, foldl}
use lib.Dec.{T, eqb}
use lib.ListN.{length}
use lib.Ieee.{Float, is_nan, le}
use lib.Ieee.Bits.{is_true}
use borrow.Author.Tests.{eqb-true, eq-eqb}
use Rattle.lists.specs.Scans.{every}
use Rattle.lists.proofs.Counting.{by-test}
use Rattle.lists.proofs.Scanning.{left, right, both}
use Rattle.float64.specs.Choice.{min_of}
use Rattle.float64.proofs.Order.{le_trans_float, le-refl_float, lt_not_le}
use Rattle.float64.proofs.Least.{min-one_of, min-le_first, min-le_second}
use Rattle.grid.specs.Simulator.{breakers_of}
use Rattle.grid.specs.declared.parts.DcBreaker.{DcBreaker}
use Rattle.grid.specs.declared.simulator.DcSwitchingSimulator.{DcSwitchingSimulator}
use Rattle.breaker_times.proofs.NeverNan.{number, largest-number}
use Rattle.timing.specs.Steps.{duration_ms}
use Rattle.breaker_times.specs.Breakers.{time_of, faster, largest, fastest_of}
use Rattle.breaker_times.specs.Claims.{HasTime, timed, BreakerClaims}

min-number : (a b : Float) → T (not (is_nan a)) → T (not (is_nan b)) → T (not (is_nan (min_of a b)))
min-number a b A B = ⊎_elim (λ e. subst (λ (x : Float). T (not (is_nan x))) (sym e) A) (λ e. subst (λ (x : Float). T (not (is_nan x))) (sym e) B) (min-one_of a b A B)

record Least (t : Float) (bs : List DcBreaker) (r : Float) : Type 0 where
  most : T (le r t)
  each : every (λ b. le r (time_of b)) bs ≡ true

least : (bs : List DcBreaker) (t : Float) → T (not (is_nan t)) → every timed bs ≡ true → Least t bs (foldl faster t bs)
least [] t N p = record { most = le-refl_float t N; each = refl }
least (b ∷ bs) t N p =
    let B = number (time_of b) largest (left (timed b) (every timed bs) p) in
    let r = foldl faster (min_of t (time_of b)) bs in
    let k = least bs (min_of t (time_of b)) (min-number t (time_of b) N B) (right (timed b) (every timed bs) p) in
    record {
      most = le_trans_float r (min_of t (time_of b)) t k.most (min-le_first t (time_of b) N B);
      each = both (le r (time_of b)) (every (λ c. le r (time_of c)) bs) (is_true (le r (time_of b)) (le_trans_float r (min_of t (time_of b)) (time_of b) k.most (min-le_second t (time_of b) N B))) k.each;
    }

later : (b : DcBreaker) (bs : List DcBreaker) (t : Float) → HasTime bs t → HasTime (b ∷ bs) t
later b bs t h = record { position = suc h.position; within = (let l = h.within in omega arith); same = h.same }

one_of : (bs : List DcBreaker) (t : Float) → T (not (is_nan t)) → every timed bs ≡ true → (foldl faster t bs ≡ t) ⊎ HasTime bs (foldl faster t bs)
one_of [] t N p = inl refl
one_of (b ∷ bs) t N p =
    let B = number (time_of b) largest (left (timed b) (every timed bs) p) in
    ⊎_elim
    (λ e. ⊎_elim (λ f. inl (e ∙ f)) (λ f. inr (record { position = 0; within = omega arith; same = sym (e ∙ f) })) (min-one_of t (time_of b) N B))
    (λ h. inr (later b bs (foldl faster (min_of t (time_of b)) bs) h))
    (one_of bs (min_of t (time_of b)) (min-number t (time_of b) N B) (right (timed b) (every timed bs) p))

-- a list with breakers in it has one that is below the largest double
attained : (bs : List DcBreaker) → every timed bs ≡ true → 0 < length bs → HasTime bs (foldl faster largest bs)
attained [] p l = absurd (none l)
  where
    none : 0 < 0 → ⊥
    none h = omega arith
attained (b ∷ bs) p l =
    let r = foldl faster largest (b ∷ bs) in
    ⊎_elim
    (λ e. absurd (lt_not_le (time_of b) largest (left (timed b) (every timed bs) p)
    (subst (λ (x : Float). T (le x (time_of b))) e (subst T (sym (left (le r (time_of b)) (every (λ c. le r (time_of c)) bs) (least (b ∷ bs) largest largest-number p).each)) tt))))
    (λ h. h)
    (one_of (b ∷ bs) largest largest-number p)

no_breakers : (g : DcSwitchingSimulator) → g.n_breakers ≡ 0 → fastest_of g ≡ duration_ms g
unfolding fastest_of
no_breakers g e = rw (eq-eqb g.n_breakers 0 e)

all_slower : (g : DcSwitchingSimulator) → every timed (breakers_of g) ≡ true → every (λ b. le (fastest_of g) (time_of b)) (breakers_of g) ≡ true
unfolding fastest_of
all_slower g p =
    by-test (eqb g.n_breakers 0)
    (λ e. rw (eqb-true g.n_breakers 0 e))
    (λ e. rw e (least (breakers_of g) largest largest-number p).each)

has_time : (g : DcSwitchingSimulator) → every timed (breakers_of g) ≡ true → 0 < length (breakers_of g) → HasTime (breakers_of g) (fastest_of g)
unfolding fastest_of
has_time g p l =
    by-test (eqb g.n_breakers 0)
    (λ e. absurd (empty (rw (eqb-true g.n_breakers 0 e) at l)))
    (λ e. rw e (attained (breakers_of g) p l))
  where
    empty : 0 < 0 → ⊥
    empty h = omega arith

pub breaker_claims : BreakerClaims
breaker_claims = record { none_faster = all_slower; one_of_them = has_time; without = no_breakers }

-- For t ≤ 0, E t lies between 0 and 1. Assumes nothing.
use mathlib.Core.Path.{◌≡◌, refl, sym, subst}
use mathlib.Core.Logic.{inl, inr}
use mathlib.Core.Bool.{Bool, true, false, cond, true≢false}
use Prim.Native.Nat.{ℕ, zero, suc, ◌*◌, ◌≤◌, ◌<◌}
use native.Mathlib.Nat.{zero-lt-suc, mul-pos}
use native.Mathlib.Omega.{arith}
use borrow.Author.Tests.{ltb-false}
use lib.IntN.{pos}
use lib.Dec.{T, lit<}
use lib.Ieee.{Float, nan, inf, fin, binary64, up, down, lt, le, neg, of_bits, of_int, round, add, mul, div}
use lib.Ieee.Fits.{down_pos}
use lib.Ieee.Order.{round_mono}
use Rattle.float64.specs.Constants.{nought, one, k700, k1024}
use Rattle.elementary.specs.Exponential.{term, terms, squared, E}
use Rattle.float64.proofs.Unit as U
use Rattle.float64.proofs.Unit.{Small, Within, within_of_small, mul_small, mul_within, div_within, one_plus, small_le, round_within, round-one}
use Rattle.float64.proofs.Order.{lt_or_eq}

one_is : one ≡ U.one
unfolding of_bits
one_is = refl

-- a whole number above 0 is 1 or more
whole_ge : (k : ℕ) → 0 < k → T (le U.one (of_int binary64 (pos k)))
unfolding of_int
whole_ge k h = subst (λ (z : Float). T (le z (round binary64 false k 1))) (round-one binary64) (round_mono binary64 1 1 k 1 (lit< tt) (lit< tt) (omega arith))

term_small : (k : ℕ) (y p : Float) → 0 < k → Within true y → Small false p → Small false (term k y p)
term_small k y p h Y P =
    subst (λ (o : Float). Small false (add binary64 o (div binary64 (mul binary64 y p) (of_int binary64 (pos k))))) (sym one_is)
    (one_plus binary64 (div binary64 (mul binary64 y p) (of_int binary64 (pos k)))
    (div_within binary64 true (mul binary64 y p) (of_int binary64 (pos k)) (mul_within binary64 true false y p Y (within_of_small p false P)) (whole_ge k h)))

terms_small : (k : ℕ) (y p : Float) → Within true y → Small false p → Small false (terms k y p)
unfolding terms
terms_small zero y p Y P = P
terms_small (suc k) y p Y P = terms_small k y (term (suc k) y p) Y (term_small (suc k) y p (zero-lt-suc k) Y P)

squared_small : (j : ℕ) (p : Float) → Small false p → Small false (squared j p)
unfolding squared
squared_small zero p P = P
squared_small (suc j) p P = squared_small j (mul binary64 p p) (mul_small binary64 false false p p P P)

scaled_within : (t : Float) → T (le t nought) → lt t (neg k700) ≡ false → Within true (div binary64 t k1024)
unfolding le lt of_bits neg div
scaled_within nan h k = absurd h
scaled_within (inf true) h k = absurd (true≢false k)
scaled_within (inf false) h k = absurd h
scaled_within (fin true m e) h k =
    let a : m * up e * 1 ≤ 700 * down e = ltb-false (700 * down e) (m * up e * 1) k in
    round_within binary64 true true (m * up e * 1) (1024 * down e) (mul-pos (lit< tt) (down_pos e)) (omega arith) (inl refl)
scaled_within (fin false m e) h k =
    let a : m * up e * 1 ≤ 0 * down e = lt_or_eq (m * up e * 1) (0 * down e) true h in
    round_within binary64 false true (m * up e * 1) (1024 * down e) (mul-pos (lit< tt) (down_pos e)) (omega arith) (inr (omega arith))

small_one : Small false one
unfolding of_bits
small_one = (refl, omega arith)

ends : T (le nought nought) × T (le nought one)
unfolding of_bits le
ends = (tt, tt)

between : (x : Float) → Small false x → T (le nought x) × T (le x one)
unfolding of_bits
between x p = small_le x p

pub E_between : (t : Float) → T (le t nought) → T (le nought (E t)) × T (le (E t) one)
unfolding E
E_between t h = go (lt t (neg k700)) (scaled_within t h)
  where
    go : (b : Bool) → (b ≡ false → Within true (div binary64 t k1024)) → T (le nought (cond b nought (squared 10 (terms 18 (div binary64 t k1024) one)))) × T (le (cond b nought (squared 10 (terms 18 (div binary64 t k1024) one))) one)
    go true w = ends
    go false w = between (squared 10 (terms 18 (div binary64 t k1024) one)) (squared_small 10 (terms 18 (div binary64 t k1024) one) (terms_small 18 (div binary64 t k1024) one (w refl) small_one))

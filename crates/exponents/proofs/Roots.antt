-- Of parameters in their ranges: damping and roots are never positive, and a time constant is above 0. Assumes nothing.
use Prim.Native.Nat.{ℕ, zero, suc, ◌-◌, ◌*◌, ◌^◌, ◌≤◌}
use native.Mathlib.Nat.{zero-lt-suc, le_trans, mul-pos}
use mathlib.Core.Logic.{inl}
use lib.Pow.{pow_pos}
use native.Mathlib.Omega.{arith}
use mathlib.Core.Path.{◌≡◌, refl, subst}
use mathlib.Core.Bool.{true, false, true≢false}
use lib.Dec.{T, lt→ltb, lit≤}
use lib.Ieee.{Float, nan, inf, fin, binary64, low, of_bits, of_int, round, neg, mul, div, lt, le, eq, fits, is_nan}
use lib.Ieee.Exact.{HasValue}
use lib.Ieee.Fits.{mul-fits, sub-fits}
use lib.Ieee.Order.{round_mono}
use lib.Ieee.Scale.{grid, finite, round_val, round_under}
use lib.Ieee.Positive.{num, den, den_pos, positive, positive-finite, positive_of_value, le→cross}
use Rattle.float64.specs.Constants.{nought, one, two, milli, micro, nano, pico}
use Rattle.float64.specs.Arithmetic.{◌⊖◌, ◌⊗◌, ◌⊘◌}
use Rattle.square_root.specs.Root.{root_of}
use Rattle.square_root.specs.Claims.{least_squarable}
use Rattle.float64.proofs.Choosing.{max_first, max_holds}
use Rattle.float64.proofs.Order.{le_trans_float}
use Rattle.float64.proofs.Range.{UpTo, from_range, above_zero, zero_same, less, more}
use Rattle.float64.proofs.Interval.{In, in_positive, in_wide, in_self, mul_in, div_in, sub_is, sub-le_first}
use Rattle.square_root.proofs.RootOfSquare.{root_le}
use Rattle.square_root.proofs.RootPlace.{rooted}
use Rattle.fault_circuit.specs.declared.parameters.RlcParameters.{RlcParameters}
use Rattle.fault_circuit.specs.Constants.{least_capacitance, least_cable_resistance}
use Rattle.fault_circuit.specs.Circuit.{henries, inductance, capacitance, alpha, omega0_sq, disc, s1, s2, decay_tau}
use Rattle.exponents.proofs.Ranges.{whole, Ranged}

-- 2 ^ -22
abbrev pub least : Float
least = of_bits binary64 0x3e90_0000_0000_0000

module _ (p : RlcParameters) (P : Ranged p) where
  henries_in : In (one ⊗ milli) (whole 10001001 ⊗ milli) (henries p)
  unfolding of_bits of_int round mul le lt eq
  henries_in = mul_in binary64 one (whole 10001001) milli milli p.l_total_mh milli tt tt tt tt P.inductance (in_self milli tt)

  farads_in : In (least_capacitance ⊗ micro) (whole 13200000 ⊗ micro) (p.c_total_uf ⊗ micro)
  unfolding of_bits of_int round mul le lt eq
  farads_in = mul_in binary64 least_capacitance (whole 13200000) micro micro p.c_total_uf micro tt tt tt tt P.capacitance (in_self micro tt)

  -- both are above what they are raised to
  inductance_is : inductance p ≡ henries p
  unfolding of_bits of_int round mul le lt eq
  inductance_is = max_first (henries p) nano (le_trans_float nano (one ⊗ milli) (henries p) tt henries_in.from)

  capacitance_is : capacitance p ≡ p.c_total_uf ⊗ micro
  unfolding of_bits of_int round mul le lt eq
  capacitance_is = max_first (p.c_total_uf ⊗ micro) pico (le_trans_float pico (least_capacitance ⊗ micro) (p.c_total_uf ⊗ micro) tt farads_in.from)

  pub alpha_in : In least (whole (2 ^ 33)) (alpha p)
  unfolding of_bits of_int round mul div le lt eq
  alpha_in =
      rw inductance_is
      (in_wide (least_cable_resistance ⊘ (two ⊗ (whole 10001001 ⊗ milli))) (whole 10000000 ⊘ (two ⊗ (one ⊗ milli))) least (whole (2 ^ 33)) (p.r_total_ohm ⊘ (two ⊗ henries p)) tt tt
      (div_in binary64 least_cable_resistance (whole 10000000) (two ⊗ (one ⊗ milli)) (two ⊗ (whole 10001001 ⊗ milli)) p.r_total_ohm (two ⊗ henries p) tt tt tt tt P.resistance
      (mul_in binary64 two two (one ⊗ milli) (whole 10001001 ⊗ milli) two (henries p) tt tt tt tt (in_self two tt) henries_in)))

  pub omega0_positive : T (positive (omega0_sq p))
  unfolding of_bits of_int round mul div le lt eq
  omega0_positive =
      rw (inductance_is, capacitance_is)
      (in_positive (one ⊘ (whole 10001001 ⊗ milli ⊗ (whole 13200000 ⊗ micro))) (one ⊘ (one ⊗ milli ⊗ (least_capacitance ⊗ micro))) (one ⊘ (henries p ⊗ (p.c_total_uf ⊗ micro))) tt tt
      (div_in binary64 one one (one ⊗ milli ⊗ (least_capacitance ⊗ micro)) (whole 10001001 ⊗ milli ⊗ (whole 13200000 ⊗ micro)) one (henries p ⊗ (p.c_total_uf ⊗ micro)) tt tt tt tt (in_self one tt)
      (mul_in binary64 (one ⊗ milli) (whole 10001001 ⊗ milli) (least_capacitance ⊗ micro) (whole 13200000 ⊗ micro) (henries p) (p.c_total_uf ⊗ micro) tt tt tt tt henries_in farads_in)))

  pub tau_positive : T (positive (decay_tau p))
  unfolding of_bits of_int round mul div le lt eq is_nan
  tau_positive =
      rw (max_first p.r_total_ohm nano (le_trans_float nano least_cable_resistance p.r_total_ohm tt P.resistance.from))
      (max_holds (λ (x : Float). T (positive x)) (henries p ⊘ p.r_total_ohm) nano
      (in_positive (one ⊗ milli ⊘ whole 10000000) (whole 10001001 ⊗ milli ⊘ least_cable_resistance) (henries p ⊘ p.r_total_ohm) tt tt
      (div_in binary64 (one ⊗ milli) (whole 10001001 ⊗ milli) least_cable_resistance (whole 10000000) (henries p) p.r_total_ohm tt tt tt tt henries_in P.resistance))
      tt)

-- ---- the roots, of a = alpha and w = omega0² with w ≤ a²

small : T (le least_squarable least)
unfolding of_bits le lt eq
small = tt

finite_between : (x y : Float) → T (le nought x) → T (le x y) → T (finite y) → T (finite x)
unfolding le lt eq of_bits
finite_between nan y h k F = absurd h
finite_between (inf true) y h k F = absurd h
finite_between (inf false) nan h k F = absurd k
finite_between (inf false) (inf t) h k F = absurd F
finite_between (inf false) (fin t n d) h k F = absurd k
finite_between (fin s m e) y h k F = tt

module _ (a w : Float) (A : In least (whole (2 ^ 33)) a) where
  a_positive : T (positive a)
  unfolding of_bits of_int round
  a_positive = in_positive least (whole (2 ^ 33)) a tt tt A

  pub a-up_to : UpTo (2 ^ 33) a
  a-up_to = from_range (2 ^ 33) (lit≤ tt) a (above_zero a a_positive) A.to

  pub square_positive : T (positive (a ⊗ a))
  unfolding of_bits of_int round mul
  square_positive = in_positive (least ⊗ least) (whole (2 ^ 33) ⊗ whole (2 ^ 33)) (a ⊗ a) tt tt (mul_in binary64 least (whole (2 ^ 33)) least (whole (2 ^ 33)) a a tt tt tt tt A A)

  -- at most a, and so a part of it
  record PartOf (d : Float) : Type 0 where
    range : UpTo (2 ^ 33) d
    part : num d * den a ≤ num a * den d

  module _ (F : T (fits binary64 a)) where
    root_of_lem : (d : Float) (n c : ℕ) → HasValue d false n c → T (fits binary64 d) → T (le d (a ⊗ a)) → PartOf (root_of d)
    unfolding root_of
    root_of_lem nan n c v G h = absurd v
    root_of_lem (inf s) n c v G h = absurd v
    root_of_lem (fin true m e) n c v G h = absurd (true≢false v.0)
    root_of_lem (fin false zero e) n c v G h = record { range = record { s = false; m = 0; e = e; is = refl; sign = inl refl; most = omega arith }; part = omega arith }
    root_of_lem (fin false (suc m) e) n c v G h =
        let d = fin false (suc m) e in
        let p : T (positive d) = lt→ltb 0 (suc m) (zero-lt-suc m) in
        let r = rooted d G p in
        let q : T (positive (root_of d)) = positive_of_value (root_of d) (r.q * 2 ^ r.j) (2 ^ 1074) r.y_is (mul-pos (le_trans (pow_pos 52) r.placed.digits.0) (pow_pos r.j)) in
        let l : T (le (root_of d) a) = root_le d a G F p a_positive (le_trans_float least_squarable least a small A.from) (positive-finite (a ⊗ a) square_positive) h in
        record { range = from_range (2 ^ 33) (lit≤ tt) (root_of d) (above_zero (root_of d) q) (le_trans_float (root_of d) a (whole (2 ^ 33)) l A.to); part = le→cross (root_of d) a q a_positive l }

    module _ (W : T (positive w)) (h : T (le w (a ⊗ a))) where
      difference : ℕ
      difference = num (a ⊗ a) * den w - num w * den (a ⊗ a)

      is : a ⊗ a ⊖ w ≡ round binary64 false difference (den (a ⊗ a) * den w)
      unfolding difference
      is = sub_is binary64 (a ⊗ a) w square_positive W h

      at_most : T (le (a ⊗ a ⊖ w) (a ⊗ a))
      at_most = sub-le_first binary64 (a ⊗ a) w (mul-fits binary64 a a) square_positive W h

      at_least : T (le nought (a ⊗ a ⊖ w))
      unfolding of_int
      at_least = subst (λ (z : Float). T (le z (a ⊗ a ⊖ w))) zero_same (rw is (round_mono binary64 0 1 difference (den (a ⊗ a) * den w) (omega arith) (mul-pos (den_pos (a ⊗ a)) (den_pos w)) (omega arith)))

      disc_part : PartOf (disc a w)
      disc_part =
          let D = den (a ⊗ a) * den w in
          let f : T (finite (round binary64 false difference D)) = rw is at (finite_between (a ⊗ a ⊖ w) (a ⊗ a) at_least at_most (positive-finite (a ⊗ a) square_positive)) in
          rw (max_first (a ⊗ a ⊖ w) nought at_least)
          (root_of_lem (a ⊗ a ⊖ w) (grid binary64 difference D) (2 ^ low binary64) (rw is (round_val binary64 difference D (round_under binary64 difference D f))) (sub-fits binary64 (a ⊗ a) w) at_most)

      -- from below up to 0
      pub s1_below : UpTo (2 ^ 33) (neg (s1 a w))
      s1_below = less (2 ^ 33) (2 ^ 33) a (disc a w) (lit≤ tt) a_positive a-up_to disc_part.range disc_part.part

      pub s2_below : UpTo (2 ^ 34) (neg (s2 a w))
      s2_below = more (2 ^ 33) (2 ^ 33) a (disc a w) (lit≤ tt) a_positive a-up_to disc_part.range

-- The steps of a run: a quotient rounded up by its whole part, counted to one past the limit. Assumes nothing.
use Prim.Native.Nat.{ℕ, ◌+◌, ◌*◌, ◌/◌, ◌%◌, ◌^◌, ◌≤◌, ◌<◌, max}
use native.Mathlib.Nat.{mul-one, div-add-mod', div-le_of_le-mul, le_trans, le-div_iff_mul-le, mul_comm, mul-le-mul_right}
use native.Mathlib.Omega.{arith}
use mathlib.Core.Path.{◌≡◌, refl, sym, ◌∙◌}
use mathlib.Core.Logic.{⊎_elim}
use mathlib.Core.Bool.{Bool, true, false, not}
use borrow.Author.Tests.{lt-ltb, le-ltb, ltb-true, ltb-false}
use lib.Dec.{T, ltb, le→leb}
use lib.IntN.{ℤ, pos}
use lib.Ieee.{Float, nan, inf, fin, binary64, up, down, of_bits, of_int, round, lt, to_unsigned, in_unsigned, in_float, is_nan}
use lib.Ieee.Back.{round_whole, unsigned_back}
use lib.Ieee.Exact.{HasValue}
use lib.Ieee.Fits.{down_pos}
use Rattle.lists.proofs.Counting.{lt_or_le, contrary}
use Rattle.float64.specs.Constants.{one}
use Rattle.float64.specs.Whole.{whole_part}
use Rattle.float64.proofs.Tests.{lt-nan}
use Rattle.float64.proofs.Values.{lt_values}
use Rattle.timing.specs.Steps.{rounded_up, steps_of_quotient, most_steps, counted_to}
use Rattle.timing.proofs.Ceiling.{ceiling, ceiling_is, ceiling_reaches, ceiling_least}

-- the count passes the limit where the steps do
pub limit_kept : (n r : ℕ) → r ≡ counted_to n → ltb most_steps r ≡ ltb most_steps n
limit_kept n r e =
    ⊎_elim
    (λ h. lt-ltb most_steps r (omega arith) ∙ sym (lt-ltb most_steps n h))
    (λ h. le-ltb most_steps r (omega arith) ∙ sym (le-ltb most_steps n h))
    (lt_or_le most_steps n)

abbrev million : Float
million = of_bits binary64 0x412e_8480_0000_0000

one_is : one ≡ round binary64 false 1 1
unfolding of_bits round
one_is = refl

million_is : million ≡ round binary64 false 1000000 1
unfolding of_bits round
million_is = refl

-- a quotient between the two tests, as a fraction n / d
pub record Between (q : Float) : Type 0 where
  pub n : ℕ
  pub d : ℕ
  pub positive : 0 < d
  pub value : HasValue q false n d
  pub above : d < n
  pub most : n ≤ 1000000 * d
  pub up_is : rounded_up q ≡ ceiling n d
  pub whole_is : whole_part q ≡ of_int binary64 (pos (n / d))

whole-lt : (k : ℕ) (m : ℕ) (e : ℤ) → k ≤ 2 ^ 53 → lt (round binary64 false k 1) (fin false m e) ≡ ltb (k * down e) (m * up e)
whole-lt k m e h = lt_values k 1 (m * up e) (down e) (omega arith) (down_pos e) _ _ (round_whole binary64 false k h) (refl, refl) ∙ simp mul-one

one-inf : (s : Bool) → lt one (inf s) ≡ not s
unfolding of_bits lt
one-inf s = refl

million-inf : (s : Bool) → lt million (inf s) ≡ not s
unfolding of_bits lt
million-inf s = refl

one_below : (m : ℕ) (e : ℤ) → lt one (fin true m e) ≡ false
unfolding of_bits lt
one_below m e = refl

million_below : (m : ℕ) (e : ℤ) → lt million (fin true m e) ≡ false
unfolding of_bits lt
million_below m e = refl

one-lt : (m : ℕ) (e : ℤ) → lt one (fin false m e) ≡ ltb (1 * down e) (m * up e)
one-lt m e = rw one_is (whole-lt 1 m e (omega arith))

million-lt : (m : ℕ) (e : ℤ) → lt million (fin false m e) ≡ ltb (1000000 * down e) (m * up e)
million-lt m e = rw million_is (whole-lt 1000000 m e (omega arith))

between : (q : Float) → lt one q ≡ true → lt million q ≡ false → Between q
unfolding rounded_up whole_part of_int is_nan
between nan a b = contrary a (lt-nan one nan tt)
between (inf true) a b = contrary a (one-inf true)
between (inf false) a b = contrary (million-inf false) b
between (fin true m e) a b = contrary a (one_below m e)
between (fin false m e) a b =
    record {
      n = m * up e;
      d = down e;
      positive = down_pos e;
      value = (refl, refl);
      above = let h = ltb-true (1 * down e) (m * up e) (sym (one-lt m e) ∙ a) in omega arith;
      most = ltb-false _ _ (sym (million-lt m e) ∙ b);
      up_is = ceiling_is (m * up e) (down e) (down_pos e);
      whole_is = refl;
    }

-- past the limit
pub past_limit : (q : Float) → lt million q ≡ true → most_steps + 1 ≡ counted_to (steps_of_quotient q)
unfolding rounded_up is_nan
past_limit nan a = contrary a (lt-nan million nan tt)
past_limit (inf true) a = contrary a (million-inf true)
past_limit (inf false) a = refl
past_limit (fin true m e) a = contrary a (million_below m e)
past_limit (fin false m e) a =
    let h : 1000000 * down e < m * up e = ltb-true _ _ (sym (million-lt m e) ∙ a) in
    let c : 1000000 < ceiling (m * up e) (down e) = ⊎_elim (λ l. l) (λ l. absurd (apart h (le_trans (ceiling_reaches (m * up e) (down e) (down_pos e)) (mul-le-mul_right (down e) l)))) (lt_or_le 1000000 (ceiling (m * up e) (down e))) in
    rw (ceiling_is (m * up e) (down e) (down_pos e)) (capped (ceiling (m * up e) (down e)) c)
  where
    apart : {x y : ℕ} → x < y → y ≤ x → ⊥
    apart k l = omega arith

    capped : (c : ℕ) → 1000000 < c → most_steps + 1 ≡ counted_to (max 1 c)
    capped c l = omega arith

-- at most one
pub single_step : (q : Float) → lt one q ≡ false → lt million q ≡ false → 1 ≡ counted_to (steps_of_quotient q)
unfolding rounded_up
single_step nan a b = refl
single_step (inf true) a b = refl
single_step (inf false) a b = contrary (one-inf false) a
single_step (fin true m e) a b = refl
single_step (fin false m e) a b =
    let h : m * up e ≤ 1 * down e = ltb-false _ _ (sym (one-lt m e) ∙ a) in
    rw (ceiling_is (m * up e) (down e) (down_pos e)) (capped (ceiling (m * up e) (down e)) (ceiling_least (m * up e) (down e) 1 (down_pos e) h))
  where
    capped : (c : ℕ) → c ≤ 1 → 1 ≡ counted_to (max 1 c)
    capped c l = omega arith

-- in between: the whole part, and one more where something is left
module _ (q : Float) (a : lt one q ≡ true) (b : lt million q ≡ false) where
  B : Between q
  B = between q a b

  w : ℕ
  w = B.n / B.d

  few : w ≤ 1000000
  unfolding w
  few = div-le_of_le-mul B.d (rw (mul_comm B.d 1000000) B.most)

  some : 1 ≤ w
  unfolding w
  some = (le-div_iff_mul-le B.positive).1 (let h = B.above in omega arith)

  back : T (in_unsigned binary64 64 (of_int binary64 (pos w))) × (to_unsigned 64 (of_int binary64 (pos w)) ≡ w)
  unfolding in_float
  back = unsigned_back binary64 64 w (le→leb w (2 ^ 53) (let h = few in omega arith)) (let h = few in omega arith)

  pub cast_whole : T (in_unsigned binary64 64 (whole_part q))
  unfolding w
  cast_whole = rw B.whole_is back.0

  cast_is : to_unsigned 64 (whole_part q) ≡ w
  unfolding w
  cast_is = rw B.whole_is back.1

  pub cast_few : to_unsigned 64 (whole_part q) ≤ 1000000
  cast_few = rw cast_is few

  whole_below : lt (whole_part q) q ≡ ltb (w * B.d) B.n
  unfolding w of_int
  whole_below = rw B.whole_is (lt_values (B.n / B.d) 1 B.n B.d (omega arith) B.positive _ q (round_whole binary64 false (B.n / B.d) (let h = few in omega arith)) B.value ∙ simp mul-one)

  pub one_more : lt (whole_part q) q ≡ true → to_unsigned 64 (whole_part q) + 1 ≡ counted_to (steps_of_quotient q)
  unfolding w
  one_more h =
      let l : w * B.d < B.n = ltb-true _ _ (sym whole_below ∙ h) in
      let r : B.n % B.d ≡ 0 → ⊥ = λ e. (let s = div-add-mod' B.n B.d in omega arith) in
      rw (cast_is, B.up_is) (let f = few in omega arith)

  pub no_more : lt (whole_part q) q ≡ false → to_unsigned 64 (whole_part q) ≡ counted_to (steps_of_quotient q)
  unfolding w
  no_more h =
      let l : B.n ≤ w * B.d = ltb-false _ _ (sym whole_below ∙ h) in
      let r : B.n % B.d ≡ 0 = (let s = div-add-mod' B.n B.d in omega arith) in
      rw (cast_is, B.up_is) (let f = few in let g = some in omega arith)

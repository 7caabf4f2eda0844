-- What the loops of a stage leave behind, put together. Assumes nothing.
use Prim.Native.Nat.{ℕ, ◌+◌, ◌-◌, ◌≤◌, ◌<◌}
use mathlib.Core.Path.{◌≡◌, sym, ◌∙◌}
use mathlib.Core.Bool.{cond}
use mathlib.Core.Logic.{⊎_elim}
use mathlib.Core.List.{List, ◌++◌}
use native.Mathlib.Numerals.{add-one}
use native.Mathlib.Omega.{arith}
use borrow.Author.Tests.{lt-ltb, le-ltb}
use lib.Dec.{ltb}
use lib.Ieee.{Float, nan}
use lib.ListN.{length, take, drop, length-append, length-drop, get_or-append}
use Rattle.std.proofs.lemmas.List.{length-take-le, get_or-take, get_or-drop, get_or-append_right}
use Rattle.lists.specs.Tables.{tab, blank, over, padded}
use Rattle.lists.proofs.Counting.{lt_or_le}
use Rattle.lists.proofs.Fills.{upto_over, upto_padded, is_tab, get_d_tab, length-tab, over_each, over_longer, blank-padded, padded_same, get_d_padded}
use Rattle.float64.specs.Constants.{nought}
use Rattle.float64.specs.Arithmetic.{◌⊘◌, of}
use Rattle.network.specs.declared.network.Drain.{Drain}
use Rattle.state_derivatives.specs.Derivatives.{passed, net, drained, cable_rate, derivative}

-- what stands after the first n
pub after : (f g : ℕ → Float) (n k : ℕ) → g k ≡ cond (ltb (n + k) n) (f (n + k)) (g (n + k - n))
after f g n k = let e : n + k - n ≡ k = omega arith in rw (le-ltb (n + k) n (omega arith), e)

-- what a call leaves that is lent the first n of x, and changes each by its place
pub front_over : (n : ℕ) (f : ℕ → Float → Float) (x : List Float) → n ≤ length x
    → let front = take n x in
    over (length front) (λ i. f i (of front i)) nan front ++ drop n x ≡ over n (λ i. f i (of x i)) nan x
unfolding over
front_over n f x l =
    let front = take n x in
    let many : length front ≡ n = length-take-le n x l in
    let g : ℕ → Float = λ i. cond (ltb i (length front)) (f i (of front i)) (of front i) in
    let long : length (tab (length front) g) ≡ n = length-tab (length front) g ∙ many in
    is_tab (length x) (λ i. cond (ltb i n) (f i (of x i)) (of x i)) nan (tab (length front) g ++ drop n x) (rw (length-append, long, length-drop) (omega arith))
    (λ k lk. ⊎_elim
    (λ a. rw (lt-ltb k n a, ← get_or-take n x k nan a) (get_or-append (tab (length front) g) (drop n x) nan k (omega arith) ∙ get_d_tab (length front) g nan k (omega arith) ∙ rw (many, lt-ltb k n a)))
    (λ b. let back : n + (k - n) ≡ k = omega arith in
    rw (le-ltb k n b) (get_or-append_right (tab (length front) g) (drop n x) n k nan long b ∙ get_or-drop n x (k - n) nan ∙ rw back))
    (lt_or_le k n))

-- the first n of an array of zeros written
pub over_zeros : (m n : ℕ) (f : ℕ → Float) → n ≤ m → over n f nan (blank m nought) ≡ padded m n f nought
over_zeros m n f l = sym (upto_over n f nan (blank m nought)) ∙ upto_padded n m f nought l

module _ (from to : ℕ → ℕ) (n : ℕ) (y : List Float) where
  -- the sums over the first k cables
  abbrev pub nets : ℕ → List Float
  nets k = padded 32 n (net from to n y k) nought

  pub nets_long : (k : ℕ) → length (nets k) ≡ 32
  unfolding padded
  nets_long k = length-tab 32 _

  pub nets_none : blank 32 nought ≡ nets 0
  nets_none = blank-padded 32 n nought

  -- one cable more
  pub nets_more : (k : ℕ) → n ≤ 32 → over n (λ i. passed (from k) (to k) (of y (n + k)) i (of (nets k) i)) nan (nets k) ≡ nets (k + 1)
  nets_more k l = rw add-one (over_each 32 n (net from to n y k) (passed (from k) (to k) (of y (n + k))) nought nan l)

  module _ (r l c : ℕ → Float) (d : Drain) (m : ℕ) (small : n ≤ 32) where
    -- the sums less what the fault drains
    pub nets_drained : over n (λ i. drained d y i (of (nets m) i)) nan (nets m) ≡ padded 32 n (λ i. drained d y i (net from to n y m i)) nought
    nets_drained = over_each 32 n (net from to n y m) (drained d y) nought nan small

    module _ (x : List Float) (x_is : x ≡ padded 32 n (λ i. drained d y i (net from to n y m i)) nought) where
      -- the rates of the voltages, and after them those of the currents
      abbrev voltage_rates : List Float
      voltage_rates = padded 96 n (λ i. of x i ⊘ c i) nought

      at_rate : (i : ℕ) → i < n + m → cond (ltb i n) (of voltage_rates i) (cable_rate from to r l n y (i - n)) ≡ derivative from to r l c d n m y i
      at_rate i h =
          ⊎_elim
          (λ a. rw (lt-ltb i n a, get_d_padded 96 n (λ q. of x q ⊘ c q) nought nan i a (omega arith), x_is, get_d_padded 32 n (λ q. drained d y q (net from to n y m q)) nought nan i a small))
          (λ b. rw (le-ltb i n b))
          (lt_or_le i n)

      pub rates_joined : over (n + m) (λ i. cond (ltb i n) (of voltage_rates i) (cable_rate from to r l n y (i - n))) nan voltage_rates ≡ padded 96 (n + m) (derivative from to r l c d n m y) nought
      rates_joined = over_longer 96 n (n + m) (λ i. of x i ⊘ c i) _ nought nan (omega arith) ∙ padded_same 96 (n + m) _ (derivative from to r l c d n m y) nought at_rate

-- Loops over the lanes of a block, and loops whose turns each go over all lanes. Assumes nothing.
use mathlib.Core.Path.{◌≡◌, ap, ◌∙◌}
use mathlib.Core.Bool.{cond}
use mathlib.Core.List.{List}
use Prim.Native.Nat.{ℕ, ◌+◌, ◌-◌, ◌≤◌, ◌<◌}
use native.Mathlib.Omega.{arith}
use borrow.Author.Tests.{lt-ltb}
use lib.Dec.{ltb}
use lib.ListN.{length, set}
use lib.Ieee.{Float, nan}
use Rattle.lists.specs.Tables.{tab, blank, over}
use Rattle.lists.proofs.Counting.{at_end_lem}
use Rattle.lists.proofs.Fills.{upto, upto_more, upto_over, upto_kept, get_d_upto_out, get_d_tab, length-tab, length-blank, tab_same}
use Rattle.lists.proofs.Places.{over-over, over_same}
use Rattle.float64.specs.Arithmetic.{of}

-- ---- one loop over the lanes

-- it is left past the last lane
pub lanes_left : (n : ℕ) (f : ℕ → Float) (d : List Float) {x : List Float} {i : ℕ} → i ≤ n → n ≤ i → x ≡ upto i f d → x ≡ over n f nan d
lanes_left n f d a b h = at_end_lem (λ k. upto k f d) a b h ∙ upto_over n f nan d

-- one lane more that is changed in place: until then it stands there as before the loop
pub lane_changed : (g : ℕ → Float → Float) (d : List Float) {x : List Float} {v : Float} (i : ℕ) → x ≡ upto i (λ j. g j (of d j)) d → v ≡ g i (of x i) → set x i v ≡ upto (i + 1) (λ j. g j (of d j)) d
lane_changed g d i h e = upto_more (λ j. g j (of d j)) d i h (e ∙ ap (g i) (rw h (get_d_upto_out i (λ j. g j (of d j)) d nan i (omega arith))))

-- ---- a block of n lanes, all of them replaced

pub replaced : (n : ℕ) (f : ℕ → Float) (d : List Float) → length d ≡ n → over n f nan d ≡ tab n f
unfolding over
replaced n f d e = rw e (tab_same n (λ i. cond (ltb i n) (f i) (of d i)) f (λ k l. rw (lt-ltb k n l)))

pub lanes_of_blank : (n : ℕ) (f : ℕ → Float) (z : Float) {x : List Float} → x ≡ over n f nan (blank n z) → x ≡ tab n f
lanes_of_blank n f z e = e ∙ replaced n f (blank n z) (length-blank n z)

pub lanes_of_lanes : (n : ℕ) (f g : ℕ → Float) {d x : List Float} → d ≡ tab n g → x ≡ over n f nan d → x ≡ tab n f
lanes_of_lanes n f g {d} h e = e ∙ replaced n f d (ap length h ∙ length-tab n g)

-- a lane of such a block
pub lane_of : (n : ℕ) (f : ℕ → Float) {x : List Float} (j : ℕ) → j < n → x ≡ tab n f → of x j ≡ f j
lane_of n f j l e = rw e (get_d_tab n f nan j l)

-- ---- turns that count down

-- in lane j turn k makes f j k p of p, and g j k p is what all turns from k down make of it
module _ (n : ℕ) (f g : ℕ → ℕ → Float → Float) (more : (j k : ℕ) (p : Float) → 0 < k → g j (k - 1) (f j k p) ≡ g j k p) (done : (j k : ℕ) (p : Float) → k < 1 → g j k p ≡ p) where
  pub turns_more : (k : ℕ) (p : List Float) {x : List Float} → 0 < k → x ≡ over n (λ j. f j k (of p j)) nan p → over n (λ j. g j (k - 1) (of x j)) nan x ≡ over n (λ j. g j k (of p j)) nan p
  turns_more k p h e = rw e (over-over n nan (λ j. g j (k - 1)) (λ j. f j k) p) ∙ over_same n nan _ _ p (λ j l. more j k (of p j) h)

  pub turns_done : (k : ℕ) (p : List Float) → k < 1 → p ≡ over n (λ j. g j k (of p j)) nan p
  turns_done k p h = upto_kept n _ nan p (λ j l. done j k (of p j) h) ∙ upto_over n _ nan p

-- ---- turns that count up

-- in lane j each turn makes f j p of p, and g j k p is what k turns make of it
module _ (n : ℕ) (f : ℕ → Float → Float) (g : ℕ → ℕ → Float → Float) where
  pub turns_none : ((j : ℕ) (p : Float) → g j 0 p ≡ p) → (p : List Float) → p ≡ over n (λ j. g j 0 (of p j)) nan p
  turns_none none p = upto_kept n _ nan p (λ j l. none j (of p j)) ∙ upto_over n _ nan p

  pub turn_added : ((j k : ℕ) (p : Float) → f j (g j k p) ≡ g j (k + 1) p)
      → (k : ℕ) (p : List Float) {y x : List Float} → y ≡ over n (λ j. g j k (of p j)) nan p → x ≡ over n (λ j. f j (of y j)) nan y → x ≡ over n (λ j. g j (k + 1) (of p j)) nan p
  turn_added more k p h e = rw (e, h) (over-over n nan f (λ j. g j k) p ∙ over_same n nan _ _ p (λ j l. more j k (of p j)))

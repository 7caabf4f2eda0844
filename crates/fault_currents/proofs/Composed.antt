-- The stages of a response and of a site's current, each over all lanes, put together. Assumes nothing.
use mathlib.Core.Path.{◌≡◌, ap, ◌∙◌}
use mathlib.Core.List.{List}
use Prim.Native.Nat.{ℕ}
use lib.Ieee.{Float, nan}
use Rattle.lists.specs.Tables.{tab, blank, over}
use Rattle.lists.proofs.Fills.{tab_same}
use Rattle.lists.proofs.Places.{over_same}
use Rattle.float64.specs.Constants.{nought, kilo}
use Rattle.float64.specs.Arithmetic.{◌⊗◌, ◌⊘◌, of}
use Rattle.float64.specs.Choice.{abs_of}
use Rattle.fault_circuit.specs.declared.circuit.FaultCircuit.{FaultCircuit}
use Rattle.fault_current.specs.Current.{seconds_since, amperes}
use Rattle.fault_currents.specs.Sites.{site_current}
use Rattle.lanes.proofs.Lanes.{lanes_of_blank, lanes_of_lanes, lane_of}

module _ (n : ℕ) where
  -- a function of a block
  pub lanes_through : (f : Float → Float) (g : ℕ → Float) {x y : List Float} → x ≡ tab n g → y ≡ tab n (λ j. f (of x j)) → y ≡ tab n (λ j. f (g j))
  lanes_through f g x_is y_is = y_is ∙ tab_same n _ _ (λ j l. ap f (lane_of n g j l x_is))

  -- a block by what its lanes are, where it is read lane by lane
  pub lanes_read : (f : ℕ → Float → Float) (g : ℕ → Float) (d : List Float) {x : List Float} → x ≡ tab n g → over n (λ j. f j (of x j)) nan d ≡ over n (λ j. f j (g j)) nan d
  lanes_read f g d x_is = over_same n nan _ _ d (λ j l. ap (f j) (lane_of n g j l x_is))

  -- the same of two blocks
  pub lanes_joined : (f : Float → Float → Float) (g h : ℕ → Float) (d : List Float) {x y z : List Float} → x ≡ tab n g → y ≡ tab n h → z ≡ over n (λ j. f (of x j) (of y j)) nan d → z ≡ over n (λ j. f (g j) (h j)) nan d
  lanes_joined f g h d {x} {y} x_is y_is z-is = z-is ∙ lanes_read (λ j u. f u (of y j)) g d x_is ∙ lanes_read (λ j v. f (g j) v) h d y_is

  pub site_composed : (c : FaultCircuit) (t : List Float) {s i x : List Float}
      → s ≡ over n (λ j. seconds_since c.inception_time_ms (of t j)) nan (blank n nought)
      → i ≡ over n (λ j. amperes c.response (of s j)) nan (blank n nought)
      → x ≡ over n (λ j. abs_of (of i j) ⊘ kilo ⊗ c.resistance_factor) nan i
      → x ≡ tab n (λ j. site_current c (of t j))
  site_composed c t s-is i-is x_is =
      let s-lanes = lanes_of_blank n _ nought s-is in
      let i-lanes = lanes_of_blank n _ nought i-is in
      lanes_of_lanes n _ _ i-lanes x_is
      ∙ tab_same n _ _ (λ j l. rw (lane_of n _ j l i-lanes, lane_of n _ j l s-lanes))

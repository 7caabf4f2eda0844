-- What document 01.3 says of the derivatives in words, and what a reader expects beside the definitions. The proofs are in proofs/Claims.antt.
use Rattle.std.specs.Prelude.{ℕ, ◌≤◌, ◌<◌, ◌≡◌, List, Float}
use Rattle.float64.specs.Arithmetic.{◌⊖◌, of}
use Rattle.grid.specs.declared.simulator.DcSwitchingSimulator.{DcSwitchingSimulator}
use Rattle.network.specs.declared.network.Drain.{Drain}
use Rattle.network.specs.Network.{network_of, no_drain}
use Rattle.state_derivatives.specs.Derivatives.{drain_current, drained, slopes}
use Rattle.state_derivatives.specs.OfGrid.{grid_derivatives}

-- what is worked out once for a grid changes no rate
pub record NetworkClaims : Type 0 where
  pub rates : (g : DcSwitchingSimulator) (d : Drain) (y : List Float) → g.n_stations ≤ 32 → g.n_cables ≤ 64 → slopes (network_of g) d y ≡ grid_derivatives g d y

-- "The drain applies to both ends of the faulted cable, scaled by the fraction", and to no other station
pub record DrainClaims : Type 0 where
  pub first_end : (d : Drain) (y : List Float) (s : Float) → drained d y d.from s ≡ s ⊖ drain_current d (of y d.from)
  pub second_end : (d : Drain) (y : List Float) (s : Float) → drained d y d.to s ≡ s ⊖ drain_current d (of y d.to)
  pub elsewhere : (d : Drain) (y : List Float) (i : ℕ) (s : Float) → (d.from ≡ i → ⊥) → (d.to ≡ i → ⊥) → drained d y i s ≡ s
  -- without a fault none
  pub without : (y : List Float) (i : ℕ) (s : Float) → i < 32 → drained no_drain y i s ≡ s

-- The claims of specs/Claims. Assumes nothing.
use Prim.Native.Nat.{ℕ, ◌+◌, ◌≤◌, ◌<◌}
use mathlib.Core.Path.{◌≡◌}
use mathlib.Core.Bool.{true, cond}
use mathlib.Core.List.{List}
use native.Mathlib.Omega.{arith}
use borrow.Author.Tests.{lt-ltb, le-ltb}
use lib.Dec.{ltb}
use lib.Ieee.{Float, nan, le, is_nan, of_bits}
use lib.Ieee.Bits.{is_true}
use Rattle.lists.proofs.Fills.{get_d_padded, get_d_rest, padded_same}
use Rattle.float64.specs.Constants.{nought, half}
use Rattle.float64.specs.Arithmetic.{◌⊗◌, of}
use Rattle.float64.specs.Choice.{max_of}
use Rattle.float64.proofs.Interval.{max_at_least}
use Rattle.grid.specs.declared.simulator.DcSwitchingSimulator.{DcSwitchingSimulator}
use Rattle.network.specs.declared.network.Network.{Network}
use Rattle.network.specs.declared.network.Drain.{Drain}
use Rattle.state_derivatives.specs.declared.state.DcTransientState.{DcTransientState}
use Rattle.network.specs.Network.{end, network_of}
use Rattle.state_derivatives.specs.Derivatives.{net, stations_in, cables_in, slopes}
use Rattle.state_derivatives.specs.OfGrid.{from_of, to_of, grid_derivatives}
use Rattle.state_derivatives.proofs.Tables.{stations_in_lem, cables_in_lem, net_is, table_rates, rates_by_tables}
use Rattle.transient.specs.Rk4.{ahead, blended, rk4, raised, new_state, step_by, rk4_step}
use Rattle.transient.specs.OfGrid.{grid_step}
use Rattle.step_claims.specs.Claims.{classical_at, NetworkClaims, StepClaims}

-- ---- the network's step is the grid's

-- rates that agree everywhere make the same step
rk4_same : (size : ℕ) (f h : List Float → List Float) (dt : Float) (y : List Float) → ((x : List Float) → f x ≡ h x) → rk4 size f dt y ≡ rk4 size h dt y
unfolding rk4
rk4_same size f h dt y e =
    let k1 = h y in
    let k2 = h (ahead size y (half ⊗ dt) k1) in
    let k3 = h (ahead size y (half ⊗ dt) k2) in
    rw (e y, e (ahead size y (half ⊗ dt) k1), e (ahead size y (half ⊗ dt) k2), e (ahead size y dt k3))

-- a step by the tables' rates, then by the grid's
step_is : (g : DcSwitchingSimulator) → g.n_stations ≤ 32 → g.n_cables ≤ 64 → (d : Drain) (s : DcTransientState) (dt : Float) → rk4_step (network_of g) d s dt ≡ grid_step g d s dt
unfolding step_by new_state
step_is g few_stations few_cables d s dt =
    let n = g.n_stations in
    let m = g.n_cables in
    let same = rk4_same (n + m) (table_rates g few_stations few_cables d) (grid_derivatives g d) dt s.y (rates_by_tables g few_stations few_cables d) in
    let y = new_state n m (grid_derivatives g d) dt s.y in
    rw (stations_in_lem g few_stations few_cables, cables_in_lem g few_stations few_cables, same, padded_same 32 n (net (end (network_of g).from) (end (network_of g).to) n y m) (net (from_of g) (to_of g) n y m) nought (λ i l. net_is g few_stations few_cables y i))

pub network_claims : NetworkClaims
network_claims = record { step = λ g d s dt n m. step_is g n m d s dt }

-- ---- the step

classical : (size : ℕ) (f : List Float → List Float) (dt : Float) (y : List Float) (i : ℕ) → i < size → size ≤ 96 → of (rk4 size f dt y) i ≡ classical_at size f dt y i
unfolding rk4 blended
classical size f dt y i l h = get_d_padded 96 size _ nought nan i l h

module _ (w : Network) (d : Drain) (s : DcTransientState) (dt : Float) where
  -- the step's numbers before the voltages are raised
  numbers : List Float
  numbers = rk4 (stations_in w + cables_in w) (slopes w d) dt s.y

  new_is : (i : ℕ) → i < stations_in w + cables_in w → of (rk4_step w d s dt).y i ≡ cond (ltb i (stations_in w)) (max_of (of numbers i) nought) (of numbers i)
  unfolding step_by new_state raised numbers
  new_is i l = get_d_padded 96 (stations_in w + cables_in w) _ nought nan i l (omega arith)

  not_below : (i : ℕ) → i < stations_in w → le nought (of (rk4_step w d s dt).y i) ≡ true
  unfolding is_nan of_bits
  not_below i l = rw (new_is i (omega arith), lt-ltb i (stations_in w) l) (is_true (le nought (max_of (of numbers i) nought)) (max_at_least (of numbers i) nought tt))

  classical_value : (i : ℕ) → i < stations_in w + cables_in w → of numbers i ≡ classical_at (stations_in w + cables_in w) (slopes w d) dt s.y i
  unfolding numbers
  classical_value i l = classical (stations_in w + cables_in w) (slopes w d) dt s.y i l (omega arith)

  new_voltage : (i : ℕ) → i < stations_in w → of (rk4_step w d s dt).y i ≡ max_of (classical_at (stations_in w + cables_in w) (slopes w d) dt s.y i) nought
  new_voltage i l = rw (new_is i (omega arith), lt-ltb i (stations_in w) l, classical_value i (omega arith))

  own_current : (k : ℕ) → k < cables_in w → of (rk4_step w d s dt).y (stations_in w + k) ≡ classical_at (stations_in w + cables_in w) (slopes w d) dt s.y (stations_in w + k)
  own_current k l = rw (new_is (stations_in w + k) (omega arith), le-ltb (stations_in w + k) (stations_in w) (omega arith), classical_value (stations_in w + k) (omega arith))

  past_zero : (i : ℕ) → stations_in w + cables_in w ≤ i → i < 96 → of (rk4_step w d s dt).y i ≡ nought
  unfolding step_by new_state raised
  past_zero i l h = get_d_rest 96 (stations_in w + cables_in w) _ nought nan i l h

pub step_claims : StepClaims
step_claims =
    record {
      classical = classical;
      new_voltages = λ w d s dt i l. new_voltage w d s dt i l;
      voltages = λ w d s dt i l. not_below w d s dt i l;
      cable_currents = λ w d s dt k l. own_current w d s dt k l;
      past = λ w d s dt i l h. past_zero w d s dt i l h;
    }

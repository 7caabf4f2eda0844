-- The network's tables hold the grid. Assumes nothing.
use Prim.Native.Nat.{ℕ, zero, suc, ◌+◌, ◌-◌, ◌≤◌, ◌<◌}
use mathlib.Core.Path.{◌≡◌, refl}
use mathlib.Core.Logic.{⊎_elim}
use mathlib.Core.List.{List}
use native.Mathlib.Omega.{arith}
use borrow.Author.Tests.{lt-ltb, le-ltb}
use lib.Ieee.{Float, nan}
use Rattle.lists.proofs.Counting.{lt_or_le}
use Rattle.lists.proofs.Fills.{get_d_padded, padded_same}
use Rattle.float64.specs.Constants.{nought}
use Rattle.float64.specs.Arithmetic.{of}
use Rattle.grid.specs.declared.simulator.DcSwitchingSimulator.{DcSwitchingSimulator}
use Rattle.network.specs.declared.network.Drain.{Drain}
use Rattle.network.specs.Network.{station_count, cable_count, end, network_of}
use Rattle.state_derivatives.specs.Derivatives.{net, derivative, derivatives, stations_in, cables_in, slopes}
use Rattle.state_derivatives.specs.OfGrid.{from_of, to_of, resistance_of, inductance_of, capacitance_of, grid_derivatives}

-- ends that agree up to m
module _ (from from' to to' : ℕ → ℕ) (n : ℕ) (y : List Float) (i : ℕ) where
  net_same : (m : ℕ) → ((k : ℕ) → k < m → from k ≡ from' k) → ((k : ℕ) → k < m → to k ≡ to' k) → net from to n y m i ≡ net from' to' n y m i
  net_same zero f t = refl
  net_same (suc m) f t = rw (f m (omega arith), t m (omega arith), net_same m (λ k l. f k (omega arith)) (λ k l. t k (omega arith)))

module _ (g : DcSwitchingSimulator) (few_stations : g.n_stations ≤ 32) (few_cables : g.n_cables ≤ 64) where
  stations_are : station_count g.n_stations ≡ g.n_stations
  stations_are = omega arith

  cables_are : cable_count g.n_cables ≡ g.n_cables
  cables_are = omega arith

  from_is : (k : ℕ) → k < g.n_cables → end (network_of g).from k ≡ from_of g k
  unfolding network_of
  from_is k l = rw cables_are (get_d_padded 64 g.n_cables (from_of g) 0 0 k l few_cables)

  to_is : (k : ℕ) → k < g.n_cables → end (network_of g).to k ≡ to_of g k
  unfolding network_of
  to_is k l = rw cables_are (get_d_padded 64 g.n_cables (to_of g) 0 0 k l few_cables)

  resistance_is : (k : ℕ) → k < g.n_cables → of (network_of g).resistance_ohm k ≡ resistance_of g k
  unfolding network_of
  resistance_is k l = rw cables_are (get_d_padded 64 g.n_cables (resistance_of g) nought nan k l few_cables)

  inductance_is : (k : ℕ) → k < g.n_cables → of (network_of g).inductance_h k ≡ inductance_of g k
  unfolding network_of
  inductance_is k l = rw cables_are (get_d_padded 64 g.n_cables (inductance_of g) nought nan k l few_cables)

  capacitance_is : (i : ℕ) → i < g.n_stations → of (network_of g).capacitance_f i ≡ capacitance_of g i
  unfolding network_of
  capacitance_is i l = rw stations_are (get_d_padded 32 g.n_stations (capacitance_of g) nought nan i l few_stations)

  pub stations_in_lem : stations_in (network_of g) ≡ g.n_stations
  unfolding network_of
  stations_in_lem = omega arith

  pub cables_in_lem : cables_in (network_of g) ≡ g.n_cables
  unfolding network_of
  cables_in_lem = omega arith

  pub net_is : (y : List Float) (i : ℕ) → net (end (network_of g).from) (end (network_of g).to) g.n_stations y g.n_cables i ≡ net (from_of g) (to_of g) g.n_stations y g.n_cables i
  net_is y i = net_same (end (network_of g).from) (from_of g) (end (network_of g).to) (to_of g) g.n_stations y i g.n_cables from_is to_is

  abbrev pub table_rates : Drain → List Float → List Float
  table_rates d = derivatives (end (network_of g).from) (end (network_of g).to) (of (network_of g).resistance_ohm) (of (network_of g).inductance_h) (of (network_of g).capacitance_f) d g.n_stations g.n_cables

  module _ (d : Drain) (y : List Float) where
    -- one rate by the tables, and by the grid
    by_tables : ℕ → Float
    by_tables = derivative (end (network_of g).from) (end (network_of g).to) (of (network_of g).resistance_ohm) (of (network_of g).inductance_h) (of (network_of g).capacitance_f) d g.n_stations g.n_cables y

    by_grid : ℕ → Float
    by_grid = derivative (from_of g) (to_of g) (resistance_of g) (inductance_of g) (capacitance_of g) d g.n_stations g.n_cables y

    rate_is : (i : ℕ) → i < g.n_stations + g.n_cables → by_tables i ≡ by_grid i
    unfolding by_tables by_grid
    rate_is i h =
        ⊎_elim
        (λ a. rw (lt-ltb i g.n_stations a, net_is y i, capacitance_is i a))
        (λ b. let l : i - g.n_stations < g.n_cables = omega arith in
        rw (le-ltb i g.n_stations b, from_is (i - g.n_stations) l, to_is (i - g.n_stations) l, resistance_is (i - g.n_stations) l, inductance_is (i - g.n_stations) l))
        (lt_or_le i g.n_stations)

    pub rates_by_tables : table_rates d y ≡ grid_derivatives g d y
    unfolding by_tables by_grid derivatives
    rates_by_tables = padded_same 96 (g.n_stations + g.n_cables) by_tables by_grid nought rate_is

    pub rates_are : slopes (network_of g) d y ≡ grid_derivatives g d y
    rates_are = rw (stations_in_lem, cables_in_lem) rates_by_tables

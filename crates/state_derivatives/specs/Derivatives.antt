-- 000's `state_derivatives`, entry by entry: n stations and m cables. Cable k goes from station `from k` to station `to k` and has the resistance r k and the
-- inductance l k; station i has the capacitance c i. The state y is voltages, then cable currents. Definitions only.
use Rattle.std.specs.Prelude.{ℕ, zero, suc, ◌+◌, ◌-◌, ◌||◌, cond, List, eqb, ltb, Float}
use Rattle.lists.specs.Tables.{padded}
use Rattle.float64.specs.Constants.{nought, kilo}
use Rattle.float64.specs.Arithmetic.{◌⊕◌, ◌⊖◌, ◌⊗◌, ◌⊘◌, of}
use Rattle.grid.specs.Cables.{cut}
use Rattle.network.specs.declared.network.Network.{Network}
use Rattle.network.specs.declared.network.Drain.{Drain}
use Rattle.network.specs.Network.{station_count, cable_count, end}

-- What a cable's current x makes of the sum s at station i: it comes in at the cable's second end, else it goes out at its first.
abbrev pub passed : ℕ → ℕ → Float → ℕ → Float → Float
passed from to x i s = cond (eqb to i) (s ⊕ x) (cond (eqb from i) (s ⊖ x) s)

-- the current into station i: from zero, cable after cable
abbrev pub net : (ℕ → ℕ) → (ℕ → ℕ) → ℕ → List Float → ℕ → ℕ → Float
net from to n y zero i = nought
net from to n y (suc k) i = passed (from k) (to k) (of y (n + k)) i (net from to n y k i)

-- V·1e3/(R·1e3), scaled by the fraction
abbrev pub drain_current : Drain → Float → Float
drain_current d v = v ⊗ kilo ⊘ d.resistance ⊗ d.fraction

-- The drain applies to both ends of the faulted cable.
abbrev pub drained : Drain → List Float → ℕ → Float → Float
drained d y i s = cond (eqb d.from i || eqb d.to i) (s ⊖ drain_current d (of y i)) s

-- dI/dt = (V_from - V_to - R·I)/L, an end past the count cut to the last station
abbrev pub cable_rate : (ℕ → ℕ) → (ℕ → ℕ) → (ℕ → Float) → (ℕ → Float) → ℕ → List Float → ℕ → Float
cable_rate from to r l n y k = (of y (cut n (from k)) ⊖ of y (cut n (to k)) ⊖ r k ⊗ of y (n + k)) ⊘ l k

module _ (from to : ℕ → ℕ) (r l c : ℕ → Float) (d : Drain) (n m : ℕ) (y : List Float) where
  -- dV/dt = (I_in - I_out - I_drain)/C
  abbrev pub station_rate : ℕ → Float
  station_rate i = drained d y i (net from to n y m i) ⊘ c i

  -- of number i of the state
  abbrev pub derivative : ℕ → Float
  derivative i = cond (ltb i n) (station_rate i) (cable_rate from to r l n y (i - n))

  unfoldable pub derivatives : List Float
  derivatives = padded 96 (n + m) derivative nought

module _ (w : Network) where
  abbrev pub stations_in : ℕ
  stations_in = station_count w.n_stations

  abbrev pub cables_in : ℕ
  cables_in = cable_count w.n_cables

  -- dy/dt
  abbrev pub slopes : Drain → List Float → List Float
  slopes d = derivatives (end w.from) (end w.to) (of w.resistance_ohm) (of w.inductance_h) (of w.capacitance_f) d stations_in cables_in

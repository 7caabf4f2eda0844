-- Currents, powers and mismatches at given voltages v, of n stations with the conductances m. Definitions only.
use Rattle.std.specs.Prelude.{ℕ, zero, suc, cond, List, eqb, get_or, Float}
use Rattle.std.specs.Float.Ieee.{neg}
use Rattle.lists.specs.Tables.{padded}
use Rattle.float64.specs.Constants.{nought}
use Rattle.float64.specs.Arithmetic.{◌⊖◌, ◌⊗◌, of, sum_of}
use Rattle.float64.specs.Choice.{max_of, abs_of}
use Rattle.grid.specs.Simulator.{blank_station, station_count}
use Rattle.grid.specs.declared.parts.ConverterStation.{ConverterStation}
use Rattle.grid.specs.declared.simulator.DcSwitchingSimulator.{DcSwitchingSimulator}
use Rattle.flow_voltages.specs.Constants.{loading}
use Rattle.conductances.specs.Conductances.{cell, conductances_of}

-- the current of station i: G(i,0)·V0 + G(i,1)·V1 + ..
unfoldable pub current : List Float → ℕ → List Float → ℕ → Float
current m n v i = sum_of (λ j. cell m i j ⊗ of v j) n

abbrev pub currents : List Float → ℕ → List Float → List Float
currents m n v = padded 32 n (current m n v) nought

-- its power: Vi times that
abbrev pub power : List Float → ℕ → List Float → ℕ → Float
power m n v i = of v i ⊗ current m n v i

-- The power that a station is to have: at 80 percent of rated it takes, so that this is negative. Station 0 has what is left, and no number of its own.
abbrev pub wanted : ConverterStation → Float
wanted s = neg s.p_rated_mw ⊗ loading

-- f 1, .., f (n - 1) and zero for station 0 and past the count
unfoldable pub but_first : ℕ → (ℕ → Float) → List Float
but_first n f = padded 32 n (λ i. cond (eqb i 0) nought (f i)) nought

abbrev pub wanted_powers : List ConverterStation → ℕ → List Float
wanted_powers stations n = but_first n (λ i. wanted (get_or stations i blank_station))

-- the mismatches of a pass, all at the same voltages
abbrev pub mismatches : List Float → List Float → ℕ → List Float → List Float
mismatches m p n v = but_first n (λ i. of p i ⊖ power m n v i)

-- the largest of stations 1 to k, without its sign: from zero, and a NaN is passed over
abbrev pub largest : List Float → ℕ → Float
largest d zero = nought
largest d (suc k) = max_of (largest d k) (abs_of (of d (suc k)))

-- a grid's currents at voltages v
abbrev pub currents_of : DcSwitchingSimulator → List Float → List Float
currents_of g v = currents (conductances_of g) (station_count g.n_stations) v

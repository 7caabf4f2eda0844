-- A small grid, and a way to read its conductances: the worked examples of the definitions compute on these.
use mathlib.Core.Path.{◌≡◌, refl}
use mathlib.Core.List.{List, [], ◌∷◌, ◌++◌}
use Prim.Native.Nat.{ℕ, zero, suc, ◌+◌, ◌/◌, ◌%◌}
use native.Mathlib.Nat.{add-zero, add-suc, zero-add, suc-add}
use lib.Ieee.{Float, binary64, of_bits}
use Rattle.lists.specs.Tables.{tab}
use Rattle.float64.specs.Constants.{nought, decimal}
use Rattle.grid.specs.declared.parts.ConverterTopology.{ConverterTopology}
use Rattle.grid.specs.declared.parts.ConverterTopology.TheVariants.{Lcc, TwoLevelVsc, Hybrid}
use Rattle.grid.specs.declared.parts.ConverterStation.{ConverterStation}
use Rattle.grid.specs.declared.parts.DcCable.{DcCable}
use Rattle.grid.specs.declared.simulator.DcSwitchingSimulator.{DcSwitchingSimulator}
use Rattle.conductances.specs.Conductances.{entry, matrix}

unfoldable pub double : ℕ → Float
double n = of_bits binary64 n

-- a station of 100 kV and a fraction of MW
unfoldable pub station : ConverterTopology → (mw parts : ℕ) → ConverterStation
station t mw parts =
    record {
      id = 5;
      topology = t;
      v_dc_rated_kv = decimal 100 1;
      p_rated_mw = decimal mw parts;
      x_transformer_pu = nought;
      scr = nought;
      control_angle_deg = decimal 30 1;
      x_commutation_pu = decimal 1 10;
      arm_inductance_mh = nought;
      sm_capacitance_uf = nought;
    }

unfoldable pub cable : (from to ohms : ℕ) → DcCable
cable from to ohms = record { id = 0; from_station = from; to_station = to; r_per_km = decimal ohms 1; l_per_km = nought; c_per_km = nought; length_km = decimal 1 1 }

unfoldable pub grid : List ConverterStation → ℕ → List DcCable → ℕ → DcSwitchingSimulator
grid stations n cables k =
    record { stations = stations; cables = cables; breakers = []; n_stations = n; n_cables = k; n_breakers = 0; dt_us = nought; duration_ms = nought }

-- A matrix from its front, an entry computed when it is read: so the examples compute the few that they look at, not all 1024.
unfoldable pub cells : (n k : ℕ) → (ℕ → Float) → List Float
cells zero k f = []
cells (suc n) k f = let x = f k in x ∷ cells n (suc k) f

cells_more : (n k : ℕ) (f : ℕ → Float) → cells n k f ++ (f (k + n) ∷ []) ≡ cells (suc n) k f
unfolding cells
cells_more zero k f = rw add-zero
cells_more (suc n) k f = rw (add-suc, ← suc-add, cells_more n (suc k) f)

tab_cells : (n : ℕ) (f : ℕ → Float) → tab n f ≡ cells n 0 f
unfolding tab cells
tab_cells zero f = refl
tab_cells (suc n) f = rw (tab_cells n f) (rw zero-add at (cells_more n 0 f))

unfoldable pub read : ℕ → List DcCable → List Float
read n cables = cells 1024 0 (λ k. entry n cables (k / 32) (k % 32))

pub matrix-read : (n : ℕ) (cables : List DcCable) → matrix n cables ≡ read n cables
unfolding matrix read
matrix-read n cables = tab_cells 1024 (λ k. entry n cables (k / 32) (k % 32))

-- Three stations: two cables side by side, one from a station to itself, one with an end past the count, and one that closes the ring. So light a load that two passes meet it.
unfoldable pub stations : List ConverterStation
stations = station Lcc 0 1 ∷ station TwoLevelVsc 1 1048576 ∷ station Hybrid 3 1048576 ∷ []

unfoldable pub cables : List DcCable
cables = cable 0 1 10 ∷ cable 1 2 20 ∷ cable 2 1 30 ∷ cable 1 1 700 ∷ cable 0 9 5 ∷ cable 2 0 8 ∷ []

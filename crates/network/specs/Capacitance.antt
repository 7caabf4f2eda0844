-- 000's `station_capacitance_uf`. Definitions only.
use Rattle.std.specs.Prelude.{ℕ, cond, ◌||◌, List, pos, ◌==◌, Float}
use mathlib.Core.List.{foldl}
use Rattle.std.specs.Float.{binary64}
use Rattle.std.specs.Float.Ieee.{of_int}
use Rattle.float64.specs.Constants.{nought, one, half}
use Rattle.float64.specs.Arithmetic.{◌⊕◌, ◌⊗◌, ◌⊘◌}
use Rattle.float64.specs.Choice.{max_of}
use Rattle.grid.specs.Parts.{submodules_of}
use Rattle.grid.specs.declared.parts.ConverterTopology.{ConverterTopology}
use Rattle.grid.specs.declared.parts.ConverterTopology.TheVariants.{Lcc, TwoLevelVsc, Mmc, Hybrid}
use Rattle.grid.specs.declared.parts.ConverterStation.{ConverterStation}
use Rattle.grid.specs.declared.parts.DcCable.{DcCable}
use Rattle.network.specs.Constants.{six, frequency, million, least_microfarads}

-- of an MMC: C_sm·N/6, in microfarads. "the code multiplies"
abbrev pub mmc_capacitance : Float → ℕ → Float
mmc_capacitance c n = c ⊗ of_int binary64 (pos (submodules_of n)) ⊘ six

-- of every other converter: P/(V·V·314), from megawatts and kilovolts
abbrev pub rated_capacitance : Float → Float → Float
rated_capacitance v p = max_of p one ⊘ (max_of v one ⊗ max_of v one ⊗ frequency) ⊗ million

abbrev pub by_topology : ConverterTopology → Float → Float → Float → Float
by_topology Lcc v p c = rated_capacitance v p
by_topology TwoLevelVsc v p c = rated_capacitance v p
by_topology (Mmc n) v p c = mmc_capacitance c n
by_topology Hybrid v p c = rated_capacitance v p

unfoldable pub own_capacitance : ConverterStation → Float
own_capacitance s = by_topology s.topology s.v_dc_rated_kv s.p_rated_mw s.sm_capacitance_uf

-- half of a cable's
abbrev pub half_of : DcCable → Float
half_of c = c.c_per_km ⊗ c.length_km ⊗ half

-- Capacitance matches cable ends against station id.
abbrev pub with_cable : ℕ → Float → DcCable → Float
with_cable id sum c = cond (c.from_station == id || c.to_station == id) (sum ⊕ half_of c) sum

-- its cables' halves, added up from zero in the cables' order
unfoldable pub joined_capacitance : ℕ → List DcCable → Float
joined_capacitance id cables = foldl (with_cable id) nought cables

-- the converter's own and these; at least 0.01
abbrev pub capacitance_with : ConverterStation → Float → Float
capacitance_with s joined = max_of (own_capacitance s ⊕ joined) least_microfarads

abbrev pub capacitance_at : List DcCable → ConverterStation → Float
capacitance_at cables s = capacitance_with s (joined_capacitance s.id cables)

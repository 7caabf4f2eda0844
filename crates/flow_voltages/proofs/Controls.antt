-- Worked examples of the definitions: they are believed, so a wrong clause need break no other proof. The answers are the published Rust's.
use mathlib.Core.Path.{◌≡◌, refl, ap, ◌∙◌}
use mathlib.Core.Bool.{Bool, true}
use mathlib.Core.List.{[], ◌∷◌}
use Prim.Native.Nat.{ℕ}
use lib.Ieee.{Float, of_bits, of_int, round, neg, add, sub, mul, div, lt, eq, is_nan}
use Rattle.lists.specs.Tables.{tab, padded}
use Rattle.float64.specs.Constants.{nought}
use Rattle.float64.specs.Arithmetic.{of}
use Rattle.float64.specs.Choice.{max_of, abs_of, clamp_of}
use Rattle.grid.specs.declared.parts.ConverterTopology.TheVariants.{Lcc, TwoLevelVsc}
use Rattle.grid.specs.declared.simulator.DcSwitchingSimulator.{DcSwitchingSimulator}
use Rattle.grid.specs.Simulator.{cables_of}
use Rattle.flow_voltages.specs.declared.voltages.Voltages.{Voltages}
use Rattle.conductances.specs.Conductances.{entry, matrix}
use Rattle.flow_voltages.specs.Balance.{current, but_first}
use Rattle.voltage_moves.specs.Moves.{moved, moved_of_two, divisor, moved_to}
use Rattle.flow_voltages.specs.Voltages.{passes, voltages, voltages_of}
use Rattle.conductances.proofs.Samples.{double, station, cable, grid, cells, read, matrix-read, stations, cables}

-- two stations, 40 MW at the second, 10 ohms between them
two_stations : DcSwitchingSimulator
two_stations = grid (station Lcc 0 1 ∷ station TwoLevelVsc 40 1 ∷ []) 2 (cable 0 1 10 ∷ []) 1

-- whether and in which pass it stopped, and the voltages of stations 1 and 2
looked : Voltages → Bool × ℕ × Float × Float
looked found = (found.converged, found.iterations, of found.v_dc_kv 1, of found.v_dc_kv 2)

two_are : looked (voltages_of two_stations) ≡ (true, 4, double 0x40582c30a995f2fd, nought)
unfolding two_stations grid station cable double looked voltages passes read cells entry tab padded current but_first moved moved_of_two max_of abs_of is_nan lt eq of_bits of_int round neg add sub mul div
two_are = ap (λ m. looked (voltages two_stations.stations 2 m)) (matrix-read 2 (cables_of two_stations)) ∙ refl

three_are : looked (voltages stations 3 (matrix 3 cables)) ≡ (true, 2, double 0x4058ffffffd350fd, double 0x4058ffffff8a0903)
unfolding stations cables station cable double looked voltages passes read cells entry tab padded current but_first moved divisor moved_to max_of abs_of clamp_of is_nan lt eq of_bits of_int round neg add sub mul div
three_are = ap (λ m. looked (voltages stations 3 m)) (matrix-read 3 cables) ∙ refl

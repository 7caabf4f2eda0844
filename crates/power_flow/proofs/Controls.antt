-- Worked examples of the definitions: they are believed, so a wrong clause need break no other proof. The answers are the published Rust's.
use mathlib.Core.Path.{◌≡◌, refl, ap, ◌∙◌}
use mathlib.Core.Bool.{false}
use mathlib.Core.List.{List, [], ◌∷◌}
use Prim.Native.Nat.{ℕ}
use lib.ListN.{length, replicate}
use lib.Ieee.{Float, of_bits, of_int, round, neg, add, sub, mul, div, lt, eq, is_nan, size}
use Rattle.float64.specs.Choice.{max_of, min_of, abs_of, clamp_of}
use Rattle.square_root.specs.Root.{root_of, floor_root, nearest_root}
use Rattle.elementary.specs.Wave.{C, series}
use Rattle.converter.specs.declared.point.ConverterOperatingPoint.{ConverterOperatingPoint}
use Rattle.converter.specs.Lcc.{lcc_point}
use Rattle.converter.specs.Vsc.{vsc_point, modulation, loss_factor}
use Rattle.conductances.specs.Conductances.{entry, matrix}
use Rattle.flow_voltages.specs.Balance.{current}
use Rattle.conductances.proofs.Samples.{double, station, cable, cells, read, matrix-read, stations, cables}
use Rattle.power_flow.specs.Solution.{is_lcc, operating_point, point_of, cable_loss, loss_of, total_losses}
use Rattle.power_flow.specs.Flow.{blank_solution}

-- points and losses at the voltages that the passes find
found : List Float
found = double 0x4059000000000000 ∷ double 0x4058ffffffd350fd ∷ double 0x4058ffffff8a0903 ∷ []

point : (p v i angle factor losses : ℕ) → ConverterOperatingPoint
point p v i angle factor losses =
    record { station_id = 5; p_dc_mw = double p; v_dc_kv = double v; i_dc_ka = double i; firing_angle_deg = double angle; power_factor = double factor; losses_mw = double losses }

points_read : (k : ℕ) → point_of stations 3 (matrix 3 cables) found k ≡ point_of stations 3 (read 3 cables) found k
points_read k = rw (matrix-read 3 cables)

points-are
    : (point_of stations 3 (matrix 3 cables) found 0 ≡ point 0x3ebe0595c4000000 0x4059000000000000 0x3e5336c640000000 0x403e000000000000 0x3fe6c0f735f1fbf9 0x3e2b817aee53f0dd)
    × (point_of stations 3 (matrix 3 cables) found 1 ≡ point 0x3e847ae08fdb652b 0x4058ffffffd350fd 0x3e1a36e200000000 0x404ca5dc1a63c1f8 0x3ff0000000000000 0x3e347c7e01391c6d)
    × (point_of stations 3 (matrix 3 cables) found 2 ≡ point 0xbec04a78d1b3213f 0x4058ffffff8a0903 0xbe54da3440000000 0x404ca5dc1a63c1f8 0x3ff0000000000000 0x3e48ae43e1b89764)
unfolding stations cables found station cable point double read cells entry current is_lcc operating_point lcc_point vsc_point modulation loss_factor root_of floor_root nearest_root size C series max_of min_of abs_of clamp_of is_nan lt eq of_bits of_int round neg add sub mul div
points-are = (points_read 0 ∙ refl, points_read 1 ∙ refl, points_read 2 ∙ refl)

losses_are
    : (loss_of cables 3 found 0 ≡ double 0x3ca8f5355d201ccd)
    × (loss_of cables 3 found 1 ≡ double 0x3cb0c81a40801cce)
    × (loss_of cables 3 found 2 ≡ double 0x3ca6602300aad111)
    × (loss_of cables 3 found 3 ≡ double 0)
    × (loss_of cables 3 found 4 ≡ double 0x3ce5be470548d066)
    × (loss_of cables 3 found 5 ≡ double 0x3cdb2dd8c69b0480)
    × (total_losses stations 3 cables 6 (matrix 3 cables) found ≡ double 0x3e54e6711fbc2956)
unfolding stations cables found station cable double read cells entry current cable_loss total_losses is_lcc operating_point lcc_point vsc_point modulation loss_factor root_of floor_root nearest_root size C series max_of min_of abs_of clamp_of is_nan lt eq of_bits of_int round neg add sub mul div
losses_are = (refl, refl, refl, refl, refl, refl, ap (λ m. total_losses stations 3 cables 6 m found) (matrix-read 3 cables) ∙ refl)

-- beside a refusal
blank_is
    : (length blank_solution.operating_points ≡ 32)
    × (blank_solution.cable_losses_mw ≡ replicate 64 (double 0))
    × (blank_solution.total_losses_mw ≡ double 0)
    × (blank_solution.converged ≡ false)
    × (blank_solution.iterations ≡ 0)
unfolding double of_bits
blank_is = (refl, refl, refl, refl, refl)

-- Document 01's examples marked P, by computation. Assumes nothing.
use mathlib.Core.Path.{refl}
use lib.Ieee.{size, of_bits, to_bits, of_int, round, neg, add, sub, mul, div, lt, le, eq, is_nan}
use Rattle.float64.specs.Choice.{max_of, clamp_of}
use Rattle.square_root.specs.Root.{floor_root, nearest_root, root_of}
use Rattle.elementary.specs.Exponential.{terms, squared, E}
use Rattle.float64.specs.Whole.{whole_part}
use Rattle.elementary.specs.Wave.{reduced_angle, series, S, C}
use Rattle.ranges.specs.Ranges.{real_in}
use Rattle.grid.specs.Simulator.{new_simulator, kept_time_step, kept_duration}
use Rattle.timing.specs.Steps.{rounded_up, steps_of}
use Rattle.breaker_times.specs.Breakers.{clearing_time_of}
use Rattle.examples.specs.Examples.{Examples}

pub examples : Examples
unfolding size of_bits to_bits of_int round neg add sub mul div lt le eq is_nan max_of clamp_of floor_root nearest_root root_of terms squared E whole_part reduced_angle series S C real_in new_simulator kept_time_step kept_duration rounded_up steps_of clearing_time_of
examples =
    record {
      root = refl;
      exponential_of_0 = refl;
      exponential_of_minus_701 = refl;
      sine_of_0 = refl;
      cosine_of_0 = refl;
      maximum = refl;
      solid_state = λ loss. refl;
      hybrid = refl;
      steps = refl;
      submodules = refl;
    }

-- Worked examples of the definitions: they are believed, so a wrong clause need break no other proof. The answers were written by hand from document 01.
use mathlib.Core.Path.{◌≡◌, refl}
use Rattle.float64.specs.Constants.{nought}
use Rattle.power_flow.specs.Flow.{blank_solution}
use Rattle.runs.specs.Blank.{blank_grid}
use Rattle.case_steps.specs.OpenCases.{no_case}
use Rattle.sweep_start.specs.Start.{blank_sweep}

-- beside a refusal stands a sweep in which all is zero and false
blank_is
    : blank_sweep
    ≡ record {
      grid = blank_grid;
      order = record { fault_resistance = nought; inception_time_ms = nought; low_tenth = 0; high_tenth = 0 };
      flow = blank_solution;
      case_number = 0;
      steps_made = 0;
      open_case = no_case;
    }
blank_is = refl

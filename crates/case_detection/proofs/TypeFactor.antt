-- A plan with another type factor. Definition only: that it is detected alike stands in `TypeFree`, so that another definition is refused there.
use lib.Ieee.{Float}
use Rattle.fault_plan.specs.declared.plan.FaultPlan.{FaultPlan}

-- a plan with another type factor
abbrev pub with_factor : FaultPlan → Float → FaultPlan
with_factor p x =
    let k = p.constants in
    let z = k.circuit in
    record {
      constants =
          record {
            n_stations = k.n_stations;
            drain = k.drain;
            circuit =
                record {
                  response = z.response;
                  resistance_factor = z.resistance_factor;
                  type_factor = x;
                  decay_tau_s = z.decay_tau_s;
                  inception_time_ms = z.inception_time_ms;
                  r_total_ohm = z.r_total_ohm;
                  r_fault_ohm = z.r_fault_ohm;
                };
            dt_ms = k.dt_ms;
            duration_ms = k.duration_ms;
            breaker_clear_ms = k.breaker_clear_ms;
          };
      network = p.network;
      rated_kv = p.rated_kv;
    }

-- `site_ends` meets its contract. Assumes nothing.
use Prim.Native.Nat.{◌-◌}
use mathlib.Core.Path.{ap, ◌∙◌}
use Rattle.grid.specs.declared.parts.DcFaultType.TheVariants.{PoleToGround, PoleToPole, ConverterInternal}
use Rattle.fault_circuit.specs.Circuit.{type_factor}
use Rattle.case_steps.specs.declared.open_case.OpenCase.{OpenCase}
use Rattle.case_steps.specs.Plans.{plan_case_from}
use Rattle.case_ends.specs.Ends.{site_of}
use Rattle.case_ends.proofs.Ways.{site_way}
use Rattle.case_ends.proofs.ends.site_ends.Goals as goal

pub returns : goal.returns
unfolding site_of type_factor
returns c =
    let shown = c.is_detected_within-detected.ensures ∙ ap (λ (x : OpenCase). (plan_case_from c.args.plan 0 x (c.args.window.to - 0)).detected) c.first_open_case.ensures in
    λ i.
    record {
      to_ground = site_way c.args.g c.args.plan c.args.window PoleToGround c.site_sums-sums.ensures.0 shown c.outcome_from-ground.ensures i;
      pole = site_way c.args.g c.args.plan c.args.window PoleToPole c.site_sums-sums.ensures.1 shown c.outcome_from-pole.ensures i;
      internal = site_way c.args.g c.args.plan c.args.window ConverterInternal c.site_sums-sums.ensures.2 shown c.outcome_from-internal.ensures i;
    }

-- The claims of specs/Claims. Assumes nothing.
use Prim.Native.Nat.{ℕ, ◌≤◌, ◌<◌}
use mathlib.Core.Path.{◌≡◌, refl, sym, ap, ◌∙◌}
use mathlib.Core.Bool.{true, false}
use mathlib.Core.Logic.{⊎_elim}
use native.Mathlib.Omega.{arith}
use borrow.Author.Tests.{eq-eqb, ne_eqb}
use lib.ListN.{get_or, get_or-replicate}
use Rattle.lists.proofs.Fills.{get_d_padded, get_d_rest}
use Rattle.lists.proofs.Counting.{eq_or_ne}
use Rattle.float64.specs.Constants.{nought}
use Rattle.float64.specs.Arithmetic.{of}
use Rattle.grid.specs.Simulator.{station_count, cable_count}
use Rattle.grid.specs.declared.simulator.DcSwitchingSimulator.{DcSwitchingSimulator}
use Rattle.rules.specs.Studies.{flow_refusal}
use Rattle.rule_claims.proofs.Sizes.{size_claims}
use Rattle.converter.specs.Point.{blank_point}
use Rattle.conductances.specs.Conductances.{conductances_of}
use Rattle.flow_voltages.specs.Voltages.{voltages_of}
use Rattle.pass_claims.proofs.Claims.{pass_claims, counted, first_pass}
use Rattle.power_flow.specs.Flow.{solution_at, solution_of, blank_solution, flow_answer}
use Rattle.power_flow.specs.Solution.{operating_point, point_of}
use Rattle.flow_claims.specs.Claims.{AnswerStops, AnswerSpent, AnswerClaims}

accepted : (g : DcSwitchingSimulator) → flow_refusal g ≡ 0 → flow_answer g ≡ solution_of g
unfolding flow_answer
accepted g h = rw (eq-eqb (flow_refusal g) 0 h)

refused : (g : DcSwitchingSimulator) → (flow_refusal g ≡ 0 → ⊥) → flow_answer g ≡ blank_solution
unfolding flow_answer
refused g h = rw (ne_eqb (flow_refusal g) 0 h)

same_count : (g : DcSwitchingSimulator) → flow_refusal g ≡ 0 → ((flow_answer g).iterations ≡ (voltages_of g).iterations) × ((flow_answer g).converged ≡ (voltages_of g).converged)
unfolding solution_at
same_count g h = rw (accepted g h) (refl, refl)

-- an accepted answer's points are at the voltages that the passes find
at_voltages : (g : DcSwitchingSimulator) → flow_refusal g ≡ 0 → (i : ℕ) → i < g.n_stations → (get_or (flow_answer g).operating_points i blank_point).v_dc_kv ≡ of (voltages_of g).v_dc_kv i
unfolding solution_at operating_point
at_voltages g h i l =
    let z = (size_claims.flow g h).stations in
    rw (accepted g h, get_d_padded 32 (station_count g.n_stations) (point_of g.stations (station_count g.n_stations) (conductances_of g) (voltages_of g).v_dc_kv) blank_point blank_point i (omega arith) (omega arith))

stops : (g : DcSwitchingSimulator) → flow_refusal g ≡ 0 → (flow_answer g).converged ≡ true → AnswerStops g (flow_answer g)
stops g h c =
    let s = pass_claims.converged g (sym (same_count g h).1 ∙ c) in
    record {
      k = s.k;
      number = (same_count g h).0 ∙ s.number;
      within_50 = s.within_50;
      voltages = λ i l. at_voltages g h i l ∙ ap (λ v. of v i) s.voltages;
      below = s.below;
      not_before = s.not_before;
    }

spent : (g : DcSwitchingSimulator) → flow_refusal g ≡ 0 → (flow_answer g).converged ≡ false → AnswerSpent g (flow_answer g)
spent g h c =
    let s = pass_claims.not_converged_lem g (sym (same_count g h).1 ∙ c) in
    record {
      number = (same_count g h).0 ∙ s.number;
      voltages = λ i l. at_voltages g h i l ∙ ap (λ v. of v i) s.voltages;
      never_below = s.never_below;
    }

-- past the counts, whether the grid is accepted or not
no_point_past : (g : DcSwitchingSimulator) (k : ℕ) → g.n_stations ≤ k → k < 32 → get_or (flow_answer g).operating_points k blank_point ≡ blank_point
unfolding solution_at
no_point_past g k l h =
    ⊎_elim
    (λ e. rw (accepted g e) (get_d_rest 32 (station_count g.n_stations) _ blank_point blank_point k (omega arith) h))
    (λ d. rw (refused g d) (get_or-replicate 32 k blank_point blank_point h))
    (eq_or_ne (flow_refusal g) 0)

no_loss_past : (g : DcSwitchingSimulator) (k : ℕ) → g.n_cables ≤ k → k < 64 → get_or (flow_answer g).cable_losses_mw k nought ≡ nought
unfolding solution_at
no_loss_past g k l h =
    ⊎_elim
    (λ e. rw (accepted g e) (get_d_rest 64 (cable_count g.n_cables) _ nought nought k (omega arith) h))
    (λ d. rw (refused g d) (get_or-replicate 64 k nought nought h))
    (eq_or_ne (flow_refusal g) 0)

pub answer_claims : AnswerClaims
answer_claims =
    record {
      refused = refused;
      stops = stops;
      spent = spent;
      passes = λ g h. rw (same_count g h).0 (counted g);
      one_station = λ g h e. ((same_count g h).1 ∙ (first_pass g e).0, (same_count g h).0 ∙ (first_pass g e).1);
      no_station_lem = no_point_past;
      no_cable_lem = no_loss_past;
    }

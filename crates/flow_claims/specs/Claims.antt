-- What document 01.2 says of the flow in words, and what a reader expects beside the definitions. The proofs are in proofs/Claims.antt.
use Rattle.std.specs.Prelude.{ℕ, suc, ◌≤◌, ◌<◌, ◌≡◌, true, false, get_or}
use Rattle.std.specs.Float.Ieee.{lt}
use Rattle.float64.specs.Constants.{nought}
use Rattle.float64.specs.Arithmetic.{of}
use Rattle.grid.specs.declared.simulator.DcSwitchingSimulator.{DcSwitchingSimulator}
use Rattle.rules.specs.Studies.{flow_refusal}
use Rattle.converter.specs.Point.{blank_point}
use Rattle.flow_voltages.specs.Constants.{tolerance}
use Rattle.pass_claims.specs.Claims.{voltages_after, mismatch_after}
use Rattle.power_flow.specs.declared.flow.DcGridSolution.{DcGridSolution}
use Rattle.power_flow.specs.Flow.{blank_solution, flow_answer}

-- "it stops in the first pass whose largest mismatch is below 1e-6 and returns that pass's number", said of an answer: k passes moved the voltages, the one after them is the answer's, and the
-- answer's points are at those voltages
pub record AnswerStops (g : DcSwitchingSimulator) (s : DcGridSolution) : Type 0 where
  pub k : ℕ
  pub number : s.iterations ≡ suc k
  pub within_50 : k < 50
  pub voltages : (i : ℕ) → i < g.n_stations → (get_or s.operating_points i blank_point).v_dc_kv ≡ of (voltages_after g k) i
  pub below : lt (mismatch_after g k) tolerance ≡ true
  pub not_before : (j : ℕ) → j < k → lt (mismatch_after g j) tolerance ≡ false

-- "At most 50 passes", said of an answer
pub record AnswerSpent (g : DcSwitchingSimulator) (s : DcGridSolution) : Type 0 where
  pub number : s.iterations ≡ 50
  pub voltages : (i : ℕ) → i < g.n_stations → (get_or s.operating_points i blank_point).v_dc_kv ≡ of (voltages_after g 50) i
  pub never_below : (j : ℕ) → j < 50 → lt (mismatch_after g j) tolerance ≡ false

-- what a caller learns of the answer
pub record AnswerClaims : Type 0 where
  pub refused : (g : DcSwitchingSimulator) → (flow_refusal g ≡ 0 → ⊥) → flow_answer g ≡ blank_solution
  pub stops : (g : DcSwitchingSimulator) → flow_refusal g ≡ 0 → (flow_answer g).converged ≡ true → AnswerStops g (flow_answer g)
  pub spent : (g : DcSwitchingSimulator) → flow_refusal g ≡ 0 → (flow_answer g).converged ≡ false → AnswerSpent g (flow_answer g)
  pub passes : (g : DcSwitchingSimulator) → flow_refusal g ≡ 0 → (1 ≤ (flow_answer g).iterations) × ((flow_answer g).iterations ≤ 50)
  -- "one station, no cable: converged in pass 1", and with any cables
  pub one_station : (g : DcSwitchingSimulator) → flow_refusal g ≡ 0 → g.n_stations ≡ 1 → ((flow_answer g).converged ≡ true) × ((flow_answer g).iterations ≡ 1)
  -- zeros past the counts
  pub no_station_lem : (g : DcSwitchingSimulator) (k : ℕ) → g.n_stations ≤ k → k < 32 → get_or (flow_answer g).operating_points k blank_point ≡ blank_point
  pub no_cable_lem : (g : DcSwitchingSimulator) (k : ℕ) → g.n_cables ≤ k → k < 64 → get_or (flow_answer g).cable_losses_mw k nought ≡ nought

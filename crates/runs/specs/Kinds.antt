-- A kind of run, fault runs or switching runs: what an advance reads of a run, and what it returns. Definitions only.
use Rattle.std.specs.Prelude.{ℕ, ◌≡◌, ◌+◌, ◌-◌, ◌^◌, ◌≤◌, min, Bool, cond, List, [], ◌∷◌, eqb, length, Float}
use Rattle.grid.specs.declared.simulator.DcSwitchingSimulator.{DcSwitchingSimulator}
use Rattle.timing.specs.Steps.{steps_of, recorded, record_length}
use Rattle.timing.specs.Claims.{Steps}
use Rattle.rule_claims.specs.Claims.{Sizes}
use Rattle.portions.specs.Stopping.{Stepper, answer_of}
use Rattle.state_derivatives.specs.declared.state.DcTransientState.{DcTransientState}
use Rattle.records.specs.Records.{record_of}
use Rattle.runs.specs.declared.stepping.Advanced.{Advanced}

-- what is read of a run, and the run after one more step
pub record RunKind (K : Type 0) : Type 0 where
  -- rule 11
  pub refused : K → Bool
  pub grid : K → DcSwitchingSimulator
  pub steps_made : K → ℕ
  pub state : K → DcTransientState
  pub next : K → K

module _ {K : Type 0} (k : RunKind K) where
  abbrev pub run_stepper : Stepper Float
  run_stepper =
      record {
        Kept = K;
        refused = k.refused;
        size = λ r. record_length (k.grid r);
        ended = λ r. eqb (k.steps_made r) (steps_of (k.grid r));
        wants_room = λ r. recorded (steps_of (k.grid r)) (k.steps_made r);
        items = λ r. cond (recorded (steps_of (k.grid r)) (k.steps_made r)) (record_of (k.grid r) (k.state (k.next r)) ∷ []) [];
        next = k.next;
      }

  -- what `advance` returns; the lent memory after it is `memory_of run_stepper`
  unfoldable pub advanced_run : K → (allowance : ℕ) → List Float → Advanced K
  advanced_run r allowance lent =
      let x = answer_of run_stepper r allowance lent in
      record { stop = x.stop; steps = x.steps; records = length x.items; run = x.kept }

-- what an advance takes for granted of a run that is not refused: its steps and parts can be counted, and it is not past its last step
pub record Ready (g : DcSwitchingSimulator) (made : ℕ) : Type 0 where
  pub steps : Steps (steps_of g)
  pub sizes : Sizes g
  pub not_past : made ≤ steps_of g

-- the steps made after one more: counted up to the largest u64, where the count stays
abbrev pub counted_up : ℕ → ℕ
counted_up made = min (made + 1) (2 ^ 64 - 1)

-- what a step by a plan of the run makes of both: the run is the next, of the same grid and with one more step made, and the plan is one of that run
pub record Stepped {K P : Type 0} (k : RunKind K) (is_planned : K → P → Type 0) (before after : K) (plan : P) : Type 0 where
  pub next : after ≡ k.next before
  pub grid : k.grid after ≡ k.grid before
  pub counted : k.steps_made after ≡ k.steps_made before + 1
  pub planned : is_planned after plan

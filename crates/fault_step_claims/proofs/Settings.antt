-- Two settings that agree give the same body. Assumes nothing.
use Prim.Native.Nat.{ℕ, ◌<◌}
use mathlib.Core.Path.{◌≡◌, ap, ◌∙◌}
use mathlib.Core.Bool.{not}
use lib.Ieee.{Float, nan, le}
use Rattle.lists.proofs.Places.{over_same}
use Rattle.lists.proofs.Scanning.{some_same}
use Rattle.float64.specs.Arithmetic.{◌⊗◌, of}
use Rattle.state_derivatives.specs.declared.state.DcTransientState.{DcTransientState}
use Rattle.run_start.specs.Start.{time_at}
use Rattle.fault_plan.specs.declared.variables.FaultVariables.{FaultVariables}
use Rattle.recovery.specs.Constants.{recovered_part}
use Rattle.recovery.specs.Recovery.{recovering}
use Rattle.fault_plan.specs.Fault.{Setting, body, while_faulted, after_clearing, before_inception}

-- a setting with other rated voltages
abbrev with_rated : Setting → (ℕ → Float) → Setting
with_rated z r =
    record {
      stations = z.stations;
      rated = r;
      dt = z.dt;
      duration = z.duration;
      clear = z.clear;
      inception = z.inception;
      resistance = z.resistance;
      rk4 = z.rk4;
      current = z.current;
      left = z.left;
    }

module _ (z : Setting) (r r' : ℕ → Float) (same : (i : ℕ) → i < z.stations → r i ≡ r' i) where
  cleared_same : (t : Float) (v : FaultVariables) → after_clearing (with_rated z r) t v ≡ after_clearing (with_rated z r') t v
  unfolding after_clearing
  cleared_same t v =
      rw (
        over_same z.stations nan (λ i. recovering (r i) (of v.state.y i)) (λ i. recovering (r' i) (of v.state.y i)) v.state.y (λ k l. ap (λ (x : Float). recovering x (of v.state.y k)) (same k l)),
        some_same (λ i. not (le (recovered_part ⊗ r i) (of v.state.y i))) (λ i. not (le (recovered_part ⊗ r' i) (of v.state.y i))) z.stations (λ k l. ap (λ (x : Float). not (le (recovered_part ⊗ x) (of v.state.y k))) (same k l)),
      )

  rated_same : (step : ℕ) (v : FaultVariables) → body (with_rated z r) step v ≡ body (with_rated z r') step v
  unfolding body while_faulted before_inception
  rated_same step v = rw (cleared_same (time_at z.dt step) v)

pub record Agree (z z' : Setting) : Type 0 where
  pub stations : z.stations ≡ z'.stations
  pub rated : (i : ℕ) → i < z'.stations → z.rated i ≡ z'.rated i
  pub dt : z.dt ≡ z'.dt
  pub duration : z.duration ≡ z'.duration
  pub clear : z.clear ≡ z'.clear
  pub inception : z.inception ≡ z'.inception
  pub resistance : z.resistance ≡ z'.resistance
  pub rk4 : (s : DcTransientState) → z.rk4 s ≡ z'.rk4 s
  pub current : (t : Float) → z.current t ≡ z'.current t
  pub left : (i c t : Float) → z.left i c t ≡ z'.left i c t

pub body_same : (z z' : Setting) → Agree z z' → (step : ℕ) (v : FaultVariables) → body z step v ≡ body z' step v
body_same z z' a step v =
    let p : z ≡ with_rated z' z.rated =
    λ i.
    record {
      stations = a.stations i;
      rated = z.rated;
      dt = a.dt i;
      duration = a.duration i;
      clear = a.clear i;
      inception = a.inception i;
      resistance = a.resistance i;
      rk4 = λ s. a.rk4 s i;
      current = λ t. a.current t i;
      left = λ x c t. a.left x c t i;
    }
    in
    ap (λ (q : Setting). body q step v) p ∙ rated_same z' z.rated z'.rated a.rated step v

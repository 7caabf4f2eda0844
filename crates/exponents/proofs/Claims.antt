-- The claims of specs/Claims. Assumes nothing.
use Prim.Native.Nat.{ℕ, ◌<◌}
use native.Mathlib.Omega.{arith}
use mathlib.Core.Path.{◌≡◌, sym, subst}
use mathlib.Core.Bool.{true}
use mathlib.Core.List.{List}
use lib.Dec.{T}
use lib.Ieee.{Float, le}
use lib.Ieee.Bits.{is_true}
use Rattle.lists.specs.Scans.{every}
use Rattle.lists.proofs.Scanning.{both, every_of}
use Rattle.float64.specs.Constants.{nought, one}
use Rattle.elementary.specs.Exponential.{E}
use Rattle.elementary.proofs.ExpBound.{E_between}
use Rattle.float64.proofs.Range.{UpTo, wider}
use Rattle.grid.specs.declared.parts.DcFaultEvent.{DcFaultEvent}
use Rattle.grid.specs.declared.simulator.DcSwitchingSimulator.{DcSwitchingSimulator}
use Rattle.ranges.proofs.InRange.{in_range}
use Rattle.timing.specs.Steps.{time_of_step, steps_of}
use Rattle.rules.specs.Studies.{fault_refusal}
use Rattle.fault_circuit.specs.Parameters.{parameters_of}
use Rattle.fault_circuit.specs.Circuit.{circuit_at, circuit_of}
use Rattle.fault_current.specs.Current.{seconds_since, exponents}
use Rattle.exponents.specs.Claims.{is_time, never_positive, in_unit, ExponentClaims, InRanges, InRangesClaims}
use Rattle.exponents.proofs.Ranges.{ranged}
use Rattle.exponents.proofs.Accepted.{of_fault, of_sweep, step_time}
use Rattle.exponents.proofs.Exponents.{seconds, never_during, never_after}

module _ (g : DcSwitchingSimulator) (f : DcFaultEvent) (h : InRanges g f) (clearing t : Float) (H : is_time t ≡ true) where
  never : every never_positive (exponents (circuit_of g f) clearing t) ≡ true
  unfolding circuit_at
  never =
      let p = parameters_of g f in
      let inception : UpTo 1000000000 f.inception_time_ms = wider 100000 1000000000 _ (omega arith) (in_range 100000 (omega arith) _ h.inception) in
      both _ _
      (never_after p (ranged g f h) clearing t)
      (never_during p (ranged g f h) (seconds_since f.inception_time_ms t) (seconds f.inception_time_ms t inception (in_range 1000000000 (omega arith) t H)))

in_unit_lem : (x : Float) → never_positive x ≡ true → in_unit x ≡ true
in_unit_lem x h =
    let b = E_between x (subst T (sym h) tt) in
    both (le nought (E x)) (le (E x) one) (is_true (le nought (E x)) b.0) (is_true (le (E x) one) b.1)

pub in_ranges_claims : InRangesClaims
in_ranges_claims = record { of_fault = of_fault; of_sweep = of_sweep; never_positive_lem = never; step_time = step_time }

at_steps : (g : DcSwitchingSimulator) (f : DcFaultEvent) → fault_refusal g f ≡ 0 → (clearing : Float) (k : ℕ) → k < steps_of g → every never_positive (exponents (circuit_of g f) clearing (time_of_step g k)) ≡ true
at_steps g f h clearing k K = let s = of_fault g f h in never g f s clearing _ (step_time g f s k K)

all_in_unit : (xs : List Float) → every never_positive xs ≡ true → every in_unit xs ≡ true
all_in_unit = every_of never_positive in_unit in_unit_lem

pub exponent_claims : ExponentClaims
exponent_claims =
    record {
      never_positive_lem = λ g f h. never g f (of_fault g f h);
      in_unit_lem = λ g f h c t H. all_in_unit (exponents (circuit_of g f) c t) (never g f (of_fault g f h) c t H);
      at_steps = at_steps;
      unit_at_steps = λ g f h c k K. all_in_unit (exponents (circuit_of g f) c _) (at_steps g f h c k K);
    }

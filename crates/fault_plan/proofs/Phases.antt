-- The phases of a fault run's step, as the code tests for them. Assumes nothing.
use Prim.Native.Nat.{ℕ, ◌<◌}
use mathlib.Core.Path.{◌≡◌, refl, sym, ap, ◌∙◌}
use mathlib.Core.Bool.{Bool, true, false, not, ◌&&◌, ◌||◌}
use borrow.Author.Tests.{not-true, not-false}
use lib.Ieee.{Float, nan, lt, le}
use Rattle.lists.specs.Scans.{each}
use Rattle.lists.specs.Tables.{over}
use Rattle.lists.proofs.Counting.{by-test, contrary}
use Rattle.lists.proofs.Scanning.{and_second, left, right, some_found}
use Rattle.lists.proofs.Fills.{upto_over, upto_kept}
use Rattle.float64.specs.Arithmetic.{of}
use Rattle.network.specs.Network.{station_count}
use Rattle.run_start.specs.Start.{time_at}
use Rattle.fault_plan.specs.declared.variables.FaultVariables.{FaultVariables}
use Rattle.fault_plan.specs.declared.plan.FaultPlan.{FaultPlan}
use Rattle.fault_plan.specs.Fault.{active_at, body, while_faulted, after_clearing, before_inception, all_recovered}
use Rattle.recovery.specs.Recovery.{recovering}
use Rattle.fault_plan.specs.Plans.{plan_setting, plan_step}
use Rattle.fault_plan.specs.Quiet.{waits_by, rests_by, quiet_step}

-- what `each` says of one place
each_at : (n : ℕ) (f : ℕ → Bool) → each n f ≡ true → (k : ℕ) → k < n → f k ≡ true
each_at n f h k l = by-test (f k) (λ e. e) (λ e. contrary h (ap not (some_found (λ i. not (f i)) n k l (ap not e))))

-- a test of three parts that fails
none_of : (a b c : Bool) → (a || b || c) ≡ false → (a ≡ false) × (b ≡ false) × (c ≡ false)
none_of false false c h = (refl, refl, h)
none_of false true c h = contrary refl h
none_of true b c h = contrary refl h

module _ (p : FaultPlan) (step : ℕ) (v : FaultVariables) where
  abbrev t : Float
  t = time_at p.constants.dt_ms step

  pub waiting : waits_by p.constants step v ≡ true → quiet_step p.constants step v ≡ plan_step p step v
  unfolding quiet_step plan_step body before_inception
  waiting h =
      let w = none_of v.fault_cleared v.fault_active (le p.constants.circuit.inception_time_ms t) (not-true _ h) in
      rw (w.0, w.1, w.2)

  pub cleared : v.fault_cleared ≡ true → after_clearing (plan_setting p) t v ≡ plan_step p step v
  unfolding plan_step body
  cleared h = rw (and_second (active_at (plan_setting p) t v) (not v.fault_cleared) (ap not h), h)

  pub faulted : waits_by p.constants step v ≡ false → v.fault_cleared ≡ false → while_faulted (plan_setting p) t v ≡ plan_step p step v
  unfolding plan_step body
  faulted w h =
      let either : (v.fault_cleared || v.fault_active || le p.constants.circuit.inception_time_ms t) ≡ true = not-false _ w in
      let active : active_at (plan_setting p) t v ≡ true = rw h at either in
      rw (active, h)

  -- the voltages stay where none is below its rated one
  kept : each (station_count p.constants.n_stations) (λ i. not (lt (of v.state.y i) (of p.rated_kv i))) ≡ true
      → over (station_count p.constants.n_stations) (λ i. recovering (of p.rated_kv i) (of v.state.y i)) nan v.state.y ≡ v.state.y
  kept h =
      let n = station_count p.constants.n_stations in
      let y = v.state.y in
      let r = p.rated_kv in
      let moved : ℕ → Float = λ i. recovering (of r i) (of y i) in
      sym (upto_kept n moved nan y (λ k l. rw (not-true (lt (of y k) (of r k)) (each_at n (λ i. not (lt (of y i) (of r i))) h k l))) ∙ upto_over n moved nan y)

  pub resting : rests_by p v ≡ true → quiet_step p.constants step v ≡ plan_step p step v
  unfolding rests_by quiet_step after_clearing
  resting h =
      let n = station_count p.constants.n_stations in
      let above = each n (λ i. not (lt (of v.state.y i) (of p.rated_kv i))) in
      let recovers = all_recovered (plan_setting p) v.state.y && le p.constants.duration_ms v.voltage_recovery_time_ms in
      let both = left (v.fault_cleared && above) (not recovers) h in
      let late = not-true recovers (right (v.fault_cleared && above) (not recovers) h) in
      let c = left v.fault_cleared above both in
      let y = kept (right v.fault_cleared above both) in
      let same : quiet_step p.constants step v ≡ after_clearing (plan_setting p) t v = rw (y, late, c) in
      same ∙ cleared c

  -- such a step changes nothing that the test reads
  pub still_resting : rests_by p (quiet_step p.constants step v) ≡ rests_by p v
  unfolding rests_by quiet_step
  still_resting = refl

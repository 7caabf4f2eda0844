-- The claims of specs/Claims. Assumes nothing.
use Prim.Native.Nat.{ℕ, suc, ◌+◌, ◌-◌, ◌≤◌, ◌<◌}
use native.Mathlib.Omega.{arith}
use mathlib.Core.Path.{◌≡◌, sym, ap, ◌∙◌}
use mathlib.Core.Bool.{true, false, cond}
use mathlib.Core.Logic.{◌⊎◌, inl, inr}
use lib.Dec.{ltb}
use borrow.Author.Tests.{lt-ltb, le-ltb}
use Rattle.lists.proofs.Counting.{by-test, lt_or_le}
use Rattle.fault_plan.specs.declared.plan.FaultPlan.{FaultPlan}
use Rattle.fault_window.specs.declared.steps.Window.{Window}
use Rattle.fault_window.specs.Window.{window_of}
use Rattle.fault_sums.specs.declared.steps.Sums.{Sums}
use Rattle.fault_sums.specs.Sums.{sum_step, sums_from}
use Rattle.case_steps.specs.declared.open_case.OpenCase.{OpenCase}
use Rattle.case_steps.specs.OpenCases.{outcome_in}
use Rattle.case_steps.specs.Plans.{plan_case_from, plan_case_step}
use Rattle.case_ends.specs.Ends.{window_by, sums_in, sums_at, end_by}
use Rattle.case_ends.specs.Claims.{EndClaims}
use Rattle.fault_window.proofs.Found.{Found, found}
use Rattle.case_ends.proofs.Ways.{cleared_end, lasting_end}
use Rattle.case_ends.proofs.Phases.{active, clears, current, heat, Same, waiting, Summed, last_step, lasting, split, settled}
use Rattle.fault_sums.proofs.Blocks.{sums_split}

module _ (p : FaultPlan) (first : ℕ) (c : OpenCase) where
  -- a case after the steps of a window is at its end
  at_its_end : (w : Window) (d : OpenCase) → c.variables.fault_cleared ≡ false → plan_case_from p first c (w.to - first) ≡ d → Summed p c d (sums_at p w c) w.clears → end_by p first w c ≡ outcome_in d
  at_its_end w d e is-d s =
      lasting_end p first w c e
      ∙ (λ i.
      record {
        cleared = sym s.cleared_is i;
        clearing_current_ka = sym s.current_is i;
        energy_mj = sym s.energy_is i;
        peak_fault_ka = sym s.peak_is i;
        detected = (is-d i).detected;
      })

  module _ (end : ℕ) (e : c.variables.fault_cleared ≡ false) (from last : ℕ)
      (begins : Found (active p c.variables.fault_active) first (end - first) from) (ends : Found (clears p) from (end - from) last) where
    abbrev window : Window
    window = record { from = from; to = cond (ltb last end) (suc last) end; clears = ltb last end }

    abbrev there : OpenCase
    there = plan_case_from p first c begins.skipped

    arrived : Same p c there
    arrived = waiting p begins.skipped first c e begins.none

    -- the fault does not become active
    never : end ≤ from → end_by p first window c ≡ outcome_in (plan_case_from p first c (end - first))
    unfolding sums_from
    never l =
        let b = begins in
        let t = ends in
        let no : ltb last end ≡ false = le-ltb last end (omega (arith, t.place)) in
        let m : end - first ≡ b.skipped = omega (arith, b.place, b.within) in
        let k : end - from ≡ 0 = omega arith in
        let s = arrived in
        at_its_end window there e (rw (no, m)) (rw (no, k) (record { cleared_is = s.cleared ∙ e; peak_is = ap (λ (x : Sums). x.peak_ka) s.sums; energy_is = ap (λ (x : Sums). x.energy_mj) s.sums; current_is = ap (λ (x : Sums). x.current_ka) s.sums }))
        ∙ rw m

    module _ (l : from < end) where
      lit : active p there.variables.fault_active from ≡ true
      lit = rw arrived.active_is (begins.holds (omega (arith, begins.place)))

      abbrev onward : OpenCase
      onward = plan_case_from p from there ends.skipped

      went : Summed p there onward (sums_from (current p) (heat p) from (sums_in c) ends.skipped) false × (active p onward.variables.fault_active (from + ends.skipped) ≡ true)
      went =
          lasting p ends.skipped from there (sums_in c) (arrived.cleared ∙ e) lit (ap (λ (x : Sums). x.peak_ka) arrived.sums) (ap (λ (x : Sums). x.energy_mj) arrived.sums) ends.none

      joined : (m : ℕ) → plan_case_from p first c (begins.skipped + m) ≡ plan_case_from p from there m
      joined m = split p begins.skipped first m c ∙ rw (← begins.place)

      -- no step clears it
      lasts : end ≤ last → end_by p first window c ≡ outcome_in (plan_case_from p first c (end - first))
      lasts h =
          let b = begins in
          let t = ends in
          let no : ltb last end ≡ false = le-ltb last end h in
          let m : end - first ≡ b.skipped + t.skipped = omega (arith, b.place, t.place, t.within) in
          let k : end - from ≡ t.skipped = omega (arith, t.place, t.within) in
          let s = went.0 in
          let is : plan_case_from p first c (end - first) ≡ onward = rw m (joined t.skipped) in
          at_its_end window onward e (rw no is) (rw (no, k) (record { cleared_is = s.cleared_is; peak_is = s.peak_is; energy_is = s.energy_is; current_is = s.current_is ∙ ap (λ (x : Sums). x.current_ka) arrived.sums }))
          ∙ ap outcome_in (sym is)

      -- the step `last` does
      module _ (h : last < end) where
        it_clears : clears p last ≡ true
        it_clears = ends.holds (omega (arith, ends.place))

        abbrev closed : OpenCase
        closed = plan_case_step p last onward

        abbrev sums : Sums
        sums = sums_from (current p) (heat p) from (sums_in c) ends.skipped

        one : Summed p onward closed (sum_step (heat p) (current p last) sums) (clears p last)
        one = last_step p last onward sums went.0.cleared_is (rw ends.place went.1) went.0.peak_is went.0.energy_is

        next_sums : sums_from (current p) (heat p) from (sums_in c) (suc last - from) ≡ sum_step (heat p) (current p last) sums
        unfolding sums_from
        next_sums =
            sums_split (heat p) (current p) from ends.skipped 1 last (suc last - from) (sums_in c) ends.place (omega (arith, ends.place))

        next_case : plan_case_from p first c (suc last - first) ≡ closed
        unfolding plan_case_from
        next_case =
            let m : suc last - first ≡ begins.skipped + (ends.skipped + 1) = omega (arith, begins.place, ends.place) in
            rw (m, joined (ends.skipped + 1), split p ends.skipped from 1 there, ← ends.place)

        is_cleared : closed.variables.fault_cleared ≡ true
        is_cleared = one.cleared_is ∙ it_clears

        rest : outcome_in (plan_case_from p first c (end - first)) ≡ outcome_in closed
        rest =
            let m : end - first ≡ (suc last - first) + (end - suc last) = omega (arith, begins.place, ends.place) in
            rw (m, split p (suc last - first) first (end - suc last) c, next_case)
            (settled p (end - suc last) _ closed is_cleared)

        cleared : end_by p first window c ≡ outcome_in (plan_case_from p first c (end - first))
        cleared =
            let yes : ltb last end ≡ true = lt-ltb last end h in
            at_its_end window closed e (rw yes next_case)
            (rw (yes, next_sums)
            (record { cleared_is = is_cleared; peak_is = one.peak_is; energy_is = one.energy_is; current_is = one.current_is ∙ rw it_clears }))
            ∙ sym rest

    by_phase : end_by p first window c ≡ outcome_in (plan_case_from p first c (end - first))
    by_phase = by_from (lt_or_le from end)
      where
        by_last : from < end → ((last < end) ⊎ (end ≤ last)) → end_by p first window c ≡ outcome_in (plan_case_from p first c (end - first))
        by_last l (inl h) = cleared l h
        by_last l (inr h) = lasts l h

        by_from : ((from < end) ⊎ (end ≤ from)) → end_by p first window c ≡ outcome_in (plan_case_from p first c (end - first))
        by_from (inl l) = by_last l (lt_or_le last end)
        by_from (inr l) = never l

  settles : (n : ℕ) (w : Window) → c.variables.fault_cleared ≡ true → end_by p first w c ≡ outcome_in (plan_case_from p first c n)
  settles n w e = cleared_end p first w c e ∙ sym (settled p n first c e)

  whole : (end : ℕ) → end_by p first (window_by p c.variables.fault_active first end) c ≡ outcome_in (plan_case_from p first c (end - first))
  unfolding window_of
  whole end =
      by-test c.variables.fault_cleared
      (settles (end - first) (window_by p c.variables.fault_active first end))
      (λ e. by_phase end e _ _ (found (active p c.variables.fault_active) (end - first) first) (found (clears p) _ _))

pub end_claims : EndClaims
end_claims = record { all_steps = λ p first end c. whole p first c end; settled = λ p first n c e. settled p n first c e }

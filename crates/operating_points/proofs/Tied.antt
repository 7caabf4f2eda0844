-- The claims speak of what the code returns: what a caller learns from a contract in src/, as Rattle reads its clauses, gives the claim of the result, and nothing is asked of the caller.
-- Assumes nothing.
use mathlib.Core.Path.{◌≡◌, refl, sym, ◌∙◌}
use mathlib.Core.Bool.{true}
use lib.Ieee.{le}
use Rattle.std.specs.Prelude.{Ok, Err, IfOk}
use Rattle.std.specs.Result.{result_unwrap_or}
use Rattle.std.proofs.lemmas.Result.{IfOk-weaker}
use contract.Lifetimes.{Lfts}
use borrow.Fn.World.{ArgsD, ResD}
use borrow.Fn.Kinds.{ended_of}
use denote.Triple.Clauses.{AtExit}
use Rattle.float64.specs.Constants.{pi}
use Rattle.float64.specs.Arithmetic.{◌⊖◌, ◌⊗◌, ◌⊘◌}
use Rattle.rules.specs.Studies.{rule_number, number_of, point_refusal}
use Rattle.rules.specs.declared.studies.Refusal.TheVariants.{StationOutside}
use Rattle.rules.proofs.Outcomes.{err_at, ok_at, unwrapped}
use Rattle.converter.specs.Constants.{three, least}
use Rattle.converter.specs.Lcc.{cos_alpha_of, vd0, xc, lcc_point}
use Rattle.converter.specs.Vsc.{vsc_point}
use Rattle.converter.specs.Point.{blank_point}
use Rattle.grid.specs.declared.parts.ConverterStation.{ConverterStation}
use Rattle.lists.proofs.Counting.{by-test}
use Rattle.part_checks.specs.PartChecks.{station_ok}
use Rattle.operating_points.specs.Answer.{lcc_answer, vsc_answer}
use Rattle.converter.proofs.Claims.{voltage_claims}
use Rattle.operating_points.proofs.Claims.{point_claims}
use Rattle.operating_points.specs.contracts.answer.lcc_operating_point as lcc-contract
use Rattle.operating_points.proofs.answer.lcc_operating_point.Kinds as lcc-kinds
use Rattle.operating_points.proofs.answer.lcc_operating_point.Reads as lcc-reads
use Rattle.operating_points.specs.contracts.answer.vsc_operating_point as vsc-contract
use Rattle.operating_points.proofs.answer.vsc_operating_point.Kinds as vsc-kinds
use Rattle.operating_points.proofs.answer.vsc_operating_point.Reads as vsc-reads

-- a station is refused by 6 alone
refused_six : (s : ConverterStation) → (point_refusal s ≡ 0 → ⊥) → point_refusal s ≡ 6
unfolding point_refusal
refused_six s n = by-test (station_ok s) (λ b. absurd (n (rw b refl))) (λ b. rw b refl)

module _ (κs : Lfts 0) (a : ArgsD lcc-contract.signature κs) (r : ResD lcc-contract.signature κs) (e : AtExit (ended_of 0 lcc-kinds.ps lcc-kinds.r) κs) where
  pub lcc_any : lcc-reads.Asked κs a
  lcc_any = tt

  pub lcc_accepted : lcc-reads.Learnt κs a r e → number_of r ≡ 0 → r ≡ Ok (lcc_point a.0 a.1.0)
  lcc_accepted h k = ok_at r _ k (rw (← point_claims.lcc_accepted a.0 a.1.0 (sym h.1 ∙ k)) h.0)

  pub lcc_refused : lcc-reads.Learnt κs a r e → number_of r ≡ 6 → r ≡ Err StationOutside
  unfolding rule_number
  lcc_refused h k = err_at r StationOutside k

  -- with zeros in the place of the point that a refused station does not have
  pub lcc_unwrapped : lcc-reads.Learnt κs a r e → result_unwrap_or r blank_point ≡ lcc_answer a.0 a.1.0
  lcc_unwrapped h = unwrapped r _ blank_point h.0 (λ n. point_claims.lcc_refused a.0 a.1.0 (refused_six a.0 (λ z. n (h.1 ∙ z))))

  -- V = Vd0·cos α - (3/π)·Xc·I
  pub lcc_voltage_lem : lcc-reads.Learnt κs a r e → number_of r ≡ 0 → IfOk r (λ point. point.v_dc_kv ≡ (vd0 a.0 ⊗ cos_alpha_of a.0) ⊖ (((three ⊘ pi) ⊗ xc a.0) ⊗ a.1.0))
  lcc_voltage_lem h k = IfOk-weaker r _ _ (λ point is. rw is (point_claims.lcc_voltage_lem a.0 a.1.0 (sym h.1 ∙ k))) h.0

module _ (κs : Lfts 0) (a : ArgsD vsc-contract.signature κs) (r : ResD vsc-contract.signature κs) (e : AtExit (ended_of 0 vsc-kinds.ps vsc-kinds.r) κs) where
  pub vsc_any : vsc-reads.Asked κs a
  vsc_any = tt

  pub vsc_accepted : vsc-reads.Learnt κs a r e → number_of r ≡ 0 → r ≡ Ok (vsc_point a.0 a.1.0 a.1.1.0)
  vsc_accepted h k = ok_at r _ k (rw (← point_claims.vsc_accepted a.0 a.1.0 a.1.1.0 (sym h.1 ∙ k)) h.0)

  pub vsc_refused : vsc-reads.Learnt κs a r e → number_of r ≡ 6 → r ≡ Err StationOutside
  unfolding rule_number
  vsc_refused h k = err_at r StationOutside k

  pub vsc_unwrapped : vsc-reads.Learnt κs a r e → result_unwrap_or r blank_point ≡ vsc_answer a.0 a.1.0 a.1.1.0
  vsc_unwrapped h = unwrapped r _ blank_point h.0 (λ n. point_claims.vsc_refused a.0 a.1.0 a.1.1.0 (refused_six a.0 (λ z. n (h.1 ∙ z))))

  pub vsc_voltage_lem : vsc-reads.Learnt κs a r e → number_of r ≡ 0 → IfOk r (λ point. le least point.v_dc_kv ≡ true)
  vsc_voltage_lem h k = rw (vsc_accepted h k) (voltage_claims.vsc_voltage_lem a.0 a.1.0 a.1.1.0)

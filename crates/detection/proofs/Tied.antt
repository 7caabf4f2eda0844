-- The claims speak of what the code returns: what a caller learns from the contract in src/, as Rattle reads its clauses, gives the claim of the result, and nothing is asked of the caller.
-- Assumes nothing.
use mathlib.Core.Path.{◌≡◌, sym, ◌∙◌}
use Rattle.std.specs.Prelude.{Ok, false}
use Rattle.std.specs.Result.{result_unwrap_or}
use contract.Lifetimes.{Lfts}
use borrow.Fn.World.{ArgsD, ResD}
use borrow.Fn.Kinds.{ended_of}
use denote.Triple.Clauses.{AtExit}
use Rattle.rules.specs.Studies.{number_of}
use Rattle.rules.proofs.Outcomes.{ok_at, unwrapped}
use Rattle.detection.specs.Detection.{detected, detection}
use Rattle.detection.proofs.Claims.{detection_claims}
use Rattle.detection.specs.contracts.detect.detects as detects-contract
use Rattle.detection.proofs.detect.detects.Reads as detects-reads
use Rattle.detection.specs.contracts.detect.shows_fault as shows-contract
use Rattle.detection.proofs.detect.shows_fault.Reads as shows-reads
use Rattle.detection.specs.contracts.detect.detect_fault as detect-contract
use Rattle.detection.proofs.detect.detect_fault.Kinds as kinds
use Rattle.detection.proofs.detect.detect_fault.Reads as reads

module _ (κs : Lfts 0) (a : ArgsD detect-contract.signature κs) (r : ResD detect-contract.signature κs) (e : AtExit (ended_of 0 kinds.ps kinds.r) κs) where
  pub detect_any : reads.Asked κs a
  detect_any = tt

  pub detect_accepted : reads.Learnt κs a r e → number_of r ≡ 0 → r ≡ Ok (detected a.0 a.1.0 a.1.1.0)
  detect_accepted h k = ok_at r _ k (rw (← detection_claims.accepted a.0 a.1.0 a.1.1.0 (sym h.0 ∙ k)) h.1)

  -- with no in the place of the answer that a refused grid does not have
  pub detect_unwrapped : reads.Learnt κs a r e → result_unwrap_or r false ≡ detection a.0 a.1.0 a.1.1.0
  detect_unwrapped h = unwrapped r _ false h.1 (λ n. detection_claims.refused a.0 a.1.0 a.1.1.0 (λ z. n (h.0 ∙ z)))

module _ (κs : Lfts 1) (a : ArgsD detects-contract.signature κs) where
  pub detects_any : detects-reads.Asked κs a
  detects_any = tt

module _ (κs : Lfts 3) (a : ArgsD shows-contract.signature κs) where
  pub shows_any : shows-reads.Asked κs a
  shows_any = tt

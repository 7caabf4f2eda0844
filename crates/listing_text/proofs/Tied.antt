-- The claims speak of what the code returns: what a caller learns from a contract in src/, as Rattle reads its clauses, gives the claim of the result, and nothing is asked of the caller.
-- Assumes nothing.
use mathlib.Core.Path.{◌≡◌, ap, ◌∙◌}
use mathlib.Core.List.{[], ◌∷◌}
use contract.Lifetimes.{Lfts}
use borrow.Fn.World.{ArgsD, ResD}
use borrow.Fn.Kinds.{ended_of}
use denote.Triple.Clauses.{AtExit}
use Prim.Native.Nat.{ℕ, ◌+◌, ◌*◌, ◌<◌}
use lib.ListN.{length, get_or, take, drop}
use Rattle.float64.specs.Pattern.{double_of}
use Rattle.decimals.specs.Decimals.{decimal_column}
use Rattle.listing_text.specs.Claims.{read_back, Fit, row_widths}
use Rattle.listing_text.proofs.Claims.{line_claims}
use Rattle.listing_text.specs.contracts.lines.row_text as row-contract
use Rattle.listing_text.proofs.lines.row_text.Kinds as row-kinds
use Rattle.listing_text.proofs.lines.row_text.Reads as row_reads
use Rattle.listing_text.specs.contracts.lines.end_text as end-contract
use Rattle.listing_text.proofs.lines.end_text.Kinds as end-kinds
use Rattle.listing_text.proofs.lines.end_text.Reads as end_reads
use Rattle.listing_text.specs.contracts.lines.refusal_text as refusal-contract
use Rattle.listing_text.proofs.lines.refusal_text.Kinds as refusal-kinds
use Rattle.listing_text.proofs.lines.refusal_text.Reads as refusal-reads

module _ (κs : Lfts 0) (a : ArgsD row-contract.signature κs) (r : ResD row-contract.signature κs) (e : AtExit (ended_of 0 row-kinds.ps row-kinds.r) κs) where
  pub row_any : row_reads.Asked κs a
  row_any = tt

  pub row_read_back : row_reads.Learnt κs a r e → Fit row_widths (take 4 a.0) → read_back row_widths (drop 1 r) ≡ take 4 a.0
  row_read_back h f = ap (λ t. read_back row_widths (drop 1 t)) h ∙ line_claims.row_back a.0 f

  pub row_has_values : row_reads.Learnt κs a r e → (k : ℕ) → length a.0 ≡ 8 → k < 4 → take 21 (drop (17 + 21 * k) r) ≡ decimal_column (double_of (get_or a.0 (4 + k) 0))
  row_has_values h k l m = ap (λ t. take 21 (drop (17 + 21 * k) t)) h ∙ line_claims.row_values a.0 k l m

module _ (κs : Lfts 0) (a : ArgsD end-contract.signature κs) (r : ResD end-contract.signature κs) (e : AtExit (ended_of 0 end-kinds.ps end-kinds.r) κs) where
  pub end_any : end_reads.Asked κs a
  end_any = tt

  pub end_read_back : end_reads.Learnt κs a r e → Fit (12 ∷ 12 ∷ []) (a.0 ∷ a.1.0 ∷ []) → read_back (12 ∷ 12 ∷ []) (drop 1 r) ≡ a.0 ∷ a.1.0 ∷ []
  end_read_back h f = ap (λ t. read_back (12 ∷ 12 ∷ []) (drop 1 t)) h ∙ line_claims.end_back a.0 a.1.0 f

module _ (κs : Lfts 0) (a : ArgsD refusal-contract.signature κs) (r : ResD refusal-contract.signature κs) (e : AtExit (ended_of 0 refusal-kinds.ps refusal-kinds.r) κs) where
  pub refusal_any : refusal-reads.Asked κs a
  refusal_any = tt

  pub refusal_read_back : refusal-reads.Learnt κs a r e → Fit (4 ∷ 12 ∷ []) (a.0 ∷ a.1.0 ∷ []) → read_back (4 ∷ 12 ∷ []) (drop 1 r) ≡ a.0 ∷ a.1.0 ∷ []
  refusal_read_back h f = ap (λ t. read_back (4 ∷ 12 ∷ []) (drop 1 t)) h ∙ line_claims.refusal_back a.0 a.1.0 f

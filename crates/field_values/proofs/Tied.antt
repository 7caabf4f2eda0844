-- No function asks anything of its caller, and a whole number that is returned has 12 digits at most: what a caller learns from the contract in src/, as Rattle reads its clauses. Assumes
-- nothing.
use Prim.Native.Nat.{ℕ, ◌^◌, ◌<◌}
use mathlib.Core.Path.{◌≡◌, sym, ◌∙◌}
use contract.Lifetimes.{Lfts}
use borrow.Fn.World.{ArgsD, ResD}
use borrow.Fn.Kinds.{ended_of}
use denote.Triple.Clauses.{AtExit}
use lib.ListN.{take, drop}
use Rattle.std.specs.Prelude.{Some}
use Rattle.field_columns.proofs.Below.{whole_below}
use Rattle.field_values.specs.contracts.fields.whole_at as whole-at-contract
use Rattle.field_values.proofs.fields.whole_at.Kinds as whole-at-kinds
use Rattle.field_values.proofs.fields.whole_at.Reads as whole-at-reads
use Rattle.field_values.specs.contracts.fields.real_at as real-at-contract
use Rattle.field_values.proofs.fields.real_at.Reads as real-at-reads

module _ (κs : Lfts 1) (a : ArgsD whole-at-contract.signature κs) (r : ResD whole-at-contract.signature κs) (e : AtExit (ended_of 1 whole-at-kinds.ps whole-at-kinds.r) κs) where
  pub whole_at_any : whole-at-reads.Asked κs a
  whole_at_any = tt

  pub whole_at_below : whole-at-reads.Learnt κs a r e → (n : ℕ) → r ≡ Some n → n < 10 ^ 12
  whole_at_below h n q = whole_below (take 12 (drop a.1.0 a.0.now)) n (sym h ∙ q)

module _ (κs : Lfts 1) where
  pub real_at_any : (a : ArgsD real-at-contract.signature κs) → real-at-reads.Asked κs a
  real_at_any a = tt

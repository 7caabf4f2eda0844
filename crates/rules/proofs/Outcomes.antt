-- What the number of an answer says of it: 0 only an Ok has, and the number of a rule only that rule's Err. Assumes nothing.
use Prim.Native.Nat.{ℕ}
use native.Mathlib.Omega.{arith}
use mathlib.Core.Path.{◌≡◌, refl, sym, ap, ◌∙◌}
use mathlib.Core.Bool.{true, false, true≢false}
use mathlib.Core.List.{[], ◌∷◌}
use lib.ListN.{get_or}
use Rattle.std.specs.Prelude.{Result, Ok, Err, IfOk}
use Rattle.std.specs.Result.{is_err, result_unwrap_or}
use Rattle.rules.specs.declared.studies.Refusal.{Refusal}
use Rattle.rules.specs.declared.studies.Refusal.TheVariants.{NoStation, NoCable, TooManyParts, TimeOutside, TooManySteps, StationOutside, CableOutside, BreakerOutside, EventOutside, NotConverged}
use Rattle.rules.specs.Studies.{rule_number, number_of}

-- the refusal of a number
refusal_of : ℕ → Refusal
refusal_of n = get_or (NotConverged ∷ NoStation ∷ NoCable ∷ TooManyParts ∷ TimeOutside ∷ TooManySteps ∷ StationOutside ∷ CableOutside ∷ BreakerOutside ∷ EventOutside ∷ []) n NotConverged

known : (x : Refusal) → (refusal_of (rule_number x) ≡ x) × (rule_number x ≡ 0 → ⊥)
unfolding refusal_of rule_number
known NoStation = (refl, λ e. omega (arith, e))
known NoCable = (refl, λ e. omega (arith, e))
known TooManyParts = (refl, λ e. omega (arith, e))
known TimeOutside = (refl, λ e. omega (arith, e))
known TooManySteps = (refl, λ e. omega (arith, e))
known StationOutside = (refl, λ e. omega (arith, e))
known CableOutside = (refl, λ e. omega (arith, e))
known BreakerOutside = (refl, λ e. omega (arith, e))
known EventOutside = (refl, λ e. omega (arith, e))
known NotConverged = (refl, λ e. omega (arith, e))

module _ {A : Type 0} where
  pub err_at : (r : Result A Refusal) (x : Refusal) → number_of r ≡ rule_number x → r ≡ Err x
  unfolding number_of
  err_at (Ok v) x e = absurd ((known x).1 (sym e))
  err_at (Err y) x e = ap Err (sym (known y).0 ∙ ap refusal_of e ∙ (known x).0)

  pub ok_at : (r : Result A Refusal) (v : A) → number_of r ≡ 0 → IfOk r (λ x. x ≡ v) → r ≡ Ok v
  unfolding number_of
  ok_at (Ok x) v e h = ap Ok h
  ok_at (Err y) v e h = absurd ((known y).1 e)

  pub accepted_at : {r : Result A Refusal} {x : A} → r ≡ Ok x → number_of r ≡ 0
  unfolding number_of
  accepted_at e = rw e

  pub not_nought : (r : Result A Refusal) → is_err r ≡ true → number_of r ≡ 0 → ⊥
  unfolding number_of
  not_nought (Ok x) e z = true≢false (sym e)
  not_nought (Err x) e z = (known x).1 z

  pub nought_at : (r : Result A Refusal) → is_err r ≡ false → number_of r ≡ 0
  unfolding number_of
  nought_at (Ok x) e = refl
  nought_at (Err x) e = absurd (true≢false e)

  -- with z in the place of what a refusal does not have, every answer is its definition, which is z where the number is not 0
  pub unwrapped : (r : Result A Refusal) (c z : A) → IfOk r (λ v. v ≡ c) → ((number_of r ≡ 0 → ⊥) → c ≡ z) → result_unwrap_or r z ≡ c
  unfolding number_of
  unwrapped (Ok v) c z h k = h
  unwrapped (Err y) c z h k = sym (k (known y).1)

-- A call is refused by 11 exactly where the stepper tests so, and then changes nothing. Assumes nothing.
use Prim.Native.Nat.{ℕ, zero, suc, ◌-◌, ◌/◌, ◌≤◌}
use native.Mathlib.Omega.{arith}
use mathlib.Core.Path.{◌≡◌, ap, ◌∙◌}
use mathlib.Core.Logic.{◌↔◌}
use mathlib.Core.Bool.{true, ◌&&◌}
use lib.Dec.{eqb}
use lib.ListN.{length}
use Rattle.lists.proofs.Counting.{by-test}
use Rattle.portions.specs.Stopping.{number_of, Stepper, advance, answer_of, memory_of}
use Rattle.portions.specs.Calls.{Called, Made}
use Rattle.portions.specs.Refusals.{RefusedIf, RefusalClaims}

module _ {A : Type 0} (m : Stepper A) where
  -- one that makes steps stops as finished, spent or full
  pub stop_small : (allowance space : ℕ) (s : m.Kept) → number_of (advance m allowance space s).stop ≤ 2
  unfolding advance
  stop_small zero space s = by-test (m.ended s) (λ h. rw h (omega arith)) (λ h. rw h (omega arith))
  stop_small (suc a) space s =
      by-test (m.ended s) (λ h. rw h (omega arith))
      (λ h. by-test (m.wants_room s && eqb space 0) (λ k. rw (h, k) (omega arith)) (λ k. rw (h, k) (stop_small a (space - length (m.items s)) (m.next s))))

  module _ (s : m.Kept) (c : Called A m.Kept) (made : Made m s c) where
    pub refused_stop : m.refused s ≡ true → number_of c.stop ≡ 11
    unfolding answer_of
    refused_stop h = ap number_of made.stop_is ∙ rw h

    pub only_refused : number_of c.stop ≡ 11 → m.refused s ≡ true
    unfolding answer_of
    only_refused e =
        by-test (m.refused s) (λ h. h)
        (λ h. let q = ap number_of made.stop_is in absurd (let n : ⊥ = omega (arith, rw h at q, stop_small c.allowance (length c.lent / m.size s) s) in n))

    pub refused_if : {Broken : Type 0} → (m.refused s ≡ true) ↔ Broken → RefusedIf Broken s c
    unfolding answer_of memory_of
    refused_if b =
        record {
          refused_iff = (λ e. b.0 (only_refused e), λ x. refused_stop (b.1 x));
          no_steps = λ e. made.steps_is ∙ rw (only_refused e);
          no_items = λ e. made.count_is ∙ rw (only_refused e);
          same_kept = λ e. made.kept_is ∙ rw (only_refused e);
          same_memory = λ e. made.left_is ∙ rw (only_refused e);
        }

pub refusal_claims : RefusalClaims
refusal_claims = record { refused_if = refused_if }

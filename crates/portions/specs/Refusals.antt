-- Rule 11 of what is advanced, run or sweep: "An advance returns only 11", and then "nothing written, states unchanged". The proof is in proofs/Refusals.antt.
use Rattle.std.specs.Prelude.{◌≡◌, ◌↔◌, true}
use Rattle.portions.specs.Stopping.{number_of, Stepper}
use Rattle.portions.specs.Calls.{Called, Made}

-- c, a call of s, is refused exactly if `Broken`, and then "nothing written, states unchanged"
pub record RefusedIf {A K : Type 0} (Broken : Type 0) (s : K) (c : Called A K) : Type 0 where
  pub refused_iff : (number_of c.stop ≡ 11) ↔ Broken
  pub no_steps : number_of c.stop ≡ 11 → c.steps ≡ 0
  pub no_items : number_of c.stop ≡ 11 → c.count ≡ 0
  pub same_kept : number_of c.stop ≡ 11 → c.kept ≡ s
  pub same_memory : number_of c.stop ≡ 11 → c.left ≡ c.lent

-- every call, where `Broken` says in 01's words what the stepper tests
pub record RefusalClaims : Type 1 where
  pub refused_if : {A : Type 0} (m : Stepper A) (s : m.Kept) (c : Called A m.Kept) → Made m s c
      → {Broken : Type 0} → (m.refused s ≡ true) ↔ Broken → RefusedIf Broken s c

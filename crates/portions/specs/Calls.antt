-- Lists of calls, each handed what the last one returned. Definitions only.
use Rattle.std.specs.Prelude.{ℕ, ◌+◌, ◌*◌, ◌/◌, ◌≡◌, List, [], ◌∷◌, ◌++◌, length, take}
use Rattle.portions.specs.declared.Stop.{Stop}
use Rattle.portions.specs.Stopping.{Stepper, answer_of, memory_of}
use Rattle.portions.specs.Tally.{Call}

-- a call that was made: what was handed in, what came back, and the lent memory after it
pub record Called (A K : Type 0) : Type 0 where
  pub allowance : ℕ
  pub lent : List A
  pub steps : ℕ
  pub count : ℕ
  pub stop : Stop
  pub kept : K
  pub left : List A

module _ {A : Type 0} (m : Stepper A) where
  open m use {Kept}

  -- what the contract of an advance says of a call of s
  pub record Made (s : Kept) (c : Called A Kept) : Type 0 where
    pub steps_is : c.steps ≡ (answer_of m s c.allowance c.lent).steps
    pub count_is : c.count ≡ length (answer_of m s c.allowance c.lent).items
    pub stop_is : c.stop ≡ (answer_of m s c.allowance c.lent).stop
    pub kept_is : c.kept ≡ (answer_of m s c.allowance c.lent).kept
    pub left_is : c.left ≡ memory_of m s c.allowance c.lent

  -- each is as the contract says, and is handed what the last one returned
  abbrev pub Chain : Kept → List (Called A Kept) → Type 0
  Chain s [] = Unit {0}
  Chain s (c ∷ cs) = Made s c × Chain c.kept cs

module _ {A K : Type 0} where
  -- what is kept after them
  unfoldable pub last : K → List (Called A K) → K
  last s [] = s
  last s (c ∷ cs) = last c.kept cs

  -- the steps that they report, added up
  unfoldable pub reported : List (Called A K) → ℕ
  reported [] = 0
  reported (c ∷ cs) = c.steps + reported cs

  -- one call more
  abbrev pub and : List (Called A K) → Called A K → List (Called A K)
  and cs c = cs ++ (c ∷ [])

  module _ (size : ℕ) where
    -- the numbers handed out, joined: of each call as many items of `size` numbers as it says
    unfoldable pub handed : List (Called A K) → List A
    handed [] = []
    handed (c ∷ cs) = take (size * c.count) c.left ++ handed cs

    -- what the tally is fed
    unfoldable pub seen : List (Called A K) → List Call
    seen [] = []
    seen (c ∷ cs) = record { allowance = c.allowance; space = length c.lent / size } ∷ seen cs

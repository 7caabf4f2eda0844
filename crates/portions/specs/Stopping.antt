-- Document 01's stopping rule, of run and sweep alike: "An advance makes steps one by one. It stops as finished when none are left; else as spent when the
-- allowance is made; else as full." Definitions only.
use Rattle.std.specs.Prelude.{ℕ, zero, suc, ◌-◌, ◌*◌, ◌/◌, Bool, cond, ◌&&◌, List, [], ◌∷◌, ◌++◌, eqb, length, drop}
use Rattle.portions.specs.declared.Stop.{Stop}
use Rattle.portions.specs.declared.Stop.TheVariants.{Finished, Spent, Full, Refused}

-- 01's number for each case: 11 is a refusal, and the rest are the ways to stop
abbrev pub number_of : Stop → ℕ
number_of Finished = 0
number_of Spent = 1
number_of Full = 2
number_of Refused = 11

-- why an advance stops that makes no further step: finished, else spent, else full
abbrev pub reason_of : (ended spent : Bool) → Stop
reason_of ended spent = cond ended Finished (cond spent Spent Full)

-- What is advanced: its kept states, and one step. A step may write an item, a run's record or a sweep's row: a list of numbers.
pub record Stepper (A : Type 0) : Type 1 where
  pub Kept : Type 0
  -- rule 11
  pub refused : Kept → Bool
  -- how many numbers an item has
  pub size : Kept → ℕ
  -- no steps are left
  pub ended : Kept → Bool
  -- the next step is made only if a whole item fits
  pub wants_room : Kept → Bool
  -- what it writes: nothing or one item
  pub items : Kept → List (List A)
  pub next : Kept → Kept

-- what an advance returns: the steps made, the items written, why it stopped, what is kept
pub record Answer (A K : Type 0) : Type 0 where
  pub steps : ℕ
  pub items : List (List A)
  pub stop : Stop
  pub kept : K

-- the numbers of items, one item after the other
unfoldable pub joined : {A : Type 0} → List (List A) → List A
joined [] = []
joined (x ∷ xs) = x ++ joined xs

module _ {A : Type 0} (m : Stepper A) where
  open m use {Kept, refused, size, ended, wants_room, items, next}

  -- no step is made
  abbrev pub stopped : Stop → Kept → Answer A Kept
  stopped w s = record { steps = 0; items = []; stop = w; kept = s }

  -- a step that writes `is` is made, and then what x tells of
  abbrev pub after : List (List A) → Answer A Kept → Answer A Kept
  after is x = record { steps = suc x.steps; items = is ++ x.items; stop = x.stop; kept = x.kept }

  -- with an allowance of steps and space for so many items
  unfoldable pub advance : (allowance space : ℕ) → Kept → Answer A Kept
  advance zero space s = stopped (cond (ended s) Finished Spent) s
  advance (suc a) space s =
      cond (ended s) (stopped Finished s)
      (cond (wants_room s && eqb space 0) (stopped Full s)
      (after (items s) (advance a (space - length (items s)) (next s))))

  -- the answer to a call that lends memory: "An advance returns only 11", and then nothing is made
  unfoldable pub answer_of : Kept → (allowance : ℕ) → List A → Answer A Kept
  answer_of s allowance lent = cond (refused s) (stopped Refused s) (advance allowance (length lent / size s) s)

  -- the lent memory after it: the items from the front, and "memory past them is unchanged"
  unfoldable pub memory_of : Kept → (allowance : ℕ) → List A → List A
  memory_of s allowance lent =
      let is = (answer_of s allowance lent).items in
      cond (refused s) lent (joined is ++ drop (size s * length is) lent)

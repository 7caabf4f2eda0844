-- Every list of calls of what is advanced, run or sweep: the claim of demand 3, as far as it is alike for both. The proof is in proofs/Course.antt.
use Rattle.std.specs.Prelude.{ℕ, zero, suc, ◌*◌, ◌≤◌, ◌<◌, ◌≡◌, ◌↔◌, Bool, false, cond, List, [], ◌++◌, eqb, length, take, drop}
use Rattle.portions.specs.declared.Stop.TheVariants.{Finished, Refused}
use Rattle.portions.specs.Stopping.{Stepper, joined}
use Rattle.portions.specs.Tally.{counted_all}
use Rattle.portions.specs.Calls.{Called, Made, Chain, last, reported, and, handed, seen}

-- The course of what is advanced: `at t` is kept after t of `total` steps. The step after t steps wants room if `wants t`, and writes `uses t` items of
-- `item_size` numbers.
pub record Course {A : Type 0} (m : Stepper A) : Type 0 where
  pub total : ℕ
  pub item_size : ℕ
  pub at : ℕ → m.Kept
  pub wants : ℕ → Bool
  pub uses : ℕ → ℕ
  -- what is kept on the way is not refused
  pub not_refused : (t : ℕ) → t ≤ total → m.refused (at t) ≡ false
  pub sized : (t : ℕ) → t ≤ total → m.size (at t) ≡ item_size
  pub some_size : 0 < item_size
  pub ends : (t : ℕ) → t ≤ total → m.ended (at t) ≡ eqb t total
  pub wants_room_lem : (t : ℕ) → t < total → m.wants_room (at t) ≡ wants t
  pub writes : (t : ℕ) → t < total → length (m.items (at t)) ≡ uses t
  pub whole_items : (t : ℕ) → t < total → length (joined (m.items (at t))) ≡ item_size * uses t
  pub only_with_room : (t : ℕ) → t < total → uses t ≤ cond (wants t) 1 0
  pub moves : (t : ℕ) → t < total → m.next (at t) ≡ at (suc t)

-- What every list of calls from the start meets, run or sweep, by a stepper m whose items have `size` numbers: `at t` is kept after t of `total` steps,
-- `items_of t` are the items of the first t steps in order, and `steps` are the steps that calls make, by the stopping rule alone.
module _ {A : Type 0} (m : Stepper A) (size total : ℕ) (at : ℕ → m.Kept) (items_of : ℕ → List (List A)) (steps : List (Called A m.Kept) → ℕ) where
  abbrev pub OneMore : List (Called A m.Kept) → Called A m.Kept → Type 0
  OneMore cs c = Made m (last (at 0) cs) c

  -- `cs` are calls from the start, each handed what the last returned, and c is one more
  pub record Portions (cs : List (Called A m.Kept)) : Type 0 where
    -- the items of the steps made, in order, none missing, none twice
    pub items_joined : handed size cs ≡ joined (items_of (steps cs))
    pub first_items : handed size cs ≡ take (length (handed size cs)) (joined (items_of total))
    pub tally_ends : steps cs ≤ total
    pub steps_sum : reported cs ≡ steps cs
    pub kept_is : last (at 0) cs ≡ at (steps cs)
    pub never_refused : (c : Called A m.Kept) → OneMore cs c → c.stop ≡ Refused → ⊥
    pub finished_iff : (c : Called A m.Kept) → OneMore cs c → (c.stop ≡ Finished) ↔ (steps (and cs c) ≡ total)
    pub all_out : (c : Called A m.Kept) → OneMore cs c → c.stop ≡ Finished → handed size (and cs c) ≡ joined (items_of total)
    -- with steps left, an allowance and room for an item a step is made
    pub progress : (c : Called A m.Kept) → OneMore cs c → steps cs < total → 1 ≤ c.allowance → size ≤ length c.lent → 1 ≤ c.steps
    pub within_allowance : (c : Called A m.Kept) → OneMore cs c → c.steps ≤ c.allowance
    pub within_memory : (c : Called A m.Kept) → OneMore cs c → size * c.count ≤ length c.lent
    pub past_unchanged : (c : Called A m.Kept) → OneMore cs c → drop (size * c.count) c.left ≡ drop (size * c.count) c.lent

module _ {A : Type 0} {m : Stepper A} (k : Course m) where
  -- the items of the first t steps, in order
  unfoldable pub items_before : ℕ → List (List A)
  items_before zero = []
  items_before (suc t) = items_before t ++ m.items (k.at t)

  -- the steps made by calls from the start, by the tally
  abbrev pub tallied : List (Called A m.Kept) → ℕ
  tallied cs = counted_all k.total k.wants k.uses 0 (seen k.item_size cs)

  abbrev pub kept : List (Called A m.Kept) → m.Kept
  kept cs = last (k.at 0) cs

  abbrev pub CourseIn : List (Called A m.Kept) → Type 0
  CourseIn cs = Portions m k.item_size k.total k.at items_before tallied cs

-- every list of calls
pub record CourseClaims : Type 1 where
  pub portions : {A : Type 0} {m : Stepper A} (k : Course m) (cs : List (Called A m.Kept)) → Chain m (k.at 0) cs → CourseIn k cs

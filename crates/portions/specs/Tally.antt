-- "The tally counts steps by the stopping rule, without the sweep itself. It starts at 0, is fed each call's allowance and row space, adds 1 for each step that
-- the rule lets that call make." Definitions only: they know of no state, step or row.
use Rattle.std.specs.Prelude.{ℕ, zero, suc, ◌-◌, ◌*◌, ◌/◌, ◌%◌, Bool, cond, ◌&&◌, List, [], ◌∷◌, eqb}

-- what the tally is fed: an allowance, and for how many items there is space
pub record Call : Type 0 where
  pub allowance : ℕ
  pub space : ℕ

-- `total` steps in all; whether the step after t steps wants room for an item, and how many items it writes
module _ (total : ℕ) (wants : ℕ → Bool) (uses : ℕ → ℕ) where
  -- the steps made after a call that found t made
  unfoldable pub counted : (allowance space t : ℕ) → ℕ
  counted zero space t = t
  counted (suc a) space t =
      cond (eqb t total) t
      (cond (wants t && eqb space 0) t
      (counted a (space - uses t) (suc t)))

  unfoldable pub counted_all : ℕ → List Call → ℕ
  counted_all t [] = t
  counted_all t (c ∷ cs) = counted_all (counted c.allowance c.space t) cs

-- Of a sweep: N steps in each case, the number of cases, and which cases are listed.
module _ (N cases : ℕ) (listed : ℕ → Bool) where
  -- "At each multiple of N that it gets to, the open case closes"
  abbrev pub closes_after : ℕ → Bool
  closes_after t = eqb (suc t % N) 0

  -- "and its row, if the listing has one, uses that call's space"
  abbrev pub rows_after : ℕ → ℕ
  rows_after t = cond (closes_after t && listed (t / N)) 1 0

  -- "ends at N times the cases"
  abbrev pub tally : List Call → ℕ
  tally = counted_all (N * cases) closes_after rows_after 0

-- Of a run: N steps, and which of them are recorded.
module _ (N : ℕ) (recorded : ℕ → Bool) where
  abbrev pub records_after : ℕ → ℕ
  records_after t = cond (recorded t) 1 0

  abbrev pub run_tally : List Call → ℕ
  run_tally = counted_all N recorded records_after 0

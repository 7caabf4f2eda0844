-- A sweep as document 01.7 has it, of any case state, any step and any row: cases of N steps each, the listing, what is kept. Definitions only.
use Rattle.std.specs.Prelude.{ℕ, zero, suc, ◌*◌, ◌/◌, ◌%◌, Bool, true, false, cond, List, [], ◌∷◌, ◌++◌, ltb, eqb}
use Rattle.std.proofs.Math.Option.{Option, none, some}

pub record Cases (A : Type 0) : Type 1 where
  -- a case after some of its steps
  pub Case : Type 0
  pub N : ℕ
  pub cases : ℕ
  -- the initial state of a case, by its number
  pub start : ℕ → Case
  -- case number, number of the step
  pub step : ℕ → ℕ → Case → Case
  -- its row after the last step, if it has one
  pub row : ℕ → Case → Option (List A)
  -- where no case is left: all zero and false
  pub zeros : Case

-- "the case number, the steps made in the open case and that case after the last of them"
pub record KeptCase (C : Type 0) : Type 0 where
  pub number : ℕ
  pub made : ℕ
  pub state : C

abbrev pub to_list : {A : Type 0} → Option A → List A
to_list none = []
to_list (some a) = a ∷ []

abbrev pub is_some : {A : Type 0} → Option A → Bool
is_some none = false
is_some (some a) = true

module _ {A : Type 0} (p : Cases A) where
  open p use {Case, N, cases, start, step, row, zeros}

  -- case k after n steps
  unfoldable pub case_after : ℕ → ℕ → Case
  case_after k zero = start k
  case_after k (suc n) = step k n (case_after k n)

  -- the row of case k, if the listing has one
  unfoldable pub row_of : ℕ → Option (List A)
  row_of k = row k (case_after k N)

  unfoldable pub listed : ℕ → Bool
  listed k = is_some (row_of k)

  -- the rows of the first k cases, in order; the listing is `listing cases`
  unfoldable pub listing : ℕ → List (List A)
  listing zero = []
  listing (suc k) = listing k ++ to_list (row_of k)

  -- no case is left
  abbrev pub none_left : KeptCase Case
  none_left = record { number = cases; made = 0; state = zeros }

  -- what is kept after t steps
  unfoldable pub kept_after : ℕ → KeptCase Case
  kept_after t =
      cond (ltb t (N * cases))
      (record { number = t / N; made = t % N; state = case_after (t / N) (t % N) })
      none_left

  -- one step: whether it is the last of its case, the row that it writes, and what is kept after it
  unfoldable pub closes : KeptCase Case → Bool
  closes s = eqb (suc s.made) N

  unfoldable pub stepped : KeptCase Case → Case
  stepped s = step s.number s.made s.state

  unfoldable pub row_written : KeptCase Case → List (List A)
  row_written s = cond (closes s) (to_list (row s.number (stepped s))) []

  unfoldable pub opened : ℕ → KeptCase Case
  opened k = cond (eqb k cases) none_left (record { number = k; made = 0; state = start k })

  unfoldable pub next_kept : KeptCase Case → KeptCase Case
  next_kept s = cond (closes s) (opened (suc s.number)) (record { number = s.number; made = suc s.made; state = stepped s })

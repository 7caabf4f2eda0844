-- Demand 3, "one claim about a whole list, not about each call", of any case state, any step and any row. The proof is in proofs/Demand3.antt.
use Rattle.std.specs.Prelude.{ℕ, ◌+◌, ◌*◌, ◌/◌, ◌≤◌, ◌<◌, ◌≡◌, ◌↔◌, false, List, eqb, length, take, drop}
use Rattle.std.proofs.Math.Option.{some}
use Rattle.portions.specs.declared.Stop.TheVariants.{Finished, Refused}
use Rattle.portions.specs.Stopping.{Stepper, joined}
use Rattle.portions.specs.Tally.{tally}
use Rattle.portions.specs.Calls.{Called, Made, Chain, last, reported, and, handed, seen}
use Rattle.portions.specs.Cases.{Cases, KeptCase, row_of, listed, listing, kept_after, closes, row_written, next_kept}

-- m sweeps p: what m keeps is what p keeps, in a frame that no step changes (the grid, the order, the flow's results)
pub record Sweeps {A : Type 0} (m : Stepper A) (p : Cases A) : Type 0 where
  pub frame : KeptCase p.Case → m.Kept
  pub row_size : ℕ
  pub some_size : 0 < row_size
  pub some_steps : 0 < p.N
  pub row_sized : (k : ℕ) (r : List A) → row_of p k ≡ some r → length r ≡ row_size
  pub sized : (s : KeptCase p.Case) → m.size (frame s) ≡ row_size
  pub not_refused : (s : KeptCase p.Case) → s.number ≤ p.cases → s.made < p.N → (s.number ≡ p.cases → s.made ≡ 0) → m.refused (frame s) ≡ false
  pub ends : (s : KeptCase p.Case) → s.number ≤ p.cases → m.ended (frame s) ≡ eqb s.number p.cases
  pub wants_room_lem : (s : KeptCase p.Case) → s.number < p.cases → s.made < p.N → m.wants_room (frame s) ≡ closes p s
  pub writes : (s : KeptCase p.Case) → s.number < p.cases → s.made < p.N → m.items (frame s) ≡ row_written p s
  pub moves : (s : KeptCase p.Case) → s.number < p.cases → s.made < p.N → m.next (frame s) ≡ frame (next_kept p s)

module _ {A : Type 0} {m : Stepper A} {p : Cases A} (w : Sweeps m p) where
  open p use {N, cases}
  open w use {frame, row_size}

  -- "A fresh sweep: the kept sweep after 0 steps"
  abbrev pub fresh : m.Kept
  fresh = frame (kept_after p 0)

  -- the tally: of N, the number of cases, which cases are listed, and each call's allowance and row space
  abbrev pub steps : List (Called A m.Kept) → ℕ
  steps cs = tally N cases (listed p) (seen row_size cs)

  -- the cases that are closed, and the steps made in the open one
  abbrev pub closed : List (Called A m.Kept) → ℕ
  closed cs = steps cs / N

  -- `cs` are calls from a fresh sweep, and c is one more
  pub record Demand3 (cs : List (Called A m.Kept)) : Type 0 where
    -- "the rows joined are the first rows of the listing, exactly those of the closed cases"
    pub rows_of_closed : handed row_size cs ≡ joined (listing p (closed cs))
    pub first_rows : handed row_size cs ≡ take (length (handed row_size cs)) (joined (listing p cases))
    -- "no advance is refused"
    pub never_refused : (c : Called A m.Kept) → Made m (last fresh cs) c → c.stop ≡ Refused → ⊥
    -- "the tally .. ends at N times the cases"
    pub tally_ends : steps cs ≤ N * cases
    -- "the step sum"
    pub steps_sum : reported cs ≡ steps cs
    -- "the kept sweep after each call"
    pub kept : last fresh cs ≡ frame (kept_after p (steps cs))
    -- steps of the closed cases and those made in the open one
    pub steps_of_cases : reported cs ≡ N * closed cs + (kept_after p (steps cs)).made
    -- "finished exactly at the end": when every case is closed after the call, and then all rows are out
    pub finished_iff : (c : Called A m.Kept) → Made m (last fresh cs) c → (c.stop ≡ Finished) ↔ (closed (and cs c) ≡ cases)
    pub all_out : (c : Called A m.Kept) → Made m (last fresh cs) c → c.stop ≡ Finished → handed row_size (and cs c) ≡ joined (listing p cases)
    -- "progress": with a case open, an allowance and space for a row a step is made
    pub progress : (c : Called A m.Kept) → Made m (last fresh cs) c → closed cs < cases → 1 ≤ c.allowance → row_size ≤ length c.lent → 1 ≤ c.steps
    pub within_allowance : (c : Called A m.Kept) → Made m (last fresh cs) c → c.steps ≤ c.allowance
    pub within_memory : (c : Called A m.Kept) → Made m (last fresh cs) c → row_size * c.count ≤ length c.lent
    pub past_unchanged : (c : Called A m.Kept) → Made m (last fresh cs) c → drop (row_size * c.count) c.left ≡ drop (row_size * c.count) c.lent

-- every list of calls
pub record Demand3Claims : Type 1 where
  pub whole : {A : Type 0} {m : Stepper A} {p : Cases A} (w : Sweeps m p) (cs : List (Called A m.Kept)) → Chain m (fresh w) cs → Demand3 w cs

-- Worked examples of the definitions: they are believed, so a wrong clause need break no other proof. The answers were written by hand from document 01.
use mathlib.Core.Path.{◌≡◌, refl}
use mathlib.Core.Bool.{Bool, true, false, cond, ◌||◌}
use mathlib.Core.Option.{none, some}
use mathlib.Core.List.{List, [], ◌∷◌}
use Prim.Native.Nat.{ℕ, suc, ◌+◌, ◌*◌, ◌%◌}
use native.Mathlib.Omega.{arith}
use lib.Dec.{eqb, ltb}
use lib.ListN.{length}
use borrow.Author.Tests.{le-ltb}
use Rattle.lists.proofs.Counting.{by-test}
use Rattle.portions.specs.declared.Stop.{Stop}
use Rattle.portions.specs.declared.Stop.TheVariants.{Finished, Spent, Full, Refused}
use Rattle.portions.specs.Stopping.{Stepper, Answer, joined, advance, answer_of, memory_of}
use Rattle.portions.specs.Tally.{Call, counted, counted_all, tally, records_after, run_tally}
use Rattle.portions.specs.Calls.{Called, Chain, last, reported, handed, seen}
use Rattle.portions.specs.Course.{Course}
use Rattle.portions.specs.Cases.{Cases, KeptCase, case_after, row_of, listed, listing, kept_after, closes, stepped, row_written, opened, next_kept}
use Rattle.portions.specs.Demand3.{Sweeps, fresh, Demand3}
use Rattle.portions.proofs.Demand3.{demand3_claims}

-- three cases of two steps: 5, 6, 8, then 15, 16, 18, then 25, 26, 28; the second is not listed
abbrev three : Cases ℕ
three =
    record {
      Case = ℕ;
      N = 2;
      cases = 3;
      start = λ k. 10 * k + 5;
      step = λ k n c. c + n + 1;
      row = λ k c. cond (eqb k 1) none (some (k ∷ c ∷ []));
      zeros = 0;
    }

abbrev sweep : Stepper ℕ
sweep =
    record {
      Kept = KeptCase ℕ;
      refused = λ s. ltb 3 s.number;
      size = λ s. 2;
      ended = λ s. eqb s.number 3;
      wants_room = closes three;
      items = row_written three;
      next = next_kept three;
    }

abbrev at : (number made state : ℕ) → KeptCase ℕ
at number made state = record { number = number; made = made; state = state }

listing_is : listing three 3 ≡ (0 ∷ 8 ∷ []) ∷ (2 ∷ 28 ∷ []) ∷ []
unfolding listing row_of case_after
listing_is = refl

kept_are : (kept_after three 0 ≡ at 0 0 5) × (kept_after three 3 ≡ at 1 1 16) × (kept_after three 4 ≡ at 2 0 25) × (kept_after three 6 ≡ at 3 0 0)
unfolding kept_after case_after
kept_are = (refl, refl, refl, refl)

-- steps 1 to 6, one by one
next-are
    : (next_kept three (at 0 0 5) ≡ at 0 1 6)
    × (next_kept three (at 0 1 6) ≡ at 1 0 15)
    × (next_kept three (at 1 0 15) ≡ at 1 1 16)
    × (next_kept three (at 1 1 16) ≡ at 2 0 25)
    × (next_kept three (at 2 0 25) ≡ at 2 1 26)
    × (next_kept three (at 2 1 26) ≡ at 3 0 0)
unfolding next_kept opened closes stepped
next-are = (refl, refl, refl, refl, refl, refl)

abbrev answer : (steps : ℕ) → List (List ℕ) → Stop → KeptCase ℕ → Answer ℕ (KeptCase ℕ)
answer steps items stop kept = record { steps = steps; items = items; stop = stop; kept = kept }

-- With no allowance: finished if no case is left, else spent. With space for no row: spent if the allowance is made just before the last step of a case, else full
-- there, also in the second case, which has no row. With space for one row: the first case's row, and then full. With space for two: all.
advance-are
    : (advance sweep 0 0 (at 3 0 0) ≡ answer 0 [] Finished (at 3 0 0))
    × (advance sweep 9 0 (at 3 0 0) ≡ answer 0 [] Finished (at 3 0 0))
    × (advance sweep 0 0 (at 0 1 6) ≡ answer 0 [] Spent (at 0 1 6))
    × (advance sweep 1 0 (at 0 0 5) ≡ answer 1 [] Spent (at 0 1 6))
    × (advance sweep 2 0 (at 0 0 5) ≡ answer 1 [] Full (at 0 1 6))
    × (advance sweep 9 0 (at 1 0 15) ≡ answer 1 [] Full (at 1 1 16))
    × (advance sweep 9 1 (at 0 0 5) ≡ answer 3 ((0 ∷ 8 ∷ []) ∷ []) Full (at 1 1 16))
    × (advance sweep 5 2 (at 0 0 5) ≡ answer 5 ((0 ∷ 8 ∷ []) ∷ []) Spent (at 2 1 26))
    × (advance sweep 6 2 (at 0 0 5) ≡ answer 6 ((0 ∷ 8 ∷ []) ∷ (2 ∷ 28 ∷ []) ∷ []) Finished (at 3 0 0))
unfolding advance next_kept row_written opened closes stepped
advance-are = (refl, refl, refl, refl, refl, refl, refl, refl, refl)

-- two steps allowed; three numbers hold one row, and the third is left; a kept sweep with a case number above 3 is refused
lent-are
    : (answer_of sweep (at 0 0 5) 2 (71 ∷ 72 ∷ 73 ∷ []) ≡ answer 2 ((0 ∷ 8 ∷ []) ∷ []) Spent (at 1 0 15))
    × (answer_of sweep (at 0 0 5) 9 (71 ∷ 72 ∷ 73 ∷ []) ≡ answer 3 ((0 ∷ 8 ∷ []) ∷ []) Full (at 1 1 16))
    × (memory_of sweep (at 0 0 5) 9 (71 ∷ 72 ∷ 73 ∷ []) ≡ 0 ∷ 8 ∷ 73 ∷ [])
    × (memory_of sweep (at 0 0 5) 9 (71 ∷ 72 ∷ 73 ∷ 74 ∷ 75 ∷ []) ≡ 0 ∷ 8 ∷ 2 ∷ 28 ∷ 75 ∷ [])
    × (answer_of sweep (at 4 0 5) 9 (71 ∷ 72 ∷ 73 ∷ []) ≡ answer 0 [] Refused (at 4 0 5))
    × (memory_of sweep (at 4 0 5) 9 (71 ∷ 72 ∷ 73 ∷ []) ≡ 71 ∷ 72 ∷ 73 ∷ [])
unfolding answer_of memory_of joined advance next_kept row_written opened closes stepped
lent-are = (refl, refl, refl, refl, refl, refl)

abbrev call : (allowance space : ℕ) → Call
call allowance space = record { allowance = allowance; space = space }

abbrev tallied : List Call → ℕ
tallied = tally 2 3 (listed three)

-- the same calls by the tally; the second case closes without using space
tally-are
    : (tallied [] ≡ 0)
    × (tallied (call 0 5 ∷ []) ≡ 0)
    × (tallied (call 1 0 ∷ []) ≡ 1)
    × (tallied (call 9 0 ∷ call 9 0 ∷ []) ≡ 1)
    × (tallied (call 9 1 ∷ []) ≡ 3)
    × (tallied (call 9 1 ∷ call 9 1 ∷ []) ≡ 6)
    × (tallied (call 2 1 ∷ call 2 0 ∷ []) ≡ 3)
    × (tallied (call 9 2 ∷ call 9 2 ∷ []) ≡ 6)
unfolding counted_all counted listed row_of case_after
tally-are = (refl, refl, refl, refl, refl, refl, refl, refl)

-- a run of five steps of which 0, 2 and 4 are recorded: full before a step that is recorded
recorded : ℕ → Bool
recorded t = eqb (t % 2) 0 || eqb t 4

abbrev run : Stepper ℕ
run =
    record {
      Kept = ℕ;
      refused = λ s. ltb 5 s;
      size = λ s. 1;
      ended = λ s. eqb s 5;
      wants_room = recorded;
      items = λ s. cond (recorded s) (((100 + s) ∷ []) ∷ []) [];
      next = suc;
    }

run-are
    : (advance run 9 0 0 ≡ record { steps = 0; items = []; stop = Full; kept = 0 })
    × (advance run 9 0 1 ≡ record { steps = 1; items = []; stop = Full; kept = 2 })
    × (advance run 9 2 0 ≡ record { steps = 4; items = (100 ∷ []) ∷ (102 ∷ []) ∷ []; stop = Full; kept = 4 })
    × (advance run 9 3 0 ≡ record { steps = 5; items = (100 ∷ []) ∷ (102 ∷ []) ∷ (104 ∷ []) ∷ []; stop = Finished; kept = 5 })
unfolding advance recorded
run-are = (refl, refl, refl, refl)

run-tally-are
    : (run_tally 5 recorded (call 9 0 ∷ []) ≡ 0)
    × (run_tally 5 recorded (call 1 1 ∷ call 9 0 ∷ []) ≡ 2)
    × (run_tally 5 recorded (call 9 2 ∷ []) ≡ 4)
    × (run_tally 5 recorded (call 9 2 ∷ call 9 1 ∷ []) ≡ 5)
unfolding counted_all counted recorded
run-tally-are = (refl, refl, refl, refl)

-- two calls of the sweep: three numbers lent, then five
calls : List (Called ℕ (KeptCase ℕ))
calls =
    record { allowance = 9; lent = 71 ∷ 72 ∷ 73 ∷ []; steps = 3; count = 1; stop = Full; kept = at 1 1 16; left = 0 ∷ 8 ∷ 73 ∷ [] }
    ∷ record { allowance = 8; lent = 74 ∷ 75 ∷ 76 ∷ 77 ∷ 78 ∷ []; steps = 3; count = 1; stop = Finished; kept = at 3 0 0; left = 2 ∷ 28 ∷ 76 ∷ 77 ∷ 78 ∷ [] }
    ∷ []

calls_are
    : (handed 2 calls ≡ 0 ∷ 8 ∷ 2 ∷ 28 ∷ [])
    × (reported calls ≡ 6)
    × (last (at 0 0 5) calls ≡ at 3 0 0)
    × (seen 2 calls ≡ call 9 1 ∷ call 8 2 ∷ [])
unfolding calls handed reported last seen
calls_are = (refl, refl, refl, refl)

-- What the claims ask of a sweep and of a run can be had, and they speak of these calls.
three_swept : Sweeps sweep three
unfolding row_of
three_swept =
    record {
      frame = λ s. s;
      row_size = 2;
      some_size = omega arith;
      some_steps = omega arith;
      row_sized = λ k r e. pair (eqb k 1) k (case_after three k 2) r e;
      sized = λ s. refl;
      not_refused = λ s h i j. le-ltb 3 s.number h;
      ends = λ s h. refl;
      wants_room_lem = λ s h i. refl;
      writes = λ s h i. refl;
      moves = λ s h i. refl;
    }
  where
    pair : (b : Bool) (k c : ℕ) (r : List ℕ) → cond b none (some (k ∷ c ∷ [])) ≡ some r → length r ≡ 2
    pair true k c r e = cc
    pair false k c r e = let q : k ∷ c ∷ [] ≡ r = cc in rw (← q)

calls_chained : Chain sweep (fresh three_swept) calls
unfolding three_swept calls kept_after case_after answer_of memory_of joined advance next_kept row_written opened closes stepped
calls_chained = (
  record { steps_is = refl; count_is = refl; stop_is = refl; kept_is = refl; left_is = refl },
  (record { steps_is = refl; count_is = refl; stop_is = refl; kept_is = refl; left_is = refl }, tt),
)

calls_claimed : Demand3 three_swept calls
calls_claimed = demand3_claims.whole three_swept calls calls_chained

run_course : Course run
unfolding joined
run_course =
    record {
      total = 5;
      item_size = 1;
      at = λ t. t;
      wants = recorded;
      uses = records_after 5 recorded;
      not_refused = λ t l. le-ltb 5 t l;
      sized = λ t l. refl;
      some_size = omega arith;
      ends = λ t l. refl;
      wants_room_lem = λ t l. refl;
      writes = λ t l. by-test (recorded t) (λ e. rw e) (λ e. rw e);
      whole_items = λ t l. by-test (recorded t) (λ e. rw e) (λ e. rw e);
      only_with_room = λ t l. omega arith;
      moves = λ t l. refl;
    }

-- A run of any kind meets `InPortions`: the facts of its kind make it a course, of which `portions` has proved the claim. Assumes nothing.
use Prim.Native.Nat.{ℕ, zero, suc, ◌≤◌}
use native.Mathlib.Omega.{arith}
use mathlib.Core.Path.{◌≡◌, refl, sym, ap, ◌∙◌}
use mathlib.Core.Bool.{false, cond}
use mathlib.Core.List.{List, [], ◌∷◌}
use lib.ListN.{length, take}
use lib.Ieee.{Float}
use Rattle.grid.specs.declared.simulator.DcSwitchingSimulator.{DcSwitchingSimulator}
use Rattle.timing.specs.Steps.{steps_of, recorded, record_length}
use Rattle.portions.specs.Stopping.{Stepper, joined}
use Rattle.portions.specs.Calls.{Called, Chain, last, and, handed}
use Rattle.portions.specs.Course.{Course, items_before}
use Rattle.portions.proofs.Course.{course_claims, chain_and}
use Rattle.records.specs.Records.{record_of}
use Rattle.runs.specs.declared.result.DcTransientResult.{DcTransientResult}
use Rattle.runs.specs.Runs.{Run, states_after, Calls, InPortions}
use Rattle.runs.specs.Kinds.{RunKind, run_stepper}
use Rattle.runs.proofs.Turns.{joined-one, count_one, length-one, record_long}

last_and : {K : Type 0} (s : K) (cs : List (Called Float K)) (c : Called Float K) → last s (and cs c) ≡ c.kept
unfolding last
last_and s [] c = refl
last_and s (d ∷ cs) c = last_and d.kept cs c

-- A whole run of a kind: the runs after t steps.
module _ {K : Type 0} (k : RunKind K) (g : DcSwitchingSimulator) (at : ℕ → K) (on : (t : ℕ) → k.grid (at t) ≡ g) (counted : (t : ℕ) → k.steps_made (at t) ≡ t)
    (steps : (t : ℕ) → at (suc t) ≡ k.next (at t)) (taken : (t : ℕ) → t ≤ steps_of g → k.refused (at t) ≡ false) where
  abbrev m : Stepper Float
  m = run_stepper k

  abbrev N : ℕ
  N = steps_of g

  -- the record of step t
  abbrev of_step : ℕ → List Float
  of_step t = record_of g (k.state (at (suc t)))

  written : (t : ℕ) → m.items (at t) ≡ cond (recorded N t) (of_step t ∷ []) []
  written t = rw (on t, counted t, steps t)

  abbrev course : Course m
  course =
      record {
        total = N;
        item_size = record_length g;
        at = at;
        wants = recorded N;
        uses = λ t. cond (recorded N t) 1 0;
        not_refused = taken;
        sized = λ t l. ap record_length (on t);
        some_size = omega arith;
        ends = λ t l. rw (on t, counted t);
        wants_room_lem = λ t l. rw (on t, counted t);
        writes = λ t l. rw (written t, count_one (recorded N t) (of_step t));
        whole_items = λ t l. rw (written t, joined-one (recorded N t) (of_step t)) (length-one (recorded N t) (of_step t) (record_length g) (record_long g (k.state (at (suc t)))));
        only_with_room = λ t l. omega arith;
        moves = λ t l. sym (steps t);
      }

  -- as a run of 000's
  module _ (figures : m.Kept → DcTransientResult) (results : DcTransientResult) (finally : figures (at N) ≡ results) where
    abbrev pub whole : Run
    whole = record { stepper = m; grid = g; after = at; state_at = λ j. k.state (at (suc j)); figures = figures; results = results }

    states_are : (t : ℕ) → items_before course t ≡ states_after whole t
    unfolding items_before states_after
    states_are zero = refl
    states_are (suc t) = rw (states_are t, written t)

    pub in_portions : (cs : Calls whole) → Chain m (at 0) cs → InPortions whole cs
    in_portions cs chain =
        let p = course_claims.portions course cs chain in
        record {
          portions =
              record {
                items_joined = p.items_joined ∙ ap joined (states_are _);
                first_items = p.first_items ∙ ap (λ (l : List (List Float)). take (length (handed (record_length g) cs)) (joined l)) (states_are N);
                tally_ends = p.tally_ends;
                steps_sum = p.steps_sum;
                kept_is = p.kept_is;
                never_refused = p.never_refused;
                finished_iff = p.finished_iff;
                all_out = λ c made h. p.all_out c made h ∙ ap joined (states_are N);
                progress = p.progress;
                within_allowance = p.within_allowance;
                within_memory = p.within_memory;
                past_unchanged = p.past_unchanged;
              };
          final_figures = λ c made h.
              let q = course_claims.portions course (and cs c) (chain_and m (at 0) cs c chain made) in
              ap figures (sym (last_and (at 0) cs c) ∙ q.kept_is ∙ ap at ((p.finished_iff c made).0 h)) ∙ finally;
        }

-- The loop of an advance, of any kind of run: which tests a turn makes, what it writes. Assumes nothing.
use Prim.Native.Nat.{ℕ, ◌+◌, ◌*◌, ◌/◌, ◌≤◌, ◌<◌}
use native.Mathlib.Nat.{mul-one, mul-zero, mul-le-mul_left, mul-div-le}
use native.Mathlib.Omega.{arith}
use mathlib.Core.Path.{◌≡◌, refl, sym, ap, ◌∙◌}
use mathlib.Core.Bool.{Bool, true, false, cond, ◌&&◌, ◌||◌}
use mathlib.Core.List.{List, [], ◌∷◌, append-nil}
use lib.Dec.{eqb}
use borrow.Author.Tests.{eq-eqb, ne_eqb, eqb-false}
use lib.ListN.{length, get_or, take, length-take, length-append}
use lib.Seq.{sets}
use lib.Ieee.{Float}
use Rattle.lists.proofs.Fills.{length-tab}
use Rattle.float64.specs.Arithmetic.{of}
use Rattle.grid.specs.Simulator.{stations_of, cables_of, breakers_of}
use Rattle.grid.specs.declared.simulator.DcSwitchingSimulator.{DcSwitchingSimulator}
use Rattle.timing.specs.Steps.{steps_of, most_steps, counted_to, recorded, record_length}
use Rattle.timing.specs.Claims.{Steps}
use Rattle.timing.proofs.Claims.{step_claims}
use Rattle.rule_claims.specs.Claims.{Sizes}
use Rattle.portions.specs.Stopping.{Stepper, joined, reason_of, memory_of}
use Rattle.portions.specs.declared.Stop.{Stop}
use Rattle.state_derivatives.specs.declared.state.DcTransientState.{DcTransientState}
use Rattle.records.specs.declared.record.RecordCounts.{RecordCounts}
use Rattle.records.specs.Records.{closed_number, record_with, record_by, record_of, counts_of, numbers_in, Counted, puts}
use Rattle.records.proofs.Fitting.{puts_is}
use Rattle.portions.proofs.Loop.{Going, Came, going_start, came_reason, goes_on, going_on, room_fits}
use Rattle.runs.specs.declared.stepping.Advanced.{Advanced}
use Rattle.runs.specs.Kinds.{RunKind, Ready, run_stepper, advanced_run}

-- a record, or none
module _ (b : Bool) (r : List Float) where
  pub joined-one : joined (cond b (r ∷ []) []) ≡ cond b r []
  unfolding joined
  joined-one = go b
    where
      go : (b : Bool) → joined (cond b (r ∷ []) []) ≡ cond b r []
      go true = append-nil r
      go false = refl

  pub count_one : length (cond b (r ∷ []) []) ≡ cond b 1 0
  count_one = go b
    where
      go : (b : Bool) → length (cond b (r ∷ []) []) ≡ cond b 1 0
      go true = refl
      go false = refl

  pub length-one : (size : ℕ) → length r ≡ size → length (cond b r []) ≡ size * cond b 1 0
  length-one size h = go b
    where
      go : (b : Bool) → length (cond b r []) ≡ size * cond b 1 0
      go true = h ∙ sym (mul-one size)
      go false = sym (mul-zero size)

-- what an advance works out of an accepted grid before its loop: N, the numbers of a record, for how many there is space, and the counts
pub record Sized (g : DcSwitchingSimulator) (lent₀ : List Float) (n size space : ℕ) (counts : RecordCounts) : Type 0 where
  pub n_is : n ≡ steps_of g
  pub few : n ≤ most_steps
  pub size_is : size ≡ record_length g
  pub space_is : space ≡ length lent₀ / record_length g
  pub counts_is : counts ≡ counts_of g
  pub counted : Counted counts

no_more : {A : Type 0} (xs : List A) (n m : ℕ) → n ≤ m → length (take n xs) ≤ m
no_more xs n m l = rw length-take (omega arith)

pub sized : (g : DcSwitchingSimulator) (lent₀ : List Float) (n size : ℕ) (counts : RecordCounts) → Steps (steps_of g) → Sizes g
    → n ≡ counted_to (steps_of g) → size ≡ record_length g → counts ≡ counts_of g → Sized g lent₀ n size (length lent₀ / size) counts
sized g lent₀ n size counts steps sizes is-n is-size is-counts =
    let e : n ≡ steps_of g = is-n ∙ step_claims.counted (steps_of g) steps in
    record {
      n_is = e;
      few = rw e steps.1;
      size_is = is-size;
      space_is = rw is-size;
      counts_is = is-counts;
      counted =
          rw is-counts
          (record {
            stations = no_more g.stations g.n_stations 32 sizes.stations;
            cables = no_more g.cables g.n_cables 64 sizes.cables;
            breakers = no_more g.breakers g.n_breakers 32 sizes.breakers;
          });
    }

-- a record has as many numbers as it is said to have
pub record_long : (g : DcSwitchingSimulator) (s : DcTransientState) → length (record_of g s) ≡ record_length g
unfolding record_with
record_long g s =
    let n = length (stations_of g) in
    let m = length (cables_of g) in
    let b = length (breakers_of g) in
    simp (length-append, length-tab {A = Float} n (of s.y), length-tab {A = Float} n (of s.station_currents_ka), length-tab {A = Float} m (λ k. of s.y (n + k)), length-tab {A = Float} b (λ i. closed_number (get_or s.breaker_states i false))) (omega arith)

or-true : (e f : Bool) → (e || true || f) ≡ true
or-true true f = refl
or-true false f = refl

or-false : (e f : Bool) → (e || false || f) ≡ (e || f)
or-false true f = refl
or-false false f = refl

module _ {K : Type 0} (k : RunKind K) where
  abbrev m : Stepper Float
  m = run_stepper k

  -- the invariant of an advance's loop, of the run that is advanced and the run after some steps
  pub record Inside (r₀ : K) (allowance : ℕ) (lent₀ : List Float) (n size space : ℕ) (counts : RecordCounts) (r : K) (lent : List Float) (steps out : ℕ) : Type 0 where
    pub fixed : Sized (k.grid r₀) lent₀ n size space counts
    pub same_grid : k.grid r ≡ k.grid r₀
    pub going : Going m r₀ allowance lent₀ r lent steps out
    pub made_ok : k.steps_made r ≤ n

  -- before the first turn
  pub inside : (r₀ : K) (allowance : ℕ) (lent₀ : List Float) (n size : ℕ) (counts : RecordCounts) → k.refused r₀ ≡ false → Ready (k.grid r₀) (k.steps_made r₀)
      → n ≡ counted_to (steps_of (k.grid r₀)) → size ≡ record_length (k.grid r₀) → counts ≡ counts_of (k.grid r₀)
      → Inside r₀ allowance lent₀ n size (length lent₀ / size) counts r₀ lent₀ 0 0
  inside r₀ allowance lent₀ n size counts taken ready is-n is-size is-counts =
      let fixed = sized (k.grid r₀) lent₀ n size counts ready.steps ready.sizes is-n is-size is-counts in
      record { fixed = fixed; same_grid = refl; going = going_start m r₀ allowance lent₀ taken; made_ok = rw fixed.n_is ready.not_past }

  module _ {r₀ : K} {allowance : ℕ} {lent₀ : List Float} {n size space : ℕ} {counts : RecordCounts} {r : K} {lent : List Float} {steps out : ℕ}
      (i : Inside r₀ allowance lent₀ n size space counts r lent steps out) where
    total : steps_of (k.grid r) ≡ n
    total = ap steps_of i.same_grid ∙ sym i.fixed.n_is

    -- where the next record would stand is in the memory
    pub position : size * out ≤ length lent
    position =
        rw i.fixed.size_is (omega (arith, mul-le-mul_left (record_length (k.grid r₀)) i.going.out_ok, mul-div-le (length lent₀) (record_length (k.grid r₀)), i.going.same_length))

    module _ (made : ℕ) (is-made : made ≡ k.steps_made r) where
      ends : eqb made n ≡ m.ended r
      ends = rw (is-made, total)

      -- the allowance is made
      pub runs_out : allowance ≤ steps → Came m r₀ allowance lent₀ allowance out (reason_of (eqb made n) true) r lent
      runs_out l =
          let e : steps ≡ allowance = omega (arith, i.going.steps_ok) in
          let c = came_reason m i.going (eqb made n) true _ ends (sym (eq-eqb steps allowance e)) refl (or-true (eqb made n) _) in
          record { steps_is = sym e ∙ c.steps_is; count_is = c.count_is; stop_is = c.stop_is; kept_is = c.kept_is; left_is = c.left_is }

      module _ (b : Bool) (is_b : b ≡ recorded n made) (l : steps < allowance) where
        wants : b ≡ m.wants_room r
        wants = rw (is_b, is-made, total)

        -- whether no whole record fits, as the rule has it
        full : (b && eqb out space) ≡ (m.wants_room r && eqb out (length lent₀ / m.size r₀))
        full = rw (wants, i.fixed.space_is)

        unspent : false ≡ eqb steps allowance
        unspent = sym (ne_eqb steps allowance (λ e. omega arith))

        pub leaves : (eqb made n || (b && eqb out space)) ≡ true → Came m r₀ allowance lent₀ steps out (reason_of (eqb made n) false) r lent
        leaves h = came_reason m i.going (eqb made n) false (b && eqb out space) ends unspent full (or-false (eqb made n) _ ∙ h)

        module _ (h : (eqb made n || (b && eqb out space)) ≡ false) where
          on : (m.ended r ≡ false) × (steps < allowance) × (m.wants_room r ≡ true → out < length lent₀ / m.size r₀)
          on = goes_on m i.going (eqb made n) false (b && eqb out space) ends unspent full (or-false (eqb made n) _ ∙ h)

          more_steps : k.steps_made r < n
          more_steps = let e = eqb-false made n (ends ∙ on.0) in omega (arith, i.made_ok)

          -- the step can be counted
          pub few : k.steps_made r < most_steps
          few = omega (arith, more_steps, i.fixed.few)

          fits : b ≡ true → size * out + numbers_in counts ≤ length lent
          fits t = rw (i.fixed.counts_is, i.fixed.size_is) (room_fits m i.going (on.2 (sym wants ∙ t)))

          -- the record has its space, so it is written exactly where it is asked for
          written : puts b counts (size * out) (length lent) ≡ b
          written = puts_is b counts (size * out) (length lent) i.fixed.counted fits

          pub goes : (r' : K) → r' ≡ k.next r → k.grid r' ≡ k.grid r → k.steps_made r' ≡ k.steps_made r + 1 → (state : DcTransientState) → state ≡ k.state r' → (w : ℕ) → w ≡ cond (puts b counts (size * out) (length lent)) 1 0
              → (lent' : List Float) → lent' ≡ sets lent (size * out) (cond (puts b counts (size * out) (length lent)) (record_by counts state) [])
              → Inside r₀ allowance lent₀ n size space counts r' lent' (steps + 1) (out + w)
          goes r' is-r grid counted state is-state w is-w lent' is-lent =
              let record₁ = record_of (k.grid r) (k.state (k.next r)) in
              let one : w ≡ cond (m.wants_room r) 1 0 = is-w ∙ rw (written, wants) in
              record {
                fixed = i.fixed;
                same_grid = grid ∙ i.same_grid;
                going =
                    going_on m i.going on.0 on.1 on.2 w (rw one (count_one (m.wants_room r) record₁)) (rw one (omega arith))
                    (rw (joined-one (m.wants_room r) record₁, one) (length-one (m.wants_room r) record₁ (m.size r₀) (record_long (k.grid r) (k.state (k.next r)) ∙ ap record_length i.same_grid)))
                    r' is-r lent'
                    (is-lent ∙ rw (written, wants, joined-one (m.wants_room r) record₁, i.fixed.size_is, i.fixed.counts_is, is-state, is-r, ← i.same_grid));
                made_ok = rw counted (omega (arith, more_steps));
              }

-- what the contract says of an answer
pub returned : {K : Type 0} (k : RunKind K) {r₀ : K} {allowance : ℕ} {lent₀ : List Float} {steps out : ℕ} {stop : Stop} {r : K} {lent : List Float} → Came (run_stepper k) r₀ allowance lent₀ steps out stop r lent
    → (◌≡◌ {A = Advanced K} (record { stop = stop; steps = steps; records = out; run = r }) (advanced_run k r₀ allowance lent₀)) × (lent ≡ memory_of (run_stepper k) r₀ allowance lent₀)
unfolding advanced_run
returned k c = (λ i. record { stop = c.stop_is i; steps = c.steps_is i; records = c.count_is i; run = c.kept_is i }, c.left_is)

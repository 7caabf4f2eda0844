-- An advance as a loop makes it: what is left of the call stands behind the steps made so far, which wrote the items that lie in the lent memory.
-- Assumes nothing.
use mathlib.Core.Path.{◌≡◌, refl, sym, ap, ◌∙◌}
use mathlib.Core.Bool.{Bool, true, false, cond, ◌&&◌, ◌||◌}
use mathlib.Core.List.{List, [], ◌++◌, append_assoc, append-nil}
use Prim.Native.Nat.{ℕ, zero, suc, ◌+◌, ◌-◌, ◌*◌, ◌/◌, ◌≤◌, ◌<◌}
use native.Mathlib.Nat.{add-zero, sub-zero, mul-add, mul-suc, mul-zero, mul-le-mul_left, mul-div-le}
use native.Mathlib.Omega.{arith}
use lib.Dec.{eqb}
use lib.ListN.{length, drop, length-append}
use lib.Seq.{sets, length-sets}
use borrow.Author.Tests.{ne_eqb, eqb-true, eqb-false}
use Rattle.lists.proofs.Counting.{contrary}
use Rattle.lists.proofs.Scanning.{left, right}
use Rattle.portions.specs.declared.Stop.{Stop}
use Rattle.portions.specs.declared.Stop.TheVariants.{Finished, Spent, Full, Refused}
use Rattle.portions.specs.Stopping.{Stepper, Answer, joined, stopped, after, advance, answer_of, memory_of, reason_of}
use Rattle.portions.specs.Calls.{Made}
use Rattle.portions.proofs.Joined.{joined-append, stored_behind}

-- no whole item is wanted, or there is space for one
pub roomy : (b : Bool) (space : ℕ) → (b ≡ true → 0 < space) → (b && eqb space 0) ≡ false
roomy true space h = let l = h refl in ne_eqb space 0 (λ e. omega arith)
roomy false space h = refl

-- what a step writes fits
pub one_fits : (b : Bool) (out space w : ℕ) → out ≤ space → (b ≡ true → out < space) → w ≤ cond b 1 0 → out + w ≤ space
one_fits true out space w le f h = let l = f refl in omega arith
one_fits false out space w le f h = omega arith

module _ {A : Type 0} (m : Stepper A) where
  open m use {Kept, refused, size, ended, wants_room, items, next}

  -- one turn of an advance
  pub go_finished : (a space : ℕ) (s : Kept) → ended s ≡ true → advance m a space s ≡ stopped m Finished s
  unfolding advance
  go_finished zero space s e = rw e
  go_finished (suc a) space s e = rw e

  pub go_spent : (space : ℕ) (s : Kept) → ended s ≡ false → advance m 0 space s ≡ stopped m Spent s
  unfolding advance
  go_spent space s e = rw e

  pub go_full : (a : ℕ) (s : Kept) → ended s ≡ false → wants_room s ≡ true → advance m (suc a) 0 s ≡ stopped m Full s
  unfolding advance
  go_full a s e r = rw (e, r)

  pub go_step : (a space : ℕ) (s : Kept) → ended s ≡ false → (wants_room s && eqb space 0) ≡ false
      → advance m (suc a) space s ≡ after m (items s) (advance m a (space - length (items s)) (next s))
  unfolding advance
  go_step a space s e r = rw (e, r)

  -- x behind n steps that wrote `is`
  abbrev pub behind : ℕ → List (List A) → Answer A Kept → Answer A Kept
  behind n is x = record { steps = n + x.steps; items = is ++ x.items; stop = x.stop; kept = x.kept }

  same_answer : {n k : ℕ} {is js : List (List A)} (w : Stop) (s : Kept) → n ≡ k → is ≡ js
      → ◌≡◌ {A = Answer A Kept} (record { steps = n; items = is; stop = w; kept = s }) (record { steps = k; items = js; stop = w; kept = s })
  same_answer w s e f = λ i. record { steps = e i; items = f i; stop = w; kept = s }

  -- the loop's invariant
  pub record Going (s₀ : Kept) (allowance : ℕ) (lent₀ : List A) (s : Kept) (lent : List A) (steps out : ℕ) : Type 0 where
    pub taken : refused s₀ ≡ false
    pub steps_ok : steps ≤ allowance
    pub out_ok : out ≤ length lent₀ / size s₀
    pub same_length : length lent ≡ length lent₀
    -- the items written so far
    pub past : List (List A)
    pub past_count : length past ≡ out
    pub past_size : length (joined past) ≡ size s₀ * out
    pub memory_is : lent ≡ joined past ++ drop (size s₀ * out) lent₀
    pub whole : advance m allowance (length lent₀ / size s₀) s₀ ≡ behind steps past (advance m (allowance - steps) (length lent₀ / size s₀ - out) s)

  pub going_start : (s₀ : Kept) (allowance : ℕ) (lent₀ : List A) → refused s₀ ≡ false → Going s₀ allowance lent₀ s₀ lent₀ 0 0
  unfolding joined
  going_start s₀ allowance lent₀ e =
      let x = advance m allowance (length lent₀ / size s₀) s₀ in
      record {
        taken = e;
        steps_ok = omega arith;
        out_ok = omega arith;
        same_length = refl;
        past = [];
        past_count = refl;
        past_size = omega arith;
        memory_is = rw mul-zero;
        whole = simp sub-zero (same_answer x.stop x.kept (omega arith) refl);
      }

  -- what the contract of an advance says of its answer
  abbrev pub Came : (s₀ : Kept) (allowance : ℕ) (lent₀ : List A) (steps out : ℕ) (stop : Stop) (s : Kept) (lent : List A) → Type 0
  Came s₀ allowance lent₀ steps out stop s lent = Made m s₀ (record { allowance = allowance; lent = lent₀; steps = steps; count = out; stop = stop; kept = s; left = lent })

  pub came_refused : (s₀ : Kept) (allowance : ℕ) (lent₀ : List A) → refused s₀ ≡ true → Came s₀ allowance lent₀ 0 0 Refused s₀ lent₀
  unfolding answer_of memory_of
  came_refused s₀ allowance lent₀ e = record { steps_is = rw e; count_is = rw e; stop_is = rw e; kept_is = rw e; left_is = rw e }

  module _ {s₀ : Kept} {allowance : ℕ} {lent₀ : List A} {s : Kept} {lent : List A} {steps out : ℕ} (g : Going s₀ allowance lent₀ s lent steps out) where
    -- where the loop is left
    module _ (w : Stop) (e : advance m (allowance - steps) (length lent₀ / size s₀ - out) s ≡ stopped m w s) where
      answer : answer_of m s₀ allowance lent₀ ≡ behind steps g.past (stopped m w s)
      unfolding answer_of
      answer = rw (g.taken, g.whole, e)

      came : Came s₀ allowance lent₀ steps out w s lent
      unfolding memory_of
      came =
          record {
            steps_is = rw (answer, add-zero);
            count_is = rw (answer, append-nil, g.past_count);
            stop_is = rw answer;
            kept_is = rw answer;
            left_is = rw (g.taken, answer, append-nil, g.past_count) g.memory_is;
          }

    pub came_finished : ended s ≡ true → Came s₀ allowance lent₀ steps out Finished s lent
    came_finished e = came Finished (go_finished _ _ s e)

    pub came_spent : ended s ≡ false → steps ≡ allowance → Came s₀ allowance lent₀ steps out Spent s lent
    came_spent e h = let z : allowance - steps ≡ 0 = omega arith in came Spent (rw z (go_spent _ s e))

    pub came_full : ended s ≡ false → steps < allowance → wants_room s ≡ true → out ≡ length lent₀ / size s₀ → Came s₀ allowance lent₀ steps out Full s lent
    came_full e l r h =
        let z : length lent₀ / size s₀ - out ≡ 0 = omega arith in
        let q : allowance - steps ≡ suc (allowance - steps - 1) = omega arith in
        came Full (rw (z, q) (go_full _ s e r))

    -- a whole item fits behind those that are there
    pub room_fits : out < length lent₀ / size s₀ → size s₀ * out + size s₀ ≤ length lent
    room_fits l = omega (arith, mul-suc (size s₀) out, mul-le-mul_left (size s₀) l, mul-div-le (length lent₀) (size s₀), g.same_length)

    -- a turn
    pub going_on : ended s ≡ false → steps < allowance → (wants_room s ≡ true → out < length lent₀ / size s₀)
        → (w : ℕ) → length (items s) ≡ w → w ≤ cond (wants_room s) 1 0 → length (joined (items s)) ≡ size s₀ * w
        → (s' : Kept) → s' ≡ next s → (lent' : List A) → lent' ≡ sets lent (size s₀ * out) (joined (items s))
        → Going s₀ allowance lent₀ s' lent' (steps + 1) (out + w)
    going_on e l f w is-w one sized s' is-s lent' is-lent =
        let space = length lent₀ / size s₀ in
        let fits : out + w ≤ space = one_fits (wants_room s) out space w g.out_ok f one in
        let far : size s₀ * (out + w) ≡ size s₀ * out + length (joined (items s)) = omega (arith, mul-add (size s₀) out w) in
        let long : size s₀ * (out + w) ≤ length lent = omega (arith, mul-le-mul_left (size s₀) fits, mul-div-le (length lent₀) (size s₀), g.same_length) in
        let x = advance m (allowance - (steps + 1)) (space - (out + w)) (next s) in
        let q : allowance - steps ≡ suc (allowance - (steps + 1)) = omega arith in
        let d : space - out - w ≡ space - (out + w) = omega arith in
        let more : advance m (allowance - steps) (space - out) s ≡ after m (items s) x =
        rw q
        (go_step (allowance - (steps + 1)) (space - out) s e (roomy (wants_room s) (space - out) (λ r. let k = f r in omega arith))
        ∙ rw (is-w, d))
        in
        record {
          taken = g.taken;
          steps_ok = omega arith;
          out_ok = fits;
          same_length = ap length is-lent ∙ length-sets lent (size s₀ * out) (joined (items s)) ∙ g.same_length;
          past = g.past ++ items s;
          past_count = omega (arith, length-append g.past (items s), g.past_count);
          past_size = rw joined-append (omega (arith, length-append (joined g.past) (joined (items s)), g.past_size));
          memory_is =
              is-lent
              ∙ rw (joined-append, far, g.memory_is)
              (stored_behind (joined g.past) (joined (items s)) lent₀ (size s₀ * out) g.past_size (rw (← g.memory_is) (omega arith)));
          whole = g.whole ∙ rw (more, is-s) (same_answer x.stop x.kept (omega arith) (sym (append_assoc g.past (items s) x.items)));
        }

    -- the three tests of a turn, e whether none are left, p whether the allowance is made, f whether no whole item fits
    pub came_reason : (e p f : Bool) → e ≡ ended s → p ≡ eqb steps allowance → f ≡ (wants_room s && eqb out (length lent₀ / size s₀)) → (e || p || f) ≡ true
        → Came s₀ allowance lent₀ steps out (reason_of e p) s lent
    came_reason true p f is-e is-p is_f h = came_finished (sym is-e)
    came_reason false true f is-e is-p is_f h = came_spent (sym is-e) (eqb-true steps allowance (sym is-p))
    came_reason false false true is-e is-p is_f h =
        let n = eqb-false steps allowance (sym is-p) in
        came_full (sym is-e) (omega (arith, g.steps_ok)) (left (wants_room s) (eqb out (length lent₀ / size s₀)) (sym is_f)) (eqb-true out (length lent₀ / size s₀) (right (wants_room s) (eqb out (length lent₀ / size s₀)) (sym is_f)))
    came_reason false false false is-e is-p is_f h = contrary h refl

    -- none of them
    pub goes_on : (e p f : Bool) → e ≡ ended s → p ≡ eqb steps allowance → f ≡ (wants_room s && eqb out (length lent₀ / size s₀)) → (e || p || f) ≡ false
        → (ended s ≡ false) × (steps < allowance) × (wants_room s ≡ true → out < length lent₀ / size s₀)
    goes_on false false false is-e is-p is_f h =
        let n = eqb-false steps allowance (sym is-p) in
        (sym is-e, omega (arith, g.steps_ok), λ r. let q = eqb-false out (length lent₀ / size s₀) (sym (is_f ∙ rw r)) in omega (arith, g.out_ok))
    goes_on true p f is-e is-p is_f h = contrary refl h
    goes_on false true f is-e is-p is_f h = contrary refl h
    goes_on false false true is-e is-p is_f h = contrary refl h

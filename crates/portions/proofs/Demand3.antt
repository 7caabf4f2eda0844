-- Demand 3: a sweep has a course, so every list of its calls meets the claims of `Course`, and the items of that course are the listing's rows.
-- Assumes nothing.
use mathlib.Core.Path.{◌≡◌, sym, ap, ◌∙◌}
use mathlib.Core.Logic.{◌↔◌}
use mathlib.Core.Bool.{Bool, true, false, cond, ◌&&◌}
use mathlib.Core.List.{List}
use Prim.Native.Nat.{ℕ, zero, suc, ◌+◌, ◌*◌, ◌/◌, ◌≤◌, ◌<◌}
use native.Mathlib.Nat.{div-add-mod, div-lt_iff_lt-mul, mul-div_cancel_left, zero-div}
use native.Mathlib.Omega.{arith}
use lib.ListN.{length}
use Rattle.portions.specs.declared.Stop.TheVariants.{Finished}
use Rattle.portions.specs.Stopping.{Stepper, joined}
use Rattle.portions.specs.Tally.{closes_after, rows_after}
use Rattle.portions.specs.Calls.{Called, Made, Chain, last, reported, and}
use Rattle.portions.specs.Course.{Course, items_before, CourseIn}
use Rattle.portions.specs.Cases.{Cases, listed, listing, kept_after}
use Rattle.portions.specs.Demand3.{Sweeps, fresh, steps, closed, Demand3Claims}
use Rattle.portions.proofs.Course.{chain_and, course_claims}
use Rattle.portions.proofs.Multiples.{all_iff}
use Rattle.portions.proofs.Cases.{held_at, ended_at, made_at, open_number, open_made, closes_at, next_at, listing_at, count_at, sized_at}

-- a row is written only where room was wanted
row_with_room : (b h : Bool) → cond (b && h) 1 0 ≤ cond b 1 0
row_with_room true true = omega arith
row_with_room true false = omega arith
row_with_room false h = omega arith

module _ {A : Type 0} {m : Stepper A} {p : Cases A} (w : Sweeps m p) where
  open p use {N, cases}
  open w use {frame, row_size}

  -- a step from what is kept after t steps
  module _ (t : ℕ) (l : t < N * cases) where
    ok_number : (kept_after p t).number < cases
    ok_number = open_number p w.some_steps t l

    ok_made : (kept_after p t).made < N
    ok_made = open_made p w.some_steps t l

    writes_at : length (m.items (frame (kept_after p t))) ≡ rows_after N cases (listed p) t
    writes_at = rw (w.writes (kept_after p t) ok_number ok_made) (count_at p w.some_steps t l)

    sizes_at : length (joined (m.items (frame (kept_after p t)))) ≡ row_size * rows_after N cases (listed p) t
    sizes_at =
        rw (w.writes (kept_after p t) ok_number ok_made)
        (sized_at p w.some_steps t l row_size w.row_sized ∙ ap (λ (n : ℕ). row_size * n) (count_at p w.some_steps t l))

    moves_at : m.next (frame (kept_after p t)) ≡ frame (kept_after p (suc t))
    moves_at = w.moves (kept_after p t) ok_number ok_made ∙ ap frame (next_at p w.some_steps t l)

  abbrev course : Course m
  course =
      record {
        total = N * cases;
        item_size = row_size;
        at = λ t. frame (kept_after p t);
        wants = closes_after N cases (listed p);
        uses = rows_after N cases (listed p);
        not_refused = λ t le. let h = held_at p w.some_steps t le in w.not_refused (kept_after p t) h.number_ok h.made_ok h.none_made;
        sized = λ t le. w.sized (kept_after p t);
        some_size = w.some_size;
        ends = λ t le. w.ends (kept_after p t) (held_at p w.some_steps t le).number_ok ∙ ended_at p w.some_steps t le;
        wants_room_lem = λ t l. w.wants_room_lem (kept_after p t) (ok_number t l) (ok_made t l) ∙ closes_at p w.some_steps t l;
        writes = writes_at;
        whole_items = sizes_at;
        only_with_room = λ t l. row_with_room (closes_after N cases (listed p) t) (listed p (t / N));
        moves = moves_at;
      }

  closed_below : (t : ℕ) → t / N < cases → t < N * cases
  closed_below t l = omega (arith, (div-lt_iff_lt-mul w.some_steps).0 l)

  -- the items of its first steps are the rows of the closed cases
  items_listing : (t : ℕ) → t ≤ N * cases → items_before course t ≡ listing p (t / N)
  unfolding items_before listing
  items_listing zero le = rw zero-div
  items_listing (suc t) le =
      rw (items_listing t (omega arith), w.writes (kept_after p t) (ok_number t le) (ok_made t le)) (listing_at p w.some_steps t le)

  all_items : items_before course (N * cases) ≡ listing p cases
  all_items = items_listing (N * cases) (omega arith) ∙ ap (listing p) (mul-div_cancel_left cases w.some_steps)

  module _ (cs : List (Called A m.Kept)) (ch : Chain m (fresh w) cs) where
    alike : CourseIn course cs
    alike = course_claims.portions course cs ch

    steps_end : steps w cs ≤ N * cases
    steps_end = alike.tally_ends

    sum-split : reported cs ≡ N * closed w cs + (kept_after p (steps w cs)).made
    sum-split = alike.steps_sum ∙ rw (made_at p w.some_steps (steps w cs) steps_end) (sym (div-add-mod (steps w cs) N))

    -- one more
    module _ (c : Called A m.Kept) (made : Made m (last (fresh w) cs) c) where
      steps_end_and : steps w (and cs c) ≤ N * cases
      steps_end_and = (course_claims.portions course (and cs c) (chain_and m (fresh w) cs c ch made)).tally_ends

      ends_when : (c.stop ≡ Finished) ↔ (closed w (and cs c) ≡ cases)
      ends_when =
          let i = all_iff N w.some_steps (steps w (and cs c)) cases steps_end_and in
          let f = alike.finished_iff c made in
          (λ e. i.0 (f.0 e), λ e. f.1 (i.1 e))

pub demand3_claims : Demand3Claims
demand3_claims =
    record {
      whole = λ w cs ch.
          let q = alike w cs ch in
          record {
            rows_of_closed = q.items_joined ∙ ap joined (items_listing w (steps w cs) q.tally_ends);
            first_rows = rw (all_items w) at q.first_items;
            never_refused = q.never_refused;
            tally_ends = q.tally_ends;
            steps_sum = q.steps_sum;
            kept = q.kept_is;
            steps_of_cases = sum-split w cs ch;
            finished_iff = ends_when w cs ch;
            all_out = λ c made e. q.all_out c made e ∙ ap joined (all_items w);
            progress = λ c made l. q.progress c made (closed_below w (steps w cs) l);
            within_allowance = q.within_allowance;
            within_memory = q.within_memory;
            past_unchanged = q.past_unchanged;
          };
    }

-- Every list of calls of what is advanced meets the claim `Portions`: one call beside the tally of it, then the list. Assumes nothing.
use mathlib.Core.Path.{◌≡◌, refl, sym, ap, ◌∙◌}
use mathlib.Core.Logic.{◌↔◌, ⊎_elim}
use mathlib.Core.Bool.{Bool, true, false, ◌&&◌}
use mathlib.Core.List.{List, [], ◌∷◌, ◌++◌, append_assoc, append-nil}
use Prim.Native.Nat.{ℕ, zero, suc, ◌+◌, ◌-◌, ◌*◌, ◌/◌, ◌≤◌, ◌<◌}
use native.Mathlib.Nat.{eq-or-lt_of_le, mul-zero, mul-add, mul-le-mul_left, mul-div-le, le-div_iff_mul-le, le_trans}
use native.Mathlib.Omega.{arith}
use lib.Dec.{eqb}
use lib.ListN.{length, take, drop, length-append}
use lib.Seq.{take_at, drop_at, take-append_seam}
use borrow.Author.Tests.{eq-eqb, ne_eqb, eqb-false}
use Rattle.lists.proofs.Counting.{by-test, contrary}
use Rattle.portions.specs.declared.Stop.{Stop}
use Rattle.portions.specs.declared.Stop.TheVariants.{Finished, Spent, Full, Refused}
use Rattle.portions.specs.Stopping.{number_of, Stepper, Answer, joined, stopped, after, advance, answer_of, memory_of}
use Rattle.portions.specs.Tally.{counted, counted_all}
use Rattle.portions.specs.Calls.{Called, Made, Chain, last, reported, and, handed, seen}
use Rattle.portions.specs.Course.{Course, items_before, tallied, kept, CourseClaims}
use Rattle.portions.proofs.Joined.{joined-append}
use Rattle.portions.proofs.Loop.{roomy, one_fits, go_step}

-- a test that there is no room, failed
room_left : (b : Bool) (space : ℕ) → (b && eqb space 0) ≡ false → b ≡ true → 0 < space
room_left true space e h = let n = eqb-false space 0 e in omega arith
room_left false space e h = contrary h refl

-- another reason to stop, before the end
not_yet : (w : Stop) {t total : ℕ} → 0 < number_of w → t < total → (w ≡ Finished) ↔ (t ≡ total)
not_yet w h l = (λ e. let z = ap number_of e in absurd (let n : ⊥ = omega arith in n), λ e. absurd (let n : ⊥ = omega arith in n))

-- a list of calls and one more
module _ {A : Type 0} (m : Stepper A) where
  pub chain_and : (s : m.Kept) (cs : List (Called A m.Kept)) (c : Called A m.Kept) → Chain m s cs → Made m (last s cs) c → Chain m s (and cs c)
  unfolding last
  chain_and s [] c ch made = (made, tt)
  chain_and s (d ∷ cs) c ch made = (ch.0, chain_and d.kept cs c ch.1 made)

module _ {A : Type 0} {m : Stepper A} (k : Course m) where
  open k use {total, item_size, at, wants, uses}

  abbrev count : (allowance space t : ℕ) → ℕ
  count = counted total wants uses

  abbrev count_all : ℕ → List (Called A m.Kept) → ℕ
  count_all t cs = counted_all total wants uses t (seen item_size cs)

  count_and : (t : ℕ) (cs : List (Called A m.Kept)) (c : Called A m.Kept)
      → count_all t (and cs c) ≡ count c.allowance (length c.lent / item_size) (count_all t cs)
  unfolding counted_all seen
  count_and t [] c = refl
  count_and t (d ∷ cs) c = count_and (count d.allowance (length d.lent / item_size) t) cs c

  -- the answer x to a call from what is kept after t steps, beside the tally of it, which comes to u
  record Beside (allowance space t : ℕ) (x : Answer A m.Kept) (u : ℕ) : Type 0 where
    in_all : u ≤ total
    steps_made : t + x.steps ≡ u
    allowed : x.steps ≤ allowance
    kept_now : x.kept ≡ at u
    items_made : items_before k t ++ x.items ≡ items_before k u
    items_fit : length x.items ≤ space
    items_sized : length (joined x.items) ≡ item_size * length x.items
    stop_when : (x.stop ≡ Finished) ↔ (u ≡ total)
    taken : x.stop ≡ Refused → ⊥

  -- no step is made
  still : (allowance space t : ℕ) (w : Stop) → t ≤ total → ((w ≡ Finished) ↔ (t ≡ total)) → number_of w < 11 → Beside allowance space t (stopped m w (at t)) t
  unfolding joined
  still allowance space t w le i n =
      record {
        in_all = le;
        steps_made = omega arith;
        allowed = omega arith;
        kept_now = refl;
        items_made = append-nil (items_before k t);
        items_fit = omega arith;
        items_sized = sym (mul-zero item_size);
        stop_when = i;
        taken = λ e. let z = ap number_of e in omega arith;
      }

  -- a step is made
  more : (allowance space t : ℕ) (x : Answer A m.Kept) (u : ℕ) → t < total → uses t ≤ space
      → Beside allowance (space - uses t) (suc t) x u → Beside (suc allowance) space t (after m (m.items (at t)) x) u
  unfolding items_before
  more allowance space t x u l f b =
      record {
        in_all = b.in_all;
        steps_made = omega (arith, b.steps_made);
        allowed = omega (arith, b.allowed);
        kept_now = b.kept_now;
        items_made = sym (append_assoc (items_before k t) (m.items (at t)) x.items) ∙ b.items_made;
        items_fit = omega (arith, length-append (m.items (at t)) x.items, k.writes t l, b.items_fit);
        items_sized =
            simp (joined-append, length-append, mul-add)
            (omega (arith, k.whole_items t l, ap (λ (n : ℕ). item_size * n) (k.writes t l), b.items_sized));
        stop_when = b.stop_when;
        taken = b.taken;
      }

  fits : (space t : ℕ) → t < total → (wants t && eqb space 0) ≡ false → uses t ≤ space
  fits space t l e = omega (arith, one_fits (wants t) 0 space (uses t) (omega arith) (room_left (wants t) space e) (k.only_with_room t l))

  beside : (a space t : ℕ) → t ≤ total → Beside a space t (advance m a space (at t)) (count a space t)
  unfolding advance counted
  beside zero space t le =
      rw (k.ends t le)
      (⊎_elim
      (λ (e : t ≡ total). rw (eq-eqb t total e) (still 0 space t Finished le (λ h. e, λ h. refl) (omega arith)))
      (λ (l : t < total). rw (ne_eqb t total (λ e. omega arith)) (still 0 space t Spent le (not_yet Spent (omega arith) l) (omega arith)))
      (eq-or-lt_of_le le))
  beside (suc a) space t le =
      rw (k.ends t le)
      (⊎_elim
      (λ (e : t ≡ total). rw (eq-eqb t total e) (still (suc a) space t Finished le (λ h. e, λ h. refl) (omega arith)))
      (λ (l : t < total).
      rw (ne_eqb t total (λ e. omega arith), k.wants_room_lem t l)
      (by-test (wants t && eqb space 0)
      (λ q. rw q (still (suc a) space t Full le (not_yet Full (omega arith) l) (omega arith)))
      (λ q. rw (q, k.moves t l, k.writes t l)
      (more a space t _ _ l (fits space t l q) (beside a (space - uses t) (suc t) l)))))
      (eq-or-lt_of_le le))

  -- a call from what is kept after t steps, which the tally brings to u
  record Told (t : ℕ) (c : Called A m.Kept) (u : ℕ) : Type 0 where
    in_all : u ≤ total
    steps_made : t + c.steps ≡ u
    allowed : c.steps ≤ c.allowance
    kept_now : c.kept ≡ at u
    items_made : joined (items_before k t) ++ take (item_size * c.count) c.left ≡ joined (items_before k u)
    items_fit : item_size * c.count ≤ length c.lent
    rest : drop (item_size * c.count) c.left ≡ drop (item_size * c.count) c.lent
    stop_when : (c.stop ≡ Finished) ↔ (u ≡ total)
    taken : c.stop ≡ Refused → ⊥
    moved : t < total → 1 ≤ c.allowance → item_size ≤ length c.lent → 1 ≤ c.steps

  module _ (t : ℕ) (le : t ≤ total) (c : Called A m.Kept) (made : Made m (at t) c) where
    abbrev space : ℕ
    space = length c.lent / item_size

    abbrev x : Answer A m.Kept
    x = advance m c.allowance space (at t)

    answer : answer_of m (at t) c.allowance c.lent ≡ x
    unfolding answer_of
    answer = rw (k.not_refused t le, k.sized t le)

    left_is : c.left ≡ joined x.items ++ drop (item_size * length x.items) c.lent
    unfolding memory_of
    left_is = made.left_is ∙ rw (k.not_refused t le, answer, k.sized t le)

    stepped : t < total → 1 ≤ c.allowance → item_size ≤ length c.lent → 1 ≤ x.steps
    stepped l some room =
        let s : 0 < space = (le-div_iff_mul-le k.some_size).1 (omega arith) in
        let q : c.allowance ≡ suc (c.allowance - 1) = omega arith in
        rw (q, go_step m (c.allowance - 1) space (at t) (k.ends t le ∙ ne_eqb t total (λ e. omega arith)) (roomy (m.wants_room (at t)) space (λ r. s)))
        (omega arith)

    told : Told t c (count c.allowance space t)
    told =
        let b = beside c.allowance space t le in
        let steps : c.steps ≡ x.steps = made.steps_is ∙ rw answer in
        let items : c.count ≡ length x.items = made.count_is ∙ rw answer in
        let stop : c.stop ≡ x.stop = made.stop_is ∙ rw answer in
        record {
          in_all = b.in_all;
          steps_made = rw steps b.steps_made;
          allowed = rw steps b.allowed;
          kept_now = made.kept_is ∙ rw answer b.kept_now;
          items_made =
              rw (items, left_is, take_at (joined x.items) (drop (item_size * length x.items) c.lent) (item_size * length x.items) b.items_sized, ← joined-append)
              (ap joined b.items_made);
          items_fit = rw items (le_trans (mul-le-mul_left item_size b.items_fit) (mul-div-le (length c.lent) item_size));
          rest = rw (items, left_is) (drop_at (joined x.items) _ _ b.items_sized);
          stop_when = (λ e. b.stop_when.0 (sym stop ∙ e), λ e. stop ∙ b.stop_when.1 e);
          taken = λ e. b.taken (sym stop ∙ e);
          moved = λ l some room. rw steps (stepped l some room);
        }

  -- calls from what is kept after t steps, which the tally brings to u
  record ToldAll (t : ℕ) (cs : List (Called A m.Kept)) (u : ℕ) : Type 0 where
    in_all : u ≤ total
    steps_made : t + reported cs ≡ u
    kept_now : last (at t) cs ≡ at u
    items_made : joined (items_before k t) ++ handed item_size cs ≡ joined (items_before k u)

  told_all : (t : ℕ) (cs : List (Called A m.Kept)) → t ≤ total → Chain m (at t) cs → ToldAll t cs (count_all t cs)
  unfolding reported last handed counted_all seen
  told_all t [] le ch = record { in_all = le; steps_made = omega arith; kept_now = refl; items_made = append-nil _ }
  told_all t (c ∷ cs) le ch =
      let one = told t le c ch.0 in
      let others = told_all (count c.allowance (length c.lent / item_size) t) cs one.in_all (rw one.kept_now at ch.1) in
      record {
        in_all = others.in_all;
        steps_made = omega (arith, one.steps_made, others.steps_made);
        kept_now = rw one.kept_now others.kept_now;
        items_made = rw (← append_assoc, one.items_made) others.items_made;
      }

  -- what the first steps write comes first
  items_first : (n t : ℕ) → t ≤ n → (rest : List (List A)) × (items_before k n ≡ items_before k t ++ rest)
  unfolding items_before
  items_first zero t le = let e : 0 ≡ t = omega arith in ([], ap (items_before k) e ∙ sym (append-nil (items_before k t)))
  items_first (suc n) t le =
      let shorter = items_first n t in
      ⊎_elim
      (λ (e : t ≡ suc n). ([], ap (items_before k) (sym e) ∙ sym (append-nil (items_before k t))))
      (λ (l : t < suc n).
      let f = shorter (omega arith) in
      (f.0 ++ m.items (at n), rw f.1 (append_assoc (items_before k t) f.0 (m.items (at n)))))
      (eq-or-lt_of_le le)

  -- calls from the start
  module _ (cs : List (Called A m.Kept)) (ch : Chain m (at 0) cs) where
    all : ToldAll 0 cs (tallied k cs)
    all = told_all 0 cs (omega arith) ch

    out : handed item_size cs ≡ joined (items_before k (tallied k cs))
    unfolding items_before joined
    out = all.items_made

    first : handed item_size cs ≡ take (length (handed item_size cs)) (joined (items_before k total))
    first =
        let f = items_first total (tallied k cs) all.in_all in
        rw (out, f.1, joined-append) (sym (take-append_seam (joined (items_before k (tallied k cs))) (joined f.0)))

    -- one more
    one_more : (c : Called A m.Kept) → Made m (kept k cs) c → Told (tallied k cs) c (tallied k (and cs c))
    one_more c made = rw (count_and 0 cs c) (told (tallied k cs) all.in_all c (rw all.kept_now at made))

pub course_claims : CourseClaims
course_claims =
    record {
      portions = λ k cs ch.
          record {
            items_joined = out k cs ch;
            first_items = first k cs ch;
            tally_ends = (all k cs ch).in_all;
            steps_sum = omega (arith, (all k cs ch).steps_made);
            kept_is = (all k cs ch).kept_now;
            never_refused = λ c made. (one_more k cs ch c made).taken;
            finished_iff = λ c made. (one_more k cs ch c made).stop_when;
            all_out = λ c made e.
                out k (and cs c) (chain_and _ (k.at 0) cs c ch made) ∙ ap (λ (n : ℕ). joined (items_before k n)) ((one_more k cs ch c made).stop_when.0 e);
            progress = λ c made. (one_more k cs ch c made).moved;
            within_allowance = λ c made. (one_more k cs ch c made).allowed;
            within_memory = λ c made. (one_more k cs ch c made).items_fit;
            past_unchanged = λ c made. (one_more k cs ch c made).rest;
          };
    }

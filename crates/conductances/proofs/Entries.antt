-- The conductance matrix: what stores leave in an entry, what a cable more makes of it, and that it is symmetric. Assumes nothing.
use Prim.Native.Nat.{ℕ, ◌+◌, ◌/◌, ◌%◌, ◌≤◌, ◌<◌}
use mathlib.Core.Path.{◌≡◌, refl, sym, ◌∙◌}
use mathlib.Core.Bool.{Bool, true, false, ◌&&◌, cond}
use mathlib.Core.Logic.{⊎_elim}
use mathlib.Core.List.{List, [], ◌∷◌, foldl}
use native.Mathlib.Omega.{arith}
use borrow.Author.Tests.{eq-eqb, ne_eqb}
use lib.Dec.{eqb}
use lib.ListN.{length, get_or, set, take, replicate, length-set, length-replicate, get_or-replicate}
use lib.Seq.{get_or-set_same, get_or-set_other}
use lib.Ieee.{Float, nan}
use Rattle.lists.specs.Tables.{tab, blank}
use Rattle.lists.proofs.Fills.{is_tab, tab_same, length-tab, get_d_tab}
use Rattle.lists.proofs.Folds.{fold_more}
use Rattle.lists.proofs.Counting.{eq_or_ne}
use Rattle.lists.proofs.Scanning.{and_second}
use Rattle.float64.specs.Constants.{nought}
use Rattle.grid.specs.declared.parts.DcCable.{DcCable}
use Rattle.grid.specs.declared.simulator.DcSwitchingSimulator.{DcSwitchingSimulator}
use Rattle.grid.specs.Simulator.{cables_of, station_count}
use Rattle.conductances.specs.Conductances.{at, more, less, joining, joined, conductance, entry, place, cell, stored, each_entry, matrix, conductances_of}
use Rattle.conductances.specs.Symmetric.{Symmetric}

-- ---- places

-- a place is that of one row and one column
pub at_place : (k a b : ℕ) → b < 32 → eqb k (place a b) ≡ (eqb (k / 32) a && eqb (k % 32) b)
at_place k a b h =
    ⊎_elim
    (λ e. let row : k / 32 ≡ a = omega arith in
    let column : k % 32 ≡ b = omega arith in
    rw (eq-eqb k (place a b) e, eq-eqb (k / 32) a row, eq-eqb (k % 32) b column))
    (λ d. ⊎_elim
    (λ row. let column : k % 32 ≡ b → ⊥ = λ q. d (omega arith) in
    rw (ne_eqb k (place a b) d, ne_eqb (k % 32) b column) (sym (and_second (eqb (k / 32) a) false refl)))
    (λ row. rw (ne_eqb k (place a b) d, ne_eqb (k / 32) a row))
    (eq_or_ne (k / 32) a))
    (eq_or_ne k (place a b))

-- ---- stores

-- what one store leaves at each place
pub store_at : (h : Float → Float) (l : List Float) (a b k : ℕ) → b < 32 → k < length l
    → get_or (set l (place a b) (h (get_or l (place a b) nan))) k nan ≡ at a b h (k / 32) (k % 32) (get_or l k nan)
store_at h l a b k lb lk =
    rw (← at_place k a b lb)
    (⊎_elim
    (λ e. rw (eq-eqb k (place a b) e, ← e) (get_or-set_same l k (h (get_or l k nan)) nan lk))
    (λ d. rw (ne_eqb k (place a b) d) (get_or-set_other l (place a b) k (h (get_or l (place a b) nan)) nan d))
    (eq_or_ne k (place a b)))

-- the four stores of a cable
pub joins_entries : (from to : ℕ) (g : Float) (m : List Float) → from < 32 → to < 32
    → stored (less g) to from (stored (less g) from to (stored (more g) to to (stored (more g) from from m))) ≡ each_entry (joining from to g) m
unfolding each_entry
joins_entries from to g m lf lt =
    let m1 = stored (more g) from from m in
    let m2 = stored (more g) to to m1 in
    let m3 = stored (less g) from to m2 in
    let l1 : length m1 ≡ length m = length-set m (place from from) (more g (get_or m (place from from) nan)) in
    let l2 : length m2 ≡ length m = length-set m1 (place to to) (more g (get_or m1 (place to to) nan)) ∙ l1 in
    let l3 : length m3 ≡ length m = length-set m2 (place from to) (less g (get_or m2 (place from to) nan)) ∙ l2 in
    is_tab (length m) (λ k. joining from to g (k / 32) (k % 32) (get_or m k nan)) nan
    (stored (less g) to from m3)
    (length-set m3 (place to from) (less g (get_or m3 (place to from) nan)) ∙ l3)
    (λ k lk. store_at (less g) m3 to from k lf (rw l3 lk)
    ∙ rw (store_at (less g) m2 from to k lt (rw l2 lk), store_at (more g) m1 to to k lt (rw l1 lk), store_at (more g) m from from k lf lk))

-- a cable that is skipped
pub skips_entries : (m : List Float) → m ≡ each_entry (λ i j x. x) m
unfolding each_entry
skips_entries m = is_tab (length m) (λ k. get_or m k nan) nan m refl (λ k lk. refl)

-- ---- the matrix

pub matrix-none : (n : ℕ) → blank 1024 nought ≡ matrix n []
unfolding matrix entry blank
matrix-none n = is_tab 1024 (λ k. nought) nought (replicate 1024 nought) (length-replicate 1024 nought) (λ k lk. get_or-replicate 1024 k nought nought lk)

-- one cable more
pub matrix_more : (n : ℕ) (d : DcCable) (cables : List DcCable) (i : ℕ) → i < length cables
    → each_entry (λ a b x. joined n a b x (get_or cables i d)) (matrix n (take i cables)) ≡ matrix n (take (i + 1) cables)
unfolding each_entry matrix entry
matrix_more n d cables i l =
    rw (length-tab 1024 (λ k. foldl (joined n (k / 32) (k % 32)) nought (take i cables)))
    (tab_same 1024
    (λ k. joined n (k / 32) (k % 32) (get_or (tab 1024 (λ q. foldl (joined n (q / 32) (q % 32)) nought (take i cables))) k nan) (get_or cables i d))
    (λ k. foldl (joined n (k / 32) (k % 32)) nought (take (i + 1) cables))
    (λ k lk. rw (get_d_tab 1024 (λ q. foldl (joined n (q / 32) (q % 32)) nought (take i cables)) nan k lk)
    (sym (fold_more (joined n (k / 32) (k % 32)) nought d cables i l))))

-- the entry that stands at its place
pub matrix-cell : (n : ℕ) (cables : List DcCable) (i j : ℕ) → i < 32 → j < 32 → cell (matrix n cables) i j ≡ entry n cables i j
unfolding matrix
matrix-cell n cables i j li lj =
    let row : place i j / 32 ≡ i = omega arith in
    let column : place i j % 32 ≡ j = omega arith in
    get_d_tab 1024 (λ k. entry n cables (k / 32) (k % 32)) nan (place i j) (omega arith) ∙ rw (row, column)

-- ---- rows and columns

and_swap : (a b : Bool) → (a && b) ≡ (b && a)
and_swap true true = refl
and_swap true false = refl
and_swap false true = refl
and_swap false false = refl

-- of two changes that are the same, each made or not, the order does not matter
either_order : (p q : Bool) (h : Float → Float) (y : Float) → cond p (h (cond q (h y) y)) (cond q (h y) y) ≡ cond q (h (cond p (h y) y)) (cond p (h y) y)
either_order true true h y = refl
either_order true false h y = refl
either_order false true h y = refl
either_order false false h y = refl

joining_swaps : (from to : ℕ) (g : Float) (i j : ℕ) (x : Float) → joining from to g i j x ≡ joining from to g j i x
joining_swaps from to g i j x =
    let ff : (eqb i from && eqb j from) ≡ (eqb j from && eqb i from) = and_swap (eqb i from) (eqb j from) in
    let tt : (eqb i to && eqb j to) ≡ (eqb j to && eqb i to) = and_swap (eqb i to) (eqb j to) in
    let ft : (eqb i from && eqb j to) ≡ (eqb j to && eqb i from) = and_swap (eqb i from) (eqb j to) in
    let tf : (eqb i to && eqb j from) ≡ (eqb j from && eqb i to) = and_swap (eqb i to) (eqb j from) in
    rw (ff, tt, ft, tf)
    (either_order (eqb j from && eqb i to) (eqb j to && eqb i from) (less g)
    (cond (eqb j to && eqb i to) (more g (cond (eqb j from && eqb i from) (more g x) x)) (cond (eqb j from && eqb i from) (more g x) x)))

fold_swaps : (n i j : ℕ) (x : Float) (cables : List DcCable) → foldl (joined n i j) x cables ≡ foldl (joined n j i) x cables
fold_swaps n i j x [] = refl
fold_swaps n i j x (c ∷ cables) =
    let same : joined n i j x c ≡ joined n j i x c = rw (joining_swaps c.from_station c.to_station (conductance c) i j x) in
    rw (← same) (fold_swaps n i j (joined n i j x c) cables)

pub entry_swaps : (n : ℕ) (cables : List DcCable) (i j : ℕ) → entry n cables i j ≡ entry n cables j i
unfolding entry
entry_swaps n cables i j = fold_swaps n i j nought cables

pub matrix_symmetric : (n : ℕ) (cables : List DcCable) → n ≤ 32 → Symmetric n (matrix n cables)
matrix_symmetric n cables l i j li lj =
    matrix-cell n cables i j (omega arith) (omega arith) ∙ entry_swaps n cables i j ∙ sym (matrix-cell n cables j i (omega arith) (omega arith))

-- ---- a grid's matrix

pub of_grid_symmetric : (g : DcSwitchingSimulator) → Symmetric (station_count g.n_stations) (conductances_of g)
of_grid_symmetric g = matrix_symmetric (station_count g.n_stations) (cables_of g) (omega arith)

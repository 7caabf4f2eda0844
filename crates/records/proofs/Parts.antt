-- A record put down part by part. Assumes nothing.
use Rattle.std.proofs.lemmas.List.{get_or-take, get_or-drop, get_or-map}
use Prim.Native.Nat.{ℕ, suc, ◌+◌, ◌-◌, ◌≤◌}
use native.Mathlib.Numerals.{add-one}
use native.Mathlib.Omega.{arith}
use mathlib.Core.Path.{◌≡◌, ap, sym, ◌∙◌}
use mathlib.Core.Bool.{Bool, false}
use mathlib.Core.List.{List, ◌∷◌, ◌++◌, map, append_assoc}
use lib.ListN.{length, get_or, take, drop, set, length-drop, length-map}
use lib.Seq.{sets, length-take-le}
use lib.Ieee.{Float, nan}
use Rattle.lists.specs.Tables.{tab}
use Rattle.lists.proofs.Fills.{length-tab, is_tab}
use Rattle.lists.proofs.Stores.{sets_append}
use Rattle.float64.specs.Arithmetic.{of}
use Rattle.records.specs.Records.{closed_number}

-- the first n numbers, and the m behind them, as tables
pub taken : (n : ℕ) (x : List Float) → n ≤ length x → take n x ≡ tab n (of x)
taken n x h = is_tab n (of x) nan (take n x) (length-take-le n x h) (λ k l. get_or-take n x k nan l)

pub taken_behind : (n m : ℕ) (x : List Float) → n + m ≤ length x → take (n + m - n) (drop n x) ≡ tab m (λ k. of x (n + k))
taken_behind n m x h =
    let e : n + m - n ≡ m = omega arith in
    rw e (is_tab m _ nan (take m (drop n x)) (length-take-le m (drop n x) (omega (arith, length-drop n x))) (λ k l. get_or-take m (drop n x) k nan l ∙ get_or-drop n x k nan))

-- and the first n breakers
pub mapped : (n : ℕ) (b : List Bool) → n ≤ length b → map closed_number (take n b) ≡ tab n (λ i. closed_number (get_or b i false))
mapped n b h =
    let long = length-take-le n b h in
    is_tab n _ nan (map closed_number (take n b)) (length-map (take n b) closed_number ∙ long)
    (λ k l. get_or-map closed_number (take n b) k false nan (omega (arith, long)) ∙ ap closed_number (get_or-take n b k false l))

-- a table, and what follows it
behind : (d : List Float) (at n : ℕ) (f : ℕ → Float) (e : List Float) → sets (sets d at (tab n f)) (at + n) e ≡ sets d at (tab n f ++ e)
behind d at n f e = sym (sets_append (tab n f) e d at ∙ ap (λ (k : ℕ). sets (sets d at (tab n f)) (at + k) e) (length-tab n f))

-- two numbers, then three tables and a last part, each behind the one before
pub laid_out : (d : List Float) (at n m : ℕ) (t i : Float) (f g h : ℕ → Float) (e : List Float)
    → sets (sets (sets (sets (set (set d at t) (at + 1) i) (at + 2) (tab n f)) (at + 2 + n) (tab n g)) (at + 2 + n + n) (tab m h)) (at + 2 + n + n + m) e
    ≡ sets d at (t ∷ i ∷ tab n f ++ tab n g ++ tab m h ++ e)
laid_out d at n m t i f g h e =
    let d₂ = set (set d at t) (at + 1) i in
    let k = at + 2 in
    let two : k ≡ suc (suc at) = omega arith in
    behind (sets (sets d₂ k (tab n f)) (k + n) (tab n g)) (k + n + n) m h e
    ∙ behind (sets d₂ k (tab n f)) (k + n) n g (tab m h ++ e)
    ∙ behind d₂ k n f (tab n g ++ (tab m h ++ e))
    ∙ rw (two, add-one) (simp append_assoc)

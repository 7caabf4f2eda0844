-- What a fault drains, place by place as the code stores it. Assumes nothing.
use Prim.Native.Nat.{ℕ}
use mathlib.Core.Path.{◌≡◌, refl}
use mathlib.Core.Bool.{Bool, true, false, ◌||◌, cond}
use mathlib.Core.List.{List}
use lib.Dec.{eqb}
use lib.Ieee.{Float, nan}
use Rattle.lists.specs.Tables.{over}
use Rattle.lists.proofs.Places.{over_same, twice}
use Rattle.float64.specs.Arithmetic.{◌⊖◌, of}
use Rattle.network.specs.declared.network.Drain.{Drain}
use Rattle.state_derivatives.specs.Derivatives.{drain_current, drained}

either : (p q : Bool) (x s : Float) → cond p x (cond q x s) ≡ cond (p || q) x s
either true q x s = refl
either false q x s = refl

module _ (n : ℕ) (d : Drain) (y : List Float) where
  -- what is left at place i of s
  abbrev pub less : ℕ → Float → Float
  less i s = s ⊖ drain_current d (of y i)

  pub drained_at : (e : List Float) → over n (λ i. twice n nan less less d.from d.to e i (of e i)) nan e ≡ over n (λ i. drained d y i (of e i)) nan e
  drained_at e = over_same n nan _ _ e (λ i l. either (eqb d.from i) (eqb d.to i) (less i (of e i)) (of e i))

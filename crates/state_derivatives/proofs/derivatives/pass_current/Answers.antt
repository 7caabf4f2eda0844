-- `pass_current` meets its contract. Assumes nothing.
use Rattle.float64.specs.Arithmetic.{◌⊕◌, ◌⊖◌}
use Rattle.lists.proofs.Places.{once, once_stored, once_past, twice_stored, twice_past, twice_joined}
use lib.Ieee.{Float, nan}
use lib.ListN.{length}
use Prim.Native.Nat.{ℕ}
use mathlib.Core.Path.{◌≡◌, sym, ◌∙◌}
use Rattle.state_derivatives.proofs.derivatives.pass_current.Goals as goal
use Rattle.state_derivatives.proofs.derivatives.pass_current.Goals.{then-to-n, else-to-n}

abbrev come : Float → ℕ → Float → Float
come x i s = s ⊕ x

abbrev go : Float → ℕ → Float → Float
go x i s = s ⊖ x

pub returns-then-from-to : goal.returns-then-from-to
returns-then-from-to c =
    let first : c.if-to-n.nets ≡ once (length c.args.nets.now) nan (come c.args.current) c.args.to c.args.nets.now =
    elim c.if-to-n.branch [
      | then-to-n w ↦ w.nets-is ∙ once_stored (length c.args.nets.now) nan (come c.args.current) c.args.to c.args.nets.now w.if-to-n.true
      | else-to-n w ↦ w.nets-is ∙ once_past (length c.args.nets.now) nan (come c.args.current) c.args.to c.args.nets.now w.if-to-n.false
    ] in
    twice_stored (length c.args.nets.now) nan (come c.args.current) (go c.args.current) c.args.to c.args.from c.args.nets.now first c.if-from-n.true (λ e. c.if-from-to.true (sym e))

pub returns-else-from-to : goal.returns-else-from-to
returns-else-from-to c =
    let first : c.if-to-n.nets ≡ once (length c.args.nets.now) nan (come c.args.current) c.args.to c.args.nets.now =
    elim c.if-to-n.branch [
      | then-to-n w ↦ w.nets-is ∙ once_stored (length c.args.nets.now) nan (come c.args.current) c.args.to c.args.nets.now w.if-to-n.true
      | else-to-n w ↦ w.nets-is ∙ once_past (length c.args.nets.now) nan (come c.args.current) c.args.to c.args.nets.now w.if-to-n.false
    ] in
    twice_joined (length c.args.nets.now) nan (come c.args.current) (go c.args.current) c.args.to c.args.from c.args.nets.now first (sym c.if-from-to.false)

pub returns-else-from-n : goal.returns-else-from-n
returns-else-from-n c =
    let first : c.if-to-n.nets ≡ once (length c.args.nets.now) nan (come c.args.current) c.args.to c.args.nets.now =
    elim c.if-to-n.branch [
      | then-to-n w ↦ w.nets-is ∙ once_stored (length c.args.nets.now) nan (come c.args.current) c.args.to c.args.nets.now w.if-to-n.true
      | else-to-n w ↦ w.nets-is ∙ once_past (length c.args.nets.now) nan (come c.args.current) c.args.to c.args.nets.now w.if-to-n.false
    ] in
    twice_past (length c.args.nets.now) nan (come c.args.current) (go c.args.current) c.args.to c.args.from c.args.nets.now first c.if-from-n.false

-- `drain_ends` meets its contract. Assumes nothing.
use Rattle.state_derivatives.proofs.Ends.{less, drained_at}
use Rattle.float64.specs.Arithmetic.{◌⊖◌, of}
use Rattle.lists.proofs.Places.{once, once_stored, once_past, twice_stored, twice_past, twice_joined}
use lib.ListN.{set}
use lib.Ieee.{nan}
use mathlib.Core.Path.{◌≡◌, sym, ap, ◌∙◌}
use Rattle.state_derivatives.proofs.derivatives.drain_ends.Goals as goal
use Rattle.state_derivatives.proofs.derivatives.drain_ends.Goals.{then-from-n, else-from-n}

pub returns-then-to-from : goal.returns-then-to-from
returns-then-to-from c =
    let first : c.if-from-n.nets ≡ once c.args.n.value nan (less c.args.n.value c.args.drain c.args.y.now) c.args.drain.from c.args.nets.now =
    elim c.if-from-n.branch [
      | then-from-n w ↦
          w.nets-is
          ∙ ap (λ x. set c.args.nets.now c.args.drain.from (of c.args.nets.now c.args.drain.from ⊖ x)) w.drain_current.ensures
          ∙ once_stored c.args.n.value nan (less c.args.n.value c.args.drain c.args.y.now) c.args.drain.from c.args.nets.now w.if-from-n.true
      | else-from-n w ↦ w.nets-is ∙ once_past c.args.n.value nan (less c.args.n.value c.args.drain c.args.y.now) c.args.drain.from c.args.nets.now w.if-from-n.false
    ] in
    let g = less c.args.n.value c.args.drain c.args.y.now in
    ap (λ x. set c.if-from-n.nets c.args.drain.to (of c.if-from-n.nets c.args.drain.to ⊖ x)) c.drain_current-then-to-from.ensures
    ∙ twice_stored c.args.n.value nan g g c.args.drain.from c.args.drain.to c.args.nets.now first c.if-to-n.true (λ e. c.if-to-from.true (sym e))
    ∙ drained_at c.args.n.value c.args.drain c.args.y.now c.args.nets.now

pub returns-else-to-from : goal.returns-else-to-from
returns-else-to-from c =
    let first : c.if-from-n.nets ≡ once c.args.n.value nan (less c.args.n.value c.args.drain c.args.y.now) c.args.drain.from c.args.nets.now =
    elim c.if-from-n.branch [
      | then-from-n w ↦
          w.nets-is
          ∙ ap (λ x. set c.args.nets.now c.args.drain.from (of c.args.nets.now c.args.drain.from ⊖ x)) w.drain_current.ensures
          ∙ once_stored c.args.n.value nan (less c.args.n.value c.args.drain c.args.y.now) c.args.drain.from c.args.nets.now w.if-from-n.true
      | else-from-n w ↦ w.nets-is ∙ once_past c.args.n.value nan (less c.args.n.value c.args.drain c.args.y.now) c.args.drain.from c.args.nets.now w.if-from-n.false
    ] in
    let g = less c.args.n.value c.args.drain c.args.y.now in
    twice_joined c.args.n.value nan g g c.args.drain.from c.args.drain.to c.args.nets.now first (sym c.if-to-from.false)
    ∙ drained_at c.args.n.value c.args.drain c.args.y.now c.args.nets.now

pub returns-else-to-n : goal.returns-else-to-n
returns-else-to-n c =
    let first : c.if-from-n.nets ≡ once c.args.n.value nan (less c.args.n.value c.args.drain c.args.y.now) c.args.drain.from c.args.nets.now =
    elim c.if-from-n.branch [
      | then-from-n w ↦
          w.nets-is
          ∙ ap (λ x. set c.args.nets.now c.args.drain.from (of c.args.nets.now c.args.drain.from ⊖ x)) w.drain_current.ensures
          ∙ once_stored c.args.n.value nan (less c.args.n.value c.args.drain c.args.y.now) c.args.drain.from c.args.nets.now w.if-from-n.true
      | else-from-n w ↦ w.nets-is ∙ once_past c.args.n.value nan (less c.args.n.value c.args.drain c.args.y.now) c.args.drain.from c.args.nets.now w.if-from-n.false
    ] in
    let g = less c.args.n.value c.args.drain c.args.y.now in
    twice_past c.args.n.value nan g g c.args.drain.from c.args.drain.to c.args.nets.now first c.if-to-n.false
    ∙ drained_at c.args.n.value c.args.drain c.args.y.now c.args.nets.now

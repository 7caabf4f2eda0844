-- `put_number` meets its contract. Assumes nothing.
use mathlib.Core.Path.{◌∙◌, ap}
use native.Mathlib.Omega.{arith}
use lib.ListN.{length-take, length-drop}
use Rattle.printed_numbers.specs.Printed.{right_justified}
use Rattle.printed_numbers.proofs.Justified.{put_back}
use Rattle.printed_numbers.proofs.printed.put_number.Goals as goal

pub returns : goal.returns
returns c =
    let a = c.args in
    put_back a.out.now c.put_digits.new.columns a.at a.width a.n (omega arith) (c.put_digits.ensures ∙ ap (λ w. right_justified w a.n) (rw (length-take, length-drop) (omega arith)))

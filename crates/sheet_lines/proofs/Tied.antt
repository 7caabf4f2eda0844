-- No function asks anything of its caller. Assumes nothing.
use contract.Lifetimes.{Lfts}
use borrow.Fn.World.{ArgsD}
use Rattle.sheet_lines.specs.contracts.line.line_of as line-of-contract
use Rattle.sheet_lines.proofs.line.line_of.Reads as line-of-reads

pub line_of_any : (κs : Lfts 1) (a : ArgsD line-of-contract.signature κs) → line-of-reads.Asked κs a
line_of_any κs a = tt

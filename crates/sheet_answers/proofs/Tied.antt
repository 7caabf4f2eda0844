-- `answer` asks nothing of its caller. Assumes nothing.
use contract.Lifetimes.{Lfts}
use borrow.Fn.World.{ArgsD}
use Rattle.sheet_answers.specs.contracts.answers.answer as answer-contract
use Rattle.sheet_answers.proofs.answers.answer.Reads as answer-reads

module _ (κs : Lfts 0) where
  pub answer_any : (a : ArgsD answer-contract.signature κs) → answer-reads.Asked κs a
  answer_any a = tt

-- No function asks anything of its caller. Assumes nothing.
use contract.Lifetimes.{Lfts}
use borrow.Fn.World.{ArgsD}
use Rattle.converter.specs.contracts.lcc.lcc_point as lcc-point-contract
use Rattle.converter.proofs.lcc.lcc_point.Reads as lcc-point-reads
use Rattle.converter.specs.contracts.vsc.vsc_point as vsc-point-contract
use Rattle.converter.proofs.vsc.vsc_point.Reads as vsc-point-reads
use Rattle.converter.specs.contracts.point.no_point as no-point-contract
use Rattle.converter.proofs.point.no_point.Reads as no-point-reads

pub lcc_point_any : (κs : Lfts 0) (a : ArgsD lcc-point-contract.signature κs) → lcc-point-reads.Asked κs a
lcc_point_any κs a = tt

pub vsc_point_any : (κs : Lfts 0) (a : ArgsD vsc-point-contract.signature κs) → vsc-point-reads.Asked κs a
vsc_point_any κs a = tt

pub no_point_any : (κs : Lfts 0) (a : ArgsD no-point-contract.signature κs) → no-point-reads.Asked κs a
no_point_any κs a = tt

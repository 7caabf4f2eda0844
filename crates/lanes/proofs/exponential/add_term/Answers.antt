-- `add_term` meets its contract: a power of two that is written out is the double of k. Assumes nothing.
use lib.Ieee.{of_int, of_bits}
use Rattle.lanes.proofs.exponential.add_term.Goals as goal

pub returns-in-1 : goal.returns-in-1
unfolding of_int of_bits
returns-in-1 c = rw c.in-1.is c.add_quotients.ensures

pub returns-in-2 : goal.returns-in-2
unfolding of_int of_bits
returns-in-2 c = rw c.in-2.is c.add_quotients-in-2.ensures

pub returns-in-4 : goal.returns-in-4
unfolding of_int of_bits
returns-in-4 c = rw c.in-4.is c.add_quotients-in-4.ensures

pub returns-in-8 : goal.returns-in-8
unfolding of_int of_bits
returns-in-8 c = rw c.in-8.is c.add_quotients-in-8.ensures

pub returns-in-16 : goal.returns-in-16
unfolding of_int of_bits
returns-in-16 c = rw c.in-16.is c.add_quotients-in-16.ensures

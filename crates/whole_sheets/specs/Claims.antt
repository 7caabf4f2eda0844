-- What a reader expects of what X prints, beside the definitions. The proofs are in proofs/Claims.antt.
use Rattle.std.specs.Prelude.{◌≡◌, Result}
use Rattle.whole_sheets.specs.Sheets.{fault_number, printed_of}
use Rattle.whole_sheets.specs.declared.answers.SheetFault.{SheetFault}
use Rattle.whole_sheets.specs.declared.answers.SheetRefusal.{SheetRefusal}

pub record FaultClaims : Type 0 where
  -- a fault is known by its number: 1 to 10, 12 and 13 are the numbers of twelve faults, and each other one but 0 is that of one fault more
  pub known : (f g : SheetFault) → fault_number f ≡ fault_number g → f ≡ g
  -- and an answer by what is printed of it: whether the sheet is refused, by what, and at which line
  pub printed : (r s : Result (Unit {0}) SheetRefusal) → printed_of r ≡ printed_of s → r ≡ s

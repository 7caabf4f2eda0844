-- The cases of a sweep, document 01.7: "cable ascending, then type (0 pole to ground, 1 pole to pole, 2 internal), then tenth ascending, fraction = tenth/10".
-- Definitions only.
use Rattle.std.specs.Prelude.{◌≡◌, ℕ, zero, suc, ◌+◌, ◌-◌, ◌*◌, ◌/◌, ◌%◌, cond, ◌&&◌, length, pos, nat_le, refl, Float}
use Rattle.std.specs.Float.{binary64}
use Rattle.std.specs.Float.Ieee.{of_int, of_bits, round}
use Rattle.float64.specs.Constants.{decimal}
use Rattle.float64.specs.Arithmetic.{◌⊘◌}
use Rattle.grid.specs.Simulator.{cables_of}
use Rattle.grid.specs.declared.parts.DcFaultType.{DcFaultType}
use Rattle.grid.specs.declared.parts.DcFaultType.TheVariants.{PoleToGround, PoleToPole, ConverterInternal}
use Rattle.grid.specs.declared.parts.DcFaultEvent.{DcFaultEvent}
use Rattle.grid.specs.declared.parts.SweepOrder.{SweepOrder}
use Rattle.grid.specs.declared.simulator.DcSwitchingSimulator.{DcSwitchingSimulator}
use Rattle.fault_cases.specs.declared.cases.CasePlace.{CasePlace}

-- how many tenths are tried, from low to high; 1 where rule 9 refuses them, so that every order has cases that can be numbered
abbrev pub tenths_of : SweepOrder → ℕ
tenths_of o = cond (nat_le o.low_tenth o.high_tenth && nat_le o.high_tenth 10) (o.high_tenth - o.low_tenth + 1) 1

-- the types of a fault
abbrev pub types : ℕ
types = 3

-- how many cases there are
abbrev pub cases_of : DcSwitchingSimulator → SweepOrder → ℕ
cases_of g o = length (cables_of g) * (types * tenths_of o)

-- the type of a number
abbrev pub fault_type : ℕ → DcFaultType
fault_type zero = PoleToGround
fault_type (suc zero) = PoleToPole
fault_type (suc (suc n)) = ConverterInternal

-- the number of a type: "0 pole to ground, 1 pole to pole, 2 internal"
abbrev pub type_number : DcFaultType → ℕ
type_number PoleToGround = 0
type_number PoleToPole = 1
type_number ConverterInternal = 2

-- the case of a number: the tenth moves first, then the type, then the cable
abbrev pub place_of : SweepOrder → ℕ → CasePlace
place_of o k = record { cable = k / (types * tenths_of o); fault_type = k / tenths_of o % types; tenth = o.low_tenth + k % tenths_of o }

abbrev pub ten : Float
ten = of_bits binary64 0x4024_0000_0000_0000

pub ten_is : ten ≡ decimal 10 1
unfolding of_bits round
ten_is = refl

-- the fault at a place
unfoldable pub fault_in : SweepOrder → CasePlace → DcFaultEvent
fault_in o p =
    record {
      fault_type = fault_type p.fault_type;
      location_cable_id = p.cable;
      location_fraction = of_int binary64 (pos p.tenth) ⊘ ten;
      fault_resistance = o.fault_resistance;
      inception_time_ms = o.inception_time_ms;
    }

-- the fault of case k
abbrev pub fault_of : SweepOrder → ℕ → DcFaultEvent
fault_of o k = fault_in o (place_of o k)

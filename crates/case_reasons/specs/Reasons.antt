-- Why a case is listed, and its row, document 01.7, from what all its steps lead to. Definitions only.
use Rattle.std.specs.Prelude.{ℕ, ◌+◌, Bool, not, ◌&&◌, ◌||◌, cond, List, [], ◌∷◌, eqb, leb, length, get_or, Float}
use Rattle.std.proofs.Math.Option.{Option, none, some}
use Rattle.std.specs.Float.Ieee.{le}
use Rattle.lists.specs.Scans as scan
use Rattle.float64.specs.Constants.{nought}
use Rattle.float64.specs.Pattern.{bits_of}
use Rattle.grid.specs.Simulator.{blank_cable, blank_breaker, breakers_of}
use Rattle.grid.specs.declared.parts.DcCable.{DcCable}
use Rattle.grid.specs.declared.parts.DcBreaker.{DcBreaker}
use Rattle.grid.specs.declared.simulator.DcSwitchingSimulator.{DcSwitchingSimulator}
use Rattle.fault_cases.specs.declared.cases.CasePlace.{CasePlace}
use Rattle.case_reasons.specs.declared.reasons.CaseOutcome.{CaseOutcome}
use Rattle.case_reasons.specs.declared.reasons.Limit.{Limit}
use Rattle.case_reasons.specs.declared.reasons.Limit.TheVariants.{BreakingCurrent, Energy}

-- ---- breakers at the ends of a cable

-- "A breaker is at an end if its station number is the end's position; the end is taken as given, not cut to the last station"
abbrev pub at_end : DcCable → DcBreaker → Bool
at_end c b = eqb b.station_id c.from_station || eqb b.station_id c.to_station

-- "a NaN exceeds"
abbrev pub exceeds : (value limit : Float) → Bool
exceeds value limit = not (le value limit)

-- the breaking current in kA, or the energy that is absorbed in MJ
abbrev pub limit_of : Limit → DcBreaker → Float
limit_of BreakingCurrent b = b.max_breaking_current_ka
limit_of Energy b = b.energy_absorption_mj

-- the i-th breaker is at an end, and its limit is exceeded
abbrev pub exceeded_by : List DcBreaker → DcCable → Limit → Float → ℕ → Bool
exceeded_by breakers c limit value i = let b = get_or breakers i blank_breaker in at_end c b && exceeds value (limit_of limit b)

abbrev pub cable_in : DcSwitchingSimulator → ℕ → DcCable
cable_in g k = get_or g.cables k blank_cable

abbrev pub some_exceeded : DcSwitchingSimulator → ℕ → Limit → Float → Bool
some_exceeded g k limit value = scan.some (length (breakers_of g)) (exceeded_by g.breakers (cable_in g k) limit value)

-- ---- reasons

-- "Reasons, added up: 1 not cleared; 2 cleared, and the fault current of the clearing step exceeds the breaking current of a breaker at an end of the cable; 4 energy
-- exceeds the absorption of such a breaker; 8 no step .. is detected"
unfoldable pub reasons_of : DcSwitchingSimulator → ℕ → CaseOutcome → ℕ
reasons_of g k x =
    cond (not x.cleared) 1 0
    + cond (x.cleared && some_exceeded g k BreakingCurrent x.clearing_current_ka) 2 0
    + cond (some_exceeded g k Energy x.energy_mj) 4 0
    + cond (not x.detected) 8 0

-- ---- the row

-- "clearing-step current (0 if not cleared)"
abbrev pub current_shown : CaseOutcome → Float
current_shown x = cond x.cleared x.clearing_current_ka nought

-- "cable, type, tenth, reasons, then bits of peak, clearing-step current, energy, the flow's loss in that cable; eight u64"
abbrev pub numbers_of : CasePlace → (reasons : ℕ) → CaseOutcome → (loss : Float) → List ℕ
numbers_of p reasons x loss =
    p.cable ∷
    p.fault_type ∷
    p.tenth ∷
    reasons ∷
    bits_of x.peak_fault_ka ∷
    bits_of (current_shown x) ∷
    bits_of x.energy_mj ∷
    bits_of loss ∷
    []

-- how many numbers that is
abbrev pub row_length : ℕ
row_length = 8

-- "a row for each case with reasons not 0"
unfoldable pub row_of : CasePlace → (reasons : ℕ) → CaseOutcome → (loss : Float) → Option (List ℕ)
row_of p reasons x loss = cond (eqb reasons 0) none (some (numbers_of p reasons x loss))

-- ---- as the code writes it

-- a row is written from a position of so much memory on: there are reasons, and it fits
abbrev pub writes_row : (reasons at len : ℕ) → Bool
writes_row reasons at len = not (eqb reasons 0) && leb (at + row_length) len

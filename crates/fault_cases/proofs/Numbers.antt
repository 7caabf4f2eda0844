-- How many tenths and cases there are, and where a case lies: small numbers. Assumes nothing.
use Rattle.std.proofs.Common.{◌≡◌, ℕ, zero, suc, ◌+◌, ◌-◌, ◌%◌, ◌<◌, ◌≤◌, Bool, ◌&&◌, leb, refl, mod-lt, arith, le-leb, leb-true}
use Rattle.lists.proofs.Scanning.{left, right}
use Rattle.lists.proofs.Counting.{by-test}
use Rattle.grid.specs.declared.parts.SweepOrder.{SweepOrder}
use Rattle.grid.specs.declared.parts.DcFaultType.{DcFaultType}
use Rattle.grid.specs.declared.parts.DcFaultType.TheVariants.{PoleToGround, PoleToPole, ConverterInternal}
use Rattle.fault_cases.specs.Cases.{types, tenths_of, fault_type, type_number}

module _ (o : SweepOrder) where
  abbrev in_order : Bool
  in_order = leb o.low_tenth o.high_tenth && leb o.high_tenth 10

  -- from 1 to 11 tenths; and more than one only up to the tenth
  pub tenths_few : (1 ≤ tenths_of o) × (tenths_of o ≤ 11) × (1 < tenths_of o → o.low_tenth ≤ 10)
  tenths_few =
      by-test in_order
      (λ e.
      let l = leb-true o.low_tenth o.high_tenth (left (leb o.low_tenth o.high_tenth) (leb o.high_tenth 10) e) in
      let h = leb-true o.high_tenth 10 (right (leb o.low_tenth o.high_tenth) (leb o.high_tenth 10) e) in
      rw e (omega arith, omega arith, λ q. omega arith))
      (λ e. rw e (omega arith, omega arith, λ (q : 1 < 1). omega arith))

  -- with tenths in order it is one up to the highest
  pub tenth_few : (k : ℕ) → o.low_tenth ≤ o.high_tenth → o.high_tenth ≤ 10 → o.low_tenth + k % tenths_of o ≤ 10
  tenth_few k l h =
      rw (le-leb o.low_tenth o.high_tenth l, le-leb o.high_tenth 10 h)
      (omega (arith, mod-lt k {m = o.high_tenth - o.low_tenth + 1} (omega arith)))

-- a type's number is that of its type
pub numbered : (n : ℕ) → n < types → type_number (fault_type n) ≡ n
numbered zero h = refl
numbered (suc zero) h = refl
numbered (suc (suc zero)) h = refl
numbered (suc (suc (suc n))) h = absurd (omega arith)

-- and a type's that of its number
pub typed : (x : DcFaultType) → fault_type (type_number x) ≡ x
typed PoleToGround = refl
typed PoleToPole = refl
typed ConverterInternal = refl

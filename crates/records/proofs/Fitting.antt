-- When a record that has its space is written. Assumes nothing.
use Prim.Native.Nat.{ℕ, ◌+◌, ◌≤◌}
use mathlib.Core.Path.{◌≡◌, refl}
use mathlib.Core.Bool.{Bool, true, false}
use borrow.Author.Tests.{le-ltb}
use Rattle.records.specs.declared.record.RecordCounts.{RecordCounts}
use Rattle.records.specs.Records.{Counted, numbers_in, fits_in, puts}

pub fitting : (c : RecordCounts) (at len : ℕ) → Counted c → at + numbers_in c ≤ len → fits_in c at len ≡ true
fitting c at len k h = rw (le-ltb 32 c.stations k.stations, le-ltb 64 c.cables k.cables, le-ltb 32 c.breakers k.breakers, le-ltb len (at + numbers_in c) h)

-- where it has its space, it is written exactly where it is asked for
pub puts_is : (b : Bool) (c : RecordCounts) (at len : ℕ) → Counted c → (b ≡ true → at + numbers_in c ≤ len) → puts b c at len ≡ b
puts_is true c at len k h = fitting c at len k (h refl)
puts_is false c at len k h = refl

-- `put_record` meets its contract. Assumes nothing.
use Rattle.records.specs.Records.{record_with, closed_number}
use Rattle.records.proofs.Parts.{laid_out, taken, taken_behind, mapped}
use Rattle.lists.specs.Tables.{tab}
use Rattle.float64.specs.Arithmetic.{of}
use lib.ListN.{length, get_or}
use Prim.Native.Nat.{◌+◌}
use mathlib.Core.Bool.{false}
use mathlib.Core.Path.{◌≡◌, ◌∙◌}
use native.Mathlib.Omega.{arith}
use borrow.Author.Rules.{rules}
use Rattle.records.proofs.record.put_record.Goals as goal

pub returns : goal.returns
unfolding record_with
returns c =
    let a = c.args in
    let n = a.counts.stations in
    let m = a.counts.cables in
    let s = a.state in
    let long_y : length s.y ≡ 96 = search rules in
    let long_currents : length s.station_currents_ka ≡ 32 = search rules in
    let long_breakers : length s.breaker_states ≡ 32 = search rules in
    let b = a.counts.breakers in
    c.put_breakers.ensures
    ∙ rw (
      c.put_numbers-3.ensures,
      c.put_numbers-2.ensures,
      c.put_numbers.ensures,
      taken n s.y (omega (arith, c.requires.0.stations)),
      taken n s.station_currents_ka (omega (arith, c.requires.0.stations)),
      taken_behind n m s.y (omega (arith, c.requires.0.stations, c.requires.0.cables)),
      mapped b s.breaker_states (omega (arith, c.requires.0.breakers)),
    ) (laid_out a.records.now a.at n m s.time_ms s.fault_current_ka (of s.y) (of s.station_currents_ka) (λ k. of s.y (n + k)) (tab b (λ i. closed_number (get_or s.breaker_states i false))))

-- The first rule of an order that is broken, as a scan of the order finds it. Assumes nothing.
use Prim.Native.Nat.{ℕ, ◌+◌, ◌≤◌, ◌<◌}
use native.Mathlib.Numerals.{add-one}
use mathlib.Core.Path.{◌≡◌}
use mathlib.Core.Bool.{Bool, true, false}
use mathlib.Core.List.{List, map}
use lib.ListN.{length, get_or, drop, drop_of_length-le}
use lib.Seq.{drop-cons}
use Rattle.rules.specs.Studies.{first, rule_number}
use Rattle.rules.specs.declared.studies.Refusal.{Refusal}

module _ (applies : ℕ → Bool) (order : List Refusal) (i : ℕ) (d : Refusal) (so_far : first applies (map rule_number order) ≡ first applies (map rule_number (drop i order))) where
  pub found : i < length order → applies (rule_number (get_or order i d)) ≡ true → rule_number (get_or order i d) ≡ first applies (map rule_number order)
  unfolding first
  found l e = rw (so_far, drop-cons order i d l, e)

  pub passed_by : i < length order → applies (rule_number (get_or order i d)) ≡ false → first applies (map rule_number order) ≡ first applies (map rule_number (drop (i + 1) order))
  unfolding first
  passed_by l e = rw (so_far, drop-cons order i d l, e, add-one)

  pub all_passed : length order ≤ i → 0 ≡ first applies (map rule_number order)
  unfolding first
  all_passed l = rw (so_far, drop_of_length-le order l)

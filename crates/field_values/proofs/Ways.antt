-- Both numbers of a field are doubles. Assumes nothing.
use Prim.Native.Nat.{ℕ, ◌≤◌, ◌^◌}
use mathlib.Core.Path.{◌≡◌}
use mathlib.Core.List.{List}
use native.Mathlib.Omega.{arith}
use Rattle.std.specs.Prelude.{Some}
use Rattle.field_columns.specs.Fields.{field_of}
use Rattle.field_columns.specs.declared.fields.Decimal.{Decimal}
use Rattle.field_columns.proofs.Below.{number_limited}

module _ (cs : List ℕ) (d : Decimal) (h : field_of cs ≡ Some d) where
  pub few_digits : d.digits ≤ 2 ^ 53
  few_digits = let b = (number_limited cs d h).below in omega arith

  pub few_places : d.places ≤ 6
  few_places = (number_limited cs d h).at_most

-- When a byte is a digit. Assumes nothing.
use Prim.Native.Nat.{ℕ, ◌≤◌}
use mathlib.Core.Path.{◌≡◌}
use mathlib.Core.Bool.{true}
use lib.Dec.{leb}
use borrow.Author.Tests.{le-leb, leb-true}
use Rattle.lists.proofs.Scanning.{left, right}
use Rattle.field_columns.specs.Fields.{is_digit}

pub digit_yes : (b : ℕ) → 48 ≤ b → b ≤ 57 → is_digit b ≡ true
digit_yes b h k = simp (le-leb 48 b h, le-leb b 57 k)

pub digit_at_least : (b : ℕ) → is_digit b ≡ true → 48 ≤ b
digit_at_least b e = leb-true 48 b (left (leb 48 b) (leb b 57) e)

pub digit_at_most : (b : ℕ) → is_digit b ≡ true → b ≤ 57
digit_at_most b e = leb-true b 57 (right (leb 48 b) (leb b 57) e)

-- What holds of every conductance matrix, and lets a row be read as a column. Definitions only.
use Rattle.std.specs.Prelude.{ℕ, ◌<◌, ◌≡◌, List, Float}
use Rattle.conductances.specs.Conductances.{cell}

abbrev pub Symmetric : ℕ → List Float → Type 0
Symmetric n m = (i j : ℕ) → i < n → j < n → cell m i j ≡ cell m j i

-- The conductance matrix of document 01.2, entry by entry. Definitions only.
use Rattle.std.specs.Prelude.{ℕ, ◌+◌, ◌*◌, ◌/◌, ◌%◌, Bool, ◌&&◌, cond, eqb, ltb, length, get_or, set, Float}
use mathlib.Core.List.{List, foldl}
use Rattle.std.specs.Float.{nan}
use Rattle.lists.specs.Tables.{tab}
use Rattle.float64.specs.Constants.{nought, one}
use Rattle.float64.specs.Arithmetic.{◌⊕◌, ◌⊖◌, ◌⊘◌}
use Rattle.grid.specs.declared.parts.DcCable.{DcCable}
use Rattle.grid.specs.declared.simulator.DcSwitchingSimulator.{DcSwitchingSimulator}
use Rattle.grid.specs.Cables.{resistance}
use Rattle.grid.specs.Simulator.{cables_of, station_count}

abbrev pub conductance : DcCable → Float
conductance c = one ⊘ resistance c

-- Conductances skip a cable with an end at or past the count.
abbrev pub within : ℕ → DcCable → Bool
within n c = ltb c.from_station n && ltb c.to_station n

-- h at the entry of row a and column b alone
abbrev pub at : ℕ → ℕ → (Float → Float) → ℕ → ℕ → Float → Float
at a b h i j x = cond (eqb i a && eqb j b) (h x) x

abbrev pub more : Float → Float → Float
more g x = x ⊕ g

abbrev pub less : Float → Float → Float
less g x = x ⊖ g

-- What a cable of the conductance g makes of the entry x in row i and column j: more where its ends meet themselves, less where they meet each other, in 000's order.
abbrev pub joining : ℕ → ℕ → Float → ℕ → ℕ → Float → Float
joining from to g i j x = at to from (less g) i j (at from to (less g) i j (at to to (more g) i j (at from from (more g) i j x)))

abbrev pub joined : ℕ → ℕ → ℕ → Float → DcCable → Float
joined n i j x c = cond (within n c) (joining c.from_station c.to_station (conductance c) i j x) x

-- The entry in row i and column j of n stations: from zero, cable after cable.
unfoldable pub entry : ℕ → List DcCable → ℕ → ℕ → Float
entry n cables i j = foldl (joined n i j) nought cables

-- the place of an entry, row by row with 32 to a row, and the entry that stands there
abbrev pub place : ℕ → ℕ → ℕ
place i j = i * 32 + j

abbrev pub cell : List Float → ℕ → ℕ → Float
cell m i j = get_or m (place i j) nan

-- a matrix with h at one entry
abbrev pub stored : (Float → Float) → ℕ → ℕ → List Float → List Float
stored h i j m = set m (place i j) (h (cell m i j))

-- a matrix with h at each entry
unfoldable pub each_entry : (ℕ → ℕ → Float → Float) → List Float → List Float
each_entry h m = tab (length m) (λ k. h (k / 32) (k % 32) (get_or m k nan))

unfoldable pub matrix : ℕ → List DcCable → List Float
matrix n cables = tab 1024 (λ k. entry n cables (k / 32) (k % 32))

abbrev pub conductances_of : DcSwitchingSimulator → List Float
conductances_of g = matrix (station_count g.n_stations) (cables_of g)

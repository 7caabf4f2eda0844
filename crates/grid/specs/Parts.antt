-- What a part's number stands for. Definitions only.
use Rattle.std.specs.Prelude.{ℕ, max}

-- an MMC with 0 submodules counts as 1
abbrev pub submodules_of : ℕ → ℕ
submodules_of n = max n 1

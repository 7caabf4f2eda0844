-- What a read got, and what reads come to. Assumes nothing.
use mathlib.Core.List.{foldl}
use Rattle.std.specs.Prelude.{◌≡◌, ℕ, ◌≤◌, List, length, take, Option, Result, IfOk, MatchOption, ⊤}
use Rattle.sheet_bytes.specs.Bytes.{start_of, byte_taken}
use Rattle.sheet_bytes.specs.declared.bytes.Reading.{Reading}

-- So many bytes from the start are all in the buffer.
abbrev pub IsPrefixLen : ℕ → List ℕ → Type 0
IsPrefixLen n xs = (n ≤ length xs) × (n ≡ length (take n xs))

abbrev pub Within : {E : Type 0} → Result (Option ℕ) E → List ℕ → Type 0
Within r buf = IfOk r (λ got. MatchOption got ⊤ (λ n. IsPrefixLen n buf))

-- What some text makes of a sheet.
abbrev pub IsRead : Reading → Type 0
IsRead r = (text : List ℕ) × (r ≡ foldl byte_taken start_of text)

-- What is said of a sheet beside the definitions. The proofs are in proofs/Claims.antt.
use Rattle.std.specs.Prelude.{ℕ, ◌≡◌, true}
use mathlib.Core.List.{List, [], ◌∷◌, ◌++◌, foldl}
use Rattle.rules.specs.Studies.{sweep_refusal}
use Rattle.whole_sheets.specs.Sheets.{sheet_answer}
use Rattle.sheet_bytes.specs.Bytes.{start_of, stopped_in, byte_taken}
use Rattle.sheet_answers.specs.Answers.{answer_of}
use Rattle.sheet_bytes.specs.declared.bytes.Reading.{Reading}

-- the pieces of a text, joined
abbrev pub joined : List (List ℕ) → List ℕ
joined [] = []
joined (p ∷ ps) = p ++ joined ps

-- a reading after these pieces
abbrev pub fed_all : Reading → List (List ℕ) → Reading
fed_all r [] = r
fed_all r (p ∷ ps) = fed_all (foldl byte_taken r p) ps

pub record SheetClaims : Type 0 where
  -- however a text is cut into pieces, the answer to what was read of them is the one that the definition gives to the text
  pub pieces : (ps : List (List ℕ)) → answer_of (fed_all start_of ps) ≡ sheet_answer (joined ps)
  -- once a reading has stopped, nothing that follows changes its answer
  pub settled : (r : Reading) (ps : List (List ℕ)) → stopped_in r ≡ true → answer_of (fed_all r ps) ≡ answer_of r
  -- the grid and the order of a sheet that is not refused pass the rules 1 to 9, so that its sweep's start can be refused by 10 alone
  pub accepted : (text : List ℕ) → (sheet_answer text).refusal.number ≡ 0 → sweep_refusal (sheet_answer text).grid (sheet_answer text).order ≡ 0

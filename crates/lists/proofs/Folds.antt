-- A loop that folds a list from the front, as a sum does: after i turns it has the fold of the first i elements. Assumes nothing.
use mathlib.Core.Path.{◌≡◌}
use mathlib.Core.List.{List, foldl, foldl-append}
use Prim.Native.Nat.{ℕ, ◌+◌, ◌<◌}
use native.Mathlib.Numerals.{add-one}
use lib.ListN.{length, take, get_or}
use lib.Seq.{take-suc}

module _ {A S : Type 0} (f : S → A → S) (s : S) (d : A) where
  -- one element more
  pub fold_more : (xs : List A) (i : ℕ) → i < length xs → foldl f s (take (i + 1) xs) ≡ f (foldl f s (take i xs)) (get_or xs i d)
  fold_more xs i h = rw (add-one, take-suc xs i d, foldl-append)

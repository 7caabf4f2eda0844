-- Items joined, and stored one behind the other in lent memory. Assumes nothing.
use mathlib.Core.Path.{◌≡◌, refl, sym, ◌∙◌}
use mathlib.Core.List.{List, [], ◌∷◌, ◌++◌, append_assoc}
use Prim.Native.Nat.{ℕ, ◌+◌, ◌≤◌}
use lib.ListN.{length, drop}
use lib.Seq.{sets, sets-eq, take_at, drop-append-add, drop-drop}
use Rattle.portions.specs.Stopping.{joined}

module _ {A : Type 0} where
  pub joined-append : (is js : List (List A)) → joined (is ++ js) ≡ joined is ++ joined js
  unfolding joined
  joined-append [] js = refl
  joined-append (x ∷ is) js = rw (joined-append is js) (sym (append_assoc x (joined is) (joined js)))

  -- ys stored behind xs, which stands at the front of d
  pub stored_behind : (xs ys d : List A) (n : ℕ) → length xs ≡ n → n + length ys ≤ length (xs ++ drop n d)
      → sets (xs ++ drop n d) n ys ≡ (xs ++ ys) ++ drop (n + length ys) d
  stored_behind xs ys d n e fits =
      let rest : drop (n + length ys) (xs ++ drop n d) ≡ drop (n + length ys) d =
      rw (← e) (drop-append-add xs (drop (length xs) d) (length ys) ∙ drop-drop (length ys) (length xs) d)
      in
      sets-eq ys (xs ++ drop n d) n fits ∙ rw (take_at xs (drop n d) n e, rest)

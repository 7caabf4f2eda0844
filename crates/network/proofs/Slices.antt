-- What a loop over the first n of an array's parts leaves in a table. Assumes nothing.
use Rattle.lists.proofs.Counting.{at_end_lem}
use Rattle.lists.proofs.Fills.{upto, upto_padded, padded_same}
use Rattle.lists.specs.Tables.{blank, padded}
use Rattle.std.proofs.Common.{◌≡◌, ◌≤◌, ℕ, List, length, length-take, take, min, get_or, ap, ◌∙◌, arith}
use Rattle.std.proofs.lemmas.List.{get_or-take}

-- how many the first n of an array of m are
pub counted : {A : Type 0} (m n : ℕ) (xs ys : List A) → length xs ≡ m → ys ≡ take n xs → length ys ≡ min n m
counted m n xs ys long e = rw (e, length-take, long)

-- a number of each of the first n of an array of w, in a table of m, z past them
pub filled : {A B : Type 0} (f : A → B) (d : A) (z : B) (m w n : ℕ) (xs ys : List A) {x : List B} {i : ℕ} → length xs ≡ w → w ≤ m → ys ≡ take n xs → i ≤ length ys → length ys ≤ i
    → x ≡ upto i (λ k. f (get_or ys k d)) (blank m z)
    → x ≡ padded m (min n w) (λ k. f (get_or xs k d)) z
filled f d z m w n xs ys long wide e a b h =
    let many = counted w n xs ys long e in
    at_end_lem (λ k. upto k (λ k. f (get_or ys k d)) (blank m z)) a b h
    ∙ upto_padded (length ys) m _ z (omega arith)
    ∙ rw many (padded_same m (min n w) _ _ z (λ k l. ap f (rw e (get_or-take n xs k d (omega arith)))))

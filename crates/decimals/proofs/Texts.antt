-- What the columns of a double hold, as the code writes them. Assumes nothing.
use mathlib.Core.Path.{◌≡◌, refl, sym, ap, ◌∙◌, subst}
use mathlib.Core.Bool.{Bool, true, false, cond}
use mathlib.Core.List.{List, [], ◌∷◌, ◌++◌, append_assoc, append-nil}
use Prim.Native.Nat.{ℕ, zero, suc, ◌+◌, ◌-◌, ◌/◌, ◌%◌, ◌^◌, ◌≤◌, ◌<◌}
use native.Mathlib.Nat.{div-add-mod'}
use native.Mathlib.Omega.{arith}
use lib.Dec.{ltb, leb}
use lib.ListN.{length, set, replicate, length-append, length-replicate, replicate-append-replicate}
use borrow.Author.Tests.{le-leb, lt-leb, lt-ltb}
use Rattle.printed_numbers.specs.Printed.{digits_of, justified, last_digits, right_justified, with_number, numeral}
use Rattle.printed_numbers.proofs.Justified.{spaces_before, length-justified, length_right_justified, put_next}
use Rattle.column_claims.proofs.Spelled.{few_digits, length_last}
use Rattle.decimals.specs.Decimals.{all_digits, sign_text, six_places, stars, fitted}
use Rattle.decimals.proofs.Digits.{all_many, all_small, peel, last_behind}

-- ---- how long a text is
text_length : (s : Bool) (q : ℕ) → length (six_places s q) ≡ length (sign_text s q) + (length (all_digits (q / 10 ^ 6)) + 7)
unfolding six_places
text_length s q =
    length-append (sign_text s q) (all_digits (q / 10 ^ 6) ++ (46 ∷ last_digits 6 q))
    ∙ ap (λ (k : ℕ). length (sign_text s q) + k) (length-append (all_digits (q / 10 ^ 6)) (46 ∷ last_digits 6 q) ∙ ap (λ (k : ℕ). length (all_digits (q / 10 ^ 6)) + suc k) (length_last 6 q))

signed : (q : ℕ) → 0 < q → sign_text true q ≡ 45 ∷ []
signed q h = ap (λ (b : Bool). cond b (45 ∷ []) []) (lt-ltb 0 q h)

-- ---- more than 20 characters
pub long : (text : List ℕ) → 20 < length text → stars ≡ fitted text
unfolding fitted
long text h = sym (ap (λ (b : Bool). cond b (justified 21 text) stars) (lt-leb (length text) 20 h))

pub long_text : (s : Bool) (q : ℕ) → 10 ^ 19 ≤ q → 20 < length (six_places s q)
long_text s q h =
    let d : 14 ≤ length (all_digits (q / 10 ^ 6)) = all_many 13 (q / 10 ^ 6) (omega arith) (omega arith) in
    subst (λ (k : ℕ). 20 < k) (sym (text_length s q)) (omega arith)

pub long_below_0 : (q : ℕ) → 10 ^ 18 ≤ q → 20 < length (six_places true q)
long_below_0 q h =
    let d : 13 ≤ length (all_digits (q / 10 ^ 6)) = all_many 12 (q / 10 ^ 6) (omega arith) (omega arith) in
    let e : length (sign_text true q) ≡ 1 = ap length (signed q (omega arith)) in
    subst (λ (k : ℕ). 20 < k) (sym (text_length true q)) (omega arith)

pub too_many : (s : Bool) (q : ℕ) → 10 ^ 19 ≤ q → stars ≡ fitted (six_places s q)
too_many s q h = long (six_places s q) (long_text s q h)

pub too_many_below_0 : (q : ℕ) → 10 ^ 18 ≤ q → stars ≡ fitted (six_places true q)
too_many_below_0 q h = long (six_places true q) (long_below_0 q h)

-- 21 columns in every case
pub length-fitted : (text : List ℕ) → length (fitted text) ≡ 21
unfolding fitted
length-fitted text = go (leb (length text) 20)
  where
    go : (b : Bool) → length (cond b (justified 21 text) stars) ≡ 21
    go true = length-justified 21 text
    go false = refl

-- ---- no more
-- the text behind the sign, and how many digits it has before its point
abbrev pub behind : ℕ → List ℕ
behind q = digits_of (q / 10 ^ 6) ++ (46 ∷ last_digits 6 q)

abbrev pub before_point : ℕ → ℕ
before_point q = length (digits_of (q / 10 ^ 6))

pub text_is : (s : Bool) (q : ℕ) → q < 10 ^ 19 → six_places s q ≡ sign_text s q ++ behind q
unfolding six_places
text_is s q h = ap (λ (d : List ℕ). sign_text s q ++ (d ++ (46 ∷ last_digits 6 q))) (all_small (q / 10 ^ 6) (omega arith))

pub length_behind : (q : ℕ) → length (behind q) ≡ before_point q + 7
length_behind q = length-append (digits_of (q / 10 ^ 6)) (46 ∷ last_digits 6 q) ∙ ap (λ (k : ℕ). before_point q + suc k) (length_last 6 q)

pub fits : (text : List ℕ) → length text ≤ 20 → fitted text ≡ replicate (21 - length text) 32 ++ text
unfolding fitted
fits text h = ap (λ (b : Bool). cond b (justified 21 text) stars) (le-leb (length text) 20 h) ∙ spaces_before 21 text (omega arith)

pub short_text : (s : Bool) (q : ℕ) → q < 10 ^ 19 → (s ≡ true → q < 10 ^ 18) → length (six_places s q) ≤ 20
short_text false q h g =
    let w : before_point q ≤ 13 = few_digits 13 (q / 10 ^ 6) (omega arith) (omega arith) in
    let e : length (six_places false q) ≡ length (behind q) = ap length (text_is false q h) in
    let l = length_behind q in
    omega arith
short_text true q h g =
    let k : q < 10 ^ 18 = g refl in
    let w : before_point q ≤ 12 = few_digits 12 (q / 10 ^ 6) (omega arith) (omega arith) in
    let s : length (sign_text true q) ≤ 1 = one (ltb 0 q) in
    let e : length (six_places true q) ≡ length (sign_text true q) + length (behind q) = ap length (text_is true q h) ∙ length-append (sign_text true q) (behind q) in
    let l = length_behind q in
    omega arith
  where
    one : (b : Bool) → length {A = ℕ} (cond b (45 ∷ []) []) ≤ 1
    one true = omega arith
    one false = omega arith

-- without a sign
plain : (s : Bool) (q : ℕ) → sign_text s q ≡ [] → q < 10 ^ 19 → fitted (six_places s q) ≡ replicate (14 - before_point q) 32 ++ behind q
plain s q e h =
    let t : six_places s q ≡ behind q = text_is s q h ∙ ap (λ (z : List ℕ). z ++ behind q) e in
    let w : before_point q ≤ 13 = few_digits 13 (q / 10 ^ 6) (omega arith) (omega arith) in
    let l = length_behind q in
    let k : 21 - length (behind q) ≡ 14 - before_point q = omega arith in
    ap fitted t ∙ fits (behind q) (omega arith) ∙ ap (λ (k : ℕ). replicate k 32 ++ behind q) k

pub unsigned : (q : ℕ) → q < 10 ^ 19 → fitted (six_places false q) ≡ replicate (14 - before_point q) 32 ++ behind q
unsigned q h = plain false q refl h

-- a zero has no sign
pub same_zero : (q : ℕ) → q ≡ 0 → fitted (six_places false q) ≡ fitted (six_places true q)
same_zero q e = plain false q refl (omega arith) ∙ sym (plain true q (ap (sign_text true) e) (omega arith))

-- ---- stores
set_behind : (xs ys : List ℕ) (k x y : ℕ) → length xs ≡ k → set (xs ++ (x ∷ ys)) k y ≡ xs ++ (y ∷ ys)
set_behind [] ys zero x y e = refl
set_behind [] ys (suc k) x y e = absurd (omega arith)
set_behind (z ∷ xs) ys zero x y e = absurd (omega arith)
set_behind (z ∷ xs) ys (suc k) x y e = ap (λ (l : List ℕ). z ∷ l) (set_behind xs ys k x y (omega arith))

-- six digits behind a 1
seven : (q : ℕ) → right_justified 7 (10 ^ 6 + q % 10 ^ 6) ≡ 49 ∷ last_digits 6 q
unfolding right_justified digits_of
seven q =
    let n = 10 ^ 6 + q % 10 ^ 6 in
    let d : n / 10 ^ 6 ≡ 1 = omega arith in
    let f : last_digits 6 n ≡ last_digits 6 q =
    last_behind 6 1 (q % 10 ^ 6) ∙ sym (last_behind 6 (q / 10 ^ 6) (q % 10 ^ 6)) ∙ ap (last_digits 6) (div-add-mod' q (10 ^ 6)) in
    let t : numeral 20 n ≡ 49 ∷ last_digits 6 q = peel 6 14 n (omega arith) ∙ ap (λ (z : ℕ). numeral 14 z ++ last_digits 6 n) d ∙ ap (λ (z : List ℕ). 49 ∷ z) f in
    let l : length (49 ∷ last_digits 6 q) ≡ 7 = ap suc (length_last 6 q) in
    ap (justified 7) t ∙ spaces_before 7 (49 ∷ last_digits 6 q) (omega arith) ∙ ap (λ (k : ℕ). replicate (7 - k) 32 ++ (49 ∷ last_digits 6 q)) l

-- the whole part, then these, then the point in the place of the 1
pub unsigned_written : (q : ℕ) (t u : List ℕ) → q < 10 ^ 19 → t ≡ with_number (replicate 21 32) 0 14 (q / 10 ^ 6) → u ≡ with_number t 14 7 (10 ^ 6 + q % 10 ^ 6)
    → set u 14 46 ≡ fitted (six_places false q)
unfolding right_justified
unsigned_written q t u h e f =
    let w : before_point q ≤ 13 = few_digits 13 (q / 10 ^ 6) (omega arith) (omega arith) in
    let a : right_justified 14 (q / 10 ^ 6) ≡ replicate (14 - before_point q) 32 ++ digits_of (q / 10 ^ 6) = spaces_before 14 (digits_of (q / 10 ^ 6)) (omega arith) in
    let first : t ≡ right_justified 14 (q / 10 ^ 6) ++ replicate 7 32 = put_next [] (replicate 21 32) (replicate 21 32) t 0 14 (q / 10 ^ 6) refl refl (omega arith) e in
    let second : u ≡ right_justified 14 (q / 10 ^ 6) ++ (49 ∷ last_digits 6 q) =
    put_next (right_justified 14 (q / 10 ^ 6)) (replicate 7 32) t u 14 7 (10 ^ 6 + q % 10 ^ 6) first (length_right_justified 14 (q / 10 ^ 6)) (omega arith) f
    ∙ append-nil (right_justified 14 (q / 10 ^ 6) ++ right_justified 7 (10 ^ 6 + q % 10 ^ 6))
    ∙ ap (λ (z : List ℕ). right_justified 14 (q / 10 ^ 6) ++ z) (seven q) in
    ap (λ (z : List ℕ). set z 14 46) second
    ∙ set_behind (right_justified 14 (q / 10 ^ 6)) (last_digits 6 q) 14 49 46 (length_right_justified 14 (q / 10 ^ 6))
    ∙ ap (λ (z : List ℕ). z ++ (46 ∷ last_digits 6 q)) a
    ∙ append_assoc (replicate (14 - before_point q) 32) (digits_of (q / 10 ^ 6)) (46 ∷ last_digits 6 q)
    ∙ sym (unsigned q h)

-- and the sign in the place of the last space
pub signed_written : (q place : ℕ) (t : List ℕ) → 0 < q → q < 10 ^ 18 → place + 1 + before_point q ≡ 14 → t ≡ fitted (six_places false q) → set t place 45 ≡ fitted (six_places true q)
signed_written q place t p h e f =
    let u : t ≡ replicate place 32 ++ (32 ∷ behind q) =
    f ∙ unsigned q (omega arith) ∙ ap (λ (k : ℕ). replicate k 32 ++ behind q) (spaces q e)
    ∙ ap (λ (z : List ℕ). z ++ behind q) (sym (replicate-append-replicate place 1 32)) ∙ append_assoc (replicate place 32) (32 ∷ []) (behind q) in
    let x : six_places true q ≡ 45 ∷ behind q = text_is true q (omega arith) ∙ ap (λ (z : List ℕ). z ++ behind q) (signed q p) in
    let w : before_point q ≤ 12 = few_digits 12 (q / 10 ^ 6) (omega arith) (omega arith) in
    let l = length_behind q in
    let k : 21 - suc (length (behind q)) ≡ place = omega arith in
    ap (λ (z : List ℕ). set z place 45) u ∙ set_behind (replicate place 32) (behind q) place 32 45 (length-replicate place 32)
    ∙ sym (ap fitted x ∙ fits (45 ∷ behind q) (omega arith) ∙ ap (λ (k : ℕ). replicate k 32 ++ (45 ∷ behind q)) k)
  where
    spaces : (q : ℕ) → place + 1 + before_point q ≡ 14 → 14 - before_point q ≡ place + 1
    spaces q e = omega arith

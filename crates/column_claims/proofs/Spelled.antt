-- The digits of a printed number: how many, that they spell it, and the first of them. Assumes nothing.
use Prim.Native.Nat.{ℕ, zero, suc, ◌+◌, ◌-◌, ◌*◌, ◌/◌, ◌%◌, ◌^◌, ◌<◌, ◌≤◌}
use mathlib.Core.Path.{◌≡◌, refl, sym, ◌∙◌, ap}
use mathlib.Core.Bool.{Bool, true, false, cond}
use mathlib.Core.List.{List, [], ◌∷◌, ◌++◌}
use native.Mathlib.Omega.{arith}
use native.Mathlib.Nat.{pow-succ', div-div-eq-div-mul, div-one}
use lib.Dec.{ltb}
use lib.ListN.{length, get_or, length-append}
use borrow.Author.Tests.{ltb-true, ltb-false, lt-ltb}
use Rattle.lists.specs.Scans.{every}
use Rattle.lists.proofs.Scanning.{left, right}
use Rattle.field_columns.specs.Fields.{is_digit, some_digits, number, number_from}
use Rattle.printed_numbers.specs.Printed.{numeral, digits_of, last_digits}
use Rattle.field_columns.proofs.Digit.{digit_yes}
use Rattle.field_columns.proofs.Shape.{number_append}
use Rattle.printed_numbers.proofs.Justified.{shorter}

digits_append : (a b : List ℕ) → every is_digit a ≡ true → every is_digit b ≡ true → every is_digit (a ++ b) ≡ true
digits_append [] b p q = q
digits_append (x ∷ a) b p q = rw (left (is_digit x) (every is_digit a) p) (digits_append a b (right (is_digit x) (every is_digit a) p) q)

a_digit : (d : ℕ) → d < 10 → every is_digit ((48 + d) ∷ []) ≡ true
a_digit d h = rw (digit_yes (48 + d) (omega arith) (omega arith))

-- what a number's digits are: digits, at least one, they spell the number, and the first is no 0 where the number is above 0
pub record Spells (bs : List ℕ) (n : ℕ) : Type 0 where
  pub some : 0 < length bs
  pub all : every is_digit bs ≡ true
  pub is : number bs ≡ n
  pub first : 0 < n → get_or bs 0 48 ≡ 48 → ⊥

one_digit : (k n : ℕ) → n < 10 → Spells (numeral (suc k) n) n
one_digit k n h = rw (lt-ltb n 10 h) (record { some = omega arith; all = a_digit n h; is = omega arith; first = λ p e. zero_then p e })
  where
    zero_then : 0 < n → 48 + n ≡ 48 → ⊥
    zero_then p e = omega arith

first_kept : (bs cs : List ℕ) → 0 < length bs → get_or (bs ++ cs) 0 48 ≡ get_or bs 0 48
first_kept [] cs h = absurd (omega arith)
first_kept (b ∷ bs) cs h = refl

more_digits : (k n : ℕ) → ltb n 10 ≡ false → Spells (numeral k (n / 10)) (n / 10) → Spells (numeral (suc k) n) n
more_digits k n e s =
    let l : 10 ≤ n = ltb-false n 10 e in
    rw e
    (record {
      some = rw length-append (omega arith);
      all = digits_append (numeral k (n / 10)) ((48 + n % 10) ∷ []) s.all (a_digit (n % 10) (omega arith));
      is = number_append 0 (numeral k (n / 10)) ((48 + n % 10) ∷ []) ∙ ap (λ m. m * 10 + ((48 + n % 10) - 48)) s.is ∙ omega arith;
      first = λ p z. s.first (omega arith) (sym (first_kept (numeral k (n / 10)) ((48 + n % 10) ∷ []) s.some) ∙ z);
    })

spells : (k n : ℕ) → n < 10 ^ suc k → Spells (numeral (suc k) n) n
spells zero n h = one_digit zero n h
spells (suc k) n h = go (ltb n 10) refl (spells k (n / 10) (shorter n (suc k) h))
  where
    go : (t : Bool) → ltb n 10 ≡ t → Spells (numeral (suc k) (n / 10)) (n / 10) → Spells (numeral (suc (suc k)) n) n
    go true e s = one_digit (suc k) n (ltb-true n 10 e)
    go false e s = more_digits (suc k) n e s

pub digits_spell : (n : ℕ) → n < 10 ^ 20 → Spells (digits_of n) n
unfolding digits_of
digits_spell n h = spells 19 n h

pub some_digits_lem : (bs : List ℕ) (n : ℕ) → Spells bs n → some_digits bs ≡ true
some_digits_lem bs n s = rw (lt-ltb 0 (length bs) s.some) s.all

-- ---- how many
few : (k w n : ℕ) → n < 10 ^ suc w → length (numeral k n) ≤ suc w
few zero w n h = omega arith
few (suc k) w n h = go (ltb n 10) refl w h (λ v. few k v (n / 10))
  where
    more : (w : ℕ) → n < 10 ^ suc w → 10 ≤ n → ((v : ℕ) → n / 10 < 10 ^ suc v → length (numeral k (n / 10)) ≤ suc v) → length (numeral k (n / 10) ++ ((48 + n % 10) ∷ [])) ≤ suc w
    more zero h l r = absurd (omega arith)
    more (suc w) h l r = rw length-append (omega (arith, r w (shorter n (suc w) h)))

    go : (t : Bool) → ltb n 10 ≡ t → (w : ℕ) → n < 10 ^ suc w → ((v : ℕ) → n / 10 < 10 ^ suc v → length (numeral k (n / 10)) ≤ suc v)
        → length (cond t ((48 + n) ∷ []) (numeral k (n / 10) ++ ((48 + n % 10) ∷ []))) ≤ suc w
    go true e w h r = omega arith
    go false e w h r = more w h (ltb-false n 10 e) r

pub few_digits : (width n : ℕ) → 0 < width → n < 10 ^ width → length (digits_of n) ≤ width
unfolding digits_of
few_digits zero n p h = absurd (omega arith)
few_digits (suc w) n p h = few 20 w n h

-- ---- the digits after a point
pub length_last : (p n : ℕ) → length (last_digits p n) ≡ p
length_last zero n = refl
length_last (suc p) n = length-append (last_digits p (n / 10)) ((48 + n % 10) ∷ []) ∙ omega (arith, length_last p (n / 10))

pub all_last : (p n : ℕ) → every is_digit (last_digits p n) ≡ true
all_last zero n = refl
all_last (suc p) n = digits_append (last_digits p (n / 10)) ((48 + n % 10) ∷ []) (all_last p (n / 10)) (a_digit (n % 10) (omega arith))

-- after the digits of the whole part they spell the number
pub number_last : (p n : ℕ) → number_from (n / 10 ^ p) (last_digits p n) ≡ n
number_last zero n = div-one n
number_last (suc p) n =
    let e : n / 10 ^ suc p ≡ n / 10 / 10 ^ p = ap (λ k. n / k) (pow-succ' 10 p) ∙ sym (div-div-eq-div-mul n 10 (10 ^ p)) in
    number_append (n / 10 ^ suc p) (last_digits p (n / 10)) ((48 + n % 10) ∷ [])
    ∙ ap (λ m. number_from (number_from m (last_digits p (n / 10))) ((48 + n % 10) ∷ [])) e
    ∙ ap (λ m. m * 10 + ((48 + n % 10) - 48)) (number_last p (n / 10))
    ∙ omega arith

-- What the columns of a number hold, seen from the right as the code writes them, and their length. Assumes nothing.
use Prim.Native.Nat.{ℕ, zero, suc, ◌+◌, ◌-◌, ◌/◌, ◌%◌, ◌^◌, ◌<◌, ◌≤◌}
use mathlib.Core.Path.{◌≡◌, refl, sym, ◌∙◌, ap}
use mathlib.Core.Bool.{Bool, true, false, cond}
use mathlib.Core.List.{List, [], ◌∷◌, ◌++◌, append_assoc, append-nil}
use native.Mathlib.Omega.{arith}
use native.Mathlib.Nat.{div-eq_of_lt, mod-eq_of_lt, div-lt_iff_lt-mul, pow-suc, le_of_eq}
use native.Mathlib.Numerals.{sub-one, add-one}
use lib.Dec.{ltb}
use lib.ListN.{length, set, take, drop, replicate, length-append, length-replicate, length-drop, replicate-append-replicate}
use lib.Seq.{sets, sets-eq, take_all, take_at, drop_at, drop-append-add, drop-append-le, drop-length}
use Rattle.std.proofs.lemmas.Slice.{put_mid-paste}
use borrow.Rule.Slice.PartMut.{put_mid}
use borrow.Author.Tests.{ltb-true, ltb-false, lt-ltb, le-ltb, ne_eqb, le-leb, lt-leb}
use Rattle.printed_numbers.specs.Printed.{numeral, digits_of, justified, right_justified, with_number}
use Rattle.printed_numbers.specs.Glyphs.{glyph_of}
use Rattle.printed_numbers.proofs.Cells.{cells, length_cells, sets_snoc}

-- `width` bytes, whatever the text
pub length-justified : (width : ℕ) (text : List ℕ) → length (justified width text) ≡ width
length-justified width text =
    length-drop (length text) (replicate width 32 ++ text) ∙ rw (length-append, length-replicate) (omega arith)

pub length_right_justified : (width n : ℕ) → length (right_justified width n) ≡ width
unfolding right_justified
length_right_justified width n = length-justified width (digits_of n)

-- text that fits: spaces, and then the text
pub spaces_before : (width : ℕ) (text : List ℕ) → length text ≤ width → justified width text ≡ replicate (width - length text) 32 ++ text
spaces_before width text h =
    let e : length text + (width - length text) ≡ width = omega arith in
    drop-append-le (length text) (replicate width 32) text (rw length-replicate h)
    ∙ ap (λ l. l ++ text)
    (ap (drop (length text)) (ap (λ k. replicate k 32) (sym e) ∙ sym (replicate-append-replicate (length text) (width - length text) 32))
    ∙ drop_at (replicate (length text) 32) (replicate (width - length text) 32) (length text) (length-replicate (length text) 32))

-- one byte more at the end of the text
snoc : (w : ℕ) (N : List ℕ) (g : ℕ) → justified (suc w) (N ++ (g ∷ [])) ≡ justified w N ++ (g ∷ [])
snoc w N g =
    let e : length (N ++ (g ∷ [])) ≡ suc (length N) = length-append N (g ∷ []) ∙ omega arith in
    ap (λ k. drop k (replicate (suc w) 32 ++ (N ++ (g ∷ [])))) e
    ∙ ap (drop (length N)) (sym (append_assoc (replicate w 32) N (g ∷ [])))
    ∙ drop-append-le (length N) (replicate w 32 ++ N) (g ∷ []) (rw length-append (omega arith))

-- where no digit is left, spaces
blank : (j : ℕ) → cells j 0 ≡ replicate j 32
blank zero = refl
blank (suc j) = ap (λ l. l ++ (32 ∷ [])) (blank j) ∙ replicate-append-replicate j 1 32 ∙ rw add-one

-- the columns before the last one, and the last
abbrev pub written : ℕ → ℕ → List ℕ
written w n = cells w (n / 10) ++ ((48 + n % 10) ∷ [])

one_digit : (w k n : ℕ) → n < 10 → written w n ≡ justified (suc w) (numeral (suc k) n)
one_digit w k n l =
    rw (lt-ltb n 10 l, div-eq_of_lt l, mod-eq_of_lt l, blank)
    (sym (snoc w [] (48 + n) ∙ ap (λ l. l ++ ((48 + n) ∷ [])) (append-nil (replicate w 32))))

pub shorter : (n w : ℕ) → n < 10 ^ suc w → n / 10 < 10 ^ w
shorter n w h = (div-lt_iff_lt-mul {k = 10} (omega arith)).1 (rw pow-suc at h)

more_digits : (w k n : ℕ) → 10 ≤ n → cells w (n / 10) ≡ justified w (numeral k (n / 10)) → written w n ≡ justified (suc w) (numeral (suc k) n)
more_digits w k n l h = rw (le-ltb n 10 l) (ap (λ z. z ++ ((48 + n % 10) ∷ [])) h ∙ sym (snoc w (numeral k (n / 10)) (48 + n % 10)))

left_of : (w k n : ℕ) → 10 ≤ n → written w (n / 10) ≡ justified (suc w) (numeral k (n / 10)) → cells (suc w) (n / 10) ≡ justified (suc w) (numeral k (n / 10))
left_of w k n l h =
    let e : glyph_of (n / 10) ≡ 48 + n / 10 % 10 = rw (ne_eqb (n / 10) 0 (omega arith)) in
    ap (λ z. cells w (n / 10 / 10) ++ (z ∷ [])) e ∙ h

pub as_written : (w k n : ℕ) → n < 10 ^ suc k → written w n ≡ justified (suc w) (numeral (suc k) n)
as_written w zero n h = one_digit w zero n h
as_written zero (suc k) n h = go (ltb n 10) refl
  where
    go : (t : Bool) → ltb n 10 ≡ t → written zero n ≡ justified 1 (numeral (suc (suc k)) n)
    go true e = one_digit zero (suc k) n (ltb-true n 10 e)
    go false e = more_digits zero (suc k) n (ltb-false n 10 e) (sym (drop-length (numeral (suc k) (n / 10))))
as_written (suc w) (suc k) n h = go (ltb n 10) refl (as_written w k (n / 10) (shorter n (suc k) h))
  where
    go : (t : Bool) → ltb n 10 ≡ t → written w (n / 10) ≡ justified (suc w) (numeral (suc k) (n / 10)) → written (suc w) n ≡ justified (suc (suc w)) (numeral (suc (suc k)) n)
    go true e r = one_digit (suc w) (suc k) n (ltb-true n 10 e)
    go false e r = more_digits (suc w) (suc k) n (ltb-false n 10 e) (left_of w (suc k) n (ltb-false n 10 e) r)

right_justified_lem : (width n : ℕ) → 0 < width → n < 10 ^ 20 → written (width - 1) n ≡ right_justified width n
unfolding right_justified digits_of
right_justified_lem zero n p g = absurd (omega arith)
right_justified_lem (suc w) n p g = rw sub-one (as_written w 19 n g)

-- the last column stored first, and then the others: the columns hold n
pub stored : (columns : List ℕ) (n : ℕ) → 0 < length columns → n < 10 ^ 20
    → sets (set columns (length columns - 1) (48 + n % 10)) 0 (cells (length columns - 1) (n / 10)) ≡ right_justified (length columns) n
stored columns n p g =
    let width = length columns in
    let k : length (written (width - 1) n) ≡ width = rw (length-append, length_cells) (omega arith) in
    let place : width - 1 ≡ 0 + length (cells (width - 1) (n / 10)) = omega (arith, length_cells (width - 1) (n / 10)) in
    let all : 0 + length (written (width - 1) n) ≡ width = omega (arith, k) in
    ap (λ i. sets (set columns i (48 + n % 10)) 0 (cells (width - 1) (n / 10))) place
    ∙ sym (sets_snoc columns 0 (cells (width - 1) (n / 10)) (48 + n % 10))
    ∙ sets-eq (written (width - 1) n) columns 0 (le_of_eq all)
    ∙ ap (λ i. written (width - 1) n ++ drop i columns) all
    ∙ ap (λ l. written (width - 1) n ++ l) (drop-length columns)
    ∙ append-nil (written (width - 1) n)
    ∙ right_justified_lem width n p g

-- ---- the ways out of `put_number`
pub no_room : (out : List ℕ) (at width n : ℕ) → length out < at + width → out ≡ with_number out at width n
unfolding with_number
no_room out at width n h = sym (ap (λ t. cond t (take at out ++ right_justified width n ++ drop (at + width) out) out) (lt-leb (at + width) (length out) h))

pub no_digit : (columns : List ℕ) (n : ℕ) → length columns ≡ 0 → columns ≡ right_justified (length columns) n
unfolding right_justified
no_digit [] n e = sym (drop-length (digits_of n))
no_digit (b ∷ bs) n e = absurd (omega arith)

-- ---- where there is room
pub in_room : (out : List ℕ) (at width n : ℕ) → at + width ≤ length out → with_number out at width n ≡ take at out ++ right_justified width n ++ drop (at + width) out
unfolding with_number
in_room out at width n h = ap (λ t. cond t (take at out ++ right_justified width n ++ drop (at + width) out) out) (le-leb (at + width) (length out) h)

-- the columns put back into the memory
pub put_back : (out columns : List ℕ) (at width n : ℕ) → at + width ≤ length out → columns ≡ right_justified width n → put_mid at (at + width - at) out columns ≡ with_number out at width n
put_back out columns at width n h e =
    put_mid-paste at (at + width - at) out columns (right_justified width n) width e (omega arith) (sym (length_right_justified width n))
    ∙ ap (λ l. take at out ++ l ++ drop (at + width) out) (take_all width (right_justified width n) (le_of_eq (length_right_justified width n)))
    ∙ sym (in_room out at width n h)

-- a number behind what is already written: pre is written, and rest lies behind it
pub put_next : (pre rest o t : List ℕ) (at width n : ℕ) → o ≡ pre ++ rest → length pre ≡ at → width ≤ length rest → t ≡ with_number o at width n → t ≡ pre ++ right_justified width n ++ drop width rest
put_next pre rest o t at width n e h r k =
    let l : at + width ≤ length o = rw (e, length-append) (omega arith) in
    k ∙ in_room o at width n l
    ∙ ap (λ z. take at z ++ right_justified width n ++ drop (at + width) z) e
    ∙ ap (λ z. z ++ right_justified width n ++ drop (at + width) (pre ++ rest)) (take_at pre rest at h)
    ∙ ap (λ i. pre ++ right_justified width n ++ drop (i + width) (pre ++ rest)) (sym h)
    ∙ ap (λ z. pre ++ right_justified width n ++ z) (drop-append-add pre rest width)

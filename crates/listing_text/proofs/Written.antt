-- What the columns of a line hold once all are written. Assumes nothing.
use Prim.Native.Nat.{ℕ, suc, ◌+◌, ◌*◌, ◌-◌, ◌<◌, ◌≤◌}
use mathlib.Core.Path.{◌≡◌, refl, sym, ◌∙◌, ap}
use mathlib.Core.List.{List, [], ◌∷◌, ◌++◌, append_assoc, append-nil}
use native.Mathlib.Omega.{arith}
use native.Mathlib.Nat.{mul-zero, le_of_eq}
use lib.ListN.{length, set, get_or, take, drop, replicate, length-append, length-take, length-drop}
use native.Mathlib.Numerals.{add-one}
use lib.Seq.{sets, sets-eq, drop-drop, drop-cons, take_all, take_at, drop-append-add}
use borrow.Rule.Slice.PartMut.{put_mid}
use Rattle.lists.proofs.Stores.{put_sets}
use Rattle.float64.specs.Pattern.{double_of}
use Rattle.printed_numbers.specs.Printed.{right_justified, with_number}
use Rattle.printed_numbers.proofs.Justified.{length_right_justified, put_next}
use Rattle.decimals.specs.Decimals.{decimal_column}
use Rattle.decimals.proofs.Values.{length_column}
use Rattle.listing_text.specs.Lines.{columns_of, decimals_of, row_text, end_text, refusal_text}
use Rattle.listing_text.specs.Puts.{two_put, put_all, put_values}

pub length_columns : (width : ℕ) (ns : List ℕ) → length (columns_of width ns) ≡ width * length ns
length_columns width [] = sym (mul-zero width)
length_columns width (n ∷ ns) =
    length-append (right_justified width n) (columns_of width ns) ∙ omega (arith, length_right_justified width n, length_columns width ns)

-- numbers behind what is already written: pre is written, and rest lies behind it
pub put_all_lem : (ns pre rest o : List ℕ) (at width : ℕ) → o ≡ pre ++ rest → length pre ≡ at → width * length ns ≤ length rest
    → put_all o at width ns ≡ pre ++ columns_of width ns ++ drop (width * length ns) rest
put_all_lem [] pre rest o at width e h r = rw (mul-zero, append-nil) e
put_all_lem (n ∷ ns) pre rest o at width e h r =
    let s : width * suc (length ns) ≡ width + width * length ns = omega arith in
    let l : width ≤ length rest = omega arith in
    let one = put_next pre rest o (with_number o at width n) at width n e h l refl in
    put_all_lem ns (pre ++ right_justified width n) (drop width rest) (with_number o at width n) (at + width) width one
    (length-append pre (right_justified width n) ∙ omega (arith, length_right_justified width n)) (rw length-drop (omega arith))
    ∙ ap (λ z. z ++ drop (width * length ns) (drop width rest)) (append_assoc pre (right_justified width n) (columns_of width ns))
    ∙ ap (λ z. pre ++ (right_justified width n ++ columns_of width ns) ++ z) (drop-drop (width * length ns) width rest ∙ ap (λ k. drop k rest) (sym s))

-- ---- doubles
pub length_decimals : (bs : List ℕ) → length (decimals_of bs) ≡ 21 * length bs
length_decimals [] = refl
length_decimals (b ∷ bs) =
    length-append (decimal_column (double_of b)) (decimals_of bs) ∙ omega (arith, length_column (double_of b), length_decimals bs)

-- a column behind what is already written
set_next : (pre rest o c : List ℕ) (at : ℕ) → o ≡ pre ++ rest → length pre ≡ at → length c ≡ 21 → 21 ≤ length rest → sets o at c ≡ pre ++ c ++ drop 21 rest
set_next pre rest o c at e h k r =
    let l : at + length c ≤ length o = rw (e, length-append) (omega arith) in
    sets-eq c o at l
    ∙ ap (λ z. take at z ++ c ++ drop (at + length c) z) e
    ∙ ap (λ z. z ++ c ++ drop (at + length c) (pre ++ rest)) (take_at pre rest at h)
    ∙ ap (λ i. pre ++ c ++ drop (at + i) (pre ++ rest)) k
    ∙ ap (λ i. pre ++ c ++ drop (i + 21) (pre ++ rest)) (sym h)
    ∙ ap (λ z. pre ++ c ++ z) (drop-append-add pre rest 21)

put_values_lem : (bs pre rest o : List ℕ) (at : ℕ) → o ≡ pre ++ rest → length pre ≡ at → 21 * length bs ≤ length rest
    → put_values o at bs ≡ pre ++ decimals_of bs ++ drop (21 * length bs) rest
put_values_lem [] pre rest o at e h r = rw append-nil e
put_values_lem (b ∷ bs) pre rest o at e h r =
    let s : 21 * suc (length bs) ≡ 21 + 21 * length bs = omega arith in
    let c = decimal_column (double_of b) in
    let one = set_next pre rest o c at e h (length_column (double_of b)) (omega arith) in
    put_values_lem bs (pre ++ c) (drop 21 rest) (sets o at c) (at + 21) one
    (length-append pre c ∙ omega (arith, length_column (double_of b))) (rw length-drop (omega arith))
    ∙ ap (λ z. z ++ drop (21 * length bs) (drop 21 rest)) (append_assoc pre c (decimals_of bs))
    ∙ ap (λ z. pre ++ (c ++ decimals_of bs) ++ z) (drop-drop (21 * length bs) 21 rest ∙ ap (λ k. drop k rest) (sym s))

-- one double more
pub value_more : (out bs c : List ℕ) (place i : ℕ) → place + 21 ≤ length out → i < length bs → c ≡ decimal_column (double_of (get_or bs i 0))
    → put_values (put_mid place (place + 21 - place) out c) (place + 21) (drop (i + 1) bs) ≡ put_values out place (drop i bs)
value_more out bs c place i l h e =
    ap (λ z. put_values z (place + 21) (drop (i + 1) bs)) (put_sets 21 out c place l (ap length e ∙ length_column (double_of (get_or bs i 0))) ∙ ap (sets out place) e)
    ∙ ap (λ k. put_values (sets out place (decimal_column (double_of (get_or bs i 0)))) (place + 21) (drop k bs)) (add-one i)
    ∙ sym (ap (put_values out place) (drop-cons bs i 0 h))

-- the numbers and the doubles of a row
pub row_written : (row t u : List ℕ) → length row ≡ 8 → t ≡ put_all (set (replicate 102 10) 0 82) 1 4 (take 4 row) → u ≡ put_values t 17 (take 4 (drop 4 row)) → u ≡ row_text row
unfolding row_text
row_written row t u l p q =
    let f : length (take 4 row) ≡ 4 = length-take 4 row ∙ rw l in
    let g : length (drop 4 row) ≡ 4 = length-drop 4 row ∙ rw l in
    let first : t ≡ (82 ∷ []) ++ columns_of 4 (take 4 row) ++ replicate 85 10 =
    p ∙ put_all_lem (take 4 row) (82 ∷ []) (replicate 101 10) (set (replicate 102 10) 0 82) 1 4 refl refl (omega arith)
    ∙ ap (λ k. (82 ∷ []) ++ columns_of 4 (take 4 row) ++ drop (4 * k) (replicate 101 10)) f in
    q ∙ ap (put_values t 17) (take_all 4 (drop 4 row) (le_of_eq g))
    ∙ put_values_lem (drop 4 row) ((82 ∷ []) ++ columns_of 4 (take 4 row)) (replicate 85 10) t 17 first (ap suc (length_columns 4 (take 4 row)) ∙ omega arith) (omega arith)
    ∙ ap (λ k. (82 ∷ []) ++ columns_of 4 (take 4 row) ++ decimals_of (drop 4 row) ++ drop (21 * k) (replicate 85 10)) g

-- two numbers behind a letter: r is what lies behind the letter before, and s behind the first number
two_written : (b v m n : ℕ) (r s : List ℕ) → drop v r ≡ s → v ≤ length r → 12 ≤ length s → two_put (10 ∷ r) b v m n ≡ (b ∷ []) ++ right_justified v m ++ right_justified 12 n ++ drop 12 s
two_written b v m n r s e k l =
    let t = with_number (b ∷ r) 1 v m in
    let first : t ≡ (b ∷ []) ++ right_justified v m ++ s = put_next (b ∷ []) r (b ∷ r) t 1 v m refl refl k refl ∙ ap (λ z. (b ∷ []) ++ right_justified v m ++ z) e in
    put_next ((b ∷ []) ++ right_justified v m) s t (with_number t (1 + v) 12 n) (1 + v) 12 n first (ap suc (length_right_justified v m) ∙ omega arith) l refl

pub end_written : (cases steps : ℕ) → two_put (replicate 26 10) 69 12 cases steps ≡ end_text cases steps
unfolding end_text
end_written cases steps = two_written 69 12 cases steps (replicate 25 10) (replicate 13 10) refl (omega arith) (omega arith)

pub refusal_written : (number at : ℕ) → two_put (replicate 18 10) 88 4 number at ≡ refusal_text number at
unfolding refusal_text
refusal_written number at = two_written 88 4 number at (replicate 17 10) (replicate 13 10) refl (omega arith) (omega arith)

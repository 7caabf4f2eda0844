-- The claims of specs/Claims.antt, proved. Assumes nothing.
use Prim.Native.Nat.{ℕ, zero, suc, ◌+◌, ◌*◌, ◌^◌, ◌<◌}
use mathlib.Core.Path.{◌≡◌, refl, sym, ◌∙◌, ap}
use mathlib.Core.List.{List, [], ◌∷◌, ◌++◌, append_assoc, append-nil}
use native.Mathlib.Omega.{arith}
use lib.ListN.{length, get_or, take, drop, replicate, length-append, length-take, length-drop}
use lib.Seq.{take_at, drop_at, drop-drop, get_or-drop}
use Rattle.float64.specs.Pattern.{double_of}
use Rattle.field_columns.specs.Fields.{number, after_spaces}
use Rattle.printed_numbers.specs.Printed.{right_justified}
use Rattle.printed_numbers.proofs.Justified.{length_right_justified}
use Rattle.column_claims.proofs.RoundTrip.{column_back}
use Rattle.decimals.specs.Decimals.{decimal_column}
use Rattle.decimals.proofs.Values.{length_column}
use Rattle.listing_text.specs.Lines.{columns_of, decimals_of, row_text, end_text, refusal_text}
use Rattle.listing_text.specs.Claims.{read_back, Fit, row_widths, LineClaims}
use Rattle.listing_text.proofs.Written.{length_columns, length_decimals}

-- ---- lengths
row_length_lem : (row : List ℕ) → length row ≡ 8 → length (row_text row) ≡ 102
unfolding row_text
row_length_lem row h =
    let f : length (take 4 row) ≡ 4 = length-take 4 row ∙ rw h in
    let g : length (drop 4 row) ≡ 4 = length-drop 4 row ∙ rw h in
    ap suc
    (length-append (columns_of 4 (take 4 row) ++ decimals_of (drop 4 row)) (10 ∷ [])
    ∙ ap (λ k. k + 1) (length-append (columns_of 4 (take 4 row)) (decimals_of (drop 4 row)))
    ∙ omega (arith, length_columns 4 (take 4 row), length_decimals (drop 4 row)))

two-length : (b v w m n : ℕ) → length ((b ∷ []) ++ (right_justified v m ++ right_justified w n) ++ (10 ∷ [])) ≡ v + w + 2
two-length b v w m n =
    ap suc
    (length-append (right_justified v m ++ right_justified w n) (10 ∷ []) ∙ ap (λ k. k + 1) (length-append (right_justified v m) (right_justified w n)))
    ∙ omega (arith, length_right_justified v m, length_right_justified w n)

end_length : (cases steps : ℕ) → length (end_text cases steps) ≡ 26
unfolding end_text
end_length cases steps = two-length 69 12 12 cases steps

refusal_length : (number at : ℕ) → length (refusal_text number at) ≡ 18
unfolding refusal_text
refusal_length number at = two-length 88 4 12 number at

-- ---- the numbers again
column_is : (w n : ℕ) → n < 10 ^ w → n < 2 ^ 64 → number (after_spaces (right_justified w n)) ≡ n
column_is zero n h k = none (right_justified zero n) (length_right_justified zero n) ∙ omega arith
  where
    none : (bs : List ℕ) → length bs ≡ 0 → number (after_spaces bs) ≡ 0
    none [] e = refl
    none (b ∷ bs) e = absurd (omega arith)
column_is (suc w) n h k = column_back (suc w) n (omega arith) h k

-- the first column
one_back : (w n : ℕ) (ws rest : List ℕ) → n < 10 ^ w → n < 2 ^ 64 → read_back (w ∷ ws) (right_justified w n ++ rest) ≡ n ∷ read_back ws rest
one_back w n ws rest h k =
    ap (λ bs. number (after_spaces bs) ∷ read_back ws (drop w (right_justified w n ++ rest))) (take_at (right_justified w n) rest w (length_right_justified w n))
    ∙ ap (λ bs. number (after_spaces (right_justified w n)) ∷ read_back ws bs) (drop_at (right_justified w n) rest w (length_right_justified w n))
    ∙ ap (λ m. m ∷ read_back ws rest) (column_is w n h k)

-- columns of one width, and then others
columns_back : (k w : ℕ) (ns vs rest : List ℕ) → Fit (replicate k w) ns → read_back (replicate k w ++ vs) (columns_of w ns ++ rest) ≡ ns ++ read_back vs rest
columns_back zero w [] vs rest h = refl
columns_back zero w (n ∷ ns) vs rest h = absurd h
columns_back (suc k) w [] vs rest h = absurd h
columns_back (suc k) w (n ∷ ns) vs rest h =
    ap (read_back (w ∷ (replicate k w ++ vs))) (append_assoc (right_justified w n) (columns_of w ns) rest)
    ∙ one_back w n (replicate k w ++ vs) (columns_of w ns ++ rest) h.0 h.1
    ∙ ap (λ l. n ∷ l) (columns_back k w ns vs rest h.2)

row_back : (row : List ℕ) → Fit row_widths (take 4 row) → read_back row_widths (drop 1 (row_text row)) ≡ take 4 row
unfolding row_text
row_back row h =
    ap (read_back row_widths) (append_assoc (columns_of 4 (take 4 row)) (decimals_of (drop 4 row)) (10 ∷ []))
    ∙ columns_back 4 4 (take 4 row) [] (decimals_of (drop 4 row) ++ (10 ∷ [])) h
    ∙ append-nil (take 4 row)

-- ---- the doubles
decimal_at : (bs rest : List ℕ) (k : ℕ) → k < length bs → take 21 (drop (21 * k) (decimals_of bs ++ rest)) ≡ decimal_column (double_of (get_or bs k 0))
decimal_at [] rest k h = absurd (omega arith)
decimal_at (b ∷ bs) rest zero h =
    let c = decimal_column (double_of b) in
    ap (take 21) (append_assoc c (decimals_of bs) rest) ∙ take_at c (decimals_of bs ++ rest) 21 (length_column (double_of b))
decimal_at (b ∷ bs) rest (suc k) h =
    let c = decimal_column (double_of b) in
    let s : 21 * suc k ≡ 21 + 21 * k = omega arith in
    ap (λ n. take 21 (drop n ((c ++ decimals_of bs) ++ rest))) s
    ∙ ap (take 21)
    (sym (drop-drop (21 * k) 21 ((c ++ decimals_of bs) ++ rest))
    ∙ ap (drop (21 * k)) (ap (drop 21) (append_assoc c (decimals_of bs) rest) ∙ drop_at c (decimals_of bs ++ rest) 21 (length_column (double_of b))))
    ∙ decimal_at bs rest k (omega arith)

row_values : (row : List ℕ) (k : ℕ) → length row ≡ 8 → k < 4 → take 21 (drop (17 + 21 * k) (row_text row)) ≡ decimal_column (double_of (get_or row (4 + k) 0))
unfolding row_text
row_values row k l h =
    let pre = (82 ∷ []) ++ columns_of 4 (take 4 row) in
    let rest = decimals_of (drop 4 row) ++ (10 ∷ []) in
    let f : length (take 4 row) ≡ 4 = length-take 4 row ∙ rw l in
    let g : length (drop 4 row) ≡ 4 = length-drop 4 row ∙ rw l in
    let n : length pre ≡ 17 = ap suc (length_columns 4 (take 4 row)) ∙ omega arith in
    ap (take 21)
    (sym (drop-drop (21 * k) 17 (row_text row))
    ∙ ap (drop (21 * k)) (ap (λ z. drop 17 (82 ∷ z)) (append_assoc (columns_of 4 (take 4 row)) (decimals_of (drop 4 row)) (10 ∷ [])) ∙ drop_at pre rest 17 n))
    ∙ decimal_at (drop 4 row) (10 ∷ []) k (omega arith)
    ∙ ap (λ z. decimal_column (double_of z)) (get_or-drop 4 row k 0)

two_back : (v w m n : ℕ) → Fit (v ∷ w ∷ []) (m ∷ n ∷ []) → read_back (v ∷ w ∷ []) ((right_justified v m ++ right_justified w n) ++ (10 ∷ [])) ≡ m ∷ n ∷ []
two_back v w m n h =
    ap (read_back (v ∷ w ∷ [])) (append_assoc (right_justified v m) (right_justified w n) (10 ∷ []))
    ∙ one_back v m (w ∷ []) (right_justified w n ++ (10 ∷ [])) h.0 h.1
    ∙ ap (λ l. m ∷ l) (one_back w n [] (10 ∷ []) h.2.0 h.2.1)

end_back : (cases steps : ℕ) → Fit (12 ∷ 12 ∷ []) (cases ∷ steps ∷ []) → read_back (12 ∷ 12 ∷ []) (drop 1 (end_text cases steps)) ≡ cases ∷ steps ∷ []
unfolding end_text
end_back cases steps h = two_back 12 12 cases steps h

refusal_back : (number at : ℕ) → Fit (4 ∷ 12 ∷ []) (number ∷ at ∷ []) → read_back (4 ∷ 12 ∷ []) (drop 1 (refusal_text number at)) ≡ number ∷ at ∷ []
unfolding refusal_text
refusal_back number at h = two_back 4 12 number at h

pub line_claims : LineClaims
line_claims =
    record {
      row_length_lem = row_length_lem;
      end_length = end_length;
      refusal_length = refusal_length;
      row_back = row_back;
      end_back = end_back;
      refusal_back = refusal_back;
      row_values = row_values;
    }

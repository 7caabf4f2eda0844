-- The claims of specs/Claims.antt, proved. Assumes nothing.
use mathlib.Core.Path.{◌≡◌, refl, sym, ap, ◌∙◌, subst}
use mathlib.Core.Logic.{◌⊎◌, inl, inr, ◌↔◌}
use mathlib.Core.Bool.{Bool, true, false}
use mathlib.Core.List.{List, ◌++◌}
use Prim.Native.Nat.{ℕ, zero, suc, ◌+◌, ◌-◌, ◌*◌, ◌/◌, ◌^◌, ◌≤◌, ◌<◌}
use native.Mathlib.Nat.{mul_right_comm}
use native.Mathlib.Omega.{arith}
use lib.IntN.{ℤ}
use lib.ListN.{length, get_or, replicate}
use lib.Ieee.{Float, nan, inf, fin, up, down}
use lib.Ieee.Exact.{HasValue}
use lib.Ieee.Fits.{down_pos}
use lib.Ieee.Nearest.{closest, closest_same}
use Rattle.lists.proofs.Counting.{lt_or_le}
use Rattle.field_columns.specs.Fields.{number_from}
use Rattle.field_columns.proofs.Shape.{number_append}
use Rattle.printed_numbers.specs.Printed.{digits_of, last_digits}
use Rattle.column_claims.proofs.Spelled.{digits_spell, some_digits_lem, length_last, all_last, number_last}
use Rattle.decimals.specs.Decimals.{in_millionths, six_places, stars, fitted, decimal_column}
use Rattle.decimals.proofs.Texts.{long, long_text, long_below_0, short_text, fits, text_is}
use Rattle.decimals.proofs.Values.{length_column}
use Rattle.decimal_claims.specs.Claims.{NearestWhole, Spells, Starred, DecimalClaims}
use Rattle.decimal_claims.proofs.Nearest.{closest_nearest, only}

-- ---- stars
-- a text that fits has a space before it
spaced : (text : List ℕ) → length text ≤ 20 → fitted text ≡ stars → ⊥
spaced text h e = no (21 - length text) (omega arith) (ap (λ (l : List ℕ). get_or l 0 0) (sym (fits text h) ∙ e))
  where
    no : (k : ℕ) → 0 < k → get_or (replicate k 32 ++ text) 0 0 ≡ 42 → ⊥
    no zero p q = omega arith
    no (suc k) p q = let z : ◌≡◌ {A = ℕ} 32 42 = q in omega arith

is_starred : (text : List ℕ) → fitted text ≡ stars ↔ 20 < length text
is_starred text = (λ e. elim (lt_or_le 20 (length text)) [ inl g ↦ g | inr g ↦ absurd (spaced text g e) ], λ h. sym (long text h))

starred : (x : Float) → decimal_column x ≡ stars ↔ Starred x
unfolding decimal_column
starred nan = (λ e. tt, λ h. refl)
starred (inf s) = (λ e. tt, λ h. refl)
starred (fin s m e) = is_starred (six_places s (in_millionths m e))

-- ---- how many millionths that are
rounded : (m : ℕ) (e : ℤ) → NearestWhole (m * up e * 10 ^ 6) (down e) (in_millionths m e)
unfolding in_millionths
rounded m e = closest_nearest (m * up e * 10 ^ 6) (down e) (down_pos e)

long_is : (s : Bool) (q : ℕ) → 20 < length (six_places s q) ↔ (10 ^ 19 ≤ q) ⊎ ((s ≡ true) × (10 ^ 18 ≤ q))
long_is s q = (there s, back s)
  where
    there : (s : Bool) → 20 < length (six_places s q) → (10 ^ 19 ≤ q) ⊎ ((s ≡ true) × (10 ^ 18 ≤ q))
    there false h = elim (lt_or_le q (10 ^ 19)) [ inl g ↦ absurd (omega (arith, short_text false q g (λ e. absurd (no e)))) | inr g ↦ inl g ]
      where
        no : false ≡ true → ⊥
        no e = let z : ◌≡◌ {A = ℕ} 0 1 = cc in omega arith
    there true h = elim (lt_or_le q (10 ^ 18)) [ inl g ↦ absurd (omega (arith, short_text true q (omega arith) (λ e. g))) | inr g ↦ inr (refl, g) ]

    back : (s : Bool) → (10 ^ 19 ≤ q) ⊎ ((s ≡ true) × (10 ^ 18 ≤ q)) → 20 < length (six_places s q)
    back s (inl g) = long_text s q g
    back s (inr g) = subst (λ (b : Bool). 20 < length (six_places b q)) (sym g.0) (long_below_0 q g.1)

-- ---- the number
spells : (s : Bool) (q : ℕ) → length (six_places s q) ≤ 20 → Spells (fitted (six_places s q)) s q
spells s q h =
    let b : q < 10 ^ 19 = elim (lt_or_le q (10 ^ 19)) [ inl g ↦ g | inr g ↦ absurd (omega (arith, long_text s q g)) ] in
    let w = digits_spell (q / 10 ^ 6) (omega arith) in
    record {
      spaces = 21 - length (six_places s q);
      whole = digits_of (q / 10 ^ 6);
      fraction = last_digits 6 q;
      made_of = fits (six_places s q) h ∙ ap (λ (t : List ℕ). replicate (21 - length (six_places s q)) 32 ++ t) (text_is s q b);
      whole_digits = some_digits_lem (digits_of (q / 10 ^ 6)) (q / 10 ^ 6) w;
      fraction_digits = all_last 6 q;
      six = length_last 6 q;
      reads = number_append 0 (digits_of (q / 10 ^ 6)) (last_digits 6 q) ∙ ap (λ (m : ℕ). number_from m (last_digits 6 q)) w.is ∙ number_last 6 q;
      no_zero_first = λ p e. w.first (subst (λ (z : ℕ). 0 < z) w.is p) e;
    }

spelled : (x : Float) (s : Bool) (n d : ℕ) → 0 < d → HasValue x s n d → (Starred x → ⊥) → (q : ℕ) × NearestWhole (n * 10 ^ 6) d q × Spells (decimal_column x) s q
unfolding decimal_column in_millionths
spelled nan s n d D v h = absurd v
spelled (inf t) s n d D v h = absurd v
spelled (fin t m e) s n d D v h =
    let q = closest (m * up e * 10 ^ 6) (down e) in
    let c : m * up e * 10 ^ 6 * d ≡ n * 10 ^ 6 * down e = mul_right_comm (m * up e) (10 ^ 6) d ∙ ap (λ (z : ℕ). z * 10 ^ 6) v.1 ∙ mul_right_comm n (down e) (10 ^ 6) in
    let k : closest (n * 10 ^ 6) d ≡ q = sym (closest_same (m * up e * 10 ^ 6) (down e) (n * 10 ^ 6) d (down_pos e) D c) in
    let g : length (six_places t q) ≤ 20 = elim (lt_or_le 20 (length (six_places t q))) [ inl g ↦ absurd (h g) | inr g ↦ g ] in (
      q,
      subst (λ (z : ℕ). NearestWhole (n * 10 ^ 6) d z) k (closest_nearest (n * 10 ^ 6) d D),
      subst (λ (b : Bool). Spells (fitted (six_places t q)) b q) v.0 (spells t q g),
    )

pub decimal_claims : DecimalClaims
decimal_claims = record { columns = length_column; starred = starred; rounded = rounded; long = long_is; spelled = spelled; only = only }

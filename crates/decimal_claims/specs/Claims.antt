-- Request Q-1: "Each column is proved to hold the nearest number with six places, ties to even, or stars exactly in those cases." In whole numbers, the double taken as an exact fraction. The proofs are
-- in proofs/Claims.antt.
use Rattle.std.specs.Prelude.{ℕ, ◌+◌, ◌-◌, ◌*◌, ◌%◌, ◌^◌, ◌≤◌, ◌<◌, ◌≡◌, ◌⊎◌, ◌↔◌, Bool, true, ◌&&◌, cond, List, [], ◌∷◌, ◌++◌, ltb, ℤ, length, get_or, replicate, Float}
use Rattle.std.specs.Float.{nan, inf, fin}
use Rattle.std.specs.Float.Ieee.{up, down}
use Rattle.std.specs.Float.Ieee.Exact.{HasValue}
use Rattle.lists.specs.Scans.{every}
use Rattle.field_columns.specs.Fields.{is_digit, some_digits, number}
use Rattle.decimals.specs.Decimals.{in_millionths, six_places, stars, decimal_column}

-- how far q lies from n / d, times d
abbrev pub distance : (n d q : ℕ) → ℕ
distance n d q = (q * d - n) + (n - q * d)

-- no other whole number is nearer to n / d than q, and where another is as near, q is even. Those below 0 need no word: 0 is nearer than they are.
pub record NearestWhole (n d q : ℕ) : Type 0 where
  pub nearest : (k : ℕ) → distance n d q ≤ distance n d k
  pub even : (k : ℕ) → distance n d k ≡ distance n d q → (k ≡ q) ⊎ (q % 2 ≡ 0)

-- a column that spells q millionths, below 0 or not: spaces, a minus sign where q is not 0 and the number below 0, digits, a point and six digits, which read together give q; no 0 comes first but
-- before the point
pub record Spells (cs : List ℕ) (negative : Bool) (q : ℕ) : Type 0 where
  pub spaces : ℕ
  pub whole : List ℕ
  pub fraction : List ℕ
  pub made_of : cs ≡ replicate spaces 32 ++ (cond (negative && ltb 0 q) (45 ∷ []) [] ++ (whole ++ (46 ∷ fraction)))
  pub whole_digits : some_digits whole ≡ true
  pub fraction_digits : every is_digit fraction ≡ true
  pub six : length fraction ≡ 6
  pub reads : number (whole ++ fraction) ≡ q
  pub no_zero_first : 0 < number whole → get_or whole 0 48 ≡ 48 → ⊥

-- "needs more than 20 characters, or is NaN or infinite"
abbrev pub Starred : Float → Type 0
Starred nan = Unit {0}
Starred (inf s) = Unit {0}
Starred (fin s m e) = 20 < length (six_places s (in_millionths m e))

pub record DecimalClaims : Type 0 where
  -- as many bytes as there are columns
  pub columns : (x : Float) → length (decimal_column x) ≡ 21
  -- stars exactly in those cases
  pub starred : (x : Float) → decimal_column x ≡ stars ↔ Starred x
  -- the number of millionths that is asked for its length is the nearest to the double, m * up e / down e in size
  pub rounded : (m : ℕ) (e : ℤ) → NearestWhole (m * up e * 10 ^ 6) (down e) (in_millionths m e)
  -- 14 digits before the point, or 13 and a minus sign
  pub long : (negative : Bool) (q : ℕ) → 20 < length (six_places negative q) ↔ (10 ^ 19 ≤ q) ⊎ ((negative ≡ true) × (10 ^ 18 ≤ q))
  -- else the nearest number of millionths of the double, which is n / d with this sign
  pub spelled : (x : Float) (negative : Bool) (n d : ℕ) → 0 < d → HasValue x negative n d → (Starred x → ⊥) → (q : ℕ) × NearestWhole (n * 10 ^ 6) d q × Spells (decimal_column x) negative q
  -- and only one number is the nearest
  pub only : (n d q r : ℕ) → 0 < d → NearestWhole n d q → NearestWhole n d r → q ≡ r

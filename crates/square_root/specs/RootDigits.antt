-- What the functions below `sqrt` promise each other. No caller of `sqrt` needs these.
use Rattle.std.specs.Prelude.{◌≡◌, ℕ, ◌+◌, ◌-◌, ◌*◌, ◌/◌, ◌^◌, ◌≤◌, ◌<◌}

-- root is √n cut to a whole number, and rest what is left
pub record FloorOf (n root rest : ℕ) : Type 0 where
  pub split : root * root + rest ≡ n
  pub small : rest ≤ 2 * root

-- q is nearer to √n than any other whole number: q - 1/2 < √n < q + 1/2, doubled and squared
pub record NearestWhole (n q : ℕ) : Type 0 where
  pub above : (2 * q - 1) * (2 * q - 1) < 4 * n
  pub below : 4 * n < (2 * q + 1) * (2 * q + 1)

-- q * 2 ^ j is the multiple of 2 ^ j nearest to √n, and √n has 53 digits from the place j up
pub record Placed (n q j : ℕ) : Type 0 where
  pub digits : (2 ^ 52 ≤ q) × (q ≤ 2 ^ 53)
  pub place : (2 ^ 104 * 2 ^ (2 * j) ≤ n) × (n < 2 ^ 106 * 2 ^ (2 * j))
  pub above : (2 * q - 1) * (2 * q - 1) * 2 ^ (2 * j) < 4 * n
  pub below : 4 * n < (2 * q + 1) * (2 * q + 1) * 2 ^ (2 * j)

-- bits is the pattern of the root of m * 2 ^ 52 * 2 ^ w
pub record RootPattern (m w bits : ℕ) : Type 0 where
  pub q : ℕ
  pub is : bits ≡ w / 2 * 2 ^ 52 + q
  pub placed : Placed (m * 2 ^ 52 * 2 ^ w) q (w / 2)

-- f shifted up to 53 digits, and the power of two that is left of 2 ^ 1022
pub record Shifted (f digits scale : ℕ) : Type 0 where
  pub long : (2 ^ 52 ≤ digits) × (digits < 2 ^ 53)
  pub same : digits * 2 ^ scale ≡ f * 2 ^ 1022
  pub most : scale ≤ 1022

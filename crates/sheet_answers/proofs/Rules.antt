-- The rule that a sheet is refused by, from the one that its grid and its order show. Assumes nothing.
use Prim.Native.Nat.{ℕ, ◌<◌}
use mathlib.Core.Path.{◌≡◌, refl, sym, ◌∙◌, ap, subst}
use mathlib.Core.Bool.{Bool, true, false, not, ◌||◌, cond}
use native.Mathlib.Omega.{arith}
use lib.Dec.{eqb}
use Rattle.part_checks.specs.PartChecks.{order_ok}
use Rattle.rules.specs.Studies.{broken, first, sweep_refusal}
use Rattle.sheet_answers.specs.Answers.{rule_broken, rule_refusal, line_rule}
use Rattle.taken_lines.specs.declared.taken.Sheet.{Sheet}

-- the order 3, 1, 2, 4, 5, then n
abbrev early : (a b c d e : Bool) → ℕ → ℕ
early a b c d e n = cond a 3 (cond b 1 (cond c 2 (cond d 4 (cond e 5 n))))

-- the order 6, 7, 8, 9
abbrev late : (a b c d : Bool) → ℕ
late a b c d = cond a 6 (cond b 7 (cond c 8 (cond d 9 0)))

-- line_rule, of what is known of the lines
abbrev patched : (x y z : Bool) → ℕ → ℕ
patched x y z n = cond (eqb n 6 || x) 6 (cond (eqb n 7 || y) 7 (cond (eqb n 8 || z) 8 n))

late_patched : (a b c d x y z : Bool) → patched x y z (late a b c d) ≡ late (a || x) (b || y) (c || z) d
late_patched true b c d x y z = refl
late_patched false true c d true y z = refl
late_patched false true c d false y z = refl
late_patched false false true d true y z = refl
late_patched false false true d false true z = refl
late_patched false false true d false false z = refl
late_patched false false false true true y z = refl
late_patched false false false true false true z = refl
late_patched false false false true false false true = refl
late_patched false false false true false false false = refl
late_patched false false false false true y z = refl
late_patched false false false false false true z = refl
late_patched false false false false false false true = refl
late_patched false false false false false false false = refl

-- a rule before 6 is the same whatever comes behind it
early_same : (a b c d e : Bool) (n m : ℕ) → (n < 6 → n ≡ 0) → (early a b c d e n ≡ 0 → ⊥) → early a b c d e n < 6 → early a b c d e n ≡ early a b c d e m
early_same true b c d e n m z k l = refl
early_same false true c d e n m z k l = refl
early_same false false true d e n m z k l = refl
early_same false false false true e n m z k l = refl
early_same false false false false true n m z k l = refl
early_same false false false false false n m z k l = absurd (k (z l))

early_late : (a b c d e : Bool) (n m : ℕ) → (early a b c d e n < 6 → early a b c d e n ≡ 0) → (early a b c d e n ≡ n) × (early a b c d e m ≡ m)
early_late true b c d e n m k = let z : ◌≡◌ {A = ℕ} 3 0 = k (omega arith) in absurd (omega arith)
early_late false true c d e n m k = let z : ◌≡◌ {A = ℕ} 1 0 = k (omega arith) in absurd (omega arith)
early_late false false true d e n m k = let z : ◌≡◌ {A = ℕ} 2 0 = k (omega arith) in absurd (omega arith)
early_late false false false true e n m k = let z : ◌≡◌ {A = ℕ} 4 0 = k (omega arith) in absurd (omega arith)
early_late false false false false true n m k = let z : ◌≡◌ {A = ℕ} 5 0 = k (omega arith) in absurd (omega arith)
early_late false false false false false n m k = (refl, refl)

late_high : (a b c d : Bool) → late a b c d < 6 → late a b c d ≡ 0
late_high true b c d h = absurd (omega arith)
late_high false true c d h = absurd (omega arith)
late_high false false true d h = absurd (omega arith)
late_high false false false true h = absurd (omega arith)
late_high false false false false h = refl

or_false : (a : Bool) → (a || false) ≡ a
or_false true = refl
or_false false = refl

module _ (s : Sheet) where
  abbrev shows : ℕ → Bool
  shows = broken s.grid (not (order_ok s.order))

  abbrev bad_s : Bool
  bad_s = not (eqb s.bad_station 0)

  abbrev bad_c : Bool
  bad_c = not (eqb s.bad_cable 0)

  abbrev bad_b : Bool
  bad_b = not (eqb s.bad_breaker 0)

  abbrev behind : ℕ
  behind = late (shows 6 || bad_s) (shows 7 || bad_c) (shows 8 || bad_b) (shows 9)

  refusal_is : rule_refusal s ≡ early (shows 3) (shows 1) (shows 2) (shows 4) (shows 5) behind
  unfolding rule_refusal rule_broken first
  refusal_is = rw (or_false (shows 3), or_false (shows 1), or_false (shows 2), or_false (shows 4), or_false (shows 5), or_false (shows 9))

  shown_is : sweep_refusal s.grid s.order ≡ early (shows 3) (shows 1) (shows 2) (shows 4) (shows 5) (late (shows 6) (shows 7) (shows 8) (shows 9))
  unfolding sweep_refusal first
  shown_is = refl

  pub early_rule : (n : ℕ) → n ≡ sweep_refusal s.grid s.order → (n ≡ 0 → ⊥) → n < 6 → n ≡ rule_refusal s
  early_rule n e z h =
      let k = e ∙ shown_is in
      k ∙ early_same (shows 3) (shows 1) (shows 2) (shows 4) (shows 5) (late (shows 6) (shows 7) (shows 8) (shows 9)) behind (late_high (shows 6) (shows 7) (shows 8) (shows 9)) (λ q. z (k ∙ q)) (subst (λ m. m < 6) k h) ∙ sym refusal_is

  pub late_rule : (n : ℕ) → n ≡ sweep_refusal s.grid s.order → (n < 6 → n ≡ 0) → (r : ℕ) → r ≡ line_rule s n → r ≡ rule_refusal s
  unfolding line_rule
  late_rule n e z r h =
      let k = e ∙ shown_is in
      let b = early_late (shows 3) (shows 1) (shows 2) (shows 4) (shows 5) (late (shows 6) (shows 7) (shows 8) (shows 9)) behind (λ l. sym k ∙ z (subst (λ m. m < 6) (sym k) l)) in
      h ∙ ap (patched bad_s bad_c bad_b) (k ∙ b.0) ∙ late_patched (shows 6) (shows 7) (shows 8) (shows 9) bad_s bad_c bad_b ∙ sym b.1 ∙ sym refusal_is

-- What `new` makes has the code's lengths, the times that it keeps and blanks past the counts, and so has a grid with a part more. Assumes nothing.
use Prim.Native.Nat.{ℕ, suc, ◌+◌, ◌-◌, ◌<◌}
use mathlib.Core.Path.{◌≡◌, refl, sym, ◌∙◌, ap}
use mathlib.Core.Logic.{◌⊎◌, inl, inr, ⊎_elim}
use mathlib.Core.Bool.{Bool, true, false, cond}
use mathlib.Core.List.{List}
use native.Mathlib.Omega.{arith}
use native.Mathlib.Numerals.{add-one}
use lib.Dec.{ltb}
use lib.ListN.{length, drop, set, replicate, length-set}
use lib.Seq.{drop-cons, drop-set-lt}
use lib.Ieee.{Float, of_bits, of_int, round, is_nan, le, lt, eq}
use borrow.Author.Tests.{ltb-true}
use Rattle.std.specs.Prelude.{Some, None}
use Rattle.std.specs.Option.{unwrap_or}
use Rattle.float64.specs.Choice.{max_of}
use Rattle.ranges.specs.Ranges as range
use Rattle.ranges.specs.Ranges.{real_in}
use Rattle.grid.specs.Simulator.{blank_station, blank_cable, blank_breaker, least_time_step, least_duration, kept_time_step, kept_duration, new_simulator, with_station, with_cable, with_breaker}
use Rattle.grid.specs.declared.parts.ConverterStation.{ConverterStation}
use Rattle.grid.specs.declared.parts.DcCable.{DcCable}
use Rattle.grid.specs.declared.parts.DcBreaker.{DcBreaker}
use Rattle.grid.specs.declared.simulator.DcSwitchingSimulator.{DcSwitchingSimulator}
use Rattle.printed_sheets.specs.Claims.{Made, BlankPast, MadeClaims}

-- ---- what is kept of a time is kept again

max_either : (a b : Float) → (max_of a b ≡ a) ⊎ (max_of a b ≡ b)
unfolding max_of
max_either a b = go (is_nan a) (is_nan b) (lt a b)
  where
    go : (x y z : Bool) → (cond x b (cond y a (cond z b a)) ≡ a) ⊎ (cond x b (cond y a (cond z b a)) ≡ b)
    go true y z = inr refl
    go false true z = inl refl
    go false false true = inr refl
    go false false false = inl refl

again : (kept : Float → Float) (least : Float) → kept least ≡ least → ((x : Float) → (kept x ≡ x) ⊎ (kept x ≡ least)) → (x : Float) → kept (kept x) ≡ kept x
again kept least e either x = ⊎_elim (λ p. ap kept p) (λ p. ap kept p ∙ e ∙ sym p) (either x)

raised_or_not : (inside : Bool) (x least : Float) → (cond inside (max_of x least) x ≡ x) ⊎ (cond inside (max_of x least) x ≡ least)
raised_or_not true x least = max_either x least
raised_or_not false x least = inl refl

least_kept : (kept_time_step least_time_step ≡ least_time_step) × (kept_duration least_duration ≡ least_duration)
unfolding kept_time_step kept_duration real_in max_of is_nan le lt eq of_int of_bits round
least_kept = (refl, refl)

time_step_again : (x : Float) → kept_time_step (kept_time_step x) ≡ kept_time_step x
unfolding kept_time_step
time_step_again = again kept_time_step least_time_step least_kept.0 (λ x. raised_or_not (real_in range.time_step x) x least_time_step)

duration_again : (x : Float) → kept_duration (kept_duration x) ≡ kept_duration x
unfolding kept_duration
duration_again = again kept_duration least_duration least_kept.1 (λ x. raised_or_not (real_in range.duration x) x least_duration)

new_made : (dt duration : Float) → Made (new_simulator dt duration) × BlankPast (new_simulator dt duration)
unfolding new_simulator
new_made dt duration =
    (record { stations = refl; cables = refl; breakers = refl; dt_us = time_step_again dt; duration_ms = duration_again duration }, record { stations = refl; cables = refl; breakers = refl })

-- ---- a part more

-- blanks from n on, and an element put at n
blanks_more : {A : Type 0} (z x : A) (m n : ℕ) (l : List A) → length l ≡ m → n < m → drop n l ≡ replicate (m - n) z → drop (n + 1) (set l n x) ≡ replicate (m - (n + 1)) z
blanks_more z x m n l w h e =
    let one_fewer : m - n ≡ suc (m - (n + 1)) = omega arith in
    drop-set-lt (n + 1) l n x (omega arith)
    ∙ ap (λ k. drop k l) (add-one n)
    ∙ ap (drop 1) (sym (drop-cons l n z (omega arith)) ∙ e ∙ ap (λ k. replicate k z) one_fewer)

module _ (g : DcSwitchingSimulator) (made : Made g) (blank : BlankPast g) where
  -- the grid with the part, or the same grid
  kept_by : (t : Bool) (x : DcSwitchingSimulator) → (t ≡ true → Made x × BlankPast x) → Made (unwrap_or (cond t (Some x) None) g) × BlankPast (unwrap_or (cond t (Some x) None) g)
  kept_by true x f = f refl
  kept_by false x f = (made, blank)

  station_made : (s : ConverterStation) → Made (unwrap_or (with_station g s) g) × BlankPast (unwrap_or (with_station g s) g)
  unfolding with_station
  station_made s =
      kept_by (ltb g.n_stations 32) _
      (λ h. (
        record { stations = length-set g.stations g.n_stations s ∙ made.stations; cables = made.cables; breakers = made.breakers; dt_us = made.dt_us; duration_ms = made.duration_ms },
        record { stations = blanks_more blank_station s 32 g.n_stations g.stations made.stations (ltb-true g.n_stations 32 h) blank.stations; cables = blank.cables; breakers = blank.breakers },
      ))

  cable_made : (c : DcCable) → Made (unwrap_or (with_cable g c) g) × BlankPast (unwrap_or (with_cable g c) g)
  unfolding with_cable
  cable_made c =
      kept_by (ltb g.n_cables 64) _
      (λ h. (
        record { stations = made.stations; cables = length-set g.cables g.n_cables c ∙ made.cables; breakers = made.breakers; dt_us = made.dt_us; duration_ms = made.duration_ms },
        record { stations = blank.stations; cables = blanks_more blank_cable c 64 g.n_cables g.cables made.cables (ltb-true g.n_cables 64 h) blank.cables; breakers = blank.breakers },
      ))

  breaker_made : (b : DcBreaker) → Made (unwrap_or (with_breaker g b) g) × BlankPast (unwrap_or (with_breaker g b) g)
  unfolding with_breaker
  breaker_made b =
      kept_by (ltb g.n_breakers 32) _
      (λ h. (
        record { stations = made.stations; cables = made.cables; breakers = length-set g.breakers g.n_breakers b ∙ made.breakers; dt_us = made.dt_us; duration_ms = made.duration_ms },
        record { stations = blank.stations; cables = blank.cables; breakers = blanks_more blank_breaker b 32 g.n_breakers g.breakers made.breakers (ltb-true g.n_breakers 32 h) blank.breakers },
      ))

pub made_claims : MadeClaims
made_claims = record { new = new_made; station = λ g s m b. station_made g m b s; cable = λ g c m b. cable_made g m b c; breaker = λ g x m b. breaker_made g m b x }

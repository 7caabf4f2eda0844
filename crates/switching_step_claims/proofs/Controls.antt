-- Worked examples of the definitions: they are believed, so a wrong clause need break no other proof. The answers are the published Rust's: those of the loop alone are its loop's with a function in
-- the place of its RK4 step, and those of a grid its own.
use Prim.Native.Nat.{ℕ}
use mathlib.Core.Path.{◌≡◌, refl}
use mathlib.Core.Bool.{Bool, true, false}
use mathlib.Core.List.{List, [], ◌∷◌, ◌++◌}
use lib.ListN.{take, replicate}
use lib.Ieee.{Float, binary64, of_bits, of_int, round, neg, add, sub, mul, div, lt, le, eq, is_nan}
use Rattle.lists.specs.Tables.{tab, blank, over, padded}
use Rattle.float64.specs.Constants.{nought, decimal}
use Rattle.float64.specs.Choice.{max_of}
use Rattle.network.specs.Capacitance.{own_capacitance, joined_capacitance}
use Rattle.state_derivatives.specs.Derivatives.{derivatives}
use Rattle.transient.specs.Rk4.{ahead, blended, rk4, raised, new_state, step_by}
use Rattle.run_start.proofs.Samples.{double, state, stepped, station, cable, breaker, two}
use Rattle.switching_plan.specs.declared.variables.SwitchingVariables.{SwitchingVariables}
use Rattle.switching_plan.specs.Switching.{SwitchSetting, is_operated, breakers_after, interrupted, operated_state, switch_body, switch_setting_of, switching_body, before_switching, switching_after}

-- of 3 breakers: below the count, at it and past it
operated-are
    : (is_operated 3 1 0 ≡ false)
    × (is_operated 3 1 1 ≡ true)
    × (is_operated 3 1 2 ≡ false)
    × (is_operated 3 3 0 ≡ true)
    × (is_operated 3 7 2 ≡ true)
operated-are = (refl, refl, refl, refl, refl)

-- of 2 breakers: one opens, one closes, all open, all close; what stands past the count stays
breakers_are
    : (breakers_after 2 1 true (true ∷ true ∷ true ∷ []) ≡ true ∷ false ∷ true ∷ [])
    × (breakers_after 2 1 false (false ∷ false ∷ false ∷ []) ≡ false ∷ true ∷ false ∷ [])
    × (breakers_after 2 2 true (true ∷ true ∷ true ∷ []) ≡ false ∷ false ∷ true ∷ [])
    × (breakers_after 2 5 false (false ∷ false ∷ false ∷ []) ≡ true ∷ true ∷ false ∷ [])
unfolding tab over
breakers_are = (refl, refl, refl, refl)

-- of 2 stations and a cable: its current is halved, and nothing else
interrupted_is : interrupted 2 1 (decimal 100 1 ∷ decimal 200 1 ∷ decimal 3 2 ∷ decimal 7 1 ∷ []) ≡ decimal 100 1 ∷ decimal 200 1 ∷ double 0x3fe8000000000000 ∷ decimal 7 1 ∷ []
unfolding double tab over of_bits round mul
interrupted_is = refl

-- ---- its loop: the switching time is exactly that of step 1

switch_run : (number : ℕ) → (opens : Bool) → SwitchSetting
switch_run number opens =
    record {
      stations = 2;
      cables = 1;
      breakers = 2;
      number = number;
      opens = opens;
      dt = decimal 1 10;
      switching = decimal 1 10;
      rk4 = λ s. stepped s.time_ms s.fault_current_ka s.breaker_states s;
    }

-- before a run, and after steps 0, 1 and 2, with the cable's current
start : List Bool → SwitchingVariables
start b = record { state = state 0 0 0x4059000000000000 0x4069000000000000 0x3ff8000000000000 0 0 b; switched = false }

waiting : List Bool → SwitchingVariables
waiting b = record { state = state 0 0 0x40585f3333333333 0x4068ff3333333333 0x3ff2000000000000 0x3fd0000000000000 0xbfe0000000000000 b; switched = false }

switched : (c : ℕ) → List Bool → SwitchingVariables
switched c b = record { state = state 0x3fb999999999999a 0 0x4057be6666666666 0x4068fe6666666666 c 0x3fe0000000000000 0xbff0000000000000 b; switched = true }

later : (c : ℕ) → List Bool → SwitchingVariables
later c b = record { state = state 0x3fc999999999999a 0 0x40571d9999999999 0x4068fd9999999999 c 0x3fe8000000000000 0xbff8000000000000 b; switched = true }

-- the second breaker opens; it closes; all open
switches-are
    : (switch_body (switch_run 1 true) 0 (start (true ∷ true ∷ [])) ≡ waiting (true ∷ true ∷ []))
    × (switch_body (switch_run 1 true) 1 (waiting (true ∷ true ∷ [])) ≡ switched 0x3fdb000000000000 (true ∷ false ∷ []))
    × (switch_body (switch_run 1 true) 2 (switched 0x3fdb000000000000 (true ∷ false ∷ [])) ≡ later 0x3fd4400000000000 (true ∷ false ∷ []))
    × (switch_body (switch_run 1 false) 1 (waiting (false ∷ false ∷ [])) ≡ switched 0x3feb000000000000 (false ∷ true ∷ []))
    × (switch_body (switch_run 2 true) 1 (waiting (true ∷ true ∷ [])) ≡ switched 0x3fdb000000000000 (false ∷ false ∷ []))
unfolding double state stepped switch_run start waiting switched later switch_body operated_state tab over lt le eq of_bits of_int round neg add sub mul div
switches-are = (refl, refl, refl, refl, refl)

-- ---- of a grid: steps of 10 µs, a duration of 0.05 ms

-- with the currents that they drive; breakers as the operation sets them
before-switching-is
    : ((before_switching two true).state.y ≡ decimal 100 1 ∷ decimal 200 1 ∷ double 0xc050aaaaaaaaaaab ∷ double 0xc049000000000000 ∷ replicate 92 nought)
    × ((before_switching two true).state.breaker_states ≡ replicate 32 false)
    × ((before_switching two false).state.breaker_states ≡ true ∷ true ∷ replicate 30 false)
    × ((before_switching two true).switched ≡ false)
unfolding double station cable breaker two before_switching tab blank padded max_of is_nan lt eq of_bits of_int round neg add sub mul div
before-switching-is = (refl, refl, refl, refl)

-- what the loop has of a grid, beside what the run below shows: a breaker is operated at a tenth of the duration
setting_is
    : ((switch_setting_of two 1 true).breakers ≡ 2)
    × ((switch_setting_of two 1 true).number ≡ 1)
    × ((switch_setting_of two 1 true).opens ≡ true)
    × ((switch_setting_of two 1 true).switching ≡ double 0x3f747ae147ae147c)
unfolding double two max_of is_nan lt of_bits round mul
setting_is = (refl, refl, refl, refl)

-- after 2 steps, in the second of which the second breaker opens: the breakers were open from the start
switching-run-is
    : let s = (switching_after two 1 true 2).state in
    (s.time_ms ∷ (take 4 s.y ++ take 2 s.station_currents_ka) ≡ double 0x3f847ae147ae147b ∷ double 0x4085fe4e3d621233 ∷ double 0x40462204cbad6553 ∷ double 0xc04012e4184345f1 ∷ double 0xc0381c562464e8ea ∷ double 0x404c210f2a75ba66 ∷ double 0xc04012e4184345f1 ∷ [])
    × (s.breaker_states ≡ replicate 32 false)
unfolding double station cable breaker two switching_after before_switching switching_body switch_body operated_state own_capacitance joined_capacitance derivatives ahead blended rk4 raised new_state step_by tab blank over padded max_of is_nan lt le eq of_bits of_int round neg add sub mul div
switching-run-is = (refl, refl)

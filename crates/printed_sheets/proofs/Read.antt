-- What the lines of a printed sheet say. Assumes nothing.
use Rattle.std.proofs.Common.{Option, Some}
use Prim.Native.Nat.{ℕ, ◌≤◌}
use mathlib.Core.Path.{◌≡◌, refl, sym, ◌∙◌, ap}
use mathlib.Core.Bool.{Bool, true}
use mathlib.Core.List.{List, [], ◌∷◌, ◌++◌, map, append_assoc, append-nil}
use native.Mathlib.Omega.{arith}
use lib.ListN.{length, take, length-append, length-map}
use lib.Seq.{take_all}
use lib.Ieee.{Float}
use Rattle.lists.specs.Scans.{every}
use Rattle.lists.proofs.Scanning.{left, right}
use Rattle.grid.specs.Simulator.{stations_of, cables_of, breakers_of}
use Rattle.grid.specs.declared.parts.ConverterStation.{ConverterStation}
use Rattle.grid.specs.declared.parts.DcCable.{DcCable}
use Rattle.grid.specs.declared.parts.DcBreaker.{DcBreaker}
use Rattle.grid.specs.declared.parts.SweepOrder.{SweepOrder}
use Rattle.grid.specs.declared.simulator.DcSwitchingSimulator.{DcSwitchingSimulator}
use Rattle.part_checks.specs.PartChecks.{station_ok, cable_ok, breaker_ok, order_ok}
use Rattle.field_columns.specs.declared.fields.Decimal.{Decimal}
use Rattle.sheet_lines.specs.Lines.{letter_t, letter_o, line_of}
use Rattle.sheet_lines.specs.declared.line.SheetLine.{SheetLine}
use Rattle.sheet_lines.specs.declared.line.SheetLine.TheVariants.{Times, Order, Station, Cable, Breaker}
use Rattle.whole_sheets.specs.Sheets.{lines_of, most_lines, said}
use Rattle.printed_sheets.specs.Printing.{printed_line, times_fields, order_fields, station_text, cable_text, breaker_text, joined, printed_sheet}
use Rattle.printed_sheets.specs.Claims.{All, SpelledStation, SpelledCable, SpelledBreaker, SixPlaces}
use Rattle.printed_sheets.proofs.Parts.{Says, times_said, order-said, station_said_lem, cable_said, breaker_said_lem}

-- ---- the lines that a grid and an order are printed as

abbrev pub station_said : ConverterStation → Option SheetLine
station_said s = Some (Station s true)

abbrev pub as_cable : DcCable → Option SheetLine
as_cable c = Some (Cable c)

abbrev pub breaker_said : DcBreaker → Option SheetLine
breaker_said b = Some (Breaker b true)

-- the S, C and B lines
abbrev pub part_lines : List ConverterStation → List DcCable → List DcBreaker → List (Option SheetLine)
part_lines ss cs bs = map station_said ss ++ (map as_cable cs ++ (map breaker_said bs ++ []))

abbrev pub sheet_lines : DcSwitchingSimulator → SweepOrder → List (Option SheetLine)
sheet_lines g o = (Some (Times g.dt_us g.duration_ms)) ∷ (Some (Order o)) ∷ part_lines (stations_of g) (cables_of g) (breakers_of g)

-- ---- a text of lines

abbrev said_by : List ℕ → List (Option SheetLine)
said_by text = map line_of (lines_of text)

line-said : (text rest : List ℕ) (line : Option SheetLine) → Says text line → said_by (text ++ rest) ≡ line ∷ said_by rest
line-said text rest line h = ap (map line_of) (h.ends rest) ∙ ap (λ l. l ∷ said_by rest) h.says

lines_said : {A : Type 0} (text : A → List ℕ) (line : A → Option SheetLine) (xs : List A) (rest : List ℕ) → All (λ x. Says (text x) (line x)) xs → said_by (joined (map text xs) ++ rest) ≡ map line xs ++ said_by rest
lines_said text line [] rest h = refl
lines_said text line (x ∷ xs) rest h =
    ap said_by (append_assoc (text x) (joined (map text xs)) rest)
    ∙ line-said (text x) (joined (map text xs) ++ rest) (line x) h.0
    ∙ ap (λ ls. line x ∷ ls) (lines_said text line xs rest h.1)

-- what holds of each element that is accepted
all_of : {A : Type 0} (ok : A → Bool) (P Q : A → Type 0) → ((x : A) → P x → ok x ≡ true → Q x) → (xs : List A) → All P xs → every ok xs ≡ true → All Q xs
all_of ok P Q f [] p h = tt
all_of ok P Q f (x ∷ xs) p h = (f x p.0 (left (ok x) (every ok xs) h), all_of ok P Q f xs p.1 (right (ok x) (every ok xs) h))

-- ---- the sheet

module _ (spell : Float → Decimal) (g : DcSwitchingSimulator) (o : SweepOrder) (p : SixPlaces spell g o) (order_ok_lem : order_ok o ≡ true)
    (stations_ok : every station_ok (stations_of g) ≡ true) (cables_ok : every cable_ok (cables_of g) ≡ true) (breakers_ok : every breaker_ok (breakers_of g) ≡ true) where
  abbrev stations_text : List ℕ
  stations_text = joined (map (station_text spell) (stations_of g))

  abbrev cables_text : List ℕ
  cables_text = joined (map (cable_text spell) (cables_of g))

  abbrev breakers_text : List ℕ
  breakers_text = joined (map (breaker_text spell) (breakers_of g))

  stations_said : (rest : List ℕ) → said_by (stations_text ++ rest) ≡ map station_said (stations_of g) ++ said_by rest
  stations_said rest =
      lines_said (station_text spell) station_said (stations_of g) rest (all_of station_ok (SpelledStation spell) (λ s. Says (station_text spell s) (station_said s)) (station_said_lem spell) (stations_of g) p.stations stations_ok)

  cables_said : (rest : List ℕ) → said_by (cables_text ++ rest) ≡ map as_cable (cables_of g) ++ said_by rest
  cables_said rest =
      lines_said (cable_text spell) as_cable (cables_of g) rest (all_of cable_ok (SpelledCable spell) (λ c. Says (cable_text spell c) (Some (Cable c))) (cable_said spell) (cables_of g) p.cables cables_ok)

  breakers_said : said_by breakers_text ≡ map breaker_said (breakers_of g) ++ []
  breakers_said =
      ap said_by (sym (append-nil breakers_text))
      ∙ lines_said (breaker_text spell) breaker_said (breakers_of g) [] (all_of breaker_ok (SpelledBreaker spell) (λ b. Says (breaker_text spell b) (breaker_said b)) (breaker_said_lem spell) (breakers_of g) p.breakers breakers_ok)

  parts_said : said_by (stations_text ++ (cables_text ++ breakers_text)) ≡ part_lines (stations_of g) (cables_of g) (breakers_of g)
  parts_said =
      stations_said (cables_text ++ breakers_text)
      ∙ ap (λ ls. map station_said (stations_of g) ++ ls) (cables_said breakers_text ∙ ap (λ ls. map as_cable (cables_of g) ++ ls) breakers_said)

  sheet_said : said_by (printed_sheet spell g o) ≡ sheet_lines g o
  unfolding printed_sheet
  sheet_said =
      line-said (printed_line letter_t (times_fields spell g.dt_us g.duration_ms)) (printed_line letter_o (order_fields spell o) ++ (stations_text ++ (cables_text ++ breakers_text)))
      (Some (Times g.dt_us g.duration_ms)) (times_said spell g.dt_us g.duration_ms p.dt_us p.duration_ms)
      ∙ ap (λ ls. (Some (Times g.dt_us g.duration_ms)) ∷ ls)
      (line-said (printed_line letter_o (order_fields spell o)) (stations_text ++ (cables_text ++ breakers_text)) (Some (Order o)) (order-said spell o p.fault_resistance p.inception_time_ms order_ok_lem)
      ∙ ap (λ ls. (Some (Order o)) ∷ ls) parts_said)

  -- so few lines are all read
  all_read : (k : ℕ) → k ≡ most_lines → length (sheet_lines g o) ≤ 130 → take k (sheet_lines g o) ≡ sheet_lines g o
  all_read k e h = take_all k (sheet_lines g o) (omega arith)

  pub read_as : length (sheet_lines g o) ≤ 130 → said (printed_sheet spell g o) ≡ sheet_lines g o
  unfolding said
  read_as h = ap (take most_lines) sheet_said ∙ all_read most_lines refl h

-- as many lines as there are parts, and two
pub lines_few : (g : DcSwitchingSimulator) (o : SweepOrder) → length (stations_of g) ≤ 32 → length (cables_of g) ≤ 64 → length (breakers_of g) ≤ 32 → length (sheet_lines g o) ≤ 130
lines_few g o a b c = go (stations_of g) (cables_of g) (breakers_of g) a b c
  where
    go : (ss : List ConverterStation) (cs : List DcCable) (bs : List DcBreaker) → length ss ≤ 32 → length cs ≤ 64 → length bs ≤ 32
        → length (Some (Times g.dt_us g.duration_ms) ∷ (Some (Order o)) ∷ part_lines ss cs bs) ≤ 130
    go ss cs bs a b c = rw (length-append, length-append, length-append, length-map ss station_said, length-map cs as_cable, length-map bs breaker_said) (omega arith)

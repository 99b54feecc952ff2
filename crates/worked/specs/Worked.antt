-- The worked numbers of the rules (RULES, "Worked numbers"), in one table under one statement, closed by computation. A row is a list of numbers: a place,
-- a count, bytes, or the bit patterns of doubles.
-- Assumes nothing.
use Rattle.std.specs.Prelude.{ℕ, suc, zero, ◌≡◌, refl, cond, List, [], ◌∷◌, ◌++◌, map, pos, negsuc, Float, replicate, Result, Ok, Err}
use Rattle.std.specs.Float.{binary64}
use Rattle.std.specs.Float.Ieee.{of_int, to_bits, of_bits, to_unsigned, add, sub, mul, div, eq}
use Rattle.bits.specs.F64.{at}
use Rattle.bits.specs.Bytes.{le32, le64}
use Rattle.bits.specs.Record.{record_of, beside, reach_of, is_stretched}
use Rattle.refusal.specs.Numbers.{number_of}
use Rattle.frame.specs.declared.State.{State}
use Rattle.frame.specs.State.{six}
use Rattle.frame.specs.Frame.{turned_state}
use Rattle.daf.specs.FileRecord.{id_word, format_word, agree}
use Rattle.daf.specs.Walk.{next_of, count_of, walk_from, walk}
use Rattle.daf.specs.Summaries.{any_over25, total}
use Rattle.daf.specs.Opening.{opening}
use Rattle.daf.specs.Names.{kept, ascii, name_of}
use Rattle.daf.specs.declared.Family.TheVariants.{Spk}
use Rattle.std.specs.Prelude.{Option, Some, None}
use Rattle.cheby.specs.Cheby.{T, T', series_at, slope_at, value_of, rate_of, record2, record_for, reach_for}
use Rattle.interp.specs.Window.{window_size, window_start}
use Rattle.interp.specs.Lagrange.{node_from, node_of, factors, weight_of, lagrange_of}
use Rattle.hermite.specs.declared.Point.{Point}
use Rattle.hermite.specs.Hermite.{difference, product, product', value_to, slope_to, table_of, hermite_of}
use Rattle.refusal.specs.declared.Refusal.{Refusal}
use Rattle.daf.specs.declared.Daf.{Daf}

-- The double of a whole number, and the pattern of a double.
abbrev pub n : ℕ → Float
n k = of_int binary64 (pos k)

abbrev pub less : ℕ → Float
less k = of_int binary64 (negsuc k)

abbrev pub half : Float
half = of_bits binary64 0x3fe0_0000_0000_0000

abbrev pub bits : Float → ℕ
bits x = to_bits binary64 x

-- A list of doubles by place.
abbrev pub list : List Float → ℕ → Float
list xs = at xs

-- A record of one series with coefficients 1, 2, 3 in each channel, MID 0 and RADIUS 2: at et 1, s is 0.5.
abbrev pub record123 : ℕ → Float
record123 = list (n 0 ∷ n 2 ∷ n 1 ∷ n 2 ∷ n 3 ∷ n 1 ∷ n 2 ∷ n 3 ∷ n 1 ∷ n 2 ∷ n 3 ∷ [])

-- x and vx of what a type 2 record gives.
abbrev pub first : Option State → List ℕ
first (Some s) = bits s.x ∷ bits s.vx ∷ []
first None = []

-- A kernel of three records: its summary record, record 2, has the count whose double ends in these two bytes.
abbrev pub counts : ℕ → ℕ → List ℕ
counts a b =
    id_word ++ replicate 4 32 ++ (2 ∷ 0 ∷ 0 ∷ 0 ∷ 6 ∷ 0 ∷ 0 ∷ 0 ∷ []) ++ replicate 60 32 ++ (2 ∷ 0 ∷ 0 ∷ 0 ∷ []) ++ replicate 8 0 ++ format_word
    ++ replicate 928 0 ++ replicate 22 0 ++ (a ∷ b ∷ []) ++ replicate 2024 0

-- The summaries of an opening, or its refusal's number.
abbrev pub outcome : Result Daf Refusal → List ℕ
outcome (Ok d) = d.summaries ∷ []
outcome (Err r) = number_of r ∷ []

abbrev pub point : Point → List ℕ
point p = bits p.value ∷ bits p.slope ∷ []

-- A state of whole numbers.
abbrev pub whole : Float → Float → Float → Float → Float → Float → State
whole a b c d e f = record { x = a; y = b; z = c; vx = d; vy = e; vz = f }

-- What the definitions give ..
abbrev pub given : List (List ℕ)
given =
    -- coefficients 1, 2, 3 at s = 0.5: the value and the derivative
    (bits (series_at (list (n 1 ∷ n 2 ∷ n 3 ∷ [])) 3 half) ∷ bits (slope_at (list (n 1 ∷ n 2 ∷ n 3 ∷ [])) 3 half) ∷ [])
    -- the same with RADIUS 2
    ∷ first (record2 record123 3 (n 1))
    -- INIT 0, INTLEN 10, N 3: the records of et -5, 9, 10, 30
    ∷ map (λ (et : Float). record_for (n 0) (n 10) et 3) (less 4 ∷ n 9 ∷ n 10 ∷ n 30 ∷ [])
    -- whether they are stretched there, 1 for yes
    ∷ map (λ (et : Float). cond (is_stretched (reach_for (n 0) (n 10) et 3)) 1 0) (less 4 ∷ n 9 ∷ n 10 ∷ n 30 ∷ [])
    -- N 10, d 3: the windows of l 5, 0, 9
    ∷ map (λ (l : ℕ). window_start l (window_size 3 10) 10) (5 ∷ 0 ∷ 9 ∷ [])
    -- d 4, l 5
    ∷ (window_start 5 (window_size 4 10) 10 ∷ [])
    -- epochs 0, 2, values 10, 20, at 1
    ∷ (bits (lagrange_of (list (n 0 ∷ n 2 ∷ [])) (list (n 10 ∷ n 20 ∷ [])) 2 (n 1)) ∷ [])
    -- Hermite, epochs 0, 2, values 0, 8, slopes 0, 12, at 1
    ∷ point (hermite_of (list (n 0 ∷ n 2 ∷ [])) (list (n 0 ∷ n 8 ∷ [])) (list (n 0 ∷ n 12 ∷ [])) 2 (n 1))
    -- rows (0,1,0), (-1,0,0), (0,0,1) on (1,2,3,4,5,6)
    ∷ map bits (six (turned_state ((n 0 ∷ n 1 ∷ n 0 ∷ []) ∷ (less 0 ∷ n 0 ∷ n 0 ∷ []) ∷ (n 0 ∷ n 0 ∷ n 1 ∷ []) ∷ []) (whole (n 1) (n 2) (n 3) (n 4) (n 5) (n 6))))
    -- the name `AB`, space, NUL, space, NUL, then NULs
    ∷ name_of (65 ∷ 66 ∷ 32 ∷ 0 ∷ 32 ∷ 0 ∷ replicate 34 0) 0
    -- 25 summaries, 26 summaries
    ∷ outcome (opening Spk 256 (counts 0x39 0x40))
    ∷ outcome (opening Spk 256 (counts 0x3a 0x40))
    ∷ []

-- .. and what the rules say.
abbrev pub said : List (List ℕ)
said =
    (bits half ∷ bits (n 8) ∷ [])
    ∷ (bits half ∷ bits (n 4) ∷ [])
    ∷ (0 ∷ 0 ∷ 1 ∷ 2 ∷ [])
    ∷ (1 ∷ 0 ∷ 0 ∷ 1 ∷ [])
    ∷ (4 ∷ 0 ∷ 6 ∷ [])
    ∷ (3 ∷ [])
    ∷ (bits (n 15) ∷ [])
    ∷ (bits (n 1) ∷ bits (n 3) ∷ [])
    ∷ map bits (n 2 ∷ less 0 ∷ n 3 ∷ n 5 ∷ less 3 ∷ n 6 ∷ [])
    ∷ (65 ∷ 66 ∷ 32 ∷ 0 ∷ [])
    ∷ (25 ∷ [])
    ∷ (7 ∷ [])
    ∷ []

pub worked : given ≡ said
unfolding of_int to_bits of_bits to_unsigned add sub mul div le32 le64 record_of reach_of beside agree next_of count_of walk_from walk any_over25 total opening kept ascii name_of T T' series_at slope_at value_of rate_of record2 record_for reach_for window_size window_start node_from node_of factors weight_of lagrange_of difference product product' value_to slope_to table_of hermite_of eq
worked = refl

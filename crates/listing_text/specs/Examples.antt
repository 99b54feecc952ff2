-- Worked examples, closed by computation.
use Rattle.std.specs.Prelude.{◌≡◌, refl, true, List, [], ◌∷◌, ◌++◌, ℕ, pos, negsuc}
use Rattle.std.specs.Float.Ieee.{to_bits, of_bits}
use Rattle.bits.specs.F64.{+0}
use Rattle.segment.specs.declared.Segment.{Segment}
use Rattle.segment.specs.declared.Kind.TheVariants.{Unsupported}
use Rattle.table.specs.Segments.{empty_segment}
use Rattle.lines.specs.Text.{decimal_in, decimal_text, signed_text, field_text, number_text, yes_text, refusal_text}
use Rattle.listing_text.specs.Lines.{mark_text, head_text, span_text, segment_text}
use Rattle.listing_text.specs.Text.{segments_from, listing_text}

-- Body -1 around body 10.
abbrev pub probe : Segment
probe =
    record {
      target = negsuc 0;
      center = pos 10;
      frame = pos 1;
      data_type = pos 2;
      start = pos 7;
      end = pos 8;
      first = +0;
      last = +0;
      name_at = 0;
      marked = true;
      kind = Unsupported;
    }

-- A space and sixteen zeros.
abbrev pub zeros : List ℕ
zeros = 32 ∷ 48 ∷ 48 ∷ 48 ∷ 48 ∷ 48 ∷ 48 ∷ 48 ∷ 48 ∷ 48 ∷ 48 ∷ 48 ∷ 48 ∷ 48 ∷ 48 ∷ 48 ∷ 48 ∷ []

-- `0 -1 10 1 2`, both epochs, `7 8 yes`; `1 0 0 0 0`, both epochs, `0 0 no`; each with a newline.
pub lines : segments_from (probe ∷ empty_segment ∷ []) 0 2
    ≡ (48 ∷ 32 ∷ 45 ∷ 49 ∷ 32 ∷ 49 ∷ 48 ∷ 32 ∷ 49 ∷ 32 ∷ 50 ∷ [])
    ++ (zeros ++ (zeros ++ (32 ∷ 55 ∷ 32 ∷ 56 ∷ 32 ∷ 121 ∷ 101 ∷ 115 ∷ 10
    ∷ 49 ∷ 32 ∷ 48 ∷ 32 ∷ 48 ∷ 32 ∷ 48 ∷ 32 ∷ 48 ∷ (zeros ++ (zeros ++ (32 ∷ 48 ∷ 32 ∷ 48 ∷ 32 ∷ 110 ∷ 111 ∷ 10 ∷ []))))))
unfolding segments_from segment_text head_text span_text mark_text decimal_in decimal_text signed_text field_text number_text yes_text to_bits of_bits
lines = refl

-- The empty kernel: `refused 1 0`.
pub nothing : listing_text [] ≡ 114 ∷ 101 ∷ 102 ∷ 117 ∷ 115 ∷ 101 ∷ 100 ∷ 32 ∷ 49 ∷ 32 ∷ 48 ∷ 10 ∷ []
unfolding listing_text refusal_text decimal_in decimal_text signed_text
nothing = refl

-- What the contracts say of one segment. Assumes nothing: these are definitions.
use Rattle.std.specs.Prelude.{ℕ, List, Bool, false, ◌&&◌, pos, Float, get_or}
use Rattle.std.specs.Float.{nan}
use Rattle.std.specs.Float.Ieee.{le}
use Rattle.bits.specs.F64.{+0}
use Rattle.bits.specs.Same.{same_z}
use Rattle.segment.specs.declared.Segment.{Segment}
use Rattle.segment.specs.declared.Kind.TheVariants.{Unsupported}

-- A segment covers an epoch: first ≤ et ≤ last.
abbrev pub is_covering : Segment → Float → Bool
is_covering s et = le s.first et && le et s.last

-- The times of two segments touch.
abbrev pub meets : Segment → Segment → Bool
meets a b = le a.first b.last && le b.first a.last

-- Two segments have the same target and center.
abbrev pub same_pair : Segment → Segment → Bool
same_pair a b = same_z a.target b.target && same_z a.center b.center

-- Two segments of the same target and center whose times touch.
abbrev pub overlaps : Segment → Segment → Bool
overlaps a b = same_pair a b && meets a b

-- A segment with its mark set.
abbrev pub with_mark : Segment → Bool → Segment
with_mark s m =
    record {
      target = s.target;
      center = s.center;
      frame = s.frame;
      data_type = s.data_type;
      start = s.start;
      end = s.end;
      first = s.first;
      last = s.last;
      name_at = s.name_at;
      marked = m;
      kind = s.kind;
    }

-- The empty segment, but for its two epochs.
abbrev pub blank : Float → Segment
blank x =
    record {
      target = pos 0;
      center = pos 0;
      frame = pos 0;
      data_type = pos 0;
      start = pos 0;
      end = pos 0;
      first = x;
      last = x;
      name_at = 0;
      marked = false;
      kind = Unsupported;
    }

-- The empty segment: all zeros, unsupported, unmarked.
abbrev pub empty_segment : Segment
empty_segment = blank +0

-- The segment of a number. Past the end it is what a read of the array is taken to give there: zeros, and `nan` for a float.
-- No read goes there. With any other default the reads of the code would not compute to this.
abbrev pub seg : List Segment → ℕ → Segment
seg segs i = get_or segs i (blank nan)

-- The number and detail of each refusal: RULES, "Refusals".
use Rattle.std.specs.Prelude.{ℕ, ℤ, pos}
use Rattle.refusal.specs.declared.Refusal.{Refusal}
use Rattle.refusal.specs.declared.Refusal.TheVariants.{KernelLength, NotDaf, NotLittleEndian, OtherSummaries, RecordPastEnd, RecordTwice, CountOver25, TooManySummaries, Malformed, EpochNan, NoCoverage, Unsupported, ZeroRadius, TableUnfit, NotFinite, EmptyWindow, NoSegment, InputTooLong, BadRecord, TooManySuppliers, OtherFrame}

abbrev pub number_of : Refusal → ℕ
number_of KernelLength = 1
number_of NotDaf = 2
number_of NotLittleEndian = 3
number_of OtherSummaries = 4
number_of RecordPastEnd = 5
number_of RecordTwice = 6
number_of CountOver25 = 7
number_of TooManySummaries = 8
number_of (Malformed segment) = 9
number_of EpochNan = 10
number_of (NoCoverage body) = 11
number_of (Unsupported type) = 12
number_of (ZeroRadius segment) = 13
number_of TableUnfit = 14
number_of NotFinite = 15
number_of (EmptyWindow segment) = 16
number_of NoSegment = 17
number_of InputTooLong = 18
number_of BadRecord = 19
number_of TooManySuppliers = 20
number_of OtherFrame = 21

abbrev pub detail_of : Refusal → ℤ
detail_of KernelLength = pos 0
detail_of NotDaf = pos 0
detail_of NotLittleEndian = pos 0
detail_of OtherSummaries = pos 0
detail_of RecordPastEnd = pos 0
detail_of RecordTwice = pos 0
detail_of CountOver25 = pos 0
detail_of TooManySummaries = pos 0
detail_of (Malformed segment) = pos segment
detail_of EpochNan = pos 0
detail_of (NoCoverage body) = body
detail_of (Unsupported type) = type
detail_of (ZeroRadius segment) = pos segment
detail_of TableUnfit = pos 0
detail_of NotFinite = pos 0
detail_of (EmptyWindow segment) = pos segment
detail_of NoSegment = pos 0
detail_of InputTooLong = pos 0
detail_of BadRecord = pos 0
detail_of TooManySuppliers = pos 0
detail_of OtherFrame = pos 0

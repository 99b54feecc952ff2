-- What is proved of the programs' output, as a ledger keeper reads it: line by line. The contracts say what the programs print: `ask_output` is every byte of
-- `ask`, `orient_output` of `orient`, `listing_output` of `listing`. A text is divided into lines at its newlines, and line i is counted from 0 (`Lined`).
use Rattle.std.specs.Prelude.{ℕ, zero, suc, ◌+◌, ◌*◌, ◌<◌, ◌≤◌, ◌≡◌, Bool, true, false, ◌⊎◌, List, [], map, ℤ, length, get_or, Some, None as no_frame}
use Rattle.refusal.specs.declared.Refusal.TheVariants.{InputTooLong}
use Rattle.refusal.specs.Order.{Case, First, None, given}
use Rattle.daf.specs.declared.Family.TheVariants.{Spk}
use Rattle.segment.specs.Evaluating.{evaluated}
use Rattle.table.specs.Places.{lent_limit}
use Rattle.table.specs.Segments.{seg}
use Rattle.opening.specs.Opening.{open_cases}
use Rattle.spk.specs.declared.Answer.{Answer}
use Rattle.std.specs.Prelude.{None as nothing}
use Rattle.spk.specs.Runs.{Asking, fresh}
use Rattle.spk.specs.Touched.{TouchedReplied}
use Rattle.pck.specs.declared.Oriented.{Oriented}
use Rattle.lines.specs.Text.{refusal_text}
use Rattle.lines.specs.Lines.{line_at, Lined}
use Rattle.streams.specs.Input.{input_limit}
use Rattle.admission.specs.Order.{matrix_size}
use Rattle.admission.specs.When.{AllShort}
use Rattle.ask_text.specs.Records as ask-records
use Rattle.ask_text.specs.Lines.{answer_text}
use Rattle.ask_text.specs.FrameText.{frame_named, frame_number}
use Rattle.ask_text.specs.Text as ask
use Rattle.orient_text.specs.Records as orient-records
use Rattle.orient_text.specs.Lines.{oriented_text}
use Rattle.orient_text.specs.Text as orient
use Rattle.listing_text.specs.Lines.{segment_text, count_text}
use Rattle.listing_text.specs.Text as listing
use Rattle.demands.specs.Demands.{SameDoubles}

-- A text is one line, that of the first of these refusals that holds.
abbrev pub RefusalAlone : List Case → List ℕ → Type 0
RefusalAlone cases text = (c : ℕ) × First cases c × Lined text 1 (λ i. refusal_text (given cases c))

-- Record i of one file and record j of another have the same bytes.
abbrev pub SameRecord : ℕ → List ℕ → ℕ → List ℕ → ℕ → Type 0
SameRecord size file i file' j = (b : ℕ) → b < size → get_or file (size * i + b) 0 ≡ get_or file' (size * j + b) 0

-- ---- `ask`

-- The kernel opens and the file is one of questions: no refusal of the whole run holds.
abbrev pub AskAccepted : List ℕ → List ℕ → Type 0
AskAccepted kernel file = None (ask.run_cases kernel file)

-- The answer of the definition with no memory, from the table that the opening leaves.
abbrev pub alone : List ℕ → Asking → Answer
alone kernel a = fresh lent_limit (evaluated Spk kernel) (ask.table_in kernel) (ask.count_in kernel) a

-- .. to question i of a file, with its matrix file, which is empty where there is none, and the number of the frame that is then asked for.
abbrev pub alone_at : List ℕ → List ℕ → List ℕ → ℤ → ℕ → Answer
alone_at kernel file matrix frame i = alone kernel (ask.asking_at file matrix frame i)

-- **Demand 3 of the bytes.** An accepted run's text is the lines of the answers with no memory ..
abbrev pub AskText : Type 0
AskText =
    (kernel file matrix : List ℕ) (frame : ℤ) → AskAccepted kernel file → ask.ask_text kernel file matrix frame ≡ ask.answers_text 0 (map (alone kernel) (ask.askings file matrix frame))

-- .. so it has as many lines as there are questions, and line i is that of the answer with no memory to question i.
abbrev pub AskLines : Type 0
AskLines =
    (kernel file matrix : List ℕ) (frame : ℤ) → AskAccepted kernel file
    → Lined (ask.ask_text kernel file matrix frame) (ask.questions_in file) (λ i. answer_text i (alone_at kernel file matrix frame i))

-- Any other run has one line, that of its refusal.
abbrev pub AskRefused : Type 0
AskRefused = (kernel file matrix : List ℕ) (frame : ℤ) → (AskAccepted kernel file → ⊥) → RefusalAlone (ask.run_cases kernel file) (ask.ask_text kernel file matrix frame)

-- **Interleaving of the bytes.** A question has the same answer wherever it stands, in whatever file: the lines differ in its number alone ..
abbrev pub AskInterleaving : Type 0
AskInterleaving =
    (kernel file file' matrix : List ℕ) (frame : ℤ) → AskAccepted kernel file → AskAccepted kernel file' → (i j : ℕ) → i < ask.questions_in file → j < ask.questions_in file'
    → SameRecord ask-records.question_size file i file' j
    → (a : Answer) × (line_at (ask.ask_text kernel file matrix frame) i ≡ answer_text i a) × (line_at (ask.ask_text kernel file' matrix frame) j ≡ answer_text j a)

-- .. so whatever else is asked, before it or after it, its line stays.
abbrev pub AskLineStays : Type 0
AskLineStays =
    (kernel file file' matrix : List ℕ) (frame : ℤ) → AskAccepted kernel file → AskAccepted kernel file' → (i : ℕ) → i < ask.questions_in file → i < ask.questions_in file'
    → SameRecord ask-records.question_size file i file' i → line_at (ask.ask_text kernel file matrix frame) i ≡ line_at (ask.ask_text kernel file' matrix frame) i

-- **Own bytes of a line.** Two kernels have the same table; a line is the same over both where they have the same doubles of the segments that its
-- question evaluates: no other supplier's numbers flow into it.
abbrev pub AskOwnBytes : Type 0
AskOwnBytes =
    (kernel kernel' file matrix : List ℕ) (frame : ℤ) → AskAccepted kernel file → AskAccepted kernel' file
    → ask.table_in kernel ≡ ask.table_in kernel' → ask.count_in kernel ≡ ask.count_in kernel' → (i : ℕ) → i < ask.questions_in file
    → TouchedReplied lent_limit (evaluated Spk kernel) (ask.table_in kernel) (ask.count_in kernel) nothing (ask.asking_at file matrix frame i)
    (λ s. SameDoubles kernel kernel' (seg (ask.table_in kernel) s))
    → line_at (ask.ask_text kernel file matrix frame) i ≡ line_at (ask.ask_text kernel' file matrix frame) i

-- **What the program prints**, `frame` being the text of FRAME. Where a file is too long, the line of 18 alone; else nothing, where a matrix file is given
-- (`turned`) that has not 72 bytes, or FRAME is no number; else that text, with a matrix file in the frame that FRAME names.
abbrev pub AskOutput : Type 0
AskOutput = (kernel file : List ℕ) (turned : Bool) (matrix frame : List ℕ)
    → ((input_limit < length kernel) ⊎ ((input_limit < length file) ⊎ (input_limit < length matrix)) → ask.ask_output kernel file turned matrix frame ≡ refusal_text InputTooLong)
    × (AllShort kernel file matrix → turned ≡ true → (length matrix ≡ matrix_size → ⊥) ⊎ (frame_named frame ≡ no_frame) → ask.ask_output kernel file turned matrix frame ≡ [])
    × (AllShort kernel file matrix → turned ≡ false → ask.ask_output kernel file turned matrix frame ≡ ask.ask_text kernel file matrix (frame_number (frame_named frame)))
    × (AllShort kernel file matrix → length matrix ≡ matrix_size → (f : ℤ) → frame_named frame ≡ Some f → ask.ask_output kernel file turned matrix frame ≡ ask.ask_text kernel file matrix f)

-- ---- `orient`, which remembers nothing

-- The kernel opens and the file is one of questions.
abbrev pub OrientAccepted : List ℕ → List ℕ → Type 0
OrientAccepted kernel file = None (orient.run_cases kernel file)

-- An accepted run has as many lines as there are questions, and line i is that of the orientation which answers question i.
abbrev pub OrientLines : Type 0
OrientLines =
    (kernel file : List ℕ) → OrientAccepted kernel file
    → Lined (orient.orient_text kernel file) (orient.questions_in file) (λ i. oriented_text i (orient.oriented_at kernel file i))

-- Any other run has one line, that of its refusal.
abbrev pub OrientRefused : Type 0
OrientRefused = (kernel file : List ℕ) → (OrientAccepted kernel file → ⊥) → RefusalAlone (orient.run_cases kernel file) (orient.orient_text kernel file)

-- A question has the same answer wherever it stands, in whatever file ..
abbrev pub OrientInterleaving : Type 0
OrientInterleaving =
    (kernel file file' : List ℕ) → OrientAccepted kernel file → OrientAccepted kernel file' → (i j : ℕ) → i < orient.questions_in file → j < orient.questions_in file'
    → SameRecord orient-records.question_size file i file' j
    → (a : Oriented) × (line_at (orient.orient_text kernel file) i ≡ oriented_text i a) × (line_at (orient.orient_text kernel file') j ≡ oriented_text j a)

-- .. so whatever else is asked, its line stays.
abbrev pub OrientLineStays : Type 0
OrientLineStays =
    (kernel file file' : List ℕ) → OrientAccepted kernel file → OrientAccepted kernel file' → (i : ℕ) → i < orient.questions_in file → i < orient.questions_in file'
    → SameRecord orient-records.question_size file i file' i → line_at (orient.orient_text kernel file) i ≡ line_at (orient.orient_text kernel file') i

-- 18, else that text.
abbrev pub OrientOutput : Type 0
OrientOutput = (kernel file : List ℕ)
    → ((input_limit < length kernel) ⊎ (input_limit < length file) → orient.orient_output kernel file ≡ refusal_text InputTooLong)
    × (length kernel ≤ input_limit → length file ≤ input_limit → orient.orient_output kernel file ≡ orient.orient_text kernel file)

-- ---- `listing`

-- The kernel opens.
abbrev pub ListingAccepted : List ℕ → Type 0
ListingAccepted kernel = None (open_cases Spk lent_limit kernel)

-- The first line says how many segments there are; line i + 1 is that of segment i, as the opening leaves it in the table.
abbrev pub listing_line : List ℕ → ℕ → List ℕ
listing_line kernel zero = count_text (listing.count_in kernel)
listing_line kernel (suc i) = segment_text i (seg (listing.table_in kernel) i)

-- These are the lines of an accepted kernel's listing, one more than it has segments.
abbrev pub ListingLines : Type 0
ListingLines = (kernel : List ℕ) → ListingAccepted kernel → Lined (listing.listing_text kernel) (suc (listing.count_in kernel)) (listing_line kernel)

-- Any other kernel's has one line, that of its refusal.
abbrev pub ListingRefused : Type 0
ListingRefused = (kernel : List ℕ) → (ListingAccepted kernel → ⊥) → RefusalAlone (open_cases Spk lent_limit kernel) (listing.listing_text kernel)

-- 18, else that text.
abbrev pub ListingOutput : Type 0
ListingOutput = (kernel : List ℕ)
    → (input_limit < length kernel → listing.listing_output kernel ≡ refusal_text InputTooLong)
    × (length kernel ≤ input_limit → listing.listing_output kernel ≡ listing.listing_text kernel)

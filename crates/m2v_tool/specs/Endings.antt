-- How the program ends: a status and a line on report, and what is put on report of it.
use Rattle.std.specs.Prelude.{ℕ, ◌≡◌, ◌⊎◌, ◌==◌, List, [], ◌∷◌, ◌++◌, codes, decimal, map, if◌then◌else◌}
use Rattle.m2v_port.specs.Ends.{Change}
use Rattle.m2v_port.specs.Port.{Grows, GrowsByPrefix}
use Rattle.m2v_port.specs.declared.error.PortError.{PortError}
use Rattle.m2v_port.specs.declared.error.PortError.TheVariants as calls
use Rattle.m2v_y4m.specs.declared.answer.Y4mFault.{Y4mFault}
use Rattle.m2v_y4m.specs.declared.answer.Y4mKind.{Y4mKind}
use Rattle.m2v_y4m.specs.declared.answer.Y4mKind.TheVariants as kinds
use Rattle.m2v_set.specs.declared.unfit.Unfit.{Unfit}
use Rattle.m2v_model.specs.Pieces.{Limit, too_long, too_large}
use Rattle.m2v_dec_piece.specs.declared.answer.Fault.{Fault}
use Rattle.m2v_cut.specs.m2v_decode.FaultWords.{fault_word}
use Rattle.m2v_tool.specs.declared.report.Report.{Report}

-- a status, and the texts and the numbers of its line, one text before each number
pub record Ending : Type 0 where
  pub status : ℕ
  pub texts : List (List ℕ)
  pub numbers : List ℕ

-- texts and numbers in turn, and a newline
unfoldable pub line_text : List (List ℕ) → List ℕ → List ℕ
line_text [] numbers = codes "\n"
line_text (t ∷ texts) [] = t ++ line_text texts []
line_text (t ∷ texts) (n ∷ numbers) = t ++ (decimal n ++ line_text texts numbers)

-- its line, with the numbers in decimal without leading zeros
unfoldable pub line_of : Ending → List ℕ
line_of e = line_text e.texts e.numbers

-- the status where the report fails: that is a write fault after success, and changes no other status
abbrev pub status_unreported : Ending → ℕ
status_unreported e = if e.status == 0 then 8 else e.status

-- the code's report has the status and the line of an ending
pub record IsReport (r : Report) (e : Ending) : Type 0 where
  pub status : r.status ≡ e.status
  pub line : r.line.items ≡ line_of e

-- What is put on report of an ending, and the status. Where the report fails or memory runs out there, a prefix of the
-- line is put.
pub data Told (e : Ending) (status : ℕ) (report : Change) : Type 0 where
  whole : status ≡ e.status → Grows report.old (line_of e) report.new → Told e status report
  cut : (status ≡ 12) ⊎ (report.Failed × (status ≡ status_unreported e))
      → GrowsByPrefix report.old (line_of e) report.new → Told e status report

-- What stands where the status is 0: an outcome that was done, with its whole line on report.
pub record Success {O : Type 0} (Is : O → Type 0) (ending : O → Ending) (report : Change) : Type 0 where
  pub outcome : O
  pub is : Is outcome
  pub line : Grows report.old (line_of (ending outcome)) report.new

-- ---- the endings of several commands

-- an ending without numbers
abbrev pub plain : ℕ → List ℕ → Ending
plain status text = record { status = status; texts = text ∷ []; numbers = [] }

-- one of texts, each with a number behind it
abbrev pub with_figures : ℕ → List (List ℕ × ℕ) → Ending
with_figures status figures = record {
  status = status;
  texts = map (λ f. f.0) figures;
  numbers = map (λ f. f.1) figures;
}

-- one with a number behind its text
abbrev pub numbered : ℕ → List ℕ → ℕ → Ending
numbered status text number = record { status = status; texts = text ∷ []; numbers = number ∷ [] }

abbrev pub usage : Ending
usage = plain 2 (codes "usage")

abbrev pub read_fault : Ending
read_fault = plain 7 (codes "read fault")

abbrev pub write_fault : Ending
write_fault = plain 8 (codes "write fault")

abbrev pub no_memory : Ending
no_memory = plain 12 (codes "no memory")

-- a place that wasn't opened
unfoldable pub unopened_ending : PortError → Ending
unopened_ending calls.Failed = write_fault
unopened_ending calls.Memory = no_memory

-- settings that don't pass: the first condition that fails
unfoldable pub unfit_ending : Unfit → Ending
unfit_ending u = with_figures 3
    ((codes "unfit rule ", u.rule) ∷ (codes " have ", u.have) ∷ (codes " need ", u.need) ∷ [])

-- raw frames that end inside one, of which there are so many bytes; that are none; and of which there are too many
abbrev pub short_frame : ℕ → Ending
short_frame extra = numbered 4 (codes "short frame extra ") extra

abbrev pub no_frames : Ending
no_frames = plain 5 (codes "no frames")

abbrev pub too_many_frames : Ending
too_many_frames = plain 6 (codes "too many frames")

-- of a stream that was coded, with these numbers
abbrev pub coded_ending : ℕ → ℕ → ℕ → ℕ → Ending
coded_ending frames pictures bytes stuffing = with_figures 0
    ((codes "frames ", frames) ∷ (codes " pictures ", pictures) ∷ (codes " bytes ", bytes)
    ∷ (codes " stuffing ", stuffing) ∷ [])

-- of a stream that passes this limit
unfoldable pub ending_past : Limit → Ending
ending_past too_long = plain 13 (codes "too long")
ending_past too_large = plain 14 (codes "picture too large")

-- of a stream with this first fault
unfoldable pub stream_fault : Fault → Ending
stream_fault f = numbered 9 ((codes "stream " ++ fault_word f.kind) ++ codes " at bit ") f.place

-- the name of a kind of fault of a YUV4MPEG2 text
unfoldable pub kind_name : Y4mKind → List ℕ
kind_name kinds.Magic = codes "Magic"
kind_name kinds.Line = codes "Line"
kind_name kinds.Field = codes "Field"
kind_name kinds.Size = codes "Size"
kind_name kinds.Rate = codes "Rate"
kind_name kinds.Interlace = codes "Interlace"
kind_name kinds.Chroma = codes "Chroma"
kind_name kinds.Frame = codes "Frame"

-- of a YUV4MPEG2 text with this first fault
unfoldable pub y4m_fault : Y4mFault → Ending
y4m_fault f = numbered 15 ((codes "y4m fault " ++ kind_name f.kind) ++ codes " at byte ") f.place

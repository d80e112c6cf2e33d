-- The list of what was left out: a line for each gap.
use Rattle.std.specs.Prelude.{ℕ, List, ◌++◌, Option, Some, None, codes, decimal}
use Rattle.std.specs.List.{flat_map}
use Rattle.m2v_decode.specs.FaultWords.{fault_word}
use Rattle.m2v_law_seam.specs.Spans.{steps}
use Rattle.m2v_law_seam.specs.Faults.{Fault}
use Rattle.m2v_law_seam.specs.Mending.{Gap, gaps_in}

-- a text, and a number in decimal digits without leading zeros
abbrev pub numbered : List ℕ → ℕ → List ℕ
numbered text n = text ++ decimal n

-- why bytes were left out: a fault and its place; none where they are leading B pictures
unfoldable pub why_told : Option Fault → List ℕ
why_told None = codes " leading"
why_told (Some f) = (codes " stream " ++ fault_word f.0) ++ numbered (codes " at bit ") f.1

-- the line of a gap, with its newline
abbrev pub gap_line : Gap → List ℕ
gap_line g =
    numbered (codes "frame ") g.frames ++ numbered (codes " from ") g.from ++ numbered (codes " bytes ") g.bytes
    ++ numbered (codes " pictures ") g.pictures ++ why_told g.fault ++ codes "\n"

-- the lines of gaps
abbrev pub lines_of : List Gap → List ℕ
lines_of gaps = flat_map gap_line gaps

-- the list of a text
abbrev pub list_of : List ℕ → List ℕ
list_of text = lines_of (gaps_in steps text)

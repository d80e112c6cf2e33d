-- The one form in which a YUV4MPEG2 text is written.
use Rattle.std.specs.Prelude.{ℕ, ◌-◌, Bool, List, ◌++◌, codes, decimal, slice_index, if◌then◌else◌}
use Rattle.std.specs.List.{flat_map}
use Rattle.m2v_y4m.specs.declared.header.Y4mHeader.{Y4mHeader}
use Rattle.m2v_y4m.specs.Header.{rate_frames, rate_seconds}

-- the letter of the interlacing
abbrev pub scan_text : Bool → List ℕ
scan_text top = if top then codes " It" else codes " Ip"

-- the header line, with the rate in lowest terms
unfoldable pub header_text : Y4mHeader → List ℕ
header_text h =
    codes "YUV4MPEG2 W" ++ (decimal h.width ++ (codes " H" ++ (decimal h.height
    ++ (codes " F" ++ (decimal (slice_index rate_frames (h.rate_code - 1)) ++ (codes ":" ++ (decimal (slice_index rate_seconds (h.rate_code - 1))
    ++ (scan_text h.top ++ codes " A0:0 C420mpeg2\n"))))))))

-- a frame behind its line
abbrev pub frame_text : List ℕ → List ℕ
frame_text frame = codes "FRAME\n" ++ frame

unfoldable pub y4m_text : Y4mHeader → List (List ℕ) → List ℕ
y4m_text h frames = header_text h ++ flat_map frame_text frames

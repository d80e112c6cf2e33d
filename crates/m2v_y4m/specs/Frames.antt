-- The frames of a YUV4MPEG2 text: what its frame lines and frames are, and what the whole text is.
use Rattle.std.specs.Prelude.{ℕ, ◌≡◌, ◌+◌, ◌<◌, ◌==◌, zero, suc, ◌&&◌, nat_lt, All, List, [], ◌∷◌, ◌++◌, length, take, drop, Option, Some, None, Result, Ok, Err, codes, if◌then◌else◌}
use Rattle.m2v_plane.specs.declared.dims.Dims.{Dims}
use Rattle.m2v_plane.specs.Raw.{frame_bytes, raw}
use Rattle.m2v_set.specs.Numbers.{flat_dims}
use Rattle.m2v_y4m.specs.declared.answer.Y4mFault.{Y4mFault}
use Rattle.m2v_y4m.specs.declared.answer.Y4mKind.{Y4mKind}
use Rattle.m2v_y4m.specs.declared.answer.Y4mKind.TheVariants.{Line, Frame}
use Rattle.m2v_y4m.specs.declared.header.Y4mHeader.{Y4mHeader}
use Rattle.m2v_y4m.specs.Texts.{line_length, begins, onward}
use Rattle.m2v_y4m.specs.Header.{opening, fault_at}
use Rattle.m2v_y4m.specs.declared.opening.Opening.{Opening}

-- What comes of a text: the raw bytes of its frames up to its end or its first fault, and that fault.
pub record Coming : Type 0 where
  pub raw : List ℕ
  pub fault : Option Y4mFault

abbrev pub nothing : Coming
nothing = record { raw = []; fault = None }

abbrev pub broken : Y4mFault → Coming
broken fault = record { raw = []; fault = Some fault }

-- the same behind some raw bytes
abbrev pub with_front : List ℕ → Coming → Coming
with_front bytes c = record { raw = bytes ++ c.raw; fault = c.fault }

-- Inside a frame of this size, whose line begins at a place, so many bytes of it are still to come. Where the text ends
-- with no byte of the frame, the frame's line is the fault; where it ends later, the raw bytes end there.
unfoldable pub in_frame : ℕ → ℕ → ℕ → List ℕ → Coming → Coming
in_frame size line rest text behind =
    if length text == 0 && rest == size then broken (fault_at Frame line)
    else if nat_lt (length text) rest then record { raw = text; fault = None }
    else record { raw = take rest text ++ behind.raw; fault = behind.fault }

abbrev pub frame_word : List ℕ
frame_word = codes "FRAME"

-- The bytes of a frame line with its newline, or what is wrong with it: it has no newline, or it isn't FRAME.
abbrev pub frame_line_at : List ℕ → Option ℕ → Result ℕ Y4mKind
frame_line_at text None = Err Line
frame_line_at text (Some n) = if begins frame_word text then Ok (n + 1) else Err Frame

unfoldable pub frame_line : List ℕ → Result ℕ Y4mKind
frame_line text = frame_line_at text (line_length text)

-- a line at a place where a frame's is to be, and the frame behind it
unfoldable pub at_line : ℕ → ℕ → List ℕ → Result ℕ Y4mKind → (ℕ → Coming) → Coming
at_line size place text (Err kind) behind = broken (fault_at kind place)
at_line size place text (Ok n) behind = in_frame size place size (drop n text) (behind n)

-- Frame lines with their frames, from a place on. Each has more than one byte, so as many steps as there are bytes are
-- enough.
unfoldable pub in_steps : ℕ → ℕ → ℕ → List ℕ → Coming
in_steps zero size place text = nothing
in_steps (suc steps) size place [] = nothing
in_steps (suc steps) size place (b ∷ text) =
    at_line size place (b ∷ text) (frame_line (b ∷ text))
    (λ line. in_steps steps size (onward (onward place line) size) (drop (line + size) (b ∷ text)))

unfoldable pub frames_from : ℕ → ℕ → List ℕ → Coming
frames_from size place text = in_steps (length text) size place text

-- the size of the frames
abbrev pub dims_of : Y4mHeader → Dims
dims_of h = flat_dims h.width h.height

abbrev pub size_of : Y4mHeader → ℕ
size_of h = frame_bytes (dims_of h)

-- each of these has the bytes of a frame
abbrev pub AreWhole : Y4mHeader → List (List ℕ) → Type 0
AreWhole h frames = All (λ frame. length frame ≡ size_of h) frames

-- what comes of a text behind its header line
abbrev pub behind_header : Opening → List ℕ → Coming
behind_header o text = frames_from (size_of o.header) o.length (drop o.length text)

-- A text that begins with this header line, and what comes behind it.
pub record Begins (text : List ℕ) (header : Y4mHeader) (coming : Coming) : Type 0 where
  pub length : ℕ
  pub opens : opening text ≡ Ok (record { header = header; length = length })
  pub comes : coming ≡ behind_header (record { header = header; length = length }) text

-- The text is YUV4MPEG2: its header line is this one, and then come these frames and nothing else.
pub record Y4m (text : List ℕ) (header : Y4mHeader) (frames : List (List ℕ)) : Type 0 where
  pub whole : AreWhole header frames
  pub begins : Begins text header (record { raw = raw frames; fault = None })

-- The text ends inside a frame, behind these whole ones; so many bytes of it are there.
pub record EndsShort (text : List ℕ) (header : Y4mHeader) (frames : List (List ℕ)) (extra : ℕ) : Type 0 where
  pub part : List ℕ
  pub whole : AreWhole header frames
  pub count : length part ≡ extra
  pub some : 0 < extra
  pub less : extra < size_of header
  pub begins : Begins text header (record { raw = raw frames ++ part; fault = None })

-- The text is broken: this is its first fault, and it comes in the header line, or behind these raw bytes.
pub data FirstFault (text : List ℕ) (fault : Y4mFault) : Type 0 where
  in_header : opening text ≡ Err fault → FirstFault text fault
  behind : (header : Y4mHeader) (raw : List ℕ) → Begins text header (record { raw = raw; fault = Some fault }) → FirstFault text fault

-- Streams byte by byte, and what is to stand in them: the outside vectors that the definitions are held against.
use Rattle.std.specs.Prelude.{◌≡◌, ℕ, ◌+◌, ◌*◌, List, [], ◌∷◌, ◌++◌, length, filter, take, drop, replicate, All}
use Rattle.m2v_model.specs.declared.fault.FaultKind.{FaultKind}
use Rattle.m2v_model.specs.declared.fault.FaultKind.TheVariants.{NoSequence, NotMpeg2, Unsupported, Truncated, Forbidden, BadMarker, SliceOrder, MissingMacroblocks, SkipRule, VectorRange, VectorOutside, Overrun, DcRange, MissingReference, FieldPair}
use Rattle.m2v_model.specs.Decoding.{Decodes, FaultAt, pictures, is_dropped}
use Rattle.m2v_model.specs.Units.{joined}
use Rattle.m2v_model.specs.FieldStreams.{interlaced_head, top_intra, bottom_intra, top_forward, bottom_forward, by_top, by_bottom, halves_stream, dual_prime, far_vector, skipped_behind_field, skipped_behind_intra, skipped_in_intra}
use Rattle.m2v_model.specs.Outside.{interlaced, other_tables}

-- one grey frame of 16 by 16 samples: a sequence header and its extension, a picture header and its extension, a slice
-- and the end code
unfoldable pub grey : List ℕ
grey =
    0x00 ∷ 0x00 ∷ 0x01 ∷ 0xB3 ∷ 0x01 ∷ 0x00 ∷ 0x10 ∷ 0x13 ∷ 0x24 ∷ 0x9F ∷ 0x23 ∷ 0x80
    ∷ 0x00 ∷ 0x00 ∷ 0x01 ∷ 0xB5 ∷ 0x14 ∷ 0x8A ∷ 0x00 ∷ 0x01 ∷ 0x00 ∷ 0x00
    ∷ 0x00 ∷ 0x00 ∷ 0x01 ∷ 0x00 ∷ 0x00 ∷ 0x0F ∷ 0xFF ∷ 0xF8
    ∷ 0x00 ∷ 0x00 ∷ 0x01 ∷ 0xB5 ∷ 0x8F ∷ 0xFF ∷ 0xF3 ∷ 0x41 ∷ 0x80
    ∷ 0x00 ∷ 0x00 ∷ 0x01 ∷ 0x01 ∷ 0x0B ∷ 0x94 ∷ 0xA5 ∷ 0x22 ∷ 0x20
    ∷ 0x00 ∷ 0x00 ∷ 0x01 ∷ 0xB7 ∷ []

-- the same with another quantiser, another delay and a group header
unfoldable pub grouped : List ℕ
grouped =
    0x00 ∷ 0x00 ∷ 0x01 ∷ 0xB3 ∷ 0x01 ∷ 0x00 ∷ 0x10 ∷ 0x23 ∷ 0x00 ∷ 0x19 ∷ 0x20 ∷ 0x08
    ∷ 0x00 ∷ 0x00 ∷ 0x01 ∷ 0xB5 ∷ 0x14 ∷ 0x8A ∷ 0x00 ∷ 0x01 ∷ 0x00 ∷ 0x00
    ∷ 0x00 ∷ 0x00 ∷ 0x01 ∷ 0xB8 ∷ 0x00 ∷ 0x08 ∷ 0x00 ∷ 0x40
    ∷ 0x00 ∷ 0x00 ∷ 0x01 ∷ 0x00 ∷ 0x00 ∷ 0x0B ∷ 0x51 ∷ 0xA8
    ∷ 0x00 ∷ 0x00 ∷ 0x01 ∷ 0xB5 ∷ 0x8F ∷ 0xFF ∷ 0xF3 ∷ 0x41 ∷ 0x80
    ∷ 0x00 ∷ 0x00 ∷ 0x01 ∷ 0x01 ∷ 0x43 ∷ 0x94 ∷ 0xA5 ∷ 0x22 ∷ 0x20
    ∷ 0x00 ∷ 0x00 ∷ 0x01 ∷ 0xB7 ∷ []

-- a text with the byte at a place replaced
abbrev pub put : ℕ → ℕ → List ℕ → List ℕ
put place byte text = take place text ++ byte ∷ drop (place + 1) text

-- bytes again and again
abbrev pub repeated : ℕ → List ℕ → List ℕ
repeated n bytes = joined (replicate n bytes)

-- the grey frame with another slice
abbrev pub with_slice : List ℕ → List ℕ
with_slice slice = take 39 grey ++ slice ++ drop 48 grey

-- two frames: that one, and one that is predicted from it
unfoldable pub predicted : List ℕ
predicted =
    take 56 grouped
    ++ 0x00 ∷ 0x00 ∷ 0x01 ∷ 0x00 ∷ 0x00 ∷ 0x53 ∷ 0xB3 ∷ 0x8B ∷ 0x80 ∷ 0x00 ∷ 0x00 ∷ 0x01 ∷ 0xB5 ∷ 0x82 ∷ 0x2F ∷ 0xF3 ∷ 0x41 ∷ 0x80 ∷ 0x00 ∷ 0x00 ∷ 0x01 ∷ 0x01 ∷ 0x42 ∷ 0x70 ∷ 0x00 ∷ 0x00 ∷ 0x01 ∷ 0xB7 ∷ []

-- the headers of a B picture
unfoldable pub b_headers : List ℕ
b_headers = 0x00 ∷ 0x00 ∷ 0x01 ∷ 0x00 ∷ 0x00 ∷ 0x1F ∷ 0xFF ∷ 0xFB ∷ 0xB8 ∷ 0x00 ∷ 0x00 ∷ 0x01 ∷ 0xB5 ∷ 0x82 ∷ 0x22 ∷ 0x23 ∷ 0x41 ∷ 0x80 ∷ []

-- the grey frame in a group that is closed or not (1 or 0), and a B picture with a slice
abbrev pub with_b : ℕ → List ℕ → List ℕ
with_b closed slice = put 29 (64 * closed) (take 56 grouped) ++ b_headers ++ 0x00 ∷ 0x00 ∷ 0x01 ∷ 0x01 ∷ slice

-- one frame of two fields of 16 by 16 samples
unfoldable pub two_fields : List ℕ
two_fields =
    0x00 ∷ 0x00 ∷ 0x01 ∷ 0xB3 ∷ 0x01 ∷ 0x00 ∷ 0x20 ∷ 0x23 ∷ 0x00 ∷ 0x19 ∷ 0x20 ∷ 0x08 ∷ 0x00 ∷ 0x00 ∷ 0x01 ∷ 0xB5 ∷ 0x14 ∷ 0x82 ∷ 0x00 ∷ 0x01 ∷ 0x00 ∷ 0x00 ∷ 0x00 ∷ 0x00 ∷ 0x01 ∷ 0xB8 ∷ 0x00 ∷ 0x08 ∷ 0x00 ∷ 0x40 ∷ 0x00 ∷ 0x00 ∷ 0x01 ∷ 0x00 ∷ 0x00 ∷ 0x0B ∷ 0x51 ∷ 0xA8 ∷ 0x00 ∷ 0x00 ∷ 0x01 ∷ 0xB5 ∷ 0x8F ∷ 0xFF ∷ 0xF1 ∷ 0x04 ∷ 0x00 ∷ 0x00 ∷ 0x00 ∷ 0x01 ∷ 0x01 ∷ 0x43 ∷ 0x94 ∷ 0xA5 ∷ 0x22 ∷ 0x20 ∷ 0x00 ∷ 0x00 ∷ 0x01 ∷ 0x00 ∷ 0x00 ∷ 0x0B ∷ 0x7B ∷ 0x48 ∷ 0x00 ∷ 0x00 ∷ 0x01 ∷ 0xB5 ∷ 0x8F ∷ 0xFF ∷ 0xF2 ∷ 0x04 ∷ 0x00 ∷ 0x00 ∷ 0x00 ∷ 0x01 ∷ 0x01 ∷ 0x43 ∷ 0x94 ∷ 0xA5 ∷ 0x22 ∷ 0x20 ∷ 0x00 ∷ 0x00 ∷ 0x01 ∷ 0xB7 ∷ []

-- a top P field, and a bottom one, each with a slice
unfoldable pub top_headers : List ℕ
top_headers = 0x00 ∷ 0x00 ∷ 0x01 ∷ 0x00 ∷ 0x00 ∷ 0x17 ∷ 0xFF ∷ 0xFB ∷ 0x80 ∷ 0x00 ∷ 0x00 ∷ 0x01 ∷ 0xB5 ∷ 0x82 ∷ 0x2F ∷ 0xF1 ∷ 0x04 ∷ 0x00 ∷ 0x00 ∷ 0x00 ∷ 0x01 ∷ 0x01 ∷ []

unfoldable pub bottom_headers : List ℕ
bottom_headers = 0x00 ∷ 0x00 ∷ 0x01 ∷ 0x00 ∷ 0x00 ∷ 0x17 ∷ 0xFF ∷ 0xFB ∷ 0x80 ∷ 0x00 ∷ 0x00 ∷ 0x01 ∷ 0xB5 ∷ 0x82 ∷ 0x2F ∷ 0xF2 ∷ 0x04 ∷ 0x00 ∷ 0x00 ∷ 0x00 ∷ 0x01 ∷ 0x01 ∷ []

-- an I top field, and a bottom P field with a slice
abbrev pub with_p : List ℕ → List ℕ
with_p slice = take 56 two_fields ++ bottom_headers ++ slice

-- two frames of 45 macroblocks; of the second the first macroblock and the last one are coded, the others are skipped
unfoldable pub wide_frames : List ℕ
wide_frames =
    put 4 0x2D (take 55 grouped) ++ 0x2E ∷ 0x52 ∷ 0x94 ∷ 0x88 ∷ 0xB9 ∷ []
    ++ repeated 10 (0x4A ∷ 0x52 ∷ 0x22 ∷ 0xE5 ∷ 0x29 ∷ 0x48 ∷ 0x8B ∷ 0x94 ∷ 0xA5 ∷ 0x22 ∷ 0x2E ∷ 0x52 ∷ 0x94 ∷ 0x88 ∷ 0xB9 ∷ [])
    ++ 0x4A ∷ 0x52 ∷ 0x22 ∷ 0xE5 ∷ 0x29 ∷ 0x48 ∷ 0x8B ∷ 0x94 ∷ 0xA5 ∷ 0x22 ∷ 0x20
    ∷ 0x00 ∷ 0x00 ∷ 0x01 ∷ 0x00 ∷ 0x00 ∷ 0x53 ∷ 0xB3 ∷ 0x8B ∷ 0x80 ∷ 0x00 ∷ 0x00 ∷ 0x01 ∷ 0xB5 ∷ 0x82 ∷ 0x2F ∷ 0xF3 ∷ 0x41 ∷ 0x80 ∷ 0x00 ∷ 0x00
    ∷ 0x01 ∷ 0x01 ∷ 0x42 ∷ 0x70 ∷ 0x10 ∷ 0x14 ∷ 0x70 ∷ 0x00 ∷ 0x00 ∷ 0x01 ∷ 0xB7 ∷ []

-- ---- texts with a fault

pub record Faulty : Type 0 where
  pub text : List ℕ
  pub place : ℕ
  pub kind : FaultKind

abbrev pub fault : List ℕ → ℕ → FaultKind → Faulty
fault t p k = record { text = t; place = p; kind = k }

unfoldable pub faulty : List Faulty
faulty =
    fault [] 0 NoSequence
    ∷ fault (take 11 grey) 83 Truncated
    ∷ fault (take 12 grey) 96 NotMpeg2
    ∷ fault (take 30 grey) 240 NotMpeg2
    ∷ fault (take 38 grey) 304 Truncated
    ∷ fault (take 39 grey) 312 MissingMacroblocks
    ∷ fault (take 43 grey) 344 Truncated
    ∷ fault (take 47 grey) 376 Truncated
    ∷ fault (put 3 0xB4 grey) 416 NoSequence
    ∷ fault (put 4 0x00 grey) 143 Forbidden
    ∷ fault (put 4 0xFF (put 5 0xF0 grey)) 143 Unsupported
    ∷ fault (put 10 0x03 grey) 82 BadMarker
    ∷ fault (put 16 0x24 grey) 96 NotMpeg2
    ∷ fault (put 17 0x8C grey) 141 Unsupported
    ∷ fault (put 17 0x88 grey) 141 Forbidden
    ∷ fault (put 27 0x27 grey) 218 Unsupported
    ∷ fault (put 27 0x07 grey) 218 Forbidden
    ∷ fault (put 36 0xF0 grey) 294 Forbidden
    ∷ fault (put 42 0x02 grey) 312 SliceOrder
    ∷ fault (put 43 0x03 grey) 344 Forbidden
    ∷ fault (take 48 grey ++ drop 39 grey) 384 SliceOrder
    ∷ fault (take 22 grey ++ 0x00 ∷ 0x00 ∷ 0x01 ∷ 0xB0 ∷ drop 22 grey) 176 Forbidden
    ∷ fault (with_slice (0x00 ∷ 0x00 ∷ 0x01 ∷ 0x01 ∷ 0x0B ∷ 0x80 ∷ 0xFE ∷ 0x00 ∷ 0x20 ∷ [])) 355 Overrun
    ∷ fault (with_slice (0x00 ∷ 0x00 ∷ 0x01 ∷ 0x01 ∷ 0x0B ∷ 0xFD ∷ 0xFE ∷ [])) 352 DcRange
    ∷ fault (with_slice (0x00 ∷ 0x00 ∷ 0x01 ∷ 0x01 ∷ 0x0B ∷ 0x80 ∷ 0x81 ∷ 0x00 ∷ 0x00 ∷ [])) 367 Forbidden
    -- a P picture without a reference, a vector to the right, and a B picture with one anchor that goes forward
    ∷ fault (take 30 predicted ++ drop 56 predicted) 240 MissingReference
    ∷ fault (put 79 0x52 predicted) 630 VectorOutside
    ∷ fault (with_b 1 (0x42 ∷ 0x58 ∷ [])) 630 MissingReference
    -- a first field alone, with and without an end code, two of one parity, and a field in a progressive sequence
    ∷ fault (take 56 two_fields) 448 FieldPair
    ∷ fault (take 56 two_fields ++ drop 82 two_fields) 448 FieldPair
    ∷ fault (put 70 0xF1 two_fields) 448 FieldPair
    ∷ fault (put 17 0x8A two_fields) 358 Forbidden
    -- a second P field that goes by the field of its own parity where there is none, and two of dual prime: by the distance
    -- of the fields the opposite vector leaves the field, unless dmvector brings it back
    ∷ fault (with_p (0x42 ∷ 0x5E ∷ [])) 630 MissingReference
    ∷ fault (with_p (0x42 ∷ 0x7B ∷ 0x80 ∷ [])) 630 MissingReference
    ∷ fault (with_p (0x42 ∷ 0x7A ∷ [])) 630 VectorOutside
    -- a group header and a sequence header behind a first field
    ∷ fault (take 56 two_fields ++ take 8 (drop 22 two_fields)) 448 FieldPair
    ∷ fault (take 56 two_fields ++ take 22 two_fields) 448 FieldPair
    -- a top field that goes by its own parity behind a bottom one, with no anchor before
    ∷ fault (interlaced_head ++ bottom_intra ++ top_forward ++ by_top) 630 MissingReference
    -- by dual prime's distance of one field the opposite vector of the top lines leaves the field
    ∷ fault (dual_prime 0x80 0x60) 702 VectorOutside
    ∷ fault far_vector 710 VectorRange
    ∷ fault skipped_in_intra 444 SkipRule
    ∷ fault skipped_behind_intra 1104 SkipRule
    ∷ []

-- ---- texts that decode

-- a text, how many frames it shows, and how many pictures it has and drops
pub record Decodable : Type 0 where
  pub text : List ℕ
  pub frames : ℕ
  pub pictures : ℕ
  pub dropped : ℕ

abbrev pub shows : List ℕ → ℕ → ℕ → ℕ → Decodable
shows t f p d = record { text = t; frames = f; pictures = p; dropped = d }

unfoldable pub decodable_streams : List Decodable
decodable_streams =
    shows (take 22 grey) 0 0 0
    ∷ shows (take 48 grey) 1 1 0
    ∷ shows grey 1 1 0
    ∷ shows grouped 1 1 0
    ∷ shows predicted 2 2 0
    ∷ shows two_fields 1 2 0
    -- a second P field that goes by the first field of its frame; then a frame of P fields, the second of dual prime
    ∷ shows (with_p (0x42 ∷ 0x56 ∷ [])) 1 2 0
    ∷ shows (take 82 two_fields ++ top_headers ++ 0x42 ∷ 0x5E ∷ bottom_headers ++ 0x42 ∷ 0x7B ∷ 0x80 ∷ []) 2 4 0
    -- the bottom field first: the top one goes by it, and behind an anchor by its own parity
    ∷ shows (interlaced_head ++ bottom_intra ++ top_forward ++ by_bottom) 1 2 0
    ∷ shows (interlaced_head ++ top_intra ++ bottom_intra ++ bottom_forward ++ by_bottom ++ top_forward ++ by_top) 2 4 0
    ∷ shows halves_stream 3 6 0
    -- dual prime by both orders of the fields
    ∷ shows (dual_prime 0x80 0x00) 2 2 0
    ∷ shows (dual_prime 0x00 0x60) 2 2 0
    ∷ shows skipped_behind_field 3 3 0
    ∷ shows wide_frames 2 2 0
    -- another encoder's
    ∷ shows interlaced 4 4 0
    ∷ shows other_tables 5 5 0
    -- a B picture that goes backward, in a closed group; in an open one it is dropped, and anything may stand in it
    ∷ shows (with_b 1 (0x42 ∷ 0xB0 ∷ [])) 2 2 0
    ∷ shows (with_b 0 (0xFF ∷ 0x00 ∷ [])) 1 2 1
    ∷ shows (with_b 0 (0xFF ∷ 0x00 ∷ b_headers ++ 0x00 ∷ 0x00 ∷ 0x01 ∷ 0x01 ∷ 0x42 ∷ 0x58 ∷ [])) 1 3 2
    -- a frame of 2 by 2 samples
    ∷ shows (put 4 0x00 (put 5 0x20 (put 6 0x02 grey))) 1 1 0
    -- a black frame
    ∷ shows (with_slice (0x00 ∷ 0x00 ∷ 0x01 ∷ 0x01 ∷ 0x0B ∷ 0xFC ∷ 0xFF ∷ 0x4A ∷ 0x52 ∷ 0xFE ∷ 0x7F ∷ 0xBF ∷ 0x9F ∷ 0xE0 ∷ [])) 1 1 0
    -- a byte before, a display extension and user data behind the sequence extension, and no end code
    ∷ shows (0xFF ∷ take 22 grouped
    ++ 0x00 ∷ 0x00 ∷ 0x01 ∷ 0xB5 ∷ 0x23 ∷ 0x05 ∷ 0x05 ∷ 0x05 ∷ 0x0B ∷ 0x42 ∷ 0x12 ∷ 0x00
    ∷ 0x00 ∷ 0x00 ∷ 0x01 ∷ 0xB2 ∷ 0x41
    ∷ take 34 (drop 22 grouped)) 1 1 0
    ∷ []

-- the text decodes to so many frames, with so many pictures
pub record Shows (r : Decodable) : Type 0 where
  pub frames : List (List ℕ)
  pub decodes : Decodes r.text frames
  pub frames_are : length frames ≡ r.frames
  pub pictures_are : length (pictures decodes.tree) ≡ r.pictures
  pub dropped_are : length (filter is_dropped (pictures decodes.tree)) ≡ r.dropped

-- each has the fault that it is to have, or decodes to its numbers of frames and pictures
pub record WorkedRows : Type 0 where
  pub faults : All (λ (r : Faulty). FaultAt r.text r.place r.kind) faulty
  pub shown : All Shows decodable_streams

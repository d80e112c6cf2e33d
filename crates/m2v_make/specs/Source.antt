-- The bytes of the frames of a seed, one by one.
use Rattle.std.specs.Prelude.{ℕ, ◌+◌, ◌-◌, ◌*◌, ◌/◌, ◌%◌, List, drop, min, nat_lt, if◌then◌else◌}
use Rattle.m2v_plane.specs.Raw.{raw}
use Rattle.m2v_make.specs.Frames.{luma, cb, cr, generated}

-- the bytes of a frame, and of all frames
abbrev pub frame_size : ℕ
frame_size = 38016

abbrev pub all_size : ℕ
all_size = 1824768

-- a byte of a chroma plane by its place in it
abbrev pub cb_byte : ℕ → ℕ → ℕ
cb_byte t k = cb t (k / 88) (k % 88)

abbrev pub cr_byte : ℕ → ℕ → ℕ
cr_byte t k = cr t (k / 88) (k % 88)

-- a byte of both chroma planes of frame t, by its place in them
unfoldable pub chroma_byte : ℕ → ℕ → ℕ
chroma_byte t k = if nat_lt k 6336 then cb_byte t k else cr_byte t (k - 6336)

-- a byte of frame t by its place in it
unfoldable pub byte_in : ℕ → ℕ → ℕ → ℕ
byte_in seed t k = if nat_lt k 25344 then luma seed t (k / 176) (k % 176) else chroma_byte t (k - 25344)

-- a byte of all frames by its place
unfoldable pub byte_at : ℕ → ℕ → ℕ
byte_at seed p = byte_in seed (p / frame_size) (p % frame_size)

-- the draws for the bytes before a place
unfoldable pub draws_before : ℕ → ℕ
draws_before p = p / frame_size * 25344 + min (p % frame_size) 25344

-- a source of the frames of a seed, and how many of their bytes were read
pub record Generation : Type 0 where
  pub seed : ℕ
  pub place : ℕ

-- the bytes that are left
unfoldable pub left_of : Generation → List ℕ
left_of g = drop g.place (raw (generated g.seed))

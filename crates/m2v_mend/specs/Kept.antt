-- How many bytes of a span at hand count against the limits.
use Rattle.std.specs.Prelude.{◌≡◌, ◌≢◌, ℕ, ◌+◌, ◌-◌, ◌<◌, ◌≤◌, List, length, map, drop, replicate, slice_index, Option, if◌then◌else◌}
use Rattle.m2v_model.specs.Units.{joined}
use Rattle.m2v_model.specs.Pieces.{trimmed}
use Rattle.m2v_decode.specs.m2v_dec_piece.declared.answer.Piece.{Piece}
use Rattle.m2v_law_seam.specs.Seams.{has_own_head, bytes_or_none}
use Rattle.m2v_mend.specs.declared.member.Member.{Member}
use Rattle.m2v_mend.specs.Strand.{wholes_of}

-- so many bytes stand before the zero bytes at the end
pub record IsUpToZeros (bytes : List ℕ) (n : ℕ) : Type 0 where
  pub within : n ≤ length bytes
  pub zeros : drop n bytes ≡ replicate (length bytes - n) 0
  pub last : 0 < n → slice_index bytes (n - 1) ≢ 0

-- pieces without what they tell
abbrev pub pieces_of : List Member → List Piece
pieces_of ms = map (λ m. m.piece) ms

-- their bytes
abbrev pub bodies : List Member → List (List ℕ)
bodies ms = wholes_of (pieces_of ms)

-- how many bytes of a head that isn't their own pieces may need
abbrev pub head_kept : Option (List ℕ) → List (List ℕ) → ℕ
head_kept head ps = if has_own_head ps then 0 else length (bytes_or_none head)

-- how many bytes of pieces are kept, with those of the head
abbrev pub kept_of : Option (List ℕ) → List (List ℕ) → ℕ
kept_of head ps = head_kept head ps + length (joined (map trimmed ps))

-- What is known of each piece that is handed out, whatever the source tells.
use Rattle.std.specs.Prelude.{◌≡◌, ℕ, ◌+◌, ◌-◌, ◌^◌, ◌<◌, ◌≤◌, Option, Some, None, length, vec_len, slice_index}
use Rattle.m2v_dec_piece.specs.declared.answer.Piece.{Piece}

pub record IsSoundPiece (p : Piece) : Type 0 where
  pub some : 1 ≤ p.length
  pub end : p.place + p.length ≤ 2 ^ 36
  pub kept : vec_len p.bytes ≤ p.length
  pub most : vec_len p.bytes ≤ 2097216
  -- zero bytes are left out behind a zero byte alone
  pub zeros : 0 < p.length - vec_len p.bytes → (0 < length p.bytes.items) × (slice_index p.bytes.items (length p.bytes.items - 1) ≡ 0)

-- a piece begins at or behind the place where the one before it ended
abbrev pub GoesOnward : Option Piece → ℕ → ℕ → Type 0
GoesOnward (Some p) before after = (before ≤ p.place) × (after ≡ p.place + p.length)
GoesOnward None before after = (before ≤ after) × (after ≤ 2 ^ 36)

-- The last unit of a piece.
use Rattle.std.specs.Prelude.{ℕ, ◌*◌, [], ◌∷◌, length}
use Rattle.m2v_model.specs.Units.{Units}

-- how many bits the last unit has; so many where there is none
abbrev pub last_bits : ℕ → Units → ℕ
last_bits bits [] = bits
last_bits bits (u ∷ us) = last_bits (8 * length u) us

-- What else the units of a piece say before its first slice, unit by unit.
use Rattle.std.proofs.Common.{◌≡◌, ℕ, ◌+◌, ◌*◌, true, false, List, [], ◌∷◌, ◌++◌, length, refl}
use Rattle.m2v_model.specs.Streams.{value_of}
use Rattle.m2v_model.specs.Units.{Units}
use Rattle.m2v_audit.specs.Others.{other_at, is_slice, others_from}

pub others_none : (bit : ℕ) → others_from bit [] ≡ []
unfolding others_from
others_none bit = refl

pub others_on : (bit : ℕ) (u : List ℕ) (us : Units) → is_slice (value_of u) ≡ false → others_from bit (u ∷ us) ≡ other_at bit u ++ others_from (bit + 8 * length u) us
unfolding others_from
others_on bit u us off = rw off refl

pub others_end : (bit : ℕ) (u : List ℕ) (us : Units) → is_slice (value_of u) ≡ true → others_from bit (u ∷ us) ≡ []
unfolding others_from
others_end bit u us on = rw on refl

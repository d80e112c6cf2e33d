-- Pieces of one picture at most.
use Rattle.std.proofs.Common.{◌≡◌, ℕ, true, false, List, [], ◌∷◌, refl, sym, subst}
use Rattle.m2v_model.specs.Units.{Units}
use Rattle.m2v_model.specs.Streams.{value_of}
use Rattle.m2v_model.specs.Pieces.{begins_piece}
use Rattle.m2v_dec_rows.specs.OnePicture.{NoneBegins, HasOnePicture}

-- a picture begins a piece
picture_begins : (v : ℕ) → v ≡ 0 → begins_piece v ≡ true
unfolding begins_piece
picture_begins v e = subst (λ (n : ℕ). begins_piece n ≡ true) (sym e) refl

-- where no unit begins a piece there is no picture
pub none_one : (us : Units) → NoneBegins us → HasOnePicture us
none_one [] h = tt
none_one (u ∷ us) h = ((λ e. absurd (cc (sym (picture_begins (value_of u) e), h.0))), none_one us h.1)

-- a picture, and behind it no unit that begins a piece
pub one_here : (all us : Units) (u : List ℕ) → all ≡ u ∷ us → NoneBegins us → HasOnePicture all
one_here all us u e h = subst HasOnePicture (sym e) ((λ z. h), none_one us h)

pub one_more : (all us : Units) (u : List ℕ) → all ≡ u ∷ us → (value_of u ≡ 0 → ⊥) → HasOnePicture us → HasOnePicture all
one_more all us u e other h = subst HasOnePicture (sym e) ((λ z. absurd (other z)), h)

pub none_more : (all us : Units) (u : List ℕ) → all ≡ u ∷ us → begins_piece (value_of u) ≡ false → NoneBegins us → NoneBegins all
none_more all us u e other h = subst NoneBegins (sym e) (other, h)

-- and back: what holds of all units holds of those behind the first
pub one_behind : (all us : Units) (u : List ℕ) → all ≡ u ∷ us → HasOnePicture all → HasOnePicture us
one_behind all us u e h = (subst HasOnePicture e h).1

pub none_behind : (all us : Units) (u : List ℕ) → all ≡ u ∷ us → value_of u ≡ 0 → HasOnePicture all → NoneBegins us
none_behind all us u e z h = (subst HasOnePicture e h).0 z

-- A piece has one picture at most.
use Rattle.std.specs.Prelude.{◌≡◌, false, [], ◌∷◌}
use Rattle.m2v_model.specs.Units.{Units}
use Rattle.m2v_model.specs.Streams.{value_of}
use Rattle.m2v_model.specs.Pieces.{begins_piece}

-- no unit begins a piece
abbrev pub NoneBegins : Units → Type 0
NoneBegins [] = Unit {0}
NoneBegins (u ∷ us) = (begins_piece (value_of u) ≡ false) × NoneBegins us

-- behind a picture no unit begins a piece
abbrev pub HasOnePicture : Units → Type 0
HasOnePicture [] = Unit {0}
HasOnePicture (u ∷ us) = (value_of u ≡ 0x00 → NoneBegins us) × HasOnePicture us

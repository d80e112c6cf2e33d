-- Batches of which some rows are worked out.
use Rattle.std.specs.Prelude.{ℕ, true, false, [], ◌∷◌}
use Rattle.m2v_dec_batch.specs.declared.picture.Header.{Header}
use Rattle.m2v_dec_batch.specs.Jobs.{Headers}

-- a frame picture of two macroblock rows
abbrev pub frame_picture : ℕ → Header
frame_picture kind = record { kind = kind; second = false; structure = 3; rows = 2 }

-- an I, a P and two B pictures
unfoldable pub ipbb : Headers
ipbb = frame_picture 1 ∷ frame_picture 2 ∷ frame_picture 3 ∷ frame_picture 3 ∷ []

-- a second field whose first field waits, and a frame of two P fields, of one macroblock row each
unfoldable pub field_pairs : Headers
field_pairs =
    record { kind = 2; second = true; structure = 2; rows = 1 } ∷ record { kind = 2; second = false; structure = 1; rows = 1 }
    ∷ record { kind = 2; second = true; structure = 2; rows = 1 } ∷ []

-- Posts that are kept from group to group.
use Rattle.std.specs.Prelude.{◌≡◌, List, Box}
use Rattle.m2v_board.specs.declared.post.Post.{Post}
use Rattle.m2v_wave.specs.Pieces.{MayServe}
use Rattle.m2v_set.specs.declared.settings.Settings.{Settings}
use Rattle.m2v_slice.specs.declared.pieces.EncodePiece.{EncodePiece}
use Rattle.m2v_slice.specs.declared.pieces.EncodeShared.{EncodeShared}
use Rattle.m2v_slice.specs.Books.{Book}
use Rattle.m2v_slice.specs.Cached.{Cached}
use Rattle.m2v_slice.specs.Jobs.{jobs_of, FitsPiece, FitsShared}

-- they serve each book of these settings
pub record ServeAll {A : Type 0} (s : Settings) (posts : List (Box (Post Book EncodePiece EncodeShared Cached) A)) : Type 0 where
  pub each : (b : Book) → b.settings ≡ s → MayServe (jobs_of b) (FitsPiece b) (FitsShared b) posts

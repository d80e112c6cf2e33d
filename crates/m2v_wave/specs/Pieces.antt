-- Posts behind a run: what they have, and whether they can serve another one.
use Rattle.std.specs.Prelude.{◌≡◌, ℕ, ◌<◌, List, Box, length, slice_index_or}
use Rattle.std.specs.Vec.{vec_len}
use Rattle.std.specs.declared.vec.Vec.{Vec}
use Rattle.m2v_board.specs.declared.post.Post.{Post}

module _ {B P S C A Z : Type 0} where
  -- n posts, each with the value of its job as its piece, and with what others learn of it
  pub record ArePieces (n : ℕ) (value : ℕ → P) (shared : ℕ → S) (posts : Vec (Box (Post B P S C) A) Z) : Type 0 where
    pub count : vec_len posts ≡ n
    pub pieces : (j : ℕ) (d : Box (Post B P S C) A) → j < n → (slice_index_or posts.items j d).value.piece ≡ value j
    pub parts : (j : ℕ) (d : Box (Post B P S C) A) → j < n → (slice_index_or posts.items j d).value.shared ≡ shared j

module _ {B P S C A : Type 0} where
  -- the piece and the shared part of each post fit its job, as far as there are jobs
  pub record MayServe (n : ℕ) (fits_piece : ℕ → P → Type 0) (fits_shared : ℕ → S → Type 0) (posts : List (Box (Post B P S C) A)) : Type 0 where
    pub pieces : (j : ℕ) (d : Box (Post B P S C) A) → j < n → j < length posts → fits_piece j (slice_index_or posts j d).value.piece
    pub parts : (j : ℕ) (d : Box (Post B P S C) A) → j < n → j < length posts → fits_shared j (slice_index_or posts j d).value.shared

-- How many bytes an input of raw frames has.
use Rattle.std.specs.Prelude.{ℕ, ◌≡◌, ◌+◌, ◌*◌, ◌<◌, ◌≤◌}
use Rattle.m2v_flat.specs.Answers.{most_frames}

-- so many bytes are whole frames of a size, 1 to 999,999 of them
pub record AreFrames (size bytes : ℕ) : Type 0 where
  pub frames : ℕ
  pub some : 1 ≤ frames
  pub most : frames ≤ most_frames
  pub are : bytes ≡ frames * size

-- so many bytes end inside one of the frames that an input may have
pub record EndInside (size bytes : ℕ) : Type 0 where
  pub frames : ℕ
  pub extra : ℕ
  pub fewer : frames < most_frames
  pub some : 0 < extra
  pub less : extra < size
  pub are : bytes ≡ frames * size + extra

-- so many bytes are whole frames of a size, up to 999,999 of them
pub record AreFew (size bytes : ℕ) : Type 0 where
  pub frames : ℕ
  pub most : frames ≤ most_frames
  pub are : bytes ≡ frames * size

-- What stands between two pieces behind the first sequence header, for a reader of rows.
use Rattle.std.specs.Prelude.{◌≡◌, IfSome}
use Rattle.m2v_plane.specs.Sizes.{IsSize}
use Rattle.m2v_dec_rows.specs.Headers.{IsBetween}
use Rattle.m2v_decode.specs.declared.at_hand.AtHand.{AtHand}
use Rattle.m2v_decode.specs.Decoding.{Decoding}

-- the headers in force and the frames at hand are the decoder's, all frames of one size
pub record IsAtHand (d : Decoding) (h : AtHand) : Type 0 where
  pub state : h.state ≡ d.state
  pub older : h.frames.older ≡ d.frames.older
  pub newer : h.frames.newer ≡ d.frames.newer
  pub waiting : h.frames.waiting ≡ d.frames.current
  pub between : IsBetween h.state
  pub size : IsSize h.dims
  pub older_size : IfSome h.frames.older (λ f. f.dims ≡ h.dims)
  pub newer_size : IfSome h.frames.newer (λ f. f.dims ≡ h.dims)
  pub waiting_size : IfSome h.frames.waiting (λ f. f.dims ≡ h.dims)

-- What the flat stream tells: its pictures, decoded.
use Rattle.std.specs.Prelude.{ℕ, ◌+◌, true, false, List, [], ◌∷◌}
use Rattle.m2v_plane.specs.Raw.{pad}
use Rattle.m2v_flat.specs.declared.settings.FlatSettings.{FlatSettings}
use Rattle.m2v_flat.specs.Flat.{flat_picture, flat_picture_extension}
use Rattle.m2v_flat.specs.Recon.{recon_frame}
use Rattle.m2v_model.specs.Pictures.{Picture, Pictures}

-- a raw frame as a decoded I picture
abbrev pub decoded : FlatSettings → ℕ → List ℕ → Picture
decoded s number raw = record {
  info = flat_picture number;
  extension = flat_picture_extension;
  begins_frame = true;
  ends_frame = true;
  dropped = false;
  crowded_row = 0;
  frame = recon_frame s.quantiser (pad s.dims raw);
}

-- raw frames as pictures that are numbered from a number on
unfoldable pub decoded_from : FlatSettings → ℕ → List (List ℕ) → Pictures
decoded_from s number [] = []
decoded_from s number (raw ∷ frames) = decoded s number raw ∷ decoded_from s (number + 1) frames

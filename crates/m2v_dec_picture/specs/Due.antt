-- A frame on its way to the display.
use Rattle.m2v_plane.specs.Samples.{Samples}
use Rattle.m2v_dec_picture.specs.declared.shared.Held.{Held}
use Rattle.m2v_dec_picture.specs.declared.shared.Held.TheVariants.{Alone, Shared}

-- its samples, whoever holds it
abbrev pub samples_held : Held → Samples
samples_held (Alone frame) = frame
samples_held (Shared frame) = frame

-- What is known of headers that were read.
use Rattle.std.specs.Prelude.{◌≡◌, true, ◌||◌, not, nat_eq, [], slice_index_or}
use Rattle.m2v_plane.specs.Sizes.{IsSize}
use Rattle.m2v_head.specs.declared.sequence.SequenceInfo.{SequenceInfo}
use Rattle.m2v_head.specs.declared.sequence.SequenceExtension.{SequenceExtension}
use Rattle.m2v_head.specs.declared.picture.PictureInfo.{PictureInfo}
use Rattle.m2v_head.specs.declared.picture.PictureExtension.{PictureExtension}
use Rattle.m2v_head.specs.Fits.{SequenceExtensionFits, PictureExtensionFits}
use Rattle.m2v_model.specs.m2v_macro.Conditions.{AreScales}
use Rattle.m2v_model.specs.States.{dims_of}

-- a sequence extension behind its header: the frames have a size that is read
pub record IsReadSequence (info : SequenceInfo) (e : SequenceExtension) : Type 0 where
  pub fits : SequenceExtensionFits e
  pub size : IsSize (dims_of (record { info = info; extension = e }))

-- a picture coding extension behind its header: forward f_codes are from 1 to 9 in P and B pictures and where there are
-- concealment vectors, backward ones in B pictures (table 7-7)
pub record IsReadPicture (info : PictureInfo) (e : PictureExtension) : Type 0 where
  pub fits : PictureExtensionFits e
  pub forward : (not (nat_eq info.kind 1) || e.concealment) ≡ true → AreScales (slice_index_or e.f_code 0 [])
  pub backward : nat_eq info.kind 3 ≡ true → AreScales (slice_index_or e.f_code 1 [])

-- The stricter rules on what else stands before a picture's first slice: quant matrix extensions, extra information, and sequence
-- display extensions (clauses 6.1.1.6, 6.2.2.4, 6.3.9 and 6.3.11).
use Rattle.std.specs.Prelude.{ℕ, Bool, false, true, ◌&&◌, nat_eq, if◌then◌else◌, List, [], ◌++◌, is_some, slice_index, Option, Some, None}
use Rattle.m2v_model.specs.m2v_macroblock.m2v_head.declared.matrix.MatrixInfo.{MatrixInfo}
use Rattle.m2v_strict.specs.declared.display.Display.{Display}
use Rattle.m2v_strict.specs.declared.element.Element.TheVariants as elements
use Rattle.m2v_strict.specs.Remarks.{Remarks, equal, number_of, unset}
use Rattle.m2v_strict.specs.SequenceRules.{first_number_rule}

-- ---- a quant matrix extension

-- 19: the first number of a matrix of intra blocks is 8, of the chroma too
unfoldable pub chroma_number_rule : Option (List ℕ) → Remarks
chroma_number_rule None = []
chroma_number_rule (Some m) = equal 19 elements.ChromaIntraQuantiserMatrix (slice_index m 0) 8

-- 20: in 4:2:0 chroma has no matrices of its own
unfoldable pub chroma_rule : MatrixInfo → Remarks
chroma_rule m =
    unset 20 elements.LoadChromaIntraQuantiserMatrix (is_some m.chroma_intra)
    ++ unset 20 elements.LoadChromaNonIntraQuantiserMatrix (is_some m.chroma_non_intra)

abbrev pub matrix_remarks : MatrixInfo → Remarks
matrix_remarks m = first_number_rule m.intra ++ chroma_number_rule m.chroma_intra ++ chroma_rule m

-- ---- a picture header

-- 32: no extra information stands in it
unfoldable pub extra_rule : Bool → Remarks
extra_rule extra = unset 32 elements.ExtraBitPicture extra

-- ---- sequence display extensions

unfoldable pub same_colour : Option ℕ → Option ℕ → Bool
same_colour None None = true
same_colour (Some a) (Some b) = nat_eq a b
same_colour _ _ = false

abbrev pub same_display : Display → Display → Bool
same_display a b =
    nat_eq a.video_format b.video_format && (same_colour a.colour b.colour && (nat_eq a.width b.width && nat_eq a.height b.height))

-- what a sequence header has beside the first one: none, the same, or another
unfoldable pub beside_first : Option Display → Option Display → ℕ
beside_first first None = 0
beside_first None (Some d) = 2
beside_first (Some first) (Some d) = if same_display first d then 1 else 2

-- 39: each sequence header has one where the first one has, with the same content
unfoldable pub display_rule : Option Display → Option Display → Remarks
display_rule first d = equal 39 elements.SequenceDisplayExtension (beside_first first d) (number_of (is_some first))

-- How long each header's text is: the room that its writer asks for.
use Rattle.std.proofs.Common.{◌≡◌, ℕ, zero, suc, ◌+◌, ◌≤◌, Bool, List, length, Option, Some, None, refl, ◌∙◌, arith}
use Rattle.std.proofs.lemmas.List.{length-append}
use Rattle.m2v_bits.proofs.Bits.{length-bits_of}
use Rattle.m2v_head.specs.declared.sequence.SequenceInfo.{SequenceInfo}
use Rattle.m2v_head.specs.declared.sequence.SequenceExtension.{SequenceExtension}
use Rattle.m2v_head.specs.declared.group.GroupInfo.{GroupInfo}
use Rattle.m2v_head.specs.declared.picture.PictureInfo.{PictureInfo}
use Rattle.m2v_head.specs.declared.picture.PictureExtension.{PictureExtension}
use Rattle.m2v_head.specs.declared.matrix.MatrixInfo.{MatrixInfo}
use Rattle.m2v_head.specs.declared.slice.SliceInfo.{SliceInfo}
use Rattle.m2v_head.specs.Texts.{loaded_text, sequence_text, rates_text, sequence_extension_text, group_text, directions_text, picture_text, flags_text, composite_text, picture_extension_text, matrices_text, intra_slice_text, slice_text}
use Rattle.m2v_head.proofs.Matrices.{matrix_length}

-- the flag of a matrix, and 64 numbers where it is set
pub loaded_length_none : length (loaded_text None) ≡ 1
unfolding loaded_text
loaded_length_none = refl

pub loaded_length_some : (m : List ℕ) → length (loaded_text (Some m)) ≡ 513
unfolding loaded_text
loaded_length_some m = omega (arith, matrix_length m)

pub loaded_most : (m : Option (List ℕ)) → length (loaded_text m) ≤ 513
loaded_most None = omega (arith, loaded_length_none)
loaded_most (Some m) = omega (arith, loaded_length_some m)

pub sequence_length : (s : SequenceInfo) → length (sequence_text s) ≡ 62 + length (loaded_text s.load_intra) + length (loaded_text s.load_non_intra)
unfolding sequence_text
sequence_length s = simp (length-append, length-bits_of) (omega arith)

pub sequence_extension_length : (s : SequenceExtension) → length (sequence_extension_text s) ≡ 48
unfolding sequence_extension_text rates_text
sequence_extension_length s = simp (length-append, length-bits_of) (omega arith)

pub group_length : (g : GroupInfo) → length (group_text g) ≡ 27
unfolding group_text
group_length g = simp (length-append, length-bits_of) (omega arith)

pub picture_length_intra : (p : PictureInfo) → p.kind ≡ 1 → length (picture_text p) ≡ 30
unfolding picture_text directions_text
picture_length_intra p is = rw is (simp (length-append, length-bits_of) (omega arith))

pub picture_length_forward : (p : PictureInfo) → p.kind ≡ 2 → length (picture_text p) ≡ 34
unfolding picture_text directions_text
picture_length_forward p is = rw is (simp (length-append, length-bits_of) (omega arith))

pub picture_length_both : (p : PictureInfo) → p.kind ≡ 3 → length (picture_text p) ≡ 38
unfolding picture_text directions_text
picture_length_both p is = rw is (simp (length-append, length-bits_of) (omega arith))

kinds : (p : PictureInfo) (k : ℕ) → p.kind ≡ k → 1 ≤ k → k ≤ 3 → length (picture_text p) ≤ 38
kinds p zero is low high = absurd (omega arith)
kinds p (suc zero) is low high = omega (arith, picture_length_intra p is)
kinds p (suc (suc zero)) is low high = omega (arith, picture_length_forward p is)
kinds p (suc (suc (suc zero))) is low high = omega (arith, picture_length_both p is)
kinds p (suc (suc (suc (suc k)))) is low high = absurd (omega arith)

pub picture_most : (p : PictureInfo) → 1 ≤ p.kind → p.kind ≤ 3 → length (picture_text p) ≤ 38
picture_most p low high = kinds p p.kind refl low high

composite_most : (c : Option ℕ) → length (composite_text c) ≤ 21
unfolding composite_text
composite_most None = omega arith
composite_most (Some v) = omega (arith, length-bits_of 20 v)

picture_extension_rest : (p : PictureExtension) → length (picture_extension_text p) ≡ 33 + length (composite_text p.composite)
unfolding picture_extension_text flags_text
picture_extension_rest p = simp (length-append, length-bits_of) (omega arith)

none_length : length (composite_text None) ≡ 1
unfolding composite_text
none_length = refl

pub picture_extension_length : (p : PictureExtension) → p.composite ≡ None → length (picture_extension_text p) ≡ 34
picture_extension_length p none = picture_extension_rest p ∙ rw none (omega (arith, none_length))

pub picture_extension_most : (p : PictureExtension) → length (picture_extension_text p) ≤ 54
picture_extension_most p = omega (arith, picture_extension_rest p, composite_most p.composite)

pub matrices_length : (m : MatrixInfo) → length (matrices_text m) ≡ 4 + length (loaded_text m.intra) + length (loaded_text m.non_intra) + length (loaded_text m.chroma_intra) + length (loaded_text m.chroma_non_intra)
unfolding matrices_text
matrices_length m = simp (length-append, length-bits_of) (omega arith)

untold_length : (reserved : ℕ) → length (intra_slice_text None reserved) ≡ 0
unfolding intra_slice_text
untold_length reserved = refl

intra_slice_most : (intra_slice : Option Bool) (reserved : ℕ) → length (intra_slice_text intra_slice reserved) ≤ 9
unfolding intra_slice_text
intra_slice_most None reserved = omega arith
intra_slice_most (Some intra_slice) reserved = omega (arith, length-bits_of 7 reserved)

slice_rest : (s : SliceInfo) → length (slice_text s) ≡ 6 + length (intra_slice_text s.intra_slice s.reserved)
unfolding slice_text
slice_rest s = simp (length-append, length-bits_of) (omega arith)

pub slice_length : (s : SliceInfo) → s.intra_slice ≡ None → length (slice_text s) ≡ 6
slice_length s none = slice_rest s ∙ rw none (omega (arith, untold_length s.reserved))

pub slice_most : (s : SliceInfo) → length (slice_text s) ≤ 15
slice_most s = omega (arith, slice_rest s, intra_slice_most s.intra_slice s.reserved)

-- ---- room enough

pub sequence_most : (s : SequenceInfo) → length (sequence_text s) ≤ 1088
sequence_most s = omega (arith, sequence_length s, loaded_most s.load_intra, loaded_most s.load_non_intra)

pub matrices_most : (m : MatrixInfo) → length (matrices_text m) ≤ 2056
matrices_most m = omega (arith, matrices_length m, loaded_most m.intra, loaded_most m.non_intra, loaded_most m.chroma_intra, loaded_most m.chroma_non_intra)

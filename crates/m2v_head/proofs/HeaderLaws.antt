-- The headers are lawful: what is read stands there, and what is refused is broken so. Each takes something.
use Rattle.std.proofs.Common.{length, arith, None}
use Rattle.m2v_bits.proofs.SyntaxLaws.{Lawful, Strict, done_lawful, here_lawful, rule_lawful, seq_lawful, seq_strict, choose_lawful}
use Rattle.m2v_head.specs.Headers.{sequence_at, chroma_format_at, sequence_extension_at, group_at, kind_at, vectors_at, picture_at, f_codes_at, display_at, composite_at, picture_extension_at, matrices_at, intra_slice_at, slice_at}
use Rattle.m2v_head.proofs.ElementLaws.{number_strict, number_lawful, flag_strict, marker_strict, id_strict, some_strict, pairs_strict}
use Rattle.m2v_head.proofs.MatrixLaws.{loaded_strict}

pub sequence_strict : Strict length sequence_at
unfolding sequence_at
sequence_strict =
    seq_strict (number_strict 12 (omega arith)) (λ horizontal_size.
    seq_lawful (number_lawful 12) (λ vertical_size.
    seq_lawful (number_lawful 4) (λ aspect.
    seq_lawful (number_lawful 4) (λ frame_rate_code.
    seq_lawful (number_lawful 18) (λ bit_rate.
    seq_lawful marker_strict.lawful (λ marker.
    seq_lawful (number_lawful 10) (λ vbv_buffer_size.
    seq_lawful flag_strict.lawful (λ constrained.
    seq_lawful (loaded_strict 9).lawful (λ load_intra.
    seq_lawful (loaded_strict 10).lawful (λ load_non_intra.
    done_lawful length _))))))))))

chroma_format_lawful : Lawful length chroma_format_at
unfolding chroma_format_at
chroma_format_lawful =
    seq_lawful (here_lawful length length) (λ at.
    seq_lawful (number_lawful 2) (λ format.
    seq_lawful (rule_lawful length _ _ at) (λ some.
    seq_lawful (rule_lawful length _ _ at) (λ known.
    done_lawful length _))))

pub sequence_extension_strict : Strict length sequence_extension_at
unfolding sequence_extension_at
sequence_extension_strict =
    seq_strict (id_strict 1) (λ id.
    seq_lawful (number_lawful 8) (λ profile_and_level.
    seq_lawful flag_strict.lawful (λ progressive_sequence.
    seq_lawful chroma_format_lawful (λ chroma_format.
    seq_lawful (number_lawful 2) (λ horizontal_ext.
    seq_lawful (number_lawful 2) (λ vertical_ext.
    seq_lawful (number_lawful 12) (λ bit_rate_ext.
    seq_lawful marker_strict.lawful (λ marker.
    seq_lawful (number_lawful 8) (λ vbv_ext.
    seq_lawful flag_strict.lawful (λ low_delay.
    seq_lawful (number_lawful 2) (λ rate_n.
    seq_lawful (number_lawful 5) (λ rate_d.
    done_lawful length _))))))))))))

pub group_strict : Strict length group_at
unfolding group_at
group_strict =
    seq_strict flag_strict (λ drop_frame.
    seq_lawful (number_lawful 5) (λ hours.
    seq_lawful (number_lawful 6) (λ minutes.
    seq_lawful marker_strict.lawful (λ marker.
    seq_lawful (number_lawful 6) (λ seconds.
    seq_lawful (number_lawful 6) (λ pictures.
    seq_lawful flag_strict.lawful (λ closed_gop.
    seq_lawful flag_strict.lawful (λ broken_link.
    done_lawful length _))))))))

kind_lawful : Lawful length kind_at
unfolding kind_at
kind_lawful =
    seq_lawful (here_lawful length length) (λ at.
    seq_lawful (number_lawful 3) (λ kind.
    seq_lawful (rule_lawful length _ _ at) (λ allowed.
    seq_lawful (rule_lawful length _ _ at) (λ known.
    done_lawful length _))))

vectors_lawful : Lawful length vectors_at
unfolding vectors_at
vectors_lawful = seq_lawful flag_strict.lawful (λ full_pel. seq_lawful (number_lawful 3) (λ f_code. done_lawful length _))

pub picture_strict : Strict length picture_at
unfolding picture_at
picture_strict =
    seq_strict (number_strict 10 (omega arith)) (λ temporal_reference.
    seq_lawful kind_lawful (λ kind.
    seq_lawful (number_lawful 16) (λ vbv_delay.
    seq_lawful (choose_lawful _ vectors_lawful (done_lawful length _)) (λ forward.
    seq_lawful (choose_lawful _ vectors_lawful (done_lawful length _)) (λ backward.
    seq_lawful pairs_strict.lawful (λ extra.
    done_lawful length _))))))

f_codes_lawful : Lawful length f_codes_at
unfolding f_codes_at
f_codes_lawful =
    seq_lawful (number_lawful 4) (λ forward_horizontal.
    seq_lawful (number_lawful 4) (λ forward_vertical.
    seq_lawful (number_lawful 4) (λ backward_horizontal.
    seq_lawful (number_lawful 4) (λ backward_vertical.
    done_lawful length _))))

display_lawful : Lawful length display_at
unfolding display_at
display_lawful = seq_lawful (number_lawful 20) (λ display. done_lawful length _)

composite_lawful : Lawful length composite_at
unfolding composite_at
composite_lawful = seq_lawful flag_strict.lawful (λ composite. choose_lawful composite display_lawful (done_lawful length None))

pub picture_extension_strict : Strict length picture_extension_at
unfolding picture_extension_at
picture_extension_strict =
    seq_strict (id_strict 8) (λ id.
    seq_lawful f_codes_lawful (λ f_code.
    seq_lawful (number_lawful 2) (λ dc_precision.
    seq_lawful (some_strict 7 2 (omega arith)).lawful (λ structure.
    seq_lawful flag_strict.lawful (λ top_field_first.
    seq_lawful flag_strict.lawful (λ frame_pred_frame_dct.
    seq_lawful flag_strict.lawful (λ concealment.
    seq_lawful flag_strict.lawful (λ q_scale_type.
    seq_lawful flag_strict.lawful (λ intra_vlc_format.
    seq_lawful flag_strict.lawful (λ alternate_scan.
    seq_lawful flag_strict.lawful (λ repeat_first_field.
    seq_lawful flag_strict.lawful (λ chroma_420_type.
    seq_lawful flag_strict.lawful (λ progressive_frame.
    seq_lawful composite_lawful (λ composite.
    done_lawful length _))))))))))))))

pub matrices_strict : Strict length matrices_at
unfolding matrices_at
matrices_strict =
    seq_strict (id_strict 3) (λ id.
    seq_lawful (loaded_strict 2).lawful (λ intra.
    seq_lawful (loaded_strict 3).lawful (λ non_intra.
    seq_lawful (loaded_strict 4).lawful (λ chroma_intra.
    seq_lawful (loaded_strict 5).lawful (λ chroma_non_intra.
    done_lawful length _)))))

intra_slice_lawful : Lawful length intra_slice_at
unfolding intra_slice_at
intra_slice_lawful =
    seq_lawful flag_strict.lawful (λ intra_slice.
    seq_lawful (number_lawful 7) (λ reserved.
    seq_lawful pairs_strict.lawful (λ extra.
    done_lawful length _)))

pub slice_strict : Strict length slice_at
unfolding slice_at
slice_strict =
    seq_strict (some_strict 1 5 (omega arith)) (λ quantiser.
    seq_lawful flag_strict.lawful (λ told.
    seq_lawful (choose_lawful told intra_slice_lawful (done_lawful length _)) (λ behind.
    done_lawful length _)))

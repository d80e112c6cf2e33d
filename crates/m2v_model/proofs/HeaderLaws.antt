-- The headers in their units are lawful.
use Rattle.std.proofs.Common.{ℕ, Bool, length, Option}
use Rattle.m2v_bits.proofs.SyntaxLaws.{Lawful, done_lawful, here_lawful, rule_lawful, seq_lawful, renamed_lawful}
use Rattle.m2v_bits.proofs.LeafLaws.{end_lawful}
use Rattle.m2v_macroblock.specs.m2v_head.declared.sequence.SequenceInfo.{SequenceInfo}
use Rattle.m2v_macroblock.specs.m2v_head.declared.picture.PictureInfo.{PictureInfo}
use Rattle.m2v_macroblock.proofs.m2v_head.HeaderLaws.{sequence_strict, sequence_extension_strict, group_strict, picture_strict, picture_extension_strict, matrices_strict}
use Rattle.m2v_model.specs.declared.fault.FaultKind.TheVariants.{Unsupported, Forbidden}
use Rattle.m2v_model.specs.Faults.{InUnit, of_head}
use Rattle.m2v_model.specs.Headers.{whole_header, size_at, sequence_extension_in, picture_in, f_code_at, f_codes_at, picture_extension_in, sequence_in, group_in, matrices_in}
use Rattle.m2v_model.proofs.LookLaws.{look_lawful}

pub whole_header_lawful : {V : Type 0} {s : InUnit V} → Lawful length s → Lawful length (whole_header s)
unfolding whole_header
whole_header_lawful ls = seq_lawful ls (λ header. seq_lawful (end_lawful Forbidden) (λ end. done_lawful length header))

size_lawful : (low most : ℕ) (format ext : Option ℕ) (at : ℕ) → Lawful length (size_at low most format ext at)
unfolding size_at
size_lawful low most format ext at = seq_lawful (rule_lawful length _ Forbidden at) (λ some. rule_lawful length _ Unsupported at)

pub sequence_extension_lawful : (info : SequenceInfo) → Lawful length (sequence_extension_in info)
unfolding sequence_extension_in
sequence_extension_lawful info =
    seq_lawful (here_lawful length length) (λ at.
    seq_lawful (look_lawful 13 2) (λ format.
    seq_lawful (look_lawful 15 2) (λ horizontal.
    seq_lawful (size_lawful _ 1920 format horizontal _) (λ width.
    seq_lawful (look_lawful 17 2) (λ vertical.
    seq_lawful (size_lawful _ 1152 format vertical _) (λ height.
    renamed_lawful of_head sequence_extension_strict.lawful))))))

pub picture_lawful : Lawful length picture_in
unfolding picture_in
picture_lawful = renamed_lawful of_head picture_strict.lawful

f_code_lawful : (used : Bool) (at from : ℕ) → Lawful length (f_code_at used at from)
unfolding f_code_at
f_code_lawful used at from = seq_lawful (look_lawful from 4) (λ code. rule_lawful length _ Forbidden _)

f_codes_lawful : (kind at : ℕ) → Lawful length (f_codes_at kind at)
unfolding f_codes_at
f_codes_lawful kind at =
    seq_lawful (look_lawful 26 1) (λ concealment.
    seq_lawful (f_code_lawful _ at 4) (λ forward_horizontal.
    seq_lawful (f_code_lawful _ at 8) (λ forward_vertical.
    seq_lawful (f_code_lawful _ at 12) (λ backward_horizontal.
    f_code_lawful _ at 16))))

pub picture_extension_lawful : (progressive : Bool) (info : PictureInfo) → Lawful length (picture_extension_in progressive info)
unfolding picture_extension_in
picture_extension_lawful progressive info =
    seq_lawful (here_lawful length length) (λ at.
    seq_lawful (f_codes_lawful _ at) (λ codes.
    seq_lawful (look_lawful 22 2) (λ structure.
    seq_lawful (rule_lawful length _ Forbidden _) (λ allowed.
    renamed_lawful of_head picture_extension_strict.lawful))))

pub sequence_lawful : Lawful length sequence_in
unfolding sequence_in
sequence_lawful = renamed_lawful of_head sequence_strict.lawful

pub group_lawful : Lawful length group_in
unfolding group_in
group_lawful = renamed_lawful of_head group_strict.lawful

pub matrices_lawful : Lawful length matrices_in
unfolding matrices_in
matrices_lawful = renamed_lawful of_head matrices_strict.lawful

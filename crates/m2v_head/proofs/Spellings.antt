-- What is written of a header spells it.
use Rattle.std.proofs.Common.{◌≡◌, ◌≢◌, ℕ, zero, suc, ◌<◌, ◌≤◌, ◌^◌, Bool, true, false, cond, List, [], ◌++◌, length, Option, Some, None, refl, sym, ap, subst, ◌∙◌, arith, append_assoc}
use Rattle.std.specs.Prelude.{not, nat_eq, nat_le, nat_lt, ◌&&◌, IfSome, IfNone}
use Rattle.std.proofs.lemmas.Bool.{and_from, le-leb, lt-ltb, eqb-true, eqb-false}
use Rattle.m2v_bits.specs.Bits.{bits_of}
use Rattle.m2v_bits.specs.Syntax.{Syntax, done, seq, choose, Spells}
use Rattle.m2v_bits.proofs.LeafLaws.{done_spells, seq_spells, here_spells, rule_spells, first_spells, second_spells}
use Rattle.m2v_head.specs.declared.sequence.SequenceInfo.{SequenceInfo}
use Rattle.m2v_head.specs.declared.sequence.SequenceExtension.{SequenceExtension}
use Rattle.m2v_head.specs.declared.group.GroupInfo.{GroupInfo}
use Rattle.m2v_head.specs.declared.picture.PictureInfo.{PictureInfo}
use Rattle.m2v_head.specs.declared.picture.PictureExtension.{PictureExtension}
use Rattle.m2v_head.specs.declared.matrix.MatrixInfo.{MatrixInfo}
use Rattle.m2v_head.specs.declared.slice.SliceInfo.{SliceInfo}
use Rattle.m2v_head.specs.declared.fault.HeadFault.TheVariants.{Forbidden, Unsupported}
use Rattle.m2v_head.specs.Texts.{flag, sequence_text, rates_text, sequence_extension_text, group_text, directions_text, picture_text, f_codes_text, f_code_of, composite_text, flags_text, picture_extension_text, matrices_text, intra_slice_text, slice_text}
use Rattle.m2v_head.specs.Fits.{SequenceFits, SequenceExtensionFits, GroupFits, PictureFits, AreFCodes, PictureExtensionFits, MatrixFits, SliceFits}
use Rattle.m2v_head.specs.Headers.{sequence_at, chroma_format_at, sequence_extension_at, group_at, kind_at, vectors_at, picture_at, f_codes_at, display_at, composite_at, picture_extension_at, matrices_at, intra_slice_at, slice_at}
use Rattle.m2v_head.specs.Elements.{flag_at}
use Rattle.m2v_bits.proofs.ElementLaws.{then_spells}
use Rattle.m2v_head.proofs.ElementLaws.{number_spells, flag_spells, marker_spells, id_spells, some_spells, pairs_spells, last_spells, whole_spells, same_spells, some_of}
use Rattle.m2v_head.proofs.MatrixLaws.{loaded_spells}

pub sequence_spells : (s : SequenceInfo) → SequenceFits s → Spells sequence_at s (sequence_text s)
unfolding sequence_at sequence_text
sequence_spells s fits =
    then_spells _ (number_spells 12 s.horizontal_size fits.horizontal_size) (
    then_spells _ (number_spells 12 s.vertical_size fits.vertical_size) (
    then_spells _ (number_spells 4 s.aspect fits.aspect) (
    then_spells _ (number_spells 4 s.frame_rate_code fits.frame_rate_code) (
    then_spells _ (number_spells 18 s.bit_rate fits.bit_rate) (
    then_spells _ marker_spells (
    then_spells _ (number_spells 10 s.vbv_buffer_size fits.vbv_buffer_size) (
    then_spells _ (flag_spells s.constrained) (
    then_spells _ (loaded_spells 9 s.load_intra fits.load_intra) (
    last_spells s.load_non_intra _ _ (loaded_spells 10 s.load_non_intra fits.load_non_intra))))))))))

chroma_format_spells : Spells chroma_format_at 1 (bits_of 2 1)
unfolding chroma_format_at
chroma_format_spells = here_spells length _ 1 (bits_of 2 1) (λ at. whole_spells (
    then_spells _ (number_spells 2 1 (omega arith)) (
    rule_spells true (Forbidden 4) at _ 1 [] refl (
    rule_spells true (Unsupported 4 1) at _ 1 [] refl (
    done_spells 1)))))

pub sequence_extension_spells : (s : SequenceExtension) → SequenceExtensionFits s → Spells sequence_extension_at s (sequence_extension_text s)
unfolding sequence_extension_at sequence_extension_text rates_text
sequence_extension_spells s fits =
    then_spells _ (id_spells 1 (omega arith)) (
    then_spells _ (number_spells 8 s.profile_and_level fits.profile_and_level) (
    then_spells _ (flag_spells s.progressive_sequence) (
    then_spells _ (subst (λ (v : ℕ). Spells chroma_format_at v (bits_of 2 v)) (sym fits.chroma_format) chroma_format_spells) (
    then_spells _ (number_spells 2 s.horizontal_ext fits.horizontal_ext) (
    then_spells _ (number_spells 2 s.vertical_ext fits.vertical_ext) (
    then_spells _ (number_spells 12 s.bit_rate_ext fits.bit_rate_ext) (
    then_spells _ marker_spells (
    then_spells _ (number_spells 8 s.vbv_ext fits.vbv_ext) (
    then_spells _ (flag_spells s.low_delay) (
    then_spells _ (number_spells 2 s.rate_n fits.rate_n) (
    last_spells s.rate_d _ _ (number_spells 5 s.rate_d fits.rate_d))))))))))))

pub group_spells : (g : GroupInfo) → GroupFits g → Spells group_at g (group_text g)
unfolding group_at group_text
group_spells g fits =
    then_spells _ (flag_spells g.«drop») (
    then_spells _ (number_spells 5 g.hours fits.hours) (
    then_spells _ (number_spells 6 g.minutes fits.minutes) (
    then_spells _ marker_spells (
    then_spells _ (number_spells 6 g.seconds fits.seconds) (
    then_spells _ (number_spells 6 g.pictures fits.pictures) (
    then_spells _ (flag_spells g.closed_gop) (
    last_spells g.broken_link _ _ (flag_spells g.broken_link))))))))

kind_spells : (k : ℕ) → 1 ≤ k → k ≤ 3 → Spells kind_at k (bits_of 3 k)
unfolding kind_at
kind_spells k low high = here_spells length _ k (bits_of 3 k) (λ at. whole_spells (
    then_spells _ (number_spells 3 k (omega arith)) (
    rule_spells (nat_le 1 k && nat_le k 4) (Forbidden 2) at _ k [] (and_from (nat_le 1 k) (nat_le k 4) (le-leb 1 k low) (le-leb k 4 (omega arith))) (
    rule_spells (nat_lt k 4) (Unsupported 2 k) at _ k [] (lt-ltb k 4 (omega arith)) (
    done_spells k)))))

not_false : (b : Bool) → not b ≡ false → b ≡ true
not_false true e = refl
not_false false e = absurd cc

-- what stands of a direction
direction_text : Bool → Bool → ℕ → List Bool
direction_text told full_pel f_code = cond told (flag full_pel ++ bits_of 3 f_code) []

direction_spells : (told full_pel : Bool) (f_code : ℕ) → f_code < 2 ^ 3 → (told ≡ false → (full_pel ≡ false) × (f_code ≡ 0)) → Spells (choose told vectors_at (done (false, 0))) (full_pel, f_code) (direction_text told full_pel f_code)
unfolding vectors_at direction_text
direction_spells true full_pel f_code below none =
    first_spells true vectors_at (done (false, 0)) (full_pel, f_code) (flag full_pel ++ bits_of 3 f_code) refl (
    then_spells _ (flag_spells full_pel) (
    last_spells f_code _ _ (number_spells 3 f_code below)))
direction_spells false full_pel f_code below none =
    rw ((none refl).0, (none refl).1) (second_spells false vectors_at (done (false, 0)) (false, 0) [] refl (done_spells (false, 0)))

directions_is : (p : PictureInfo) (k : ℕ) → p.kind ≡ k → 1 ≤ k → k ≤ 3 → directions_text p ≡ direction_text (not (nat_eq p.kind 1)) p.full_pel_forward p.forward_f_code ++ direction_text (nat_eq p.kind 3) p.full_pel_backward p.backward_f_code
unfolding directions_text direction_text
directions_is p zero is low high = absurd (omega arith)
directions_is p (suc zero) is low high = rw is refl
directions_is p (suc (suc zero)) is low high = rw is refl
directions_is p (suc (suc (suc zero))) is low high = rw is refl
directions_is p (suc (suc (suc (suc k)))) is low high = absurd (omega arith)

pub picture_spells : (p : PictureInfo) → PictureFits p → Spells picture_at p (picture_text p)
unfolding picture_at picture_text
picture_spells p fits =
    let told : (nat_eq p.kind 3 ≡ false) → p.kind ≢ 3 = λ off is. eqb-false p.kind 3 off is in
    let intra : (not (nat_eq p.kind 1) ≡ false) → p.kind ≡ 1 = λ off. eqb-true p.kind 1 (not_false (nat_eq p.kind 1) off) in
    then_spells _ (number_spells 10 p.temporal_reference fits.temporal_reference) (
    then_spells _ (kind_spells p.kind fits.kind.0 fits.kind.1) (
    then_spells _ (number_spells 16 p.vbv_delay fits.vbv_delay) (
    same_spells (sym (append_assoc (direction_text (not (nat_eq p.kind 1)) p.full_pel_forward p.forward_f_code) (direction_text (nat_eq p.kind 3) p.full_pel_backward p.backward_f_code) (flag false)) ∙ ap (λ (x : List Bool). x ++ flag false) (sym (directions_is p p.kind refl fits.kind.0 fits.kind.1))) (
    then_spells _ (direction_spells (not (nat_eq p.kind 1)) p.full_pel_forward p.forward_f_code fits.forward_f_code (λ off. fits.forward (intra off))) (
    then_spells _ (direction_spells (nat_eq p.kind 3) p.full_pel_backward p.backward_f_code fits.backward_f_code (λ off. fits.backward (told off))) (
    last_spells tt _ _ pairs_spells))))))

f_codes_spells : (f : List (List ℕ)) → AreFCodes f → Spells f_codes_at f (f_codes_text f)
unfolding f_codes_at
f_codes_spells f fits = subst (λ (v : List (List ℕ)). Spells f_codes_at v (f_codes_text f)) (sym fits.shape) (
    then_spells _ (number_spells 4 (f_code_of f 0 0) fits.forward_horizontal) (
    then_spells _ (number_spells 4 (f_code_of f 0 1) fits.forward_vertical) (
    then_spells _ (number_spells 4 (f_code_of f 1 0) fits.backward_horizontal) (
    last_spells (f_code_of f 1 1) _ _ (number_spells 4 (f_code_of f 1 1) fits.backward_vertical)))))

display_spells : (v : ℕ) → v < 2 ^ 20 → Spells display_at (Some v) (bits_of 20 v)
unfolding display_at
display_spells v below = last_spells v (λ display. Some display) (bits_of 20 v) (number_spells 20 v below)

composite_spells : (c : Option ℕ) → IfSome c (λ v. v < 2 ^ 20) → Spells composite_at c (composite_text c)
unfolding composite_at composite_text
composite_spells None fits = whole_spells (then_spells (λ told. choose told display_at (done None)) (flag_spells false) (second_spells false display_at (done None) None [] refl (done_spells None)))
composite_spells (Some v) fits = then_spells (λ told. choose told display_at (done None)) (flag_spells true) (first_spells true display_at (done None) (Some v) (bits_of 20 v) refl (display_spells v fits))

pub picture_extension_spells : (p : PictureExtension) → PictureExtensionFits p → Spells picture_extension_at p (picture_extension_text p)
unfolding picture_extension_at picture_extension_text flags_text
picture_extension_spells p fits =
    then_spells _ (id_spells 8 (omega arith)) (
    then_spells _ (f_codes_spells p.f_code fits.f_code) (
    then_spells _ (number_spells 2 p.dc_precision fits.dc_precision) (
    then_spells _ (some_spells 7 2 p.structure (omega (arith, fits.structure.1)) (some_of p.structure fits.structure.0)) (
    then_spells _ (flag_spells p.top_field_first) (
    then_spells _ (flag_spells p.frame_pred_frame_dct) (
    then_spells _ (flag_spells p.concealment) (
    then_spells _ (flag_spells p.q_scale_type) (
    then_spells _ (flag_spells p.intra_vlc_format) (
    then_spells _ (flag_spells p.alternate_scan) (
    then_spells _ (flag_spells p.repeat_first_field) (
    then_spells _ (flag_spells p.chroma_420_type) (
    then_spells _ (flag_spells p.progressive_frame) (
    last_spells p.composite _ _ (composite_spells p.composite fits.composite))))))))))))))

pub matrices_spells : (m : MatrixInfo) → MatrixFits m → Spells matrices_at m (matrices_text m)
unfolding matrices_at matrices_text
matrices_spells m fits =
    then_spells _ (id_spells 3 (omega arith)) (
    then_spells _ (loaded_spells 2 m.intra fits.intra) (
    then_spells _ (loaded_spells 3 m.non_intra fits.non_intra) (
    then_spells _ (loaded_spells 4 m.chroma_intra fits.chroma_intra) (
    last_spells m.chroma_non_intra _ _ (loaded_spells 5 m.chroma_non_intra fits.chroma_non_intra)))))

intra_slice_spells : (intra_slice : Bool) (reserved : ℕ) → reserved < 2 ^ 7 → Spells intra_slice_at (Some intra_slice, reserved) (flag intra_slice ++ (bits_of 7 reserved ++ flag false))
unfolding intra_slice_at
intra_slice_spells intra_slice reserved below =
    then_spells _ (flag_spells intra_slice) (
    then_spells _ (number_spells 7 reserved below) (
    last_spells tt _ _ pairs_spells))

abbrev slice_of : ℕ → Option Bool × ℕ → SliceInfo
slice_of quantiser behind = record { quantiser = quantiser; intra_slice = behind.0; reserved = behind.1 }

-- what stands behind the quantiser
behind_spells : (quantiser : ℕ) (intra_slice : Option Bool) (reserved : ℕ) → reserved < 2 ^ 7 → IfNone intra_slice (reserved ≡ 0)
    → Spells (seq flag_at (λ told. seq (choose told intra_slice_at (done (None, 0))) (λ behind. done (slice_of quantiser behind)))) (slice_of quantiser (intra_slice, reserved)) (intra_slice_text intra_slice reserved ++ flag false)
unfolding intra_slice_text
behind_spells quantiser None reserved below none =
    rw none (then_spells _ (flag_spells false) (last_spells (None, 0) (slice_of quantiser) [] (second_spells false intra_slice_at (done (None, 0)) (None, 0) [] refl (done_spells (None, 0)))))
behind_spells quantiser (Some intra_slice) reserved below none =
    then_spells _ (flag_spells true) (last_spells (Some intra_slice, reserved) (slice_of quantiser) (flag intra_slice ++ (bits_of 7 reserved ++ flag false)) (first_spells true intra_slice_at (done (None, 0)) (Some intra_slice, reserved) (flag intra_slice ++ (bits_of 7 reserved ++ flag false)) refl (intra_slice_spells intra_slice reserved below)))

pub slice_spells : (s : SliceInfo) → SliceFits s → Spells slice_at s (slice_text s)
unfolding slice_at slice_text
slice_spells s fits =
    then_spells _ (some_spells 1 5 s.quantiser (omega (arith, fits.quantiser.1)) (some_of s.quantiser fits.quantiser.0)) (
    behind_spells s.quantiser s.intra_slice s.reserved fits.reserved fits.untold)

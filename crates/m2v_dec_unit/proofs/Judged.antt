-- What is looked at ahead is what is read behind it, so the rules that look ahead hold of what was read.
use Rattle.std.proofs.Common.{◌≡◌, ℕ, zero, suc, ◌+◌, ◌*◌, ◌/◌, ◌≤◌, Bool, true, false, List, Option, Some, Ok, Err, Result, refl, sym, ap, ◌∙◌, arith}
use Rattle.std.specs.Prelude.{nat_eq, nat_le, not, ◌||◌, if◌then◌else◌}
use Rattle.std.proofs.lemmas.Bool.{leb-true}
use Rattle.m2v_bits.specs.Syntax.{bind, seq, here, rule, renamed, renamed_read, done}
use Rattle.m2v_bits.proofs.SyntaxLaws.{good}
use Rattle.m2v_head.specs.declared.fault.HeadFault.{HeadFault}
use Rattle.m2v_head.specs.declared.sequence.SequenceInfo.{SequenceInfo}
use Rattle.m2v_head.specs.declared.sequence.SequenceExtension.{SequenceExtension}
use Rattle.m2v_head.specs.declared.picture.PictureInfo.{PictureInfo}
use Rattle.m2v_head.specs.declared.picture.PictureExtension.{PictureExtension}
use Rattle.m2v_head.specs.Fits.{SequenceExtensionFits, PictureExtensionFits}
use Rattle.m2v_head.specs.Texts.{f_code_of}
use Rattle.m2v_head.specs.Headers as head
use Rattle.m2v_head.proofs.HeaderLaws.{sequence_extension_strict, picture_extension_strict}
use Rattle.m2v_model.specs.declared.fault.FaultKind.{FaultKind}
use Rattle.m2v_model.specs.declared.fault.FaultKind.TheVariants.{Forbidden, Unsupported}
use Rattle.m2v_model.specs.Faults.{of_head}
use Rattle.m2v_model.specs.Looking.{number_from, look, passes}
use Rattle.m2v_model.specs.Headers.{size_of, size_passes, size_at, sequence_extension_in, is_f_code, uses_forward, uses_backward, f_code_at, f_codes_at, picture_extension_in}
use Rattle.m2v_dec_unit.specs.Reads.{IsReadSequence, IsReadPicture}
use Rattle.m2v_dec_unit.proofs.Further.{skip_more, number_is, flag_is, id_skips, some_is, format_is, f_codes_ahead}
use Rattle.m2v_dec_unit.proofs.Cuts.{both_true}

-- ---- what stands further on in a header

pub record ExtensionAhead (e : SequenceExtension) (t : List Bool) : Type 0 where
  pub format : number_from 13 2 t ≡ Some e.chroma_format
  pub width : number_from 15 2 t ≡ Some e.horizontal_ext
  pub height : number_from 17 2 t ≡ Some e.vertical_ext

extension_ahead : (e : SequenceExtension) (t rest : List Bool) → head.sequence_extension_at.Stands e t rest → ExtensionAhead e t
unfolding head.sequence_extension_at seq done
extension_ahead e t rest st =
    let size = st.3.3.3.3 in
    let whole = size.3.3.3.3.3.3.3.3.0 in
    let bit = flag_is _ _ _ st.3.3.2 in
    let format = format_is _ _ _ st.3.3.3.2 in
    let width = number_is 2 _ _ _ size.2 in
    let height = number_is 2 _ _ _ size.3.2 in
    let s12 = skip_more (id_skips 1 _ _ _ st.2) (number_is 8 _ _ _ st.3.2).skips in
    let s13 = skip_more s12 bit.2.skips in
    let s15 = skip_more s13 format.skips in
    let s17 = skip_more s15 width.skips in
    record {
      format = s13.on 0 2 ∙ format.number ∙ ap Some (ap (λ (x : SequenceExtension). x.chroma_format) (sym whole));
      width = s15.on 0 2 ∙ width.number ∙ ap Some (ap (λ (x : SequenceExtension). x.horizontal_ext) (sym whole));
      height = s17.on 0 2 ∙ height.number ∙ ap Some (ap (λ (x : SequenceExtension). x.vertical_ext) (sym whole));
    }

pub record PictureAhead (p : PictureExtension) (t : List Bool) : Type 0 where
  pub forward_horizontal : number_from 4 4 t ≡ Some (f_code_of p.f_code 0 0)
  pub forward_vertical : number_from 8 4 t ≡ Some (f_code_of p.f_code 0 1)
  pub backward_horizontal : number_from 12 4 t ≡ Some (f_code_of p.f_code 1 0)
  pub backward_vertical : number_from 16 4 t ≡ Some (f_code_of p.f_code 1 1)
  pub concealment : (v : ℕ) × (p.concealment ≡ nat_eq v 1) × (number_from 26 1 t ≡ Some v)

picture_ahead : (p : PictureExtension) (t rest : List Bool) → head.picture_extension_at.Stands p t rest → PictureAhead p t
unfolding head.picture_extension_at seq done
picture_ahead p t rest st =
    let s = st.3.3.3 in
    let whole = s.3.3.3.3.3.3.3.3.3.3.3.0 in
    let structure = some_is 7 2 _ _ _ s.2 in
    let first = flag_is _ _ _ s.3.2 in
    let frames = flag_is _ _ _ s.3.3.2 in
    let concealment = flag_is _ _ _ s.3.3.3.2 in
    let ahead = f_codes_ahead _ _ _ st.3.2 in
    let s4 = id_skips 8 _ _ _ st.2 in
    let s22 = skip_more s4 (skip_more ahead.skips (number_is 2 _ _ _ st.3.3.2).skips) in
    let s25 = skip_more s22 (skip_more structure.skips first.2.skips) in
    let s26 = skip_more s25 frames.2.skips in
    let told = λ (direction component : ℕ). ap Some (ap (λ (x : PictureExtension). f_code_of x.f_code direction component) (sym whole)) in
    record {
      forward_horizontal = s4.on 0 4 ∙ ahead.forward_horizontal ∙ told 0 0;
      forward_vertical = s4.on 4 4 ∙ ahead.forward_vertical ∙ told 0 1;
      backward_horizontal = s4.on 8 4 ∙ ahead.backward_horizontal ∙ told 1 0;
      backward_vertical = s4.on 12 4 ∙ ahead.backward_vertical ∙ told 1 1;
      concealment = (concealment.0, ap (λ (x : PictureExtension). x.concealment) whole ∙ concealment.1, s26.on 0 1 ∙ concealment.2.number);
    }

-- ---- rules that hold

-- where a rule stands before what is read, it holds
held : {A : Type 0} (b : Bool) (kind : FaultKind) (at : ℕ) (t : List Bool) (f : Unit {0} → List Bool → Result (A × List Bool) (FaultKind × ℕ)) (y : A × List Bool)
    → bind ((rule b kind at).read t) f ≡ good y → (b ≡ true) × (f tt t ≡ good y)
unfolding rule bind
held true kind at t f y e = (refl, e)
held false kind at t f y e = absurd cc

-- the same, where the rule is the first of several
first_held : {A : Type 0} (b : Bool) (kind : FaultKind) (at : ℕ) (t : List Bool) (g : Unit {0} → List Bool → Result (Unit {0} × List Bool) (FaultKind × ℕ)) (f : Unit {0} → List Bool → Result (A × List Bool) (FaultKind × ℕ)) (y : A × List Bool)
    → bind (bind ((rule b kind at).read t) g) f ≡ good y → (b ≡ true) × (bind (g tt t) f ≡ good y)
unfolding rule bind
first_held true kind at t g f y e = (refl, e)
first_held false kind at t g f y e = absurd cc

size_held : {A : Type 0} (low most : ℕ) (format ext : Option ℕ) (at : ℕ) (t : List Bool) (f : Unit {0} → List Bool → Result (A × List Bool) (FaultKind × ℕ)) (y : A × List Bool)
    → bind ((size_at low most format ext at).read t) f ≡ good y
    → (size_passes (λ size. not (nat_eq size 0)) low format ext ≡ true) × (size_passes (λ size. nat_le size most) low format ext ≡ true) × (f tt t ≡ good y)
unfolding size_at seq
size_held low most format ext at t f y e =
    let some = first_held _ Forbidden at t _ f y e in
    let most = held _ Unsupported at t f y some.1 in
    (some.0, most.0, most.1)

renamed_good : {V : Type 0} (r : Result (V × List Bool) (HeadFault × ℕ)) (y : V × List Bool) → renamed_read of_head r ≡ good y → r ≡ good y
renamed_good (Ok x) y e = cc
renamed_good (Err f) y e = absurd cc

size_passed : (test : ℕ → Bool) (low v one : ℕ) (format ext : Option ℕ) → format ≡ Some one → one ≡ 1 → ext ≡ Some v → size_passes test low format ext ≡ true → test (size_of low v) ≡ true
size_passed test low v one format ext f o e h = rw (f, o, e) at h

some : (n : ℕ) → not (nat_eq n 0) ≡ true → 1 ≤ n
some zero e = absurd cc
some (suc n) e = omega arith

-- ---- headers that are read

-- the rows that a height asks for (clause 6.3.3)
rows_fit : (progressive : Bool) (height : ℕ) → height ≤ 1152
    → let rows = if progressive then (height + 15) / 16 else 2 * ((height + 31) / 32) in ((height + 15) / 16 ≤ rows) × (rows ≤ 72)
rows_fit true height le = (omega arith, omega arith)
rows_fit false height le = (omega arith, omega arith)

pub sequence_is : (info : SequenceInfo) (e : SequenceExtension) (t rest : List Bool) → (sequence_extension_in info).read t ≡ good (e, rest) → SequenceExtensionFits e → IsReadSequence info e
unfolding sequence_extension_in seq bind here look renamed
sequence_is info e t rest read fits =
    let w = size_held _ 1920 _ _ _ t _ (e, rest) read in
    let h = size_held _ 1152 _ _ _ t _ (e, rest) w.2 in
    let ahead = extension_ahead e t rest (sequence_extension_strict.lawful.found e t rest (renamed_good _ (e, rest) h.2)) in
    let high = size_passed (λ size. nat_le size 1152) info.vertical_size e.vertical_ext e.chroma_format _ _ ahead.format fits.chroma_format ahead.height h.1 in
    let height = leb-true _ 1152 high in
    let rows = rows_fit e.progressive_sequence _ height in
    record {
      fits = fits;
      size = record {
        wide = some _ (size_passed (λ size. not (nat_eq size 0)) info.horizontal_size e.horizontal_ext e.chroma_format _ _ ahead.format fits.chroma_format ahead.width w.0);
        width = leb-true _ 1920 (size_passed (λ size. nat_le size 1920) info.horizontal_size e.horizontal_ext e.chroma_format _ _ ahead.format fits.chroma_format ahead.width w.1);
        tall = some _ (size_passed (λ size. not (nat_eq size 0)) info.vertical_size e.vertical_ext e.chroma_format _ _ ahead.format fits.chroma_format ahead.height h.0);
        height = height;
        mb_width = refl;
        covered = rows.0;
        mb_rows = rows.1;
      };
    }

-- an f_code that is used, where the rule on it holds
code_is : (used : Bool) (o : Option ℕ) (v : ℕ) → o ≡ Some v → (not used || passes is_f_code o) ≡ true → used ≡ true → (1 ≤ v) × (v ≤ 9)
code_is used o v e h u =
    let b = rw (u, e) at h in
    let both = both_true (nat_le 1 v) (nat_le v 9) b in
    (leb-true 1 v both.0, leb-true v 9 both.1)

-- concealment vectors are looked at ahead of the f_codes that they use
forward_is : (kind v : ℕ) (o : Option ℕ) (concealment : Bool) → o ≡ Some v → concealment ≡ nat_eq v 1 → (not (nat_eq kind 1) || concealment) ≡ true → uses_forward kind o ≡ true
forward_is kind v o concealment e c h = rw (e, sym c) h

pub record CodesHold (kind : ℕ) (t : List Bool) : Type 0 where
  pub forward_horizontal : (not (uses_forward kind (number_from 26 1 t)) || passes is_f_code (number_from 4 4 t)) ≡ true
  pub forward_vertical : (not (uses_forward kind (number_from 26 1 t)) || passes is_f_code (number_from 8 4 t)) ≡ true
  pub backward_horizontal : (not (uses_backward kind) || passes is_f_code (number_from 12 4 t)) ≡ true
  pub backward_vertical : (not (uses_backward kind) || passes is_f_code (number_from 16 4 t)) ≡ true

codes_held : {A : Type 0} (kind at : ℕ) (t : List Bool) (f : Unit {0} → List Bool → Result (A × List Bool) (FaultKind × ℕ)) (y : A × List Bool)
    → bind ((f_codes_at kind at).read t) f ≡ good y → CodesHold kind t × (f tt t ≡ good y)
unfolding f_codes_at f_code_at seq bind here look
codes_held kind at t f y e =
    let a = first_held _ Forbidden _ t _ f y e in
    let b = first_held _ Forbidden _ t _ f y a.1 in
    let c = first_held _ Forbidden _ t _ f y b.1 in
    let d = held _ Forbidden _ t f y c.1 in
    (record { forward_horizontal = a.0; forward_vertical = b.0; backward_horizontal = c.0; backward_vertical = d.0 }, d.1)

pub picture_is : (progressive : Bool) (info : PictureInfo) (p : PictureExtension) (t rest : List Bool) → (picture_extension_in progressive info).read t ≡ good (p, rest) → PictureExtensionFits p → IsReadPicture info p
unfolding picture_extension_in seq bind here look renamed
picture_is progressive info p t rest read fits =
    let codes = codes_held info.kind _ t _ (p, rest) read in
    let structure = held _ Forbidden _ t _ (p, rest) codes.1 in
    let ahead = picture_ahead p t rest (picture_extension_strict.lawful.found p t rest (renamed_good _ (p, rest) structure.1)) in
    let used = forward_is info.kind ahead.concealment.0 _ p.concealment ahead.concealment.2 ahead.concealment.1 in
    record {
      fits = fits;
      forward = λ h. record {
        horizontal = code_is _ _ _ ahead.forward_horizontal codes.0.forward_horizontal (used h);
        vertical = code_is _ _ _ ahead.forward_vertical codes.0.forward_vertical (used h);
      };
      backward = λ h. record {
        horizontal = code_is _ _ _ ahead.backward_horizontal codes.0.backward_horizontal h;
        vertical = code_is _ _ _ ahead.backward_vertical codes.0.backward_vertical h;
      };
    }

-- What status 0 says: the command was done, and the whole line of that is on report.
use Rattle.std.proofs.Common.{◌≡◌, inl, inr, ℕ, Bool, true, false, suc, Option, refl, sym, ◌∙◌, arith, subst}
use Rattle.std.specs.Prelude.{◌==◌, ◌&&◌, nat_eq, if◌then◌else◌}
use Rattle.std.proofs.lemmas.Bool.{cases_Bool, cond-true, cond-false, eq-eqb, eqb-true}
use Rattle.clap.specs.Walk.{Text}
use Rattle.m2v_port.specs.Port.{Grows}
use Rattle.m2v_port.specs.declared.error.PortError.{PortError}
use Rattle.m2v_port.specs.declared.error.PortError.TheVariants as calls
use Rattle.m2v_y4m.specs.declared.answer.EncodeFault.{EncodeFault}
use Rattle.m2v_y4m.specs.declared.answer.EncodeFault.TheVariants as packing
use Rattle.m2v_y4m.specs.declared.answer.UnpackError.{UnpackError}
use Rattle.m2v_y4m.specs.declared.answer.UnpackError.TheVariants as unpacking
use Rattle.m2v_y4m.specs.declared.answer.Y4mError.{Y4mError}
use Rattle.m2v_y4m.specs.declared.answer.Y4mError.TheVariants as opening_errors
use Rattle.m2v_y4m.specs.declared.header.Y4mHeader.{Y4mHeader}
use Rattle.m2v_y4m.specs.Answers.{Unpacked as AllUnpacked}
use Rattle.m2v_flat.specs.declared.answer.EncodeError.{EncodeError as FlatError}
use Rattle.m2v_flat.specs.declared.answer.EncodeError.TheVariants as flat_errors
use Rattle.m2v_dec_piece.specs.declared.answer.DecodeError.{DecodeError}
use Rattle.m2v_dec_piece.specs.declared.answer.DecodeError.TheVariants as decode_errors
use Rattle.m2v_cut.specs.declared.answer.CutError.{CutError}
use Rattle.m2v_cut.specs.declared.answer.CutError.TheVariants as cut_errors
use Rattle.m2v_make.specs.m2v_encode.declared.answer.EncodeError.{EncodeError}
use Rattle.m2v_make.specs.m2v_encode.declared.answer.EncodeError.TheVariants as errors
use Rattle.m2v_make.specs.m2v_check.declared.verdict.Verdict.TheVariants as verdicts
use Rattle.m2v_vbv.specs.declared.fault.AccountFault.{AccountFault}
use Rattle.m2v_vbv.specs.declared.fault.AccountFault.TheVariants.{Under, Over}
use Rattle.m2v_make.specs.declared.answer.MakeError.{MakeError}
use Rattle.m2v_make.specs.declared.answer.MakeError.TheVariants as make_errors
use Rattle.m2v_make.specs.Making.{Makes}
use Rattle.m2v_audit.specs.declared.outcome.Ending.{Ending as Audited}
use Rattle.m2v_audit.specs.declared.outcome.Ending.TheVariants as audits
use Rattle.m2v_audit.specs.declared.words.LimitKind.TheVariants as limits
use Rattle.m2v_audit.specs.declared.records.TotalRecord.{TotalRecord}
use Rattle.m2v_audit.specs.declared.asked.Asked.{Asked}
use Rattle.m2v_mend.specs.declared.answer.Answer.{Answer}
use Rattle.m2v_mend.specs.declared.answer.Answer.TheVariants as answers
use Rattle.m2v_mend.specs.declared.answer.MendError.{MendError}
use Rattle.m2v_mend.specs.declared.answer.MendError.TheVariants as mend_errors
use Rattle.m2v_mend.specs.Answers.{answer_told}
use Rattle.m2v_mend.specs.m2v_law_seam.Told.{status_of}
use Rattle.m2v_tool.specs.declared.mend.MendOutcome.{MendOutcome}
use Rattle.m2v_tool.specs.declared.mend.MendOutcome.TheVariants as mends
use Rattle.m2v_tool.specs.declared.audit.AuditOutcome.{AuditOutcome}
use Rattle.m2v_tool.specs.declared.audit.AuditOutcome.TheVariants.{Reported, Stopped}
use Rattle.m2v_tool.specs.declared.flat.FlatOutcome.{FlatOutcome}
use Rattle.m2v_tool.specs.declared.flat.FlatOutcome.TheVariants as flats
use Rattle.m2v_tool.specs.declared.flat.FlatWords.{FlatWords}
use Rattle.m2v_tool.specs.declared.encode.EncodeOutcome.{EncodeOutcome}
use Rattle.m2v_tool.specs.declared.encode.EncodeOutcome.TheVariants as encodes
use Rattle.m2v_tool.specs.declared.decode.DecodeOutcome.{DecodeOutcome}
use Rattle.m2v_tool.specs.declared.decode.DecodeOutcome.TheVariants as decodes
use Rattle.m2v_tool.specs.declared.check.CheckOutcome.{CheckOutcome}
use Rattle.m2v_tool.specs.declared.check.CheckOutcome.TheVariants as checks
use Rattle.m2v_tool.specs.declared.make.MakeOutcome.{MakeOutcome}
use Rattle.m2v_tool.specs.declared.make.MakeOutcome.TheVariants as makes
use Rattle.m2v_tool.specs.declared.cut.CutOutcome.{CutOutcome}
use Rattle.m2v_tool.specs.declared.cut.CutOutcome.TheVariants as cuts
use Rattle.m2v_tool.specs.declared.cut.CutWords.{CutWords}
use Rattle.m2v_tool.specs.declared.pack.PackOutcome.{PackOutcome}
use Rattle.m2v_tool.specs.declared.pack.PackOutcome.TheVariants as packs
use Rattle.m2v_tool.specs.declared.unpack.UnpackOutcome.{UnpackOutcome}
use Rattle.m2v_tool.specs.declared.unpack.UnpackOutcome.TheVariants as unpacks
use Rattle.m2v_tool.specs.declared.encode_y4m.Y4mOutcome.{Y4mOutcome}
use Rattle.m2v_tool.specs.declared.encode_y4m.Y4mOutcome.TheVariants as texts
use Rattle.m2v_model.specs.Pieces.{too_long, too_large}
use Rattle.m2v_tool.specs.Endings.{Ending, Success, line_of, Told, whole, cut, unfit_ending, unopened_ending, ending_past, stream_fault, y4m_fault}
use Rattle.m2v_tool.specs.Stops.{coding_stopped, cutting_stopped, decoding_stopped, encoding_stopped, making_stopped, mending_stopped, packing_stopped, unpacking_stopped, unread_ending}
use Rattle.m2v_tool.specs.EncodeWords.{Meant}
use Rattle.m2v_tool.specs.Coding.{FlatDone, FlatComes, flat_ending, flat_coded_ending}
use Rattle.m2v_tool.specs.Encoding.{EncodeDone, EncodeComes, encoded_ending, encode_ending}
use Rattle.m2v_tool.specs.Decoding.{DecodeDone, DecodeComes, shown_ending, decode_ending}
use Rattle.m2v_tool.specs.Checking.{CheckComes, HasPassed, lawful_ending, variable_ending, account_ending, verdict_ending, check_ending}
use Rattle.m2v_tool.specs.Auditing.{AuditDone, AuditComes, clean_ending, found_ending, whole_ending, limit_ending, audited_ending, audit_ending}
use Rattle.m2v_tool.specs.Mending.{MendRead, MendComes, MendDone, told_ending, mended_ending, mend_ending}
use Rattle.m2v_tool.specs.Making.{MakeComes, made_ending, make_ending}
use Rattle.m2v_tool.specs.Cutting.{CutDone, CutComes, none_asked, cut_out_ending, cut_ending}
use Rattle.m2v_tool.specs.Packing.{PackDone, PackComes, UnpackComes, packed_ending, pack_ending, unpack_ending}
use Rattle.m2v_tool.specs.Y4mCoding.{TextDone, Y4mComes, y4m_ending}
use Rattle.m2v_tool.specs.Runs.{Run, work_of, NoneFailed, Succeeds}

-- ---- what was told with status 0

-- no report that fails makes the status 0
unreported : (n : ℕ) → (if n == 0 then 8 else n) ≡ 0 → ⊥
unreported n none = elim (cases_Bool (n == 0)) [
  | inl is ↦
      let eight : 8 ≡ 0 = sym (cond-true (n == 0) 8 n is) ∙ none in
      omega (arith, eight)
  | inr isnt ↦
      let zero_it_is : n ≡ 0 = sym (cond-false (n == 0) 8 n isnt) ∙ none in
      cc (sym (eq-eqb n 0 zero_it_is) ∙ isnt)
]

line : (e : Ending) (r : Run) → Told e r.status r.report → r.status ≡ 0 → Grows r.report.old (line_of e) r.report.new
line e r (whole is g) none = g
line e r (cut (inl is) g) none = absurd (omega (arith, is, none))
line e r (cut (inr is) g) none = absurd (unreported e.status (sym is.1 ∙ none))

-- an ending with another status wasn't told
never : (e : Ending) (n : ℕ) (r : Run) → Told e r.status r.report → e.status ≡ suc n → r.status ≡ 0 → ⊥
never e n r (whole is g) some none = omega (arith, is, some, none)
never e n r (cut (inl is) g) some none = omega (arith, is, none)
never e n r (cut (inr is) g) some none = unreported e.status (sym is.1 ∙ none)

-- an ending's status isn't 0
abbrev IsRefusal : Ending → Type 0
IsRefusal e = (n : ℕ) × (e.status ≡ suc n)

refused : {A : Type 0} (e : Ending) (r : Run) → Told e r.status r.report → IsRefusal e → r.status ≡ 0 → A
refused e r t some none = absurd (never e some.0 r t some.1 none)

-- ---- commands

flat_stops : (e : FlatError) → IsRefusal (coding_stopped e)
unfolding coding_stopped
flat_stops flat_errors.Read = (6, refl)
flat_stops flat_errors.Write = (7, refl)
flat_stops (flat_errors.ShortFrame extra) = (3, refl)
flat_stops flat_errors.NoFrames = (4, refl)
flat_stops flat_errors.TooManyFrames = (5, refl)
flat_stops flat_errors.Memory = (11, refl)

pub flat_done : (r : Run) (w : FlatWords) (o : FlatOutcome) → FlatComes w r.input r.output o → Told (flat_ending o) r.status r.report → r.status ≡ 0
    → Success (FlatDone w r.input r.output) flat_coded_ending r.report
unfolding FlatComes flat_ending unfit_ending
flat_done r w (flats.Coded s) c t none = record { outcome = s; is = c; line = line (flat_ending (flats.Coded s)) r t none }
flat_done r w (flats.Unfit u) c t none = refused (unfit_ending u) r t (2, refl) none
flat_done r w (flats.Stopped e) c t none = refused (coding_stopped e) r t (flat_stops e) none

encode_stops : (e : EncodeError) → IsRefusal (encoding_stopped e)
unfolding encoding_stopped
encode_stops errors.Read = (6, refl)
encode_stops errors.Write = (7, refl)
encode_stops (errors.ShortFrame extra) = (3, refl)
encode_stops errors.NoFrames = (4, refl)
encode_stops errors.TooManyFrames = (5, refl)
encode_stops errors.Memory = (11, refl)

shut_stops : (e : PortError) → IsRefusal (unopened_ending e)
unfolding unopened_ending
shut_stops calls.Failed = (7, refl)
shut_stops calls.Memory = (11, refl)

pub encode_done : (r : Run) (m : Meant) (o : EncodeOutcome) → EncodeComes m (work_of r) o → Told (encode_ending o) r.status r.report → r.status ≡ 0
    → Success (EncodeDone m (work_of r)) encoded_ending r.report
unfolding EncodeComes encode_ending unfit_ending
encode_done r m (encodes.Coded s) c t none = record { outcome = s; is = c; line = line (encoded_ending s) r t none }
encode_done r m (encodes.Unfit u) c t none = refused (unfit_ending u) r t (2, refl) none
encode_done r m (encodes.Unopened e) c t none = refused (unopened_ending e) r t (shut_stops e) none
encode_done r m (encodes.Stopped e) c t none = refused (encoding_stopped e) r t (encode_stops e) none

decode_stops : (e : DecodeError) → IsRefusal (decoding_stopped e)
unfolding decoding_stopped stream_fault ending_past
decode_stops decode_errors.Read = (6, refl)
decode_stops decode_errors.Write = (7, refl)
decode_stops (decode_errors.Stream f) = (8, refl)
decode_stops decode_errors.TooLong = (12, refl)
decode_stops decode_errors.PictureTooLarge = (13, refl)
decode_stops decode_errors.Memory = (11, refl)

pub decode_done : (r : Run) (workers : ℕ) (o : DecodeOutcome) → DecodeComes workers r.input r.output o → Told (decode_ending o) r.status r.report → r.status ≡ 0
    → Success (DecodeDone workers r.input r.output) shown_ending r.report
unfolding DecodeComes decode_ending unfit_ending
decode_done r workers (decodes.Shown d) c t none = record { outcome = d; is = record { passes = c.0; decoded = c.1 }; line = line (shown_ending d) r t none }
decode_done r workers (decodes.Unfit u) c t none = refused (unfit_ending u) r t (2, refl) none
decode_done r workers (decodes.Stopped e) c t none = refused (decoding_stopped e) r t (decode_stops e) none

account_stops : (f : AccountFault) → IsRefusal (account_ending f)
unfolding account_ending
account_stops (Under picture have need) = (10, refl)
account_stops (Over picture have size) = (10, refl)

pub check_done : (r : Run) (o : CheckOutcome) → CheckComes r.input o → Told (check_ending o) r.status r.report → r.status ≡ 0 → HasPassed r
unfolding CheckComes check_ending verdict_ending
check_done r (checks.Judged (verdicts.Lawful f)) c t none = inl (record { outcome = f; is = c; line = line (lawful_ending f) r t none })
check_done r (checks.Judged (verdicts.Variable f)) c t none = inr (record { outcome = f; is = c; line = line (variable_ending f) r t none })
check_done r (checks.Judged (verdicts.Unlawful rule picture have need)) c t none = refused (verdict_ending (verdicts.Unlawful rule picture have need)) r t (9, refl) none
check_done r (checks.Judged (verdicts.Buffer fault)) c t none = refused (account_ending fault) r t (account_stops fault) none
check_done r (checks.Stopped e) c t none = refused (decoding_stopped e) r t (decode_stops e) none

make_stops : (e : MakeError) → IsRefusal (making_stopped e)
unfolding making_stopped
make_stops make_errors.Write = (7, refl)
make_stops make_errors.Memory = (11, refl)

pub make_done : (r : Run) (seed : ℕ) (o : MakeOutcome) → MakeComes seed r.output o → Told (make_ending o) r.status r.report → r.status ≡ 0
    → Success (Makes seed r.output) (made_ending seed) r.report
unfolding MakeComes make_ending
make_done r seed (makes.Done own made) c t none = record {
  outcome = made;
  is = c.1;
  line = subst (λ (n : ℕ). Grows r.report.old (line_of (made_ending n made)) r.report.new) c.0 (line (made_ending own made) r t none);
}
make_done r seed (makes.Stopped e) c t none = refused (making_stopped e) r t (make_stops e) none

cut_stops : (e : CutError) → IsRefusal (cutting_stopped e)
unfolding cutting_stopped ending_past
cut_stops cut_errors.Read = (6, refl)
cut_stops cut_errors.Write = (7, refl)
cut_stops (cut_errors.NoGroup have need) = (15, refl)
cut_stops (cut_errors.NotCuttable place) = (16, refl)
cut_stops cut_errors.TooLong = (12, refl)
cut_stops cut_errors.PictureTooLarge = (13, refl)
cut_stops cut_errors.Memory = (11, refl)

pub cut_done : (r : Run) (w : CutWords) (o : CutOutcome) → CutComes w r.input r.output o → Told (cut_ending o) r.status r.report → r.status ≡ 0
    → Success (CutDone w r.input r.output) cut_out_ending r.report
unfolding CutComes cut_ending unfit_ending
cut_done r w (cuts.Done s) c t none = record { outcome = s; is = record { some = c.0; cut = c.1 }; line = line (cut_out_ending s) r t none }
cut_done r w cuts.NoneAsked c t none = refused (unfit_ending none_asked) r t (2, refl) none
cut_done r w (cuts.Stopped e) c t none = refused (cutting_stopped e) r t (cut_stops e) none

pack_stops : (e : EncodeFault) → IsRefusal (packing_stopped e)
unfolding packing_stopped
pack_stops packing.Read = (6, refl)
pack_stops packing.Write = (7, refl)
pack_stops (packing.ShortFrame extra) = (3, refl)
pack_stops packing.TooManyFrames = (5, refl)
pack_stops packing.Memory = (11, refl)

pub pack_done : (r : Run) (h : Y4mHeader) (o : PackOutcome) → PackComes h r.input r.output o → Told (pack_ending o) r.status r.report → r.status ≡ 0
    → Success (PackDone h r.input r.output) packed_ending r.report
unfolding PackComes pack_ending unfit_ending
pack_done r h (packs.Packed s) c t none = record { outcome = s; is = record { passes = c.0; packed = c.1 }; line = line (packed_ending s) r t none }
pack_done r h (packs.Unfit u) c t none = refused (unfit_ending u) r t (2, refl) none
pack_done r h (packs.Stopped e) c t none = refused (packing_stopped e) r t (pack_stops e) none

unpack_stops : (e : UnpackError) → IsRefusal (unpacking_stopped e)
unfolding unpacking_stopped y4m_fault
unpack_stops unpacking.Read = (6, refl)
unpack_stops unpacking.Write = (7, refl)
unpack_stops (unpacking.ShortFrame extra) = (3, refl)
unpack_stops unpacking.TooManyFrames = (5, refl)
unpack_stops (unpacking.Y4m fault) = (14, refl)
unpack_stops unpacking.Memory = (11, refl)

pub unpack_done : (r : Run) (o : UnpackOutcome) → UnpackComes r.input r.output o → Told (unpack_ending o) r.status r.report → r.status ≡ 0
    → Success (AllUnpacked r.input r.output) packed_ending r.report
unfolding UnpackComes unpack_ending
unpack_done r (unpacks.Unpacked s) c t none = record { outcome = s; is = c.0; line = line (packed_ending s) r t none }
unpack_done r (unpacks.Stopped e) c t none = refused (unpacking_stopped e) r t (unpack_stops e) none

unread_stops : (e : Y4mError) → IsRefusal (unread_ending e)
unfolding unread_ending y4m_fault
unread_stops opening_errors.Read = (6, refl)
unread_stops (opening_errors.Y4m fault) = (14, refl)
unread_stops opening_errors.Memory = (11, refl)

pub text_done : (r : Run) (m : Meant) (o : Y4mOutcome) → Y4mComes m (work_of r) o → Told (y4m_ending o) r.status r.report → r.status ≡ 0
    → Success (TextDone m (work_of r)) encoded_ending r.report
unfolding Y4mComes EncodeComes y4m_ending encode_ending unfit_ending y4m_fault
text_done r m (texts.Unread e) c t none = refused (unread_ending e) r t (unread_stops e) none
text_done r m (texts.Encoded (encodes.Coded s)) c t none = record {
  outcome = s;
  is = record { behind = c.behind; end = c.behind.end c.comes.coded.end; done = c.comes };
  line = line (encoded_ending s) r t none;
}
text_done r m (texts.Encoded (encodes.Unfit u)) c t none = refused (unfit_ending u) r t (2, refl) none
text_done r m (texts.Encoded (encodes.Unopened e)) c t none = refused (unopened_ending e) r t (shut_stops e) none
text_done r m (texts.Encoded (encodes.Stopped e)) c t none = refused (encoding_stopped e) r t (encode_stops e) none
text_done r m (texts.Broken fault) c t none = refused (y4m_fault fault) r t (14, refl) none

both_hold : (p q : Bool) → p && q ≡ true → (p ≡ true) × (q ≡ true)
both_hold true q is = (refl, is)
both_hold false q is = absurd cc

both_zero : (b c : ℕ) → nat_eq b 0 && nat_eq c 0 ≡ true → (b ≡ 0) × (c ≡ 0)
both_zero b c is = let e = both_hold (nat_eq b 0) (nat_eq c 0) is in (eqb-true b 0 e.0, eqb-true c 0 e.1)

whole_done : (r : Run) (w : Asked) (t : TotalRecord) → AuditComes w r.input r.output (Reported (record { totals = t; ending = audits.Whole })) → Told (whole_ending t) r.status r.report
    → r.status ≡ 0 → Success (AuditDone w r.input r.output) clean_ending r.report
unfolding AuditComes whole_ending clean_ending found_ending
whole_done r w t c told none = elim (cases_Bool (nat_eq t.breaches 0 && nat_eq t.failures 0)) [
  | inl is ↦
      let zeros = both_zero t.breaches t.failures is in
      record {
        outcome = t;
        is = record { audited = c; breaches = zeros.0; failures = zeros.1 };
        line = line (clean_ending t) r (subst (λ (b : Bool). Told (if b then clean_ending t else found_ending t) r.status r.report) is told) none;
      }
  | inr isnt ↦ refused (found_ending t) r (subst (λ (b : Bool). Told (if b then clean_ending t else found_ending t) r.status r.report) isnt told) (17, refl) none
]

audit_by : (r : Run) (w : Asked) (t : TotalRecord) (e : Audited) → AuditComes w r.input r.output (Reported (record { totals = t; ending = e })) → Told (audited_ending t e) r.status r.report
    → r.status ≡ 0 → Success (AuditDone w r.input r.output) clean_ending r.report
unfolding audited_ending limit_ending stream_fault ending_past
audit_by r w t audits.Whole c told none = whole_done r w t c told none
audit_by r w t (audits.Fault f) c told none = refused (stream_fault f) r told (8, refl) none
audit_by r w t (audits.Limit limits.TooLong) c told none = refused (ending_past too_long) r told (12, refl) none
audit_by r w t (audits.Limit limits.TooLarge) c told none = refused (ending_past too_large) r told (13, refl) none

pub audit_done : (r : Run) (w : Asked) (o : AuditOutcome) → AuditComes w r.input r.output o → Told (audit_ending o) r.status r.report → r.status ≡ 0
    → Success (AuditDone w r.input r.output) clean_ending r.report
unfolding audit_ending
audit_done r w (Reported o) c told none = audit_by r w o.totals o.ending c told none
audit_done r w (Stopped e) c told none = refused (decoding_stopped e) r told (decode_stops e) none

-- where no endpoint fails, success is told, unless memory runs out
mend_stops : (e : MendError) → IsRefusal (mending_stopped e)
unfolding mending_stopped ending_past
mend_stops mend_errors.Read = (6, refl)
mend_stops mend_errors.Write = (7, refl)
mend_stops mend_errors.TooLong = (12, refl)
mend_stops mend_errors.PictureTooLarge = (13, refl)
mend_stops mend_errors.Memory = (11, refl)

mended_by : (r : Run) (name : Option Text) (a : Answer) → MendRead name (work_of r) a → Told (mended_ending a) r.status r.report → r.status ≡ 0 → Success (MendDone name (work_of r)) mended_ending r.report
unfolding told_ending
mended_by r name (answers.AllKept groups pictures bytes) c t none =
    let a = answers.AllKept groups pictures bytes in
    record { outcome = a; is = record { read = c; all = refl }; line = line (mended_ending a) r t none }
mended_by r name (answers.SomeKept groups of_groups pictures of_pictures bytes) c t none = refused (mended_ending (answers.SomeKept groups of_groups pictures of_pictures bytes)) r t (17, refl) none
mended_by r name (answers.NoneKept fault) c t none = refused (mended_ending (answers.NoneKept fault)) r t (18, refl) none

pub mend_done : (r : Run) (name : Option Text) (o : MendOutcome) → MendComes name (work_of r) o → Told (mend_ending o) r.status r.report → r.status ≡ 0
    → Success (MendDone name (work_of r)) mended_ending r.report
unfolding MendComes mend_ending
mend_done r name (mends.Mended a) c t none = mended_by r name a c t none
mend_done r name (mends.Unopened e) c t none = refused (unopened_ending e) r t (shut_stops e) none
mend_done r name (mends.Stopped e) c t none = refused (mending_stopped e) r t (mend_stops e) none

-- no picture was left out
pub all_told : (r : Run) (a : Answer) → status_of (answer_told a) ≡ 0 → NoneFailed r → Told (mended_ending a) r.status r.report → Succeeds r
unfolding told_ending
all_told r (answers.AllKept groups pictures bytes) all well (whole is g) = inl is
all_told r a all well (cut (inl is) g) = inr is
all_told r a all well (cut (inr is) g) = absurd (well.report is.0)
all_told r (answers.SomeKept groups of_groups pictures of_pictures bytes) all well (whole is g) = absurd (omega (arith, all))
all_told r (answers.NoneKept fault) all well (whole is g) = absurd (omega (arith, all))

pub clean_told : (r : Run) (t : TotalRecord) → NoneFailed r → Told (clean_ending t) r.status r.report → Succeeds r
unfolding clean_ending
clean_told r t well (whole is g) = inl is
clean_told r t well (cut (inl is) g) = inr is
clean_told r t well (cut (inr is) g) = absurd (well.report is.0)

-- ---- where memory ran out before the words were read

pub no_success : {A : Type 0} (r : Run) → r.status ≡ 12 → r.status ≡ 0 → A
no_success r is none = absurd (omega (arith, is, none))

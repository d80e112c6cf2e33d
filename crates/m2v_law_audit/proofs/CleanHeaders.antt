-- What the stricter rules remark of a sequence header that says what the first one does, and the report of a stream of which they
-- remark breaches of the rule on whole macroblocks alone.
use Rattle.std.proofs.Common.{◌≡◌, ℕ, ◌⊎◌, inl, inr, Bool, true, false, List, [], ◌∷◌, Some, length, refl, sym, ap, subst, ◌∙◌}
use Rattle.std.specs.Prelude.{nat_le, if◌then◌else◌}
use Rattle.std.specs.List.{AllByRecursion}
use Rattle.std.proofs.lemmas.Bool.{eq-eqb}
use Rattle.std.proofs.lemmas.List.{nil_from_length}
use Rattle.m2v_model.specs.declared.state.Sequence.{Sequence}
use Rattle.m2v_model.specs.Streams.{Sofar}
use Rattle.m2v_model.specs.Decoding.{Stream}
use Rattle.m2v_model.specs.Lawful.{rate_of, buffer_of}
use Rattle.m2v_audit.specs.m2v_strict.declared.element.Element.{Element}
use Rattle.m2v_audit.specs.m2v_strict.declared.element.Element.TheVariants as elements
use Rattle.m2v_audit.specs.m2v_strict.declared.remark.Remark.{Remark}
use Rattle.m2v_audit.specs.m2v_strict.Remarks.{judge, looked_at, equal, number_of}
use Rattle.m2v_audit.specs.m2v_strict.SequenceRules.{coded_luma_rule, header_rule, extension_rule}
use Rattle.m2v_audit.specs.declared.asked.Asked.{Asked}
use Rattle.m2v_audit.specs.declared.records.Finding.{Finding}
use Rattle.m2v_law_audit.specs.Parts.{Tells, more_by}
use Rattle.m2v_law_audit.specs.Sequences.{sequence_report}
use Rattle.m2v_law_audit.specs.Found.{findings_of, judged_in}
use Rattle.m2v_law_audit.specs.Verdicts.{FindsNothing}
use Rattle.m2v_law_audit.specs.Encoded.{KeepsCodedLuma, IsOfCodedLuma, IsFoundClean}
use Rattle.m2v_law_audit.proofs.ReportParts.{parts_of}
use Rattle.m2v_law_audit.proofs.VerdictLaws.{uncounted}
use Rattle.m2v_law_audit.proofs.CleanRemarks.{MayBe, none, both, held, AreOf}
use Rattle.m2v_law_audit.proofs.CleanLuma.{text_keeps}

-- ---- a sequence header

-- the rules that a report of a stream may tell as broken, for all that the stricter ones remark: those of the verifier, and the one on
-- whole macroblocks where the sequence header doesn't keep to it
abbrev pub MayBy : Sequence → ℕ → Type 0
MayBy x rule = (nat_le rule 15 ≡ true) ⊎ ((rule ≡ 16) × (KeepsCodedLuma x → ⊥))

luma_by : (may : ℕ → Type 0) (looks holds : Bool) (m : Remark) → ((looked_at looks (judge holds m) ≡ [] → ⊥) → may m.rule)
    → MayBe may (looked_at looks (judge holds m))
luma_by may true true m h = none
luma_by may true false m h = record { each = (λ off. h (λ e. absurd cc), tt) }
luma_by may false holds m h = none

pub luma_may : (x : Sequence) → MayBe (MayBy x) (coded_luma_rule x)
unfolding coded_luma_rule
luma_may x = luma_by (MayBy x) _ _ _ (λ broken. inr (refl, broken))

module _ (may : ℕ → Type 0) where
  -- each header is the same
  alike : (element : Element) (n : ℕ) → MayBe may (equal 21 element n n)
  alike element n = held _ _ (eq-eqb n n refl)

  pub same_header : (x : Sequence) → MayBe may (header_rule x x)
  unfolding header_rule
  same_header x =
      both
      (both
      (both (both (alike elements.AspectRatioInformation x.info.aspect) (alike elements.FrameRateCode x.info.frame_rate_code))
      (alike elements.BitRate (rate_of x)))
      (alike elements.VbvBufferSize (buffer_of x)))
      (alike elements.ConstrainedParametersFlag (number_of x.info.constrained))

  pub same_extension : (x : Sequence) → MayBe may (extension_rule x x)
  unfolding extension_rule
  same_extension x =
      both
      (both (both (alike elements.ProfileAndLevelIndication x.extension.profile_and_level) (alike elements.LowDelay (number_of x.extension.low_delay)))
      (alike elements.FrameRateExtensionN x.extension.rate_n))
      (alike elements.FrameRateExtensionD x.extension.rate_d)

-- ---- a report, where none of the verifier's rules is broken

abbrev IsLuma : Sequence → Finding → Type 0
IsLuma x f = (f.rule ≡ 16) × (KeepsCodedLuma x → ⊥)

module _ (x : Sequence) where
  left_by : (f : Finding) (fs : List Finding) (b : Bool) → nat_le f.rule 15 ≡ b → MayBy x f.rule
      → (if b then f ∷ judged_in fs else judged_in fs) ≡ [] → IsLuma x f × (judged_in fs ≡ [])
  left_by f fs true e may empty = absurd cc
  left_by f fs false e (inl is) empty = let d : true ≡ false = sym is ∙ e in absurd cc
  left_by f fs false e (inr luma) empty = (luma, empty)

  left : (fs : List Finding) → AllByRecursion (λ (f : Finding). MayBy x f.rule) fs → judged_in fs ≡ [] → AllByRecursion (IsLuma x) fs
  left [] each empty = tt
  left (f ∷ fs) each empty = let y = left_by f fs (nat_le f.rule 15) refl each.0 empty in (y.0, left fs each.1 y.1)

  all_luma : (fs : List Finding) → AllByRecursion (IsLuma x) fs → AllByRecursion IsOfCodedLuma fs
  all_luma [] each = tt
  all_luma (f ∷ fs) each = (each.0.0, all_luma fs each.1)

  none_luma : (fs : List Finding) → AllByRecursion (IsLuma x) fs → KeepsCodedLuma x → fs ≡ []
  none_luma [] each keeps = refl
  none_luma (f ∷ fs) each keeps = absurd (each.0.1 keeps)

  -- a stream with this first sequence header, of which the stricter rules remark nothing else, is found clean but for that rule
  pub clean_by : (text : List ℕ) (tree : Sofar) → Stream text tree → tree.state.first ≡ Some x → (asked : Asked) (number start : ℕ)
      → AreOf (MayBy x) (findings_of asked number start text) → FindsNothing asked number start text
      → IsFoundClean x asked number start text
  clean_by text tree stream header asked number start may nothing =
      let fs = findings_of asked number start text in
      let r = parts_of asked number start text in
      let each = left fs may.each nothing.0 in
      let failures : _ ≡ [] = nil_from_length _ (uncounted _ (sym r.failures ∙ nothing.1)) in
      let keeps : fs ≡ [] → KeepsCodedLuma x = text_keeps text tree stream x header asked number start in
      record {
        breaches = all_luma fs each;
        none = (keeps, none_luma fs each);
        tells = subst (Tells (sequence_report asked number start text).lines fs) failures r.tells;
        failures = nothing.1;
        clean = (
          λ is. keeps (nil_from_length fs (uncounted (length fs) (sym r.breaches ∙ is.0))),
          λ luma. (r.breaches ∙ ap (λ (l : List Finding). more_by 0 (length l)) (none_luma fs each luma), nothing.1),
        );
      }

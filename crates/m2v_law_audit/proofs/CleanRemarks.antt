-- What is found of headers and pictures of which the stricter rules remark breaches of some rules alone: breaches of these, and of the
-- rules that the verifier looks at.
use Rattle.std.proofs.Common.{◌≡◌, ℕ, ◌≤◌, Bool, true, false, List, [], ◌∷◌, ◌++◌, map, Option, Some, None, refl, sym, subst, ◌∙◌}
use Rattle.std.specs.Prelude.{nat_le, not, filter, if◌then◌else◌}
use Rattle.std.specs.List.{AllByRecursion}
use Rattle.std.proofs.ByRecursion.{All-append}
use Rattle.std.proofs.lemmas.Bool.{le-leb, le-ltb}
use Rattle.m2v_model.specs.m2v_macroblock.m2v_head.declared.group.GroupInfo.{GroupInfo}
use Rattle.m2v_model.specs.declared.state.Sequence.{Sequence}
use Rattle.m2v_model.specs.Lawful.{Breaches}
use Rattle.m2v_audit.specs.m2v_check.declared.coded.CodedPicture.{CodedPicture}
use Rattle.m2v_audit.specs.m2v_strict.declared.element.Element.{Element}
use Rattle.m2v_audit.specs.m2v_strict.declared.remark.Remark.{Remark}
use Rattle.m2v_audit.specs.m2v_strict.declared.rule_set.RuleSet.TheVariants as sets
use Rattle.m2v_audit.specs.m2v_strict.declared.leading.Leading.{Leading}
use Rattle.m2v_audit.specs.m2v_strict.declared.preceding.Preceding.{Preceding}
use Rattle.m2v_audit.specs.m2v_strict.declared.runs.Runs.{Runs}
use Rattle.m2v_audit.specs.m2v_strict.Remarks.{Remarks, is_warning, judge, looked_at, within}
use Rattle.m2v_audit.specs.m2v_strict.SequenceRules.{aspect_warning, size_warning, height_warning, level_remarks, header_rule, extension_rule, sequence_warnings}
use Rattle.m2v_audit.specs.m2v_strict.GroupRules.{group_remarks, broken_link_warning}
use Rattle.m2v_audit.specs.m2v_strict.TimeRules.{counted_rate, pictures_warning, continuity_warning, time_warnings}
use Rattle.m2v_audit.specs.m2v_strict.OrderRules.{sequence_order_rule, group_order_rule, late_header_rule, first_type_rule, end_code_warning}
use Rattle.m2v_audit.specs.m2v_strict.ArrivalRules.{arrival_rule}
use Rattle.m2v_audit.specs.m2v_strict.PictureRules.{delay_remarks, f_code_rule, full_pel_rule, field_rule, frame_remarks, dropped_warning, b_repeat_warning, picture_warnings}
use Rattle.m2v_audit.specs.m2v_strict.SetRules.{set_remarks, set_group_remarks, set_picture_remarks}
use Rattle.m2v_audit.specs.declared.auditing.PieceEnd.{PieceEnd}
use Rattle.m2v_audit.specs.declared.places.Misplaced.{Misplaced}
use Rattle.m2v_audit.specs.declared.records.Finding.{Finding}
use Rattle.m2v_audit.specs.declared.remarks.Behind.{Behind}
use Rattle.m2v_audit.specs.HeaderRecords.{bit_of}
use Rattle.m2v_audit.specs.Findings.{remarked_at}
use Rattle.m2v_audit.specs.Report.{finding_of}
use Rattle.m2v_audit.specs.Times.{fields_of}
use Rattle.m2v_law_audit.specs.Found.{found_at, found_misplaced, remarks_found, sequence_found, group_found, picture_found, last_found}
use Rattle.m2v_law_audit.proofs.BreachJudged.{AreOf as AreJudged}

-- ---- remarks

-- each of them is a warning, or of a rule that may be broken
pub record MayBe (may : ℕ → Type 0) (ms : Remarks) : Type 0 where
  pub each : AllByRecursion (λ (m : Remark). is_warning m.rule ≡ false → may m.rule) ms

pub none : {may : ℕ → Type 0} → MayBe may []
none = record { each = tt }

pub none_of : {may : ℕ → Type 0} {ms : Remarks} → ms ≡ [] → MayBe may ms
none_of {may} e = subst (MayBe may) (sym e) none

pub both : {may : ℕ → Type 0} {xs ys : Remarks} → MayBe may xs → MayBe may ys → MayBe may (xs ++ ys)
both {may} {xs} {ys} h k = record { each = All-append (λ (m : Remark). is_warning m.rule ≡ false → may m.rule) xs ys h.each k.each }

chosen : {may : ℕ → Type 0} (b : Bool) (xs ys : Remarks) → MayBe may xs → MayBe may ys → MayBe may (if b then xs else ys)
chosen true xs ys h k = h
chosen false xs ys h k = k

-- a warning may always be
warned : {may : ℕ → Type 0} (holds : Bool) (m : Remark) → is_warning m.rule ≡ true → MayBe may (judge holds m)
warned holds m e = chosen holds [] (m ∷ []) none (record { each = (λ off. let d : true ≡ false = sym e ∙ off in absurd cc, tt) })

-- a rule that holds
pub held : {may : ℕ → Type 0} (holds : Bool) (m : Remark) → holds ≡ true → MayBe may (judge holds m)
held true m e = none
held false m e = absurd cc

-- one that is looked at in some headers alone
pub looked : {may : ℕ → Type 0} (b : Bool) (ms : Remarks) → MayBe may ms → MayBe may (looked_at b ms)
looked b ms h = chosen b ms [] h none

pub looked_where : {may : ℕ → Type 0} (b : Bool) (ms : Remarks) → (b ≡ true → MayBe may ms) → MayBe may (looked_at b ms)
looked_where true ms h = h refl
looked_where false ms h = none

-- a number that lies between two others
pub bounded : {may : ℕ → Type 0} (rule : ℕ) (element : Element) (have low high : ℕ) → low ≤ have → have ≤ high
    → MayBe may (within rule element have low high)
bounded rule element have low high above below = none_of (rw (le-ltb have low above, le-leb have high below) refl)

-- ---- the warnings on headers, pictures and the end

pub sequence_warned : {may : ℕ → Type 0} (s : Sequence) → MayBe may (sequence_warnings sets.Main s)
unfolding aspect_warning size_warning height_warning
sequence_warned s = both (both (looked _ _ (warned _ _ refl)) (both (warned _ _ refl) (warned _ _ refl))) (looked _ _ (warned _ _ refl))

pub picture_warned : {may : ℕ → Type 0} (p : CodedPicture) → MayBe may (picture_warnings p)
unfolding dropped_warning b_repeat_warning
picture_warned p = both (warned _ _ refl) (looked _ _ (warned _ _ refl))

continuity_warned : {may : ℕ → Type 0} (rate : ℕ) (last : Option GroupInfo) (fields : ℕ) (g : GroupInfo)
    → MayBe may (continuity_warning rate last fields g)
unfolding continuity_warning
continuity_warned rate None fields g = none
continuity_warned rate (Some last) fields g = warned _ _ refl

time_warned : {may : ℕ → Type 0} (code : ℕ) (last : Option GroupInfo) (fields : ℕ) (g : GroupInfo)
    → MayBe may (time_warnings code last fields g)
unfolding time_warnings pictures_warning
time_warned code last fields g = looked _ _ (both (warned _ _ refl) (continuity_warned (counted_rate code) last fields g))

end_warned : {may : ℕ → Type 0} (closed : Bool) → MayBe may (end_code_warning closed)
unfolding end_code_warning
end_warned closed = warned _ _ refl

-- ---- headers and pictures

-- what is remarked of a sequence header behind these headers, beside the first one of its sequence
pub record SequenceMayBe (may : ℕ → Type 0) (before : Leading) (first s : Sequence) : Type 0 where
  pub level : MayBe may (level_remarks s)
  pub header : MayBe may (header_rule first s)
  pub extension : MayBe may (extension_rule first s)
  pub order : MayBe may (sequence_order_rule before)
  pub warnings : MayBe may (sequence_warnings sets.Main s)

-- of a group header behind these, in a sequence of this frame_rate_code
pub record GroupMayBe (may : ℕ → Type 0) (before : Leading) (code : ℕ) (g : GroupInfo) : Type 0 where
  pub order : MayBe may (group_order_rule before)
  pub group : MayBe may (group_remarks code g)
  pub link : MayBe may (broken_link_warning g)

-- of a picture, behind a sequence header or not, in a sequence at constant rate or not; but of the arrival of its bits
pub record PictureMayBe (may : ℕ → Type 0) (headed constant : Bool) (p : CodedPicture) : Type 0 where
  pub first : MayBe may (first_type_rule headed p)
  pub delay : MayBe may (delay_remarks constant p)
  pub codes : MayBe may (f_code_rule p)
  pub vectors : MayBe may (full_pel_rule p.note.info)
  pub field : MayBe may (field_rule constant p)
  pub frame : MayBe may (frame_remarks constant p)
  pub warnings : MayBe may (picture_warnings p)

-- ---- findings

-- each is of a rule that may be broken
pub record AreOf (may : ℕ → Type 0) (fs : List Finding) : Type 0 where
  pub each : AllByRecursion (λ (f : Finding). may f.rule) fs

pub found_none : {may : ℕ → Type 0} → AreOf may []
found_none = record { each = tt }

pub found_both : {may : ℕ → Type 0} {xs ys : List Finding} → AreOf may xs → AreOf may ys → AreOf may (xs ++ ys)
found_both {may} {xs} {ys} h k = record { each = All-append (λ (f : Finding). may f.rule) xs ys h.each k.each }

pub found_if : {may : ℕ → Type 0} (b : Bool) (fs : List Finding) → AreOf may fs → AreOf may (if b then fs else [])
found_if true fs h = h
found_if false fs h = found_none

module _ (may : ℕ → Type 0) where
  abbrev Each : List Finding → Type 0
  Each fs = AllByRecursion (λ (f : Finding). may f.rule) fs

  first_in : (n picture bit : ℕ) (warns : Bool) (m : Remark) (ms : Remarks) → (warns ≡ false → may m.rule) →
      let found : Remark → Finding = λ x. finding_of n (remarked_at picture bit x) in
      Each (map found ms) → Each (map found (if not warns then m ∷ ms else ms))
  first_in n picture bit true m ms h rest = rest
  first_in n picture bit false m ms h rest = (h refl, rest)

  all_in : (n picture bit : ℕ) (ms : Remarks) → AllByRecursion (λ (m : Remark). is_warning m.rule ≡ false → may m.rule) ms
      → Each (remarks_found n picture bit ms)
  unfolding remarks_found
  all_in n picture bit [] h = tt
  all_in n picture bit (m ∷ ms) h =
      first_in n picture bit (is_warning m.rule) m (filter (λ (x : Remark). not (is_warning x.rule)) ms) h.0 (all_in n picture bit ms h.1)

  found : (n picture bit : ℕ) {ms : Remarks} → MayBe may ms → AreOf may (remarks_found n picture bit ms)
  found n picture bit {ms} h = record { each = all_in n picture bit ms h.each }

  -- under the rules that every stream has to keep a set remarks nothing
  set_none : (like : Option Sequence) (s : Sequence) → MayBe may (set_remarks sets.Main like s)
  unfolding set_remarks
  set_none like s = none

  set_group_none : (headed : Bool) → MayBe may (set_group_remarks sets.Main headed)
  unfolding set_group_remarks
  set_group_none headed = none

  set_picture_none : (before : Runs) (p : CodedPicture) (fields : ℕ) → MayBe may (set_picture_remarks sets.Main before p fields)
  unfolding set_picture_remarks
  set_picture_none before p fields = none

  pub found_of_sequence : (n : ℕ) (like : Option Sequence) (before : Leading) (picture bit : ℕ) (first s : Sequence) → SequenceMayBe may before first s
      → AreOf may (sequence_found n sets.Main like before picture bit first s)
  found_of_sequence n like before picture bit first s h =
      found_both
      (found_both
      (found_both (found_both (found_both (found n picture bit h.level) (found n picture bit h.header)) (found n picture bit h.extension))
      (found n picture bit h.order))
      (found n picture bit h.warnings))
      (found n picture bit (set_none like s))

  pub found_of_group : (n : ℕ) (before : Behind) (picture bit : ℕ) (s : Sequence) (g : GroupInfo)
      → GroupMayBe may before.headers s.info.frame_rate_code g
      → AreOf may (group_found n sets.Main before picture bit (Some s) g)
  found_of_group n before picture bit s g h =
      found_both
      (found_both
      (found_both (found_both (found n picture bit h.order) (found n picture bit h.group))
      (found n picture bit (time_warned s.info.frame_rate_code before.group before.fields g)))
      (found n picture bit h.link))
      (found n picture bit (set_group_none before.headers.sequence))

  pub found_of_picture : (n : ℕ) (before : Preceding) (constant : Bool) (runs : Runs) (p : CodedPicture)
      → PictureMayBe may before.headed constant p → arrival_rule before.rate before.picture p ≡ []
      → AreOf may (picture_found n sets.Main before constant runs p)
  found_of_picture n before constant runs p h arrives =
      let bit = bit_of p.note in
      let arrival : MayBe may (arrival_rule before.rate before.picture p) = none_of arrives in
      found_both
      (found_both
      (found_both
      (found_both
      (found_both
      (found_both
      (found_both (found_both (found n p.number bit h.first) (found n p.number bit h.delay)) (found n p.number bit arrival))
      (found n p.number bit h.codes))
      (found n p.number bit h.vectors))
      (found n p.number bit h.field))
      (found n p.number bit h.frame))
      (found n p.number bit h.warnings))
      (found n p.number bit (set_picture_none runs p (fields_of p.sequence p.note)))

  -- at the end no header stands behind the last picture
  pub found_of_end : (n : ℕ) (before : Leading) (picture : ℕ) (e : Option PieceEnd) → MayBe may (late_header_rule before)
      → AreOf may (last_found n before picture e)
  found_of_end n before picture None h = found_none
  found_of_end n before picture (Some e) h = found n picture e.bit (both h (end_warned e.closed))

  -- ---- the rules that the verifier looks at may all be broken

  module _ (law : (rule : ℕ) → nat_le rule 15 ≡ true → may rule) where
    all_judged : (n picture bit : ℕ) (bs : Breaches) → AreJudged picture bs → Each (found_at n picture bit bs)
    all_judged n picture bit [] h = tt
    all_judged n picture bit (b ∷ bs) h = (law b.rule h.0.1, all_judged n picture bit bs h.1)

    pub found_judged : (n picture bit : ℕ) (bs : Breaches) → AreJudged picture bs → AreOf may (found_at n picture bit bs)
    found_judged n picture bit bs h = record { each = all_judged n picture bit bs h }

    all_misplaced : (n : ℕ) (ms : List (Option Misplaced)) → Each (found_misplaced n ms)
    all_misplaced n [] = tt
    all_misplaced n (None ∷ ms) = all_misplaced n ms
    all_misplaced n (Some m ∷ ms) = (law 11 refl, all_misplaced n ms)

    pub found_places : (n : ℕ) (ms : List (Option Misplaced)) → AreOf may (found_misplaced n ms)
    found_places n ms = record { each = all_misplaced n ms }

-- The headers of the encoder's stream break none of the stricter rules, but that on whole macroblocks perhaps.
use Rattle.std.proofs.Common.{◌≡◌, ℕ, ◌*◌, ◌%◌, ◌/◌, ◌≤◌, Bool, true, false, not, [], refl, ap, ◌∙◌, arith}
use Rattle.std.specs.Prelude.{if◌then◌else◌}
use Rattle.std.proofs.lemmas.Bool.{le-leb}
use Rattle.m2v_set.specs.declared.settings.Settings.{Settings}
use Rattle.m2v_set.specs.Rules.{Passes}
use Rattle.m2v_set.proofs.Facts.{bounds}
use Rattle.m2v_model.specs.declared.state.Sequence.{Sequence}
use Rattle.m2v_audit.specs.m2v_strict.declared.element.Element.TheVariants as elements
use Rattle.m2v_audit.specs.m2v_strict.declared.leading.Leading.{Leading}
use Rattle.m2v_audit.specs.m2v_strict.declared.remark.Remark.{Remark}
use Rattle.m2v_audit.specs.m2v_strict.Remarks.{judge, looked_at, at_most}
use Rattle.m2v_audit.specs.m2v_strict.SequenceRules.{luma_bound, keeps_luma_rate, coded_luma_rule, aspect_rule, constrained_rule, first_number_rule}
use Rattle.m2v_audit.specs.m2v_strict.OrderRules.{leads, sequence_order_rule, group_order_rule}
use Rattle.m2v_audit.specs.m2v_strict.GroupRules.{time_code_rule, drop_rule, passing_rule, broken_link_warning}
use Rattle.m2v_law_shown.specs.m2v_slice.Headers.{sequence_of, frames_in_second, shown_number, group_from}
use Rattle.m2v_law_shown.specs.m2v_enc_stream.Trees.{sequence_by}
use Rattle.m2v_law_audit.specs.Encoded.{KeepsCodedLuma, IsWhole}
use Rattle.m2v_law_audit.proofs.CleanRemarks.{MayBe, none, both, held, looked, bounded, sequence_warned, SequenceMayBe, GroupMayBe}
use Rattle.m2v_law_audit.proofs.CleanHeaders.{MayBy, luma_may, same_header, same_extension}

-- the rules that a report of the stream may tell as broken, for all that the stricter ones remark
abbrev pub May : Settings → ℕ → Type 0
May s = MayBy (sequence_by s)

-- ---- the sequence header

-- where the frames are whole macroblocks, the rule is the verifier's one on the samples of frames
same_test : (looks : Bool) (m : Remark) → looked_at looks (judge looks m) ≡ []
same_test true m = refl
same_test false m = refl

pub whole_keeps : (x : Sequence) → IsWhole x → KeepsCodedLuma x
unfolding coded_luma_rule
whole_keeps x is =
    (λ i. looked_at (keeps_luma_rate x) (at_most 16 elements.CodedLumaRate (720000 * is.width i * is.height i) (luma_bound x)))
    ∙ same_test (keeps_luma_rate x) _

module _ (may : ℕ → Type 0) (s : Settings) where
  aspect_held : Passes s → MayBe may (aspect_rule (sequence_by s))
  unfolding aspect_rule sequence_of
  aspect_held passes = let c = (bounds s passes).choice in bounded 17 _ s.aspect 1 4 c.shaped c.aspect

  constrained_held : MayBe may (constrained_rule (sequence_by s))
  unfolding constrained_rule sequence_of
  constrained_held = none

  first_number_held : MayBe may (first_number_rule (sequence_by s).info.load_intra)
  unfolding first_number_rule sequence_of
  first_number_held = none

-- behind a picture, or at first
pub own_header : (s : Settings) (before : Leading) → Passes s → leads before ≡ false → SequenceMayBe (May s) before (sequence_by s) (sequence_by s)
unfolding sequence_order_rule
own_header s before passes bare = record {
  level = both (both (both (luma_may (sequence_by s)) (aspect_held (May s) s passes)) (constrained_held (May s) s)) (first_number_held (May s) s);
  header = same_header (May s) (sequence_by s);
  extension = same_extension (May s) (sequence_by s);
  order = held _ _ (ap not bare);
  warnings = sequence_warned (sequence_by s);
}

-- ---- a group header

second_by : (n : ℕ) (a b c d : Bool) → n % (if a then 24 else if b then 25 else if c then 30 else if d then 50 else 60) ≤ 59
second_by n true b c d = omega arith
second_by n false true c d = omega arith
second_by n false false true d = omega arith
second_by n false false false true = omega arith
second_by n false false false false = omega arith

-- a second has no more than 60 frames
in_second : (n code : ℕ) → n % frames_in_second code ≤ 59
unfolding frames_in_second
in_second n code = second_by n _ _ _ _

module _ (may : ℕ → Type 0) (s : Settings) (display : ℕ) where
  time_code_held : MayBe may (time_code_rule (group_from s display))
  unfolding time_code_rule group_from
  time_code_held =
      let n = shown_number s display in
      let second = n / frames_in_second s.rate_code in
      both
      (both (both (held _ _ (le-leb (second / 3600 % 24) 23 (omega arith))) (held _ _ (le-leb (second / 60 % 60) 59 (omega arith))))
      (held _ _ (le-leb (second % 60) 59 (omega arith))))
      (held _ _ (le-leb (n % frames_in_second s.rate_code) 59 (in_second n s.rate_code)))

  drop_held : (code : ℕ) → MayBe may (drop_rule code (group_from s display))
  unfolding drop_rule group_from
  drop_held code = looked _ _ none

  passing_held : MayBe may (passing_rule (group_from s display))
  unfolding passing_rule group_from
  passing_held = none

  broken_link_held : MayBe may (broken_link_warning (group_from s display))
  unfolding broken_link_warning group_from
  broken_link_held = none

  -- behind no other one
  pub own_group : (before : Leading) (code : ℕ) → before.group ≡ false → GroupMayBe may before code (group_from s display)
  unfolding group_order_rule
  own_group before code bare = record {
    order = held _ _ (ap not bare);
    group = both (both time_code_held (drop_held code)) passing_held;
    link = broken_link_held;
  }

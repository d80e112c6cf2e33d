-- What is read of a macroblock stands there, and what stands there is read: a macroblock has one reading.
use Rattle.std.proofs.Common.{◌≡◌, ℕ, Bool, true, false, List, length, subst, ap, ◌∙◌, sym, ◌<◌, ℤ, arith, refl}
use Rattle.std.specs.Prelude.{not, nat_eq}
use Rattle.m2v_bits.specs.Syntax.{renamed, seq, rule, done}
use Rattle.m2v_bits.specs.Leaves.{bits_at}
use Rattle.m2v_bits.specs.Elements.{left_at}
use Rattle.m2v_bits.proofs.SyntaxLaws.{Lawful, Strict, Takes, good, bad, good_is, done_lawful, here_lawful, rule_lawful, seq_lawful, seq_strict, seq_strict_later, choose_lawful, renamed_lawful, repeated_strict, onward, round_err, round_more, round_last}
use Rattle.m2v_bits.proofs.LeafLaws.{bits_lawful}
use Rattle.m2v_bits.proofs.ElementLaws.{flag_strict}
use Rattle.m2v_vlc.specs.declared.values.CodeFault.TheVariants as codes
use Rattle.m2v_vlc.specs.declared.values.Increment.{Increment}
use Rattle.m2v_vlc.specs.declared.values.Increment.TheVariants.{Step, Escape}
use Rattle.m2v_vlc.specs.declared.values.MbType.{MbType}
use Rattle.m2v_vlc.specs.Codes.{Row, code_at, begins}
use Rattle.m2v_vlc.proofs.Checks.{strict_of}
use Rattle.m2v_vlc.proofs.Increments.{increment_checked}
use Rattle.m2v_vlc.proofs.MbTypes.{type_i_checked, type_p_checked, type_b_checked}
use Rattle.m2v_vlc.proofs.Patterns.{pattern_checked}
use Rattle.m2v_vlc.proofs.Motions.{motion_checked, dmv_checked}
use Rattle.m2v_vector.specs.declared.predictors.Pmv.{Pmv}
use Rattle.m2v_macro.specs.declared.fault.MacroFault.{MacroFault}
use Rattle.m2v_macro.specs.declared.fault.MacroFault.TheVariants.{SliceOrder, MissingMacroblocks, SkipRule, QuantZero, PatternZero, BadMotionType, VectorRange, Marker}
use Rattle.m2v_macro.specs.declared.values.MacroSyntax.{MacroSyntax}
use Rattle.m2v_macro.specs.declared.values.SliceState.{SliceState}
use Rattle.m2v_macro.specs.declared.values.PictureContext.{PictureContext}
use Rattle.m2v_macro.specs.declared.values.Shape.{Shape}
use Rattle.m2v_macro.specs.Faults.{of_code, cut, flag_at, coded, look_at, ahead_at}
use Rattle.m2v_macro.specs.Vectors.{component_at, dm_at, vertical_at, vector_at, selected_at, vectors_at, direction_at}
use Rattle.m2v_macro.specs.Macros.{added, round_at, increment_from, before_at, allowed_at, step_at, kind_at, is_form, told_form_at, form_at, dct_at, told_quantiser_at, quantiser_at, told_marker_at, marker_at, zero_pattern, told_pattern_at, pattern_at, directions_at, macro_at}

-- ---- elements

coded_takes : {V : Type 0} (table : List (Row V)) → Strict length (code_at codes.Truncated codes.NoCode table) → Takes length (coded table)
unfolding renamed
coded_takes table s = record { less = s.takes.less }

coded_strict : {V : Type 0} (table : List (Row V)) → Strict length (code_at codes.Truncated codes.NoCode table) → Strict length (coded table)
coded_strict table s = record { lawful = renamed_lawful of_code s.lawful; takes = coded_takes table s }

flag_lawful : Lawful length flag_at
flag_lawful = (flag_strict cut).lawful

look_lawful : (f : List Bool → Bool) → Lawful length (look_at f)
unfolding look_at
look_lawful f = record {
  found = λ w t rest e. let g = good_is {K = MacroFault} (f t, t) (w, rest) e in (sym (ap (λ (x : Bool × List Bool). x.0) g), sym (ap (λ (x : Bool × List Bool). x.1) g));
  only = λ w t rest st. rw (st.0, st.1) refl;
  first = λ t f e. absurd cc;
  refused = λ t f b. absurd b;
  shorter = λ w t rest st. rw (st.1) (omega arith);
}

ahead_lawful : (bits : List Bool) → Lawful length (ahead_at bits)
unfolding ahead_at
ahead_lawful bits = look_lawful (begins bits)

-- a look at a slice's first increment
pub before_lawful : (st : SliceState) → Lawful length (before_at st)
unfolding before_at
before_lawful st = look_lawful _

-- ---- increments

added_lawful : (sum : ℕ) (code : Increment) → Lawful length (added sum code)
unfolding added
added_lawful sum (Step n) = done_lawful length _
added_lawful sum Escape = done_lawful length _

pub round_strict : (sum : ℕ) → Strict length (round_at sum)
unfolding round_at
round_strict sum = seq_strict (coded_strict _ (strict_of increment_checked codes.Truncated codes.NoCode)) (λ code. added_lawful sum code)

pub increment_from_strict : (sum : ℕ) → Strict length (increment_from sum)
unfolding increment_from
increment_from_strict sum = repeated_strict length cut round_at round_strict sum

allowed_lawful : (c : PictureContext) (st : SliceState) (start increment : ℕ) → Lawful length (allowed_at c st start increment)
unfolding allowed_at
allowed_lawful c st start increment =
    seq_lawful (rule_lawful length _ MissingMacroblocks start) (λ near.
    seq_lawful (rule_lawful length _ SliceOrder start) (λ order.
    seq_lawful (rule_lawful length _ SkipRule start) (λ skip.
    done_lawful length _)))

pub step_strict : (c : PictureContext) (st : SliceState) → Strict length (step_at c st)
unfolding step_at
step_strict c st =
    seq_strict_later (here_lawful length length) (λ start.
    seq_strict (increment_from_strict 0) (λ increment.
    allowed_lawful c st start increment))

-- ---- modes

kind_lawful : (kind : ℕ) → Lawful length (kind_at kind)
unfolding kind_at
kind_lawful kind =
    choose_lawful _ (coded_strict _ (strict_of type_i_checked codes.Truncated codes.NoCode)).lawful
    (choose_lawful _ (coded_strict _ (strict_of type_p_checked codes.Truncated codes.NoCode)).lawful (coded_strict _ (strict_of type_b_checked codes.Truncated codes.NoCode)).lawful)

-- a number of n bits that a rule is about
ruled_lawful : (n : ℕ) (holds : ℕ → Bool) (fault : MacroFault) → Lawful length (seq left_at (λ start. seq (bits_at cut n) (λ value. seq (rule (holds value) fault start) (λ known. done value))))
ruled_lawful n holds fault =
    seq_lawful (here_lawful length length) (λ start.
    seq_lawful (bits_lawful cut n) (λ value.
    seq_lawful (rule_lawful length _ fault start) (λ known.
    done_lawful length _)))

told_form_lawful : (kind : ℕ) → Lawful length (told_form_at kind)
unfolding told_form_at
told_form_lawful kind = ruled_lawful 2 (is_form kind) BadMotionType

form_lawful : (c : PictureContext) (kind : MbType) → Lawful length (form_at c kind)
unfolding form_at
form_lawful c kind = choose_lawful _ (told_form_lawful c.kind) (done_lawful length _)

dct_lawful : (c : PictureContext) (kind : MbType) → Lawful length (dct_at c kind)
unfolding dct_at
dct_lawful c kind = choose_lawful _ flag_lawful (done_lawful length _)

told_quantiser_lawful : Lawful length told_quantiser_at
unfolding told_quantiser_at
told_quantiser_lawful = ruled_lawful 5 (λ code. not (nat_eq code 0)) QuantZero

quantiser_lawful : (kind : MbType) → Lawful length (quantiser_at kind)
unfolding quantiser_at
quantiser_lawful kind = choose_lawful kind.quant told_quantiser_lawful (done_lawful length _)

-- ---- vectors

component_lawful : (f_code : ℕ) (predictor : ℤ) → Lawful length (component_at f_code predictor)
unfolding component_at
component_lawful f_code predictor =
    seq_lawful (coded_strict _ (strict_of motion_checked codes.Truncated codes.NoCode)).lawful (λ code.
    seq_lawful (choose_lawful _ (bits_lawful cut _) (done_lawful length _)) (λ residual.
    done_lawful length _))

dm_lawful : (dual : Bool) → Lawful length (dm_at dual)
unfolding dm_at
dm_lawful dual = choose_lawful dual (coded_strict _ (strict_of dmv_checked codes.Truncated codes.NoCode)).lawful (done_lawful length _)

vertical_lawful : (halved : Bool) (f_code : ℕ) (predictor : ℤ) → Lawful length (vertical_at halved f_code predictor)
unfolding vertical_at
vertical_lawful halved f_code predictor =
    seq_lawful (here_lawful length length) (λ start.
    seq_lawful (component_lawful f_code _) (λ v.
    seq_lawful (rule_lawful length _ VectorRange start) (λ fits.
    done_lawful length _)))

vector_lawful : (shape : Shape) (f_code : List ℕ) (predictor : List ℤ) (bottom : Bool) → Lawful length (vector_at shape f_code predictor bottom)
unfolding vector_at
vector_lawful shape f_code predictor bottom =
    seq_lawful (component_lawful _ _) (λ x.
    seq_lawful (dm_lawful shape.dual) (λ dm_x.
    seq_lawful (vertical_lawful shape.halved _ _) (λ y.
    seq_lawful (dm_lawful shape.dual) (λ dm_y.
    done_lawful length _))))

selected_lawful : (shape : Shape) (f_code : List ℕ) (predictor : List ℤ) → Lawful length (selected_at shape f_code predictor)
unfolding selected_at
selected_lawful shape f_code predictor =
    seq_lawful (choose_lawful shape.bit flag_lawful (done_lawful length _)) (λ bottom.
    vector_lawful shape f_code predictor bottom)

vectors_lawful : (shape : Shape) (f_code : List ℕ) (pmv : Pmv) (direction : ℕ) → Lawful length (vectors_at shape f_code pmv direction)
unfolding vectors_at
vectors_lawful shape f_code pmv direction =
    seq_lawful (selected_lawful shape f_code _) (λ first.
    seq_lawful (choose_lawful shape.two (selected_lawful shape f_code _) (done_lawful length _)) (λ second.
    done_lawful length _))

direction_lawful : (told : Bool) (shape : Shape) (f_code : List ℕ) (pmv : Pmv) (direction : ℕ) → Lawful length (direction_at told shape f_code pmv direction)
unfolding direction_at
direction_lawful told shape f_code pmv direction = choose_lawful told (vectors_lawful shape f_code pmv direction) (done_lawful length _)

-- ---- the macroblock

told_marker_lawful : Lawful length told_marker_at
unfolding told_marker_at
told_marker_lawful =
    seq_lawful (here_lawful length length) (λ start.
    seq_lawful (bits_lawful cut 1) (λ bit.
    rule_lawful length _ Marker start))

marker_lawful : (c : PictureContext) (kind : MbType) → Lawful length (marker_at c kind)
unfolding marker_at
marker_lawful c kind = choose_lawful _ told_marker_lawful (done_lawful length _)

told_pattern_lawful : Lawful length told_pattern_at
unfolding told_pattern_at
told_pattern_lawful =
    seq_lawful (here_lawful length length) (λ start.
    seq_lawful (ahead_lawful zero_pattern) (λ none.
    seq_lawful (rule_lawful length _ PatternZero start) (λ some.
    (coded_strict _ (strict_of pattern_checked codes.Truncated codes.NoCode)).lawful)))

pattern_lawful : (kind : MbType) → Lawful length (pattern_at kind)
unfolding pattern_at
pattern_lawful kind = choose_lawful kind.intra (done_lawful length _) (choose_lawful kind.pattern told_pattern_lawful (done_lawful length _))

directions_lawful : (c : PictureContext) (kind : MbType) (form : ℕ) (pmv : Pmv) → Lawful length (directions_at c kind form pmv)
unfolding directions_at
directions_lawful c kind form pmv =
    seq_lawful (direction_lawful _ _ _ _ 0) (λ forward.
    seq_lawful (direction_lawful kind.backward _ _ _ 1) (λ backward.
    seq_lawful (marker_lawful c kind) (λ marker.
    done_lawful length _)))

-- the laws of a macroblock up to its blocks: one reading, and it takes something
pub macro_strict : (c : PictureContext) (st : SliceState) → Strict length (macro_at c st)
unfolding macro_at
macro_strict c st =
    seq_strict (step_strict c st) (λ increment.
    seq_lawful (kind_lawful c.kind) (λ kind.
    seq_lawful (form_lawful c kind) (λ form.
    seq_lawful (dct_lawful c kind) (λ dct_field.
    seq_lawful (quantiser_lawful kind) (λ quantiser.
    seq_lawful (directions_lawful c kind form _) (λ vectors.
    seq_lawful (pattern_lawful kind) (λ pattern.
    done_lawful length _)))))))

-- two spellings of one text give the same macroblock and the same rest
pub macro_once : (c : PictureContext) (st : SliceState) (a b : MacroSyntax) (t rest other : List Bool)
    → (macro_at c st).Stands a t rest → (macro_at c st).Stands b t other → (a ≡ b) × (rest ≡ other)
macro_once c st a b t rest other p q =
    let l = (macro_strict c st).lawful in
    let same = good_is {K = MacroFault} (a, rest) (b, other) (sym (l.only a t rest p) ∙ l.only b t other q) in
    (ap (λ (x : MacroSyntax × List Bool). x.0) same, ap (λ (x : MacroSyntax × List Bool). x.1) same)

-- ---- what the reader's loop goes by

pub increment_err : (sum : ℕ) (t : List Bool) (f : MacroFault × ℕ) → (round_at sum).read t ≡ bad f → (increment_from sum).read t ≡ bad f
unfolding increment_from
increment_err = round_err length cut round_at (λ s. (round_strict s).lawful) (onward round_strict)

pub increment_more : (sum next : ℕ) (t mid : List Bool) (b : Bool) → (round_at sum).read t ≡ good ((b, next), mid) → b ≡ true → (increment_from sum).read t ≡ (increment_from next).read mid
unfolding increment_from
increment_more sum next t mid b e on = round_more length cut round_at (λ s. (round_strict s).lawful) (onward round_strict) sum next t mid (subst (λ (x : Bool). (round_at sum).read t ≡ good ((x, next), mid)) on e)

pub increment_last : (sum next : ℕ) (t mid : List Bool) (b : Bool) → (round_at sum).read t ≡ good ((b, next), mid) → b ≡ false → (increment_from sum).read t ≡ good (next, mid)
unfolding increment_from
increment_last sum next t mid b e off = round_last length cut round_at (λ s. (round_strict s).lawful) (onward round_strict) sum next t mid (subst (λ (x : Bool). (round_at sum).read t ≡ good ((x, next), mid)) off e)

pub increment_less : (sum next : ℕ) (t mid : List Bool) (b : Bool) → (round_at sum).read t ≡ good ((b, next), mid) → length mid < length t
increment_less sum next t mid b e = (round_strict sum).takes.less (b, next) t mid ((round_strict sum).lawful.found (b, next) t mid e)

-- The pictures of the encoder's stream break none of the stricter rules.
use Rattle.std.proofs.Common.{◌≡◌, ℕ, ◌≤◌, Bool, true, false, not, cond, ◌++◌, refl, sym, ap, subst, ◌∙◌, arith}
use Rattle.std.specs.Prelude.{◌&&◌, ◌||◌, nat_eq, nat_le, if◌then◌else◌}
use Rattle.std.proofs.lemmas.Bool.{eq-eqb, eqb-true, leb-true, false_from_ne_true}
use Rattle.m2v_set.specs.declared.settings.Scan.{Scan}
use Rattle.m2v_set.specs.declared.settings.Scan.TheVariants.{Progressive, Frames, Fields}
use Rattle.m2v_set.specs.declared.settings.Settings.{Settings}
use Rattle.m2v_set.specs.Rules.{Passes, is_progressive}
use Rattle.m2v_set.proofs.Facts.{bounds}
use Rattle.m2v_order.specs.declared.jobs.PictureJob.{PictureJob}
use Rattle.m2v_order.specs.Times.{is_frames, repeats, is_top_first}
use Rattle.m2v_model.specs.m2v_macroblock.m2v_head.declared.picture.PictureInfo.{PictureInfo}
use Rattle.m2v_model.specs.m2v_macroblock.m2v_head.declared.picture.PictureExtension.{PictureExtension}
use Rattle.m2v_model.specs.Pictures.{Picture}
use Rattle.m2v_model.specs.PieceNotes.{note_of}
use Rattle.m2v_model.specs.Headers.{uses_backward}
use Rattle.m2v_model.specs.States.{is_b}
use Rattle.m2v_model.specs.Lawful.{has_forward_vectors}
use Rattle.m2v_audit.specs.m2v_check.Breaking.{noted_picture}
use Rattle.m2v_audit.specs.m2v_check.declared.coded.CodedPicture.{CodedPicture}
use Rattle.m2v_audit.specs.m2v_strict.declared.element.Element.{Element}
use Rattle.m2v_audit.specs.m2v_strict.declared.element.Element.TheVariants as elements
use Rattle.m2v_audit.specs.m2v_strict.declared.remark.Remark.{Remark}
use Rattle.m2v_audit.specs.m2v_strict.Remarks.{Remarks, judge, looked_at, equal, unset}
use Rattle.m2v_audit.specs.m2v_strict.OrderRules.{first_type_rule}
use Rattle.m2v_audit.specs.m2v_strict.PictureRules.{low_delay_rule, delay_rule, unused_rule, f_code_rule, full_pel_rule, field_rule, prediction_rule, top_first_rule, interlaced_rule, repeat_by_rate_rule, chroma_rule}
use Rattle.m2v_law_shown.specs.m2v_slice.Headers.{sequence_extension_of, sequence_of, picture_of, is_film, extension_of}
use Rattle.m2v_law_shown.specs.Own.{IsPictureOf, FitsScan}
use Rattle.m2v_law_shown.specs.m2v_enc_stream.Trees.{sequence_by}
use Rattle.m2v_law_audit.proofs.CleanRemarks.{MayBe, none, both, held, looked, looked_where, picture_warned, PictureMayBe}

-- ---- scans

-- field pictures are those of frames that were shot as fields
fields_alone : (scan : Scan) (job : PictureJob) → FitsScan scan job → nat_eq job.structure 3 ≡ false → scan ≡ Fields
fields_alone Progressive job fits e = let d : true ≡ false = sym (eq-eqb job.structure 3 fits) ∙ e in absurd cc
fields_alone Frames job fits e = let d : true ≡ false = sym (eq-eqb job.structure 3 fits) ∙ e in absurd cc
fields_alone Fields job fits e = refl

frames_shot : (scan : Scan) → scan ≡ Frames → is_progressive scan ≡ false
unfolding is_progressive
frames_shot scan e = rw e refl

-- with pulldown they were shot as frames
no_pulldown : (pulldown : Bool) (scan : Scan) → (pulldown ≡ true → scan ≡ Frames) → (scan ≡ Frames → ⊥) → pulldown ≡ false
no_pulldown true scan h other = absurd (other (h refl))
no_pulldown false scan h other = refl

-- a progressive sequence, and one of fields, have no picture that begins with the top field
not_top : (s : Settings) (display : ℕ) → s.pulldown ≡ false → is_frames s.scan ≡ false → is_top_first s display ≡ false
unfolding is_top_first
not_top s display e f = rw (e, f) refl

fields_no_top : (scan : Scan) → scan ≡ Fields → is_frames scan ≡ false
unfolding is_frames
fields_no_top scan e = rw e refl

progressive_no_top : (scan : Scan) → is_progressive scan ≡ true → is_frames scan ≡ false
unfolding is_frames is_progressive
progressive_no_top Progressive e = refl
progressive_no_top Frames e = absurd cc
progressive_no_top Fields e = refl

fields_no_film : (s : Settings) → s.scan ≡ Fields → s.pulldown ≡ false → is_film s ≡ false
unfolding is_film is_progressive
fields_no_film s e f = rw (e, f) refl

no_repeats : (s : Settings) (display : ℕ) → s.pulldown ≡ false → repeats s display ≡ false
unfolding repeats
no_repeats s display e = rw e refl

-- ---- rules by their flags

-- behind a sequence header stands no B picture
no_b_headed : (headed b : Bool) → (headed ≡ true → b ≡ false) → not (headed && b) ≡ true
no_b_headed true b forward = ap not (forward refl)
no_b_headed false b forward = refl

-- of an I picture no forward f_code is used
forward_by : (kind : ℕ) (b : Bool) → nat_eq kind 1 ≡ b → not (not b || false) ≡ true
    → nat_eq (cond {A = ℕ} (nat_eq kind 2 || nat_eq kind 3) 2 15) 15 ≡ true
forward_by kind true is e = ap (λ (k : ℕ). nat_eq (cond {A = ℕ} (nat_eq k 2 || nat_eq k 3) 2 15) 15) (eqb-true kind 1 is)
forward_by kind false is e = absurd cc

backward_unused : (b : Bool) → not b ≡ true → nat_eq (cond {A = ℕ} b 2 15) 15 ≡ true
backward_unused true e = absurd cc
backward_unused false e = refl

module _ (may : ℕ → Type 0) where
  unset_held : (rule : ℕ) (element : Element) (flag : Bool) → flag ≡ false → MayBe may (unset rule element flag)
  unset_held rule element true e = absurd cc
  unset_held rule element false e = none

  -- of other times f_codes are 7 in the directions that a picture has
  seven_by : (flag code : Element) (b : Bool) → MayBe may (looked_at (not b) (unset 31 flag false ++ equal 31 code (cond {A = ℕ} b 0 7) 7))
  seven_by flag code true = none
  seven_by flag code false = none

  seven_or : (flag code : Element) (b : Bool) → MayBe may (looked_at b (unset 31 flag false ++ equal 31 code (cond {A = ℕ} b 7 0) 7))
  seven_or flag code true = none
  seven_or flag code false = none

  -- a progressive frame has frame prediction
  prediction_by : (m : Remark) (frame film progressive : Bool) → MayBe may (looked_at (frame && (film && not progressive)) (judge film m))
  prediction_by m true true progressive = looked _ _ none
  prediction_by m true false progressive = none
  prediction_by m false film progressive = none

  -- a frame of a progressive sequence doesn't begin with the top field
  top_first_by : (element : Element) (progressive top other : Bool) → (progressive ≡ true → top ≡ false)
      → MayBe may (looked_at (progressive && other) (unset 35 element top))
  top_first_by element true top other none_top = looked _ _ (unset_held 35 element top (none_top refl))
  top_first_by element false top other none_top = none

  field_by : (a b c d : Element) (frame top film repeat other : Bool) → (frame ≡ false → (top ≡ false) × (film ≡ false) × (repeat ≡ false))
      → MayBe may (looked_at (not frame) (unset 33 a top ++ unset 33 b film ++ unset 33 c film ++ looked_at other (unset 33 d repeat)))
  field_by a b c d true top film repeat other flags = none
  field_by a b c d false top film repeat other flags =
      let are = flags refl in
      both (both (both (unset_held 33 a top are.0) (unset_held 33 b film are.1)) (unset_held 33 c film are.1)) (looked _ _ (unset_held 33 d repeat are.2))

  -- a frame that isn't progressive repeats no field
  interlaced_by : (element : Element) (progressive pulldown even frame other : Bool)
      → MayBe may (looked_at (not progressive && (frame && (not (progressive || pulldown) && other))) (unset 36 element (pulldown && even)))
  interlaced_by element true pulldown even frame other = none
  interlaced_by element false false even frame other = looked _ _ none
  interlaced_by element false true even true other = none
  interlaced_by element false true even false other = none

  low_none : (code : ℕ) → 4 ≤ code → (other : Bool) (ms : Remarks) → MayBe may (looked_at (nat_le code 2 && other) ms)
  low_none code le other ms = rw (false_from_ne_true (nat_le code 2) (λ e. let low = leb-true code 2 e in omega (arith, low, le))) none

  -- frames repeat a field at 29.97 and 30 Hz alone
  by_rate : (element : Element) (progressive pulldown even other : Bool) (code : ℕ) → (pulldown ≡ true → progressive ≡ false)
      → (pulldown ≡ true → 4 ≤ code)
      → MayBe may (looked_at (nat_le code (if progressive then 6 else 2) && other) (unset 37 element (pulldown && even)))
  by_rate element progressive false even other code scan least = looked _ _ none
  by_rate element true true even other code scan least = let d : true ≡ false = scan refl in absurd cc
  by_rate element false true even other code scan least = low_none code (least refl) _ _

  -- ---- a picture of a job

  module _ (s : Settings) (job : PictureJob) (delay number end : ℕ) (first dropped begins : Bool) (crowded : ℕ) where
    abbrev own : CodedPicture
    own = record {
      number = number;
      sequence = sequence_by s;
      first_in_group = first;
      note = record {
        info = picture_of job delay;
        extension = extension_of s job;
        code_end = end;
        dropped = dropped;
        first = begins;
        crowded = crowded;
      };
    }

    low_delay_held : MayBe may (low_delay_rule own)
    unfolding low_delay_rule sequence_extension_of
    low_delay_held = none

    delay_held : nat_eq delay 65535 ≡ false → MayBe may (delay_rule true (picture_of job delay).vbv_delay)
    unfolding delay_rule picture_of
    delay_held e = held _ _ (ap not e)

    forward_held : not (has_forward_vectors (noted_picture own.note)) ≡ true → MayBe may (unused_rule own 0)
    unfolding picture_of extension_of
    forward_held on = let unused = forward_by job.kind (nat_eq job.kind 1) refl on in both (held _ _ unused) (held _ _ unused)

    backward_held : not (uses_backward own.note.info.kind) ≡ true → MayBe may (unused_rule own 1)
    unfolding picture_of extension_of
    backward_held on = let unused = backward_unused (nat_eq job.kind 3) on in both (held _ _ unused) (held _ _ unused)

    codes_held : MayBe may (f_code_rule own)
    unfolding f_code_rule
    codes_held =
        both (looked_where (not (has_forward_vectors (noted_picture own.note))) (unused_rule own 0) forward_held)
        (looked_where (not (uses_backward own.note.info.kind)) (unused_rule own 1) backward_held)

    vectors_held : MayBe may (full_pel_rule (picture_of job delay))
    unfolding full_pel_rule picture_of
    vectors_held =
        both (seven_by elements.FullPelForwardVector elements.ForwardFCode (nat_eq job.kind 1))
        (seven_or elements.FullPelBackwardVector elements.BackwardFCode (nat_eq job.kind 3))

    prediction_held : MayBe may (prediction_rule own)
    unfolding prediction_rule extension_of
    prediction_held = prediction_by _ (nat_eq job.structure 3) (is_film s) _

    chroma_held : MayBe may (chroma_rule (extension_of s job))
    unfolding chroma_rule extension_of
    chroma_held = held _ _ (eq-eqb _ _ refl)

    interlaced_held : MayBe may (interlaced_rule true own)
    unfolding interlaced_rule extension_of sequence_extension_of is_film repeats
    interlaced_held = interlaced_by _ (is_progressive s.scan) s.pulldown _ (nat_eq job.structure 3) _

    module _ (passes : Passes s) (fits : FitsScan s.scan job) where
      pulldown_scan : s.pulldown ≡ true → s.scan ≡ Frames
      pulldown_scan = (bounds s passes).pulldown.scan

      by_rate_held : MayBe may (repeat_by_rate_rule true own)
      unfolding repeat_by_rate_rule extension_of sequence_extension_of sequence_of repeats
      by_rate_held =
          by_rate _ (is_progressive s.scan) s.pulldown _ _ s.rate_code (λ on. frames_shot s.scan (pulldown_scan on)) (bounds s passes).pulldown.code

      top_first_held : MayBe may (top_first_rule own)
      unfolding top_first_rule extension_of sequence_extension_of
      top_first_held =
          top_first_by _ (is_progressive s.scan) (is_top_first s job.display) _ (λ progressive.
          let pulled = no_pulldown s.pulldown s.scan pulldown_scan (λ e. let d : true ≡ false = sym progressive ∙ frames_shot s.scan e in absurd cc) in
          not_top s job.display pulled (progressive_no_top s.scan progressive))

      field_held : MayBe may (field_rule true own)
      unfolding field_rule extension_of
      field_held =
          field_by _ _ _ _ (nat_eq job.structure 3) (is_top_first s job.display) (is_film s) (repeats s job.display) _ (λ field.
          let scan : s.scan ≡ Fields = fields_alone s.scan job fits field in
          let pulled = no_pulldown s.pulldown s.scan pulldown_scan (λ e. let d : Fields ≡ Frames = sym scan ∙ e in absurd cc) in
          (not_top s job.display pulled (fields_no_top s.scan scan), fields_no_film s scan pulled, no_repeats s job.display pulled))

      own_picture : (headed : Bool) → nat_eq delay 65535 ≡ false → (headed ≡ true → is_b job.kind ≡ false) → PictureMayBe may headed true own
      unfolding first_type_rule picture_of
      own_picture headed steady forward = record {
        first = held _ _ (no_b_headed headed (is_b job.kind) forward);
        delay = both low_delay_held (delay_held steady);
        codes = codes_held;
        vectors = vectors_held;
        field = field_held;
        frame = both (both (both (both prediction_held top_first_held) interlaced_held) by_rate_held) chroma_held;
        warnings = picture_warned own;
      }

  -- the picture that is made of a job, whatever was counted
  pub made_picture : (s : Settings) (job : PictureJob) (p : Picture) → Passes s → FitsScan s.scan job → IsPictureOf s job p
      → (number end : ℕ) (first headed : Bool) → (headed ≡ true → is_b job.kind ≡ false)
      → PictureMayBe may headed true (record { number = number; sequence = sequence_by s; first_in_group = first; note = note_of end p })
  made_picture s job p passes fits is number end first headed forward =
      let at : PictureInfo → PictureExtension → CodedPicture =
      λ info extension. record {
        number = number;
        sequence = sequence_by s;
        first_in_group = first;
        note = record { info = info; extension = extension; code_end = end; dropped = p.dropped; first = p.begins_frame; crowded = p.crowded_row };
      } in
      subst (λ (info : PictureInfo). PictureMayBe may headed true (at info p.extension)) (sym is.info)
      (subst (λ (extension : PictureExtension). PictureMayBe may headed true (at (picture_of job is.delay) extension)) (sym is.extension)
      (own_picture s job is.delay number end first p.dropped p.begins_frame p.crowded_row passes fits headed is.constant forward))

-- Of the events of the encoder's stream the stricter rules remark breaches of the rule on whole macroblocks alone.
use Rattle.std.proofs.Common.{◌≡◌, ℕ, ◌-◌, ◌⊎◌, inl, inr, Bool, true, false, not, ◌||◌, List, [], ◌∷◌, ◌++◌, map, Option, Some, None, refl, sym, ap, subst, ◌∙◌}
use Rattle.std.specs.Prelude.{All, nat_eq, if◌then◌else◌}
use Rattle.std.proofs.lemmas.Bool.{eqb-true, and_parts}
use Rattle.std.proofs.lemmas.List.Elements.{All-nil, All-append, All-head, All-tail, All-weaker}
use Rattle.m2v_set.specs.declared.settings.Settings.{Settings}
use Rattle.m2v_set.specs.Rules.{Passes}
use Rattle.m2v_order.specs.declared.jobs.PictureJob.{PictureJob}
use Rattle.m2v_order.specs.Groups.{Group}
use Rattle.m2v_order.specs.Calls.{jobs_in}
use Rattle.m2v_order.specs.Whole.{IsGroupOf}
use Rattle.m2v_model.specs.m2v_macroblock.m2v_head.declared.picture.PictureInfo.{PictureInfo}
use Rattle.m2v_model.specs.declared.state.Sequence.{Sequence}
use Rattle.m2v_model.specs.Pictures.{Picture, Events, sequence_header, group_header, coded_picture}
use Rattle.m2v_model.specs.PieceNotes.{note_of}
use Rattle.m2v_model.specs.States.{is_b}
use Rattle.m2v_audit.specs.m2v_strict.OrderRules.{leads}
use Rattle.m2v_law_shown.specs.m2v_slice.Headers.{begins_group, group_from, picture_of}
use Rattle.m2v_law_shown.specs.Own.{IsPictureOf, FitsScan}
use Rattle.m2v_law_shown.specs.Telling.{headers, told_all, IsMade}
use Rattle.m2v_law_shown.specs.Told.{Made, job_in}
use Rattle.m2v_law_shown.specs.m2v_enc_stream.Trees.{sequence_by}
use Rattle.m2v_law_shown.proofs.Jobs.{IsFit, group_fits}
use Rattle.m2v_law_audit.proofs.BreachEvents.{coming, rate_behind, with_note}
use Rattle.m2v_law_audit.proofs.CleanRemarks.{PictureMayBe}
use Rattle.m2v_law_audit.proofs.CleanEvents.{Before, before_first, headed_by, before_with, leads_with, MayBePicture}
use Rattle.m2v_law_audit.proofs.CleanKeeps.{Keep, keep_none, keep_one}
use Rattle.m2v_law_audit.proofs.EncodedHeaders.{May, own_header, own_group}
use Rattle.m2v_law_audit.proofs.EncodedPictures.{made_picture}

-- ---- the jobs of groups

pub jobs_fit : {F : Type 0} (s : Settings) (gs : List (Group F)) → Passes s → All (λ (g : Group F). IsGroupOf s g) gs
    → All (FitsScan s.scan) (jobs_in gs)
jobs_fit s [] passes are = All-nil (FitsScan s.scan)
jobs_fit {F} s (g ∷ gs) passes are =
    let P = λ (g : Group F). IsGroupOf s g in
    All-append (FitsScan s.scan) g.pictures (jobs_in gs)
    (All-weaker (IsFit s) (FitsScan s.scan) (λ job fit. fit.fits) g.pictures (group_fits s g passes (All-head P g gs are)))
    (jobs_fit s gs passes (All-tail P g gs are))

-- ---- events, one after another

rate_by : (b x y : Bool) → x ≡ true → y ≡ true → (if b then x else y) ≡ true
rate_by true x y e f = e
rate_by false x y e f = f

module _ (s : Settings) (passes : Passes s) where
  abbrev Keeps : Before → Events → Type 0
  Keeps x es = Keep (May s) (sequence_by s) x es

  -- what came of the stream: its sequence header, where one came, and a constant rate
  record Goes (x : Before) : Type 0 where
    sequence : (x.kept.sequence ≡ None) ⊎ (x.kept.sequence ≡ Some (sequence_by s))
    constant : x.kept.constant ≡ true

  -- and no header stands behind the last picture
  record IsBare (x : Before) : Type 0 where
    headed : x.headed ≡ false
    grouped : x.kept.first_in_group ≡ false

  bare_leads : (x : Before) → IsBare x → leads (leads_with x) ≡ false
  bare_leads x bare = λ i. bare.headed i || bare.grouped i

  -- ---- a picture

  steady : (job : PictureJob) (p : Picture) → IsPictureOf s job p → not (nat_eq p.info.vbv_delay 65535) ≡ true
  unfolding picture_of
  steady job p is = ap (λ (i : PictureInfo). not (nat_eq i.vbv_delay 65535)) is.info ∙ ap not is.constant

  rate_is : (x : Before) (t : Sequence) (job : PictureJob) (p : Picture) (end : ℕ) → Goes x → IsPictureOf s job p
      → rate_behind x.kept (coming x.kept t (note_of end p)) ≡ true
  rate_is x t job p end goes is = rate_by (nat_eq x.kept.pictures 0) _ _ (steady job p is) goes.constant

  picture_by : (x : Before) (o : Option Sequence) (job : PictureJob) (p : Picture) (end : ℕ) → (o ≡ None) ⊎ (o ≡ Some (sequence_by s))
      → Goes x → IsPictureOf s job p → FitsScan s.scan job → (x.headed ≡ true → is_b job.kind ≡ false)
      → MayBePicture (May s) x o (note_of end p)
  picture_by x o job p end (inl e) goes is fits forward = subst (λ (q : Option Sequence). MayBePicture (May s) x q (note_of end p)) (sym e) tt
  picture_by x o job p end (inr e) goes is fits forward =
      subst (λ (q : Option Sequence). MayBePicture (May s) x q (note_of end p)) (sym e)
      (subst (λ (c : Bool). PictureMayBe (May s) x.headed c (coming x.kept (sequence_by s) (note_of end p)))
      (sym (rate_is x (sequence_by s) job p end goes is))
      (made_picture (May s) s job p passes fits is x.kept.pictures end x.kept.first_in_group x.headed forward))

  behind_picture : (x : Before) (o : Option Sequence) (job : PictureJob) (p : Picture) (end : ℕ) → (o ≡ None → IsBare x) → Goes x
      → IsPictureOf s job p →
      let y : Before = record { kept = with_note x.kept o (note_of end p); headed = headed_by o x.headed } in
      Goes y × IsBare y
  behind_picture x None job p end bare goes is =
      let same = bare refl in
      (record { sequence = goes.sequence; constant = goes.constant }, record { headed = same.headed; grouped = same.grouped })
  behind_picture x (Some t) job p end bare goes is =
      (record { sequence = goes.sequence; constant = rate_is x t job p end goes is }, record { headed = refl; grouped = refl })

  keep_picture : (x : Before) (job : PictureJob) (p : Picture) (es : Events) → Goes x → (x.kept.sequence ≡ None → IsBare x)
      → IsPictureOf s job p
      → FitsScan s.scan job → (x.headed ≡ true → is_b job.kind ≡ false) → ((y : Before) → Goes y → IsBare y → Keeps y es)
      → Keeps x (coded_picture p ∷ es)
  keep_picture x job p es goes bare is fits forward later =
      keep_one (May s) (sequence_by s) x (coded_picture p) es (λ end. picture_by x x.kept.sequence job p end goes.sequence goes is fits forward)
      (λ end.
      let behind = behind_picture x x.kept.sequence job p end bare goes is in
      later (before_with x (end, coded_picture p)) behind.0 behind.1)

  -- ---- a picture with its headers, and others behind it

  -- the picture behind a sequence header is an I picture
  intra_first : (job : PictureJob) → begins_group job ≡ true → is_b job.kind ≡ false
  unfolding begins_group
  intra_first job e = ap is_b (eqb-true job.kind 1 (and_parts _ _ e).0)

  keep_headed : (begins : Bool) (x : Before) (m : Made) (es : Events) → begins_group m.0 ≡ begins → Goes x → IsBare x → IsMade s m
      → FitsScan s.scan m.0
      → ((y : Before) → Goes y → IsBare y → Keeps y es)
      → Keeps x ((headers s m.0 begins ++ coded_picture m.1 ∷ []) ++ es)
  keep_headed true x m es begins goes bare is fits later =
      let display = m.0.display - m.0.frame in
      let g = group_from s display in
      let headed : ℕ → Before = λ end. before_with x (end, sequence_header (sequence_by s)) in
      keep_one (May s) (sequence_by s) x (sequence_header (sequence_by s)) (group_header g ∷ coded_picture m.1 ∷ es) (λ end. own_header s (leads_with x) passes (bare_leads x bare))
      (λ end.
      keep_one (May s) (sequence_by s) (headed end) (group_header g) (coded_picture m.1 ∷ es) (λ to. own_group (May s) s display (leads_with (headed end)) (sequence_by s).info.frame_rate_code bare.grouped)
      (λ to.
      keep_picture (before_with (headed end) (to, group_header g)) m.0 m.1 es (record { sequence = inr refl; constant = goes.constant })
      (λ none. absurd cc) is fits (λ on. intra_first m.0 begins) later))
  keep_headed false x m es begins goes bare is fits later =
      keep_picture x m.0 m.1 es goes (λ none. bare) is fits (λ on. let d : true ≡ false = sym on ∙ bare.headed in absurd cc) later

  keep_all : (made : List Made) (x : Before) → All (IsMade s) made → All (FitsScan s.scan) (map job_in made) → Goes x → IsBare x
      → Keeps x (told_all s made)
  keep_all [] x are fit goes bare = keep_none (May s) (sequence_by s) x (bare_leads x bare)
  keep_all (m ∷ made) x are fit goes bare =
      keep_headed (begins_group m.0) x m (told_all s made) refl goes bare (All-head (IsMade s) m made are) (All-head (FitsScan s.scan) m.0 (map job_in made) fit)
      (λ y next still. keep_all made y (All-tail (IsMade s) m made are) (All-tail (FitsScan s.scan) m.0 (map job_in made) fit) next still)

  pub keep_told : (made : List Made) (low : Bool) → All (IsMade s) made → All (FitsScan s.scan) (map job_in made)
      → Keep (May s) (sequence_by s) (before_first low) (told_all s made)
  keep_told made low are fit = keep_all made (before_first low) are fit (record { sequence = inl refl; constant = refl }) (record { headed = refl; grouped = refl })

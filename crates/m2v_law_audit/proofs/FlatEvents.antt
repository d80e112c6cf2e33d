-- Of the events of the flat profile's stream the stricter rules remark breaches of the rule on whole macroblocks alone.
use Rattle.std.proofs.Common.{◌≡◌, ℕ, ◌+◌, ◌⊎◌, inl, inr, Bool, true, false, List, [], ◌∷◌, map, Option, Some, None, refl, sym, subst}
use Rattle.std.specs.Prelude.{nat_eq, if◌then◌else◌}
use Rattle.m2v_flat.specs.declared.settings.FlatSettings.{FlatSettings}
use Rattle.m2v_flat.specs.Tree.{sequence_of}
use Rattle.m2v_flat.specs.Told.{decoded, decoded_from}
use Rattle.m2v_model.specs.declared.state.Sequence.{Sequence}
use Rattle.m2v_model.specs.Pictures.{Events, sequence_header, coded_picture}
use Rattle.m2v_model.specs.PieceNotes.{note_of}
use Rattle.m2v_audit.specs.m2v_strict.OrderRules.{leads}
use Rattle.m2v_law_audit.proofs.BreachEvents.{coming, rate_behind, with_note}
use Rattle.m2v_law_audit.proofs.CleanRemarks.{PictureMayBe}
use Rattle.m2v_law_audit.proofs.CleanEvents.{Before, before_first, headed_by, before_with, leads_with, MayBePicture}
use Rattle.m2v_law_audit.proofs.CleanHeaders.{MayBy}
use Rattle.m2v_law_audit.proofs.CleanKeeps.{Keep, keep_none, keep_one}
use Rattle.m2v_law_audit.proofs.FlatPictures.{flat_header, flat_coded}

-- ---- events, one after another

varies_by : (b c : Bool) → (b ≡ true) ⊎ (c ≡ false) → (if b then false else c) ≡ false
varies_by true c h = refl
varies_by false c (inl e) = absurd cc
varies_by false c (inr e) = e

module _ (s : FlatSettings) where
  abbrev pub May : ℕ → Type 0
  May = MayBy (sequence_of s)

  abbrev Keeps : Before → Events → Type 0
  Keeps x es = Keep May (sequence_of s) x es

  -- what came of the stream: its sequence header, and no picture that tells a rate
  record Goes (x : Before) : Type 0 where
    sequence : x.kept.sequence ≡ Some (sequence_of s)
    varies : (nat_eq x.kept.pictures 0 ≡ true) ⊎ (x.kept.constant ≡ false)

  rate_is : (x : Before) (number end : ℕ) (raw : List ℕ) → Goes x
      → rate_behind x.kept (coming x.kept (sequence_of s) (note_of end (decoded s number raw))) ≡ false
  rate_is x number end raw goes = varies_by (nat_eq x.kept.pictures 0) x.kept.constant goes.varies

  picture_by : (x : Before) (o : Option Sequence) (number end : ℕ) (raw : List ℕ) → o ≡ Some (sequence_of s) → Goes x
      → MayBePicture May x o (note_of end (decoded s number raw))
  picture_by x o number end raw e goes =
      let n = note_of end (decoded s number raw) in
      subst (λ (q : Option Sequence). MayBePicture May x q n) (sym e)
      (subst (λ (c : Bool). PictureMayBe May x.headed c (coming x.kept (sequence_of s) n)) (sym (rate_is x number end raw goes))
      (flat_coded s number x.kept.pictures end raw x.kept.first_in_group x.headed))

  behind_picture : (x : Before) (o : Option Sequence) (number end : ℕ) (raw : List ℕ) → o ≡ Some (sequence_of s) → Goes x →
      let y : Before = record { kept = with_note x.kept o (note_of end (decoded s number raw)); headed = headed_by o x.headed } in
      Goes y × (leads (leads_with y) ≡ false)
  behind_picture x None number end raw e goes = absurd cc
  behind_picture x (Some t) number end raw e goes =
      (record { sequence = goes.sequence; varies = inr (rate_is x number end raw goes) }, refl)

  -- frames, of which there is one or a picture stands before them
  keep_frames : (frames : List (List ℕ)) (number : ℕ) (x : Before) → Goes x → (frames ≡ [] → leads (leads_with x) ≡ false)
      → Keeps x (map coded_picture (decoded_from s number frames))
  unfolding decoded_from
  keep_frames [] number x goes bare = keep_none May (sequence_of s) x (bare refl)
  keep_frames (raw ∷ frames) number x goes bare =
      keep_one May (sequence_of s) x (coded_picture (decoded s number raw)) (map coded_picture (decoded_from s (number + 1) frames))
      (λ end. picture_by x x.kept.sequence number end raw goes.sequence goes)
      (λ end.
      let behind = behind_picture x x.kept.sequence number end raw goes.sequence goes in
      keep_frames frames (number + 1) (before_with x (end, coded_picture (decoded s number raw))) behind.0 (λ e. behind.1))

  pub keep_flat : (raw : List ℕ) (frames : List (List ℕ)) (low : Bool)
      → Keep May (sequence_of s) (before_first low) (sequence_header (sequence_of s) ∷ map coded_picture (decoded_from s 0 (raw ∷ frames)))
  keep_flat raw frames low =
      keep_one May (sequence_of s) (before_first low) (sequence_header (sequence_of s)) (map coded_picture (decoded_from s 0 (raw ∷ frames)))
      (λ end. flat_header s (leads_with (before_first low)) refl)
      (λ end.
      keep_frames (raw ∷ frames) 0 (before_with (before_first low) (end, sequence_header (sequence_of s)))
      (record { sequence = refl; varies = inl refl }) (λ e. absurd cc))

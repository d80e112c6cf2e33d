-- The picture of a piece whose slices are read: what leads to it, and the state in which its headers stop.
use Rattle.std.proofs.Common.{◌≡◌, ℕ, Bool, true, false, List, Option, Some, None, inl, inr, sym, ap, subst, ◌∙◌}
use Rattle.std.proofs.lemmas.Bool.{both_ways}
use Rattle.m2v_model.specs.declared.fault.FaultKind.{FaultKind}
use Rattle.m2v_model.specs.declared.state.Sequence.{Sequence}
use Rattle.m2v_model.specs.declared.state.Open.{Open}
use Rattle.m2v_model.specs.declared.state.State.{State}
use Rattle.m2v_model.specs.Units.{Units, cut}
use Rattle.m2v_model.specs.States.{is_second_field_due, opened, after_picture}
use Rattle.m2v_model.specs.Streams.{Part}
use Rattle.m2v_model.specs.Pictures.{Store, no_frames, picture_begun}
use Rattle.m2v_model.specs.HeadersOnly.{FrontRead}
use Rattle.m2v_dec_piece.specs.declared.answer.Piece.{Piece}
use Rattle.m2v_dec_rows.specs.Opened.{whole_of}
use Rattle.m2v_dec_rows.specs.Headers.{Front, stopped, stopped_from, end_of, IsBetween}
use Rattle.m2v_dec_rows.specs.OnePicture.{HasOnePicture}
use Rattle.m2v_dec_rows.specs.Halves.{ReadsNone}
use Rattle.m2v_dec_rows.proofs.Behind.{skim_at}
use Rattle.m2v_dec_rows.proofs.Before.{shut}
use Rattle.m2v_dec_rows.proofs.Later.{reached, loaded, Skimmed, rest}
use Rattle.m2v_dec_rows.proofs.UpToPicture.{HasSize, Headed, Leads, Either, either}
use Rattle.m2v_dec_rows.proofs.WholePieces.{has_size, sequence_is}

-- headers lead to a picture in a sequence, and reading its headers stops in a state
pub record Enters (w final : State) (s : Sequence) : Type 0 where
  pub headed : Headed
  pub open headed use *
  pub at : Skimmed
  pub open at use *
  pub leads : Leads w before
  pub known : before.sequence ≡ Some s
  pub due : is_second_field_due before.waiting info extension ≡ true
  pub read : (opened before info extension).slices_unread ≡ false
  pub final_is : final ≡ skim_at (loaded (after_picture before info extension) intra non_intra) s (reached (opened before info extension) has_slice row)

enters_by : (w : State) (store : Store) (end : ℕ) (us : Units) (parts : List Part) (fault : Option (FaultKind × ℕ)) (st : State) (r : FrontRead st us parts fault) → Either w store end us parts fault st r
    → (s : Sequence) (o : Open) → (stopped_from st parts).sequence ≡ Some s → (stopped_from st parts).picture ≡ Some o → o.dropped ≡ false → Enters w (stopped_from st parts) s
enters_by w store end us parts fault st r (inl a) s o in_force is_open kept = absurd (both_ways _ kept (subst ReadsNone is_open a.drops))
enters_by w store end us parts fault st r (inr a) s o in_force is_open kept =
    let h = rest a.z a.s a.o (picture_begun (Some a.s) a.o store) end a.mid a.later_parts fault a.later a.read a.begins in
    let final = a.final_is ∙ h.final_is in
    let same = sequence_is a.s s (sym (ap (λ (x : State). x.sequence) final) ∙ in_force) in
    record {
      headed = a.headed;
      at = h.at;
      leads = a.leads;
      known = a.known ∙ ap Some same;
      due = a.due;
      read = subst (λ (x : Open). x.slices_unread ≡ false) a.is_open a.read;
      final_is = final ∙ (λ i. skim_at (loaded (a.is_behind i) h.intra h.non_intra) (same i) (reached (a.is_open i) h.has_slice h.row));
    }

enters_at : (z : State) (h : Bool) (open_picture : Option Open) (p : Piece) (f : Front (record z { headers_only = h; picture = open_picture }) p) → h ≡ false → open_picture ≡ None → HasSize z.sequence → HasOnePicture (cut 0 (whole_of p)).1
    → (s : Sequence) (o : Open) → (stopped f).sequence ≡ Some s → (stopped f).picture ≡ Some o → o.dropped ≡ false → Enters (record z { headers_only = h; picture = open_picture }) (stopped f) s
enters_at z false None p f on none size one =
    enters_by (shut z z.sequence false) no_frames (end_of p) (cut 0 (whole_of p)).1 f.parts f.fault _ f.read (either z z.sequence no_frames (end_of p) (cut 0 (whole_of p)).1 f.parts f.fault f.read one size)
enters_at z false (Some o) p f on none size one = absurd (cc none)
enters_at z true open_picture p f on none size one = absurd (cc on)

pub enters : (w : State) (p : Piece) (f : Front w p) → w.headers_only ≡ false → IsBetween w → HasOnePicture (cut 0 (whole_of p)).1
    → (s : Sequence) (o : Open) → (stopped f).sequence ≡ Some s → (stopped f).picture ≡ Some o → o.dropped ≡ false → Enters w (stopped f) s
enters w p f all between one = enters_at w w.headers_only w.picture p f all between.closed (has_size w.first w.sequence between.size) one

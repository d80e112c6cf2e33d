-- Frame after frame: what stands after one more is written, and where writing stops.
use Rattle.std.proofs.Common.{◌≡◌, ℕ, ◌+◌, ◌≤◌, List, [], ◌∷◌, ◌++◌, length, map, Option, refl, sym, subst, ap, ◌∙◌, append_assoc, arith}
use Rattle.std.proofs.lemmas.List.{length-append, append-nil, map-append}
use Rattle.std.proofs.lemmas.List.Concat.{flat_map-append}
use Rattle.m2v_port.specs.Ends.{Change, change}
use Rattle.m2v_port.specs.Port.{Grows, GrowsByPrefix}
use Rattle.m2v_port.proofs.Runs.{rose_since, grows_on, grows_by_nothing, prefix_on, prefix_of_more}
use Rattle.m2v_plane.specs.Samples.{Samples}
use Rattle.m2v_plane.specs.Raw.{raw, crop}
use Rattle.m2v_dec_piece.specs.declared.answer.DecodeError.{DecodeError}
use Rattle.m2v_dec_piece.specs.declared.answer.DecodeError.TheVariants as errors
use Rattle.m2v_decode.specs.Decoding.{Decoding, between, due_of, HandsOut}
use Rattle.m2v_decode.specs.Progress.{raw_of, Cuts, Stays, HasPut}

pub raw-append : (fs gs : List Samples) → raw_of (fs ++ gs) ≡ raw_of fs ++ raw_of gs
raw-append fs gs = ap raw (map-append crop fs gs) ∙ flat_map-append (λ (x : List ℕ). x) (map crop fs) (map crop gs)

raw_one : (fs : List Samples) (f : Samples) → raw_of (fs ++ f ∷ []) ≡ raw_of fs ++ crop f
raw_one fs f = raw-append fs (f ∷ []) ∙ ap (λ (t : List ℕ). raw_of fs ++ t) (append-nil (crop f))

-- all but what is due, and how many frames were shown
pub stays_but : (d : Decoding) (ready : List Samples) (shown : ℕ) → Stays d (record d { ready = ready; shown = shown })
stays_but d ready shown = record { between_is = refl; anchor = λ going. refl; ended = refl; failed = refl; pictures = refl; dropped = refl }

-- some of the frames that were due were written
pub record HasPutSome (old new : Decoding) (held : Change) : Type 0 where
  pub frames : List Samples
  pub due : due_of old ≡ frames ++ due_of new
  pub grown : Grows held.old (raw_of frames) held.new
  pub stays : Stays old new
  pub open stays use *
  pub shown : new.shown ≡ old.shown + length frames

pub all_due : (old new : Decoding) (held : Change) → (so : HasPutSome old new held) → due_of new ≡ [] → so.frames ≡ due_of old
all_due old new held so none = sym (so.due ∙ ap (λ (t : List Samples). so.frames ++ t) none ∙ append-nil so.frames)

pub put_all : (old new : Decoding) (held : Change) → HasPutSome old new held → due_of new ≡ [] → HasPut old new
put_all old new held so none = record {
  none = none;
  stays = so.stays;
  shown = so.shown ∙ ap (λ (t : List Samples). old.shown + length t) (all_due old new held so none);
}

-- The output's states are o0, o1 and so on.
module _ {K : Type 0} (held : K → Option (List ℕ)) (output_faults : K → ℕ) where
  abbrev output : K → K → Change
  output = change held output_faults

  pub put_none : (d : Decoding) (o0 : K) → HasPutSome d d (output o0 o0)
  put_none d o0 = record {
    frames = [];
    due = refl;
    grown = grows_by_nothing (held o0);
    stays = stays_but d d.ready d.shown;
    shown = omega arith;
  }

  pub put_more : (old mid new : Decoding) (f : Samples) (o0 o1 o2 : K)
      → HasPutSome old mid (output o0 o1) → HandsOut mid f new → Grows (held o1) (crop f) (held o2) → HasPutSome old new (output o0 o2)
  put_more old mid new f o0 o1 o2 so next grown = record {
    frames = so.frames ++ f ∷ [];
    due = so.due ∙ ap (λ (t : List Samples). so.frames ++ t) next.due ∙ sym (append_assoc so.frames (f ∷ []) (due_of new));
    grown = subst (λ (b : List ℕ). Grows (held o0) b (held o2)) (sym (raw_one so.frames f)) (grows_on so.grown grown);
    stays = record {
      between_is = (λ i. between (record new { state = next.state i; frames = next.frames i })) ∙ so.between_is;
      anchor = λ going. next.anchor (so.ended ∙ going) ∙ so.anchor going;
      ended = next.ended ∙ so.ended;
      failed = next.failed ∙ so.failed;
      pictures = next.pictures ∙ so.pictures;
      dropped = next.dropped ∙ so.dropped;
    };
    shown = omega (arith, next.shown, so.shown, length-append so.frames (f ∷ []));
  }

  pub put_whole : (old new : Decoding) (o0 o1 : K) → HasPutSome old new (output o0 o1) → due_of new ≡ [] → Grows (held o0) (raw_of (due_of old)) (held o1)
  put_whole old new o0 o1 so none = subst (λ (t : List Samples). Grows (held o0) (raw_of t) (held o1)) (all_due old new (output o0 o1) so none) so.grown

  cut_part : (old mid new : Decoding) (f : Samples) (o0 o1 o2 : K)
      → HasPutSome old mid (output o0 o1) → HandsOut mid f new → GrowsByPrefix (held o1) (crop f) (held o2) → GrowsByPrefix (held o0) (raw_of (due_of old)) (held o2)
  cut_part old mid new f o0 o1 o2 so next cut =
      let due : raw_of (due_of old) ≡ raw_of so.frames ++ (crop f ++ raw_of (due_of new)) = ap raw_of (so.due ∙ ap (λ (t : List Samples). so.frames ++ t) next.due) ∙ raw-append so.frames (f ∷ due_of new) in
      subst (λ (b : List ℕ). GrowsByPrefix (held o0) b (held o2)) (sym due) (prefix_on so.grown (prefix_of_more cut (raw_of (due_of new))))

  pub put_cut : (old mid new : Decoding) (f : Samples) (o0 o1 o2 : K) (e : DecodeError) → output_faults o0 ≤ output_faults o1
      → HasPutSome old mid (output o0 o1) → HandsOut mid f new → Cuts (crop f) (output o1 o2) e
      → Cuts (raw_of (due_of old)) (output o0 o2) e
  put_cut old mid new f o0 o1 o2 errors.Read rises so next cut = absurd cut
  put_cut old mid new f o0 o1 o2 errors.Write rises so next cut = (rose_since rises cut.0, cut_part old mid new f o0 o1 o2 so next cut.1)
  put_cut old mid new f o0 o1 o2 (errors.Stream x) rises so next cut = absurd cut
  put_cut old mid new f o0 o1 o2 errors.TooLong rises so next cut = absurd cut
  put_cut old mid new f o0 o1 o2 errors.PictureTooLarge rises so next cut = absurd cut
  put_cut old mid new f o0 o1 o2 errors.Memory rises so next cut = cut_part old mid new f o0 o1 o2 so next cut

-- What a display queue hands out over pictures, one list behind another.
use Rattle.std.proofs.Common.{◌≡◌, ℕ, ◌+◌, length, Bool, true, false, List, [], ◌∷◌, ◌++◌, map, Option, option_to_list, refl, sym, ap, ◌∙◌, append_assoc}
use Rattle.std.specs.Prelude.{filter, ◌||◌, ◌==◌}
use Rattle.std.proofs.lemmas.List.{append-nil, map-append, length-append}
use Rattle.std.proofs.lemmas.List.Elements.{filter-append}
use Rattle.m2v_plane.specs.Samples.{Samples}
use Rattle.m2v_order.specs.Display.{Holder, shown as shown_step, held, handed, held_after, is_kept}
use Rattle.m2v_model.specs.Pictures.{Picture, Pictures, is_ending, typed, frames_in}
use Rattle.m2v_model.specs.Decoding.{is_dropped}
use Rattle.m2v_decode.specs.Decoding.{frame_of, decoded_of, dropped_in, queue_of, ShowsFrames}

frames-append : (ps qs : Pictures) → frames_in (ps ++ qs) ≡ frames_in ps ++ frames_in qs
frames-append ps qs = ap (map typed) (filter-append is_ending ps qs) ∙ map-append typed (filter is_ending ps) (filter is_ending qs)

pub decoded-append : (ps qs : Pictures) → decoded_of (ps ++ qs) ≡ decoded_of ps ++ decoded_of qs
decoded-append ps qs =
    let kept = λ (fs : List (Picture × ℕ)). filter (is_kept is_dropped) fs in
    ap (λ (fs : List (Picture × ℕ)). map frame_of (kept fs)) (frames-append ps qs)
    ∙ ap (map frame_of) (filter-append (is_kept is_dropped) (frames_in ps) (frames_in qs))
    ∙ map-append frame_of (kept (frames_in ps)) (kept (frames_in qs))

pub dropped-append : (ps qs : Pictures) → dropped_in (ps ++ qs) ≡ dropped_in ps + dropped_in qs
dropped-append ps qs = ap length (filter-append is_dropped ps qs) ∙ length-append (filter is_dropped ps) (filter is_dropped qs)

pub low_one : {F : Type 0} (q : Holder F) (f : F) (kind : ℕ) (b : Bool) → (q.low_delay || (kind == 3)) ≡ b → (held q f kind).low_delay ≡ q.low_delay
unfolding held
low_one q f kind true e = rw e refl
low_one q f kind false e = rw e refl

pub low_stays : {F : Type 0} (q : Holder F) (ps : List (F × ℕ)) → (held_after q ps).low_delay ≡ q.low_delay
unfolding held_after
low_stays q [] = refl
low_stays q (p ∷ ps) = low_stays (held q p.0 p.1) ps ∙ low_one q p.0 p.1 (q.low_delay || (p.1 == 3)) refl

handed-append : {F : Type 0} (q : Holder F) (ps qs : List (F × ℕ)) → handed q (ps ++ qs) ≡ handed q ps ++ handed (held_after q ps) qs
unfolding handed held_after
handed-append q [] qs = refl
handed-append q (p ∷ ps) qs =
    ap (λ t. option_to_list (shown_step q p.0 p.1) ++ t) (handed-append (held q p.0 p.1) ps qs)
    ∙ sym (append_assoc (option_to_list (shown_step q p.0 p.1)) (handed (held q p.0 p.1) ps) (handed (held_after (held q p.0 p.1) ps) qs))

held-append : {F : Type 0} (q : Holder F) (ps qs : List (F × ℕ)) → held_after q (ps ++ qs) ≡ held_after (held_after q ps) qs
unfolding held_after
held-append q [] qs = refl
held-append q (p ∷ ps) qs = held-append (held q p.0 p.1) ps qs

-- the queue behind frames, by the anchor that it holds then
queue_is : (low : Bool) (anchor then : Option Samples) (ps : List (Samples × ℕ)) → then ≡ (held_after (queue_of low anchor) ps).anchor → held_after (queue_of low anchor) ps ≡ queue_of low then
queue_is low anchor then ps e =
    let q = held_after (queue_of low anchor) ps in
    let l : q.low_delay ≡ low = low_stays (queue_of low anchor) ps in
    ap (λ (x : Bool). record { low_delay = x; anchor = q.anchor }) l ∙ ap (λ (x : Option Samples). queue_of low x) (sym e)

pub shows_none : (low : Bool) (anchor : Option Samples) (ready : List Samples) → ShowsFrames low anchor ready [] anchor ready
unfolding handed held_after
shows_none low anchor ready = record { ready_is = sym (append-nil ready); anchor_is = refl }

-- pictures, and then more pictures
pub shows_on : (low : Bool) (a b c : Option Samples) (r s t : List Samples) (ps qs : Pictures)
    → ShowsFrames low a r ps b s → ShowsFrames low b s qs c t → ShowsFrames low a r (ps ++ qs) c t
shows_on low a b c r s t ps qs first second =
    let q = queue_of low a in
    let now = queue_is low a b (decoded_of ps) first.anchor_is in
    let more : List Samples = handed (queue_of low b) (decoded_of qs) in
    record {
      ready_is =
          second.ready_is
          ∙ ap (λ (x : List Samples). x ++ more) first.ready_is
          ∙ append_assoc r (handed q (decoded_of ps)) more
          ∙ ap (λ (x : List Samples). r ++ x)
          (ap (λ (x : Holder Samples). handed q (decoded_of ps) ++ handed x (decoded_of qs)) (sym now)
          ∙ sym (handed-append q (decoded_of ps) (decoded_of qs)) ∙ ap (handed q) (sym (decoded-append ps qs)));
      anchor_is =
          second.anchor_is
          ∙ ap (λ (x : Holder Samples). (held_after x (decoded_of qs)).anchor) (sym now)
          ∙ ap (λ (x : Holder Samples). x.anchor) (sym (held-append q (decoded_of ps) (decoded_of qs)) ∙ ap (held_after q) (sym (decoded-append ps qs)));
    }

-- what is shown of some pictures stands behind what was ready before
pub shows_behind : (low : Bool) (a b : Option Samples) (s t : List Samples) (ps : Pictures) → ShowsFrames low a [] ps b t → ShowsFrames low a s ps b (s ++ t)
shows_behind low a b s t ps h = record { ready_is = ap (λ (x : List Samples). s ++ x) h.ready_is; anchor_is = h.anchor_is }

-- What a display queue hands out over the frames of pictures is display order.
use Rattle.std.proofs.Common.{◌≡◌, ℕ, Bool, true, false, List, [], ◌∷◌, ◌++◌, map, Option, Some, None, option_to_list, refl, sym, ap, ◌∙◌}
use Rattle.std.specs.Prelude.{filter, ◌||◌, ◌==◌}
use Rattle.std.specs.Option.{option_map}
use Rattle.std.proofs.lemmas.List.{map-append}
use Rattle.m2v_plane.specs.Samples.{Samples}
use Rattle.m2v_plane.specs.Raw.{crop}
use Rattle.m2v_order.specs.Display.{Holder, opening, shown as shown_step, held, handed, held_after, is_kept, frames_of, Shown, Due}
use Rattle.m2v_order.proofs.Shows.{handed_due, handed_shown}
use Rattle.m2v_model.specs.declared.state.Sequence.{Sequence}
use Rattle.m2v_model.specs.Pictures.{Picture, Pictures, frames_in}
use Rattle.m2v_model.specs.Decoding.{is_dropped, raw_frames, shown, due, low_delay_of}
use Rattle.m2v_decode.specs.Decoding.{frame_of, Agrees, ShowsFrames}

-- ---- frames of pictures

framed : Holder Picture → Holder Samples
framed q = record { low_delay = q.low_delay; anchor = option_map (λ (p : Picture). p.frame) q.anchor }

framed_held : (q : Holder Picture) (p : Picture) (kind : ℕ) (b : Bool) → (q.low_delay || (kind == 3)) ≡ b → framed (held q p kind) ≡ held (framed q) p.frame kind
unfolding held framed
framed_held q p kind true e = rw e refl
framed_held q p kind false e = rw e refl

shown_one : (q : Holder Picture) (p : Picture) (kind : ℕ) (b : Bool) → (q.low_delay || (kind == 3)) ≡ b → shown_step (framed q) p.frame kind ≡ option_map (λ (x : Picture). x.frame) (shown_step q p kind)
unfolding shown_step framed
shown_one q p kind true e = rw e refl
shown_one q p kind false e = rw e refl

list_of_map : (o : Option Picture) → option_to_list (option_map (λ (x : Picture). x.frame) o) ≡ map (λ (x : Picture). x.frame) (option_to_list o)
list_of_map None = refl
list_of_map (Some x) = refl

framed_handed : (q : Holder Picture) (ps : List (Picture × ℕ)) → handed (framed q) (map frame_of ps) ≡ map (λ (x : Picture). x.frame) (handed q ps)
unfolding handed
framed_handed q [] = refl
framed_handed q (p ∷ ps) =
    let b = q.low_delay || (p.1 == 3) in
    ap (λ (o : Option Samples). option_to_list o ++ handed (held (framed q) (p.0).frame p.1) (map frame_of ps)) (shown_one q p.0 p.1 b refl)
    ∙ ap (λ (x : List Samples). x ++ handed (held (framed q) (p.0).frame p.1) (map frame_of ps)) (list_of_map (shown_step q p.0 p.1))
    ∙ ap (λ (x : List Samples). map (λ (y : Picture). y.frame) (option_to_list (shown_step q p.0 p.1)) ++ x)
    (ap (λ (x : Holder Samples). handed x (map frame_of ps)) (sym (framed_held q p.0 p.1 b refl)) ∙ framed_handed (held q p.0 p.1) ps)
    ∙ sym (map-append (λ (y : Picture). y.frame) (option_to_list (shown_step q p.0 p.1)) (handed (held q p.0 p.1) ps))

framed_after : (q : Holder Picture) (ps : List (Picture × ℕ)) → held_after (framed q) (map frame_of ps) ≡ framed (held_after q ps)
unfolding held_after
framed_after q [] = refl
framed_after q (p ∷ ps) =
    ap (λ (x : Holder Samples). held_after x (map frame_of ps)) (sym (framed_held q p.0 p.1 (q.low_delay || (p.1 == 3)) refl)) ∙ framed_after (held q p.0 p.1) ps

map_map : (ps : List (Picture × ℕ)) → map crop (map (λ (x : Picture). x.frame) (frames_of ps)) ≡ raw_frames ps
map_map [] = refl
map_map (p ∷ ps) = ap (λ (t : List (List ℕ)). crop (p.0).frame ∷ t) (map_map ps)

-- what was handed out are the frames that are due
pub due_is : (low : Bool) (ps : Pictures) (anchor : Option Samples) (frames : List Samples) → ShowsFrames low None [] ps anchor frames → map crop frames ≡ due low ps
unfolding framed
due_is low ps anchor frames s =
    let kept = filter (is_kept is_dropped) (frames_in ps) in
    ap (map crop) (s.ready_is ∙ framed_handed (opening low) kept ∙ ap (map (λ (x : Picture). x.frame)) (handed_due is_dropped low (frames_in ps)))
    ∙ map_map (Due is_dropped low (frames_in ps))

-- and with the last anchor those that are shown
pub shown_is : (low : Bool) (ps : Pictures) (anchor : Option Samples) (frames : List Samples) → ShowsFrames low None [] ps anchor frames → map crop (frames ++ option_to_list anchor) ≡ shown low ps
unfolding framed
shown_is low ps anchor frames s =
    let kept = filter (is_kept is_dropped) (frames_in ps) in
    let last : option_to_list anchor ≡ map (λ (x : Picture). x.frame) (option_to_list (held_after (opening low) kept).anchor) =
    ap option_to_list (s.anchor_is ∙ ap (λ (x : Holder Samples). x.anchor) (framed_after (opening low) kept)) ∙ list_of_map (held_after (opening low) kept).anchor in
    ap (map crop)
    (ap (λ (x : List Samples). x ++ option_to_list anchor) (s.ready_is ∙ framed_handed (opening low) kept)
    ∙ ap (λ (x : List Samples). map (λ (y : Picture). y.frame) (handed (opening low) kept) ++ x) last
    ∙ sym (map-append (λ (y : Picture). y.frame) (handed (opening low) kept) (option_to_list (held_after (opening low) kept).anchor))
    ∙ ap (map (λ (x : Picture). x.frame)) (handed_shown is_dropped low (frames_in ps)))
    ∙ map_map (Shown is_dropped low (frames_in ps))

-- low_delay of the first sequence extension agrees with it
pub agrees : (first : Option Sequence) → Agrees (low_delay_of first) first
agrees None = tt
agrees (Some s) = refl

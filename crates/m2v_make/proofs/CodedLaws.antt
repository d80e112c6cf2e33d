-- What coding the frames of a seed gives.
use Rattle.std.proofs.Common.{◌≡◌, ℕ, suc, ◌<◌, All, List, [], ◌∷◌, ◌++◌, length, take, drop, get_or, Option, Some, IfSome, refl, ap, sym, subst, ◌∙◌, arith}
use Rattle.std.specs.List.{range_with_len}
use Rattle.std.proofs.lemmas.List.{length-append, take_at, drop_at}
use Rattle.std.proofs.lemmas.List.Elements.{All-map}
use Rattle.m2v_port.specs.Ends.{Change}
use Rattle.m2v_port.specs.Port.{Grows}
use Rattle.m2v_port.proofs.Runs.{moved_all}
use Rattle.m2v_plane.specs.Raw.{raw, frame_bytes}
use Rattle.m2v_set.specs.declared.settings.Settings.{Settings}
use Rattle.m2v_set.specs.Numbers.{dims_of}
use Rattle.m2v_encode.specs.declared.answer.Summary.{Summary}
use Rattle.m2v_encode.specs.Answers.{AllCoded, AreWhole, numbers_of}
use Rattle.m2v_encode.specs.m2v_enc_stream.Streams.{Coded}
use Rattle.m2v_make.specs.Frames.{frame, generated}
use Rattle.m2v_make.specs.Source.{Generation, frame_size, left_of}
use Rattle.m2v_make.specs.Making.{make_settings, stream_of}
use Rattle.m2v_make.proofs.FrameLaws.{frame_length, left_all}

-- frames of one size are told apart by their bytes
pub same_frames : (m : ℕ) (fs gs : List (List ℕ)) → 0 < m → All (λ (f : List ℕ). length f ≡ m) fs → All (λ (f : List ℕ). length f ≡ m) gs
    → raw fs ≡ raw gs → fs ≡ gs
same_frames m [] [] some f_len g_len same = refl
same_frames m [] (g ∷ gs) some f_len g_len same =
    let first : length g ≡ m = g_len 0 g (omega arith) in
    absurd (omega (arith, some, first, length-append g (raw gs), ap length same))
same_frames m (f ∷ fs) [] some f_len g_len same =
    let first : length f ≡ m = f_len 0 f (omega arith) in
    absurd (omega (arith, some, first, length-append f (raw fs), ap length same))
same_frames m (f ∷ fs) (g ∷ gs) some f_len g_len same =
    let f_first : length f ≡ m = f_len 0 f (omega arith) in
    let g_first : length g ≡ m = g_len 0 g (omega arith) in
    let first : f ≡ g = sym (take_at f (raw fs) m f_first) ∙ ap (take m) same ∙ take_at g (raw gs) m g_first in
    let behind : raw fs ≡ raw gs = sym (drop_at f (raw fs) m f_first) ∙ ap (drop m) same ∙ drop_at g (raw gs) m g_first in
    let others = same_frames m fs gs some (λ k d lt. f_len (suc k) d (omega arith)) (λ k d lt. g_len (suc k) d (omega arith)) behind in
    ap (λ x. x ∷ fs) first ∙ ap (λ xs. g ∷ xs) others

-- the bytes of a frame by the settings
pub size_made : frame_bytes (dims_of make_settings) ≡ frame_size
unfolding make_settings dims_of
size_made = refl

generated_whole : (seed : ℕ) → All (λ (f : List ℕ). length f ≡ frame_size) (generated seed)
unfolding generated
generated_whole seed =
    All-map (λ (f : List ℕ). length f ≡ frame_size) (frame seed) (range_with_len 0 48) (λ k d lt. frame_length seed (get_or (range_with_len 0 48) k d))

pub whole_made : (frames : List (List ℕ)) → AreWhole make_settings frames → All (λ (f : List ℕ). length f ≡ frame_size) frames
whole_made frames each = λ k d lt. each k d lt ∙ size_made

-- what a new source has left
pub left_new : (g : Generation) (seed : ℕ) → g ≡ record { seed = seed; place = 0 } → Some (left_of g) ≡ Some (raw (generated seed))
left_new g seed is = ap (λ x. Some (left_of x)) is ∙ ap Some (left_all seed)

module _ (seed : ℕ) (left held recon : Change) (n : Summary) (told : left.old ≡ Some (raw (generated seed))) where
  frames_are : (h : AllCoded make_settings left held recon n) → h.frames ≡ generated seed
  frames_are h =
      let all : raw h.frames ≡ raw (generated seed) = subst (λ (o : Option (List ℕ)). IfSome o (λ all. raw h.frames ≡ all)) told (moved_all h.moved h.end) in
      same_frames frame_size h.frames (generated seed) (omega arith) (whole_made h.frames h.whole) (generated_whole seed) all

  stream_grown : AllCoded make_settings left held recon n → Grows held.old (stream_of seed) held.new
  stream_grown h = subst (λ (fs : List (List ℕ)). Grows held.old (Coded make_settings fs) held.new) (frames_are h) h.grown

  numbers_are : AllCoded make_settings left held recon n → n ≡ numbers_of make_settings (generated seed)
  numbers_are h = h.numbers ∙ ap (numbers_of make_settings) (frames_are h)

  -- by settings that are those of the frames of a seed
  pub grown_by : (s : Settings) → s ≡ make_settings → AllCoded s left held recon n → Grows held.old (stream_of seed) held.new
  grown_by s is h = stream_grown (subst (λ (x : Settings). AllCoded x left held recon n) is h)

  pub numbers_by : (s : Settings) → s ≡ make_settings → AllCoded s left held recon n → n ≡ numbers_of make_settings (generated seed)
  numbers_by s is h = numbers_are (subst (λ (x : Settings). AllCoded x left held recon n) is h)

-- what an empty sink in memory holds then
pub text_of : (old new text : List ℕ) → old ≡ [] → Grows (Some old) text (Some new) → new ≡ text
text_of old new text none h =
    let told : Some new ≡ Some (old ++ text) = h.is in
    let same : new ≡ old ++ text = cc told in
    same ∙ ap (λ xs. xs ++ text) none

-- The pictures of the flat stream's parts are the frames that it stands for, in decoding order.
use Rattle.std.proofs.Common.{◌≡◌, ℕ, zero, suc, ◌+◌, ◌*◌, ◌<◌, Bool, All, List, [], ◌∷◌, ◌++◌, map, Option, Some, None, refl, sym, ap, subst, ◌∙◌, arith, append_assoc}
use Rattle.std.proofs.lemmas.List.Elements.{All-nil, All-cons}
use Rattle.m2v_macro.specs.declared.values.SliceState.{SliceState}
use Rattle.m2v_plane.specs.declared.dims.Dims.{Dims}
use Rattle.m2v_plane.specs.declared.planes.Lines.TheVariants.{Whole}
use Rattle.m2v_plane.specs.Samples.{Samples, blank}
use Rattle.m2v_plane.specs.Raw.{pad, crop}
use Rattle.m2v_flat.specs.declared.settings.FlatSettings.{FlatSettings}
use Rattle.m2v_flat.specs.Flat.{flat_picture, flat_picture_extension}
use Rattle.m2v_flat.specs.Recon.{recon_at, recon_frame, FlatRecon}
use Rattle.m2v_model.specs.declared.setup.SliceSetup.{SliceSetup}
use Rattle.m2v_model.specs.declared.state.Open.{Open}
use Rattle.m2v_model.specs.declared.state.State.{State}
use Rattle.m2v_model.specs.States.{at_first, one_anchor_more, opened, slice_setup}
use Rattle.m2v_model.specs.Slices.{slice_start}
use Rattle.m2v_model.specs.Samples.{References, put_in_frame, all_painted}
use Rattle.m2v_model.specs.Streams.{Part, sequence, ending, after}
use Rattle.m2v_model.specs.Pictures.{Store, no_frames, slice_painted, Picture, Pictures, picture_of, sequence_header, coded_picture, Events, pictures_in, closed, picture_ended, picture_begun, frames_in, events_from}
use Rattle.m2v_order.specs.Display.{Shown}
use Rattle.m2v_model.specs.Decoding.{is_dropped, raw_frames, shown}
use Rattle.m2v_model.proofs.Painting.{blank_painted}
use Rattle.m2v_flat.specs.Told.{decoded, decoded_from}
use Rattle.m2v_flat.specs.Tree.{flat_setup, flat_row, flat_rows, flat_macroblocks, state_before, sequence_of, open_picture, state_with, state_in, pictures_parts, stream_parts}
use Rattle.m2v_flat.proofs.Painting.{HasSamples, all_samples, row_has}
use Rattle.m2v_flat.proofs.Slices.{start_is}
use Rattle.m2v_flat.proofs.Pictures.{IsFlat, dims_are, setup_is, covered_before, after_row, after_header}
use Rattle.m2v_flat.proofs.Orders.{IsAnchor, all_shown}

-- ---- slices

row_painted : (quantiser width : ℕ) (d : Dims) (refs : References) (source now : Samples) (row : ℕ) (q : SliceSetup) (start : SliceState) → 0 < width → source.dims.mb_width ≡ width → flat_setup width d ≡ q → state_before quantiser width source row 0 ≡ start
    → HasSamples quantiser source (row * source.dims.mb_width) now
    → HasSamples quantiser source (suc row * source.dims.mb_width) (all_painted put_in_frame q refs start (flat_macroblocks source row 0 width) now)
row_painted quantiser width d refs source now row q start some ew eq es has =
    let w = source.dims.mb_width in
    let wide = subst (λ (n : ℕ). HasSamples quantiser source (suc row * w) (all_painted put_in_frame (flat_setup n d) refs (state_before quantiser n source row 0) (flat_macroblocks source row 0 n) now)) ew
    (row_has quantiser d refs source row now (omega (arith, ew)) has) in
    let known = subst (λ (x : SliceSetup). HasSamples quantiser source (suc row * w) (all_painted put_in_frame x refs (state_before quantiser width source row 0) (flat_macroblocks source row 0 width) now)) eq wide in
    subst (λ (x : SliceState). HasSamples quantiser source (suc row * w) (all_painted put_in_frame q refs x (flat_macroblocks source row 0 width) now)) es known

-- a slice of a picture brings its row of macroblocks
slice_has : (s : FlatSettings) (anchors number row : ℕ) (refs : References) (source now : Samples) → IsFlat s → source.dims ≡ s.dims
    → HasSamples s.quantiser source (row * source.dims.mb_width) now
    → HasSamples s.quantiser source (suc row * source.dims.mb_width) (slice_painted (state_in s anchors number row) (sequence_of s) (open_picture s.dims.mb_width number row) refs row (flat_row s.quantiser s.dims.mb_width source row) now)
unfolding slice_painted flat_row
slice_has s anchors number row refs source now h same has =
    let p = open_picture s.dims.mb_width number row in
    let q = slice_setup (state_in s anchors number row) (sequence_of s) p in
    let eq = setup_is s anchors number row h in
    row_painted s.quantiser s.dims.mb_width s.dims refs source now row q (slice_start q.context row p.covered s.quantiser)
    h.columns.0 (ap (λ (d : Dims). d.mb_width) same) eq
    (start_is s.quantiser s.dims.mb_width source row p.covered q.context (ap (λ (x : SliceSetup). x.context) eq) (covered_before s.dims.mb_width number row)) has

-- the frames at hand, with one that is being painted
abbrev with_current : Store → Samples → Store
with_current store now = record store { current = Some now }

-- the slices of the rows from one on
rows_has : (s : FlatSettings) (anchors number n row : ℕ) (store : Store) (source now : Samples) (rest : List Part) → IsFlat s → source.dims ≡ s.dims → row + n ≡ s.dims.mb_rows
    → HasSamples s.quantiser source (row * source.dims.mb_width) now
    → events_from (state_in s anchors number row) (with_current store now) (flat_rows s.quantiser s.dims.mb_width source row n ++ rest)
    ≡ events_from (state_in s anchors number s.dims.mb_rows) (with_current store (recon_frame s.quantiser source)) rest
unfolding events_from
rows_has s anchors number zero row store source now rest h same is has =
    let end : row ≡ s.dims.mb_rows = omega arith in
    let rows : s.dims.mb_rows ≡ source.dims.mb_rows = sym (ap (λ (d : Dims). d.mb_rows) same) in
    let all = subst (λ (k : ℕ). HasSamples s.quantiser source (k * source.dims.mb_width) now) (end ∙ rows) has in
    ap (λ (k : ℕ). events_from (state_in s anchors number k) (with_current store now) rest) end
    ∙ ap (λ (f : Samples). events_from (state_in s anchors number s.dims.mb_rows) (with_current store f) rest) (all_samples s.quantiser source now all)
rows_has s anchors number (suc n) row store source now rest h same is has =
    let next : suc row ≡ row + 1 = omega arith in
    let then = slice_painted (state_in s anchors number row) (sequence_of s) (open_picture s.dims.mb_width number row) store.references row (flat_row s.quantiser s.dims.mb_width source row) now in
    let more = subst (λ (k : ℕ). HasSamples s.quantiser source (k * source.dims.mb_width) then) next (slice_has s anchors number row store.references source now h same has) in
    ap (λ (st : State). events_from st (with_current store then) (flat_rows s.quantiser s.dims.mb_width source (row + 1) n ++ rest)) (after_row s anchors number row source ∙ ap (state_in s anchors number) next)
    ∙ rows_has s anchors number n (row + 1) store source then rest h same (omega arith) more

-- ---- pictures

-- what is told of a whole picture
picture_is : (s : FlatSettings) (columns number row : ℕ) (raw : List ℕ) (store : Store) → picture_of (open_picture columns number row) (with_current store (recon_frame s.quantiser (pad s.dims raw))) ≡ decoded s number raw
unfolding picture_of open_picture
picture_is s columns number zero raw store = refl
picture_is s columns number (suc row) raw store = refl

-- the frames at hand behind the header of a picture
abbrev begun : FlatSettings → ℕ → ℕ → Option Open → Store → Store
begun s anchors number open_one store =
    picture_begun (Some (sequence_of s)) (opened (state_with s anchors open_one) (flat_picture number) flat_picture_extension) (picture_ended open_one store)

abbrev begun_with : FlatSettings → ℕ → ℕ → Option Open → Store → Dims → Store
begun_with s anchors number open_one store d = with_current (begun s anchors number open_one store) (blank d d.mb_rows)

begun_is : (s : FlatSettings) (anchors number : ℕ) (open_one : Option Open) (store : Store) → IsFlat s → begun s anchors number open_one store ≡ begun_with s anchors number open_one store s.dims
begun_is s anchors number open_one store h = ap (begun_with s anchors number open_one store) (dims_are s h)

-- what is told from a picture's first slice on
rows_behind : (s : FlatSettings) (anchors number : ℕ) (store : Store) (raw : List ℕ) (rest : List Part) → IsFlat s
    → events_from (state_in s anchors number 0) (with_current store (blank s.dims s.dims.mb_rows)) (flat_rows s.quantiser s.dims.mb_width (pad s.dims raw) 0 s.dims.mb_rows ++ rest)
    ≡ events_from (state_in s anchors number s.dims.mb_rows) (with_current store (recon_frame s.quantiser (pad s.dims raw))) rest
rows_behind s anchors number store raw rest h =
    let source = pad s.dims raw in
    let none : 0 ≡ 0 * s.dims.mb_width = omega arith in
    rows_has s anchors number s.dims.mb_rows 0 store source (blank s.dims s.dims.mb_rows) rest h refl (omega arith)
    (subst (λ (k : ℕ). HasSamples s.quantiser source k (blank s.dims s.dims.mb_rows)) none (blank_painted Whole s.dims (recon_at s.quantiser source)))

events_are : (s : FlatSettings) (frames : List (List ℕ)) (anchors number : ℕ) (open_one : Option Open) (store : Store) → IsFlat s
    → events_from (state_with s anchors open_one) store (pictures_parts s number frames ++ ending ∷ []) ≡ closed open_one store ++ map coded_picture (decoded_from s number frames)
unfolding events_from pictures_parts decoded_from
events_are s [] anchors number open_one store h = refl
events_are s (raw ∷ frames) anchors number open_one store h =
    let source = pad s.dims raw in
    let rows = flat_rows s.quantiser s.dims.mb_width source 0 s.dims.mb_rows in
    let later = pictures_parts s (number + 1) frames in
    let next = one_anchor_more anchors in
    let first = begun s anchors number open_one store in
    let last = with_current first (recon_frame s.quantiser source) in
    let p = open_picture s.dims.mb_width number s.dims.mb_rows in
    ap (λ (es : Events). closed open_one store ++ es)
    (ap (λ (st : State). events_from st first ((rows ++ later) ++ ending ∷ [])) (after_header s anchors open_one number)
    ∙ ap (λ (xs : List Part). events_from (state_in s next number 0) first xs) (append_assoc rows later (ending ∷ []))
    ∙ ap (λ (x : Store). events_from (state_in s next number 0) x (rows ++ (later ++ ending ∷ []))) (begun_is s anchors number open_one store h)
    ∙ rows_behind s next number first raw (later ++ ending ∷ []) h
    ∙ events_are s frames next (number + 1) (Some p) last h
    ∙ ap (λ (x : Picture). coded_picture x ∷ map coded_picture (decoded_from s (number + 1) frames)) (picture_is s s.dims.mb_width number s.dims.mb_rows raw first))

-- ---- what is shown

pictures_are : (ps : Pictures) → pictures_in (map coded_picture ps) ≡ ps
pictures_are [] = refl
pictures_are (p ∷ ps) = ap (λ (xs : Pictures). p ∷ xs) (pictures_are ps)

-- each picture ends a frame of its type
unfoldable frames_from : FlatSettings → ℕ → List (List ℕ) → List (Picture × ℕ)
frames_from s number [] = []
frames_from s number (raw ∷ frames) = (decoded s number raw, 1) ∷ frames_from s (number + 1) frames

frames_are : (s : FlatSettings) (number : ℕ) (frames : List (List ℕ)) → frames_in (decoded_from s number frames) ≡ frames_from s number frames
unfolding decoded_from frames_from
frames_are s number [] = refl
frames_are s number (raw ∷ frames) = ap (λ (xs : List (Picture × ℕ)). (decoded s number raw, 1) ∷ xs) (frames_are s (number + 1) frames)

all_anchors : (s : FlatSettings) (number : ℕ) (frames : List (List ℕ)) → All IsAnchor (frames_from s number frames)
unfolding frames_from
all_anchors s number [] = All-nil IsAnchor
all_anchors s number (raw ∷ frames) = All-cons IsAnchor (decoded s number raw, 1) (frames_from s (number + 1) frames) refl (all_anchors s (number + 1) frames)

raw_is : (s : FlatSettings) (number : ℕ) (frames : List (List ℕ)) → raw_frames (frames_from s number frames) ≡ FlatRecon s frames
unfolding frames_from
raw_is s number [] = refl
raw_is s number (raw ∷ frames) = ap (λ (xs : List (List ℕ)). crop (recon_frame s.quantiser (pad s.dims raw)) ∷ xs) (raw_is s (number + 1) frames)

pub first_state : (s : FlatSettings) → after at_first (sequence (sequence_of s)) ≡ state_with s 0 None
unfolding after
first_state s = refl

-- what the stream's parts tell
pub parts_are : (s : FlatSettings) (frames : List (List ℕ)) → IsFlat s → events_from at_first no_frames (stream_parts s frames) ≡ sequence_header (sequence_of s) ∷ map coded_picture (decoded_from s 0 frames)
unfolding events_from
parts_are s frames h =
    ap (λ (es : Events). sequence_header (sequence_of s) ∷ es)
    (ap (λ (st : State). events_from st no_frames (pictures_parts s 0 frames ++ ending ∷ [])) (first_state s)
    ∙ events_are s frames 0 0 None no_frames h)

-- what the stream's parts show is what it stands for
pub parts_show : (s : FlatSettings) (frames : List (List ℕ)) (low_delay : Bool) → IsFlat s → FlatRecon s frames ≡ shown low_delay (pictures_in (events_from at_first no_frames (stream_parts s frames)))
parts_show s frames low_delay h =
    let ps = decoded_from s 0 frames in
    sym (raw_is s 0 frames)
    ∙ ap raw_frames (sym (all_shown is_dropped low_delay (frames_from s 0 frames) (all_anchors s 0 frames)))
    ∙ ap (λ (fs : List (Picture × ℕ)). raw_frames (Shown is_dropped low_delay fs)) (sym (frames_are s 0 frames))
    ∙ ap (shown low_delay) (sym (ap pictures_in (parts_are s frames h) ∙ pictures_are ps))

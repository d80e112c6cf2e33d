-- What is known of a state behind each part of a piece.
use Rattle.std.proofs.Common.{◌≡◌, ℕ, ◌+◌, ◌*◌, ◌/◌, Bool, true, false, List, [], Option, Some, None, is_some, refl, sym, ap, subst}
use Rattle.std.specs.Prelude.{nat_eq, ◌&&◌, ◌||◌, if◌then◌else◌}
use Rattle.std.specs.Bool.{beq}
use Rattle.std.proofs.lemmas.Bool.{and_parts, eqb-true}
use Rattle.m2v_plane.specs.declared.dims.Dims.{Dims}
use Rattle.m2v_plane.specs.Sizes.{IsSize}
use Rattle.m2v_head.specs.declared.picture.PictureInfo.{PictureInfo}
use Rattle.m2v_head.specs.declared.picture.PictureExtension.{PictureExtension}
use Rattle.m2v_model.specs.declared.state.Sequence.{Sequence}
use Rattle.m2v_model.specs.declared.state.Open.{Open}
use Rattle.m2v_model.specs.declared.state.State.{State}
use Rattle.m2v_model.specs.States.{width_of, height_of, dims_of, drops, opened, first_or, is_same_sequence, with_unread_slice, after_unread_slice, after_end}
use Rattle.m2v_model.specs.Streams.{after}
use Rattle.m2v_dec_unit.specs.declared.header.Header.{Header}
use Rattle.m2v_dec_unit.specs.declared.header.Header.TheVariants as headers
use Rattle.m2v_dec_unit.specs.Among.{AreMatrices, HeaderFits, HeaderFollows, goes_on, part_of}
use Rattle.m2v_dec_rows.specs.Headers.{HaveOneSize, AreHeaders, IsBetween}
use Rattle.m2v_dec_rows.specs.Skims.{FitsOpen, IsSoundState}

-- ---- sizes

beq_true : (a b : Bool) → beq a b ≡ true → a ≡ b
beq_true true true e = refl
beq_true false false e = refl
beq_true true false e = absurd cc
beq_true false true e = absurd cc

-- frames of a width and a height, of a progressive sequence or not
dims_by : ℕ → ℕ → Bool → Dims
dims_by w h progressive = record { width = w; height = h; mb_width = (w + 15) / 16; mb_rows = if progressive then (h + 15) / 16 else 2 * ((h + 31) / 32) }

pub same_dims : (first s : Sequence) → is_same_sequence (Some first) s ≡ true → dims_of first ≡ dims_of s
unfolding dims_by
same_dims first s e =
    let progressive = beq first.extension.progressive_sequence s.extension.progressive_sequence in
    let format = nat_eq first.extension.chroma_format s.extension.chroma_format in
    let wide = nat_eq (width_of first) (width_of s) in
    let high = nat_eq (height_of first) (height_of s) in
    let a = and_parts (wide && high && progressive) format e in
    let b = and_parts (wide && high) progressive a.0 in
    let c = and_parts wide high b.0 in
    let width = eqb-true (width_of first) (width_of s) c.0 in
    let height = eqb-true (height_of first) (height_of s) c.1 in
    let scan = beq_true first.extension.progressive_sequence s.extension.progressive_sequence b.1 in
    λ i. dims_by (width i) (height i) (scan i)

-- behind a sequence header
pub size_next : (first z : Option Sequence) (s : Sequence) → HaveOneSize first z → IsSize (dims_of s) → is_same_sequence first s ≡ true → HaveOneSize (Some (first_or first s)) (Some s)
size_next (Some first) (Some z) s h size same = (size, same_dims first s same)
size_next None None s h size same = (size, refl)
size_next (Some first) None s h size same = absurd h
size_next None (Some z) s h size same = absurd h

-- ---- headers

open_behind : (st : State) (q : Option Sequence) (p : Open) → is_some q ≡ true → HeaderFits (headers.Picture p.info p.extension) → p.slices_unread ≡ true → FitsOpen q (Some p)
open_behind st (Some s) p some fits unread = (fits, unread)
open_behind st None p some fits unread = absurd cc

-- behind a header they are those that it says, where what fits an open picture is known of one that begins
pub headers_behind : (passes : Bool) (Fits : Option Sequence → Option Open → Type 0) (st : State) (h : Header) (u : List ℕ) → ((q : Option Sequence) → Fits q None)
    → ((info : PictureInfo) (extension : PictureExtension) → HeaderFits (headers.Picture info extension) → HeaderFollows st (headers.Picture info extension) → Fits st.sequence (Some (opened st info extension)))
    → AreHeaders passes Fits st → HeaderFits h → HeaderFollows st h → AreMatrices (after st (part_of u h)) → AreHeaders passes Fits (after st (part_of u h))
unfolding after
headers_behind passes Fits st (headers.Sequence s) u none begins sound fits follows matrices = record { headers_only = sound.headers_only; matrices = matrices; size = size_next st.first st.sequence s sound.size fits.1.size follows; fits = none _ }
headers_behind passes Fits st (headers.Group g) u none begins sound fits follows matrices = record { headers_only = sound.headers_only; matrices = matrices; size = sound.size; fits = none _ }
headers_behind passes Fits st (headers.Picture info extension) u none begins sound fits follows matrices = record { headers_only = sound.headers_only; matrices = matrices; size = sound.size; fits = begins info extension fits follows }
headers_behind passes Fits st (headers.Matrices m) u none begins sound fits follows matrices = record { headers_only = sound.headers_only; matrices = matrices; size = sound.size; fits = sound.fits }
headers_behind passes Fits st headers.Skipped u none begins sound fits follows matrices = sound
headers_behind passes Fits st headers.Ending u none begins sound fits follows matrices = record { headers_only = sound.headers_only; matrices = matrices; size = sound.size; fits = none _ }

pub sound_behind : (st : State) (h : Header) (u : List ℕ) → IsSoundState st → HeaderFits h → HeaderFollows st h → AreMatrices (after st (part_of u h)) → IsSoundState (after st (part_of u h))
sound_behind st h u sound = headers_behind true FitsOpen st h u (λ q. tt)
    (λ info extension fits follows. open_behind st st.sequence (opened st info extension) follows.0 fits (ap (λ (b : Bool). b || drops st info.kind) sound.headers_only)) sound

-- behind the sequence end code no picture is open
pub closed_behind : (st : State) (u : List ℕ) (h : Header) → goes_on h ≡ false → (after st (part_of u h)).picture ≡ None
unfolding after
closed_behind st u (headers.Sequence s) e = absurd cc
closed_behind st u (headers.Group g) e = absurd cc
closed_behind st u (headers.Picture info extension) e = absurd cc
closed_behind st u (headers.Matrices m) e = absurd cc
closed_behind st u headers.Skipped e = absurd cc
closed_behind st u headers.Ending e = refl

-- a header was put in force
pub entered : (old mid now : State) (h : Header) → mid ≡ old → ((u : List ℕ) → now ≡ after mid (part_of u h)) → (HeaderFits h → AreMatrices mid → AreMatrices now) → HeaderFits h → HeaderFollows old h → IsSoundState old → IsSoundState now
entered old mid now h same is matrices fits follows sound =
    let still = subst IsSoundState (sym same) sound in
    let goes = subst (λ (z : State). HeaderFollows z h) (sym same) follows in
    subst IsSoundState (sym (is [])) (sound_behind mid h [] still fits goes (subst AreMatrices (is []) (matrices fits still.matrices)))

-- ---- slices

fits_unread : (q : Option Sequence) (o : Option Open) (row : ℕ) → FitsOpen q o → FitsOpen q (with_unread_slice o row)
fits_unread q None row h = tt
fits_unread (Some s) (Some p) row h = h
fits_unread None (Some p) row h = absurd h

pub sound_unread : (st : State) (row : ℕ) → IsSoundState st → IsSoundState (after_unread_slice st row)
sound_unread st row sound = record { headers_only = sound.headers_only; matrices = sound.matrices; size = sound.size; fits = fits_unread st.sequence st.picture row sound.fits }

-- what is known of the picture that is open
pub open_fits : (q : Option Sequence) (p : Open) → FitsOpen q (Some p) → HeaderFits (headers.Picture p.info p.extension) × (p.slices_unread ≡ true)
open_fits (Some s) p h = h
open_fits None p h = absurd h

-- its slices stay unread
pub open_there : (st : State) (s : Sequence) (p : Open) → IsSoundState st → st.sequence ≡ Some s → st.picture ≡ Some p → p.slices_unread ≡ true
open_there st s p sound known is = (open_fits st.sequence p (subst (FitsOpen st.sequence) is sound.fits)).1

pub size_there : (first : Option Sequence) (s : Sequence) → HaveOneSize first (Some s) → IsSize (dims_of s)
size_there (Some first) s h = h.0
size_there None s h = absurd h

-- a picture is open behind a sequence header alone
pub none_open : (q : Option Sequence) (o : Option Open) → FitsOpen q o → q ≡ None → o ≡ None
none_open q None h e = refl
none_open None (Some p) h e = absurd h
none_open (Some s) (Some p) h e = absurd cc

-- ---- between two pieces

pub sound_between : (st z : State) → IsBetween st → z ≡ record st { headers_only = true } → IsSoundState z
sound_between st z h e = subst IsSoundState (sym e) (record {
  headers_only = refl;
  matrices = h.matrices;
  size = h.size;
  fits = subst (FitsOpen st.sequence) (sym h.closed) tt;
})

pub between_sound : (st now : State) → IsSoundState st → now ≡ after_end st → IsBetween now
between_sound st now h e = subst IsBetween (sym e) (record { closed = refl; matrices = h.matrices; size = h.size })

-- A reader leads each decoder that has come as far on as it goes on itself.
use Rattle.std.proofs.Common.{◌≡◌, ℕ, ◌+◌, ◌*◌, ◌-◌, ◌≤◌, Bool, false, List, [], ◌∷◌, ◌++◌, length, Option, Some, None, option_to_list, Ok, Err, refl, sym, ap, subst, ◌∙◌, arith}
use Rattle.std.specs.Prelude.{◌||◌, ◌==◌}
use Rattle.std.proofs.lemmas.List.{length-append}
use Rattle.m2v_plane.specs.Samples.{Samples}
use Rattle.m2v_order.specs.Display.{Holder, shown as shown_step, held, handed, held_after}
use Rattle.m2v_model.specs.declared.fault.FaultKind.{FaultKind}
use Rattle.m2v_model.specs.declared.notes.Notes.{Notes}
use Rattle.m2v_model.specs.declared.state.Sequence.{Sequence}
use Rattle.m2v_model.specs.declared.state.State.{State}
use Rattle.m2v_model.specs.Units.{Units, cut}
use Rattle.m2v_model.specs.Pictures.{Store, Pictures, Events, no_references, pictures_in}
use Rattle.m2v_model.specs.PieceNotes.{noted}
use Rattle.m2v_model.specs.Buffering.{before_picture}
use Rattle.m2v_model.specs.Decoding.{low_delay_of}
use Rattle.m2v_model.specs.ByPieces.{Between, units_read, piece_read}
use Rattle.m2v_model.proofs.PieceLaws.{placed, piece_is}
use Rattle.m2v_dec_rows.specs.m2v_dec_picture.declared.gallery.Reading.{Reading as PictureReading}
use Rattle.m2v_dec_rows.specs.m2v_dec_picture.Frames.{Frames, references_at, store_of}
use Rattle.m2v_decode.specs.declared.pass.Pass.{Pass}
use Rattle.m2v_decode.specs.Course.{no_notes, with_events}
use Rattle.m2v_decode.specs.Decoding.{Decoding, at_start, between, Agrees, queue_of, decoded_of, dropped_in, ShowsFrames}
use Rattle.m2v_decode.specs.Passing.{ReadsAll}
use Rattle.m2v_decode.specs.Reading.{Reading, nothing_read, Follows, LeadsOn}
use Rattle.m2v_decode.proofs.CourseLaws.{count_by_test}
use Rattle.m2v_decode.proofs.EndLaws.{whole_few, notes_are}
use Rattle.m2v_decode.proofs.Going.{due_ready, drained}

abbrev at : State → Store → Between
at st store = record { state = st; store = store }

-- what contracts see of a reader
abbrev pub seen_of : Pass → Bool → Bool → Reading
seen_of c ended failed = record { state = c.state; pictures = c.pictures; dropped = c.dropped; frames = c.frames; ended = ended; failed = failed }

-- ---- frames on their way

-- each frame is handed out or held
pub all_kept : (q : Holder Samples) (ps : List (Samples × ℕ)) → length (handed q ps) + length (option_to_list (held_after q ps).anchor) ≡ length (option_to_list q.anchor) + length ps
unfolding handed held_after
all_kept q [] = omega arith
all_kept q (p ∷ ps) =
    let one = count_by_test q p.0 p.1 (q.low_delay || (p.1 == 3)) refl in
    let more = all_kept (held q p.0 p.1) ps in
    omega (arith, one, more, length-append (option_to_list (shown_step q p.0 p.1)) (handed (held q p.0 p.1) ps))

shows_by : (first : Option Sequence) (low : Bool) (anchor : Option Samples) (ready : List Samples) (ps : Pictures) → Agrees low first → (first ≡ None → ps ≡ [])
    → ShowsFrames low anchor ready ps (held_after (queue_of (low_delay_of first) anchor) (decoded_of ps)).anchor (ready ++ handed (queue_of (low_delay_of first) anchor) (decoded_of ps))
unfolding handed held_after
shows_by (Some s) low anchor ready ps agree none =
    subst (λ (l : Bool). ShowsFrames low anchor ready ps (held_after (queue_of l anchor) (decoded_of ps)).anchor (ready ++ handed (queue_of l anchor) (decoded_of ps))) agree (record { ready_is = refl; anchor_is = refl })
shows_by None low anchor ready ps agree none =
    subst (λ (l : Pictures). ShowsFrames low anchor ready l (held_after (queue_of (low_delay_of None) anchor) (decoded_of l)).anchor (ready ++ handed (queue_of (low_delay_of None) anchor) (decoded_of l))) (sym (none refl)) (record { ready_is = refl; anchor_is = refl })

-- ---- frames at hand

abbrev frames_at : Store → Frames
frames_at store = record { older = store.older; newer = store.newer; current = store.current; first_field = None; reading = None }

frames_are : (store : Store) → store.references ≡ no_references → store ≡ store_of (frames_at store)
frames_are store e = λ i. record { older = store.older; newer = store.newer; current = store.current; references = e i }

rests_at : (f : Frames) → f.reading ≡ None → (store_of f).references ≡ no_references
rests_at f e = ap (λ (r : Option PictureReading). references_at r f.older f.newer f.first_field) e

-- ---- a piece

-- the decoder behind a piece
abbrev behind_piece : (d : Decoding) (st : State) (es : Events) (store : Store) → Decoding
behind_piece d st es store = record {
  state = st;
  frames = frames_at store;
  anchor = (held_after (queue_of (low_delay_of st.first) d.anchor) (decoded_of (pictures_in es))).anchor;
  ready = d.ready ++ handed (queue_of (low_delay_of st.first) d.anchor) (decoded_of (pictures_in es));
  ended = false;
  failed = false;
  skims = d.skims;
  pictures = d.pictures + length (pictures_in es);
  dropped = d.dropped + dropped_in (pictures_in es);
  shown = d.shown;
}

pub leads_on : (old c n : Pass) (us : Units) (place : ℕ) (whole : List ℕ) (notes : Notes) → ReadsAll c us n → c.state ≡ old.state → c.pictures ≡ old.pictures → c.dropped ≡ old.dropped → c.frames ≡ old.frames
    → noted c.notes ≡ no_notes → c.code_end ≡ 8 * place + (8 * before_picture us + 32) → notes ≡ n.notes → us ≡ (cut 0 whole).1 → 4 * length us ≤ length whole → 1 ≤ length whole
    → (d : Decoding) → Follows (seen_of old false false) d → LeadsOn d place whole notes (seen_of n false false)
leads_on old c n us place whole notes r state pictures dropped frames fresh code taken is count some d f =
    let end = place + length whole in
    let w = r.with_frames (store_of d.frames) in
    let t = w.tells in
    let es = w.events in
    let ps = pictures_in es in
    let q : Holder Samples = queue_of (low_delay_of (n.state).first) d.anchor in
    let rests = w.rests (λ e. rests_at d.frames f.reading) r.closed_now in
    let m = behind_piece d n.state es w.behind in
    let same : d.state ≡ c.state = f.state ∙ sym state in
    let read : units_read (between d) us ≡ Ok (es, between m) =
    ap (λ (z : State). units_read (at z (store_of d.frames)) us) same ∙ w.read ∙ ap (λ (s : Store). Ok (es, at n.state s)) (frames_are w.behind rests) in
    let kept = all_kept q (decoded_of ps) in
    record {
      behind = m;
      advanced = record {
        onward = record {
          events = es;
          read = piece_is (between d) end whole ∙ ap (placed end) (ap (units_read (between d)) (sym is) ∙ read);
          first = λ low agree. subst (λ (z : State). Agrees low z.first) (sym same) (r.first low agree);
          shows = λ low agree. shows_by (n.state).first low d.anchor d.ready ps agree w.none;
          counted = refl;
          dropped = refl;
          few = whole_few (length ps) (length whole) (length us) w.few count some;
          shown = refl;
          going = refl;
          sound = refl;
        };
        notes_are = notes_are place c.code_end whole us es notes is code (ap noted taken ∙ t.notes ∙ ap (λ x. with_events c.code_end x es) fresh);
      };
      follows = record {
        state = refl;
        pictures = ap (λ (x : ℕ). x + length ps) (f.pictures ∙ sym pictures) ∙ sym t.pictures;
        dropped = ap (λ (x : ℕ). x + dropped_in ps) (f.dropped ∙ sym dropped) ∙ sym t.dropped;
        frames = let before = f.frames in omega (arith, before, kept, frames, t.frames, length-append d.ready (handed q (decoded_of ps)));
        ended = refl;
        failed = refl;
        reading = refl;
      };
    }

pub refuses : (old c : Pass) (us : Units) (left place many where_at : ℕ) (kind : FaultKind) (whole : List ℕ) → ((store : Store) → units_read (at c.state store) us ≡ Err (kind, left)) → c.state ≡ old.state → us ≡ (cut 0 whole).1 → length whole ≡ many → where_at ≡ 8 * (place + many) - left
    → (d : Decoding) → Follows (seen_of old false false) d → piece_read (between d) (place + length whole) whole ≡ Err (kind, where_at)
refuses old c us left place many where_at kind whole e state is long where_is d f =
    let end = place + length whole in
    let same : d.state ≡ c.state = f.state ∙ sym state in
    piece_is (between d) end whole
    ∙ ap (placed end) (ap (units_read (between d)) (sym is) ∙ ap (λ (z : State). units_read (at z (store_of d.frames)) us) same ∙ e (store_of d.frames))
    ∙ ap (λ (x : ℕ). Err (kind, 8 * (place + x) - left)) long
    ∙ ap (λ (x : ℕ). Err (kind, x)) (sym where_is)

-- ---- frames that are handed out

pub follows_drained : (r : Reading) (d : Decoding) → d.ended ≡ false → Follows r d → Follows r (drained d)
follows_drained r d going f = record {
  state = f.state;
  pictures = f.pictures;
  dropped = f.dropped;
  frames = let frames = f.frames in omega (arith, frames, ap length (due_ready d going));
  ended = f.ended;
  failed = f.failed;
  reading = f.reading;
}

-- before the first piece
pub follows_none : Follows nothing_read at_start
follows_none = record { state = refl; pictures = refl; dropped = refl; frames = refl; ended = refl; failed = refl; reading = refl }

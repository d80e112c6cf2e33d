-- The end of a text, and of a piece, read from what stands before it.
use Rattle.std.proofs.Common.{◌≡◌, ℕ, ◌+◌, ◌*◌, ◌-◌, ◌≤◌, Bool, true, false, List, [], Option, None, length, subst, Ok, Err, refl, sym, ap, ◌∙◌, arith}
use Rattle.std.specs.Prelude.{Result, OnOk, IfErr}
use Rattle.m2v_model.specs.declared.fault.FaultKind.{FaultKind}
use Rattle.m2v_model.specs.declared.notes.Notes.{Notes}
use Rattle.m2v_model.specs.declared.stop.Stop.{Stop}
use Rattle.m2v_model.specs.declared.state.Open.{Open}
use Rattle.m2v_model.specs.declared.state.State.{State}
use Rattle.m2v_model.specs.Units.{Units, cut}
use Rattle.m2v_model.specs.Streams.{text_end, over, after}
use Rattle.m2v_model.specs.Pictures.{Store, Events, closed, picture_ended, pictures_in}
use Rattle.m2v_model.specs.Buffering.{before_picture, code_bits}
use Rattle.m2v_model.specs.PieceNotes.{noted, notes_of}
use Rattle.m2v_model.specs.ByPieces.{Between, behind, unit_read, units_read, piece_read, end_read, text_ended}
use Rattle.m2v_model.proofs.PieceLaws.{placed, piece_is, piece_none}
use Rattle.m2v_model.proofs.FlowLaws.{read_err, read_last}
use Rattle.m2v_dec_rows.specs.m2v_dec_unit.Among.{EndsText}
pub use Rattle.m2v_dec_rows.proofs.Standing.{whole_length}
use Rattle.m2v_decode.specs.declared.course.Course.{Course}
use Rattle.m2v_decode.specs.Course.{between_of, seen_as, no_notes, with_events, ReadAll}
use Rattle.m2v_plane.specs.Samples.{Samples}
use Rattle.m2v_order.specs.Display.{Holder}
use Rattle.m2v_decode.specs.Decoding.{Agrees, ShowsFrames, dropped_in, Finished, Advanced}
use Rattle.m2v_decode.proofs.FrameLaws.{rest_same}

abbrev at : State → Store → Between
at st store = record { state = st; store = store }

-- no picture is open, and the rules at a piece's end hold
piece_over : (st : State) (store : Store) (end : ℕ) → st.picture ≡ None → (text_end st 0).read [] ≡ Ok ((false, over), []) → piece_read (at st store) end [] ≡ Ok ([], at st store)
unfolding unit_read after
piece_over st store end none read =
    let told : closed st.picture store ≡ [] = ap (λ (o : Option Open). closed o store) none in
    let last : units_read (at st store) [] ≡ Ok ([], at st store) =
    read_last (at st store) [] [] false over read refl
    ∙ (λ i. behind (told i) (Ok ([], at (sym (rest_same st none) i) (picture_ended (none i) store)))) in
    piece_none (at st store) end ∙ ap (placed end) last

piece_broken : (st : State) (store : Store) (end left : ℕ) (kind : FaultKind) → (text_end st 0).read [] ≡ Err (kind, left) → left ≡ 0 → piece_read (at st store) end [] ≡ Err (kind, 8 * end)
unfolding unit_read
piece_broken st store end left kind read zero_left =
    let place : 8 * end - left ≡ 8 * end = omega (arith, zero_left) in
    piece_none (at st store) end ∙ ap (placed end) (read_err (at st store) [] (kind, left) read) ∙ ap (λ (n : ℕ). Err (kind, n)) place

pub end_broken : (st : State) (store : Store) (end left : ℕ) (kind : FaultKind) → (text_end st 0).read [] ≡ Err (kind, left) → left ≡ 0 → end_read (at st store) end ≡ Err (kind, 8 * end)
end_broken st store end left kind read zero_left = ap (text_ended end) (piece_broken st store end left kind read zero_left)

pub end_stands : (st : State) (store : Store) (end : ℕ) → st.picture ≡ None → (text_end st 0).read [] ≡ Ok ((false, over), []) → EndsText (Ok tt) st → end_read (at st store) end ≡ Ok ([], at st store)
end_stands st store end none read ends = ap (text_ended end) (piece_over st store end none read) ∙ ends end [] store

pub end_waits : (st : State) (store : Store) (end : ℕ) (e : Stop) → st.picture ≡ None → (text_end st 0).read [] ≡ Ok ((false, over), []) → EndsText (Err e) st → e.left ≡ 0 → end_read (at st store) end ≡ Err (e.kind, 8 * end)
end_waits st store end e none read ends zero_left =
    let place : 8 * end - e.left ≡ 8 * end = omega (arith, zero_left) in
    ap (text_ended end) (piece_over st store end none read) ∙ ends end [] store ∙ ap (λ (n : ℕ). Err (e.kind, n)) place

-- the rules at the end of the text, by the one that isn't one at a piece's end
pub text_ok : (r : Result (Unit {0}) Stop) (st : State) → st.picture ≡ None → (text_end st 0).read [] ≡ Ok ((false, over), []) → EndsText r st → OnOk r ((store : Store) (end : ℕ) → end_read (at st store) end ≡ Ok ([], at st store))
text_ok (Ok done) st none read ends = λ store end. end_stands st store end none read ends
text_ok (Err e) st none read ends = tt

pub text_err : (r : Result (Unit {0}) Stop) (st : State) → st.picture ≡ None → (text_end st 0).read [] ≡ Ok ((false, over), []) → EndsText r st → IfErr r (λ e. e.left ≡ 0) → IfErr r (λ e. (store : Store) (end : ℕ) → end_read (at st store) end ≡ Err (e.kind, 8 * end))
text_err (Ok done) st none read ends left = tt
text_err (Err e) st none read ends left = λ store end. end_waits st store end e none read ends left

pub finished : (c : Course) (end : ℕ) (ended skims : Bool) → end_read (between_of c) end ≡ Ok ([], between_of c) → Finished (seen_as c ended false skims) end (seen_as c true false skims)
finished c end ended skims read = record { read = read; first = refl; anchor = refl; ready = refl; ended = refl; failed = refl; pictures = refl; dropped = refl; shown = refl }

-- ---- pieces

pub whole_few : (n most units : ℕ) → n ≤ units + 1 → 4 * units ≤ most → 1 ≤ most → n ≤ most
whole_few n most units few count some = omega arith

-- the notes of a piece of which nothing was noted before
pub notes_are : (place code_end : ℕ) (whole : List ℕ) (us : Units) (es : Events) (notes : Notes) → us ≡ (cut 0 whole).1 → code_end ≡ 8 * place + (8 * before_picture us + 32) → noted notes ≡ with_events code_end no_notes es → noted notes ≡ notes_of place whole es
unfolding notes_of
notes_are place code_end whole us es notes is code told =
    let same : code_end ≡ 8 * place + code_bits whole = code ∙ ap (λ (l : Units). 8 * place + (8 * before_picture l + 32)) is in
    told ∙ ap (λ (k : ℕ). with_events k no_notes es) same

-- a piece that begins at a byte, with notes that are taken from the decoder then
pub advanced : (old c d : Course) (us : Units) (place : ℕ) (whole : List ℕ) (notes : Notes) (before behind : Bool) → ReadAll c us d → between_of c ≡ between_of old → c.queue ≡ old.queue → c.ready ≡ old.ready → c.pictures ≡ old.pictures → c.dropped ≡ old.dropped → c.shown ≡ old.shown
    → noted c.notes ≡ no_notes → c.code_end ≡ 8 * place + (8 * before_picture us + 32) → notes ≡ d.notes
    → us ≡ (cut 0 whole).1 → 4 * length us ≤ length whole → 1 ≤ length whole → Advanced (seen_as old false false before) place whole notes (seen_as d false false behind)
advanced old c d us place whole notes before behind r between queue ready pictures dropped shown fresh code taken is count some =
    let end = place + length whole in
    record {
      onward = record {
        events = r.events;
        read = piece_is (between_of old) end whole ∙ ap (placed end) (ap (units_read (between_of old)) (sym is) ∙ ap (λ (b : Between). units_read b us) (sym between) ∙ r.read);
        first = λ low agree. subst (λ (b : Between). Agrees low b.state.first) between (r.first low agree);
        shows = λ low agree.
            subst (λ v. ShowsFrames low old.queue.anchor v.items (pictures_in r.events) d.queue.anchor d.ready.items) ready
            (subst (λ (q : Holder Samples). ShowsFrames low q.anchor c.ready.items (pictures_in r.events) d.queue.anchor d.ready.items) queue (r.shows low agree));
        counted = r.counted ∙ ap (λ (n : ℕ). n + length (pictures_in r.events)) pictures;
        dropped = r.dropped ∙ ap (λ (n : ℕ). n + dropped_in (pictures_in r.events)) dropped;
        few = whole_few (length (pictures_in r.events)) (length whole) (length us) r.few count some;
        shown = r.shown ∙ shown;
        going = refl;
        sound = refl;
      };
      notes_are = notes_are place c.code_end whole us r.events notes is code (ap noted taken ∙ r.notes ∙ ap (λ n. with_events c.code_end n r.events) fresh);
    }

pub refused : (old c : Course) (us : Units) (left place many at : ℕ) (kind : FaultKind) (whole : List ℕ) → units_read (between_of c) us ≡ Err (kind, left) → between_of c ≡ between_of old → us ≡ (cut 0 whole).1 → length whole ≡ many → at ≡ 8 * (place + many) - left
    → piece_read (between_of old) (place + length whole) whole ≡ Err (kind, at)
refused old c us left place many at kind whole e between is long where_is =
    let end = place + length whole in
    piece_is (between_of old) end whole
    ∙ ap (placed end) (ap (units_read (between_of old)) (sym is) ∙ ap (λ (b : Between). units_read b us) (sym between) ∙ e)
    ∙ ap (λ (n : ℕ). Err (kind, 8 * (place + n) - left)) long
    ∙ ap (λ (n : ℕ). Err (kind, n)) (sym where_is)

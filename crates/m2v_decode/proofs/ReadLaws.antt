-- Unit after unit: what stands after one more, and where reading stops.
use Rattle.std.proofs.Common.{◌≡◌, ℕ, ◌+◌, ◌≤◌, Bool, true, false, List, [], ◌∷◌, ◌++◌, length, Option, Some, None, Ok, Err, refl, sym, ap, subst, ◌∙◌, arith}
use Rattle.std.proofs.lemmas.List.{append-nil, length-append}
use Rattle.m2v_plane.specs.Samples.{Samples}
use Rattle.m2v_order.specs.Display.{Holder, handed, held_after}
use Rattle.m2v_model.specs.declared.state.Sequence.{Sequence}
use Rattle.m2v_model.specs.declared.state.Open.{Open}
use Rattle.m2v_model.specs.declared.state.State.{State}
use Rattle.m2v_model.specs.Units.{Units}
use Rattle.m2v_model.specs.States.{first_or}
use Rattle.m2v_model.specs.Streams.{Part, after, sequence, group, picture, matrices, slice, unread_slice, skipped_unit, ending, over}
use Rattle.m2v_model.specs.Pictures.{Store, Pictures, Events, Event, sequence_header, group_header, pictures_in, closed, told_by}
use Rattle.m2v_model.specs.PieceNotes.{noted}
use Rattle.m2v_model.specs.Decoding.{low_delay_of}
use Rattle.m2v_model.specs.ByPieces.{Between, behind, unit_read, units_read, after_part}
use Rattle.m2v_model.proofs.FlowLaws.{read_err, read_more, read_last, unit_less}
use Rattle.m2v_model.proofs.SplitLaws.{behind_none, behind_twice}
use Rattle.m2v_model.proofs.EventLaws.{pictures_in-append}
use Rattle.m2v_dec_rows.specs.m2v_dec_unit.declared.header.Header.{Header}
use Rattle.m2v_dec_rows.specs.m2v_dec_unit.Among.{goes_on, part_of}
use Rattle.m2v_dec_rows.specs.m2v_dec_picture.Frames.{Frames, store_of}
use Rattle.m2v_dec_rows.proofs.StateLaws.{closed_behind}
use Rattle.m2v_decode.specs.declared.course.Course.{Course}
use Rattle.m2v_decode.specs.declared.halt.Halt.{Halt}
use Rattle.m2v_decode.specs.declared.halt.Halt.TheVariants as halts
use Rattle.m2v_decode.specs.Decoding.{Agrees, ShowsFrames, queue_of, decoded_of, dropped_in}
use Rattle.m2v_decode.specs.Course.{between_of, FitsOpen, HaveSizes, IsSoundCourse, Emits, Steps, Rounds, HaveTold, ReadAll, CourseStops}
use Rattle.m2v_decode.proofs.NoteLaws.{notes_same, noted_on}
use Rattle.m2v_decode.proofs.Showing.{shows_none, shows_on, dropped-append}

-- ---- one unit

-- behind the sequence end code no picture is open
pub header_ends : (c d : Course) (u : List ℕ) (h : Header) → goes_on h ≡ false → Steps c (part_of u h) d → d.state.picture ≡ None
header_ends c d u h e step = ap (λ (z : State). z.picture) step.state ∙ closed_behind c.state u h e

-- ---- what a part does to the frames on their way

first_before : (low : Bool) (first : Option Sequence) (s : Sequence) → Agrees low (Some (first_or first s)) → Agrees low first
first_before low None s a = tt
first_before low (Some first) s a = a

pub agrees_before : (low : Bool) (st : State) (p : Part) → Agrees low (after st p).first → Agrees low st.first
unfolding after
agrees_before low st (sequence s) a = first_before low st.first s a
agrees_before low st (group g) a = a
agrees_before low st (picture info extension) a = a
agrees_before low st (matrices m) a = a
agrees_before low st (slice row x) a = a
agrees_before low st (unread_slice row u) a = a
agrees_before low st (skipped_unit u) a = a
agrees_before low st ending a = a
agrees_before low st over a = a

-- the pictures that are told at a part: one at most, where one was open
header_pictures : (o : Option Open) (store : Store) (h : Event) → pictures_in (h ∷ []) ≡ [] → pictures_in (closed o store ++ h ∷ []) ≡ pictures_in (closed o store)
header_pictures o store h none = pictures_in-append (closed o store) (h ∷ []) ∙ ap (λ (l : Pictures). pictures_in (closed o store) ++ l) none ∙ append-nil (pictures_in (closed o store))

closed_one : (o : Option Open) (store : Store) → length (pictures_in (closed o store)) ≤ 1
closed_one (Some p) store = omega arith
closed_one None store = omega arith

header_one : (o : Option Open) (store : Store) (h : Event) → pictures_in (h ∷ []) ≡ [] → length (pictures_in (closed o store ++ h ∷ [])) ≤ 1
header_one o store h none = omega (arith, ap length (header_pictures o store h none), closed_one o store)

pub one_told : (st : State) (store : Store) (p : Part) → length (pictures_in (told_by st store p)) ≤ 1
one_told st store (sequence s) = header_one st.picture store (sequence_header s) refl
one_told st store (group g) = header_one st.picture store (group_header g) refl
one_told st store (picture info extension) = closed_one st.picture store
one_told st store (matrices m) = omega arith
one_told st store (slice row x) = omega arith
one_told st store (unread_slice row u) = omega arith
one_told st store (skipped_unit u) = omega arith
one_told st store ending = closed_one st.picture store
one_told st store over = closed_one st.picture store

closed_nothing : (o : Option Open) (store : Store) → o ≡ None → pictures_in (closed o store) ≡ []
closed_nothing None store e = refl
closed_nothing (Some p) store e = absurd cc

pub none_told : (st : State) (store : Store) (p : Part) → st.picture ≡ None → pictures_in (told_by st store p) ≡ []
none_told st store (sequence s) e = header_pictures st.picture store (sequence_header s) refl ∙ closed_nothing st.picture store e
none_told st store (group g) e = header_pictures st.picture store (group_header g) refl ∙ closed_nothing st.picture store e
none_told st store (picture info extension) e = closed_nothing st.picture store e
none_told st store (matrices m) e = refl
none_told st store (slice row x) e = refl
none_told st store (unread_slice row u) e = refl
none_told st store (skipped_unit u) e = refl
none_told st store ending e = closed_nothing st.picture store e
none_told st store over e = closed_nothing st.picture store e

-- no picture is open before the first sequence header
none_before : (s : Option Sequence) (o : Option Open) (f : Frames) → HaveSizes None s f → FitsOpen o s f → o ≡ None
none_before s None f h fits = refl
none_before None (Some p) f h fits = absurd fits
none_before (Some s) (Some p) f h fits = absurd h

queue_same : (first : Option Sequence) (st : State) (f : Frames) (q : Holder Samples) (low : Bool) (p : Part) → HaveSizes first st.sequence f → FitsOpen st.picture st.sequence f → q.low_delay ≡ low_delay_of first → Agrees low first
    → (handed (queue_of low q.anchor) (decoded_of (pictures_in (told_by st (store_of f) p))) ≡ handed q (decoded_of (pictures_in (told_by st (store_of f) p))))
    × ((held_after (queue_of low q.anchor) (decoded_of (pictures_in (told_by st (store_of f) p)))).anchor ≡ (held_after q (decoded_of (pictures_in (told_by st (store_of f) p)))).anchor)
unfolding handed held_after
queue_same (Some first) st f q low p sizes fits is agree =
    let es = told_by st (store_of f) p in
    let same : queue_of low q.anchor ≡ q = ap (λ (b : Bool). queue_of b q.anchor) (agree ∙ sym is) in
    (ap (λ (x : Holder Samples). handed x (decoded_of (pictures_in es))) same, ap (λ (x : Holder Samples). (held_after x (decoded_of (pictures_in es))).anchor) same)
queue_same None st f q low p sizes fits is agree =
    let none : pictures_in (told_by st (store_of f) p) ≡ [] = none_told st (store_of f) p (none_before st.sequence st.picture f sizes fits) in
    (rw none refl, rw none refl)

step_shows : (low : Bool) (c d : Course) (p : Part) → IsSoundCourse c → Agrees low c.state.first → Emits c (told_by c.state (store_of c.gallery) p) d
    → ShowsFrames low c.queue.anchor c.ready.items (pictures_in (told_by c.state (store_of c.gallery) p)) d.queue.anchor d.ready.items
step_shows low c d p sound agree e =
    let same = queue_same c.state.first c.state c.gallery c.queue low p (sound.frames).sizes (sound.frames).fits sound.low agree in
    record { ready_is = e.ready ∙ ap (λ (t : List Samples). c.ready.items ++ t) (sym same.0); anchor_is = e.anchor ∙ sym same.1 }

-- ---- unit after unit

-- some units were read
pub record SoFar (old : Course) (us : Units) (new : Course) (mid : Units) : Type 0 where
  pub events : Events
  pub read : units_read (between_of old) us ≡ behind events (units_read (between_of new) mid)
  pub told : HaveTold old events new
  pub open told use *
  pub few : length (pictures_in events) + length mid ≤ length us

pub so_far_none : (c : Course) (us : Units) → SoFar c us c us
so_far_none c us = record {
  events = [];
  read = sym (behind_none (units_read (between_of c) us));
  told = record {
    first = λ low a. a;
    shows = λ low a. shows_none low c.queue.anchor c.ready.items;
    counted = omega arith;
    dropped = omega arith;
    notes = notes_same c.code_end (noted c.notes);
    code_end = refl;
    shown = refl;
  };
  few = omega arith;
}

agrees_step : (low : Bool) (c d : Course) (p : Part) → d.state ≡ after c.state p → Agrees low d.state.first → Agrees low c.state.first
agrees_step low c d p state agree = agrees_before low c.state p (subst (λ (z : State). Agrees low z.first) state agree)

-- what stands behind a part
step_between : (c d : Course) (p : Part) → Steps c p d → after_part (between_of c) p ≡ between_of d
step_between c d p step = λ i. record { state = sym step.state i; store = sym step.store i }

-- what is told of the units before, and of the last one
stepped : (old c d : Course) (us mid : Units) (p : Part) → (so : SoFar old us c mid) → IsSoundCourse c → Steps c p d → HaveTold old (so.events ++ told_by c.state (store_of c.gallery) p) d
stepped old c d us mid p so sound step =
    let now = told_by c.state (store_of c.gallery) p in
    let e = step.emits in
    let ps : pictures_in (so.events ++ now) ≡ pictures_in so.events ++ pictures_in now = pictures_in-append so.events now in
    record {
      first = λ low agree. so.first low (agrees_step low c d p step.state agree);
      shows = λ low agree.
          let agree_c = agrees_step low c d p step.state agree in
          subst (λ (l : Pictures). ShowsFrames low old.queue.anchor old.ready.items l d.queue.anchor d.ready.items) (sym ps)
          (shows_on low old.queue.anchor c.queue.anchor d.queue.anchor old.ready.items c.ready.items d.ready.items (pictures_in so.events) (pictures_in now) (so.shows low agree_c) (step_shows low c d p sound agree_c e));
      counted = omega (arith, e.pictures, so.counted, ap length ps, length-append (pictures_in so.events) (pictures_in now));
      dropped = omega (arith, e.dropped, so.dropped, ap dropped_in ps, dropped-append (pictures_in so.events) (pictures_in now));
      notes = noted_on old.code_end c.code_end (noted old.notes) (noted c.notes) (noted d.notes) so.events now so.notes so.code_end e.notes;
      code_end = e.code_end ∙ so.code_end;
      shown = e.shown ∙ so.shown;
    }

-- units were read up to a part with others behind it, and it tells more
pub more_read : (b m d : Between) (us mid next : Units) (es : Events) (more : Bool) (p : Part) → units_read b us ≡ behind es (units_read m mid) → unit_read m.state mid ≡ Ok ((more, p), next) → more ≡ true → after_part m p ≡ d
    → units_read b us ≡ behind (es ++ told_by m.state m.store p) (units_read d next)
more_read b m d us mid next es more p so read on same =
    let now = told_by m.state m.store p in
    so
    ∙ ap (behind es) (read_more m mid next more p read on)
    ∙ sym (behind_twice es now (units_read (after_part m p) next))
    ∙ ap (λ (x : Between). behind (es ++ now) (units_read x next)) same

-- the same of the last one
pub last_read : (b m d : Between) (us mid next : Units) (es : Events) (more : Bool) (p : Part) → units_read b us ≡ behind es (units_read m mid) → unit_read m.state mid ≡ Ok ((more, p), next) → more ≡ false → after_part m p ≡ d
    → units_read b us ≡ Ok (es ++ told_by m.state m.store p, d)
last_read b m d us mid next es more p so read off same =
    let now = told_by m.state m.store p in
    so
    ∙ ap (behind es) (read_last m mid next more p read off)
    ∙ sym (behind_twice es now (Ok ([], after_part m p)))
    ∙ ap (λ (l : Events). Ok (l, after_part m p)) (append-nil (es ++ now))
    ∙ ap (λ (x : Between). Ok (es ++ now, x)) same

-- a part tells one picture at most
pub few_told : (st : State) (store : Store) (p : Part) (es : Events) (mid us : Units) → length (pictures_in es) + length mid ≤ length us → length (pictures_in (es ++ told_by st store p)) + length mid ≤ length us + 1
few_told st store p es mid us few =
    let now = told_by st store p in
    omega (arith, few, one_told st store p, ap length (pictures_in-append es now), length-append (pictures_in es) (pictures_in now))

pub so_far_more : (old c d : Course) (us mid next : Units) (more : Bool) (p : Part) → SoFar old us c mid → IsSoundCourse c → unit_read c.state mid ≡ Ok ((more, p), next) → more ≡ true → Steps c p d → SoFar old us d next
so_far_more old c d us mid next more p so sound read on step = record {
  events = so.events ++ told_by c.state (store_of c.gallery) p;
  read = more_read (between_of old) (between_of c) (between_of d) us mid next so.events more p so.read read on (step_between c d p step);
  told = stepped old c d us mid p so sound step;
  few = omega (arith, few_told c.state (store_of c.gallery) p so.events mid us so.few, unit_less c.state mid next more p read on);
}

pub all_read : (old c d : Course) (us mid next : Units) (more : Bool) (p : Part) → SoFar old us c mid → IsSoundCourse c → unit_read c.state mid ≡ Ok ((more, p), next) → more ≡ false → Steps c p d → d.state.picture ≡ None → ReadAll old us d
all_read old c d us mid next more p so sound read off step none = record {
  events = so.events ++ told_by c.state (store_of c.gallery) p;
  read = last_read (between_of old) (between_of c) (between_of d) us mid next so.events more p so.read read off (step_between c d p step);
  told = stepped old c d us mid p so sound step;
  few = omega (arith, few_told c.state (store_of c.gallery) p so.events mid us so.few);
  none = none;
  sound = step.sound;
}

pub stopped : (old c d : Course) (us mid next : Units) (h : Halt) → SoFar old us c mid → Rounds c (Err h) d next (unit_read c.state mid) → CourseStops old us h
stopped old c d us mid next halts.Memory so r = tt
stopped old c d us mid next (halts.Fault stop) so r = so.read ∙ ap (behind so.events) (read_err (between_of c) mid (stop.kind, stop.left) r)

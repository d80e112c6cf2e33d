-- Reading up to a picture: the whole and its headers read the same.
use Rattle.std.proofs.Common.{◌≡◌, if◌then◌else◌, ℕ, Bool, true, false, List, [], ◌∷◌, ◌++◌, Option, Some, None, Ok, ◌⊎◌, inl, inr, refl, sym, ap, subst, ◌∙◌}
use Rattle.std.proofs.lemmas.Bool.{cases_Bool}
use Rattle.m2v_plane.specs.Sizes.{IsSize}
use Rattle.m2v_head.specs.declared.group.GroupInfo.{GroupInfo}
use Rattle.m2v_head.specs.declared.picture.PictureInfo.{PictureInfo}
use Rattle.m2v_head.specs.declared.picture.PictureExtension.{PictureExtension}
use Rattle.m2v_model.specs.declared.fault.FaultKind.{FaultKind}
use Rattle.m2v_model.specs.declared.state.Sequence.{Sequence}
use Rattle.m2v_model.specs.declared.state.Open.{Open}
use Rattle.m2v_model.specs.declared.state.State.{State}
use Rattle.m2v_model.specs.Units.{Units}
use Rattle.m2v_model.specs.States.{dims_of, is_same_sequence, none_waits, is_second_field_due, drops, opened, after_sequence, after_group, after_picture}
use Rattle.m2v_model.specs.Streams.{Part, sequence, group, picture, matrices, slice, unread_slice, skipped_unit, ending, over, after}
use Rattle.m2v_model.specs.Pictures.{Store, Events, pictures_in, picture_of, picture_begun, picture_ended, references_of, fresh, events_from, store_from, told_by}
use Rattle.m2v_model.specs.ByPieces.{Between, behind, units_read, unit_read, after_part}
use Rattle.m2v_model.specs.HeadersOnly.{FrontRead, faulty, final_unit, more}
use Rattle.m2v_model.proofs.FlowLaws.{read_err, read_more}
use Rattle.m2v_model.proofs.SplitLaws.{behind_twice}
use Rattle.m2v_dec_rows.specs.Rows.{Slices}
use Rattle.m2v_dec_rows.specs.Headers.{stopped_from, with_part, slices_by}
use Rattle.m2v_dec_rows.specs.OnePicture.{NoneBegins, HasOnePicture}
use Rattle.m2v_dec_rows.specs.Halves.{ReadsNone, state_left, TellNone, TellDropped}
use Rattle.m2v_dec_rows.proofs.Holding.{read_at}
use Rattle.m2v_dec_rows.proofs.Behind.{skim_at}
use Rattle.m2v_dec_rows.proofs.Before.{shut, unit_same, First, FirstPart, unit_first}
use Rattle.m2v_dec_rows.proofs.Painting.{at_open}
use Rattle.m2v_dec_rows.proofs.Later.{never_one}
use Rattle.m2v_dec_rows.proofs.Dropped.{course_told, course_more, course_last, dropped_rest}

-- the sequence header in force is that of frames with a size that can be
abbrev pub HasSize : Option Sequence → Type 0
HasSize None = Unit {0}
HasSize (Some s) = IsSize (dims_of s)

-- no slice is read: the whole tells what the parts of its headers tell
pub record Whole (b : Between) (us : Units) (parts : List Part) (fault : Option (FaultKind × ℕ)) (st : State) : Type 0 where
  pub told : units_read b us ≡ course_told b (state_left (stopped_from st parts)) parts fault
  pub drops : ReadsNone (stopped_from st parts).picture
  pub none : (stopped_from st parts).picture ≡ None → TellNone b parts
  pub dropped : (o : Open) → (stopped_from st parts).picture ≡ Some o → fault ≡ None → TellDropped b parts o

-- sequence headers and group headers lead from a state to another one; no picture is open between them
pub data Leads : State → State → Type 0 where
  here : {w : State} → Leads w w
  by_sequence : {w v : State} (s : Sequence) → IsSize (dims_of s) → is_same_sequence w.first s ≡ true → Leads (after_sequence w s) v → Leads w v
  by_group : {w v : State} (g : GroupInfo) → none_waits w.waiting ≡ true → Leads (after_group w g) v → Leads w v

-- the headers of a picture, and the state before them
pub record Headed : Type 0 where
  pub before : State
  pub info : PictureInfo
  pub extension : PictureExtension

-- a picture whose slices are read is open behind its headers, in a sequence, and reading goes on
pub record Opening (fault : Option (FaultKind × ℕ)) : Type 0 where
  pub z : State
  pub s : Sequence
  pub o : Open
  pub mid : Units
  pub later_parts : List Part
  pub later : FrontRead (skim_at z s o) mid later_parts fault
  pub begins : NoneBegins mid
  pub headed : Headed
  pub open headed use *
  pub known : before.sequence ≡ Some s
  pub due : is_second_field_due before.waiting info extension ≡ true
  pub is_open : o ≡ opened before info extension
  pub is_behind : z ≡ after_picture before info extension
  pub read : o.slices_unread ≡ false
  pub kept : o.dropped ≡ false
  pub covered : o.covered ≡ 0
  pub row : o.row ≡ 0
  pub size : IsSize (dims_of s)

-- A picture opens whose slices are read: what is told of all units is told of those behind its headers, with headers
-- before.
pub record Opens (w : State) (store : Store) (end : ℕ) (us : Units) (parts : List Part) (fault : Option (FaultKind × ℕ)) (st : State) (r : FrontRead st us parts fault) : Type 0 where
  pub es : Events
  pub no_pictures : pictures_in es ≡ []
  pub at : Opening fault
  pub open at use *
  -- headers lead to the picture's own
  pub leads : Leads w before
  pub told : units_read (record { state = w; store = store }) us ≡ behind es (units_read (at_open z s o (picture_begun (Some s) o store)) mid)
  pub final_is : stopped_from st parts ≡ stopped_from (skim_at z s o) later_parts
  pub are : (now : Slices) → slices_by end now r ≡ slices_by end [] later

abbrev pub Either : State → Store → (end : ℕ) (us : Units) (parts : List Part) (fault : Option (FaultKind × ℕ)) (st : State) → FrontRead st us parts fault → Type 0
Either w store end us parts fault st r = Whole (record { state = w; store = store }) us parts fault st ⊎ Opens w store end us parts fault st r

-- ---- one unit

abbrev at_shut : State → Option Sequence → Store → Between
at_shut z q store = record { state = shut z q false; store = store }

first_at : (z : State) (q : Option Sequence) (us : Units) (x : Bool × Part) (mid : Units) → HasOnePicture us → unit_read (shut z q true) us ≡ Ok (x, mid) → FirstPart z q x.0 x.1 mid
first_at z q us x mid h e = read_at (First z q) (unit_read (shut z q false) us) x mid (unit_first z q us h) (sym (unit_same z q us) ∙ e)

-- ---- a header that begins no picture

whole_on : (b b2 : Between) (us mid : Units) (p : Part) (ps : List Part) (fault : Option (FaultKind × ℕ)) (st st2 : State) → unit_read b.state us ≡ Ok ((true, p), mid) → after_part b p ≡ b2 → b2.store ≡ b.store
    → ((es : Events) → pictures_in (told_by b.state b.store p ++ es) ≡ pictures_in es) → stopped_from st (p ∷ ps) ≡ stopped_from st2 ps
    → Whole b2 mid ps fault st2 → Whole b us (p ∷ ps) fault st
unfolding events_from store_from
whole_on b b2 us mid p ps fault st st2 e next same passed stops a =
    let opens = ap (λ (x : State). x.picture) stops in
    let h = subst (λ (x : Between). Whole x mid ps fault st2) (sym next) a in
    let store : (after_part b p).store ≡ b.store = ap (λ (x : Between). x.store) next ∙ same in
    record {
      told = subst (λ (x : State). units_read b us ≡ course_told b (state_left x) (p ∷ ps) fault) (sym stops) (course_more b (state_left (stopped_from st2 ps)) us mid p ps fault e h.told);
      drops = subst (λ (x : State). ReadsNone x.picture) (sym stops) h.drops;
      none = λ closed.
          let t = h.none (sym opens ∙ closed) in
          record { pictures = passed (events_from (after_part b p).state (after_part b p).store ps) ∙ t.pictures; store = t.store ∙ store };
      dropped = λ o is whole.
          let t = h.dropped o (sym opens ∙ is) whole in
          record {
            pictures = passed (events_from (after_part b p).state (after_part b p).store ps) ∙ t.pictures ∙ ap (λ (f : Store). picture_of o (record f { current = None }) ∷ []) store;
            store = t.store ∙ ap (λ (f : Store). picture_ended (Some o) (record f { current = None })) store;
          };
    }

opens_on : (w w2 : State) (store : Store) (end : ℕ) (us mid : Units) (p : Part) (ps : List Part) (fault : Option (FaultKind × ℕ)) (st st2 : State) (r : FrontRead st us (p ∷ ps) fault) (later : FrontRead st2 mid ps fault)
    → unit_read w us ≡ Ok ((true, p), mid) → after_part (record { state = w; store = store }) p ≡ record { state = w2; store = store }
    → ((es : Events) → pictures_in (told_by w store p ++ es) ≡ pictures_in es)
    → stopped_from st (p ∷ ps) ≡ stopped_from st2 ps → ((now : Slices) → slices_by end now r ≡ slices_by end now later) → ((v : State) → Leads w2 v → Leads w v)
    → Either w2 store end mid ps fault st2 later → Either w store end us (p ∷ ps) fault st r
opens_on w w2 store end us mid p ps fault st st2 r later e next passed stops are lead (inl a) =
    inl (whole_on (record { state = w; store = store }) (record { state = w2; store = store }) us mid p ps fault st st2 e next refl passed stops a)
opens_on w w2 store end us mid p ps fault st st2 r later e next passed stops are lead (inr a) =
    let b : Between = record { state = w; store = store } in
    let es = told_by w store p in
    let last = units_read (at_open a.z a.s a.o (picture_begun (Some a.s) a.o store)) a.mid in
    inr (record {
      es = es ++ a.es;
      no_pictures = passed a.es ∙ a.no_pictures;
      at = a.at;
      leads = lead a.before a.leads;
      told = read_more b us mid true p e refl ∙ ap (λ (x : Between). behind es (units_read x mid)) next ∙ ap (behind es) a.told ∙ sym (behind_twice es a.es last);
      final_is = stops ∙ a.final_is;
      are = λ now. are now ∙ a.are now;
    })

-- ---- a picture

begun_none : (b : Bool) (x y : Store) → b ≡ true → (if b then x else y) ≡ x
begun_none true x y e = refl
begun_none false x y e = never_one (sym e)

-- it is dropped
picture_drops : (z : State) (s : Sequence) (store : Store) (us mid : Units) (info : PictureInfo) (extension : PictureExtension) (ps : List Part) (fault : Option (FaultKind × ℕ))
    → unit_read (shut z (Some s) false) us ≡ Ok ((true, picture info extension), mid) → FrontRead (after (shut z (Some s) true) (picture info extension)) mid ps fault → NoneBegins mid → drops (shut z (Some s) false) info.kind ≡ true
    → Whole (at_shut z (Some s) store) us (picture info extension ∷ ps) fault (shut z (Some s) true)
unfolding after stopped_from events_from store_from
picture_drops z s store us mid info extension ps fault read later n on =
    let w = shut z (Some s) false in
    let o = opened w info extension in
    let h = dropped_rest (after_picture w info extension) s o (picture_begun (Some s) o store) mid ps fault later on on refl n in
    let begun : picture_begun (Some s) o store ≡ record store { current = None } = begun_none o.slices_unread (record store { current = None }) (record store { current = fresh s o store.current; references = references_of o store }) on in
    record {
      told = course_more (at_shut z (Some s) store) _ us mid (picture info extension) ps fault read h.told;
      drops = h.drops;
      none = λ closed. absurd (h.some closed);
      dropped = λ p is whole.
          let t = h.tell whole p is in
          record {
            pictures = t.0 ∙ ap (λ (f : Store). picture_of p f ∷ []) begun;
            store = t.1 ∙ ap (picture_ended (Some p)) begun;
          };
    }

picture_opens : (z : State) (s : Sequence) (store : Store) (end : ℕ) (us mid : Units) (info : PictureInfo) (extension : PictureExtension) (ps : List Part) (fault : Option (FaultKind × ℕ))
    (e : unit_read (shut z (Some s) true) us ≡ Ok ((true, picture info extension), mid)) (later : FrontRead (after (shut z (Some s) true) (picture info extension)) mid ps fault) → NoneBegins mid → IsSize (dims_of s) → is_second_field_due z.waiting info extension ≡ true
    → Either (shut z (Some s) false) store end us (picture info extension ∷ ps) fault (shut z (Some s) true) (more e later)
unfolding after stopped_from slices_by with_part
picture_opens z s store end us mid info extension ps fault e later n size due =
    let w = shut z (Some s) false in
    let b : Between = record { state = w; store = store } in
    let read : unit_read w us ≡ Ok ((true, picture info extension), mid) = sym (unit_same z (Some s) us) ∙ e in
    elim (cases_Bool (drops w info.kind)) [
      | inl on ↦ inl (picture_drops z s store us mid info extension ps fault read later n on)
      | inr off ↦ inr (record {
        es = [];
        no_pictures = refl;
        at = record {
          z = after_picture w info extension;
          s = s;
          o = opened w info extension;
          mid = mid;
          later_parts = ps;
          later = later;
          begins = n;
          headed = record { before = w; info = info; extension = extension };
          known = refl;
          due = due;
          is_open = refl;
          is_behind = refl;
          read = off;
          kept = off;
          covered = refl;
          row = refl;
          size = size;
        };
        leads = here;
        told = read_more b us mid true (picture info extension) read refl;
        final_is = refl;
        are = λ now. refl;
      })
    ]

-- ---- all units

pub either : (z : State) (q : Option Sequence) (store : Store) (end : ℕ) (us : Units) (parts : List Part) (fault : Option (FaultKind × ℕ)) (r : FrontRead (shut z q true) us parts fault) → HasOnePicture us → HasSize q
    → Either (shut z q false) store end us parts fault (shut z q true) r
unfolding after stopped_from slices_by with_part events_from store_from
either z q store end us parts fault (faulty {f = f} e) h size =
    inl (record { told = read_err (at_shut z q store) us f (sym (unit_same z q us) ∙ e); drops = tt; none = λ closed. record { pictures = refl; store = refl }; dropped = λ o is whole. absurd (cc is) })
either z q store end us parts fault (final_unit {rest = last} {p = over} e) h size =
    inl (record { told = course_last (at_shut z q store) us last over (sym (unit_same z q us) ∙ e); drops = tt; none = λ closed. record { pictures = refl; store = refl }; dropped = λ o is whole. absurd (cc is) })
either z q store end us parts fault (final_unit {rest = last} {p = ending} e) h size =
    inl (record { told = course_last (at_shut z q store) us last ending (sym (unit_same z q us) ∙ e); drops = tt; none = λ closed. record { pictures = refl; store = refl }; dropped = λ o is whole. absurd (cc is) })
either z q store end us parts fault (final_unit {rest = last} {p = sequence s} e) h size = never_one (sym (first_at z q us (false, sequence s) last h e).0)
either z q store end us parts fault (final_unit {rest = last} {p = group g} e) h size = never_one (sym (first_at z q us (false, group g) last h e).0)
either z q store end us parts fault (final_unit {rest = last} {p = picture info extension} e) h size = never_one (sym (first_at z q us (false, picture info extension) last h e).0)
either z q store end us parts fault (final_unit {rest = last} {p = skipped_unit u} e) h size = never_one (sym (first_at z q us (false, skipped_unit u) last h e).0)
either z q store end us parts fault (final_unit {rest = last} {p = matrices m} e) h size = absurd (first_at z q us (false, matrices m) last h e)
either z q store end us parts fault (final_unit {rest = last} {p = slice row x} e) h size = absurd (first_at z q us (false, slice row x) last h e)
either z q store end us parts fault (final_unit {rest = last} {p = unread_slice row u} e) h size = absurd (first_at z q us (false, unread_slice row u) last h e)
either z q store end us parts fault (more {mid = mid} {p = matrices m} e later) h size = absurd (first_at z q us (true, matrices m) mid h e)
either z q store end us parts fault (more {mid = mid} {p = slice row x} e later) h size = absurd (first_at z q us (true, slice row x) mid h e)
either z q store end us parts fault (more {mid = mid} {p = unread_slice row u} e later) h size = absurd (first_at z q us (true, unread_slice row u) mid h e)
either z q store end us parts fault (more {mid = mid} {p = ending} e later) h size = never_one (first_at z q us (true, ending) mid h e)
either z q store end us parts fault (more {mid = mid} {p = over} e later) h size = never_one (first_at z q us (true, over) mid h e)
either z q store end us parts fault (more {mid = mid} {p = sequence s} {ps = ps} e later) h size =
    let f = first_at z q us (true, sequence s) mid h e in
    let z2 = after_sequence (shut z q false) s in
    opens_on (shut z q false) (shut z2 (Some s) false) store end us mid (sequence s) ps fault (shut z q true) (shut z2 (Some s) true) (more e later) later (sym (unit_same z q us) ∙ e) refl (λ es. refl) refl (λ now. refl) (λ v l. by_sequence s f.2 f.3 l)
    (either z2 (Some s) store end mid ps fault later f.1 f.2)
either z q store end us parts fault (more {mid = mid} {p = group g} {ps = ps} e later) h size =
    let f = first_at z q us (true, group g) mid h e in
    let z2 = after_group (shut z q false) g in
    opens_on (shut z q false) (shut z2 q false) store end us mid (group g) ps fault (shut z q true) (shut z2 q true) (more e later) later (sym (unit_same z q us) ∙ e) refl (λ es. refl) refl (λ now. refl) (λ v l. by_group g f.2 l)
    (either z2 q store end mid ps fault later f.1 size)
either z q store end us parts fault (more {mid = mid} {p = skipped_unit u} {ps = ps} e later) h size =
    let f = first_at z q us (true, skipped_unit u) mid h e in
    opens_on (shut z q false) (shut z q false) store end us mid (skipped_unit u) ps fault (shut z q true) (shut z q true) (more e later) later (sym (unit_same z q us) ∙ e) refl (λ es. refl) refl (λ now. refl) (λ v l. l)
    (either z q store end mid ps fault later f.1 size)
either z (Some s) store end us parts fault (more {mid = mid} {p = picture info extension} {ps = ps} e later) h size =
    let f = first_at z (Some s) us (true, picture info extension) mid h e in
    picture_opens z s store end us mid info extension ps fault e later f.1 size f.3
either z None store end us parts fault (more {mid = mid} {p = picture info extension} {ps = ps} e later) h size =
    let f = first_at z None us (true, picture info extension) mid h e in
    never_one (sym f.2)

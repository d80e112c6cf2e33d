-- A piece as a whole, by its headers and its rows.
use Rattle.std.proofs.Common.{◌≡◌, ℕ, ◌-◌, ◌*◌, ◌<◌, Bool, true, false, List, [], ◌∷◌, ◌++◌, Option, Some, None, Ok, Err, inl, inr, refl, sym, ap, subst, ◌∙◌}
use Rattle.std.specs.Prelude.{nat_eq, if◌then◌else◌}
use Rattle.std.proofs.lemmas.Bool.{cases_Bool, both_ways, eq-eqb}
use Rattle.m2v_plane.specs.Sizes.{IsSize}
use Rattle.m2v_model.specs.declared.fault.FaultKind.{FaultKind}
use Rattle.m2v_model.specs.declared.fault.FaultKind.TheVariants.{MissingMacroblocks}
use Rattle.m2v_model.specs.declared.setup.SliceSetup.{SliceSetup}
use Rattle.m2v_model.specs.declared.state.Sequence.{Sequence}
use Rattle.m2v_model.specs.declared.state.Open.{Open}
use Rattle.m2v_model.specs.declared.state.State.{State}
use Rattle.m2v_model.specs.Units.{Units, cut}
use Rattle.m2v_model.specs.States.{dims_of, picture_rows, slice_setup, after_end}
use Rattle.m2v_model.specs.Streams.{Part}
use Rattle.m2v_model.specs.Pictures.{Store, Events, Pictures, coded_picture, pictures_in, picture_of, picture_begun, picture_ended, references_of, fresh}
use Rattle.m2v_model.specs.ByPieces.{Between, Course, behind, piece_read, units_read}
use Rattle.m2v_model.specs.HeadersOnly.{FrontRead}
use Rattle.m2v_model.proofs.EventLaws.{pictures_in-append}
use Rattle.m2v_model.proofs.PieceLaws.{placed, piece_is}
use Rattle.m2v_dec_piece.specs.declared.answer.Piece.{Piece}
use Rattle.m2v_dec_picture.specs.Conditions.{rows_in}
use Rattle.m2v_dec_rows.specs.Rows.{Slices, Placed, Begun, Read, first_of, row_fault, slices_read}
use Rattle.m2v_dec_rows.specs.ByRows.{AreOrdered, picture_read, closed_by, picture_fault, ByRows}
use Rattle.m2v_dec_rows.specs.Opened.{whole_of}
use Rattle.m2v_dec_rows.proofs.ByRowLaws.{by_rows}
use Rattle.m2v_dec_rows.specs.Headers.{Front, stopped, stopped_from, slices_by, fault_at, end_of, IsBetween, HaveOneSize}
use Rattle.m2v_dec_rows.specs.OnePicture.{HasOnePicture}
use Rattle.m2v_dec_rows.specs.Halves.{ReadsNone, ending_at, NoneAbove, frames_begun, frames_painted, TellsPicture, PictureByRows, Halves}
use Rattle.m2v_dec_rows.proofs.Behind.{skim_at, unread_of, open_at}
use Rattle.m2v_dec_rows.proofs.Before.{shut}
use Rattle.m2v_dec_rows.proofs.Painting.{at_open, ClosesWith, Tells}
use Rattle.m2v_dec_rows.proofs.Later.{reached, loaded, rest, never_one}
use Rattle.m2v_dec_rows.proofs.Dropped.{told_placed}
use Rattle.m2v_dec_rows.proofs.UpToPicture.{HasSize, Opens, Either, either}
use Rattle.m2v_dec_rows.proofs.RowFaults.{first_fault, some_is, all_read, closed_none, addresses}

-- ---- what is told, by the faults of rows

abbrev failed : Placed → Course
failed f = Err f

closed_told : (end : ℕ) (setup : SliceSetup) (z : State) (s : Sequence) (o : Open) (store : Store) (f : Placed) (read : Read) (r : Course) → Tells end setup z s o store None read r
    → closed_by setup (rows_in setup) (8 * end) read ≡ Some f → r ≡ Err f
closed_told end setup z s o store f (Err g) r t e = t ∙ ap failed (some_is g f e)
closed_told end setup z s o store f (Ok y) r t e = elim (cases_Bool (nat_eq y.1 (first_of setup (rows_in setup)))) [
  | inl on ↦ absurd (cc (rw on at e))
  | inr off ↦ t.missing (λ same. absurd (both_ways _ off (eq-eqb y.1 (first_of setup (rows_in setup)) same))) ∙ ap failed (some_is (MissingMacroblocks, 8 * end) f (rw off at e))
]

row_course : (end : ℕ) (setup : SliceSetup) (z : State) (s : Sequence) (o : Open) (store : Store) (fault : Option (FaultKind × ℕ)) (us : Slices) (r : Course) → ((e : ℕ) → ByRows setup (rows_in setup) us e)
    → Tells end setup z s o store fault (picture_read setup us) r
    → (row : ℕ) (x : Placed) → row < rows_in setup → NoneAbove setup us (ending_at end (fault_at end fault)) row → row_fault setup row us (ending_at end (fault_at end fault)) ≡ Some x → r ≡ Err x
unfolding picture_fault
row_course end setup z s o store None us r h t row x lt none e = closed_told end setup z s o store x (picture_read setup us) r t ((h (8 * end)).first row x lt none e)
row_course end setup z s o store (Some f) us r h t row x lt none e = subst (λ (y : Read). Tells end setup z s o store (Some f) y r) (first_fault setup (rows_in setup) row us x h lt none e) t

headers_course : (end : ℕ) (setup : SliceSetup) (z : State) (s : Sequence) (o : Open) (store : Store) (fault : Option (FaultKind × ℕ)) (us : Slices) (r : Course) → ((e : ℕ) → ByRows setup (rows_in setup) us e)
    → Tells end setup z s o store fault (picture_read setup us) r
    → (x : Placed) → NoneAbove setup us (ending_at end (fault_at end fault)) (rows_in setup) → fault_at end fault ≡ Some x → r ≡ Err x
headers_course end setup z s o store None us r h t x none e = absurd (cc e)
headers_course end setup z s o store (Some f) us r h t x none e =
    let all = all_read setup (rows_in setup) us h none in
    subst (λ (y : Read). Tells end setup z s o store (Some f) y r) all.1 t ∙ ap failed (some_is (f.0, 8 * end - f.1) x e)

-- all slices were read, and the picture ends with them
record Closed (setup : SliceSetup) (z : State) (s : Sequence) (o : Open) (store : Store) (us : Slices) (r : Course) : Type 0 where
  slices : List Begun
  read : picture_read setup us ≡ Ok (slices, first_of setup (rows_in setup))
  closes : ClosesWith z s o (frames_painted setup slices store) r

whole_course : (end : ℕ) (setup : SliceSetup) (z : State) (s : Sequence) (o : Open) (store : Store) (fault : Option (FaultKind × ℕ)) (us : Slices) (r : Course) → ((e : ℕ) → ByRows setup (rows_in setup) us e)
    → Tells end setup z s o store fault (picture_read setup us) r
    → NoneAbove setup us (ending_at end (fault_at end fault)) (rows_in setup) → fault_at end fault ≡ None → Closed setup z s o store us r
unfolding picture_fault
whole_course end setup z s o store (Some f) us r h t none e = absurd (cc e)
whole_course end setup z s o store None us r h t none e =
    let c = closed_none setup (rows_in setup) (8 * end) (picture_read setup us) ((h (8 * end)).whole none) in
    let told = subst (λ (y : Read). Tells end setup z s o store None y r) c.1 t in
    record { slices = c.0.0; read = c.1 ∙ ap (λ (n : ℕ). Ok (c.0.0, n)) c.2; closes = told.covered c.2 }

-- ---- what is told of the picture

begun_by : (b : Bool) (x y : Store) → b ≡ false → (if b then x else y) ≡ y
begun_by true x y e = never_one e
begun_by false x y e = refl

frames_are : (s : Sequence) (o : Open) (store : Store) → o.slices_unread ≡ false → picture_begun (Some s) o store ≡ frames_begun s o store
frames_are s o store e = begun_by o.slices_unread (record store { current = None }) (record store { current = fresh s o store.current; references = references_of o store }) e

picture_told : (b : Between) (z : State) (s : Sequence) (o : Open) (has_slice : Bool) (row : ℕ) (us : Slices) (es : Events) → o.slices_unread ≡ false → pictures_in es ≡ []
    → (xs : List Begun) (n : ℕ) → picture_read (slice_setup z s o) us ≡ Ok (xs, first_of (slice_setup z s o) (rows_in (slice_setup z s o)))
    → let f = frames_painted (slice_setup z s o) xs (picture_begun (Some s) o b.store) in
    TellsPicture b (skim_at z s (reached o has_slice row)) s (unread_of (reached o has_slice row)) (slice_setup z s o) us (es ++ coded_picture (record (picture_of o f) { crowded_row = n }) ∷ []) (record { state = after_end (open_at z s o); store = picture_ended (Some o) f })
unfolding slice_setup picture_of
picture_told b z s o has_slice row us es unread none xs n read =
    let setup = slice_setup z s o in
    let begun = frames_are s o b.store unread in
    let f = frames_painted setup xs (picture_begun (Some s) o b.store) in
    let told = coded_picture (record (picture_of o f) { crowded_row = n }) in
    record {
      slices = xs;
      read = read;
      crowded = n;
      picture = pictures_in-append es (told ∷ []) ∙ ap (λ (l : Pictures). l ++ record (picture_of o f) { crowded_row = n } ∷ []) none ∙ ap (λ (g : Store). record (picture_of o (frames_painted setup xs g)) { crowded_row = n } ∷ []) begun;
      state = refl;
      store = ap (λ (g : Store). picture_ended (Some o) (frames_painted setup xs g)) begun;
    }

-- ---- the record of the law

by_its_rows : (b : Between) (end : ℕ) (piece : List ℕ) (z : State) (s : Sequence) (o : Open) (has_slice : Bool) (row : ℕ) (us : Slices) (fault : Option (FaultKind × ℕ)) (es : Events) (r : Course)
    → IsSize (dims_of s) → o.slices_unread ≡ false → pictures_in es ≡ [] → AreOrdered 0 (picture_rows s o) us → piece_read b end piece ≡ behind es r
    → Tells end (slice_setup z s o) z s o (picture_begun (Some s) o b.store) fault (picture_read (slice_setup z s o) us) r
    → PictureByRows b end piece (skim_at z s (reached o has_slice row)) us (fault_at end fault) s (unread_of (reached o has_slice row))
unfolding slice_setup
by_its_rows b end piece z s o has_slice row us fault es r size unread no_pictures ordered whole told =
    let setup = slice_setup z s o in
    let store = picture_begun (Some s) o b.store in
    let law = λ (e : ℕ). by_rows setup (rows_in setup) us e (λ k lt. addresses setup k size refl lt) ordered in
    record {
      ordered = ordered;
      row = λ k f lt none e. whole ∙ ap (behind es) (row_course end setup z s o store fault us r law told k f lt none e);
      headers = λ f none e. whole ∙ ap (behind es) (headers_course end setup z s o store fault us r law told f none e);
      whole = λ none e.
          let c = whole_course end setup z s o store fault us r law told none e in
          (_, _, whole ∙ ap (behind es) c.closes.1, picture_told b z s o has_slice row us es unread no_pictures c.slices c.closes.0 c.read);
    }

placed_behind : (end : ℕ) (es : Events) (r : Course) → placed end (behind es r) ≡ behind es (placed end r)
placed_behind end es (Ok x) = refl
placed_behind end es (Err f) = refl

open_is : (o p : Open) → Some o ≡ Some p → o ≡ p
open_is o p e = cc

pub sequence_is : (s t : Sequence) → Some s ≡ Some t → s ≡ t
sequence_is s t e = cc

-- where a picture opens whose slices are read
opens_rows : (w : State) (store : Store) (end : ℕ) (piece : List ℕ) (parts : List Part) (fault : Option (FaultKind × ℕ)) (st : State) (r : FrontRead st (cut 0 piece).1 parts fault)
    → Opens w store end (cut 0 piece).1 parts fault st r → (s : Sequence) (o : Open) → (stopped_from st parts).sequence ≡ Some s → (stopped_from st parts).picture ≡ Some o
    → PictureByRows (record { state = w; store = store }) end piece (stopped_from st parts) (slices_by end [] r) (fault_at end fault) s o
opens_rows w store end piece parts fault st r a s o in_force is_open =
    let b : Between = record { state = w; store = store } in
    let h = rest a.z a.s a.o (picture_begun (Some a.s) a.o store) end a.mid a.later_parts fault a.later a.read a.begins in
    let z = loaded a.z h.intra h.non_intra in
    let own = reached a.o h.has_slice h.row in
    let us = slices_by end [] a.later in
    let final = a.final_is ∙ h.final_is in
    let course = placed end (units_read (at_open a.z a.s a.o (picture_begun (Some a.s) a.o store)) a.mid) in
    let whole = piece_is b end piece ∙ ap (placed end) a.told ∙ placed_behind end a.es (units_read (at_open a.z a.s a.o (picture_begun (Some a.s) a.o store)) a.mid) in
    let told = subst (λ (n : ℕ). Tells end (slice_setup z a.s a.o) z a.s a.o (picture_begun (Some a.s) a.o store) fault (slices_read (slice_setup z a.s a.o) (Ok ([], n)) us) course) a.covered h.told in
    let ordered = subst (λ (n : ℕ). AreOrdered n (picture_rows a.s a.o) us) a.row h.ordered in
    let law = by_its_rows b end piece z a.s a.o h.has_slice h.row us fault a.es course a.size a.read a.no_pictures ordered whole told in
    let same_sequence = sequence_is a.s s (sym (ap (λ (x : State). x.sequence) final) ∙ in_force) in
    let same_open = open_is (unread_of own) o (sym (ap (λ (x : State). x.picture) final) ∙ is_open) in
    subst (λ (x : Sequence). PictureByRows b end piece (stopped_from st parts) (slices_by end [] r) (fault_at end fault) x o) same_sequence
    (subst (λ (x : Open). PictureByRows b end piece (stopped_from st parts) (slices_by end [] r) (fault_at end fault) a.s x) same_open
    (subst (λ (x : State). PictureByRows b end piece x (slices_by end [] r) (fault_at end fault) a.s (unread_of own)) (sym final)
    (subst (λ (l : Slices). PictureByRows b end piece (skim_at z a.s own) l (fault_at end fault) a.s (unread_of own)) (sym (a.are [])) law)))

opens_kept : (w : State) (store : Store) (end : ℕ) (us : Units) (parts : List Part) (fault : Option (FaultKind × ℕ)) (st : State) (r : FrontRead st us parts fault)
    → Opens w store end us parts fault st r → ReadsNone (stopped_from st parts).picture → ⊥
opens_kept w store end us parts fault st r a none =
    let h = rest a.z a.s a.o (picture_begun (Some a.s) a.o store) end a.mid a.later_parts fault a.later a.read a.begins in
    let drop : a.o.dropped ≡ true = subst (λ (x : State). ReadsNone x.picture) (a.final_is ∙ h.final_is) none in
    both_ways _ a.kept drop

halves_by : (w : State) (store : Store) (p : Piece) (f : Front w p) → Either w store (end_of p) (cut 0 (whole_of p)).1 f.parts f.fault (record w { headers_only = true }) f.read → Halves (record { state = w; store = store }) p f
halves_by w store p f (inl a) =
    let b : Between = record { state = w; store = store } in
    record {
      headers = λ none. piece_is b (end_of p) (whole_of p) ∙ ap (placed (end_of p)) a.told ∙ told_placed b (end_of p) (stopped f) f.parts f.fault;
      none = a.none;
      dropped = λ o is drop whole. a.dropped o is whole;
      rows = λ s o in_force is_open kept. absurd (both_ways _ kept (subst ReadsNone is_open a.drops));
    }
halves_by w store p f (inr a) = record {
  none = λ closed. absurd (opens_kept w store (end_of p) (cut 0 (whole_of p)).1 f.parts f.fault _ f.read a (subst ReadsNone (sym closed) tt));
  dropped = λ o is drop whole. absurd (opens_kept w store (end_of p) (cut 0 (whole_of p)).1 f.parts f.fault _ f.read a (subst ReadsNone (sym is) drop));
  headers = λ none. absurd (opens_kept w store (end_of p) (cut 0 (whole_of p)).1 f.parts f.fault _ f.read a none);
  rows = λ s o in_force is_open kept. opens_rows w store (end_of p) (whole_of p) f.parts f.fault _ f.read a s o in_force is_open;
}

halves_at : (z : State) (store : Store) (h : Bool) (open_picture : Option Open) (p : Piece) (f : Front (record z { headers_only = h; picture = open_picture }) p) → h ≡ false → open_picture ≡ None → HasSize z.sequence → HasOnePicture (cut 0 (whole_of p)).1
    → Halves (record { state = record z { headers_only = h; picture = open_picture }; store = store }) p f
halves_at z store false None p f on none size one =
    halves_by (shut z z.sequence false) store p f (either z z.sequence store (end_of p) (cut 0 (whole_of p)).1 f.parts f.fault f.read one size)
halves_at z store false (Some o) p f on none size one = absurd (cc none)
halves_at z store true open_picture p f on none size one = absurd (cc on)

pub has_size : (first q : Option Sequence) → HaveOneSize first q → HasSize q
has_size first None h = tt
has_size (Some first) (Some s) h = h.0
has_size None (Some s) h = absurd h

-- the law of halves
pub halves : (b : Between) (p : Piece) (f : Front b.state p) → b.state.headers_only ≡ false → IsBetween b.state → HasOnePicture (cut 0 (whole_of p)).1 → Halves b p f
halves b p f all between one =
    halves_at b.state b.store b.state.headers_only b.state.picture p f all between.closed (has_size b.state.first b.state.sequence between.size) one

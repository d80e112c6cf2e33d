-- What units that were read leave: the slices so far, and the state, whatever stands behind them.
use Rattle.std.proofs.Common.{◌≡◌, ℕ, ◌-◌, ◌/◌, ◌≤◌, ◌<◌, true, false, List, [], ◌∷◌, ◌++◌, All, map, length, Option, Some, None, Ok, Err, refl, sym, ap, subst, ◌∙◌}
use Rattle.std.proofs.lemmas.List.{map-append}
use Rattle.std.proofs.lemmas.List.Elements.{All-nil, All-push}
use Rattle.m2v_model.specs.declared.fault.FaultKind.{FaultKind}
use Rattle.m2v_model.specs.declared.stop.Stop.{Stop}
use Rattle.m2v_model.specs.declared.state.Sequence.{Sequence}
use Rattle.m2v_model.specs.declared.state.Open.{Open}
use Rattle.m2v_model.specs.declared.state.State.{State}
use Rattle.m2v_model.specs.Units.{Units, unit_bits}
use Rattle.m2v_model.specs.States.{picture_rows, with_unread_slice, after_unread_slice}
use Rattle.m2v_model.specs.Streams.{Part, value_of, unread_slice, over, after}
use Rattle.m2v_model.specs.ByPieces.{unit_read}
use Rattle.m2v_model.specs.HeadersOnly.{FrontRead, faulty, final_unit, more}
use Rattle.m2v_dec_piece.specs.declared.answer.Piece.{Piece}
use Rattle.m2v_dec_piece.specs.Sound.{IsSoundPiece}
use Rattle.m2v_dec_unit.specs.declared.header.Header.{Header}
use Rattle.m2v_dec_unit.specs.declared.header.Header.TheVariants as headers
use Rattle.m2v_dec_unit.specs.Among.{goes_on, part_of}
use Rattle.m2v_dec_rows.specs.declared.opened.SliceUnit.{SliceUnit}
use Rattle.m2v_dec_rows.specs.Rows.{Unread, Slices}
use Rattle.m2v_dec_rows.specs.Opened.{StandsIn, unread, whole_of}
use Rattle.m2v_dec_rows.specs.declared.skim.Skim.{Skim}
use Rattle.m2v_dec_rows.specs.Headers.{stopped_from, with_part, slices_by, end_of}
use Rattle.m2v_dec_rows.specs.Skims.{IsSoundState, IsSoundSkim, StandInRows, EndsWith, Entered, PassedOver, Passed, ReadsFront, fault_of, kept_behind, so_far, unit_of}
use Rattle.m2v_dec_rows.proofs.StateLaws.{sound_unread}
use Rattle.m2v_dec_rows.proofs.Standing.{placed}

-- ---- a header

none_stand : (q : Option Sequence) (o : Option Open) → StandInRows q o []
none_stand q None = tt
none_stand (Some s) (Some p) = All-nil _
none_stand None (Some p) = tt

stands_kept : (p : Piece) (h : Header) (us : List SliceUnit) → All (StandsIn p) us → All (StandsIn p) (kept_behind h us)
stands_kept p (headers.Sequence s) us a = a
stands_kept p (headers.Group g) us a = a
stands_kept p (headers.Picture info extension) us a = All-nil (StandsIn p)
stands_kept p (headers.Matrices m) us a = a
stands_kept p headers.Skipped us a = a
stands_kept p headers.Ending us a = a

rows_kept : (st : State) (h : Header) (u : List ℕ) (us : List SliceUnit) → StandInRows st.sequence st.picture us → StandInRows (after st (part_of u h)).sequence (after st (part_of u h)).picture (kept_behind h us)
unfolding after
rows_kept st (headers.Sequence s) u us a = tt
rows_kept st (headers.Group g) u us a = tt
rows_kept st (headers.Picture info extension) u us a = none_stand st.sequence (after st (part_of u (headers.Picture info extension))).picture
rows_kept st (headers.Matrices m) u us a = a
rows_kept st headers.Skipped u us a = a
rows_kept st headers.Ending u us a = tt

-- behind a header others follow, and the slices are those that it keeps
header_passes : (p : Piece) (st : State) (h : Header) (u : List ℕ) (us : List SliceUnit) (rest : Units) → goes_on h ≡ true
    → ((ps : List Part) → stopped_from st (part_of u h ∷ ps) ≡ stopped_from (after st (part_of u h)) ps) × (map (unread p) (kept_behind h us) ≡ with_part (end_of p) (map (unread p) us) (part_of u h) rest)
unfolding stopped_from with_part
header_passes p st (headers.Sequence s) u us rest on = (λ ps. refl, refl)
header_passes p st (headers.Group g) u us rest on = (λ ps. refl, refl)
header_passes p st (headers.Picture info extension) u us rest on = (λ ps. refl, refl)
header_passes p st (headers.Matrices m) u us rest on = (λ ps. refl, refl)
header_passes p st headers.Skipped u us rest on = (λ ps. refl, refl)
header_passes p st headers.Ending u us rest on = absurd cc

pub passed_header : (p : Piece) (old new : Skim) (h : Header) (u : List ℕ) (rest : Units) → IsSoundSkim p old → goes_on h ≡ true → Entered old h u new → Passed p old (part_of u h) rest new
passed_header p old new h u rest sound on e = record {
  state = e.state;
  onward = (header_passes p old.state h u old.slices.items rest on).0;
  slices = ap (map (unread p)) e.slices ∙ (header_passes p old.state h u old.slices.items rest on).1;
  sound = record {
    state = e.sound;
    slices = subst (All (StandsIn p)) (sym e.slices) (stands_kept p h old.slices.items sound.slices);
    in_rows =
        subst (λ (z : State). StandInRows z.sequence z.picture new.slices.items) (sym e.state)
        (subst (StandInRows (after old.state (part_of u h)).sequence (after old.state (part_of u h)).picture) (sym e.slices) (rows_kept old.state h u old.slices.items sound.in_rows));
  };
}

-- where nothing follows, the picture stays open
pub header_stops : (st : State) (h : Header) (u : List ℕ) → goes_on h ≡ false → stopped_from st (part_of u h ∷ []) ≡ st
unfolding stopped_from
header_stops st (headers.Sequence s) u off = absurd cc
header_stops st (headers.Group g) u off = absurd cc
header_stops st (headers.Picture info extension) u off = absurd cc
header_stops st (headers.Matrices m) u off = absurd cc
header_stops st headers.Skipped u off = absurd cc
header_stops st headers.Ending u off = refl

pub over_stops : (st : State) → stopped_from st (over ∷ []) ≡ st
unfolding stopped_from
over_stops st = refl

-- ---- a slice

slice_onward : (st : State) (row : ℕ) (u : List ℕ) (ps : List Part) → stopped_from st (unread_slice row u ∷ ps) ≡ stopped_from (after st (unread_slice row u)) ps
unfolding stopped_from
slice_onward st row u ps = refl

one_slice : (end row : ℕ) (now : Slices) (u : List ℕ) (rest : Units) → now ++ record { row = row; unit = u; end = end - unit_bits rest / 8 } ∷ [] ≡ with_part end now (unread_slice row u) rest
unfolding with_part
one_slice end row now u rest = refl

slice_after : (st : State) (row : ℕ) (u : List ℕ) → after_unread_slice st row ≡ after st (unread_slice row u)
unfolding after
slice_after st row u = refl

row_stands : (q : Option Sequence) (o : Option Open) (s : Sequence) (b : Open) (row : ℕ) (us : List SliceUnit) (x : SliceUnit) → q ≡ Some s → o ≡ Some b → x.row < picture_rows s b → StandInRows q o us → StandInRows q (with_unread_slice o row) (us ++ x ∷ [])
row_stands (Some t) (Some c) s b row us x known is below h =
    let same : picture_rows s b ≡ picture_rows t c = λ i. picture_rows (sym (some_is t s known) i) (sym (some_is c b is) i) in
    All-push (λ (u : SliceUnit). u.row < picture_rows t c) us x h (subst (λ (n : ℕ). x.row < n) same below)
  where
    some_is : {A : Type 0} (a b : A) → Some a ≡ Some b → a ≡ b
    some_is a b e = cc
row_stands None o s b row us x known is below h = absurd cc
row_stands (Some t) None s b row us x known is below h = absurd cc

pub passed_slice : (p : Piece) (old new : Skim) (s : Sequence) (b : Open) (row start : ℕ) (u : List ℕ) (rest : Units) → IsSoundPiece p → IsSoundSkim p old → old.state.sequence ≡ Some s → old.state.picture ≡ Some b → row < picture_rows s b
    → EndsWith (whole_of p) (u ∷ rest) → start ≡ unit_bits (u ∷ rest) → 1 ≤ value_of u → 4 ≤ length u → PassedOver p old row start u new → Passed p old (unread_slice row u) rest new
passed_slice p old new s b row start u rest piece sound known is below ends e value long h =
    let x = unit_of p row start u in
    let at = placed p row start u rest piece ends e value long in
    record {
      state = h.state ∙ slice_after old.state row u;
      onward = λ ps. slice_onward old.state row u ps;
      slices =
          ap (map (unread p)) h.slices
          ∙ map-append (unread p) old.slices.items (x ∷ [])
          ∙ ap (λ (v : Unread). so_far p old ++ v ∷ []) at.is
          ∙ one_slice (end_of p) row (so_far p old) u rest;
      sound = record {
        state = subst IsSoundState (sym h.state) (sound_unread old.state row sound.state);
        slices = subst (All (StandsIn p)) (sym h.slices) (All-push (StandsIn p) old.slices.items x sound.slices at.stands);
        in_rows =
            subst (λ (z : State). StandInRows z.sequence z.picture new.slices.items) (sym h.state)
            (subst (StandInRows old.state.sequence (with_unread_slice old.state.picture row)) (sym h.slices) (row_stands old.state.sequence old.state.picture s b row old.slices.items x known is below sound.in_rows));
      };
    }

-- ---- unit after unit

-- units were read from a state on, behind slices, up to a fault: the state and the slices where they end
pub record From (end : ℕ) (st : State) (us : Units) (now : Slices) (f : Option (FaultKind × ℕ)) (last : State) (all : Slices) : Type 0 where
  pub parts : List Part
  pub read : FrontRead st us parts f
  pub state : stopped_from st parts ≡ last
  pub slices : slices_by end now read ≡ all

-- some units were read: whatever is read of the others is so from the start
pub record Behind (p : Piece) (old : Skim) (us : Units) (c : Skim) (mid : Units) : Type 0 where
  pub on : (ps : List Part) (f : Option (FaultKind × ℕ)) (r : FrontRead c.state mid ps f) → From (end_of p) old.state us (so_far p old) f (stopped_from c.state ps) (slices_by (end_of p) (so_far p c) r)

pub behind_none : (p : Piece) (c : Skim) (us : Units) → Behind p c us c us
behind_none p c us = record { on = λ ps f r. record { parts = ps; read = r; state = refl; slices = refl } }

-- one unit more
one_more : (end : ℕ) (st z : State) (us mid : Units) (x : Part) (now : Slices) (all : Slices) (ps : List Part) (f : Option (FaultKind × ℕ)) → z ≡ after st x → all ≡ with_part end now x mid → (read : unit_read st us ≡ Ok ((true, x), mid)) → ((qs : List Part) → stopped_from st (x ∷ qs) ≡ stopped_from (after st x) qs)
    → (r : FrontRead z mid ps f) → From end st us now f (stopped_from z ps) (slices_by end all r)
unfolding slices_by
one_more end st z us mid x now all ps f state slices read onward =
    subst (λ (y : State). (r : FrontRead y mid ps f) → From end st us now f (stopped_from y ps) (slices_by end all r)) (sym state)
    (subst (λ (l : Slices). (r : FrontRead (after st x) mid ps f) → From end st us now f (stopped_from (after st x) ps) (slices_by end l r)) (sym slices)
    (λ r. record { parts = x ∷ ps; read = more read r; state = onward ps; slices = refl }))

from_on : (end : ℕ) (st z : State) (us mid : Units) (now all : Slices) (f : Option (FaultKind × ℕ)) (last : State) (every : Slices)
    → ((ps : List Part) (r : FrontRead z mid ps f) → From end st us now f (stopped_from z ps) (slices_by end all r)) → From end z mid all f last every → From end st us now f last every
from_on end st z us mid now all f last every so h =
    let b = so h.parts h.read in
    record { parts = b.parts; read = b.read; state = b.state ∙ h.state; slices = b.slices ∙ h.slices }

pub behind_more : (p : Piece) (old c d : Skim) (us mid next : Units) (x : Part) → Behind p old us c mid → unit_read c.state mid ≡ Ok ((true, x), next) → Passed p c x next d → Behind p old us d next
behind_more p old c d us mid next x so read step = record {
  on = λ ps f r.
      from_on (end_of p) old.state c.state us mid (so_far p old) (so_far p c) f (stopped_from d.state ps) (slices_by (end_of p) (so_far p d) r) (λ qs s. so.on qs f s)
      (one_more (end_of p) c.state d.state mid next x (so_far p c) (so_far p d) ps f step.state step.slices read step.onward r);
}

-- where units end
reads : (p : Piece) (old c : Skim) (us : Units) (fault : Option Stop) → IsSoundSkim p c → From (end_of p) old.state us (so_far p old) (fault_of fault) c.state (so_far p c) → ReadsFront p old us fault c
reads p old c us fault sound h = record { parts = h.parts; read = h.read; state = sym h.state; slices = sym h.slices; sound = sound }

at_last : (end : ℕ) (st : State) (us rest : Units) (x : Part) (now : Slices) → unit_read st us ≡ Ok ((false, x), rest) → stopped_from st (x ∷ []) ≡ st → From end st us now None st now
unfolding slices_by
at_last end st us rest x now read stops = record { parts = x ∷ []; read = final_unit read; state = stops; slices = refl }

at_fault : (end : ℕ) (st : State) (us : Units) (f : FaultKind × ℕ) (now : Slices) → unit_read st us ≡ Err f → From end st us now (Some f) st now
unfolding slices_by stopped_from
at_fault end st us f now read = record { parts = []; read = faulty read; state = refl; slices = refl }

pub reads_last : (p : Piece) (old c d : Skim) (us mid rest : Units) (x : Part) → Behind p old us c mid → IsSoundSkim p c → unit_read c.state mid ≡ Ok ((false, x), rest) → stopped_from c.state (x ∷ []) ≡ c.state → d ≡ c → ReadsFront p old us None d
reads_last p old c d us mid rest x so sound read stops same =
    subst (ReadsFront p old us None) (sym same)
    (reads p old c us None sound
    (from_on (end_of p) old.state c.state us mid (so_far p old) (so_far p c) None c.state (so_far p c) (λ qs s. so.on qs None s) (at_last (end_of p) c.state mid rest x (so_far p c) read stops)))

pub reads_fault : (p : Piece) (old c d : Skim) (us mid : Units) (stop : Stop) → Behind p old us c mid → IsSoundSkim p c → unit_read c.state mid ≡ Err (stop.kind, stop.left) → d ≡ c → ReadsFront p old us (Some stop) d
reads_fault p old c d us mid stop so sound read same =
    let f : FaultKind × ℕ = (stop.kind, stop.left) in
    subst (ReadsFront p old us (Some stop)) (sym same)
    (reads p old c us (Some stop) sound
    (from_on (end_of p) old.state c.state us mid (so_far p old) (so_far p c) (Some f) c.state (so_far p c) (λ qs s. so.on qs (Some f) s) (at_fault (end_of p) c.state mid f (so_far p c) read)))

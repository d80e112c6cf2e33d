-- What reading the headers of a piece answers, by what was read.
use Rattle.std.proofs.Common.{◌≡◌, ℕ, true, List, [], map, Option, Some, None, Ok, Err, refl, sym, ap, subst, ◌∙◌}
use Rattle.m2v_model.specs.declared.fault.FaultKind.{FaultKind}
use Rattle.m2v_model.specs.declared.stop.Stop.{Stop}
use Rattle.m2v_model.specs.declared.state.State.{State}
use Rattle.m2v_model.specs.Units.{Units, cut}
use Rattle.m2v_model.specs.States.{slice_setup, after_end}
use Rattle.m2v_model.specs.Decoding.{low_delay_of}
use Rattle.m2v_dec_piece.specs.declared.answer.Piece.{Piece}
use Rattle.m2v_dec_piece.specs.declared.answer.Fault.{Fault}
use Rattle.m2v_dec_piece.specs.declared.answer.DecodeError.TheVariants as errors
use Rattle.m2v_dec_rows.specs.declared.opened.Opened.{Opened}
use Rattle.m2v_dec_rows.specs.declared.opened.SliceUnit.{SliceUnit}
use Rattle.m2v_dec_rows.specs.Opened.{unread, whole_of}
use Rattle.m2v_dec_rows.specs.Reads.{as_placed}
use Rattle.m2v_dec_rows.specs.declared.skim.Skim.{Skim}
use Rattle.m2v_dec_rows.specs.Headers.{stopped, slices_by, fault_at, end_of, TellsHeaders}
use Rattle.m2v_dec_rows.specs.Skims.{ReadsFront, Skimmed, OpensSome, fault_of}

-- ---- a piece was read

pub skimmed : (st : State) (p : Piece) (old c : Skim) (us : Units) (stop : Option Stop) (fault : Option Fault) → old ≡ record { state = record st { headers_only = true }; slices = old.slices } → old.slices.items ≡ [] → us ≡ (cut 0 (whole_of p)).1
    → ReadsFront p old us stop c → as_placed fault ≡ fault_at (end_of p) (fault_of stop) → Skimmed st p c fault
skimmed st p old c us stop fault begins empty is r told =
    let first : Skim = record { state = record st { headers_only = true }; slices = old.slices } in
    let read : ReadsFront p first (cut 0 (whole_of p)).1 stop c = subst (λ (vs : Units). ReadsFront p first vs stop c) is (subst (λ (o : Skim). ReadsFront p o us stop c) begins r) in
    record {
      front = record { parts = read.parts; fault = fault_of stop; read = read.read };
      state = read.state;
      slices = read.slices ∙ ap (λ (l : List SliceUnit). slices_by (end_of p) (map (unread p) l) read.read) empty;
      fault_is = told;
      sound = read.sound;
    }

-- ---- what is told

fault_none : (end : ℕ) (f : Option (FaultKind × ℕ)) → None ≡ fault_at end f → f ≡ None
fault_none end None e = refl
fault_none end (Some f) e = absurd cc

same_end : (st : State) → st.picture ≡ None → after_end st ≡ st
same_end st e = λ i. record st { picture = sym e i }

pub tells_open : (st : State) (p : Piece) (c : Skim) (fault : Option Fault) (o : Opened) (now : State) → Skimmed st p c fault → OpensSome p c fault o → now ≡ after_end c.state → TellsHeaders st p (Ok (Some o)) now
tells_open st p c fault o now s x is =
    let f = s.front in
    let z : State = stopped f in
    let told = x.told in (
      f,
      record {
        sequence = x.sequence;
        picture = x.picture;
        in_force = sym (ap (λ (y : State). y.sequence) s.state) ∙ x.in_force;
        is_open = sym (ap (λ (y : State). y.picture) s.state) ∙ x.is_open;
        note = told.note;
        setup = told.setup ∙ ap (λ (y : State). slice_setup y x.sequence x.picture) s.state;
        rows = told.rows;
        low_delay = told.low_delay ∙ ap (λ (y : State). low_delay_of y.first) s.state;
        slices_are = ap (λ v. map (unread p) v.items) told.slices ∙ s.slices;
        fault_is = ap as_placed told.fault_is ∙ s.fault_is;
      },
      is ∙ ap after_end s.state,
    )

pub tells_none : (st : State) (p : Piece) (c : Skim) (fault : Option Fault) (now : State) → Skimmed st p c fault → c.state.picture ≡ None → fault ≡ None → now ≡ after_end c.state → TellsHeaders st p (Ok None) now
tells_none st p c fault now s none whole is = (
  s.front,
  fault_none (end_of p) s.front.fault (sym (ap as_placed whole) ∙ s.fault_is),
  sym (ap (λ (y : State). y.picture) s.state) ∙ none,
  is ∙ same_end c.state none ∙ s.state,
)

pub tells_fault : (st : State) (p : Piece) (c : Skim) (fault : Option Fault) (x : Fault) (now : State) → Skimmed st p c fault → c.state.picture ≡ None → fault ≡ Some x → TellsHeaders st p (Err (errors.Stream x)) now
tells_fault st p c fault x now s none broken = (
  s.front,
  sym s.fault_is ∙ ap as_placed broken,
  sym (ap (λ (y : State). y.picture) s.state) ∙ none,
)

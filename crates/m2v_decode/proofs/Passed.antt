-- Unit after unit, of which nothing is painted: what stands after one more, whatever frames are at hand, and where reading
-- stops.
use Rattle.std.proofs.Common.{◌≡◌, ℕ, ◌+◌, ◌≤◌, Bool, true, false, [], ◌++◌, length, Option, Some, None, Ok, Err, refl, sym, ap, subst, ◌∙◌, arith}
use Rattle.m2v_model.specs.declared.state.Sequence.{Sequence}
use Rattle.m2v_model.specs.declared.state.Open.{Open}
use Rattle.m2v_model.specs.declared.state.State.{State}
use Rattle.m2v_model.specs.Units.{Units}
use Rattle.m2v_model.specs.Streams.{Part, after, sequence, group, picture, matrices, slice, unread_slice, skipped_unit, ending, over}
use Rattle.m2v_model.specs.Pictures.{Store, Events, pictures_in, no_references, picture_ended, sliced, told_by, store_after}
use Rattle.m2v_model.specs.ByPieces.{Between, behind, unit_read, units_read, after_part}
use Rattle.m2v_model.specs.States.{with_slice, with_unread_slice}
use Rattle.m2v_model.proofs.FlowLaws.{read_err, unit_less}
use Rattle.m2v_model.proofs.SplitLaws.{behind_none}
use Rattle.m2v_model.proofs.EventLaws.{pictures_in-append}
use Rattle.m2v_dec_rows.specs.Headers.{HaveOneSize}
use Rattle.m2v_decode.specs.declared.pass.Pass.{Pass}
use Rattle.m2v_decode.specs.declared.halt.Halt.{Halt}
use Rattle.m2v_decode.specs.declared.halt.Halt.TheVariants as halts
use Rattle.m2v_decode.specs.Decoding.{Agrees}
use Rattle.m2v_decode.specs.Passing.{StandsOpen, IsSoundPass, Passes, Rounds, Rests, ToldWith, ReadsWith, ReadsAll, PassStops}
use Rattle.m2v_decode.proofs.FrameLaws.{moves}
use Rattle.m2v_decode.proofs.PassLaws.{tells_none, tells_on}
use Rattle.m2v_decode.proofs.ReadLaws.{agrees_before, none_told, more_read, last_read, few_told}

abbrev at : State → Store → Between
at st store = record { state = st; store = store }

-- ---- one part

-- no picture is open before the first sequence header
none_before : (first s : Option Sequence) (o : Option Open) → HaveOneSize first s → StandsOpen o s → first ≡ None → o ≡ None
none_before first s None h fits e = refl
none_before (Some first) s (Some p) h fits e = absurd cc
none_before None None (Some p) h fits e = absurd fits
none_before None (Some s) (Some p) h fits e = absurd h

ended_rests : (o : Option Open) (store : Store) → (o ≡ None → store.references ≡ no_references) → (picture_ended o store).references ≡ no_references
ended_rests None store h = h refl
ended_rests (Some p) store h = refl

still_none : (o : Option Open) (row covered large : ℕ) → with_slice o row covered large ≡ None → o ≡ None
still_none None row covered large e = refl
still_none (Some p) row covered large e = let some = sym (moves p row covered large).is ∙ e in absurd cc

still_unread : (o : Option Open) (row : ℕ) → with_unread_slice o row ≡ None → o ≡ None
still_unread None row e = refl
still_unread (Some p) row e = absurd cc

sliced_same : (st : State) (s : Option Sequence) (o : Option Open) (row : ℕ) (x : _) (store : Store) → (sliced st s o row x store).references ≡ store.references
sliced_same st (Some s) (Some p) row x store = refl
sliced_same st (Some s) None row x store = refl
sliced_same st None o row x store = refl

-- where no picture is open behind a part, none is predicted from
rests_on : (st : State) (store : Store) (p : Part) → Rests st store → Rests (after st p) (store_after st store p)
unfolding after
rests_on st store (sequence s) h e = ended_rests st.picture store h
rests_on st store (group g) h e = ended_rests st.picture store h
rests_on st store (picture info extension) h e = absurd cc
rests_on st store (matrices m) h e = h e
rests_on st store (slice row x) h e = sliced_same st st.sequence st.picture row x store ∙ h (still_none st.picture row _ _ e)
rests_on st store (unread_slice row u) h e = h (still_unread st.picture row e)
rests_on st store (skipped_unit u) h e = h e
rests_on st store ending h e = ended_rests st.picture store h
rests_on st store over h e = ended_rests st.picture store h

-- ---- unit after unit

-- some units were read, with these frames at hand
pub record SoFarWith (store : Store) (old : Pass) (us : Units) (new : Pass) (mid : Units) : Type 0 where
  pub events : Events
  pub behind_them : Store
  pub read : units_read (record { state = old.state; store = store }) us ≡ behind events (units_read (record { state = new.state; store = behind_them }) mid)
  pub told : ToldWith store old events behind_them new
  pub open told use *
  pub few : length (pictures_in events) + length mid ≤ length us

pub record SoFar (old : Pass) (us : Units) (new : Pass) (mid : Units) : Type 0 where
  pub first : (low : Bool) → Agrees low new.state.first → Agrees low old.state.first
  pub with_frames : (store : Store) → SoFarWith store old us new mid

pub so_far_none : (c : Pass) (us : Units) → SoFar c us c us
so_far_none c us = record {
  first = λ low a. a;
  with_frames = λ store. record {
    events = [];
    behind_them = store;
    read = sym (behind_none (units_read (at c.state store) us));
    told = record { tells = tells_none c c refl refl refl refl refl; none = λ e. refl; rests = λ h. h };
    few = omega arith;
  };
}

agrees_step : (low : Bool) (c d : Pass) (p : Part) → Passes c p d → Agrees low d.state.first → Agrees low c.state.first
agrees_step low c d p step agree = agrees_before low c.state p (subst (λ (z : State). Agrees low z.first) step.state agree)

-- what stands behind a part
step_between : (c d : Pass) (store : Store) (p : Part) → Passes c p d → after_part (at c.state store) p ≡ at d.state (store_after c.state store p)
step_between c d store p step = ap (λ (z : State). at z (store_after c.state store p)) (sym step.state)

first_none : (c : State) (p : Part) → (after c p).first ≡ None → c.first ≡ None
first_none c p e = first_kept c.first (agrees_before true c p) (agrees_before false c p) (subst (Agrees true) (sym e) tt) (subst (Agrees false) (sym e) tt)
  where
    first_kept : (first : Option Sequence) → (Agrees true (after c p).first → Agrees true first) → (Agrees false (after c p).first → Agrees false first) → Agrees true (after c p).first → Agrees false (after c p).first → first ≡ None
    first_kept None a b x y = refl
    first_kept (Some s) a b x y = let both : true ≡ false = a x ∙ sym (b y) in absurd cc

-- what is told of the units before, and of the last one
stepped : (store : Store) (old c d : Pass) (us mid : Units) (p : Part) → (so : SoFarWith store old us c mid) → IsSoundPass c → Passes c p d → ToldWith store old (so.events ++ told_by c.state so.behind_them p) (store_after c.state so.behind_them p) d
stepped store old c d us mid p so sound step =
    let now = told_by c.state so.behind_them p in
    record {
      tells = tells_on old c d so.events now so.tells (step.tells so.behind_them);
      none = λ e.
          let first : c.state.first ≡ None = first_none c.state p (sym (ap (λ (z : State). z.first) step.state) ∙ e) in
          let held = sound.state in
          let shut = none_before c.state.first c.state.sequence c.state.picture held.size held.fits first in
          pictures_in-append so.events now ∙ (λ i. so.none first i ++ none_told c.state so.behind_them p shut i);
      rests = λ h. subst (λ (z : State). Rests z (store_after c.state so.behind_them p)) (sym step.state) (rests_on c.state so.behind_them p (so.rests h));
    }

more_with : (store : Store) (old c d : Pass) (us mid next : Units) (more : Bool) (p : Part) → SoFarWith store old us c mid → IsSoundPass c → unit_read c.state mid ≡ Ok ((more, p), next) → more ≡ true → Passes c p d → SoFarWith store old us d next
more_with store old c d us mid next more p so sound read on step = record {
  events = so.events ++ told_by c.state so.behind_them p;
  behind_them = store_after c.state so.behind_them p;
  read = more_read (at old.state store) (at c.state so.behind_them) (at d.state (store_after c.state so.behind_them p)) us mid next so.events more p so.read read on (step_between c d so.behind_them p step);
  told = stepped store old c d us mid p so sound step;
  few = omega (arith, few_told c.state so.behind_them p so.events mid us so.few, unit_less c.state mid next more p read on);
}

last_with : (store : Store) (old c d : Pass) (us mid next : Units) (more : Bool) (p : Part) → SoFarWith store old us c mid → IsSoundPass c → unit_read c.state mid ≡ Ok ((more, p), next) → more ≡ false → Passes c p d → ReadsWith store old us d
last_with store old c d us mid next more p so sound read off step = record {
  events = so.events ++ told_by c.state so.behind_them p;
  behind = store_after c.state so.behind_them p;
  read = last_read (at old.state store) (at c.state so.behind_them) (at d.state (store_after c.state so.behind_them p)) us mid next so.events more p so.read read off (step_between c d so.behind_them p step);
  told = stepped store old c d us mid p so sound step;
  few = omega (arith, few_told c.state so.behind_them p so.events mid us so.few);
}

pub so_far_more : (old c d : Pass) (us mid next : Units) (more : Bool) (p : Part) → SoFar old us c mid → IsSoundPass c → unit_read c.state mid ≡ Ok ((more, p), next) → more ≡ true → Passes c p d → SoFar old us d next
so_far_more old c d us mid next more p so sound read on step = record {
  first = λ low agree. so.first low (agrees_step low c d p step agree);
  with_frames = λ store. more_with store old c d us mid next more p (so.with_frames store) sound read on step;
}

pub all_read : (old c d : Pass) (us mid next : Units) (more : Bool) (p : Part) → SoFar old us c mid → IsSoundPass c → unit_read c.state mid ≡ Ok ((more, p), next) → more ≡ false → Passes c p d → d.state.picture ≡ None → ReadsAll old us d
all_read old c d us mid next more p so sound read off step none = record {
  first = λ low agree. so.first low (agrees_step low c d p step agree);
  with_frames = λ store. last_with store old c d us mid next more p (so.with_frames store) sound read off step;
  closed_now = none;
  sound = step.sound;
}

pub stopped : (old c d : Pass) (us mid next : Units) (h : Halt) → SoFar old us c mid → Rounds c (Err h) d next (unit_read c.state mid) → PassStops old us h
stopped old c d us mid next halts.Memory so r = tt
stopped old c d us mid next (halts.Fault stop) so r = λ store.
    let one_so = so.with_frames store in
    one_so.read ∙ ap (behind one_so.events) (read_err (at c.state one_so.behind_them) mid (stop.kind, stop.left) r)

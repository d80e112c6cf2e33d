-- A cut is read without a fault, and its pictures are those of the whole, but for those that are left out.
use Rattle.std.proofs.Common.{◌≡◌, ℕ, ◌≤◌, Bool, true, false, List, [], ◌∷◌, ◌++◌, length, Option, Some, None, refl, sym, ap, subst, ◌∙◌, append_assoc}
use Rattle.std.specs.Prelude.{is_some}
use Rattle.std.proofs.lemmas.Bool.{eqb-true}
use Rattle.m2v_bits.specs.Syntax.{Rounds, seq, done, rule, repeated}
use Rattle.m2v_bits.proofs.SyntaxLaws.{good}
use Rattle.m2v_model.specs.m2v_macroblock.m2v_head.declared.group.GroupInfo.{GroupInfo}
use Rattle.m2v_model.specs.declared.state.Sequence.{Sequence}
use Rattle.m2v_model.specs.declared.state.Open.{Open}
use Rattle.m2v_model.specs.declared.state.FirstField.{FirstField}
use Rattle.m2v_model.specs.declared.state.State.{State}
use Rattle.m2v_model.specs.Units.{Units}
use Rattle.m2v_model.specs.States.{at_first, is_complete, is_same_sequence, none_waits}
use Rattle.m2v_model.specs.Streams.{Part, Sofar, sequence, group, ending, after, value_of, unit_round, units_from, stream_from, stream_at}
use Rattle.m2v_model.specs.Pictures.{Store, Pictures, Events, group_header, no_frames, pictures_in, closed, picture_ended, store_after, events_from, store_from}
use Rattle.m2v_model.specs.Pieces.{begins_piece}
use Rattle.m2v_model.specs.ByPieces.{unit_read}
use Rattle.m2v_model.proofs.EventLaws.{pictures_in-append}
use Rattle.m2v_model.proofs.SplitLaws.{IsKnown, known_after}
use Rattle.m2v_law_group.specs.Groups.{is_sequence, is_group, has_picture, end_code}
use Rattle.m2v_law_group.proofs.Shows.{AreBeside}
use Rattle.m2v_law_group.proofs.Alike.{closes}
use Rattle.m2v_law_group.proofs.Held.{closed_beside}
use Rattle.m2v_law_group.proofs.Steps.{AreBoth, group_both}
use Rattle.m2v_law_group.proofs.Runs.{Run, stop, step, AllFit, runs_both, run_before, run_then, rounds_by, last_round}
use Rattle.m2v_law_group.proofs.Leads.{LeadUnits, Leads, leads_of, no_pictures}
use Rattle.m2v_law_group.proofs.Told.{events_then}
use Rattle.m2v_law_group.proofs.Tens.{TenHolds, all_fit, none_fit, quiet, first_kept, run_known}
use Rattle.m2v_law_group.proofs.Start.{sequence_start, start_both, header_by, info_by, header_value, group_start, end_read}

-- ---- first units

-- the first unit of a run, and those behind it
pub record FirstRead (st : State) (u : List ℕ) (us : Units) (ps : List Part) (z : State) (rest : Units) : Type 0 where
  pub p : Part
  pub later : List Part
  pub mid : Units
  pub parts : ps ≡ p ∷ later
  pub read : unit_read st (u ∷ us) ≡ good ((true, p), mid)
  pub run : Run (after st p) mid later z rest

some_left : (u : List ℕ) (us : Units) → u ∷ us ≡ [] → ⊥
some_left u us e = absurd cc

first_by : {st z : State} {t rest : Units} {ps : List Part} → Run st t ps z rest → (u : List ℕ) (us : Units) → t ≡ u ∷ us → rest ≡ [] → FirstRead st u us ps z rest
first_by {rest = rest} stop u us e none = absurd (some_left u us (sym e ∙ none))
first_by {st} (step {mid = mid} {p = p} {ps = ps} r later) u us e none = record { p = p; later = ps; mid = mid; parts = refl; read = subst (λ (l : Units). unit_read st l ≡ good ((true, p), mid)) e r; run = later }

pub first_read : (st z : State) (u : List ℕ) (us : Units) (ps : List Part) → Run st (u ∷ us) ps z [] → FirstRead st u us ps z []
first_read st z u us ps r = first_by r u us refl refl

-- ---- the cut

-- the stream of a cut, from the units that were copied
pub record IsCut (changed : Bool) (units : Units) (s : Sequence) (shown : Pictures) : Type 0 where
  pub tree : Sofar
  pub stands : stream_at.Stands tree (units ++ end_code ∷ []) []
  pub first : tree.state.first ≡ Some s
  pub beside : AreBeside changed 0 shown (pictures_in (events_from at_first no_frames tree.parts))

pub stream_by : (tree : Sofar) (us rest : Units) → Rounds unit_round (record { state = at_first; parts = [] }) tree us rest → none_waits tree.state.waiting ≡ true → stream_at.Stands tree us rest
unfolding stream_at stream_from units_from repeated seq rule done
stream_by tree us rest h none = (tree, rest, h, (tt, rest, (none, refl), (refl, refl)))

waits_none : (o : Option FirstField) → o ≡ None → is_some o ≡ false
waits_none o e = ap (λ (x : Option FirstField). is_some x) e

ten_none : (o : Option FirstField) → o ≡ None → none_waits o ≡ true
ten_none o e = ap none_waits e

closed_none : (o : Option Open) (store : Store) (es : Events) → o ≡ None → closed o store ++ es ≡ es
closed_none o store es e = ap (λ (x : Option Open). closed x store ++ es) e

begins_group : (u : List ℕ) → value_of u ≡ 0xB8 → begins_piece (value_of u) ≡ true
unfolding begins_piece
begins_group u e = rw e refl

begins_code : begins_piece (value_of end_code) ≡ true
unfolding begins_piece
begins_code = refl

-- the frames at hand behind the chosen group's header
abbrev pub store_at : State → Store → Sequence → List Part → State → GroupInfo → Store
store_at a sa s pre b g = store_after b (store_from (after a (sequence s)) (picture_ended a.picture sa) pre) (group g)

-- the pictures of the chosen groups in the whole
abbrev pub chosen_pictures : State → Store → List Part → State → Pictures
chosen_pictures w sw ps z = pictures_in (events_from w sw ps) ++ (pictures_in (closed z.picture (store_from w sw ps)) ++ [])

-- what was read of a sequence header and of units without a picture behind it
pub record SequenceRun (a : State) (h : List ℕ) (pm : Units) (s : Sequence) (pre : List Part) (b : State) : Type 0 where
  pub mid : Units
  pub h_read : unit_read a (h ∷ pm) ≡ good ((true, sequence s), mid)
  pub pre_run : Run (after a (sequence s)) mid pre b []
  pub none : has_picture mid ≡ false

-- what was read of a group header and of units behind it
pub record GroupRun (b : State) (g : List ℕ) (later : Units) (gi : GroupInfo) (ps : List Part) (z : State) : Type 0 where
  pub g_read : unit_read b (g ∷ later) ≡ good ((true, group gi), later)
  pub run : Run (after b (group gi)) later ps z []

-- which units these are
pub record AreHeads (h g : List ℕ) (later : Units) : Type 0 where
  pub h_is : is_sequence h ≡ true
  pub g_is : is_group g ≡ true
  pub long : 8 ≤ length g
  pub lead : LeadUnits false later

-- what was read of the whole: a sequence header, units without a picture, a group header, and units up to where others
-- begin a piece
pub record Whole (changed : Bool) (a : State) (sa : Store) (h : List ℕ) (pm : Units) (g : List ℕ) (later : Units) (s : Sequence) (pre : List Part) (b : State) (gi : GroupInfo) (ps : List Part) (z : State) : Type 0 where
  pub sequence_run : SequenceRun a h pm s pre b
  pub open sequence_run use *
  pub group_run : GroupRun b g later gi ps z
  pub open group_run use *
  pub heads : AreHeads h g later
  pub open heads use *
  pub headers : a.headers_only ≡ false
  pub anchors : changed ≡ false → a.anchors ≡ 0
  pub frames : changed ≡ false → picture_ended a.picture sa ≡ no_frames
  pub ten : TenHolds true ps
  pub complete : is_complete z.sequence z.picture ≡ true
  pub paired : none_waits z.waiting ≡ true

info_open : (changed : Bool) (g : GroupInfo) → changed ≡ true → (info_by changed g).closed_gop ≡ false
info_open true g e = refl
info_open false g e = absurd cc

info_kept : (changed : Bool) (g : GroupInfo) → changed ≡ false → g.closed_gop ≡ (info_by changed g).closed_gop
info_kept true g e = absurd cc
info_kept false g e = refl

-- the cut up to its group's header
record UpToGroup (changed : Bool) (a : State) (sa : Store) (h : List ℕ) (pm : Units) (g : List ℕ) (later : Units) (s : Sequence) (pre : List Part) (b : State) (gi : GroupInfo) : Type 0 where
  parts : List Part
  state : State
  run : Run at_first (h ∷ pm) parts state []
  known : IsKnown state
  picture : state.picture ≡ None
  waiting : state.waiting ≡ None
  anchors : state.anchors ≡ 0
  first : state.first ≡ Some s
  told : pictures_in (events_from at_first no_frames parts) ≡ []
  group_read : unit_read state (header_by changed g ∷ later) ≡ good ((true, group (info_by changed gi)), later)
  both : AreBoth true changed true state.anchors (after b (group gi)) (after state (group (info_by changed gi))) (store_at a sa s pre b gi) (store_after state (store_from at_first no_frames parts) (group (info_by changed gi)))

group_same : (x y : GroupInfo) → group x ≡ group y → x ≡ y
group_same x y e = cc

sequence_same : (x y : Sequence) → sequence x ≡ sequence y → x ≡ y
sequence_same x y e = cc

sequence_known : (s : Sequence) (st : State) → IsKnown (after st (sequence s))
unfolding after
sequence_known s st = refl

sequence_none : (s : Sequence) (st : State) → (after st (sequence s)).picture ≡ None
unfolding after
sequence_none s st = refl

sequence_first : (s : Sequence) → (after at_first (sequence s)).first ≡ Some s
unfolding after
sequence_first s = refl

sequence_numbers : (s : Sequence) → ((after at_first (sequence s)).anchors ≡ 0) × ((after at_first (sequence s)).waiting ≡ None)
unfolding after
sequence_numbers s = (refl, refl)

up_to_group : (changed : Bool) (a : State) (sa : Store) (h : List ℕ) (pm : Units) (g : List ℕ) (later : Units) (s : Sequence) (pre : List Part) (b : State) (gi : GroupInfo) (ps : List Part) (z : State)
    → Whole changed a sa h pm g later s pre b gi ps z → UpToGroup changed a sa h pm g later s pre b gi
unfolding events_from store_from
up_to_group changed a sa h pm g later s pre b gi ps z w =
    let q = sequence_start a h pm w.mid (sequence s) w.h_is w.h_read in
    let own : s ≡ q.s = sequence_same s q.s q.part in
    let again : unit_read at_first (h ∷ pm) ≡ good ((true, sequence s), w.mid) = subst (λ (x : Sequence). unit_read at_first (h ∷ pm) ≡ good ((true, sequence x), w.mid)) (sym own) q.again in
    let same : is_same_sequence a.first s ≡ true = subst (λ (x : Sequence). is_same_sequence a.first x ≡ true) (sym own) q.same in
    let c : State = after at_first (sequence s) in
    let sw = picture_ended a.picture sa in
    let both = start_both changed a s sw q.waiting w.headers same w.anchors w.frames in
    let nopre = no_pictures w.pre_run (sequence_known s a) w.none in
    let r = runs_both w.pre_run false changed false 0 c sw no_frames both (none_fit changed false c.anchors (is_some c.waiting) pre nopre) in
    let st = r.state in
    let kc = sequence_known s at_first in
    let nocut = no_pictures r.run kc w.none in
    let still = quiet r.run no_frames (sequence_none s at_first) nocut in
    let numbers = sequence_numbers s in
    let known = run_known r.run kc in
    let kb = run_known w.pre_run (sequence_known s a) in
    let x = group_start b st changed g later later (group gi) (r.both).alike kb known w.long w.g_is w.g_read in
    let info : gi ≡ x.g = group_same gi x.g x.part in
    let read : unit_read st (header_by changed g ∷ later) ≡ good ((true, group (info_by changed gi)), later) = subst (λ (i : GroupInfo). unit_read st (header_by changed g ∷ later) ≡ good ((true, group (info_by changed i)), later)) (sym info) x.again in
    record {
      parts = sequence s ∷ r.parts;
      state = st;
      run = step again r.run;
      known = known;
      picture = still.picture;
      waiting = still.waiting ∙ numbers.1;
      anchors = still.anchors ∙ numbers.0;
      first = first_kept r.run s (sequence_first s);
      told = still.told;
      group_read = read;
      both = group_both changed r.later r.next b st (store_from (after a (sequence s)) sw pre) (store_from c no_frames r.parts) gi (info_by changed gi) r.both (info_kept changed gi) (info_open changed gi);
    }

group_numbers : (st : State) (g : GroupInfo) → ((after st (group g)).anchors ≡ st.anchors) × ((after st (group g)).waiting ≡ st.waiting) × ((after st (group g)).first ≡ st.first)
unfolding after
group_numbers st g = (refl, refl, refl)

ending_numbers : (st : State) → ((after st ending).waiting ≡ st.waiting) × ((after st ending).first ≡ st.first)
unfolding after
ending_numbers st = (refl, refl)

group_events : (st : State) (store : Store) (g : GroupInfo) (ps : List Part) → st.picture ≡ None → pictures_in (events_from st store (group g ∷ ps)) ≡ pictures_in (events_from (after st (group g)) (store_after st store (group g)) ps)
unfolding events_from
group_events st store g ps none = ap (λ (x : Option Open). pictures_in ((closed x store ++ group_header g ∷ []) ++ events_from (after st (group g)) (store_after st store (group g)) ps)) none

pub ending_events : (st : State) (store : Store) → events_from st store (ending ∷ []) ≡ closed st.picture store ++ []
unfolding events_from
ending_events st store = refl

-- a cut is read, and shows what stands in the whole
pub cut_read : (changed : Bool) (a : State) (sa : Store) (h : List ℕ) (pm : Units) (g : List ℕ) (later : Units) (s : Sequence) (pre : List Part) (b : State) (gi : GroupInfo) (ps : List Part) (z : State)
    → Whole changed a sa h pm g later s pre b gi ps z
    → IsCut changed (h ∷ (pm ++ header_by changed g ∷ later)) s (chosen_pictures (after b (group gi)) (store_at a sa s pre b gi) ps z)
cut_read changed a sa h pm g later s pre b gi ps z w =
    let f = up_to_group changed a sa h pm g later s pre b gi ps z w in
    let st = f.state in
    let i = info_by changed gi in
    let wb = after b (group gi) in
    let c = after st (group i) in
    let sw = store_at a sa s pre b gi in
    let sc = store_after st (store_from at_first no_frames f.parts) (group i) in
    let n = group_numbers st i in
    let kw = run_known w.pre_run (sequence_known s a) in
    let kb = known_after b (group gi) kw in
    let leads = leads_of w.run kb false w.lead in
    let second : is_some c.waiting ≡ false = waits_none c.waiting (n.1 ∙ f.waiting) in
    let fit : AllFit true changed true c.anchors (is_some c.waiting) ps = all_fit changed true c.anchors (is_some c.waiting) ps w.ten (λ on none. subst (λ (x : Bool). Leads x ps) (sym second) leads) in
    let r = runs_both w.run true changed true st.anchors c sw sc f.both fit in
    let y = r.state in
    let both = r.both in
    let complete : is_complete y.sequence y.picture ≡ true = closes z y both.alike w.complete in
    let paired : none_waits y.waiting ≡ true = ap none_waits (sym (both.alike).waiting) ∙ w.paired in
    let ky = run_known r.run (known_after st (group i) f.known) in
    let end = end_read y ky complete paired in
    let v = header_by changed g in
    let value : value_of v ≡ 0xB8 = header_value changed g w.long ∙ eqb-true (value_of g) 0xB8 w.g_is in
    let code = end_code ∷ [] in
    let front : Run at_first ((h ∷ pm) ++ v ∷ (later ++ code)) f.parts st (v ∷ (later ++ code)) = run_before (v ∷ (later ++ code)) (begins_group v value) f.run in
    let own : Run st ((v ∷ later) ++ code) (group i ∷ r.parts) y ([] ++ code) = run_before code begins_code (step f.group_read r.run) in
    let whole = run_then front own in
    let all = f.parts ++ group i ∷ r.parts in
    let tree : Sofar = record { state = after y ending; parts = all ++ ending ∷ [] } in
    let e = ending_numbers y in
    let rounds = rounds_by whole [] tree [] (last_round y all ending code [] end) in
    let units : (h ∷ pm) ++ v ∷ (later ++ code) ≡ (h ∷ (pm ++ v ∷ later)) ++ code = ap (λ (l : Units). h ∷ l) (sym (append_assoc pm (v ∷ later) code)) in
    let stands = stream_by tree ((h ∷ pm) ++ v ∷ (later ++ code)) [] rounds (ap none_waits e.0 ∙ paired) in
    let closed_told = closed_beside changed r.next y.anchors y.waiting z.picture y.picture (store_from wb sw ps) (store_from c sc r.parts) both.held [] [] tt in
    let told = r.told (pictures_in (closed z.picture (store_from wb sw ps)) ++ []) (pictures_in (closed y.picture (store_from c sc r.parts)) ++ []) closed_told in
    let zero : AreBeside changed 0 (chosen_pictures wb sw ps z) (pictures_in (events_from c sc r.parts) ++ (pictures_in (closed y.picture (store_from c sc r.parts)) ++ [])) = subst (λ (k : ℕ). AreBeside changed k (chosen_pictures wb sw ps z) (pictures_in (events_from c sc r.parts) ++ (pictures_in (closed y.picture (store_from c sc r.parts)) ++ []))) f.anchors told in
    let behind : pictures_in (events_from c sc (r.parts ++ ending ∷ [])) ≡ pictures_in (events_from c sc r.parts) ++ (pictures_in (closed y.picture (store_from c sc r.parts)) ++ []) =
    ap pictures_in (events_then r.run sc (ending ∷ []) ∙ ap (λ (l : Events). events_from c sc r.parts ++ l) (ending_events y (store_from c sc r.parts)))
    ∙ pictures_in-append (events_from c sc r.parts) (closed y.picture (store_from c sc r.parts) ++ [])
    ∙ ap (λ (l : Pictures). pictures_in (events_from c sc r.parts) ++ l) (pictures_in-append (closed y.picture (store_from c sc r.parts)) []) in
    let parts : all ++ ending ∷ [] ≡ f.parts ++ group i ∷ (r.parts ++ ending ∷ []) = append_assoc f.parts (group i ∷ r.parts) (ending ∷ []) in
    let pictures : pictures_in (events_from at_first no_frames (all ++ ending ∷ [])) ≡ pictures_in (events_from c sc r.parts) ++ (pictures_in (closed y.picture (store_from c sc r.parts)) ++ []) =
    ap (λ (l : List Part). pictures_in (events_from at_first no_frames l)) parts
    ∙ ap pictures_in (events_then f.run no_frames (group i ∷ (r.parts ++ ending ∷ [])))
    ∙ pictures_in-append (events_from at_first no_frames f.parts) (events_from st (store_from at_first no_frames f.parts) (group i ∷ (r.parts ++ ending ∷ [])))
    ∙ ap (λ (l : Pictures). l ++ pictures_in (events_from st (store_from at_first no_frames f.parts) (group i ∷ (r.parts ++ ending ∷ [])))) f.told
    ∙ group_events st (store_from at_first no_frames f.parts) i (r.parts ++ ending ∷ []) f.picture
    ∙ behind in
    record {
      tree = tree;
      stands = subst (λ (l : Units). stream_at.Stands tree l []) units stands;
      first = e.1 ∙ first_kept r.run s (n.2 ∙ f.first);
      beside = subst (AreBeside changed 0 (chosen_pictures wb sw ps z)) (sym pictures) zero;
    }

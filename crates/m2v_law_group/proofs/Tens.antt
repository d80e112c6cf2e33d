-- The rule that groups begin with I pictures, on parts; parts without pictures; and where a stream ends.
use Rattle.std.proofs.Common.{◌≡◌, ℕ, zero, suc, ◌+◌, Bool, true, false, List, [], ◌∷◌, ◌++◌, Option, Some, None, inl, inr, refl, sym, ap, subst, ◌∙◌, append_assoc, append-nil, arith}
use Rattle.std.specs.Prelude.{nat_eq, nat_lt, ◌||◌, if◌then◌else◌}
use Rattle.std.proofs.lemmas.Bool.{cases_Bool}
use Rattle.m2v_bits.specs.Syntax.{done, seq, choose}
use Rattle.m2v_bits.proofs.SyntaxLaws.{good}
use Rattle.m2v_model.specs.declared.state.Sequence.{Sequence}
use Rattle.m2v_model.specs.declared.state.Open.{Open}
use Rattle.m2v_model.specs.declared.state.State.{State}
use Rattle.m2v_model.specs.States.{is_b, is_frame, with_slice, with_unread_slice, first_or}
use Rattle.m2v_model.specs.Units.{Units, unit_bits}
use Rattle.m2v_model.specs.Looking.{refuse}
use Rattle.m2v_model.specs.Slices.{Slice, large_in}
use Rattle.m2v_model.specs.Streams.{Part, Among, sequence, group, picture, matrices, slice, unread_slice, skipped_unit, ending, over, after, value_of, end_unit, onward, final, later_unit, known_unit, text_end}
use Rattle.m2v_model.specs.Pictures.{Store, Pictures, Events, sequence_header, group_header, picture_of, pictures_in, closed, picture_ended, told_by, store_after, events_from, store_from, sliced}
use Rattle.m2v_model.specs.ByPieces.{unit_read}
use Rattle.m2v_model.proofs.StreamLaws.{known_lawful, text_end_lawful}
use Rattle.m2v_model.proofs.EventLaws.{pictures_in-append}
use Rattle.m2v_model.proofs.SplitLaws.{IsKnown, known_after}
use Rattle.m2v_law_group.proofs.Counted.{anchors_by}
use Rattle.m2v_law_group.proofs.Runs.{Run, stop, step, Ends, finish, going, AllFit}
use Rattle.m2v_law_group.proofs.Leads.{NoPictures, Leads}
use Rattle.m2v_law_group.proofs.Told.{TenEvents}

-- ---- where a stream ends

abbrev pub IsFinal : Part → Type 0
IsFinal ending = Unit {0}
IsFinal over = Unit {0}
IsFinal _ = ⊥

onward_none : (s : Among Part) (p : Part) (us mid : Units) → (onward s).Stands (false, p) us mid → ⊥
unfolding onward seq done
onward_none s p us mid h = let wrong = ap (λ (y : Bool × Part). y.0) h.3.0 in absurd cc

final_end : (st : State) (start : ℕ) (p : Part) (us mid : Units) → (final (end_unit st start)).Stands (false, p) us mid → IsFinal p
unfolding final end_unit seq done
final_end st start p us mid h =
    let own : p ≡ h.0 = ap (λ (y : Bool × Part). y.1) h.3.0 in
    subst IsFinal (sym (own ∙ h.2.3.3.0)) tt

later_final : (st : State) (start value : ℕ) (u : List ℕ) (p : Part) (us mid : Units) → (later_unit st start value u).Stands (false, p) us mid → IsFinal p
unfolding later_unit choose refuse
later_final st start value u p us mid h = elim h [
  | inl y ↦ absurd (onward_none _ p us mid y.1)
  | inr y ↦ elim y.1 [
    | inl z ↦ absurd (onward_none _ p us mid z.1)
    | inr z ↦ elim z.1 [
      | inl a ↦ absurd (onward_none _ p us mid a.1)
      | inr a ↦ elim a.1 [
        | inl b ↦ absurd (onward_none _ p us mid b.1)
        | inr b ↦ elim b.1 [
          | inl c ↦ final_end st start p us mid c.1
          | inr c ↦ elim c.1 [
            | inl d ↦ absurd (onward_none _ p us mid d.1)
            | inr d ↦ elim d.1 [ inl f ↦ absurd f.1 | inr f ↦ absurd f.1 ]
          ]
        ]
      ]
    ]
  ]
]

known_final : (st : State) (start value : ℕ) (u : List ℕ) (p : Part) (us mid : Units) → (known_unit st start value u).Stands (false, p) us mid → IsFinal p
unfolding known_unit choose done
known_final st start value u p us mid (inl y) = absurd (onward_none _ p us mid y.1)
known_final st start value u p us mid (inr y) = elim y.1 [
  | inl z ↦ later_final st start value u p us mid z.1
  | inr z ↦ let wrong = ap (λ (x : Bool × Part). x.0) z.1.0 in absurd cc
]

over_final : (st : State) (p : Part) (us mid : Units) → (text_end st 0).Stands (false, p) us mid → IsFinal p
unfolding text_end seq done
over_final st p us mid h = subst IsFinal (sym (ap (λ (y : Bool × Part). y.1) h.3.3.0)) tt

pub final_part : (st : State) (us mid : Units) (p : Part) → unit_read st us ≡ good ((false, p), mid) → IsFinal p
unfolding unit_read
final_part st [] mid p e = over_final st p [] mid ((text_end_lawful st 0).found (false, p) [] mid e)
final_part st (u ∷ us) mid p e = known_final st (unit_bits (u ∷ us)) (value_of u) u p us mid ((known_lawful st (unit_bits (u ∷ us)) (value_of u) u).found (false, p) us mid e)

-- what a final part tells, and that no picture is open behind it
pub final_told : (st : State) (store : Store) (p : Part) → IsFinal p → events_from st store (p ∷ []) ≡ closed st.picture store
unfolding events_from
final_told st store ending f = append-nil (closed st.picture store)
final_told st store over f = append-nil (closed st.picture store)
final_told st store _ f = absurd f

-- ---- groups that begin with I pictures

abbrev pub TenHolds : Bool → List Part → Type 0
TenHolds fresh [] = Unit {0}
TenHolds fresh (group g ∷ ps) = TenHolds true ps
TenHolds fresh (picture info extension ∷ ps) = (fresh ≡ true → info.kind ≡ 1) × TenHolds false ps
TenHolds fresh (_ ∷ ps) = TenHolds fresh ps

-- with a picture open that isn't told yet
abbrev TenOpen : Bool → Option Open → List Part → Type 0
TenOpen fresh None ps = TenHolds fresh ps
TenOpen fresh (Some p) ps = (fresh ≡ true → p.info.kind ≡ 1) × TenHolds false ps

-- the picture that is open is told first
closes_ten : (fresh : Bool) (o : Option Open) (store : Store) (es : Events) (ps : List Part) → TenEvents fresh (closed o store ++ es) → ((f : Bool) → TenEvents f es → TenHolds f ps) → TenOpen fresh o ps
unfolding picture_of
closes_ten fresh None store es ps h ih = ih fresh h
closes_ten fresh (Some p) store es ps h ih = (h.0, ih false h.1)

slice_kept : (fresh same : Bool) (p : Open) (row covered large : ℕ) (ps : List Part) → nat_eq row p.row ≡ same → TenOpen fresh (with_slice (Some p) row covered large) ps → TenOpen fresh (Some p) ps
slice_kept fresh true p row covered large ps e h = rw e at h
slice_kept fresh false p row covered large ps e h = rw e at h

slice_ten : (fresh : Bool) (o : Option Open) (row covered large : ℕ) (ps : List Part) → TenOpen fresh (with_slice o row covered large) ps → TenOpen fresh o ps
slice_ten fresh None row covered large ps h = h
slice_ten fresh (Some p) row covered large ps h = slice_kept fresh (nat_eq row p.row) p row covered large ps refl h

unread_ten : (fresh : Bool) (o : Option Open) (row : ℕ) (ps : List Part) → TenOpen fresh (with_unread_slice o row) ps → TenOpen fresh o ps
unread_ten fresh None row ps h = h
unread_ten fresh (Some p) row ps h = h

-- a part that tells nothing
same_open : (fresh : Bool) (o : Option Open) (p : Part) (ps : List Part) → ((f : Bool) → TenHolds f ps → TenHolds f (p ∷ ps)) → TenOpen fresh o ps → TenOpen fresh o (p ∷ ps)
same_open fresh None p ps k h = k fresh h
same_open fresh (Some q) p ps k h = (h.0, k false h.1)

closed_more : (o : Option Open) (store : Store) (e es : Events) → (closed o store ++ e) ++ es ≡ closed o store ++ (e ++ es)
closed_more o store e es = append_assoc (closed o store) e es

ten_step : (st : State) (store : Store) (p : Part) (ps : List Part) (es : Events) (fresh : Bool) → ((f : Bool) → TenEvents f es → TenOpen f (after st p).picture ps) → TenEvents fresh (told_by st store p ++ es) → TenOpen fresh st.picture (p ∷ ps)
unfolding after
ten_step st store (sequence s) ps es fresh ih h = closes_ten fresh st.picture store (sequence_header s ∷ es) (sequence s ∷ ps) (subst (TenEvents fresh) (closed_more st.picture store (sequence_header s ∷ []) es) h) (λ f t. ih f t)
ten_step st store (group g) ps es fresh ih h = closes_ten fresh st.picture store (group_header g ∷ es) (group g ∷ ps) (subst (TenEvents fresh) (closed_more st.picture store (group_header g ∷ []) es) h) (λ f t. ih true t)
ten_step st store (picture info extension) ps es fresh ih h = closes_ten fresh st.picture store es (picture info extension ∷ ps) h (λ f t. ih f t)
ten_step st store (matrices m) ps es fresh ih h = same_open fresh st.picture (matrices m) ps (λ f t. t) (ih fresh h)
ten_step st store (slice row x) ps es fresh ih h = same_open fresh st.picture (slice row x) ps (λ f t. t) (slice_ten fresh st.picture row x.covered (large_in x) ps (ih fresh h))
ten_step st store (unread_slice row u) ps es fresh ih h = same_open fresh st.picture (unread_slice row u) ps (λ f t. t) (unread_ten fresh st.picture row ps (ih fresh h))
ten_step st store (skipped_unit u) ps es fresh ih h = same_open fresh st.picture (skipped_unit u) ps (λ f t. t) (ih fresh h)
ten_step st store ending ps es fresh ih h = closes_ten fresh st.picture store es (ending ∷ ps) h (λ f t. ih f t)
ten_step st store over ps es fresh ih h = closes_ten fresh st.picture store es (over ∷ ps) h (λ f t. ih f t)

ten_last : (st : State) (store : Store) (p : Part) (fresh : Bool) → IsFinal p → TenEvents fresh (told_by st store p ++ []) → TenOpen fresh st.picture (p ∷ [])
ten_last st store ending fresh f h = closes_ten fresh st.picture store [] (ending ∷ []) h (λ g t. tt)
ten_last st store over fresh f h = closes_ten fresh st.picture store [] (over ∷ []) h (λ g t. tt)
ten_last st store _ fresh f h = absurd f

ten_open : {st z : State} {us rest : Units} {ps : List Part} → Ends st us ps z rest → (store : Store) (fresh : Bool) → TenEvents fresh (events_from st store ps) → TenOpen fresh st.picture ps
unfolding events_from
ten_open {st} {us = us} {rest = rest} (finish {p = p} e) store fresh h = ten_last st store p fresh (final_part st us rest p e) h
ten_open {st} (going {p = p} {ps = ps} e later) store fresh h =
    ten_step st store p ps (events_from (after st p) (store_after st store p) ps) fresh (λ f t. ten_open later (store_after st store p) f t) h

none_open : (fresh : Bool) (o : Option Open) (ps : List Part) → o ≡ None → TenOpen fresh o ps → TenHolds fresh ps
none_open fresh None ps e h = h
none_open fresh (Some p) ps e h = absurd cc

-- by what is told up to the end, where no picture is open
pub ten_parts : {st z : State} {us rest : Units} {ps : List Part} → Ends st us ps z rest → st.picture ≡ None → (store : Store) (fresh : Bool) → TenEvents fresh (events_from st store ps) → TenHolds fresh ps
ten_parts {st} {ps = ps} h none store fresh t = none_open fresh st.picture ps none (ten_open h store fresh t)

pub ten_front : (fresh : Bool) (ps qs : List Part) → TenHolds fresh (ps ++ qs) → TenHolds fresh ps
ten_front fresh [] qs h = tt
ten_front fresh (group g ∷ ps) qs h = ten_front true ps qs h
ten_front fresh (picture info extension ∷ ps) qs h = (h.0, ten_front false ps qs h.1)
ten_front fresh (_ ∷ ps) qs h = ten_front fresh ps qs h

-- ---- all parts fit

more_anchors : (ends : Bool) (n : ℕ) → anchors_by ends false n ≡ 0 → (ends ≡ false) × (n ≡ 0)
more_anchors true zero e = absurd cc
more_anchors true (suc n) e = absurd (some_more n e)
  where
    some_more : (n : ℕ) → anchors_by true false (suc n) ≡ 0 → ⊥
    some_more n e = elim (cases_Bool (nat_lt (suc n) 2)) [ inl on ↦ let h : suc n + 1 ≡ 0 = sym (rw on refl) ∙ e in absurd (omega (arith, h)) | inr off ↦ let h : 2 ≡ 0 = sym (rw off refl) ∙ e in absurd (omega (arith, h)) ]
more_anchors false n e = (refl, e)

same_anchors : (ends : Bool) (n : ℕ) → anchors_by ends true n ≡ 0 → n ≡ 0
same_anchors true n e = e
same_anchors false n e = e

none_before : (ends b : Bool) (n : ℕ) → anchors_by ends b n ≡ 0 → n ≡ 0
none_before ends true n e = same_anchors ends n e
none_before ends false n e = (more_anchors ends n e).1

or_false : (a b : Bool) → (a || b) ≡ false → (a ≡ false) × (b ≡ false)
or_false true b e = absurd cc
or_false false b e = (refl, e)

waits_still : (ends : Bool) (ps : List Part) → ends ≡ false → Leads true ps → Leads (if ends then false else true) ps
waits_still true ps e h = absurd cc
waits_still false ps e h = h

-- where the cut has no anchor, the parts lead
abbrev LeadIf : Bool → ℕ → Bool → List Part → Type 0
LeadIf changed anchors second ps = changed ≡ true → anchors ≡ 0 → Leads second ps

pub all_fit : (changed fresh : Bool) (anchors : ℕ) (second : Bool) (ps : List Part) → TenHolds fresh ps → LeadIf changed anchors second ps → AllFit true changed fresh anchors second ps
all_fit changed fresh anchors second [] t l = tt
all_fit changed fresh anchors second (sequence s ∷ ps) t l = all_fit changed fresh anchors second ps t l
all_fit changed fresh anchors second (group g ∷ ps) t l = (λ r on none. l on none, all_fit changed true anchors second ps t (λ on none. absurd (l on none)))
all_fit changed fresh anchors second (picture info extension ∷ ps) t l =
    let ends = is_frame extension || second in (
      (refl, record { fresh_intra = t.0; first_intra = λ on none. (l on none).0 }),
      all_fit changed false (anchors_by ends (is_b info.kind) anchors) (if ends then false else true) ps t.1 (λ on none.
          let before = none_before ends (is_b info.kind) anchors none in
          let h = l on before in
          let b : is_b info.kind ≡ false = ap is_b h.0 in
          let still = (more_anchors ends anchors (ap (λ (x : Bool). anchors_by ends x anchors) (sym b) ∙ none)).0 in
          let both = or_false (is_frame extension) second still in
          waits_still ends ps still (h.1 both.1 both.0)),
    )
all_fit changed fresh anchors second (matrices m ∷ ps) t l = all_fit changed fresh anchors second ps t l
all_fit changed fresh anchors second (slice row x ∷ ps) t l = all_fit changed fresh anchors second ps t l
all_fit changed fresh anchors second (unread_slice row u ∷ ps) t l = all_fit changed fresh anchors second ps t l
all_fit changed fresh anchors second (skipped_unit u ∷ ps) t l = all_fit changed fresh anchors second ps t l
all_fit changed fresh anchors second (ending ∷ ps) t l = all_fit changed fresh anchors second ps t l
all_fit changed fresh anchors second (over ∷ ps) t l = all_fit changed fresh anchors second ps t l

-- before the chosen group no picture comes
pub none_fit : (changed fresh : Bool) (anchors : ℕ) (second : Bool) (ps : List Part) → NoPictures ps → AllFit false changed fresh anchors second ps
none_fit changed fresh anchors second [] n = tt
none_fit changed fresh anchors second (group g ∷ ps) n = (λ r. absurd cc, none_fit changed true anchors second ps n)
none_fit changed fresh anchors second (picture info extension ∷ ps) n = absurd n
none_fit changed fresh anchors second (_ ∷ ps) n = none_fit changed fresh anchors second ps n

-- ---- parts without pictures, where none is open

pub record IsQuiet (st z : State) (store : Store) (ps : List Part) : Type 0 where
  pub picture : z.picture ≡ None
  pub anchors : z.anchors ≡ st.anchors
  pub waiting : z.waiting ≡ st.waiting
  pub headers : z.headers_only ≡ st.headers_only
  pub kept : store_from st store ps ≡ store
  pub told : pictures_in (events_from st store ps) ≡ []

abbrev NoPicture : Part → Type 0
NoPicture p = NoPictures (p ∷ [])

record IsStill (st : State) (store : Store) (p : Part) : Type 0 where
  picture : (after st p).picture ≡ None
  anchors : (after st p).anchors ≡ st.anchors
  waiting : (after st p).waiting ≡ st.waiting
  headers : (after st p).headers_only ≡ st.headers_only
  kept : store_after st store p ≡ store
  told : pictures_in (told_by st store p) ≡ []

none_ended : (o : Option Open) (store : Store) → o ≡ None → picture_ended o store ≡ store
none_ended o store e = ap (λ (x : Option Open). picture_ended x store) e

none_told : (o : Option Open) (store : Store) (es : Events) → o ≡ None → pictures_in es ≡ [] → pictures_in (closed o store ++ es) ≡ []
none_told o store es e n = ap (λ (x : Option Open). pictures_in (closed x store ++ es)) e ∙ n

none_sliced : (st : State) (s : Option Sequence) (row : ℕ) (x : Slice) (store : Store) → sliced st s None row x store ≡ store
none_sliced st (Some s) row x store = refl
none_sliced st None row x store = refl

part_still : (st : State) (store : Store) (p : Part) → st.picture ≡ None → NoPicture p → IsStill st store p
unfolding after
part_still st store (sequence s) e n = record { picture = refl; anchors = refl; waiting = refl; headers = refl; kept = none_ended st.picture store e; told = none_told st.picture store _ e refl }
part_still st store (group g) e n = record { picture = refl; anchors = refl; waiting = refl; headers = refl; kept = none_ended st.picture store e; told = none_told st.picture store _ e refl }
part_still st store (picture info extension) e n = absurd n
part_still st store (matrices m) e n = record { picture = e; anchors = refl; waiting = refl; headers = refl; kept = refl; told = refl }
part_still st store (slice row x) e n = record {
  picture = ap (λ (o : Option Open). with_slice o row x.covered (large_in x)) e;
  anchors = refl;
  waiting = refl;
  headers = refl;
  kept = ap (λ (o : Option Open). sliced st st.sequence o row x store) e ∙ none_sliced st st.sequence row x store;
  told = refl;
}
part_still st store (unread_slice row u) e n = record { picture = ap (λ (o : Option Open). with_unread_slice o row) e; anchors = refl; waiting = refl; headers = refl; kept = refl; told = refl }
part_still st store (skipped_unit u) e n = record { picture = e; anchors = refl; waiting = refl; headers = refl; kept = refl; told = refl }
part_still st store ending e n = record { picture = refl; anchors = refl; waiting = refl; headers = refl; kept = none_ended st.picture store e; told = ap (λ (x : Option Open). pictures_in (closed x store)) e }
part_still st store over e n = record { picture = refl; anchors = refl; waiting = refl; headers = refl; kept = none_ended st.picture store e; told = ap (λ (x : Option Open). pictures_in (closed x store)) e }

parts_none : (p : Part) (ps : List Part) → NoPictures (p ∷ ps) → NoPicture p × NoPictures ps
parts_none (picture info extension) ps n = absurd n
parts_none _ ps n = (tt, n)

pub quiet : {st z : State} {us rest : Units} {ps : List Part} → Run st us ps z rest → (store : Store) → st.picture ≡ None → NoPictures ps → IsQuiet st z store ps
unfolding events_from store_from
quiet stop store e n = record { picture = e; anchors = refl; waiting = refl; headers = refl; kept = refl; told = refl }
quiet {st} {z} (step {p = p} {ps = ps} r later) store e n =
    let h = parts_none p ps n in
    let s = part_still st store p e h.0 in
    let i = quiet later (store_after st store p) s.picture h.1 in
    record {
      picture = i.picture;
      anchors = i.anchors ∙ s.anchors;
      waiting = i.waiting ∙ s.waiting;
      headers = i.headers ∙ s.headers;
      kept = i.kept ∙ s.kept;
      told = pictures_in-append (told_by st store p) (events_from (after st p) (store_after st store p) ps) ∙ ap (λ (l : Pictures). l ++ pictures_in (events_from (after st p) (store_after st store p) ps)) s.told ∙ i.told;
    }

-- ---- what runs leave as it was

pub first_stays : (st : State) (p : Part) (f : Sequence) → st.first ≡ Some f → (after st p).first ≡ Some f
unfolding after
first_stays st (sequence s) f e = ap (λ (x : Option Sequence). Some (first_or x s)) e
first_stays st _ f e = e

pub first_kept : {st z : State} {us rest : Units} {ps : List Part} → Run st us ps z rest → (f : Sequence) → st.first ≡ Some f → z.first ≡ Some f
first_kept stop f e = e
first_kept {st} (step {p = p} r later) f e = first_kept later f (first_stays st p f e)

headers_stay : (st : State) (p : Part) → (after st p).headers_only ≡ st.headers_only
unfolding after
headers_stay st (sequence s) = refl
headers_stay st _ = refl

pub headers_kept : {st z : State} {us rest : Units} {ps : List Part} → Run st us ps z rest → z.headers_only ≡ st.headers_only
headers_kept stop = refl
headers_kept {st} (step {p = p} r later) = headers_kept later ∙ headers_stay st p

pub run_known : {st z : State} {us rest : Units} {ps : List Part} → Run st us ps z rest → IsKnown st → IsKnown z
run_known stop k = k
run_known {st} (step {p = p} r later) k = run_known later (known_after st p k)

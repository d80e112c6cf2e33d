-- The rule of a strand, on the pictures that are told and on the parts that tell them.
use Rattle.std.proofs.Common.{◌≡◌, ℕ, Bool, true, false, List, [], ◌∷◌, ◌++◌, Option, Some, None, refl, sym, ap, subst, ◌∙◌, append_assoc}
use Rattle.std.specs.Prelude.{nat_eq, not, ◌||◌}
use Rattle.std.proofs.lemmas.Bool.{eqb-true, not-true}
use Rattle.m2v_model.specs.declared.state.Open.{Open}
use Rattle.m2v_model.specs.declared.state.FirstField.{FirstField}
use Rattle.m2v_model.specs.declared.state.State.{State}
use Rattle.m2v_model.specs.Units.{Units}
use Rattle.m2v_model.specs.States.{with_slice, with_unread_slice}
use Rattle.m2v_model.specs.Slices.{large_in}
use Rattle.m2v_model.specs.Streams.{Part, sequence, group, picture, matrices, slice, unread_slice, skipped_unit, ending, over, after}
use Rattle.m2v_model.specs.Pictures.{Store, Picture, Pictures, Events, sequence_header, group_header, picture_of, pictures_in, closed, told_by, store_after, events_from}
use Rattle.m2v_law_group.specs.Chosen.{anchors_behind, is_leading, without_leading}
use Rattle.m2v_law_group.proofs.Shows.{Beside, AreBeside}
use Rattle.m2v_law_group.proofs.Counted.{is_left_kind}
use Rattle.m2v_law_group.proofs.Held.{counted}
use Rattle.m2v_law_group.proofs.Lists.{and_parts}
use Rattle.m2v_law_group.proofs.Runs.{Ends, finish, going}
use Rattle.m2v_law_group.proofs.Tens.{IsFinal, final_part}
use Rattle.m2v_law_seam.specs.Strands.{may_stand, all_stand}
use Rattle.m2v_law_seam.proofs.Behind.{Stands}
use Rattle.m2v_law_seam.proofs.Again.{AllStand}

intra_by : (anchors kind : ℕ) → (not (nat_eq anchors 0) || nat_eq kind 1) ≡ true → anchors ≡ 0 → kind ≡ 1
intra_by anchors kind h none = eqb-true kind 1 (subst (λ (n : ℕ). (not (nat_eq n 0) || nat_eq kind 1) ≡ true) none h)

stands_by : (anchors : ℕ) (p : Picture) → may_stand anchors p ≡ true → Stands anchors p.info.kind
stands_by anchors p h =
    let parts = and_parts (not (nat_eq anchors 0) || nat_eq p.info.kind 1) (not (is_leading anchors p)) h in
    record { intra = intra_by anchors p.info.kind parts.0; kept = not-true (is_left_kind true anchors p.info.kind) parts.1 }

-- ---- parts, by what is told of them

abbrev Told : ℕ → Events → Type 0
Told anchors es = all_stand anchors (pictures_in es) ≡ true

-- with a picture open that isn't told yet
abbrev OpenStands : ℕ → Option Open → Option FirstField → List Part → Type 0
OpenStands anchors None waiting ps = AllStand anchors waiting ps
OpenStands anchors (Some p) waiting ps = Stands anchors p.info.kind × AllStand (counted anchors (Some p)) waiting ps

-- the picture that is open is told first
closes_stand : (anchors : ℕ) (o : Option Open) (store : Store) (es : Events) (waiting : Option FirstField) (ps : List Part) → Told anchors (closed o store ++ es) → ((n : ℕ) → Told n es → AllStand n waiting ps) → OpenStands anchors o waiting ps
unfolding picture_of all_stand
closes_stand anchors None store es waiting ps h ih = ih anchors h
closes_stand anchors (Some p) store es waiting ps h ih =
    let parts = and_parts (may_stand anchors (picture_of p store)) (all_stand (anchors_behind anchors (picture_of p store)) (pictures_in es)) h in
    (stands_by anchors (picture_of p store) parts.0, ih (counted anchors (Some p)) parts.1)

slice_kept : (anchors : ℕ) (same : Bool) (p : Open) (row covered large : ℕ) (waiting : Option FirstField) (ps : List Part) → nat_eq row p.row ≡ same → OpenStands anchors (with_slice (Some p) row covered large) waiting ps → OpenStands anchors (Some p) waiting ps
slice_kept anchors true p row covered large waiting ps e h = rw e at h
slice_kept anchors false p row covered large waiting ps e h = rw e at h

slice_stands : (anchors : ℕ) (o : Option Open) (row covered large : ℕ) (waiting : Option FirstField) (ps : List Part) → OpenStands anchors (with_slice o row covered large) waiting ps → OpenStands anchors o waiting ps
slice_stands anchors None row covered large waiting ps h = h
slice_stands anchors (Some p) row covered large waiting ps h = slice_kept anchors (nat_eq row p.row) p row covered large waiting ps refl h

unread_stands : (anchors : ℕ) (o : Option Open) (row : ℕ) (waiting : Option FirstField) (ps : List Part) → OpenStands anchors (with_unread_slice o row) waiting ps → OpenStands anchors o waiting ps
unread_stands anchors None row waiting ps h = h
unread_stands anchors (Some p) row waiting ps h = h

-- a part that tells nothing
same_open : (anchors : ℕ) (o : Option Open) (waiting : Option FirstField) (p : Part) (ps : List Part) → ((n : ℕ) → AllStand n waiting ps → AllStand n waiting (p ∷ ps)) → OpenStands anchors o waiting ps → OpenStands anchors o waiting (p ∷ ps)
same_open anchors None waiting p ps k h = k anchors h
same_open anchors (Some q) waiting p ps k h = (h.0, k (counted anchors (Some q)) h.1)

told_more : (anchors : ℕ) (o : Option Open) (store : Store) (e es : Events) → Told anchors ((closed o store ++ e) ++ es) → Told anchors (closed o store ++ (e ++ es))
told_more anchors o store e es h = subst (Told anchors) (append_assoc (closed o store) e es) h

stand_step : (st : State) (store : Store) (p : Part) (ps : List Part) (es : Events) (anchors : ℕ) → ((n : ℕ) → Told n es → OpenStands n (after st p).picture (after st p).waiting ps) → Told anchors (told_by st store p ++ es) → OpenStands anchors st.picture st.waiting (p ∷ ps)
unfolding after
stand_step st store (sequence s) ps es anchors ih h = closes_stand anchors st.picture store (sequence_header s ∷ es) st.waiting (sequence s ∷ ps) (told_more anchors st.picture store (sequence_header s ∷ []) es h) (λ n t. ih n t)
stand_step st store (group g) ps es anchors ih h = closes_stand anchors st.picture store (group_header g ∷ es) st.waiting (group g ∷ ps) (told_more anchors st.picture store (group_header g ∷ []) es h) (λ n t. ih n t)
stand_step st store (picture info extension) ps es anchors ih h = closes_stand anchors st.picture store es st.waiting (picture info extension ∷ ps) h (λ n t. ih n t)
stand_step st store (matrices m) ps es anchors ih h = same_open anchors st.picture st.waiting (matrices m) ps (λ n t. t) (ih anchors h)
stand_step st store (slice row x) ps es anchors ih h = same_open anchors st.picture st.waiting (slice row x) ps (λ n t. t) (slice_stands anchors st.picture row x.covered (large_in x) st.waiting ps (ih anchors h))
stand_step st store (unread_slice row u) ps es anchors ih h = same_open anchors st.picture st.waiting (unread_slice row u) ps (λ n t. t) (unread_stands anchors st.picture row st.waiting ps (ih anchors h))
stand_step st store (skipped_unit u) ps es anchors ih h = same_open anchors st.picture st.waiting (skipped_unit u) ps (λ n t. t) (ih anchors h)
stand_step st store ending ps es anchors ih h = closes_stand anchors st.picture store es st.waiting (ending ∷ ps) h (λ n t. ih n t)
stand_step st store over ps es anchors ih h = closes_stand anchors st.picture store es st.waiting (over ∷ ps) h (λ n t. ih n t)

stand_last : (st : State) (store : Store) (p : Part) (anchors : ℕ) → IsFinal p → Told anchors (told_by st store p ++ []) → OpenStands anchors st.picture st.waiting (p ∷ [])
stand_last st store ending anchors f h = closes_stand anchors st.picture store [] st.waiting (ending ∷ []) h (λ n t. tt)
stand_last st store over anchors f h = closes_stand anchors st.picture store [] st.waiting (over ∷ []) h (λ n t. tt)
stand_last st store _ anchors f h = absurd f

stand_open : {st z : State} {us rest : Units} {ps : List Part} → Ends st us ps z rest → (store : Store) (anchors : ℕ) → Told anchors (events_from st store ps) → OpenStands anchors st.picture st.waiting ps
unfolding events_from
stand_open {st} {us = us} {rest = rest} (finish {p = p} e) store anchors h = stand_last st store p anchors (final_part st us rest p e) h
stand_open {st} (going {p = p} {ps = ps} e later) store anchors h =
    stand_step st store p ps (events_from (after st p) (store_after st store p) ps) anchors (λ n t. stand_open later (store_after st store p) n t) h

none_open : (anchors : ℕ) (o : Option Open) (waiting : Option FirstField) (ps : List Part) → o ≡ None → OpenStands anchors o waiting ps → AllStand anchors waiting ps
none_open anchors None waiting ps e h = h
none_open anchors (Some p) waiting ps e h = absurd cc

-- where the pictures that are told keep the rule, and none is open before them, all parts may stand
pub stand_parts : {st z : State} {us rest : Units} {ps : List Part} → Ends st us ps z rest → st.picture ≡ None → (store : Store) (anchors : ℕ) → all_stand anchors (pictures_in (events_from st store ps)) ≡ true → AllStand anchors st.waiting ps
stand_parts {st} {ps = ps} h none store anchors t = none_open anchors st.picture st.waiting ps none (stand_open h store anchors t)

-- ---- pictures beside each other

leading_as : (anchors : ℕ) (p q : Picture) → q.info.kind ≡ p.info.kind → is_leading anchors p ≡ is_leading anchors q
leading_as anchors p q e = ap (is_left_kind true anchors) (sym e)

beside_one : (anchors : ℕ) (p q : Picture) (left : Bool) → is_leading anchors p ≡ left → Beside left p q → may_stand anchors q ≡ true → p ≡ q
beside_one anchors p q false e h may = h
beside_one anchors p q true e h may =
    let parts = and_parts (not (nat_eq anchors 0) || nat_eq q.info.kind 1) (not (is_leading anchors q)) may in
    let wrong : true ≡ false = sym e ∙ leading_as anchors p q h.1 ∙ not-true (is_leading anchors q) parts.1 in
    absurd cc

-- where those of the strand by itself keep the rule, those in place are the same
pub beside_same : (anchors : ℕ) (ps qs : Pictures) → AreBeside true anchors ps qs → all_stand anchors qs ≡ true → ps ≡ qs
unfolding all_stand
beside_same anchors [] [] b h = refl
beside_same anchors [] (q ∷ qs) b h = absurd b
beside_same anchors (p ∷ ps) [] b h = absurd b
beside_same anchors (p ∷ ps) (q ∷ qs) b h =
    let parts = and_parts (may_stand anchors q) (all_stand (anchors_behind anchors q) qs) h in
    let one : p ≡ q = beside_one anchors p q (is_leading anchors p) refl b.0 parts.0 in
    let others : ps ≡ qs = beside_same (anchors_behind anchors p) ps qs b.1 (subst (λ (x : Picture). all_stand (anchors_behind anchors x) qs ≡ true) (sym one) parts.1) in
    ap (λ (x : Picture). x ∷ ps) one ∙ ap (λ (l : Pictures). q ∷ l) others

-- pictures that keep the rule have no leading ones
leading_step : (anchors : ℕ) (p : Picture) (ps : Pictures) (left : Bool) → is_leading anchors p ≡ left → left ≡ false → without_leading (anchors_behind anchors p) ps ≡ ps → without_leading anchors (p ∷ ps) ≡ p ∷ ps
unfolding without_leading
leading_step anchors p ps true e off ih = absurd cc
leading_step anchors p ps false e off ih = rw e (ap (λ (l : Pictures). p ∷ l) ih)

pub none_leading : (anchors : ℕ) (ps : Pictures) → all_stand anchors ps ≡ true → without_leading anchors ps ≡ ps
unfolding without_leading all_stand
none_leading anchors [] h = refl
none_leading anchors (p ∷ ps) h =
    let parts = and_parts (may_stand anchors p) (all_stand (anchors_behind anchors p) ps) h in
    let own = and_parts (not (nat_eq anchors 0) || nat_eq p.info.kind 1) (not (is_leading anchors p)) parts.0 in
    leading_step anchors p ps (is_leading anchors p) refl (not-true (is_leading anchors p) own.1) (none_leading (anchors_behind anchors p) ps parts.1)

-- How many frames a stream shows, counted by its pictures: those that end a frame and aren't dropped.
use Rattle.std.proofs.Common.{◌≡◌, ℕ, ◌+◌, ◌-◌, ◌*◌, ◌^◌, ◌≤◌, ◌<◌, Bool, true, false, ◌||◌, not, List, [], ◌∷◌, ◌++◌, length, map, Option, Some, None, option_to_list, inl, inr, refl, sym, ap, subst, ◌∙◌, arith}
use Rattle.std.specs.Prelude.{◌&&◌, ◌==◌, nat_eq, filter, take, slice_index, if◌then◌else◌}
use Rattle.std.proofs.lemmas.Bool.{cases_Bool}
use Rattle.std.proofs.lemmas.List.{length-append}
use Rattle.m2v_order.specs.m2v_plane.Raw.{crop}
use Rattle.m2v_order.specs.Display.{is_kept, Shown, Holder, opening, handed, held_after, shown, held}
use Rattle.m2v_order.specs.Display.{frames_of as frames_alone}
use Rattle.m2v_order.proofs.Shows.{handed_shown}
use Rattle.m2v_model.specs.declared.phase.Phase.{Phase}
use Rattle.m2v_model.specs.declared.phase.Phase.TheVariants as phases
use Rattle.m2v_model.specs.declared.state.Open.{Open}
use Rattle.m2v_model.specs.declared.state.State.{State}
use Rattle.m2v_model.specs.States.{is_b, is_frame, at_first, with_slice, with_unread_slice}
use Rattle.m2v_model.specs.Units.{Units, cut, joined, AreUnits}
use Rattle.m2v_model.specs.Slices.{large_in}
use Rattle.m2v_model.specs.Streams.{Sofar, Part, sequence, group, picture, matrices, slice, unread_slice, skipped_unit, ending, over}
use Rattle.m2v_model.specs.Streams.{after as state_after}
use Rattle.m2v_model.specs.Pictures.{Picture, Pictures, Store, no_frames, Events, sequence_header, group_header, pictures_in, picture_of, closed, told_by, store_after, events_from, is_ending, typed, frames_in}
use Rattle.m2v_model.specs.Pieces.{phase_after, begins_piece, is_end, piece_of, grouped, pieces}
use Rattle.m2v_model.specs.PieceNotes.{note_of}
use Rattle.m2v_model.specs.Decoding.{Stream, pictures, low_delay_of, is_dropped, frames_of}
use Rattle.m2v_model.proofs.CutLaws.{cut_cuts}
use Rattle.m2v_model.proofs.EventLaws.{pictures_in-append}
use Rattle.m2v_audit.specs.m2v_check.Laws.{Alternates}
use Rattle.m2v_audit.specs.Report.{one_more}
use Rattle.m2v_law_audit.specs.Parts.{more_by}
use Rattle.m2v_law_audit.proofs.AccountReading.{in_pieces}
use Rattle.m2v_law_audit.proofs.FigureCounts.{shown_with, shown_by, few_counted}

-- ---- dropped pictures

-- only a B picture is dropped
abbrev OpenDrops : Option Open → Type 0
OpenDrops None = Unit {0}
OpenDrops (Some p) = p.dropped ≡ true → is_b p.info.kind ≡ true

abbrev AllDrop : Pictures → Type 0
AllDrop [] = Unit {0}
AllDrop (p ∷ ps) = (p.dropped ≡ true → is_b p.info.kind ≡ true) × AllDrop ps

drop-append : (ps qs : Pictures) → AllDrop ps → AllDrop qs → AllDrop (ps ++ qs)
drop-append [] qs a b = b
drop-append (p ∷ ps) qs a b = (a.0, drop-append ps qs a.1 b)

closed_drops : (o : Option Open) (store : Store) (es : Events) → OpenDrops o → pictures_in es ≡ [] → AllDrop (pictures_in (closed o store ++ es))
unfolding picture_of
closed_drops None store es h none = subst AllDrop (sym none) tt
closed_drops (Some p) store es h none = (h, subst AllDrop (sym none) tt)

closed_alone : (o : Option Open) (store : Store) → OpenDrops o → AllDrop (pictures_in (closed o store))
unfolding picture_of
closed_alone None store h = tt
closed_alone (Some p) store h = (h, tt)

part_drops : (st : State) (store : Store) (p : Part) → OpenDrops st.picture → AllDrop (pictures_in (told_by st store p))
part_drops st store (sequence s) h = closed_drops st.picture store (sequence_header s ∷ []) h refl
part_drops st store (group g) h = closed_drops st.picture store (group_header g ∷ []) h refl
part_drops st store (picture info extension) h = closed_alone st.picture store h
part_drops st store (matrices m) h = tt
part_drops st store (slice row x) h = tt
part_drops st store (unread_slice row u) h = tt
part_drops st store (skipped_unit u) h = tt
part_drops st store ending h = closed_alone st.picture store h
part_drops st store over h = closed_alone st.picture store h

first_true : (a b : Bool) → (a && b) ≡ true → a ≡ true
first_true true b e = refl
first_true false b e = e

sliced_drops : (o : Option Open) (row covered large : ℕ) → OpenDrops o → OpenDrops (with_slice o row covered large)
sliced_drops None row covered large h = tt
sliced_drops (Some p) row covered large h = elim (cases_Bool (nat_eq row p.row)) [
  | inl on ↦ rw on h
  | inr off ↦ rw off h
]

unread_drops : (o : Option Open) (row : ℕ) → OpenDrops o → OpenDrops (with_unread_slice o row)
unread_drops None row h = tt
unread_drops (Some p) row h = h

after_drops : (st : State) (p : Part) → OpenDrops st.picture → OpenDrops (state_after st p).picture
unfolding state_after
after_drops st (sequence s) h = tt
after_drops st (group g) h = tt
after_drops st (picture info extension) h = first_true (is_b info.kind) _
after_drops st (matrices m) h = h
after_drops st (slice row x) h = sliced_drops st.picture row x.covered (large_in x) h
after_drops st (unread_slice row u) h = unread_drops st.picture row h
after_drops st (skipped_unit u) h = h
after_drops st ending h = tt
after_drops st over h = tt

events_drop : (parts : List Part) (st : State) (store : Store) → OpenDrops st.picture → AllDrop (pictures_in (events_from st store parts))
unfolding events_from
events_drop [] st store h = tt
events_drop (p ∷ ps) st store h =
    let told = told_by st store p in
    let later = events_from (state_after st p) (store_after st store p) ps in
    subst AllDrop (sym (pictures_in-append told later))
    (drop-append (pictures_in told) (pictures_in later) (part_drops st store p h) (events_drop ps (state_after st p) (store_after st store p) (after_drops st p h)))

-- ---- frames that are shown

abbrev shown_in : Pictures → ℕ
shown_in ps = length (filter (is_kept is_dropped) (frames_in ps))

-- a picture that ends its frame and is kept is one frame more
one_frame : (e k : Bool) (p : Picture) (ps : Pictures) → p.ends_frame ≡ e → not ((p.info.kind == 3) && p.dropped) ≡ k → shown_in (p ∷ ps) ≡ (if e && k then 1 else 0) + shown_in ps
one_frame false k p ps ends kept =
    ap (λ (x : Bool). length (filter (is_kept is_dropped) (map typed (if x then p ∷ filter is_ending ps else filter is_ending ps)))) ends ∙ omega arith
one_frame true false p ps ends kept =
    ap (λ (x : Bool). length (filter (is_kept is_dropped) (map typed (if x then p ∷ filter is_ending ps else filter is_ending ps)))) ends
    ∙ ap (λ (x : Bool). length (if x then typed p ∷ filter (is_kept is_dropped) (frames_in ps) else filter (is_kept is_dropped) (frames_in ps))) kept
    ∙ omega arith
one_frame true true p ps ends kept =
    ap (λ (x : Bool). length (filter (is_kept is_dropped) (map typed (if x then p ∷ filter is_ending ps else filter is_ending ps)))) ends
    ∙ ap (λ (x : Bool). length (if x then typed p ∷ filter (is_kept is_dropped) (frames_in ps) else filter (is_kept is_dropped) (frames_in ps))) kept
    ∙ omega arith

kept_so : (b d : Bool) → (d ≡ true → b ≡ true) → not d ≡ not (b && d)
kept_so true d h = refl
kept_so false false h = refl
kept_so false true h = let f : false ≡ true = h refl in absurd cc

one_counted : (c : Bool) (n m : ℕ) → more_by (if c then one_more n else n) m ≡ more_by n ((if c then 1 else 0) + m)
one_counted true n m = omega arith
one_counted false n m = omega arith

shown_are : (waits : Bool) (n : ℕ) (ps : Pictures) → Alternates waits ps → AllDrop ps → n ≤ 2 ^ 64 - 1 → shown_by n ps ≡ more_by n (shown_in ps)
shown_are waits n [] alternates drops le = omega (arith, le)
shown_are waits n (p ∷ ps) alternates drops le =
    let kept : Bool = not ((p.info.kind == 3) && p.dropped) in
    let same : ((is_frame p.extension || not p.begins_frame) && not p.dropped) ≡ (p.ends_frame && kept) =
    (λ i. sym alternates.0 i && kept_so (is_b p.info.kind) p.dropped drops.0 i) in
    shown_are (not p.ends_frame) (shown_with n (note_of 0 p)) ps alternates.2 drops.1 (few_counted _ n le)
    ∙ ap (λ (c : Bool). more_by (if c then one_more n else n) (shown_in ps)) same
    ∙ one_counted (p.ends_frame && kept) n (shown_in ps)
    ∙ ap (more_by n) (sym (one_frame p.ends_frame kept p ps refl refl))

few_shown : (c : Bool) → (if c then 1 else 0) ≤ 1
few_shown true = omega arith
few_shown false = omega arith

few_frames : (ps : Pictures) → shown_in ps ≤ length ps
few_frames [] = omega arith
few_frames (p ∷ ps) =
    let kept : Bool = not ((p.info.kind == 3) && p.dropped) in
    omega (arith, one_frame p.ends_frame kept p ps refl refl, few_shown (p.ends_frame && kept), few_frames ps)

-- ---- in display order they are as many

module _ {F : Type 0} where
  one_handed : (b : Bool) (f : F) (o : Option F) → length (option_to_list (if b then Some f else o)) + length (option_to_list (if b then o else Some f)) ≡ length (option_to_list o) + 1
  one_handed true f o = omega arith
  one_handed false f o = omega arith

  held_by : (b : Bool) (q : Holder F) (f : F) → (if b then q else record q { anchor = Some f }).anchor ≡ (if b then q.anchor else Some f)
  held_by true q f = refl
  held_by false q f = refl

  all_handed : (ps : List (F × ℕ)) (q : Holder F) → length (handed q ps) + length (option_to_list (held_after q ps).anchor) ≡ length (option_to_list q.anchor) + length ps
  unfolding handed held_after shown held
  all_handed [] q = omega arith
  all_handed (p ∷ ps) q =
      let b : Bool = q.low_delay || (p.1 == 3) in
      let here = option_to_list (shown q p.0 p.1) in
      let next : Holder F = held q p.0 p.1 in
      let anchor = ap (λ (o : Option F). length (option_to_list o)) (held_by b q p.0) in
      omega (arith, length-append here (handed next ps), all_handed ps next, one_handed b p.0 q.anchor, anchor)

  shown_length : (dropped : F → Bool) (low_delay : Bool) (ps : List (F × ℕ)) → length (frames_alone (Shown dropped low_delay ps)) ≡ length (filter (is_kept dropped) ps)
  shown_length dropped low_delay ps =
      let kept = filter (is_kept dropped) ps in
      let q : Holder F = opening low_delay in
      sym (ap length (handed_shown dropped low_delay ps)) ∙ length-append (handed q kept) (option_to_list (held_after q kept).anchor) ∙ all_handed kept q ∙ omega arith

same_length : {A B C : Type 0} (f : A → B) (g : A → C) (xs : List A) → length (map f xs) ≡ length (map g xs)
same_length f g [] = refl
same_length f g (x ∷ xs) = let more = same_length f g xs in omega (arith, more)

-- the frames of a stream, by its pictures
frames_are : (low_delay : Bool) (ps : Pictures) → length (map (λ (f : Picture × ℕ). crop f.0.frame) (Shown is_dropped low_delay (frames_in ps))) ≡ shown_in ps
frames_are low_delay ps =
    same_length (λ (f : Picture × ℕ). crop f.0.frame) (λ (f : Picture × ℕ). f.0) (Shown is_dropped low_delay (frames_in ps)) ∙ shown_length is_dropped low_delay (frames_in ps)

-- as many are counted, if there are no more pictures than 64 bits can count
pub frames_counted : (text : List ℕ) (tree : Sofar) → Stream text tree → length (pictures tree) ≤ 2 ^ 64 - 1 → shown_by 0 (pictures tree) ≡ length (frames_of tree)
frames_counted text tree stream few =
    let ps = pictures tree in
    let drops : AllDrop ps = events_drop tree.parts at_first no_frames tt in
    let most = few_frames ps in
    shown_are false 0 ps (in_pieces text tree stream).alternates drops (omega arith) ∙ omega (arith, few, most) ∙ sym (frames_are (low_delay_of tree.state.first) ps)

-- ---- how many pieces there are

few_if : (b : Bool) (x y : List (List ℕ)) (n : ℕ) → length x ≤ n → length y ≤ n → length (if b then x else y) ≤ n
few_if true x y n a c = a
few_if false x y n a c = c

few_piece : (bytes : List ℕ) → length (piece_of bytes) ≤ 1
few_piece [] = omega arith
few_piece (b ∷ bs) = omega arith

few_grouped : (us : Units) (phase : Phase) (bytes : List ℕ) → length (grouped phase bytes us) ≤ 1 + length us
unfolding grouped
few_grouped [] phases.Before bytes = omega arith
few_grouped [] phases.Headers bytes = few_piece bytes
few_grouped [] phases.Picture bytes = few_piece bytes
few_grouped (u ∷ us) phases.Before bytes =
    let most : ℕ = 1 + length (u ∷ us) in
    let on : length (grouped phases.Headers u us) ≤ most = omega (arith, few_grouped us phases.Headers u) in
    let off : length (grouped phases.Before [] us) ≤ most = omega (arith, few_grouped us phases.Before []) in
    few_if (nat_eq (slice_index u 3) 0xB3) (grouped phases.Headers u us) (grouped phases.Before [] us) most on off
few_grouped (u ∷ us) phases.Headers bytes =
    let most : ℕ = 1 + length (u ∷ us) in
    let phase = phase_after phases.Headers (slice_index u 3) in
    let last : length ((bytes ++ take 4 u) ∷ []) ≤ most = omega arith in
    let on : length (grouped phase (bytes ++ u) us) ≤ most = omega (arith, few_grouped us phase (bytes ++ u)) in
    few_if (is_end (slice_index u 3)) ((bytes ++ take 4 u) ∷ []) (grouped phase (bytes ++ u) us) most last on
few_grouped (u ∷ us) phases.Picture bytes =
    let most : ℕ = 1 + length (u ∷ us) in
    let phase = phase_after phases.Headers (slice_index u 3) in
    let begins : Bool = begins_piece (slice_index u 3) in
    let next = bytes ∷ grouped phase u us in
    let same = grouped phases.Picture (bytes ++ u) us in
    let last : length (bytes ∷ take 4 u ∷ []) ≤ most = omega arith in
    let on : length next ≤ most = omega (arith, few_grouped us phase u) in
    let off : length same ≤ most = omega (arith, few_grouped us phases.Picture (bytes ++ u)) in
    few_if (is_end (slice_index u 3)) (bytes ∷ take 4 u ∷ []) (if begins then next else same) most last (few_if begins next same most on off)

few_units : (us : Units) → AreUnits us → 4 * length us ≤ length (joined us)
few_units [] a = omega arith
few_units (u ∷ us) a = let more = few_units us a.3 in omega (arith, more, length-append u (joined us), a.0)

-- of a text of fewer bytes than 2^64 there are no more than 64 bits can count
pub few_pieces : (text : List ℕ) → length text < 2 ^ 64 → length (pieces text) ≤ 2 ^ 64 - 1
few_pieces text lt =
    let c = cut_cuts text in
    let us = (cut 0 text).1 in
    omega (arith, lt, few_grouped us phases.Before [], few_units us c.are_units, ap length c.whole, length-append (cut 0 text).0 (joined us))

-- A piece in which no slice is read: the whole and its headers have the same parts.
use Rattle.std.proofs.Common.{◌≡◌, ◌++◌, ℕ, Bool, true, false, cond, List, [], ◌∷◌, Option, Some, None, Ok, Err, refl, sym, ap, subst, ◌∙◌}
use Rattle.m2v_model.specs.declared.fault.FaultKind.{FaultKind}
use Rattle.m2v_model.specs.declared.fault.FaultKind.TheVariants.{MissingMacroblocks}
use Rattle.m2v_model.specs.declared.state.Sequence.{Sequence}
use Rattle.m2v_model.specs.declared.state.Open.{Open}
use Rattle.m2v_model.specs.declared.state.State.{State}
use Rattle.m2v_model.specs.Units.{Units}
use Rattle.m2v_model.specs.States.{is_complete, crowded_by, after_matrices}
use Rattle.m2v_model.specs.Streams.{Part, sequence, group, picture, matrices, slice, unread_slice, skipped_unit, ending, over, after}
use Rattle.m2v_model.specs.Pictures.{Events, pictures_in, picture_of, picture_ended, store_after, Store, told_by, events_from, store_from}
use Rattle.m2v_model.specs.ByPieces.{Between, Course, behind, read_of, units_read, unit_read, after_part}
use Rattle.m2v_model.specs.HeadersOnly.{FrontRead, faulty, final_unit, more}
use Rattle.m2v_model.proofs.FlowLaws.{read_err, read_more, read_last}
use Rattle.m2v_model.proofs.PieceLaws.{placed}
use Rattle.m2v_dec_rows.specs.Headers.{stopped_from, fault_at}
use Rattle.m2v_dec_rows.specs.OnePicture.{NoneBegins}
use Rattle.m2v_dec_rows.specs.Halves.{ReadsNone, state_left, parts_told}
use Rattle.m2v_dec_rows.proofs.Behind.{Outcome, unread_of, open_at, skim_at}
use Rattle.m2v_dec_rows.proofs.Painting.{at_open}
use Rattle.m2v_dec_rows.proofs.Later.{reached, alike_at, none_behind, never_one}

-- what parts tell, with the state that they leave, and the fault behind them, with how much is left at its place
abbrev pub course_told : Between → State → List Part → Option (FaultKind × ℕ) → Course
course_told b left parts None = Ok (read_of b (record { state = left; parts = parts }))
course_told b left parts (Some f) = Err f

pub told_placed : (b : Between) (end : ℕ) (st : State) (parts : List Part) (fault : Option (FaultKind × ℕ)) → placed end (course_told b (state_left st) parts fault) ≡ parts_told b st parts (fault_at end fault)
told_placed b end st parts None = refl
told_placed b end st parts (Some f) = refl

-- one part more
told_more : (b : Between) (left : State) (p : Part) (ps : List Part) (fault : Option (FaultKind × ℕ)) → behind (told_by b.state b.store p) (course_told (after_part b p) left ps fault) ≡ course_told b left (p ∷ ps) fault
unfolding events_from store_from
told_more b left p ps None = refl
told_more b left p ps (Some f) = refl

pub course_more : (b : Between) (left : State) (us mid : Units) (p : Part) (ps : List Part) (fault : Option (FaultKind × ℕ)) → unit_read b.state us ≡ Ok ((true, p), mid) → units_read (after_part b p) mid ≡ course_told (after_part b p) left ps fault
    → units_read b us ≡ course_told b left (p ∷ ps) fault
course_more b left us mid p ps fault e later =
    read_more b us mid true p e refl ∙ ap (behind (told_by b.state b.store p)) later ∙ told_more b left p ps fault

pub course_last : (b : Between) (us mid : Units) (p : Part) → unit_read b.state us ≡ Ok ((false, p), mid) → units_read b us ≡ course_told b (after b.state p) (p ∷ []) None
unfolding events_from store_from
course_last b us mid p e = read_last b us mid false p e refl

-- ---- a picture that is dropped

-- the picture that is open is dropped, and told without slices
pub record Drops (b : Between) (us : Units) (parts : List Part) (fault : Option (FaultKind × ℕ)) (st : State) : Type 0 where
  pub told : units_read b us ≡ course_told b (state_left (stopped_from st parts)) parts fault
  pub drops : ReadsNone (stopped_from st parts).picture
  pub some : (stopped_from st parts).picture ≡ None → ⊥
  pub tell : fault ≡ None → (o : Open) → (stopped_from st parts).picture ≡ Some o
      → (pictures_in (events_from b.state b.store parts) ≡ picture_of o b.store ∷ []) × (store_from b.state b.store parts ≡ picture_ended (Some o) b.store)

complete_unread : (b : Bool) (s : Sequence) (o : Open) → o.slices_unread ≡ true → is_complete (Some s) (Some o) ≡ true
complete_unread b s o e = rw e refl

over_told : (z : State) (s : Sequence) (o : Open) (us mid : Units) → o.slices_unread ≡ true → unit_read (open_at z s o) us ≡ cond (is_complete (Some s) (Some o)) (Ok ((false, over), mid)) (Err (MissingMacroblocks, 0))
    → unit_read (open_at z s o) us ≡ Ok ((false, over), mid)
over_told z s o us mid unread e = e ∙ ap (at_end mid) (complete_unread true s o unread)
  where
    at_end : Units → Bool → Outcome
    at_end mid c = cond c (Ok ((false, over), mid)) (Err (MissingMacroblocks, 0))

unread_is : (o p : Open) → Some (unread_of o) ≡ Some p → unread_of o ≡ p
unread_is o p e = cc

over_tells : (z : State) (s : Sequence) (o : Open) (store : Store) (p : Open) → crowded_by o ≡ 0 → Some (unread_of o) ≡ Some p
    → (pictures_in (events_from (open_at z s o) store (over ∷ [])) ≡ picture_of p store ∷ []) × (store_from (open_at z s o) store (over ∷ []) ≡ picture_ended (Some p) store)
unfolding events_from store_from picture_of
over_tells z s o store p few is =
    let same = unread_is o p is in
    subst (λ (x : Open). (pictures_in (events_from (open_at z s o) store (over ∷ [])) ≡ picture_of x store ∷ []) × (store_from (open_at z s o) store (over ∷ []) ≡ picture_ended (Some x) store)) same
    (ap (λ (n : ℕ). record (picture_of o store) { crowded_row = n } ∷ []) few, refl)

slice_unread : (b : Bool) (row : ℕ) (u : List ℕ) (t : Units) (r : Outcome) → b ≡ true → cond b (Ok ((true, unread_slice row u), t)) r ≡ Ok ((true, unread_slice row u), t)
slice_unread true row u t r e = refl
slice_unread false row u t r e = never_one (sym e)

on_tail : (z : State) (s : Sequence) (o : Open) (us mid t : Units) (p : Part) → mid ≡ t → unit_read (open_at z s o) us ≡ Ok ((true, p), t) → unit_read (open_at z s o) us ≡ Ok ((true, p), mid)
on_tail z s o us mid t p same e = subst (λ (l : Units). unit_read (open_at z s o) us ≡ Ok ((true, p), l)) (sym same) e

-- a part that isn't told more
drops_more : (b : Between) (us mid : Units) (p : Part) (ps : List Part) (fault : Option (FaultKind × ℕ)) (st st2 : State) → unit_read b.state us ≡ Ok ((true, p), mid)
    → told_by b.state b.store p ≡ [] → store_after b.state b.store p ≡ b.store → stopped_from st (p ∷ ps) ≡ stopped_from st2 ps
    → Drops (after_part b p) mid ps fault st2 → Drops b us (p ∷ ps) fault st
unfolding events_from store_from
drops_more b us mid p ps fault st st2 e none store stops h =
    let opens = ap (λ (x : State). x.picture) stops in
    record {
      told = subst (λ (x : State). units_read b us ≡ course_told b (state_left x) (p ∷ ps) fault) (sym stops) (course_more b (state_left (stopped_from st2 ps)) us mid p ps fault e h.told);
      drops = subst (λ (x : State). ReadsNone x.picture) (sym stops) h.drops;
      some = λ closed. h.some (sym opens ∙ closed);
      tell = λ whole o is.
          let t = h.tell whole o (sym opens ∙ is) in
          (ap (λ (es : Events). pictures_in (es ++ events_from (after_part b p).state (after_part b p).store ps)) none ∙ t.0 ∙ ap (λ (f : Store). picture_of o f ∷ []) store, t.1 ∙ ap (picture_ended (Some o)) store);
    }

pub dropped_rest : (z : State) (s : Sequence) (o : Open) (store : Store) (us : Units) (parts : List Part) (fault : Option (FaultKind × ℕ)) (r : FrontRead (skim_at z s o) us parts fault) → o.slices_unread ≡ true → o.dropped ≡ true → crowded_by o ≡ 0 → NoneBegins us
    → Drops (at_open z s o store) us parts fault (skim_at z s o)
unfolding after stopped_from
dropped_rest z s o store us parts fault (faulty {f = f} e) unread drop few n = record {
  told = read_err (at_open z s o store) us f (alike_at z s o us (Err f) n e);
  drops = drop;
  some = λ none. absurd (cc none);
  tell = λ none. absurd (cc none);
}
dropped_rest z s o store us parts fault (final_unit {rest = last} {p = over} e) unread drop few n =
    let a = alike_at z s o us (Ok ((false, over), last)) n e in
    record {
      told = course_last (at_open z s o store) us last over (over_told z s o us last unread a.1);
      drops = drop;
      some = λ none. absurd (cc none);
      tell = λ none p is. over_tells z s o store p few is;
    }
dropped_rest z s o store us parts fault (final_unit {rest = last} {p = sequence x} e) unread drop few n = absurd (alike_at z s o us (Ok ((false, sequence x), last)) n e)
dropped_rest z s o store us parts fault (final_unit {rest = last} {p = group g} e) unread drop few n = absurd (alike_at z s o us (Ok ((false, group g), last)) n e)
dropped_rest z s o store us parts fault (final_unit {rest = last} {p = picture info extension} e) unread drop few n = absurd (alike_at z s o us (Ok ((false, picture info extension), last)) n e)
dropped_rest z s o store us parts fault (final_unit {rest = last} {p = matrices m} e) unread drop few n = never_one (sym (alike_at z s o us (Ok ((false, matrices m), last)) n e).0)
dropped_rest z s o store us parts fault (final_unit {rest = last} {p = slice row x} e) unread drop few n = absurd (alike_at z s o us (Ok ((false, slice row x), last)) n e)
dropped_rest z s o store us parts fault (final_unit {rest = last} {p = unread_slice row u} e) unread drop few n = never_one (sym (alike_at z s o us (Ok ((false, unread_slice row u), last)) n e).0)
dropped_rest z s o store us parts fault (final_unit {rest = last} {p = skipped_unit u} e) unread drop few n = never_one (sym (alike_at z s o us (Ok ((false, skipped_unit u), last)) n e).0)
dropped_rest z s o store us parts fault (final_unit {rest = last} {p = ending} e) unread drop few n = absurd (alike_at z s o us (Ok ((false, ending), last)) n e)
dropped_rest z s o store us parts fault (more {mid = mid} {p = sequence x} e later) unread drop few n = absurd (alike_at z s o us (Ok ((true, sequence x), mid)) n e)
dropped_rest z s o store us parts fault (more {mid = mid} {p = group g} e later) unread drop few n = absurd (alike_at z s o us (Ok ((true, group g), mid)) n e)
dropped_rest z s o store us parts fault (more {mid = mid} {p = picture info extension} e later) unread drop few n = absurd (alike_at z s o us (Ok ((true, picture info extension), mid)) n e)
dropped_rest z s o store us parts fault (more {mid = mid} {p = slice row x} e later) unread drop few n = absurd (alike_at z s o us (Ok ((true, slice row x), mid)) n e)
dropped_rest z s o store us parts fault (more {mid = mid} {p = ending} e later) unread drop few n = absurd (alike_at z s o us (Ok ((true, ending), mid)) n e)
dropped_rest z s o store us parts fault (more {mid = mid} {p = over} e later) unread drop few n = never_one (alike_at z s o us (Ok ((true, over), mid)) n e).0
dropped_rest z s o store us parts fault (more {mid = mid} {p = matrices m} {ps = ps} e later) unread drop few n =
    let a = alike_at z s o us (Ok ((true, matrices m), mid)) n e in
    let h = dropped_rest (after_matrices z m) s o store mid ps fault later unread drop few (none_behind us mid n a.1) in
    drops_more (at_open z s o store) us mid (matrices m) ps fault _ _ (on_tail z s o us mid _ (matrices m) a.1 a.3) refl refl refl h
dropped_rest z s o store us parts fault (more {mid = mid} {p = skipped_unit u} {ps = ps} e later) unread drop few n =
    let a = alike_at z s o us (Ok ((true, skipped_unit u), mid)) n e in
    let h = dropped_rest z s o store mid ps fault later unread drop few (none_behind us mid n a.1) in
    drops_more (at_open z s o store) us mid (skipped_unit u) ps fault _ _ (on_tail z s o us mid _ (skipped_unit u) a.1 a.2) refl refl refl h
dropped_rest z s o store us parts fault (more {mid = mid} {p = unread_slice row u} {ps = ps} e later) unread drop few n =
    let a = alike_at z s o us (Ok ((true, unread_slice row u), mid)) n e in
    let h = dropped_rest z s (reached o true row) store mid ps fault later unread drop few (none_behind us mid n a.1) in
    let read = a.4 ∙ slice_unread o.slices_unread row u _ _ unread in
    drops_more (at_open z s o store) us mid (unread_slice row u) ps fault _ _ (on_tail z s o us mid _ (unread_slice row u) a.1 read) refl refl refl h

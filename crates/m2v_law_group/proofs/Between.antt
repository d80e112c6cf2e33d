-- The pictures of the chosen groups among what is told of the whole stream.
use Rattle.std.proofs.Common.{◌≡◌, ℕ, ◌+◌, ◌≤◌, Bool, true, false, List, [], ◌∷◌, ◌++◌, Option, Some, None, inl, refl, sym, ap, subst, ◌∙◌, append_assoc, append-nil, arith}
use Rattle.std.specs.Prelude.{nat_eq, is_some}
use Rattle.std.proofs.lemmas.Bool.{both_ways, eqb-true, cond-true}
use Rattle.m2v_bits.specs.Syntax.{seq, done, choose}
use Rattle.m2v_bits.proofs.SyntaxLaws.{good}
use Rattle.m2v_model.specs.m2v_macroblock.m2v_head.declared.group.GroupInfo.{GroupInfo}
use Rattle.m2v_model.specs.declared.state.Open.{Open}
use Rattle.m2v_model.specs.declared.state.State.{State}
use Rattle.m2v_model.specs.Units.{Units, unit_bits}
use Rattle.m2v_model.specs.States.{none_waits}
use Rattle.m2v_model.specs.Streams.{Part, Among, sequence, group, picture, ending, over, after, value_of, onward, final, later_unit, known_unit}
use Rattle.m2v_model.specs.Pictures.{Store, Pictures, Event, Events, sequence_header, group_header, pictures_in, closed, store_after, events_from, store_from}
use Rattle.m2v_model.specs.Pieces.{is_end, begins_piece}
use Rattle.m2v_model.specs.ByPieces.{unit_read}
use Rattle.m2v_model.proofs.EventLaws.{pictures_in-append}
use Rattle.m2v_model.proofs.StreamLaws.{end_unit_lawful, group_unit_lawful, onward_lawful, final_lawful}
use Rattle.m2v_model.proofs.ShiftLaws.{BeginsPiece, NoEnds}
use Rattle.m2v_model.proofs.SplitLaws.{IsKnown}
use Rattle.m2v_law_group.specs.Groups.{is_picture, is_sequence, is_group, has_picture, group_headers}
use Rattle.m2v_law_group.specs.Chosen.{before_header}
use Rattle.m2v_law_group.proofs.Runs.{Run, stop, step, Ends, finish, going, none_ends, split, known_there}
use Rattle.m2v_law_group.proofs.Parts.{PartOf, of_sequence, of_group, of_picture, of_other, part_of}
use Rattle.m2v_law_group.proofs.Lists.{Behind}
use Rattle.m2v_law_group.proofs.Leads.{NoPictures, no_pictures, groups_counted}
use Rattle.m2v_law_group.proofs.Told.{events_then, headers_in, headers_then, headers_told, before_there, before_all}
use Rattle.m2v_law_group.proofs.Tens.{IsFinal, final_part, final_told, quiet, run_known}
use Rattle.m2v_law_group.proofs.Start.{paired_there}
use Rattle.m2v_law_group.proofs.Core.{first_read}

-- ---- the end code, and group headers

final_off : (s : Among Part) (p : Part) (us mid : Units) → (final s).Stands (true, p) us mid → ⊥
unfolding final seq done
final_off s p us mid h = let wrong = ap (λ (y : Bool × Part). y.0) h.3.0 in absurd cc

onward_off : (s : Among Part) (p : Part) (us mid : Units) → (onward s).Stands (false, p) us mid → ⊥
unfolding onward seq done
onward_off s p us mid h = let wrong = ap (λ (y : Bool × Part). y.0) h.3.0 in absurd cc

end_by : (st : State) (start : ℕ) (u : List ℕ) (us mid : Units) (p : Part) → IsKnown st → (known_unit st start 0xB7 u).read us ≡ good ((true, p), mid) → ⊥
unfolding known_unit later_unit choose
end_by st start u us mid p k e = final_off _ p us mid ((final_lawful (end_unit_lawful st start)).found (true, p) us mid (sym (cond-true (is_some st.sequence) _ _ k) ∙ e))

group_by : (st : State) (start : ℕ) (u : List ℕ) (us mid : Units) (p : Part) → IsKnown st → (known_unit st start 0xB8 u).read us ≡ good ((false, p), mid) → ⊥
unfolding known_unit later_unit choose
group_by st start u us mid p k e = onward_off _ p us mid ((onward_lawful (group_unit_lawful st start u)).found (false, p) us mid (sym (cond-true (is_some st.sequence) _ _ k) ∙ e))

-- nothing follows an end code
end_ends : (st : State) (u : List ℕ) (us mid : Units) (p : Part) → is_end (value_of u) ≡ true → IsKnown st → unit_read st (u ∷ us) ≡ good ((true, p), mid) → ⊥
unfolding unit_read is_end
end_ends st u us mid p on k e = end_by st (unit_bits (u ∷ us)) u us mid p k (subst (λ (n : ℕ). (known_unit st (unit_bits (u ∷ us)) n u).read us ≡ good ((true, p), mid)) (eqb-true (value_of u) 0xB7 on) e)

group_goes : (st : State) (u : List ℕ) (us mid : Units) (p : Part) → is_group u ≡ true → IsKnown st → unit_read st (u ∷ us) ≡ good ((false, p), mid) → ⊥
unfolding unit_read
group_goes st u us mid p on k e = group_by st (unit_bits (u ∷ us)) u us mid p k (subst (λ (n : ℕ). (known_unit st (unit_bits (u ∷ us)) n u).read us ≡ good ((false, p), mid)) (eqb-true (value_of u) 0xB8 on) e)

nothing_read : (st : State) (p : Part) (mid : Units) → unit_read st [] ≡ good ((true, p), mid) → ⊥
nothing_read st p mid e = let wrong = none_ends st (true, p) mid e in absurd cc

-- where nothing or an end code stands, one part ends the stream
pub final_only : {st z : State} {us rest : Units} {ps : List Part} → Ends st us ps z rest → Behind us → IsKnown st → (p : Part) × (ps ≡ p ∷ []) × IsFinal p
final_only {st} {us = us} {rest = rest} (finish {p = p} e) b k = (p, refl, final_part st us rest p e)
final_only {st} {us = []} (going {mid = mid} {p = p} e later) b k = absurd (nothing_read st p mid e)
final_only {st} {us = u ∷ us} (going {mid = mid} {p = p} e later) b k = absurd (end_ends st u us mid p b k e)

final_waits : (st : State) (p : Part) → IsFinal p → (after st p).waiting ≡ st.waiting
unfolding after
final_waits st ending f = refl
final_waits st over f = refl
final_waits st _ f = absurd f

-- the first unit, where there is one, is no picture
abbrev pub OtherFirst : Units → Type 0
OtherFirst [] = Unit {0}
OtherFirst (u ∷ us) = is_picture u ≡ false

-- no second field is due where a piece begins that isn't a picture, or at the end
pub paired_end : {st z : State} {us rest : Units} {ps : List Part} → Ends st us ps z rest → BeginsPiece us → OtherFirst us → IsKnown st → none_waits z.waiting ≡ true → none_waits st.waiting ≡ true
unfolding has_picture
paired_end {st} {us = []} {rest = rest} (finish {p = p} e) b n k w = ap none_waits (sym (final_waits st p (final_part st [] rest p e))) ∙ w
paired_end {st} {us = []} (going {mid = mid} {p = p} e later) b n k w = absurd (nothing_read st p mid e)
paired_end {st} {us = u ∷ us} {rest = rest} (finish {p = p} e) b n k w = paired_there st u us rest (false, p) b n k e
paired_end {st} {us = u ∷ us} (going {mid = mid} {p = p} e later) b n k w = paired_there st u us mid (true, p) b n k e

-- ---- header units up to the next group

other_piece : (u : List ℕ) → is_sequence u ≡ false → is_group u ≡ false → is_picture u ≡ false → is_end (value_of u) ≡ false → begins_piece (value_of u) ≡ false
unfolding begins_piece is_end
other_piece u a b c d = rw (a, b, c, d) refl

-- a header, of which nothing is told but itself
header_by : (z y : State) (zs : Store) (p : Part) (e : Event) (mid : Units) (later : List Part) → (after z p).picture ≡ None → pictures_in (e ∷ []) ≡ [] → NoPictures later → Run (after z p) mid later y []
    → pictures_in ((closed z.picture zs ++ e ∷ []) ++ events_from (after z p) (store_after z zs p) later) ++ pictures_in (closed y.picture (store_from (after z p) (store_after z zs p) later)) ≡ pictures_in (closed z.picture zs) ++ []
header_by z y zs p e mid later none silent n run =
    let q = quiet run (store_after z zs p) none n in
    let before = closed z.picture zs in
    let rest = events_from (after z p) (store_after z zs p) later in
    let told : pictures_in ((before ++ e ∷ []) ++ rest) ≡ pictures_in before =
    pictures_in-append (before ++ e ∷ []) rest ∙ ap (λ (l : Pictures). pictures_in (before ++ e ∷ []) ++ l) q.told ∙ append-nil _
    ∙ pictures_in-append before (e ∷ []) ∙ ap (λ (l : Pictures). pictures_in before ++ l) silent ∙ append-nil _ in
    ap (λ (l : Pictures). l ++ pictures_in (closed y.picture (store_from (after z p) (store_after z zs p) later))) told
    ∙ ap (λ (o : Option Open). pictures_in before ++ pictures_in (closed o (store_from (after z p) (store_after z zs p) later))) q.picture

heads_by : (z y : State) (zs : Store) (u : List ℕ) (us mid : Units) (p : Part) (later : List Part) → PartOf u us p mid → begins_piece (value_of u) ≡ true → is_end (value_of u) ≡ false → NoPictures (p ∷ later) → Run (after z p) mid later y []
    → pictures_in (events_from z zs (p ∷ later)) ++ pictures_in (closed y.picture (store_from z zs (p ∷ later))) ≡ pictures_in (closed z.picture zs) ++ []
unfolding events_from store_from after
heads_by z y zs u us mid p later (of_sequence {s = s} v on e value) b off n run = header_by z y zs (sequence s) (sequence_header s) mid later refl refl n run
heads_by z y zs u us mid p later (of_group {g = g} end on stands e) b off n run = header_by z y zs (group g) (group_header g) mid later refl refl n run
heads_by z y zs u us mid p later (of_picture v on e value kind structure) b off n run = absurd n
heads_by z y zs u us mid p later (of_other c d f o e) b off n run = absurd (both_ways _ (other_piece u c d f off) b)

none_run : {st z : State} {t rest : Units} {ps : List Part} → Run st t ps z rest → t ≡ [] → (store : Store) → pictures_in (events_from st store ps) ++ pictures_in (closed z.picture (store_from st store ps)) ≡ pictures_in (closed st.picture store) ++ []
unfolding events_from store_from
none_run {st} stop e store = sym (append-nil (pictures_in (closed st.picture store)))
none_run {st} (step {mid = mid} {p = p} r later) e store = absurd (nothing_read st p mid (subst (λ (l : Units). unit_read st l ≡ good ((true, p), mid)) e r))

-- header units tell the picture that was open, and no other
heads_told : (z y : State) (zs : Store) (us : Units) (ps : List Part) → Run z us ps y [] → IsKnown z → BeginsPiece us → NoEnds us → has_picture us ≡ false
    → pictures_in (events_from z zs ps) ++ pictures_in (closed y.picture (store_from z zs ps)) ≡ pictures_in (closed z.picture zs) ++ []
heads_told z y zs [] ps r k b n none = none_run r refl zs
heads_told z y zs (u ∷ us) ps r k b n none =
    let f = first_read z y u us ps r in
    let nopictures = subst NoPictures f.parts (no_pictures r k none) in
    let part = part_of z u us f.mid f.p (inl k) f.read in
    subst (λ (l : List Part). pictures_in (events_from z zs l) ++ pictures_in (closed y.picture (store_from z zs l)) ≡ pictures_in (closed z.picture zs) ++ []) (sym f.parts)
    (heads_by z y zs u us f.mid f.p f.later part b n.0 nopictures f.run)

-- ---- up to the next group's header, or to the end

-- the units behind those that are chosen: none of the stream, or header units and the next group's header
abbrev pub Next : ℕ → ℕ → Units → Type 0
Next own count [] = own ≤ count
Next own count (d ∷ ds) = (hs : Units) × (f : List ℕ) × (fs : Units) × (d ∷ ds ≡ hs ++ f ∷ fs) × BeginsPiece hs × (has_picture hs ≡ false) × (is_group f ≡ true) × (own + group_headers hs ≡ count)

closed_count : (o : Option Open) (store : Store) → headers_in (closed o store) ≡ 0
closed_count None store = refl
closed_count (Some p) store = refl

group_next : {st z : State} {t rest : Units} {ps : List Part} → Ends st t ps z rest → (f : List ℕ) (fs : Units) → t ≡ f ∷ fs → is_group f ≡ true → IsKnown st → (g : GroupInfo) × (qs : List Part) × (ps ≡ group g ∷ qs)
group_next {st} {rest = rest} (finish {p = p} h) f fs e on k = absurd (group_goes st f fs rest p on k (subst (λ (l : Units). unit_read st l ≡ good ((false, p), rest)) e h))
group_next {st} (going {mid = mid} {p = p} {ps = ps} h later) f fs e on k = group_is ps (part_of st f fs mid p (inl k) (subst (λ (l : Units). unit_read st l ≡ good ((true, p), mid)) e h)) on
  where
    two_values : (value a b : ℕ) → nat_eq value a ≡ true → nat_eq value b ≡ true → nat_eq a b ≡ false → ⊥
    two_values value a b p q off = both_ways (nat_eq a b) off (subst (λ (n : ℕ). nat_eq n b ≡ true) (eqb-true value a p) q)

    group_is : {p : Part} (ps : List Part) → PartOf f fs p mid → is_group f ≡ true → (g : GroupInfo) × (qs : List Part) × (p ∷ ps ≡ group g ∷ qs)
    group_is ps (of_sequence v a e value) on = absurd (two_values (value_of f) 0xB3 0xB8 a on refl)
    group_is ps (of_group {g = g} end a stands e) on = (g, ps, refl)
    group_is ps (of_picture v a e value kind structure) on = absurd (two_values (value_of f) 0x00 0xB8 a on refl)
    group_is ps (of_other a b c o e) on = absurd (both_ways _ b on)

no_ends_front : (us vs : Units) → NoEnds (us ++ vs) → NoEnds us
no_ends_front [] vs n = tt
no_ends_front (u ∷ us) vs n = (n.0, no_ends_front us vs n.1)

group_begins : (u : List ℕ) → is_group u ≡ true → begins_piece (value_of u) ≡ true
unfolding begins_piece
group_begins u on = rw (eqb-true (value_of u) 0xB8 on) refl

group_events_of : (y : State) (ys : Store) (g : GroupInfo) (qs : List Part) → events_from y ys (group g ∷ qs) ≡ (closed y.picture ys ++ group_header g ∷ []) ++ events_from (after y (group g)) (store_after y ys (group g)) qs
unfolding events_from
group_events_of y ys g qs = refl

gathered : (es hes cs rest : Events) (g : GroupInfo) → es ++ (hes ++ ((cs ++ group_header g ∷ []) ++ rest)) ≡ (es ++ (hes ++ cs)) ++ group_header g ∷ rest
gathered es hes cs rest g =
    ap (λ (l : Events). es ++ (hes ++ l)) (append_assoc cs (group_header g ∷ []) rest)
    ∙ ap (λ (l : Events). es ++ l) (sym (append_assoc hes cs (group_header g ∷ rest)))
    ∙ sym (append_assoc es (hes ++ cs) (group_header g ∷ rest))

-- the pictures from a group's header on, up to that of the next group that isn't chosen
pub pictures_between : (gi : GroupInfo) (w z x : State) (sw : Store) (later rest : Units) (ps others : List Part) (count : ℕ) (ds rs : Units) → Run w later ps z [] → IsKnown w → Ends z (ds ++ rs) others x rest → NoEnds ds → Behind rs → Next (1 + group_headers later) count ds
    → pictures_in (before_header count (group_header gi ∷ (events_from w sw ps ++ events_from z (store_from w sw ps) others))) ≡ pictures_in (events_from w sw ps) ++ (pictures_in (closed z.picture (store_from w sw ps)) ++ [])
unfolding group_headers
pictures_between gi w z x sw later rest ps others count [] rs run k h n b next =
    let zs = store_from w sw ps in
    let es = events_from w sw ps in
    let kz = run_known run k in
    let f = final_only h b kz in
    let told : events_from z zs others ≡ closed z.picture zs = ap (events_from z zs) f.1 ∙ final_told z zs f.0 f.2 in
    let own = groups_counted run (inl k) in
    let c1 = headers_told w sw ps in
    let c2 = headers_then es (closed z.picture zs) in
    let c3 = closed_count z.picture zs in
    let none : group_headers [] ≡ 0 = refl in
    let le : headers_in (group_header gi ∷ (es ++ closed z.picture zs)) ≤ count = omega (arith, own, c1, c2, c3, next, none) in
    ap (λ (l : Events). pictures_in (before_header count (group_header gi ∷ (es ++ l)))) told
    ∙ ap pictures_in (before_all (group_header gi ∷ (es ++ closed z.picture zs)) count le)
    ∙ pictures_in-append es (closed z.picture zs)
    ∙ ap (λ (l : Pictures). pictures_in es ++ l) (sym (append-nil (pictures_in (closed z.picture zs))))
pictures_between gi w z x sw later rest ps others count (d ∷ ds) rs run k h n b (hs, f, fs, e, begins, none, on, c) =
    let zs = store_from w sw ps in
    let es = events_from w sw ps in
    let kz = run_known run k in
    let ends = subst (λ (l : Units). Ends z l others x rest) (ap (λ (l : Units). l ++ rs) e ∙ append_assoc hs (f ∷ fs) rs) h in
    let parts = no_ends_front hs (f ∷ fs) (subst NoEnds e n) in
    let i = split ends hs ((f ∷ fs) ++ rs) refl (group_begins f on) parts (known_there z hs kz) in
    let y = i.between in
    let ys = store_from z zs i.mine in
    let ky = run_known i.run kz in
    let next = group_next i.later f (fs ++ rs) refl on ky in
    let hes = events_from z zs i.mine in
    let told : events_from z zs others ≡ hes ++ ((closed y.picture ys ++ group_header next.0 ∷ []) ++ events_from (after y (group next.0)) (store_after y ys (group next.0)) next.1) =
    ap (events_from z zs) i.parts ∙ events_then i.run zs i.others ∙ ap (λ (l : List Part). hes ++ events_from y ys l) next.2 ∙ ap (λ (l : Events). hes ++ l) (group_events_of y ys next.0 next.1) in
    let front = group_header gi ∷ (es ++ (hes ++ closed y.picture ys)) in
    let rest = events_from (after y (group next.0)) (store_after y ys (group next.0)) next.1 in
    let all : group_header gi ∷ (es ++ (hes ++ ((closed y.picture ys ++ group_header next.0 ∷ []) ++ rest))) ≡ front ++ group_header next.0 ∷ rest = ap (λ (l : Events). group_header gi ∷ l) (gathered es hes (closed y.picture ys) rest next.0) in
    let own = groups_counted run (inl k) in
    let heads = groups_counted i.run (inl kz) in
    let c1 = headers_told w sw ps in
    let c2 = headers_told z zs i.mine in
    let c3 = closed_count y.picture ys in
    let c4 = headers_then es (hes ++ closed y.picture ys) in
    let c5 = headers_then hes (closed y.picture ys) in
    let nothing : group_headers [] ≡ 0 = refl in
    let number : count ≡ headers_in front = omega (arith, own, heads, c1, c2, c3, c4, c5, c, nothing) in
    ap (λ (l : Events). pictures_in (before_header count (group_header gi ∷ (es ++ l)))) told
    ∙ ap (λ (l : Events). pictures_in (before_header count l)) all
    ∙ ap (λ (m : ℕ). pictures_in (before_header m (front ++ group_header next.0 ∷ rest))) number
    ∙ ap pictures_in (before_there front rest next.0)
    ∙ pictures_in-append es (hes ++ closed y.picture ys)
    ∙ ap (λ (l : Pictures). pictures_in es ++ l) (pictures_in-append hes (closed y.picture ys) ∙ heads_told z y zs hs i.mine i.run kz begins parts none)

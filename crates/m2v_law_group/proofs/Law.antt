-- The law of a cut.
use Rattle.std.proofs.Common.{◌≡◌, ℕ, ◌+◌, Bool, true, false, List, [], ◌∷◌, ◌++◌, Option, Some, None, ◌⊎◌, inl, inr, refl, sym, ap, subst, ◌∙◌, append_assoc, arith}
use Rattle.std.specs.Prelude.{nat_eq, is_some, ◌||◌}
use Rattle.std.proofs.lemmas.Bool.{both_ways, eqb-true}
use Rattle.m2v_bits.specs.Syntax.{done, choose}
use Rattle.m2v_bits.proofs.SyntaxLaws.{good, good_is}
use Rattle.m2v_model.specs.m2v_macroblock.m2v_head.declared.group.GroupInfo.{GroupInfo}
use Rattle.m2v_model.specs.declared.fault.FaultKind.{FaultKind}
use Rattle.m2v_model.specs.declared.state.Sequence.{Sequence}
use Rattle.m2v_model.specs.declared.state.Open.{Open}
use Rattle.m2v_model.specs.declared.state.State.{State}
use Rattle.m2v_model.specs.Units.{Units}
use Rattle.m2v_model.specs.States.{at_first, none_waits}
use Rattle.m2v_model.specs.Streams.{Part, sequence, group, skipped_unit, after, value_of, known_unit}
use Rattle.m2v_model.specs.Pictures.{Store, Pictures, Events, sequence_header, group_header, coded_picture, no_frames, pictures_in, closed, picture_ended, store_after, events_from, store_from}
use Rattle.m2v_model.specs.Pieces.{begins_piece}
use Rattle.m2v_model.specs.ByPieces.{unit_read}
use Rattle.m2v_model.proofs.ShiftLaws.{BeginsPiece, NoEnds}
use Rattle.m2v_model.proofs.SplitLaws.{IsKnown, known_after}
use Rattle.m2v_law_group.specs.Groups.{is_picture, is_sequence, is_group, has_picture, has_sequence, group_headers, from_sequence}
use Rattle.m2v_law_group.specs.Chosen.{before_header, from_header, last_sequence}
use Rattle.m2v_law_group.proofs.Runs.{Run, stop, step, Ends, finish, going, split, KnownThere, none_ends}
use Rattle.m2v_law_group.proofs.Parts.{PartOf, of_sequence, of_group, of_picture, of_other, part_of}
use Rattle.m2v_law_group.proofs.Lists.{Behind, or_parts, headers_append}
use Rattle.m2v_law_group.proofs.Leads.{NoPictures, NoSequences, no_pictures, no_sequences, pictures_step, groups_of, groups_counted, is_first_sequence}
use Rattle.m2v_law_group.proofs.Told.{events_then, headers_in, headers_then, headers_told, from_there, before_there, last_then, last_kept, TenEvents}
use Rattle.m2v_law_group.proofs.Tens.{TenHolds, ten_parts, ten_front, quiet, headers_kept, run_known}
use Rattle.m2v_law_group.proofs.Start.{IsSequence, sequence_start, header_by, complete_there}
use Rattle.m2v_law_group.proofs.Core.{FirstRead, first_read, IsCut, SequenceRun, GroupRun, AreHeads, Whole, cut_read, chosen_pictures, store_at}
use Rattle.m2v_law_group.proofs.Between.{OtherFirst, paired_end, Next, pictures_between}

-- ---- units before the first sequence header

skip_read : (u : List ℕ) (us : Units) → is_sequence u ≡ false → unit_read at_first (u ∷ us) ≡ good ((true, skipped_unit u), us)
unfolding unit_read known_unit choose done
skip_read u us off = rw off refl

record Skipped (u : List ℕ) (us : Units) (ps : List Part) (z : State) (rest : Units) : Type 0 where
  later : List Part
  parts : ps ≡ skipped_unit u ∷ later
  ends : Ends at_first us later z rest

skip_first : {st z : State} {t rest : Units} {ps : List Part} → Ends st t ps z rest → (u : List ℕ) (us : Units) → st ≡ at_first → t ≡ u ∷ us → is_sequence u ≡ false → Skipped u us ps z rest
unfolding after
skip_first {st} {t = t} {rest = rest} (finish {p = p} h) u us a e off =
    let own : unit_read at_first (u ∷ us) ≡ good ((false, p), rest) = subst (λ (s : State). unit_read s (u ∷ us) ≡ good ((false, p), rest)) a (subst (λ (l : Units). unit_read st l ≡ good ((false, p), rest)) e h) in
    let pair = good_is {K = FaultKind} ((false, p), rest) ((true, skipped_unit u), us) (sym own ∙ skip_read u us off) in
    let wrong : false ≡ true = ap (λ (y : (Bool × Part) × Units). (y.0).0) pair in
    absurd cc
skip_first {st} {z} {t = t} {rest = rest} (going {mid = mid} {p = p} {ps = ps} h later) u us a e off =
    let own : unit_read at_first (u ∷ us) ≡ good ((true, p), mid) = subst (λ (s : State). unit_read s (u ∷ us) ≡ good ((true, p), mid)) a (subst (λ (l : Units). unit_read st l ≡ good ((true, p), mid)) e h) in
    let same = good_is {K = FaultKind} ((true, p), mid) ((true, skipped_unit u), us) (sym own ∙ skip_read u us off) in
    let part : p ≡ skipped_unit u = ap (λ (y : (Bool × Part) × Units). (y.0).1) same in
    let left : mid ≡ us = ap (λ (y : (Bool × Part) × Units). y.1) same in
    record {
      later = ps;
      parts = ap (λ (x : Part). x ∷ ps) part;
      ends = subst (λ (l : Units). Ends at_first l ps z rest) left (subst (λ (s : State). Ends s mid ps z rest) a (subst (λ (x : Part). Ends (after st x) mid ps z rest) part later));
    }

skip_step : (u : List ℕ) (us : Units) (s : Bool) (ps : List Part) (z : State) (rest : Units) → is_sequence u ≡ s → ((qs : List Part) → Ends at_first us qs z rest → (rs : List Part) × Ends at_first (from_sequence us) rs z rest × (events_from at_first no_frames qs ≡ events_from at_first no_frames rs))
    → Ends at_first (u ∷ us) ps z rest → (rs : List Part) × Ends at_first (from_sequence (u ∷ us)) rs z rest × (events_from at_first no_frames ps ≡ events_from at_first no_frames rs)
unfolding from_sequence events_from after
skip_step u us true ps z rest e ih h = rw e (ps, h, refl)
skip_step u us false ps z rest e ih h =
    let k = skip_first h u us refl refl e in
    let i = ih k.later k.ends in
    rw e (i.0, i.1, ap (events_from at_first no_frames) k.parts ∙ i.2)

pub skip : (us : Units) (ps : List Part) (z : State) (rest : Units) → Ends at_first us ps z rest → (rs : List Part) × Ends at_first (from_sequence us) rs z rest × (events_from at_first no_frames ps ≡ events_from at_first no_frames rs)
unfolding from_sequence
skip [] ps z rest h = (ps, h, refl)
skip (u ∷ us) ps z rest h = skip_step u us (is_sequence u) ps z rest refl (λ qs g. skip us qs z rest g) h

-- ---- before the chosen group

-- what is told behind other events goes by the same rule
ten_suffix : (fresh : Bool) (es fs : Events) → TenEvents fresh (es ++ fs) → (f : Bool) × TenEvents f fs
ten_suffix fresh [] fs h = (fresh, h)
ten_suffix fresh (sequence_header s ∷ es) fs h = ten_suffix fresh es fs h
ten_suffix fresh (group_header g ∷ es) fs h = ten_suffix true es fs h
ten_suffix fresh (coded_picture p ∷ es) fs h = ten_suffix false es fs h.1

-- units from the first sequence header on
known_first : (pre us : Units) → is_first_sequence (pre ++ us) ≡ true → KnownThere at_first pre
known_first [] us h = tt
known_first (u ∷ pre) us h = h

first_or_none : (pre us : Units) → is_first_sequence (pre ++ us) ≡ true → (pre ≡ []) ⊎ (is_first_sequence pre ≡ true)
first_or_none [] us h = inl refl
first_or_none (u ∷ pre) us h = inr h

no_more : {A : Type 0} (st : State) (p : Part) (mid : Units) → unit_read st [] ≡ good ((true, p), mid) → A
no_more st p mid e = let wrong = none_ends st (true, p) mid e in absurd cc

known_behind : (st : State) (u : List ℕ) (us mid : Units) (p : Part) → is_sequence u ≡ true → unit_read st (u ∷ us) ≡ good ((true, p), mid) → IsKnown (after st p)
unfolding after
known_behind st u us mid p on e = let q = sequence_start st u us mid p on e in subst (λ (x : Part). IsKnown (after st x)) (sym q.part) refl

none_before : {st z : State} {us rest : Units} {ps : List Part} → Run st us ps z rest → (us ≡ []) ⊎ (is_first_sequence us ≡ true) → has_picture us ≡ false → NoPictures ps
none_before stop k n = tt
none_before {st} {us = []} (step {mid = mid} {p = p} e later) k n = no_more st p mid e
none_before {st} {us = u ∷ us} (step {mid = mid} {p = p} {ps = ps} e later) (inl k) n = let wrong : u ∷ us ≡ [] = k in absurd cc
none_before {st} {us = u ∷ us} (step {mid = mid} {p = p} {ps = ps} e later) (inr k) n =
    pictures_step u us mid p ps (part_of st u us mid p (inr k) e) n (λ l. no_pictures later (known_behind st u us mid p k e) l)

no_headers : group_headers [] ≡ 0
unfolding group_headers
no_headers = refl

counted_before : {st z : State} {us rest : Units} {ps : List Part} → Run st us ps z rest → (us ≡ []) ⊎ (is_first_sequence us ≡ true) → group_headers us ≡ groups_of ps + group_headers rest
counted_before {us = us} stop k = omega (arith, no_headers)
counted_before {st} {us = []} (step {mid = mid} {p = p} e later) k = no_more st p mid e
counted_before {st} {us = u ∷ us} (step {mid = mid} {p = p} {ps = ps} e later) (inl k) = let wrong : u ∷ us ≡ [] = k in absurd cc
counted_before {st} {us = u ∷ us} (step {mid = mid} {p = p} {ps = ps} e later) (inr k) = groups_counted (step e later) (inr k)

-- the extension behind a sequence header is no picture and no sequence header
record BehindSequence (pm mid : Units) : Type 0 where
  no_picture : has_picture mid ≡ false
  no_sequence : has_sequence mid ≡ false

behind_sequence : (h : List ℕ) (pm mid : Units) (p : Part) → PartOf h pm p mid → is_sequence h ≡ true → has_picture pm ≡ false → has_sequence pm ≡ false → BehindSequence pm mid
unfolding has_picture has_sequence
behind_sequence h pm mid p (of_sequence v on e value) is n s =
    let a : has_picture (v ∷ mid) ≡ false = ap has_picture (sym e) ∙ n in
    let b : has_sequence (v ∷ mid) ≡ false = ap has_sequence (sym e) ∙ s in
    record { no_picture = (or_parts (is_picture v) (has_picture mid) a).1; no_sequence = (or_parts (is_sequence v) (has_sequence mid) b).1 }
behind_sequence h pm mid p (of_group end on stands e) is n s = record { no_picture = ap has_picture e ∙ n; no_sequence = ap has_sequence e ∙ s }
behind_sequence h pm mid p (of_picture v on e value kind structure) is n s =
    let a : has_picture (v ∷ mid) ≡ false = ap has_picture (sym e) ∙ n in
    let b : has_sequence (v ∷ mid) ≡ false = ap has_sequence (sym e) ∙ s in
    record { no_picture = (or_parts (is_picture v) (has_picture mid) a).1; no_sequence = (or_parts (is_sequence v) (has_sequence mid) b).1 }
behind_sequence h pm mid p (of_other a b c o e) is n s = record { no_picture = ap has_picture e ∙ n; no_sequence = ap has_sequence e ∙ s }

-- the group header's part
record GroupRead (b : State) (g : List ℕ) (later mid : Units) (p : Part) : Type 0 where
  info : GroupInfo
  part : p ≡ group info
  rest : mid ≡ later

group_read : (b : State) (g : List ℕ) (later mid : Units) (p : Part) → PartOf g later p mid → is_group g ≡ true → GroupRead b g later mid p
group_read b g later mid p (of_sequence v on e value) is = absurd (two (value_of g) 0xB3 0xB8 on is refl)
  where
    two : (value x y : ℕ) → nat_eq value x ≡ true → nat_eq value y ≡ true → nat_eq x y ≡ false → ⊥
    two value x y p q off = both_ways (nat_eq x y) off (subst (λ (n : ℕ). nat_eq n y ≡ true) (eqb-true value x p) q)
group_read b g later mid p (of_group {g = info} end on stands e) is = record { info = info; part = refl; rest = e }
group_read b g later mid p (of_picture v on e value kind structure) is = absurd (two (value_of g) 0x00 0xB8 on is refl)
  where
    two : (value x y : ℕ) → nat_eq value x ≡ true → nat_eq value y ≡ true → nat_eq x y ≡ false → ⊥
    two value x y p q off = both_ways (nat_eq x y) off (subst (λ (n : ℕ). nat_eq n y ≡ true) (eqb-true value x p) q)
group_read b g later mid p (of_other x y z o e) is = absurd (both_ways _ y is)

-- ---- the cut of units

-- a cut of units that were read, and what it shows by what is told of the whole
pub record CutOf (changed : Bool) (from count : ℕ) (units : Units) (es : Events) : Type 0 where
  pub s : Sequence
  pub shown : Pictures
  pub cut : IsCut changed units s shown
  pub last : last_sequence None (before_header from es) ≡ Some s
  pub pictures : pictures_in (before_header count (from_header from es)) ≡ shown

-- how the units of a stream are parted, and what is known of the parts
pub record Parted (changed : Bool) (count : ℕ) (pre : Units) (h : List ℕ) (pm : Units) (g : List ℕ) (body ds rs : Units) : Type 0 where
  pub first : is_first_sequence (pre ++ h ∷ pm) ≡ true
  pub heads : AreHeads h g body
  pub open heads use *
  pub pre_goes : NoEnds pre
  pub pm_goes : NoEnds (h ∷ pm)
  pub body_goes : NoEnds (g ∷ body)
  pub ds_goes : NoEnds ds
  pub behind : Behind rs
  pub begins : BeginsPiece (ds ++ rs)
  pub other : OtherFirst (ds ++ rs)
  pub no_picture : has_picture (h ∷ pm) ≡ false
  pub no_sequence : has_sequence pm ≡ false
  pub next : Next (1 + group_headers body) count ds
  pub unchanged : changed ≡ false → has_picture pre ≡ false

begins_sequence : (u : List ℕ) → is_sequence u ≡ true → begins_piece (value_of u) ≡ true
unfolding begins_piece
begins_sequence u on = rw (eqb-true (value_of u) 0xB3 on) refl

begins_group : (u : List ℕ) → is_group u ≡ true → begins_piece (value_of u) ≡ true
unfolding begins_piece
begins_group u on = rw (eqb-true (value_of u) 0xB8 on) refl

known_by : (st : State) (u : List ℕ) → is_sequence u ≡ true → (is_some st.sequence || nat_eq (value_of u) 0xB3) ≡ true
known_by st u on = rw on (or_true (is_some st.sequence))
  where
    or_true : (b : Bool) → (b || true) ≡ true
    or_true true = refl
    or_true false = refl

known_at : (st : State) (u : List ℕ) → IsKnown st → (is_some st.sequence || nat_eq (value_of u) 0xB3) ≡ true
known_at st u k = rw k refl

tail_none : (u : List ℕ) (us : Units) → has_picture (u ∷ us) ≡ false → has_picture us ≡ false
unfolding has_picture
tail_none u us n = (or_parts (is_picture u) (has_picture us) n).1

pub sequence_events : (a : State) (sa : Store) (s : Sequence) (ps : List Part) → events_from a sa (sequence s ∷ ps) ≡ (closed a.picture sa ++ sequence_header s ∷ []) ++ events_from (after a (sequence s)) (picture_ended a.picture sa) ps
unfolding events_from
sequence_events a sa s ps = refl

pub sequence_store : (a : State) (sa : Store) (s : Sequence) (ps : List Part) → store_from a sa (sequence s ∷ ps) ≡ store_from (after a (sequence s)) (picture_ended a.picture sa) ps
unfolding store_from
sequence_store a sa s ps = refl

group_events : (b : State) (sb : Store) (g : GroupInfo) (ps : List Part) → b.picture ≡ None → events_from b sb (group g ∷ ps) ≡ group_header g ∷ events_from (after b (group g)) (store_after b sb (group g)) ps
unfolding events_from
group_events b sb g ps none = ap (λ (o : Option Open). (closed o sb ++ group_header g ∷ []) ++ events_from (after b (group g)) (store_after b sb (group g)) ps) none

last_is : (x : Option Sequence) (o : Option Open) (sa : Store) (s : Sequence) → last_sequence x (closed o sa ++ sequence_header s ∷ []) ≡ Some s
unfolding last_sequence
last_is x None sa s = refl
last_is x (Some p) sa s = refl

sequence_of : (s : Sequence) (st : State) → (IsKnown (after st (sequence s))) × ((after st (sequence s)).picture ≡ None)
unfolding after
sequence_of s st = (refl, refl)

first_numbers : (at_first.picture ≡ None) × (at_first.anchors ≡ 0) × (at_first.headers_only ≡ false)
first_numbers = (refl, refl, refl)

group_ten : (fresh : Bool) (g : GroupInfo) (ps : List Part) → TenHolds fresh (group g ∷ ps) → TenHolds true ps
group_ten fresh g ps h = h

-- ---- part by part

-- a sequence header, and units up to the group's header
record Two (a : State) (h : List ℕ) (pm vs : Units) (ps : List Part) (x : State) (rest : Units) : Type 0 where
  b : State
  s : Sequence
  pre : List Part
  others : List Part
  parts : ps ≡ (sequence s ∷ pre) ++ others
  sequence_run : SequenceRun a h pm s pre b
  open sequence_run use *
  later : Ends b vs others x rest
  known : IsKnown b
  no_sequence : has_sequence mid ≡ false

two_by : (a b : State) (h : List ℕ) (pm vs : Units) (ps mine others : List Part) (x : State) (rest : Units) → is_sequence h ≡ true → has_picture (h ∷ pm) ≡ false → has_sequence pm ≡ false → ps ≡ mine ++ others → Ends b vs others x rest
    → (f : FirstRead a h pm mine b []) → IsSequence a h pm f.mid f.p → Two a h pm vs ps x rest
two_by a b h pm vs ps mine others x rest is n q e later f k =
    let run : Run (after a (sequence k.s)) f.mid f.later b [] = subst (λ (y : Part). Run (after a y) f.mid f.later b []) k.part f.run in
    let behind = behind_sequence h pm f.mid f.p (part_of a h pm f.mid f.p (inr is) f.read) is (tail_none h pm n) q in
    record {
      b = b;
      s = k.s;
      pre = f.later;
      others = others;
      parts = e ∙ ap (λ (l : List Part). l ++ others) (f.parts ∙ ap (λ (y : Part). y ∷ f.later) k.part);
      sequence_run = record { mid = f.mid; h_read = subst (λ (y : Part). unit_read a (h ∷ pm) ≡ good ((true, y), f.mid)) k.part f.read; pre_run = run; none = behind.no_picture };
      later = later;
      known = run_known run (sequence_of k.s a).0;
      no_sequence = behind.no_sequence;
    }

two : (a : State) (h : List ℕ) (pm : Units) (g : List ℕ) (vs : Units) (ps : List Part) (x : State) (rest : Units) → is_sequence h ≡ true → is_group g ≡ true → NoEnds (h ∷ pm) → has_picture (h ∷ pm) ≡ false → has_sequence pm ≡ false
    → Ends a ((h ∷ pm) ++ g ∷ vs) ps x rest → Two a h pm (g ∷ vs) ps x rest
two a h pm g vs ps x rest is gis n np ns e =
    let i = split e (h ∷ pm) (g ∷ vs) refl (begins_group g gis) n (known_by a h is) in
    let f = first_read a i.between h pm i.mine i.run in
    two_by a i.between h pm (g ∷ vs) ps i.mine i.others x rest is np ns i.parts i.later f (sequence_start a h pm f.mid f.p is f.read)

-- the group's header, and units up to others
record Three (b : State) (g : List ℕ) (body vs : Units) (ps : List Part) (x : State) (rest : Units) : Type 0 where
  z : State
  gi : GroupInfo
  own : List Part
  others : List Part
  parts : ps ≡ group gi ∷ (own ++ others)
  group_run : GroupRun b g body gi own z
  open group_run use *
  later : Ends z vs others x rest

three_by : (b z : State) (g : List ℕ) (body vs : Units) (ps mine others : List Part) (x : State) (rest : Units) → ps ≡ mine ++ others → Ends z vs others x rest → (f : FirstRead b g body mine z []) → GroupRead b g body f.mid f.p → Three b g body vs ps x rest
three_by b z g body vs ps mine others x rest e later f k = record {
  z = z;
  gi = k.info;
  own = f.later;
  others = others;
  parts = e ∙ ap (λ (l : List Part). l ++ others) (f.parts ∙ ap (λ (y : Part). y ∷ f.later) k.part);
  group_run = record {
    g_read = subst (λ (l : Units). unit_read b (g ∷ body) ≡ good ((true, group k.info), l)) k.rest (subst (λ (y : Part). unit_read b (g ∷ body) ≡ good ((true, y), f.mid)) k.part f.read);
    run = subst (λ (l : Units). Run (after b (group k.info)) l f.later z []) k.rest (subst (λ (y : Part). Run (after b y) f.mid f.later z []) k.part f.run);
  };
  later = later;
}

three : (b : State) (g : List ℕ) (body vs : Units) (ps : List Part) (x : State) (rest : Units) → IsKnown b → is_group g ≡ true → NoEnds (g ∷ body) → BeginsPiece vs → Ends b ((g ∷ body) ++ vs) ps x rest → Three b g body vs ps x rest
three b g body vs ps x rest k is n begins e =
    let i = split e (g ∷ body) vs refl begins n (known_at b g k) in
    let f = first_read b i.between g body i.mine i.run in
    three_by b i.between g body vs ps i.mine i.others x rest i.parts i.later f (group_read b g body f.mid f.p (part_of b g body f.mid f.p (inl k) f.read) is)

-- what is told before the group's header, and from it on
told_around : (prep : List Part) (pre : Units) (a b : State) (h : List ℕ) (pm mid : Units) (s : Sequence) (pre2 : List Part) (gi : GroupInfo) (tail : List Part) → Run at_first pre prep a [] → unit_read a (h ∷ pm) ≡ good ((true, sequence s), mid) → Run (after a (sequence s)) mid pre2 b [] → b.picture ≡ None
    → events_from at_first no_frames (prep ++ ((sequence s ∷ pre2) ++ group gi ∷ tail))
    ≡ (events_from at_first no_frames prep ++ events_from a (store_from at_first no_frames prep) (sequence s ∷ pre2)) ++ group_header gi ∷ events_from (after b (group gi)) (store_at a (store_from at_first no_frames prep) s pre2 b gi) tail
told_around prep pre a b h pm mid s pre2 gi tail run1 read run2 none =
    let sa = store_from at_first no_frames prep in
    let epre = events_from at_first no_frames prep in
    let eh = events_from a sa (sequence s ∷ pre2) in
    let sb = store_from a sa (sequence s ∷ pre2) in
    events_then run1 no_frames ((sequence s ∷ pre2) ++ group gi ∷ tail)
    ∙ ap (λ (l : Events). epre ++ l) (events_then (step read run2) sa (group gi ∷ tail))
    ∙ ap (λ (l : Events). epre ++ (eh ++ l)) (group_events b sb gi tail none)
    ∙ sym (append_assoc epre eh (group_header gi ∷ events_from (after b (group gi)) (store_after b sb (group gi)) tail))
    ∙ ap (λ (y : Store). (epre ++ eh) ++ group_header gi ∷ events_from (after b (group gi)) (store_after b y (group gi)) tail) (sequence_store a sa s pre2)

-- the last sequence header before it
last_before : (epre : Events) (a : State) (sa : Store) (s : Sequence) (pre2 : List Part) → NoSequences pre2 → last_sequence None (epre ++ events_from a sa (sequence s ∷ pre2)) ≡ Some s
last_before epre a sa s pre2 n =
    let x = last_sequence None epre in
    last_then None epre (events_from a sa (sequence s ∷ pre2))
    ∙ ap (last_sequence x) (sequence_events a sa s pre2)
    ∙ last_then x (closed a.picture sa ++ sequence_header s ∷ []) (events_from (after a (sequence s)) (picture_ended a.picture sa) pre2)
    ∙ ap (λ (y : Option Sequence). last_sequence y (events_from (after a (sequence s)) (picture_ended a.picture sa) pre2)) (last_is x a.picture sa s)
    ∙ last_kept (Some s) (after a (sequence s)) (picture_ended a.picture sa) pre2 n

-- how many group headers stand before it
headers_before : (prep : List Part) (pre : Units) (a b : State) (sa : Store) (h : List ℕ) (pm mid : Units) (s : Sequence) (pre2 : List Part) → Run at_first pre prep a [] → unit_read a (h ∷ pm) ≡ good ((true, sequence s), mid) → Run (after a (sequence s)) mid pre2 b [] → is_first_sequence (pre ++ h ∷ pm) ≡ true → is_sequence h ≡ true
    → group_headers (pre ++ h ∷ pm) ≡ headers_in (events_from at_first no_frames prep ++ events_from a sa (sequence s ∷ pre2))
headers_before prep pre a b sa h pm mid s pre2 run1 read run2 first is =
    let c1 = counted_before run1 (first_or_none pre (h ∷ pm) first) in
    let c2 = groups_counted (step read run2) (inr is) in
    let c3 = headers_append pre (h ∷ pm) in
    let c4 = headers_then (events_from at_first no_frames prep) (events_from a sa (sequence s ∷ pre2)) in
    let c5 = headers_told at_first no_frames prep in
    let c6 = headers_told a sa (sequence s ∷ pre2) in
    let c7 = no_headers in
    omega (arith, c1, c2, c3, c4, c5, c6, c7)

ten_of : (front tail : Events) (gi : GroupInfo) (b : State) (sb : Store) (es : Events) (ps : List Part) (us : Units) (x : State) (rest : Units) → Ends b us (group gi ∷ ps) x rest → b.picture ≡ None → es ≡ front ++ group_header gi ∷ tail → events_from b sb (group gi ∷ ps) ≡ group_header gi ∷ tail → TenEvents false es → TenHolds true ps
ten_of front tail gi b sb es ps us x rest ends none e own ten =
    let t = ten_suffix false front (group_header gi ∷ tail) (subst (TenEvents false) e ten) in
    group_ten t.0 gi ps (ten_parts ends none sb t.0 (subst (TenEvents t.0) (sym own) t.1))

whole_of : (changed : Bool) (count : ℕ) (pre : Units) (h : List ℕ) (pm : Units) (g : List ℕ) (body ds rs : Units) (x : State) (rest : Units) (prep : List Part) (a : State) (ps ps2 : List Part) → Parted changed count pre h pm g body ds rs → Run at_first pre prep a [] → none_waits x.waiting ≡ true
    → (t : Two a h pm (g ∷ (body ++ (ds ++ rs))) ps x rest) (r : Three t.b g body (ds ++ rs) t.others x rest) → TenHolds true (r.own ++ r.others)
    → Whole changed a (store_from at_first no_frames prep) h pm g body t.s t.pre t.b r.gi r.own r.z
whole_of changed count pre h pm g body ds rs x rest prep a ps ps2 d run1 paired t r ten =
    let kz = run_known r.run (known_after t.b (group r.gi) t.known) in
    let q = λ (off : changed ≡ false). quiet run1 no_frames first_numbers.0 (none_before run1 (first_or_none pre (h ∷ pm) d.first) (d.unchanged off)) in
    record {
      sequence_run = t.sequence_run;
      group_run = r.group_run;
      heads = d.heads;
      headers = headers_kept run1 ∙ first_numbers.2;
      anchors = λ off. (q off).anchors ∙ first_numbers.1;
      frames = λ off. ap (λ (o : Option Open). picture_ended o (store_from at_first no_frames prep)) (q off).picture ∙ (q off).kept;
      ten = ten_front true r.own r.others ten;
      complete = complete_there r.later d.begins kz;
      paired = paired_end r.later d.begins d.other kz paired;
    }

-- what is asked of the events, from where the group's header stands among them
asked : (front tail es : Events) (gi : GroupInfo) (from count : ℕ) (s : Sequence) (shown : Pictures) → es ≡ front ++ group_header gi ∷ tail → from ≡ headers_in front → last_sequence None front ≡ Some s → pictures_in (before_header count (group_header gi ∷ tail)) ≡ shown
    → (last_sequence None (before_header from es) ≡ Some s) × (pictures_in (before_header count (from_header from es)) ≡ shown)
asked front tail es gi from count s shown all number last told =
    let before : before_header from es ≡ front = ap (λ (n : ℕ). before_header n es) number ∙ ap (before_header (headers_in front)) all ∙ before_there front tail gi in
    let behind : from_header from es ≡ group_header gi ∷ tail = ap (λ (n : ℕ). from_header n es) number ∙ ap (from_header (headers_in front)) all ∙ from_there front tail gi in
    (ap (last_sequence None) before ∙ last, ap (λ (l : Events). pictures_in (before_header count l)) behind ∙ told)

cut_by : (changed : Bool) (count : ℕ) (pre : Units) (h : List ℕ) (pm : Units) (g : List ℕ) (body ds rs : Units) (x : State) (rest : Units) (ps prep : List Part) (a : State) (ps1 : List Part) → Parted changed count pre h pm g body ds rs → none_waits x.waiting ≡ true → TenEvents false (events_from at_first no_frames ps)
    → ps ≡ prep ++ ps1 → Run at_first pre prep a [] → (t : Two a h pm (g ∷ (body ++ (ds ++ rs))) ps1 x rest) (r : Three t.b g body (ds ++ rs) t.others x rest)
    → CutOf changed (group_headers (pre ++ h ∷ pm)) count (h ∷ (pm ++ header_by changed g ∷ body)) (events_from at_first no_frames ps)
cut_by changed count pre h pm g body ds rs x rest ps prep a ps1 d paired ten e run1 t r =
    let es = events_from at_first no_frames ps in
    let sa = store_from at_first no_frames prep in
    let wb = after t.b (group r.gi) in
    let sw = store_at a sa t.s t.pre t.b r.gi in
    let tail = r.own ++ r.others in
    let kind = sequence_of t.s a in
    let nopictures = no_pictures t.pre_run kind.0 t.none in
    let nosequences = no_sequences t.pre_run kind.0 t.no_sequence in
    let none = (quiet t.pre_run (picture_ended a.picture sa) kind.1 nopictures).picture in
    let front = events_from at_first no_frames prep ++ events_from a sa (sequence t.s ∷ t.pre) in
    let behind = events_from wb sw tail in
    let parts : ps ≡ prep ++ ((sequence t.s ∷ t.pre) ++ group r.gi ∷ tail) = e ∙ ap (λ (l : List Part). prep ++ l) (t.parts ∙ ap (λ (l : List Part). (sequence t.s ∷ t.pre) ++ l) r.parts) in
    let all : es ≡ front ++ group_header r.gi ∷ behind = ap (events_from at_first no_frames) parts ∙ told_around prep pre a t.b h pm t.mid t.s t.pre r.gi tail run1 t.h_read t.pre_run none in
    let later : Ends t.b (g ∷ (body ++ (ds ++ rs))) (group r.gi ∷ tail) x rest = subst (λ (l : List Part). Ends t.b (g ∷ (body ++ (ds ++ rs))) l x rest) r.parts t.later in
    let sb = store_from (after a (sequence t.s)) (picture_ended a.picture sa) t.pre in
    let tens = ten_of front behind r.gi t.b sb es tail (g ∷ (body ++ (ds ++ rs))) x rest later none all (group_events t.b sb r.gi tail none) ten in
    let w = whole_of changed count pre h pm g body ds rs x rest prep a ps1 t.others d run1 paired t r tens in
    let kw = known_after t.b (group r.gi) t.known in
    let between = pictures_between r.gi wb r.z x sw body rest r.own r.others count ds rs r.run kw r.later d.ds_goes d.behind d.next in
    let told : pictures_in (before_header count (group_header r.gi ∷ behind)) ≡ chosen_pictures wb sw r.own r.z = ap (λ (l : Events). pictures_in (before_header count (group_header r.gi ∷ l))) (events_then r.run sw r.others) ∙ between in
    let number = headers_before prep pre a t.b sa h pm t.mid t.s t.pre run1 t.h_read t.pre_run d.first d.h_is in
    let answers = asked front behind es r.gi (group_headers (pre ++ h ∷ pm)) count t.s (chosen_pictures wb sw r.own r.z) all number (last_before (events_from at_first no_frames prep) a sa t.s t.pre nosequences) told in
    record {
      s = t.s;
      shown = chosen_pictures wb sw r.own r.z;
      cut = cut_read changed a sa h pm g body t.s t.pre t.b r.gi r.own r.z w;
      last = answers.0;
      pictures = answers.1;
    }

pub cut_of : (changed : Bool) (count : ℕ) (pre : Units) (h : List ℕ) (pm : Units) (g : List ℕ) (body ds rs : Units) (x : State) (rest : Units) (ps : List Part) → Parted changed count pre h pm g body ds rs
    → Ends at_first (pre ++ ((h ∷ pm) ++ g ∷ (body ++ (ds ++ rs)))) ps x rest → none_waits x.waiting ≡ true → TenEvents false (events_from at_first no_frames ps)
    → CutOf changed (group_headers (pre ++ h ∷ pm)) count (h ∷ (pm ++ header_by changed g ∷ body)) (events_from at_first no_frames ps)
cut_of changed count pre h pm g body ds rs x rest ps d ends paired ten =
    let i = split ends pre ((h ∷ pm) ++ g ∷ (body ++ (ds ++ rs))) refl (begins_sequence h d.h_is) d.pre_goes (known_first pre (h ∷ pm) d.first) in
    let t = two i.between h pm g (body ++ (ds ++ rs)) i.others x rest d.h_is d.g_is d.pm_goes d.no_picture d.no_sequence i.later in
    let r = three t.b g body (ds ++ rs) t.others x rest t.known d.g_is d.body_goes d.begins t.later in
    cut_by changed count pre h pm g body ds rs x rest ps i.mine i.between i.others d paired ten i.parts i.run t r

-- A cut of a stream decodes to the frames of its groups.
use Rattle.std.proofs.Common.{◌≡◌, ℕ, zero, suc, ◌+◌, ◌≤◌, Bool, true, false, List, [], ◌∷◌, ◌++◌, length, Option, Some, None, refl, sym, ap, subst, ◌∙◌, append_assoc, append-nil, arith}
use Rattle.std.specs.Prelude.{nat_eq, not, ◌||◌, if◌then◌else◌}
use Rattle.std.specs.List.{flat_map}
use Rattle.std.proofs.lemmas.Bool.{eqb-true, leb-true}
use Rattle.std.proofs.Math.Bool.{and-false, or-true}
use Rattle.m2v_bits.specs.Syntax.{seq, done, rule, repeated}
use Rattle.m2v_bits.proofs.SyntaxLaws.{good}
use Rattle.m2v_model.specs.declared.state.Sequence.{Sequence}
use Rattle.m2v_model.specs.declared.state.State.{State}
use Rattle.m2v_model.specs.Units.{Units, cut, joined, AreUnits, Cuts}
use Rattle.m2v_model.specs.States.{at_first, none_waits}
use Rattle.m2v_model.specs.Streams.{Part, Sofar, sequence, after, value_of, units_from, stream_from, stream_at}
use Rattle.m2v_model.specs.Pictures.{Pictures, Events, no_frames, events_from, store_after}
use Rattle.m2v_model.specs.Decoding.{Decodes, events, pictures, frames_of, low_delay_of, shown}
use Rattle.m2v_model.specs.Lawful.{numbered, all_numbered, intra_rule}
use Rattle.m2v_model.specs.Pieces.{is_end, begins_piece}
use Rattle.m2v_model.specs.ByPieces.{unit_read}
use Rattle.m2v_model.proofs.CutLaws.{cut_cuts, cuts_is, are_behind}
use Rattle.m2v_model.proofs.ShiftLaws.{BeginsPiece, NoEnds}
use Rattle.m2v_law_group.specs.Groups.{is_picture, is_sequence, is_group, has_picture, has_sequence, group_headers, from_sequence, to_end, stream_units, before_group, from_group, from_last_sequence, up_to_piece, up_to_group, first_groups, broken_header, behind_cut, cut_units, end_code, cut_text, coded_pictures, begins_intra, stands_alone, is_standalone}
use Rattle.m2v_law_group.specs.Chosen.{before_header, group_pictures, last_sequence, left_in, cut_frames, BeginIntra, EndClear, CutDecodes}
use Rattle.m2v_law_group.proofs.Shows.{beside_shown}
use Rattle.m2v_law_group.proofs.Runs.{Ends, finish, going, ended, none_ends}
use Rattle.m2v_law_group.proofs.Lists.{Behind, behind_begins, or_parts, and_parts, picture_append, headers_append, no_ends_parts, ended_units, group_parts, group_found, fewer_groups, last_found, piece_parts, first_sequence}
use Rattle.m2v_law_group.proofs.Leads.{LeadUnits, lead_units, lead_front, none_begins, is_first_sequence}
use Rattle.m2v_law_group.proofs.Told.{TenEvents, ten_events}
use Rattle.m2v_law_group.proofs.Tens.{final_part, final_told}
use Rattle.m2v_law_group.proofs.Texts.{are_changed, are_cut}
use Rattle.m2v_law_group.proofs.Texts as texts
use Rattle.m2v_law_group.proofs.Start.{sequence_start, header_by}
use Rattle.m2v_law_group.proofs.Between.{OtherFirst, Next}
use Rattle.m2v_law_group.proofs.Law.{skip, Parted, CutOf, cut_of}

-- ---- what was read of the whole

-- the units of a stream, read to their end
pub record ReadWhole (us : Units) (tree : Sofar) : Type 0 where
  pub rest : Units
  pub ends : Ends at_first us tree.parts tree.state rest
  pub paired : none_waits tree.state.waiting ≡ true

pub read_whole : (us rest : Units) (tree : Sofar) → stream_at.Stands tree us rest → ReadWhole us tree
unfolding stream_at stream_from units_from repeated seq rule done
read_whole us rest tree h =
    let x = h.0 in
    let e = ended (record { state = at_first; parts = [] }) x us h.1 h.2 in
    let same : tree ≡ x = h.3.3.0 in
    let ends : Ends at_first us x.parts x.state h.1 = subst (λ (l : List Part). Ends at_first us l x.state h.1) (sym e.1) e.2 in
    record {
      rest = h.1;
      ends = subst (λ (y : Sofar). Ends at_first us y.parts y.state h.1) (sym same) ends;
      paired = subst (λ (y : Sofar). none_waits y.state.waiting ≡ true) (sym same) h.3.2.0;
    }

-- the rule on groups, on what is told of a stream
ten_none : (es : Events) → es ≡ [] → TenEvents false es
ten_none es e = subst (TenEvents false) (sym e) tt

ten_told : (s : Sequence) (ps : List Part) → flat_map intra_rule (all_numbered (events_from at_first no_frames (sequence s ∷ ps))) ≡ [] → TenEvents false (events_from at_first no_frames (sequence s ∷ ps))
unfolding events_from numbered
ten_told s ps e = ten_events s 0 false 0 0 (events_from (after at_first (sequence s)) (store_after at_first no_frames (sequence s)) ps) e

nothing_read : {A : Type 0} (p : Part) (mid : Units) → unit_read at_first [] ≡ good ((true, p), mid) → A
nothing_read p mid e = let wrong = none_ends at_first (true, p) mid e in absurd cc

ten_empty : {st x : State} {t rest : Units} {ps : List Part} → Ends st t ps x rest → st ≡ at_first → t ≡ [] → TenEvents false (events_from at_first no_frames ps)
ten_empty {st} {t = t} {rest = rest} (finish {p = p} h) a e = ten_none (events_from at_first no_frames (p ∷ [])) (final_told at_first no_frames p (final_part st t rest p h))
ten_empty {st} {t = t} {rest = rest} (going {mid = mid} {p = p} h later) a e = nothing_read p mid (subst (λ (s : State). unit_read s [] ≡ good ((true, p), mid)) a (subst (λ (l : Units). unit_read st l ≡ good ((true, p), mid)) e h))

ten_by : {st x : State} {t rest : Units} {ps : List Part} → Ends st t ps x rest → (u : List ℕ) (us : Units) → st ≡ at_first → t ≡ u ∷ us → is_sequence u ≡ true → flat_map intra_rule (all_numbered (events_from at_first no_frames ps)) ≡ [] → TenEvents false (events_from at_first no_frames ps)
ten_by {st} {t = t} {rest = rest} (finish {p = p} h) u us a e on ten = ten_none (events_from at_first no_frames (p ∷ [])) (final_told at_first no_frames p (final_part st t rest p h))
ten_by {st} {t = t} {rest = rest} (going {mid = mid} {p = p} {ps = ps} h later) u us a e on ten =
    let read : unit_read at_first (u ∷ us) ≡ good ((true, p), mid) = subst (λ (s : State). unit_read s (u ∷ us) ≡ good ((true, p), mid)) a (subst (λ (l : Units). unit_read st l ≡ good ((true, p), mid)) e h) in
    let q = sequence_start at_first u us mid p on read in
    subst (λ (y : Part). TenEvents false (events_from at_first no_frames (y ∷ ps))) (sym q.part)
    (ten_told q.s ps (subst (λ (y : Part). flat_map intra_rule (all_numbered (events_from at_first no_frames (y ∷ ps))) ≡ []) q.part ten))

-- ---- lists of units

suffix_step : (u : List ℕ) (us : Units) (s : Bool) → is_sequence u ≡ s → (front : Units) × (us ≡ front ++ from_sequence us) → (front : Units) × (u ∷ us ≡ front ++ from_sequence (u ∷ us))
unfolding from_sequence
suffix_step u us true e i = rw e ([], refl)
suffix_step u us false e i = rw e (u ∷ i.0, ap (λ (l : Units). u ∷ l) i.1)

suffix : (us : Units) → (front : Units) × (us ≡ front ++ from_sequence us)
unfolding from_sequence
suffix [] = ([], refl)
suffix (u ∷ us) = suffix_step u us (is_sequence u) refl (suffix us)

has_first : (u : List ℕ) (us : Units) → is_sequence u ≡ true → has_sequence (u ∷ us) ≡ true
unfolding has_sequence
has_first u us on = rw on refl

begins_step : (u : List ℕ) (us : Units) (p : Bool) → is_picture u ≡ p → (begins_intra (coded_pictures us) ≡ true → has_picture us ≡ true) → begins_intra (coded_pictures (u ∷ us)) ≡ true → has_picture (u ∷ us) ≡ true
unfolding coded_pictures has_picture
begins_step u us true e ih h = rw e refl
begins_step u us false e ih h = rw e (ih (rw e at h))

begins_has : (us : Units) → begins_intra (coded_pictures us) ≡ true → has_picture us ≡ true
unfolding coded_pictures
begins_has [] h = absurd (none_begins h)
begins_has (u ∷ us) h = begins_step u us (is_picture u) refl (begins_has us) h

or_more : (a b c : Bool) → (a || b) ≡ true → (b ≡ true → c ≡ true) → (a || c) ≡ true
or_more true b c h f = refl
or_more false b c h f = f h

more_step : (u : List ℕ) (us : Units) (m : ℕ) (g : Bool) → is_group u ≡ g → (has_picture (before_group 0 us) ≡ true → (n : ℕ) → has_picture (before_group n us) ≡ true) → has_picture (before_group 0 (u ∷ us)) ≡ true → has_picture (before_group (suc m) (u ∷ us)) ≡ true
unfolding before_group has_picture
more_step u us m true e ih h = let wrong : false ≡ true = rw e at h in absurd cc
more_step u us m false e ih h =
    let own : (is_picture u || has_picture (before_group 0 us)) ≡ true = rw e at h in
    or_more (is_picture u) (has_picture (before_group 0 us)) _ own (λ some. ih some (if is_group u then m else suc m))

more_has : (us : Units) (m : ℕ) → has_picture (before_group 0 us) ≡ true → has_picture (before_group m us) ≡ true
unfolding before_group has_picture
more_has [] m h = h
more_has (u ∷ us) zero h = h
more_has (u ∷ us) (suc m) h = more_step u us m (is_group u) refl (λ some n. more_has us n some) h

-- ---- the chosen groups

-- of units behind a group's header, those of the chosen groups, and others
record IsChosen (count : ℕ) (g : List ℕ) (later : Units) : Type 0 where
  own : Units
  ds : Units
  whole : later ≡ own ++ ds
  first : first_groups count (g ∷ later) ≡ g ∷ own
  begins : (rs : Units) → Behind rs → BeginsPiece (ds ++ rs)
  other : (rs : Units) → Behind rs → OtherFirst (ds ++ rs)
  next : Next (1 + group_headers own) count ds

pub end_other : (rs : Units) → Behind rs → OtherFirst rs
unfolding is_end
end_other [] b = tt
end_other (u ∷ rs) b = ap (λ (n : ℕ). nat_eq n 0x00) (eqb-true (value_of u) 0xB7 b)

group_other : (f : List ℕ) → is_group f ≡ true → is_picture f ≡ false
group_other f on = ap (λ (n : ℕ). nat_eq n 0x00) (eqb-true (value_of f) 0xB8 on)

group_begins : (f : List ℕ) → is_group f ≡ true → begins_piece (value_of f) ≡ true
unfolding begins_piece
group_begins f on = rw (eqb-true (value_of f) 0xB8 on) refl

heads_begin : (hs : Units) (f : List ℕ) (fs rs : Units) → BeginsPiece hs → is_group f ≡ true → BeginsPiece ((hs ++ f ∷ fs) ++ rs)
heads_begin [] f fs rs b on = group_begins f on
heads_begin (u ∷ hs) f fs rs b on = b

heads_other : (hs : Units) (f : List ℕ) (fs rs : Units) → has_picture hs ≡ false → is_group f ≡ true → OtherFirst ((hs ++ f ∷ fs) ++ rs)
unfolding has_picture
heads_other [] f fs rs n on = group_other f on
heads_other (u ∷ hs) f fs rs n on = (or_parts (is_picture u) (has_picture hs) n).0

heads_next : (n count : ℕ) (hs : Units) (f : List ℕ) (fs : Units) → BeginsPiece hs → has_picture hs ≡ false → is_group f ≡ true → n + group_headers hs ≡ count → Next n count (hs ++ f ∷ fs)
heads_next n count [] f fs b p on c = ([], f, fs, refl, b, p, on, c)
heads_next n count (u ∷ hs) f fs b p on c = (u ∷ hs, f, fs, refl, b, p, on, c)

before_first : (g : List ℕ) (later : Units) (m : ℕ) → is_group g ≡ true → before_group (suc m) (g ∷ later) ≡ g ∷ before_group m later
unfolding before_group
before_first g later m on = rw on refl

from_first : (g : List ℕ) (later : Units) (m : ℕ) → is_group g ≡ true → from_group (suc m) (g ∷ later) ≡ from_group m later
unfolding from_group
from_first g later m on = rw on refl

piece_first : (g : List ℕ) (us : Units) → has_picture us ≡ true → up_to_piece (g ∷ us) ≡ g ∷ up_to_piece us
unfolding up_to_piece has_picture
piece_first g us h = rw (h, or-true (is_picture g), and-false (begins_piece (value_of g))) refl

first_is : (g : List ℕ) (later : Units) (m : ℕ) (r : Units) → is_group g ≡ true → from_group m later ≡ r → first_groups (suc m) (g ∷ later) ≡ up_to_group (g ∷ before_group m later) r
first_is g later m r on e = ap (λ (l : Units). up_to_group l (from_group (suc m) (g ∷ later))) (before_first g later m on) ∙ ap (up_to_group (g ∷ before_group m later)) (from_first g later m on ∙ e)

chosen_by : (g : List ℕ) (later : Units) (m : ℕ) (r : Units) → is_group g ≡ true → begins_intra (coded_pictures (before_group 0 later)) ≡ true → from_group m later ≡ r → IsChosen (suc m) g later
chosen_by g later m [] on intra e =
    let x = before_group m later in
    let whole : later ≡ x = group_parts later m ∙ ap (λ (l : Units). x ++ l) e ∙ append-nil x in
    let few = fewer_groups later m e in
    let same : group_headers later ≡ group_headers x = ap group_headers whole in
    record {
      own = x;
      ds = [];
      whole = whole ∙ sym (append-nil x);
      first = first_is g later m [] on e;
      begins = λ rs b. behind_begins rs b;
      other = λ rs b. end_other rs b;
      next = omega (arith, few, same);
    }
chosen_by g later m (f ∷ fs) on intra e =
    let x = before_group m later in
    let p = piece_parts x in
    let body = up_to_piece x in
    let found = group_found later m f fs e in
    let some = more_has later m (begins_has (before_group 0 later) intra) in
    let whole : later ≡ body ++ (p.0 ++ f ∷ fs) = group_parts later m ∙ ap (λ (l : Units). x ++ l) e ∙ ap (λ (l : Units). l ++ f ∷ fs) p.1 ∙ append_assoc body p.0 (f ∷ fs) in
    let counted : group_headers x ≡ group_headers body + group_headers p.0 = ap group_headers p.1 ∙ headers_append body p.0 in
    let number : (1 + group_headers body) + group_headers p.0 ≡ suc m = omega (arith, counted, found.0) in
    record {
      own = body;
      ds = p.0 ++ f ∷ fs;
      whole = whole;
      first = first_is g later m (f ∷ fs) on e ∙ piece_first g x some;
      begins = λ rs b. heads_begin p.0 f fs rs p.2 found.1;
      other = λ rs b. heads_other p.0 f fs rs p.3 found.1;
      next = heads_next (1 + group_headers body) (suc m) p.0 f fs p.2 p.3 found.1 number;
    }

-- ---- a stream whose group stands alone

record IsAlone (before us : Units) : Type 0 where
  g : List ℕ
  later : Units
  is : us ≡ g ∷ later
  silent : has_picture (from_last_sequence before) ≡ false
  long : 8 ≤ length g
  intra : begins_intra (coded_pictures (before_group 0 later)) ≡ true

alone_is : (before us : Units) → stands_alone before us ≡ true → IsAlone before us
alone_is before [] h = absurd cc
alone_is before (g ∷ later) h =
    let a = and_parts _ _ h in
    let b = and_parts _ _ a.1 in
    record { g = g; later = later; is = refl; silent = not_true (has_picture (from_last_sequence before)) a.0; long = leb-true 8 (length g) b.0; intra = b.1 }
  where
    not_true : (x : Bool) → not x ≡ true → x ≡ false
    not_true true e = absurd cc
    not_true false e = refl

header_is : (changed : Bool) (g : List ℕ) → (if changed then broken_header g else g) ≡ header_by changed g
header_is true g = refl
header_is false g = refl

changed_units : (changed : Bool) (us vs : Units) (g : List ℕ) → 8 ≤ length g → AreUnits (us ++ g ∷ vs) → AreUnits (us ++ header_by changed g ∷ vs)
changed_units true us vs g le h = are_changed us vs g le h (are_behind us (g ∷ vs) h)
changed_units false us vs g le h = h

-- the units before the group, from the first of the stream on
record IsBefore (before : Units) : Type 0 where
  pre : Units
  h : List ℕ
  pm : Units
  whole : before ≡ pre ++ h ∷ pm
  last : from_last_sequence before ≡ h ∷ pm
  is : is_sequence h ≡ true
  none : has_sequence pm ≡ false
  first : is_first_sequence (pre ++ h ∷ pm) ≡ true

before_by : (before : Units) (g : List ℕ) (later rest : Units) (s : Units) → s ≡ (before ++ g ∷ later) ++ rest → ((u : List ℕ) (us : Units) → s ≡ u ∷ us → is_sequence u ≡ true) → is_group g ≡ true → IsBefore before
before_by [] g later rest s e first on = absurd (two (value_of g) (first g (later ++ rest) e) on)
  where
    two : (value : ℕ) → nat_eq value 0xB3 ≡ true → nat_eq value 0xB8 ≡ true → ⊥
    two value p q = let wrong : nat_eq 0xB3 0xB8 ≡ true = subst (λ (n : ℕ). nat_eq n 0xB8 ≡ true) (eqb-true value 0xB3 p) q in absurd cc
before_by (u ∷ us) g later rest s e first on =
    let is = first u ((us ++ g ∷ later) ++ rest) e in
    let l = last_found (u ∷ us) (has_first u us is) in
    record { pre = l.before; h = l.h; pm = l.later; whole = l.whole; last = l.last; is = l.is; none = l.none; first = subst (λ (x : Units). is_first_sequence x ≡ true) l.whole is }

-- the rule on groups, where the first unit, if there is one, is a sequence header
ten_all : (t : Units) (x : State) (rest : Units) (ps : List Part) → Ends at_first t ps x rest → ((u : List ℕ) (us : Units) → t ≡ u ∷ us → is_sequence u ≡ true) → flat_map intra_rule (all_numbered (events_from at_first no_frames ps)) ≡ [] → TenEvents false (events_from at_first no_frames ps)
ten_all [] x rest ps h first ten = ten_empty h refl refl
ten_all (u ∷ us) x rest ps h first ten = ten_by h u us refl refl (first u us refl) ten

-- how units of a stream are parted
parted_shape : (pre hp own ds rs : Units) (g : List ℕ) → ((pre ++ hp) ++ g ∷ (own ++ ds)) ++ rs ≡ pre ++ (hp ++ g ∷ (own ++ (ds ++ rs)))
parted_shape pre hp own ds rs g =
    append_assoc (pre ++ hp) (g ∷ (own ++ ds)) rs
    ∙ append_assoc pre hp (g ∷ ((own ++ ds) ++ rs))
    ∙ ap (λ (l : Units). pre ++ (hp ++ g ∷ l)) (append_assoc own ds rs)

parts_of : (t : Units) (from count : ℕ) (a : IsAlone (before_group from t) (from_group from t)) (c : IsChosen count a.g a.later) (b : IsBefore (before_group from t)) → t ≡ (b.pre ++ b.h ∷ b.pm) ++ a.g ∷ (c.own ++ c.ds)
parts_of t from count a c b =
    group_parts t from
    ∙ ap (λ (l : Units). before_group from t ++ l) (a.is ∙ ap (λ (l : Units). a.g ∷ l) c.whole)
    ∙ ap (λ (l : Units). l ++ a.g ∷ (c.own ++ c.ds)) b.whole

parted_by : (t rs : Units) (from count : ℕ) (a : IsAlone (before_group from t) (from_group from t)) → is_group a.g ≡ true → (c : IsChosen count a.g a.later) (b : IsBefore (before_group from t)) → Behind rs → NoEnds t
    → Parted (has_picture (before_group from t)) count b.pre b.h b.pm a.g c.own c.ds rs
parted_by t rs from count a on c b behind goes =
    let all = no_ends_parts (b.pre ++ b.h ∷ b.pm) (a.g ∷ (c.own ++ c.ds)) (subst NoEnds (parts_of t from count a c b) goes) in
    let front = no_ends_parts b.pre (b.h ∷ b.pm) all.0 in
    let back = no_ends_parts c.own c.ds (all.1).1 in
    record {
      first = b.first;
      heads = record { h_is = b.is; g_is = on; long = a.long; lead = lead_front false c.own c.ds (subst (LeadUnits false) c.whole (lead_units a.later a.intra)) };
      pre_goes = front.0;
      pm_goes = front.1;
      body_goes = ((all.1).0, back.0);
      ds_goes = back.1;
      behind = behind;
      begins = c.begins rs behind;
      other = c.other rs behind;
      no_picture = ap has_picture (sym b.last) ∙ a.silent;
      no_sequence = b.none;
      next = c.next;
      unchanged = λ off. (picture_append b.pre (b.h ∷ b.pm) (ap has_picture (sym b.whole) ∙ off)).0;
    }

-- the units that are copied
copied : (t : Units) (from count : ℕ) (a : IsAlone (before_group from t) (from_group from t)) (c : IsChosen count a.g a.later) (b : IsBefore (before_group from t)) → cut_units from count t ≡ b.h ∷ (b.pm ++ header_by (has_picture (before_group from t)) a.g ∷ c.own)
unfolding cut_units
copied t from count a c b =
    let before = before_group from t in
    ap (λ (l : Units). from_last_sequence before ++ behind_cut before (first_groups count l)) a.is
    ∙ ap (λ (l : Units). from_last_sequence before ++ behind_cut before l) c.first
    ∙ ap (λ (l : Units). l ++ (if has_picture before then broken_header a.g else a.g) ∷ c.own) b.last
    ∙ ap (λ (g : List ℕ). b.h ∷ (b.pm ++ g ∷ c.own)) (header_is (has_picture before) a.g)

-- they are units, with the end code behind them
cut_are : (changed : Bool) (us t : Units) (pre : Units) (h : List ℕ) (pm : Units) (g : List ℕ) (own ds rs : Units) → AreUnits us → 8 ≤ length g → from_sequence us ≡ pre ++ ((h ∷ pm) ++ g ∷ (own ++ (ds ++ rs))) → EndClear (joined (h ∷ (pm ++ header_by changed g ∷ own)))
    → AreUnits ((h ∷ (pm ++ header_by changed g ∷ own)) ++ end_code ∷ [])
cut_are changed us t pre h pm g own ds rs are le shape clear =
    let f = suffix us in
    let all = are_behind f.0 (from_sequence us) (subst AreUnits f.1 are) in
    let mine = are_behind pre ((h ∷ pm) ++ g ∷ (own ++ (ds ++ rs))) (subst AreUnits shape all) in
    let new = changed_units changed (h ∷ pm) (own ++ (ds ++ rs)) g le mine in
    let v = header_by changed g in
    let same : (h ∷ pm) ++ v ∷ (own ++ (ds ++ rs)) ≡ (h ∷ (pm ++ v ∷ own)) ++ (ds ++ rs) = sym (append_assoc (h ∷ pm) (v ∷ own) (ds ++ rs)) in
    are_cut (h ∷ (pm ++ v ∷ own)) (ds ++ rs) (subst AreUnits same new) clear

-- the frames that a cut shows
frames_same : (text : List ℕ) (from count : ℕ) (t : Units) (es fs : Events) (x : CutOf (has_picture (before_group from t)) from count (cut_units from count t) fs) → stream_units text ≡ t → es ≡ fs → cut_frames text from count es ≡ frames_of (x.cut).tree
frames_same text from count t es fs x units e =
    let changed = has_picture (before_group from t) in
    let tree = (x.cut).tree in
    ap (λ (l : Units). shown (low_delay_of (last_sequence None (before_header from es))) (left_in (has_picture (before_group from l)) (group_pictures from count es))) units
    ∙ ap (λ (l : Events). shown (low_delay_of (last_sequence None (before_header from l))) (left_in changed (group_pictures from count l))) e
    ∙ ap (λ (s : Option Sequence). shown (low_delay_of s) (left_in changed (group_pictures from count fs))) x.last
    ∙ ap (λ (p : Pictures). shown (low_delay_of (Some x.s)) (left_in changed p)) x.pictures
    ∙ beside_shown changed (low_delay_of (Some x.s)) x.shown (pictures tree) (x.cut).beside
    ∙ ap (λ (s : Option Sequence). shown (low_delay_of s) (pictures tree)) (sym (x.cut).first)

decodes_of : (text : List ℕ) (from count : ℕ) (t : Units) (es fs : Events) → CutOf (has_picture (before_group from t)) from count (cut_units from count t) fs → stream_units text ≡ t → es ≡ fs → AreUnits (cut_units from count t ++ end_code ∷ []) → Decodes (cut_text text from count) (cut_frames text from count es)
decodes_of text from count t es fs x units e are =
    let cu = cut_units from count t in
    let cuts : Cuts (cut_text text from count) [] (cu ++ end_code ∷ []) = subst (λ (l : Units). Cuts (joined (cut_units from count l) ++ end_code) [] (cu ++ end_code ∷ [])) (sym units) (texts.cut_cuts cu are) in
    record {
      tree = (x.cut).tree;
      stream = record { front = []; units = cu ++ end_code ∷ []; rest = []; cuts = cuts; stands = (x.cut).stands };
      shown = frames_same text from count t es fs x units e;
    }

decodes_by : (text : List ℕ) (from count : ℕ) (tree : Sofar) (us t : Units) → AreUnits us → ReadWhole us tree → BeginIntra (events tree) → EndClear (joined (cut_units from count t)) → stream_units text ≡ t → (rs : Units) → from_sequence us ≡ t ++ rs → Behind rs → NoEnds t
    → (a : IsAlone (before_group from t) (from_group from t)) → (group_headers (before_group from t) ≡ from) × (is_group a.g ≡ true) → (c : IsChosen count a.g a.later) → Decodes (cut_text text from count) (cut_frames text from count (events tree))
decodes_by text from count tree us t are w intra clear units rs whole behind goes a found c =
    let first = λ (u : List ℕ) (vs : Units) (e : from_sequence us ≡ u ∷ vs). first_sequence us u vs e in
    let parts : from_sequence us ≡ (before_group from t ++ a.g ∷ a.later) ++ rs = whole ∙ ap (λ (l : Units). l ++ rs) (group_parts t from ∙ ap (λ (l : Units). before_group from t ++ l) a.is) in
    let b = before_by (before_group from t) a.g a.later rs (from_sequence us) parts first found.1 in
    let shape : from_sequence us ≡ b.pre ++ ((b.h ∷ b.pm) ++ a.g ∷ (c.own ++ (c.ds ++ rs))) = whole ∙ ap (λ (l : Units). l ++ rs) (parts_of t from count a c b) ∙ parted_shape b.pre (b.h ∷ b.pm) c.own c.ds rs a.g in
    let k = skip us tree.parts tree.state w.rest w.ends in
    let changed = has_picture (before_group from t) in
    let d = parted_by t rs from count a found.1 c b behind goes in
    let ten = ten_all (from_sequence us) tree.state w.rest k.0 k.1 first (ap (λ (l : Events). flat_map intra_rule (all_numbered l)) (sym k.2) ∙ intra) in
    let x = cut_of changed count b.pre b.h b.pm a.g c.own c.ds rs tree.state w.rest k.0 d (subst (λ (l : Units). Ends at_first l k.0 tree.state w.rest) shape k.1) w.paired ten in
    let number : group_headers (b.pre ++ b.h ∷ b.pm) ≡ from = ap group_headers (sym b.whole) ∙ found.0 in
    let mine = copied t from count a c b in
    let y : CutOf changed from count (b.h ∷ (b.pm ++ header_by changed a.g ∷ c.own)) (events_from at_first no_frames k.0) = subst (λ (n : ℕ). CutOf changed n count (b.h ∷ (b.pm ++ header_by changed a.g ∷ c.own)) (events_from at_first no_frames k.0)) number x in
    let own : AreUnits ((b.h ∷ (b.pm ++ header_by changed a.g ∷ c.own)) ++ end_code ∷ []) = cut_are changed us t b.pre b.h b.pm a.g c.own c.ds rs are a.long shape (subst (λ (l : Units). EndClear (joined l)) mine clear) in
    decodes_of text from count t (events tree) (events_from at_first no_frames k.0) (subst (λ (l : Units). CutOf changed from count l (events_from at_first no_frames k.0)) (sym mine) y) units k.2 (subst (λ (l : Units). AreUnits (l ++ end_code ∷ [])) (sym mine) own)

-- a cut of a text whose units are known
cut_decodes : (text : List ℕ) (from count : ℕ) (tree : Sofar) (us : Units) → AreUnits us → (cut 0 text).1 ≡ us → ReadWhole us tree → 1 ≤ count → BeginIntra (events tree) → is_standalone text from ≡ true → EndClear (joined (cut_units from count (stream_units text)))
    → Decodes (cut_text text from count) (cut_frames text from count (events tree))
cut_decodes text from zero tree us are cuts w le intra alone clear = absurd (omega arith)
cut_decodes text from (suc m) tree us are cuts w le intra alone clear =
    let s = from_sequence us in
    let t = to_end s in
    let units : stream_units text ≡ t = ap (λ (l : Units). to_end (from_sequence l)) cuts in
    let e = ended_units s in
    let before = before_group from t in
    let a = alone_is before (from_group from t) (subst (λ (l : Units). stands_alone (before_group from l) (from_group from l) ≡ true) units alone) in
    let found = group_found t from a.g a.later a.is in
    let c = chosen_by a.g a.later m (from_group m a.later) found.1 a.intra refl in
    decodes_by text from (suc m) tree us t are w intra (subst (λ (l : Units). EndClear (joined (cut_units from (suc m) l))) units clear) units e.0 e.1 e.2 e.3 a found c

-- a cut of a stream decodes to the frames that its groups have in the whole
pub cut_law : (text : List ℕ) (from count : ℕ) → CutDecodes text from count
cut_law text from count tree stream le intra alone clear =
    let c = cut_cuts text in
    let same : (cut 0 text).1 ≡ stream.units = ap (λ (x : List ℕ × Units). x.1) (cuts_is text stream.front stream.units stream.cuts) in
    let w = read_whole stream.units stream.rest tree stream.stands in
    cut_decodes text from count tree stream.units (subst AreUnits same c.are_units) same w le intra alone clear

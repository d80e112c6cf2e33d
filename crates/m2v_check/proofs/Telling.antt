-- What is told from a state on, unit by unit: which sequence header is the first one and the last one, that each picture stands
-- behind one, how fields follow each other, and what a vbv_delay may be.
use Rattle.std.proofs.Common.{◌≡◌, ℕ, zero, suc, ◌<◌, ◌^◌, Bool, true, false, [], ◌∷◌, ◌++◌, length, Option, Some, None, Result, Ok, Err, inl, inr, refl, sym, ap, subst, ◌∙◌, arith}
use Rattle.std.specs.Prelude.{nat_eq, is_some, ◌||◌, not, if◌then◌else◌}
use Rattle.std.proofs.lemmas.Bool.{cases_Bool}
use Rattle.std.proofs.lemmas.List.{append-nil}
use Rattle.m2v_bits.specs.Syntax.{bind}
use Rattle.m2v_bits.proofs.SyntaxLaws.{good}
use Rattle.m2v_model.specs.declared.fault.FaultKind.{FaultKind}
use Rattle.m2v_model.specs.declared.state.Sequence.{Sequence}
use Rattle.m2v_model.specs.declared.state.Open.{Open}
use Rattle.m2v_model.specs.declared.state.FirstField.{FirstField}
use Rattle.m2v_model.specs.declared.state.State.{State}
use Rattle.m2v_model.specs.Units.{Units}
use Rattle.m2v_model.specs.States.{first_or, is_frame, is_frame_end, with_slice, with_unread_slice, after_sequence, after_group, after_end}
use Rattle.m2v_model.specs.Slices.{large_in}
use Rattle.m2v_model.specs.Streams.{Part, sequence, group, picture, matrices, slice, unread_slice, skipped_unit, ending, over, after}
use Rattle.m2v_model.specs.Pictures.{Store, Pictures, Events, sequence_header, group_header, coded_picture, pictures_in, picture_of, closed, told_by}
use Rattle.m2v_model.specs.ByPieces.{Between, Course, behind, unit_read, after_part, units_read}
use Rattle.m2v_model.proofs.FlowLaws.{part_read, read_once, unit_less}
use Rattle.m2v_model.proofs.EventLaws.{pictures_in-append}
use Rattle.m2v_check.specs.Laws.{Alternates}
use Rattle.m2v_decode.proofs.m2v_dec_rows.UnitGifts.{PartFits, IsLast, IsOnward, first_value, UnitSays, unit_says}

-- ---- unit by unit

abbrev Claim : Type 1
Claim = Between → Units → Events → Between → Type 0

-- it holds where a part is the last one
abbrev pub AtLast : Claim → Type 0
AtLast Q = (b : Between) (us : Units) (p : Part) → IsLast p → Q b us (told_by b.state b.store p) (after_part b p)

-- it holds in front of what it holds of
abbrev pub InFront : Claim → Type 0
InFront Q =
    (b : Between) (us mid : Units) (p : Part) (es : Events) (next : Between) → PartFits b.state (first_value us) p → IsOnward us mid
    → Q (after_part b p) mid es next → Q b us (told_by b.state b.store p ++ es) next

abbrev Holds : Claim → Between → Units → Course → Type 0
Holds Q b us (Ok x) = Q b us x.0 x.1
Holds Q b us (Err f) = Unit {0}

module _ (Q : Claim) (last : AtLast Q) (front : InFront Q) where
  in_front : (b : Between) (us mid : Units) (p : Part) (c : Course) → PartFits b.state (first_value us) p → IsOnward us mid → Holds Q (after_part b p) mid c → Holds Q b us (behind (told_by b.state b.store p) c)
  in_front b us mid p (Ok x) fits onward h = front b us mid p x.0 x.1 fits onward h
  in_front b us mid p (Err f) fits onward h = tt

  once : (b : Between) (us : Units) (r : Result ((Bool × Part) × Units) (FaultKind × ℕ)) → ((x : Bool × Part) (mid : Units) → r ≡ good (x, mid) → UnitSays b.state us x mid)
      → ((p : Part) (mid : Units) → r ≡ good ((true, p), mid) → Holds Q (after_part b p) mid (units_read (after_part b p) mid)) → Holds Q b us (bind r (part_read b))
  unfolding bind
  once b us (Err f) h ih = tt
  once b us (Ok ((false, p), mid)) h ih =
      let s = h (false, p) mid refl in
      subst (λ (es : Events). Q b us es (after_part b p)) (sym (append-nil (told_by b.state b.store p))) (last b us p (s.last refl))
  once b us (Ok ((true, p), mid)) h ih =
      let s = h (true, p) mid refl in
      let m = s.more refl in
      in_front b us mid p (units_read (after_part b p) mid) m.0 m.1 (ih p mid refl)

  all_n : (n : ℕ) (b : Between) (us : Units) → length us < n → Holds Q b us (units_read b us)
  all_n zero b us lt = absurd (omega arith)
  all_n (suc n) b us lt =
      subst (Holds Q b us) (sym (read_once b us))
      (once b us (unit_read b.state us) (unit_says b.state us) (λ p mid e. all_n n (after_part b p) mid (let less = unit_less b.state us mid true p e refl in omega arith)))

  -- what holds of the last part, and in front of what it holds of, holds of all units that are read
  pub by_units : (b : Between) (us : Units) (es : Events) (next : Between) → units_read b us ≡ Ok (es, next) → Q b us es next
  by_units b us es next e = subst (Holds Q b us) e (all_n (suc (length us)) b us (omega arith))

-- ---- events

-- the first sequence header, and the last one
abbrev pub first_in : Option Sequence → Events → Option Sequence
first_in o [] = o
first_in o (sequence_header s ∷ es) = first_in (Some (first_or o s)) es
first_in o (group_header g ∷ es) = first_in o es
first_in o (coded_picture p ∷ es) = first_in o es

abbrev pub last_in : Option Sequence → Events → Option Sequence
last_in o [] = o
last_in o (sequence_header s ∷ es) = last_in (Some s) es
last_in o (group_header g ∷ es) = last_in o es
last_in o (coded_picture p ∷ es) = last_in o es

-- each picture stands behind a sequence header
abbrev pub AreHeaded : Option Sequence → Events → Type 0
AreHeaded o [] = Unit {0}
AreHeaded o (sequence_header s ∷ es) = AreHeaded (Some s) es
AreHeaded o (group_header g ∷ es) = AreHeaded o es
AreHeaded o (coded_picture p ∷ es) = (is_some o ≡ true) × AreHeaded o es

-- each vbv_delay has 16 bits
abbrev pub HaveDelays : Pictures → Type 0
HaveDelays [] = Unit {0}
HaveDelays (p ∷ ps) = (p.info.vbv_delay < 2 ^ 16) × HaveDelays ps

-- a first field waits behind pictures
abbrev pub waits_behind : Bool → Pictures → Bool
waits_behind w [] = w
waits_behind w (p ∷ ps) = waits_behind (not p.ends_frame) ps

pub first-append : (o : Option Sequence) (es fs : Events) → first_in o (es ++ fs) ≡ first_in (first_in o es) fs
first-append o [] fs = refl
first-append o (sequence_header s ∷ es) fs = first-append (Some (first_or o s)) es fs
first-append o (group_header g ∷ es) fs = first-append o es fs
first-append o (coded_picture p ∷ es) fs = first-append o es fs

pub last-append : (o : Option Sequence) (es fs : Events) → last_in o (es ++ fs) ≡ last_in (last_in o es) fs
last-append o [] fs = refl
last-append o (sequence_header s ∷ es) fs = last-append (Some s) es fs
last-append o (group_header g ∷ es) fs = last-append o es fs
last-append o (coded_picture p ∷ es) fs = last-append o es fs

headed-append : (o : Option Sequence) (es fs : Events) → AreHeaded o es → AreHeaded (last_in o es) fs → AreHeaded o (es ++ fs)
headed-append o [] fs a b = b
headed-append o (sequence_header s ∷ es) fs a b = headed-append (Some s) es fs a b
headed-append o (group_header g ∷ es) fs a b = headed-append o es fs a b
headed-append o (coded_picture p ∷ es) fs a b = (a.0, headed-append o es fs a.1 b)

delays-append : (ps qs : Pictures) → HaveDelays ps → HaveDelays qs → HaveDelays (ps ++ qs)
delays-append [] qs a b = b
delays-append (p ∷ ps) qs a b = (a.0, delays-append ps qs a.1 b)

alternates-append : (w : Bool) (ps qs : Pictures) → Alternates w ps → Alternates (waits_behind w ps) qs → Alternates w (ps ++ qs)
alternates-append w [] qs a b = b
alternates-append w (p ∷ ps) qs a b = (a.0, a.1, alternates-append (not p.ends_frame) ps qs a.2 b)

waits-append : (w : Bool) (ps qs : Pictures) → waits_behind w (ps ++ qs) ≡ waits_behind (waits_behind w ps) qs
waits-append w [] qs = refl
waits-append w (p ∷ ps) qs = waits-append (not p.ends_frame) ps qs

-- ---- states

-- the picture that is open stands behind a sequence header, its vbv_delay has 16 bits, and a first field waits for its
-- second where it is one
abbrev pub IsGoodPicture : Option Sequence → Option FirstField → Option Open → Type 0
IsGoodPicture s w None = Unit {0}
IsGoodPicture s w (Some p) = (is_some s ≡ true) × (p.info.vbv_delay < 2 ^ 16) × (is_some w ≡ not (is_frame_end p))

abbrev pub IsGoodState : State → Type 0
IsGoodState st = IsGoodPicture st.sequence st.waiting st.picture

-- a first field waits before the picture that is open
abbrev pub waits_before : Option FirstField → Option Open → Bool
waits_before w None = is_some w
waits_before w (Some p) = p.second_field

pub record SaysOf (a : State) (o : Option Open) (es : Events) (b : State) : Type 0 where
  pub good : IsGoodState b
  pub first : b.first ≡ first_in a.first es
  pub sequence : b.sequence ≡ last_in a.sequence es
  pub headed : AreHeaded a.sequence es
  pub delays : HaveDelays (pictures_in es)
  pub alternates : Alternates (waits_before a.waiting o) (pictures_in es)
  pub waits : waits_before b.waiting b.picture ≡ waits_behind (waits_before a.waiting o) (pictures_in es)

-- what is told between two states
abbrev pub Says : State → Events → State → Type 0
Says a es b = SaysOf a a.picture es b

says_of_on : (a b c : State) (o : Option Open) (es fs : Events) → SaysOf a o es b → Says b fs c → SaysOf a o (es ++ fs) c
says_of_on a b c o es fs x y =
    let all = pictures_in-append es fs in
    let w = waits_before a.waiting o in
    record {
      good = y.good;
      first = y.first ∙ ap (λ (s : Option Sequence). first_in s fs) x.first ∙ sym (first-append a.first es fs);
      sequence = y.sequence ∙ ap (λ (s : Option Sequence). last_in s fs) x.sequence ∙ sym (last-append a.sequence es fs);
      headed = headed-append a.sequence es fs x.headed (subst (λ (s : Option Sequence). AreHeaded s fs) x.sequence y.headed);
      delays = subst HaveDelays (sym all) (delays-append (pictures_in es) (pictures_in fs) x.delays y.delays);
      alternates = subst (Alternates w) (sym all) (alternates-append w (pictures_in es) (pictures_in fs) x.alternates (subst (λ (v : Bool). Alternates v (pictures_in fs)) x.waits y.alternates));
      waits = y.waits ∙ ap (λ (v : Bool). waits_behind v (pictures_in fs)) x.waits ∙ sym (ap (waits_behind w) all ∙ waits-append w (pictures_in es) (pictures_in fs));
    }

pub says_on : (a b c : State) (es fs : Events) → Says a es b → Says b fs c → Says a (es ++ fs) c
says_on a b c es fs x y = says_of_on a b c a.picture es fs x y

says_of_none : (a b c : State) (o : Option Open) (es : Events) → SaysOf a o es b → Says b [] c → SaysOf a o es c
says_of_none a b c o es x y = subst (λ (l : Events). SaysOf a o l c) (append-nil es) (says_of_on a b c o es [] x y)

pub says_nothing : (st : State) → IsGoodState st → Says st [] st
says_nothing st h = record { good = h; first = refl; sequence = refl; headed = tt; delays = tt; alternates = tt; waits = refl }

twice_not : (a b : Bool) → (a || b) ≡ (a || not (not b))
twice_not a true = refl
twice_not a false = refl

none_of : (a b : Bool) → (a || b) ≡ false → b ≡ false
none_of true b e = absurd cc
none_of false b e = e

says_closed : (a : State) (store : Store) (o : Option Open) → IsGoodPicture a.sequence a.waiting o → SaysOf a o (closed o store) (after_end a)
unfolding picture_of
says_closed a store None h = record { good = tt; first = refl; sequence = refl; headed = tt; delays = tt; alternates = tt; waits = refl }
says_closed a store (Some p) h = record {
  good = tt;
  first = refl;
  sequence = refl;
  headed = (h.0, tt);
  delays = (h.1, tt);
  alternates = (twice_not (is_frame p.extension) p.second_field, none_of (is_frame p.extension) p.second_field, tt);
  waits = h.2;
}

some_if : (b : Bool) (f : FirstField) → is_some (if b then None else Some f) ≡ not b
some_if true f = refl
some_if false f = refl

sliced_good : (s : Option Sequence) (w : Option FirstField) (o : Option Open) (row covered large : ℕ) → IsGoodPicture s w o → IsGoodPicture s w (with_slice o row covered large)
sliced_good s w None row covered large h = tt
sliced_good s w (Some p) row covered large h = elim (cases_Bool (nat_eq row p.row)) [
  | inl on ↦ rw on h
  | inr off ↦ rw off h
]

sliced_waits : (w : Option FirstField) (o : Option Open) (row covered large : ℕ) → waits_before w (with_slice o row covered large) ≡ waits_before w o
sliced_waits w None row covered large = refl
sliced_waits w (Some p) row covered large = elim (cases_Bool (nat_eq row p.row)) [
  | inl on ↦ rw on refl
  | inr off ↦ rw off refl
]

unread_good : (s : Option Sequence) (w : Option FirstField) (o : Option Open) (row : ℕ) → IsGoodPicture s w o → IsGoodPicture s w (with_unread_slice o row)
unread_good s w None row h = tt
unread_good s w (Some p) row h = h

unread_waits : (w : Option FirstField) (o : Option Open) (row : ℕ) → waits_before w (with_unread_slice o row) ≡ waits_before w o
unread_waits w None row = refl
unread_waits w (Some p) row = refl

pub part_says : (b : Between) (v : Option ℕ) (p : Part) → IsGoodState b.state → PartFits b.state v p → Says b.state (told_by b.state b.store p) (after b.state p)
unfolding after
part_says b v (sequence s) h fits =
    let st = b.state in
    says_of_on st (after_end st) (after_sequence st s) st.picture (closed st.picture b.store) (sequence_header s ∷ []) (says_closed st b.store st.picture h)
    (record { good = tt; first = refl; sequence = refl; headed = tt; delays = tt; alternates = tt; waits = refl })
part_says b v (group g) h fits =
    let st = b.state in
    says_of_on st (after_end st) (after_group st g) st.picture (closed st.picture b.store) (group_header g ∷ []) (says_closed st b.store st.picture h)
    (record { good = tt; first = refl; sequence = refl; headed = tt; delays = tt; alternates = tt; waits = refl })
part_says b v (picture info extension) h fits =
    let st = b.state in
    let ends : Bool = is_frame extension || is_some st.waiting in
    says_of_none st (after_end st) (after st (picture info extension)) st.picture (closed st.picture b.store) (says_closed st b.store st.picture h)
    (record { good = (fits.2, fits.1, some_if ends _); first = refl; sequence = refl; headed = tt; delays = tt; alternates = tt; waits = refl })
part_says b v (matrices m) h fits = record { good = h; first = refl; sequence = refl; headed = tt; delays = tt; alternates = tt; waits = refl }
part_says b v (slice row x) h fits =
    let st = b.state in
    record {
      good = sliced_good st.sequence st.waiting st.picture row x.covered (large_in x) h;
      first = refl;
      sequence = refl;
      headed = tt;
      delays = tt;
      alternates = tt;
      waits = sliced_waits st.waiting st.picture row x.covered (large_in x);
    }
part_says b v (unread_slice row u) h fits =
    let st = b.state in
    record {
      good = unread_good st.sequence st.waiting st.picture row h;
      first = refl;
      sequence = refl;
      headed = tt;
      delays = tt;
      alternates = tt;
      waits = unread_waits st.waiting st.picture row;
    }
part_says b v (skipped_unit u) h fits = record { good = h; first = refl; sequence = refl; headed = tt; delays = tt; alternates = tt; waits = refl }
part_says b v ending h fits = absurd fits
part_says b v over h fits = absurd fits

-- the last part is one of two
pub of_last : (P : Part → Type 0) → P ending → P over → (p : Part) → IsLast p → P p
of_last P at_end at_over (sequence s) l = absurd l
of_last P at_end at_over (group g) l = absurd l
of_last P at_end at_over (picture info extension) l = absurd l
of_last P at_end at_over (matrices m) l = absurd l
of_last P at_end at_over (slice row x) l = absurd l
of_last P at_end at_over (unread_slice row u) l = absurd l
of_last P at_end at_over (skipped_unit u) l = absurd l
of_last P at_end at_over ending l = at_end
of_last P at_end at_over over l = at_over

-- it ends the picture that is open
last_says : (b : Between) (p : Part) → IsLast p → IsGoodState b.state → Says b.state (told_by b.state b.store p) (after b.state p) × ((after b.state p).picture ≡ None)
unfolding after
last_says b p l h =
    of_last (λ (q : Part). Says b.state (told_by b.state b.store q) (after b.state q) × ((after b.state q).picture ≡ None))
    (says_closed b.state b.store b.state.picture h, refl) (says_closed b.state b.store b.state.picture h, refl) p l

abbrev Told : Claim
Told b us es next = IsGoodState b.state → Says b.state es next.state × (next.state.picture ≡ None)

told_last : AtLast Told
told_last b us p l h = last_says b p l h

told_front : InFront Told
told_front b us mid p es next fits onward ih h =
    let first = part_says b (first_value us) p h fits in
    let more = ih first.good in
    (says_on b.state (after b.state p) next.state (told_by b.state b.store p) es first more.0, more.1)

-- what is told of units that are read
pub units_say : (b : Between) (us : Units) (es : Events) (next : Between) → units_read b us ≡ Ok (es, next) → IsGoodState b.state → Says b.state es next.state × (next.state.picture ≡ None)
units_say = by_units Told told_last told_front

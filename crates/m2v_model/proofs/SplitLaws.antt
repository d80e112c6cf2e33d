-- Units before one that begins a piece are read by themselves, and those from it on from the state that they left.
use Rattle.std.proofs.Common.{◌≡◌, ℕ, zero, suc, ◌+◌, ◌<◌, ◌≤◌, Bool, true, false, cond, List, [], ◌∷◌, ◌++◌, length, Option, Some, None, Result, Ok, Err, ◌⊎◌, inl, inr, refl, sym, ap, subst, ◌∙◌, append_assoc, arith}
use Rattle.std.specs.Prelude.{nat_eq, ◌||◌, is_some}
use Rattle.std.proofs.lemmas.Bool.{cases_Bool, cond-true, both_ways, eqb-true}
use Rattle.std.proofs.lemmas.List.{append-nil}
use Rattle.m2v_bits.specs.Syntax.{bind, done, seq, rule, choose}
use Rattle.m2v_bits.proofs.SyntaxLaws.{good, bad}
use Rattle.m2v_model.specs.declared.fault.FaultKind.{FaultKind}
use Rattle.m2v_model.specs.declared.fault.FaultKind.TheVariants.{MissingMacroblocks, FieldPair}
use Rattle.m2v_model.specs.declared.state.Sequence.{Sequence}
use Rattle.m2v_model.specs.declared.state.State.{State}
use Rattle.m2v_model.specs.Units.{Units, unit_bits}
use Rattle.m2v_model.specs.States.{after_end, is_complete, none_waits}
use Rattle.m2v_model.specs.Looking.{refuse}
use Rattle.m2v_macroblock.specs.m2v_head.declared.matrix.MatrixInfo.{MatrixInfo}
use Rattle.m2v_model.specs.Slices.{Slice}
use Rattle.m2v_model.specs.Streams.{Part, Among, sequence, group, picture, matrices, slice, unread_slice, skipped_unit, after, value_of, close, no_second_field_due, sequence_unit, group_unit, picture_unit, end_unit, onward, final, later_unit, known_unit, text_end}
use Rattle.m2v_model.specs.Pictures.{Events, closed, picture_ended, told_by}
use Rattle.m2v_model.specs.Pieces.{begins_piece, is_end}
use Rattle.m2v_model.specs.ByPieces.{Between, Course, behind, unit_read, after_part, units_read}
use Rattle.m2v_model.proofs.StreamLaws.{known_lawful, text_end_lawful, sequence_unit_lawful, group_unit_lawful, picture_unit_lawful, end_unit_lawful, onward_lawful, final_lawful}
use Rattle.m2v_model.proofs.FlowLaws.{part_read, read_once}
use Rattle.m2v_model.proofs.ShiftLaws.{BeginsPiece, NoEnds, Kept, shifted, unit_shifted, unit_kept}

-- ---- events in front

pub behind_none : (r : Course) → behind [] r ≡ r
behind_none (Ok x) = refl
behind_none (Err f) = refl

pub behind_twice : (ps qs : Events) (r : Course) → behind (ps ++ qs) r ≡ behind ps (behind qs r)
behind_twice ps qs (Ok x) = ap (λ (l : Events). Ok (l, x.1)) (append_assoc ps qs x.0)
behind_twice ps qs (Err f) = refl

-- ---- states

-- a sequence header is in force
abbrev pub IsKnown : State → Type 0
IsKnown st = is_some st.sequence ≡ true

-- a sequence header is in force at the unit, or it is one
abbrev pub KnownBy : State → List ℕ → Type 0
KnownBy st u = (is_some st.sequence || nat_eq (value_of u) 0xB3) ≡ true

abbrev pub KnownAt : State → Units → Type 0
KnownAt st [] = IsKnown st
KnownAt st (u ∷ us) = KnownBy st u

-- a sequence header is in force behind what is read
abbrev pub IsKnownBehind : Course → Type 0
IsKnownBehind (Ok x) = IsKnown (x.1).state
IsKnownBehind (Err f) = Unit {0}

pub known_at : (st : State) (us : Units) → IsKnown st → KnownAt st us
known_at st [] k = k
known_at st (u ∷ us) k = rw k refl

pub known_after : (st : State) (p : Part) → IsKnown st → IsKnown (after st p)
unfolding after
known_after st (sequence s) k = refl
known_after st _ k = k

known_behind : (ps : Events) (r : Course) → IsKnownBehind r → IsKnownBehind (behind ps r)
known_behind ps (Ok x) k = k
known_behind ps (Err f) k = tt

complete_none : (s : Option Sequence) → is_complete s None ≡ true
complete_none (Some s) = refl
complete_none None = refl

-- ---- where a picture ends

-- neither a header nor an end
abbrev pub IsOther : Part → Type 0
IsOther (matrices m) = Unit {0}
IsOther (slice row x) = Unit {0}
IsOther (unread_slice row u) = Unit {0}
IsOther (skipped_unit u) = Unit {0}
IsOther _ = ⊥

pub other_by : (P : Part → Type 0) → ((m : MatrixInfo) → P (matrices m)) → ((row : ℕ) (x : Slice) → P (slice row x)) → ((row : ℕ) (u : List ℕ) → P (unread_slice row u)) → ((u : List ℕ) → P (skipped_unit u))
    → (p : Part) → IsOther p → P p
other_by P h i j k (matrices m) o = h m
other_by P h i j k (slice row x) o = i row x
other_by P h i j k (unread_slice row u) o = j row u
other_by P h i j k (skipped_unit u) o = k u
other_by P h i j k _ o = absurd o

-- the part ends the picture that is open
abbrev Renews : Part → Type 0
Renews p = IsOther p → ⊥

-- what stands where the picture that is open has ended
abbrev pub rested : Between → Between
rested b = record { state = after_end b.state; store = picture_ended b.state.picture b.store }

-- the picture that is open, as it is told
abbrev pub closed_of : Between → Events
closed_of b = closed b.state.picture b.store

part_renewed : (b : Between) (m : Bool) (p : Part) (mid : Units) → Renews p → part_read b (m, p) mid ≡ behind (closed_of b) (part_read (rested b) (m, p) mid)
unfolding after
part_renewed b m (sequence s) mid r = behind_twice (closed_of b) _ _
part_renewed b m (group g) mid r = behind_twice (closed_of b) _ _
part_renewed b m (matrices x) mid r = absurd (r tt)
part_renewed b m (slice row x) mid r = absurd (r tt)
part_renewed b m (unread_slice row u) mid r = absurd (r tt)
part_renewed b m (skipped_unit u) mid r = absurd (r tt)
part_renewed b m _ mid r = ap (behind (closed_of b)) (sym (behind_none _))

all_renewed : (b : Between) (r : Result ((Bool × Part) × Units) (FaultKind × ℕ)) → ((x : Bool × Part) (mid : Units) → r ≡ good (x, mid) → Renews x.1)
    → bind r (part_read b) ≡ behind (closed_of b) (bind r (part_read (rested b)))
unfolding bind
all_renewed b (Ok ((m, p), mid)) h = part_renewed b m p mid (h (m, p) mid refl)
all_renewed b (Err f) h = refl

renews_picture : (st : State) (start : ℕ) (u : List ℕ) (t mid : Units) (x : Bool × Part) → IsKnown st → (known_unit st start 0x00 u).read t ≡ good (x, mid) → Renews x.1
unfolding known_unit later_unit choose onward picture_unit seq done
renews_picture st start u t mid x k e =
    let s = (onward_lawful (picture_unit_lawful st start u)).found x t mid (sym (cond-true (is_some st.sequence) _ _ k) ∙ e) in
    subst Renews (sym (ap (λ (y : Bool × Part). y.1) s.3.0 ∙ s.2.3.3.3.3.3.3.3.0)) (λ o. o)

renews_sequence : (st : State) (start : ℕ) (u : List ℕ) (t mid : Units) (x : Bool × Part) → (known_unit st start 0xB3 u).read t ≡ good (x, mid) → Renews x.1
unfolding known_unit choose onward sequence_unit seq done
renews_sequence st start u t mid x e =
    let s = (onward_lawful (sequence_unit_lawful st start u)).found x t mid e in
    subst Renews (sym (ap (λ (y : Bool × Part). y.1) s.3.0 ∙ s.2.3.3.3.3.3.3.3.0)) (λ o. o)

renews_end : (st : State) (start : ℕ) (u : List ℕ) (t mid : Units) (x : Bool × Part) → IsKnown st → (known_unit st start 0xB7 u).read t ≡ good (x, mid) → Renews x.1
unfolding known_unit later_unit choose final end_unit seq done
renews_end st start u t mid x k e =
    let s = (final_lawful (end_unit_lawful st start)).found x t mid (sym (cond-true (is_some st.sequence) _ _ k) ∙ e) in
    subst Renews (sym (ap (λ (y : Bool × Part). y.1) s.3.0 ∙ s.2.3.3.0)) (λ o. o)

renews_group : (st : State) (start : ℕ) (u : List ℕ) (t mid : Units) (x : Bool × Part) → IsKnown st → (known_unit st start 0xB8 u).read t ≡ good (x, mid) → Renews x.1
unfolding known_unit later_unit choose onward group_unit seq done
renews_group st start u t mid x k e =
    let s = (onward_lawful (group_unit_lawful st start u)).found x t mid (sym (cond-true (is_some st.sequence) _ _ k) ∙ e) in
    subst Renews (sym (ap (λ (y : Bool × Part). y.1) s.3.0 ∙ s.2.3.3.3.0)) (λ o. o)

-- a unit that begins a piece, from a state on: first the picture that is open ends
abbrev Closes : State → ℕ → List ℕ → Units → ℕ → Type 0
Closes st start u t value = (known_unit st start value u).read t ≡ cond (is_complete st.sequence st.picture) ((known_unit (after_end st) start value u).read t) (Err (MissingMacroblocks, start))

closes_where : (st : State) (start value : ℕ) (u : List ℕ) (t : Units) → (is_complete st.sequence st.picture ≡ true → (known_unit st start value u).read t ≡ (known_unit (after_end st) start value u).read t)
    → (is_complete st.sequence st.picture ≡ false → (known_unit st start value u).read t ≡ Err (MissingMacroblocks, start)) → Closes st start u t value
closes_where st start value u t whole part =
    let at = λ (c : Bool). (known_unit st start value u).read t ≡ cond c ((known_unit (after_end st) start value u).read t) (Err (MissingMacroblocks, start)) in
    elim (cases_Bool (is_complete st.sequence st.picture)) [ inl on ↦ subst at (sym on) (whole on) | inr off ↦ subst at (sym off) (part off) ]

closes_picture : (st : State) (start : ℕ) (u : List ℕ) (t : Units) → IsKnown st → Closes st start u t 0x00
unfolding known_unit later_unit choose onward picture_unit seq close rule bind
closes_picture st start u t k = closes_where st start 0x00 u t (λ on. rw (k, on, complete_none st.sequence) refl) (λ off. rw (k, off) refl)

closes_sequence : (st : State) (start : ℕ) (u : List ℕ) (t : Units) → Closes st start u t 0xB3
unfolding known_unit choose onward sequence_unit seq close no_second_field_due rule bind
closes_sequence st start u t = closes_where st start 0xB3 u t (λ on. rw (on, complete_none st.sequence) refl) (λ off. rw off refl)

closes_end : (st : State) (start : ℕ) (u : List ℕ) (t : Units) → IsKnown st → Closes st start u t 0xB7
unfolding known_unit later_unit choose final end_unit seq close no_second_field_due rule bind
closes_end st start u t k = closes_where st start 0xB7 u t (λ on. rw (k, on, complete_none st.sequence) refl) (λ off. rw (k, off) refl)

closes_group : (st : State) (start : ℕ) (u : List ℕ) (t : Units) → IsKnown st → Closes st start u t 0xB8
unfolding known_unit later_unit choose onward group_unit seq close no_second_field_due rule bind
closes_group st start u t k = closes_where st start 0xB8 u t (λ on. rw (k, on, complete_none st.sequence) refl) (λ off. rw (k, off) refl)

closes_none : (st : State) → IsKnown st → unit_read st [] ≡ cond (is_complete st.sequence st.picture) (unit_read (after_end st) []) (Err (MissingMacroblocks, 0))
unfolding unit_read text_end seq close rule bind
closes_none st k =
    elim (cases_Bool (is_complete st.sequence st.picture)) [
      | inl on ↦ rw (k, on, complete_none st.sequence) refl
      | inr off ↦ rw (k, off) refl
    ]

renews_none : (st : State) (x : Bool × Part) (mid : Units) → unit_read st [] ≡ good (x, mid) → Renews x.1
unfolding unit_read text_end seq done
renews_none st x mid e = let s = (text_end_lawful st 0).found x [] mid e in subst Renews (sym (ap (λ (y : Bool × Part). y.1) s.3.3.0)) (λ o. o)

which : (value : ℕ) → begins_piece value ≡ true → (value ≡ 0x00) ⊎ ((value ≡ 0xB3) ⊎ ((value ≡ 0xB7) ⊎ (value ≡ 0xB8)))
unfolding begins_piece
which value b =
    elim (cases_Bool (nat_eq value 0x00)) [
      | inl on ↦ inl (eqb-true value 0x00 on)
      | inr off0 ↦ elim (cases_Bool (nat_eq value 0xB3)) [
        | inl on ↦ inr (inl (eqb-true value 0xB3 on))
        | inr off3 ↦ elim (cases_Bool (nat_eq value 0xB7)) [
          | inl on ↦ inr (inr (inl (eqb-true value 0xB7 on)))
          | inr off7 ↦ inr (inr (inr (eqb-true value 0xB8 (rw (off0, off3, off7) at b))))
        ]
      ]
    ]

closes_by : (st : State) (start value : ℕ) (u : List ℕ) (t : Units) → begins_piece value ≡ true → IsKnown st → Closes st start u t value
closes_by st start value u t b k =
    elim (which value b) [
      | inl e ↦ subst (Closes st start u t) (sym e) (closes_picture st start u t k)
      | inr y ↦ elim y [
        | inl e ↦ subst (Closes st start u t) (sym e) (closes_sequence st start u t)
        | inr z ↦ elim z [
          | inl e ↦ subst (Closes st start u t) (sym e) (closes_end st start u t k)
          | inr e ↦ subst (Closes st start u t) (sym e) (closes_group st start u t k)
        ]
      ]
    ]

renews_by : (st : State) (start value : ℕ) (u : List ℕ) (t mid : Units) (x : Bool × Part) → begins_piece value ≡ true → IsKnown st → (known_unit st start value u).read t ≡ good (x, mid) → Renews x.1
renews_by st start value u t mid x b k e =
    let at = λ (n : ℕ). (known_unit st start n u).read t ≡ good (x, mid) in
    elim (which value b) [
      | inl is ↦ renews_picture st start u t mid x k (subst at is e)
      | inr y ↦ elim y [
        | inl is ↦ renews_sequence st start u t mid x (subst at is e)
        | inr z ↦ elim z [
          | inl is ↦ renews_end st start u t mid x k (subst at is e)
          | inr is ↦ renews_group st start u t mid x k (subst at is e)
        ]
      ]
    ]

unit_closes : (st : State) (vs : Units) → BeginsPiece vs → IsKnown st → unit_read st vs ≡ cond (is_complete st.sequence st.picture) (unit_read (after_end st) vs) (Err (MissingMacroblocks, unit_bits vs))
unfolding unit_read
unit_closes st [] b k = closes_none st k
unit_closes st (v ∷ vs) b k = closes_by st (unit_bits (v ∷ vs)) (value_of v) v vs b k

unit_renews : (st : State) (vs mid : Units) (x : Bool × Part) → BeginsPiece vs → IsKnown st → unit_read st vs ≡ good (x, mid) → Renews x.1
unfolding unit_read
unit_renews st [] mid x b k e = renews_none st x mid e
unit_renews st (v ∷ vs) mid x b k e = renews_by st (unit_bits (v ∷ vs)) (value_of v) v vs mid x b k e

bind_closes : (c : Bool) (b : Between) (r : Result ((Bool × Part) × Units) (FaultKind × ℕ)) (f : FaultKind × ℕ) → ((x : Bool × Part) (mid : Units) → r ≡ good (x, mid) → Renews x.1)
    → bind (cond c r (Err f)) (part_read b) ≡ cond c (behind (closed_of b) (bind r (part_read (rested b)))) (Err f)
unfolding bind
bind_closes true b r f h = all_renewed b r h
bind_closes false b r f h = refl

-- where a piece begins, the picture that is open ends, and all else is read as with none open
pub closing : (b : Between) (vs : Units) → BeginsPiece vs → IsKnown b.state
    → units_read b vs ≡ cond (is_complete b.state.sequence b.state.picture) (behind (closed_of b) (units_read (rested b) vs)) (Err (MissingMacroblocks, unit_bits vs))
closing b vs o k =
    let st = b.state in
    let c = is_complete st.sequence st.picture in
    read_once b vs
    ∙ ap (λ r. bind r (part_read b)) (unit_closes st vs o k)
    ∙ bind_closes c b (unit_read (after_end st) vs) (MissingMacroblocks, unit_bits vs) (λ x mid e. unit_renews (after_end st) vs mid x o k e)
    ∙ ap (λ r. cond c (behind (closed_of b) r) (Err (MissingMacroblocks, unit_bits vs))) (sym (read_once (rested b) vs))

-- the end of a text with no picture open
pub over_seen : (b : Between) → IsKnown b.state → units_read (rested b) [] ≡ Ok ([], rested b)
unfolding unit_read text_end seq close rule bind done after
over_seen b k = read_once (rested b) [] ∙ rw (k, complete_none b.state.sequence) refl

-- the sequence end code with no picture open
pub end_seen : (b : Between) (u : List ℕ) (us : Units) → is_end (value_of u) ≡ true → IsKnown b.state → units_read (rested b) (u ∷ us) ≡ cond (none_waits b.state.waiting) (Ok ([], rested b)) (Err (FieldPair, unit_bits (u ∷ us)))
unfolding unit_read known_unit later_unit choose final end_unit no_second_field_due seq close rule bind done after is_end
end_seen b u us on k =
    let e : value_of u ≡ 0xB7 = eqb-true (value_of u) 0xB7 on in
    read_once (rested b) (u ∷ us)
    ∙ ap (λ (n : ℕ). bind ((known_unit (after_end b.state) (unit_bits (u ∷ us)) n u).read us) (part_read (rested b))) e
    ∙ elim (cases_Bool (none_waits b.state.waiting)) [
      | inl paired ↦ rw (k, complete_none b.state.sequence, paired) refl
      | inr due ↦ rw (k, complete_none b.state.sequence, due) refl
    ]

-- ---- a unit before that

onward_goes : (s : Among Part) (x : Bool × Part) (t rest : Units) → (onward s).Stands x t rest → x.0 ≡ true
unfolding onward seq done
onward_goes s x t rest e = ap (λ (y : Bool × Part). y.0) e.3.0

later_goes : (st : State) (start value : ℕ) (u : List ℕ) (x : Bool × Part) (t rest : Units) → is_end value ≡ false → (later_unit st start value u).Stands x t rest → x.0 ≡ true
unfolding later_unit choose refuse is_end
later_goes st start value u x t rest off e =
    elim e [
      | inl y ↦ onward_goes _ x t rest y.1
      | inr y ↦ elim y.1 [
        | inl z ↦ onward_goes _ x t rest z.1
        | inr z ↦ elim z.1 [
          | inl a ↦ onward_goes _ x t rest a.1
          | inr a ↦ elim a.1 [
            | inl b ↦ onward_goes _ x t rest b.1
            | inr b ↦ elim b.1 [
              | inl c ↦ absurd (both_ways _ off c.0)
              | inr c ↦ elim c.1 [
                | inl d ↦ onward_goes _ x t rest d.1
                | inr d ↦ elim d.1 [ inl f ↦ absurd f.1 | inr f ↦ absurd f.1 ]
              ]
            ]
          ]
        ]
      ]
    ]

pub sequence_known : (st : State) (start : ℕ) (u : List ℕ) (x : Bool × Part) (t rest : Units) → (onward (sequence_unit st start u)).Stands x t rest → IsKnown (after st x.1)
unfolding onward sequence_unit seq done after
sequence_known st start u x t rest e = subst (λ (p : Part). IsKnown (after st p)) (sym (ap (λ (y : Bool × Part). y.1) e.3.0 ∙ e.2.3.3.3.3.3.3.3.0)) refl

pub known_goes : (st : State) (start : ℕ) (u : List ℕ) (x : Bool × Part) (t rest : Units) → is_end (value_of u) ≡ false → KnownBy st u → (known_unit st start (value_of u) u).Stands x t rest → (x.0 ≡ true) × IsKnown (after st x.1)
unfolding known_unit choose
known_goes st start u x t rest off k e =
    elim e [
      | inl y ↦ (onward_goes _ x t rest y.1, sequence_known st start u x t rest y.1)
      | inr y ↦ elim y.1 [
        | inl z ↦ (later_goes st start (value_of u) u x t rest off z.1, known_after st x.1 z.0)
        | inr z ↦ let h = rw (z.0, y.0) at k in absurd cc
      ]
    ]

-- what a unit leaves, where it neither ends the stream nor stands before the first sequence header
record Goes (st : State) (us : Units) (x : Bool × Part) (mid : Units) : Type 0 where
  more : x.0 ≡ true
  known : IsKnown (after st x.1)
  no_ends : NoEnds mid
  fewer : length mid ≤ length us

unit_goes : (st : State) (u : List ℕ) (us : Units) → NoEnds (u ∷ us) → KnownBy st u → (x : Bool × Part) (mid : Units) → unit_read st (u ∷ us) ≡ good (x, mid) → Goes st us x mid
unfolding unit_read
unit_goes st u us n k x mid e =
    let l = known_lawful st (unit_bits (u ∷ us)) (value_of u) u in
    let s = l.found x us mid e in
    let g = known_goes st (unit_bits (u ∷ us)) u x us mid n.0 k s in
    record { more = g.0; known = g.1; no_ends = subst Kept e (unit_kept st u us n.1); fewer = l.shorter x us mid s }

-- ---- units, and others behind them

-- what is read of units, and then what stands behind them
abbrev pub split : Units → Course → Course
split vs (Ok x) = behind x.0 (units_read x.1 vs)
split vs (Err f) = Err (f.0, f.1 + unit_bits vs)

split_behind : (ps : Events) (vs : Units) (r : Course) → behind ps (split vs r) ≡ split vs (behind ps r)
split_behind ps vs (Ok x) = sym (behind_twice ps x.0 (units_read x.1 vs))
split_behind ps vs (Err f) = refl

pub record Splits (b : Between) (us vs : Units) : Type 0 where
  pub is : units_read b (us ++ vs) ≡ split vs (units_read b us)
  pub known : IsKnownBehind (units_read b us)

splits_more : (b : Between) (us vs : Units) (r : Result ((Bool × Part) × Units) (FaultKind × ℕ)) → ((x : Bool × Part) (mid : Units) → r ≡ good (x, mid) → Goes b.state us x mid)
    → ((z : Between) (mid : Units) → length mid ≤ length us → NoEnds mid → KnownAt z.state mid → Splits z mid vs)
    → (bind (shifted vs r) (part_read b) ≡ split vs (bind r (part_read b))) × IsKnownBehind (bind r (part_read b))
unfolding bind
splits_more b us vs (Err f) h ih = (refl, tt)
splits_more b us vs (Ok ((false, p), mid)) h ih = let g = h (false, p) mid refl in let e = g.more in absurd cc
splits_more b us vs (Ok ((true, p), mid)) h ih =
    let g = h (true, p) mid refl in
    let s = ih (after_part b p) mid g.fewer g.no_ends (known_at (after b.state p) mid g.known) in
    let ps = told_by b.state b.store p in
    (ap (behind ps) s.is ∙ split_behind ps vs (units_read (after_part b p) mid), known_behind ps _ s.known)

none_is : (c : Bool) (b : Between) (ps : Events) (vs : Units) → cond c (behind ps (units_read (rested b) vs)) (Err (MissingMacroblocks, unit_bits vs)) ≡ split vs (cond c (behind ps (Ok ([], rested b))) (Err (MissingMacroblocks, 0)))
none_is true b ps vs = ap (λ (l : Events). behind l (units_read (rested b) vs)) (sym (append-nil ps))
none_is false b ps vs = let e : unit_bits vs ≡ 0 + unit_bits vs = omega arith in ap (λ (n : ℕ). bad {T = Between} {V = Events} (MissingMacroblocks, n)) e

none_known : (c : Bool) (b : Between) (ps : Events) → IsKnown b.state → IsKnownBehind (cond c (behind ps (Ok ([], rested b))) (Err (MissingMacroblocks, 0)))
none_known true b ps k = k
none_known false b ps k = tt

none_seen : (b : Between) → IsKnown b.state → units_read b [] ≡ cond (is_complete b.state.sequence b.state.picture) (behind (closed_of b) (Ok ([], rested b))) (Err (MissingMacroblocks, 0))
none_seen b k = closing b [] tt k ∙ ap (λ r. cond (is_complete b.state.sequence b.state.picture) (behind (closed_of b) r) (Err (MissingMacroblocks, 0))) (over_seen b k)

splits_none : (b : Between) (vs : Units) → BeginsPiece vs → IsKnown b.state → Splits b [] vs
splits_none b vs o k =
    let c = is_complete b.state.sequence b.state.picture in
    record {
      is = closing b vs o k ∙ none_is c b (closed_of b) vs ∙ ap (split vs) (sym (none_seen b k));
      known = subst IsKnownBehind (sym (none_seen b k)) (none_known c b (closed_of b) k);
    }

splits_n : (n : ℕ) (b : Between) (us vs : Units) → length us < n → BeginsPiece vs → NoEnds us → KnownAt b.state us → Splits b us vs
splits_n zero b us vs lt o e k = absurd (omega arith)
splits_n (suc n) b [] vs lt o e k = splits_none b vs o k
splits_n (suc n) b (u ∷ us) vs lt o e k =
    let m = splits_more b us vs (unit_read b.state (u ∷ us)) (unit_goes b.state u us e k) (λ z mid fewer none known. splits_n n z mid vs (omega arith) o none known) in
    record {
      is = read_once b (u ∷ (us ++ vs)) ∙ ap (λ r. bind r (part_read b)) (unit_shifted vs o b.state u us) ∙ m.0 ∙ ap (split vs) (sym (read_once b (u ∷ us)));
      known = subst IsKnownBehind (sym (read_once b (u ∷ us))) m.1;
    }

pub splits : (b : Between) (us vs : Units) → BeginsPiece vs → NoEnds us → KnownAt b.state us → Splits b us vs
splits b us vs = splits_n (suc (length us)) b us vs (omega arith)

-- What one unit of a stream gives, where a sequence header is in force or the unit is one: a header from a unit of its own
-- value alone, and which units it takes.
use Rattle.std.proofs.Common.{◌≡◌, ℕ, ◌-◌, ◌<◌, Bool, true, false, List, [], ◌∷◌, Option, Some, None, inl, inr, refl, sym, ap, subst, ◌∙◌, arith}
use Rattle.std.specs.Prelude.{nat_eq, nat_le, is_some}
use Rattle.std.proofs.lemmas.Bool.{cases_Bool, eqb-true, leb-true}
use Rattle.m2v_bits.specs.Syntax.{done, seq, rule, choose, here}
use Rattle.m2v_bits.proofs.SyntaxLaws.{good}
use Rattle.m2v_model.specs.m2v_macroblock.m2v_head.declared.group.GroupInfo.{GroupInfo}
use Rattle.m2v_model.specs.declared.fault.FaultKind.{FaultKind}
use Rattle.m2v_model.specs.declared.state.Sequence.{Sequence}
use Rattle.m2v_model.specs.declared.state.Open.{Open}
use Rattle.m2v_model.specs.declared.state.State.{State}
use Rattle.m2v_model.specs.Units.{Units, unit_bits, unit_at, inside, body, Next}
use Rattle.m2v_model.specs.Faults.{InUnit}
use Rattle.m2v_model.specs.Headers.{whole_header, group_in}
use Rattle.m2v_model.specs.Looking.{refuse}
use Rattle.m2v_model.specs.Pieces.{is_end}
use Rattle.m2v_model.specs.Streams.{Part, Among, sequence, group, picture, matrices, slice, unread_slice, skipped_unit, ending, over, after, value_of, close, no_second_field_due, id_at, extension_in, extension_behind, sequence_unit, group_unit, picture_unit, matrix_unit, extension_unit, read_slice, slice_in, slice_unit, onward, final, later_unit, known_unit, text_end}
use Rattle.m2v_model.specs.ByPieces.{unit_read}
use Rattle.m2v_audit.proofs.m2v_check.m2v_model.StreamLaws.{known_lawful, text_end_lawful}
use Rattle.m2v_audit.proofs.m2v_check.m2v_model.SplitLaws.{IsKnown, KnownBy, KnownAt}

-- ---- what is said

-- the value of neither a picture nor a header
abbrev pub IsPlain : ℕ → Type 0
IsPlain v = (nat_eq v 0x00 ≡ false) × (nat_eq v 0xB3 ≡ false) × (nat_eq v 0xB8 ≡ false)

-- a group header reads
abbrev pub ReadsGroup : List ℕ → GroupInfo → Type 0
ReadsGroup u g = (end : List Bool) × (whole_header group_in).Stands g (body u) end

-- an extension stands first among units
abbrev pub HasExtension : Units → Units → Type 0
HasExtension t rest = (v : List ℕ) × (value_of v ≡ 0xB5) × (t ≡ v ∷ rest)

-- a part with others behind it, of a unit and those behind that
abbrev pub PartIs : List ℕ → Part → Units → Units → Type 0
PartIs u (sequence s) t rest = (value_of u ≡ 0xB3) × HasExtension t rest
PartIs u (group g) t rest = (value_of u ≡ 0xB8) × ReadsGroup u g × (t ≡ rest)
PartIs u (picture info extension) t rest = (value_of u ≡ 0x00) × HasExtension t rest
PartIs u (matrices m) t rest = IsPlain (value_of u) × (t ≡ rest)
PartIs u (slice row x) t rest = IsPlain (value_of u) × (t ≡ rest)
PartIs u (unread_slice row w) t rest = IsPlain (value_of u) × (t ≡ rest)
PartIs u (skipped_unit w) t rest = IsPlain (value_of u) × (t ≡ rest)
PartIs u ending t rest = ⊥
PartIs u over t rest = ⊥

-- the last part is that of an end code
abbrev UnitIs : List ℕ → Bool → Part → Units → Units → Type 0
UnitIs u true p t rest = PartIs u p t rest
UnitIs u false p t rest = is_end (value_of u) ≡ true

abbrev Is : List ℕ → Bool × Part → Units → Units → Type 0
Is u x t rest = UnitIs u x.0 x.1 t rest

-- ---- parts that are no headers

abbrev IsOther : Part → Type 0
IsOther (matrices m) = Unit {0}
IsOther (slice row x) = Unit {0}
IsOther (unread_slice row w) = Unit {0}
IsOther (skipped_unit w) = Unit {0}
IsOther _ = ⊥

other_is : (u : List ℕ) (p : Part) (t rest : Units) → IsPlain (value_of u) → IsOther p × (rest ≡ t) → PartIs u p t rest
other_is u (sequence s) t rest h o = absurd o.0
other_is u (group g) t rest h o = absurd o.0
other_is u (picture info extension) t rest h o = absurd o.0
other_is u (matrices m) t rest h o = (h, sym o.1)
other_is u (slice row x) t rest h o = (h, sym o.1)
other_is u (unread_slice row w) t rest h o = (h, sym o.1)
other_is u (skipped_unit w) t rest h o = (h, sym o.1)
other_is u ending t rest h o = absurd o.0
other_is u over t rest h o = absurd o.0

matrices_stand : (st : State) (start : ℕ) (u : List ℕ) (p : Part) (t rest : Units) → (matrix_unit st start u).Stands p t rest → IsOther p × (rest ≡ t)
unfolding matrix_unit seq rule inside done
matrices_stand st start u p t rest x =
    let y = x.3 in
    let z = y.3 in
    (subst IsOther (sym z.0) tt, z.1 ∙ y.2.0 ∙ x.2.1)

extension_stands : (st : State) (start : ℕ) (u : List ℕ) (p : Part) (t rest : Units) → (extension_unit st start u).Stands p t rest → IsOther p × (rest ≡ t)
unfolding extension_unit seq id_at inside choose refuse done
extension_stands st start u p t rest x =
    elim x.3 [
      | inl y ↦ absurd y.1
      | inr y ↦ elim y.1 [
        | inl z ↦ let m = matrices_stand st start u p x.1 rest z.1 in (m.0, m.1 ∙ x.2.0)
        | inr z ↦ elim z.1 [
          | inl w ↦ absurd w.1
          | inr w ↦ (subst IsOther (sym w.1.0) tt, w.1.1 ∙ x.2.0)
        ]
      ]
    ]

read_stands : (st : State) (s : Sequence) (o : Open) (row : ℕ) (u : List ℕ) (p : Part) (t rest : Units) → (read_slice st s o row u).Stands p t rest → IsOther p × (rest ≡ t)
unfolding read_slice seq inside done
read_stands st s o row u p t rest x = (subst IsOther (sym x.3.0) tt, x.3.1 ∙ x.2.0)

slice_in_stands : (st : State) (s : Sequence) (o : Open) (row start : ℕ) (u : List ℕ) (p : Part) (t rest : Units) → (slice_in st s o row start u).Stands p t rest → IsOther p × (rest ≡ t)
unfolding slice_in seq rule choose done
slice_in_stands st s o row start u p t rest x =
    elim x.3 [
      | inl y ↦ (subst IsOther (sym y.1.0) tt, y.1.1 ∙ x.2.1)
      | inr y ↦ let r = read_stands st s o row u p x.1 rest y.1 in (r.0, r.1 ∙ x.2.1)
    ]

slice_stands : (st : State) (s : Option Sequence) (o : Option Open) (row start : ℕ) (u : List ℕ) (p : Part) (t rest : Units) → (slice_unit st s o row start u).Stands p t rest → IsOther p × (rest ≡ t)
unfolding slice_unit refuse
slice_stands st (Some s) (Some o) row start u p t rest x = slice_in_stands st s o row start u p t rest x
slice_stands st (Some s) None row start u p t rest x = absurd x
slice_stands st None o row start u p t rest x = absurd x

skipped_stands : (u : List ℕ) (p : Part) (t rest : Units) → (done {T = Units} {K = FaultKind} (skipped_unit u)).Stands p t rest → IsOther p × (rest ≡ t)
unfolding done
skipped_stands u p t rest s = (subst IsOther (sym s.0) tt, s.1)

-- ---- headers

-- the extension behind a header, and the units then
behind_stands : {V : Type 0} (own : ℕ) (o : Option (List ℕ)) (start : ℕ) (s : InUnit V) (v : V) (t mid rest : Units) → Next o t mid → (extension_behind own o start s).Stands v mid rest → HasExtension t rest
unfolding extension_behind extension_in seq id_at inside rule choose refuse
behind_stands own None start s v t mid rest n x = absurd x
behind_stands own (Some w) start s v t mid rest n x =
    elim x [
      | inl y ↦ (w, eqb-true (value_of w) 0xB5 y.0, n ∙ ap (λ (l : Units). w ∷ l) (sym (y.1.3.3.0 ∙ y.1.3.2.1 ∙ y.1.2.0)))
      | inr y ↦ absurd y.1
    ]

sequence_stands : (st : State) (start : ℕ) (u : List ℕ) (p : Part) (t rest : Units) → value_of u ≡ 0xB3 → (sequence_unit st start u).Stands p t rest → PartIs u p t rest
unfolding sequence_unit seq close no_second_field_due rule inside here unit_at done
sequence_stands st start u p t rest e (_, _, ended, (_, _, paired, (info, _, own, (next, at, stands, (v, left, there, (x, behind, read, (_, _, same, is))))))) =
    let from : at ≡ t = stands.1 ∙ own.0 ∙ paired.1 ∙ ended.1 in
    let to : rest ≡ behind = is.1 ∙ same.1 in
    subst (λ (q : Part). PartIs u q t rest) (sym is.0) (e, subst (HasExtension t) (sym to) (subst (λ (l : Units). HasExtension l behind) from (behind_stands 1 v next _ x at left behind there read)))

group_stands : (st : State) (start : ℕ) (u : List ℕ) (p : Part) (t rest : Units) → value_of u ≡ 0xB8 → (group_unit st start u).Stands p t rest → PartIs u p t rest
unfolding group_unit seq close no_second_field_due rule inside done
group_stands st start u p t rest e x =
    let paired = x.3 in
    let g = paired.3 in
    let end = g.3 in
    subst (λ (q : Part). PartIs u q t rest) (sym end.0) (e, g.2.1, sym (end.1 ∙ g.2.0 ∙ paired.2.1 ∙ x.2.1))

picture_stands : (st : State) (start : ℕ) (u : List ℕ) (p : Part) (t rest : Units) → value_of u ≡ 0x00 → (picture_unit st start u).Stands p t rest → PartIs u p t rest
unfolding picture_unit seq close rule inside here unit_at done
picture_stands st start u p t rest e (_, _, ended, (info, _, own, (next, at, stands, (v, left, there, (x, behind, read, (_, _, pair, (_, _, anchor, is))))))) =
    let from : at ≡ t = stands.1 ∙ own.0 ∙ ended.1 in
    let to : rest ≡ behind = is.1 ∙ anchor.1 ∙ pair.1 in
    subst (λ (q : Part). PartIs u q t rest) (sym is.0) (e, subst (HasExtension t) (sym to) (subst (λ (l : Units). HasExtension l behind) from (behind_stands 8 v next _ x at left behind there read)))

-- ---- one unit

onward_stands : (u : List ℕ) (s : Among Part) (x : Bool × Part) (t rest : Units) → ((p : Part) (mid : Units) → s.Stands p t mid → PartIs u p t mid) → (onward s).Stands x t rest → Is u x t rest
unfolding onward seq done
onward_stands u s x t rest h y =
    subst (λ (z : Bool × Part). Is u z t rest) (sym y.3.0) (subst (PartIs u y.0 t) (sym y.3.1) (h y.0 y.1 y.2))

final_stands : (u : List ℕ) (s : Among Part) (x : Bool × Part) (t rest : Units) → is_end (value_of u) ≡ true → (final s).Stands x t rest → Is u x t rest
unfolding final seq done
final_stands u s x t rest e y = subst (λ (z : Bool × Part). Is u z t rest) (sym y.3.0) e

value_at : (v k m : ℕ) (b : Bool) → nat_eq v k ≡ true → nat_eq k m ≡ b → nat_eq v m ≡ b
value_at v k m b on e = ap (λ (n : ℕ). nat_eq n m) (eqb-true v k on) ∙ e

value_below : (v k m : ℕ) → nat_le v k ≡ true → k < m → nat_eq v m ≡ false
value_below v k m le lt = elim (cases_Bool (nat_eq v m)) [
  | inl on ↦ let e = eqb-true v m on in let l = leb-true v k le in absurd (omega arith)
  | inr off ↦ off
]

later_is : (st : State) (start : ℕ) (u : List ℕ) (x : Bool × Part) (t rest : Units) → (later_unit st start (value_of u) u).Stands x t rest → Is u x t rest
unfolding later_unit choose refuse is_end
later_is st start u x t rest y =
    let v = value_of u in
    elim y [
      | inl a ↦ onward_stands u _ x t rest (λ p mid s. picture_stands st start u p t mid (eqb-true v 0x00 a.0) s) a.1
      | inr a ↦ elim a.1 [
        | inl b ↦ onward_stands u _ x t rest (λ p mid s. other_is u p t mid (a.0, value_below v 0xAF 0xB3 b.0 (omega arith), value_below v 0xAF 0xB8 b.0 (omega arith)) (slice_stands st st.sequence st.picture (v - 1) start u p t mid s)) b.1
        | inr b ↦ elim b.1 [
          | inl c ↦ onward_stands u _ x t rest (λ p mid s. other_is u p t mid (a.0, value_at v 0xB2 0xB3 false c.0 refl, value_at v 0xB2 0xB8 false c.0 refl) (skipped_stands u p t mid s)) c.1
          | inr c ↦ elim c.1 [
            | inl d ↦ onward_stands u _ x t rest (λ p mid s. other_is u p t mid (a.0, value_at v 0xB5 0xB3 false d.0 refl, value_at v 0xB5 0xB8 false d.0 refl) (extension_stands st start u p t mid s)) d.1
            | inr d ↦ elim d.1 [
              | inl e ↦ final_stands u _ x t rest e.0 e.1
              | inr e ↦ elim e.1 [
                | inl f ↦ onward_stands u _ x t rest (λ p mid s. group_stands st start u p t mid (eqb-true v 0xB8 f.0) s) f.1
                | inr f ↦ elim f.1 [ inl g ↦ absurd g.1 | inr g ↦ absurd g.1 ]
              ]
            ]
          ]
        ]
      ]
    ]

known_is : (st : State) (start : ℕ) (u : List ℕ) (x : Bool × Part) (t rest : Units) → KnownBy st u → (known_unit st start (value_of u) u).Stands x t rest → Is u x t rest
unfolding known_unit choose
known_is st start u x t rest k y =
    elim y [
      | inl a ↦ onward_stands u _ x t rest (λ p mid s. sequence_stands st start u p t mid (eqb-true (value_of u) 0xB3 a.0) s) a.1
      | inr a ↦ elim a.1 [
        | inl b ↦ later_is st start u x t rest b.1
        | inr b ↦ let h = rw (b.0, a.0) at k in absurd cc
      ]
    ]

-- ---- units

-- a part with others behind it, and the last one
abbrev pub IsPartOf : Units → Part → Units → Type 0
IsPartOf [] p rest = ⊥
IsPartOf (u ∷ us) p rest = PartIs u p us rest

abbrev pub IsAtEnd : Units → Type 0
IsAtEnd [] = Unit {0}
IsAtEnd (u ∷ us) = is_end (value_of u) ≡ true

abbrev UnitsAre : Units → Bool → Part → Units → Type 0
UnitsAre us true p rest = IsPartOf us p rest
UnitsAre us false p rest = IsAtEnd us

flag_last : (st : State) (x : Bool × Part) (t mid : Units) → (text_end st 0).Stands x t mid → x.0 ≡ false
unfolding text_end seq done
flag_last st x t mid e = ap (λ (z : Bool × Part). z.0) e.3.3.0

each_way : (u : List ℕ) (us : Units) (b : Bool) (p : Part) (rest : Units) → UnitIs u b p us rest → UnitsAre (u ∷ us) b p rest
each_way u us true p rest h = h
each_way u us false p rest h = h

pub unit_is : (st : State) (us : Units) (x : Bool × Part) (mid : Units) → KnownAt st us → unit_read st us ≡ good (x, mid) → UnitsAre us x.0 x.1 mid
unfolding unit_read
unit_is st [] x mid k e =
    let s = (text_end_lawful st 0).found x [] mid e in
    subst (λ (b : Bool). UnitsAre [] b x.1 mid) (sym (flag_last st x [] mid s)) tt
unit_is st (u ∷ us) x mid k e =
    let s = (known_lawful st (unit_bits (u ∷ us)) (value_of u) u).found x us mid e in
    each_way u us x.0 x.1 mid (known_is st (unit_bits (u ∷ us)) u x us mid k s)

-- ---- a sequence header is in force behind it

known_plain : (st : State) (u : List ℕ) → KnownBy st u → nat_eq (value_of u) 0xB3 ≡ false → IsKnown st
known_plain st u k off = elim (cases_Bool (is_some st.sequence)) [
  | inl on ↦ on
  | inr none ↦ let h = rw (none, off) at k in absurd cc
]

known_by : (st : State) (u : List ℕ) (p : Part) (t rest : Units) → KnownBy st u → PartIs u p t rest → IsKnown (after st p)
unfolding after
known_by st u (sequence s) t rest k h = refl
known_by st u (group g) t rest k h = known_plain st u k (ap (λ (n : ℕ). nat_eq n 0xB3) h.0)
known_by st u (picture info extension) t rest k h = known_plain st u k (ap (λ (n : ℕ). nat_eq n 0xB3) h.0)
known_by st u (matrices m) t rest k h = known_plain st u k h.0.1
known_by st u (slice row x) t rest k h = known_plain st u k h.0.1
known_by st u (unread_slice row w) t rest k h = known_plain st u k h.0.1
known_by st u (skipped_unit w) t rest k h = known_plain st u k h.0.1
known_by st u ending t rest k h = absurd h
known_by st u over t rest k h = absurd h

pub known_on : (st : State) (us : Units) (p : Part) (rest : Units) → KnownAt st us → IsPartOf us p rest → IsKnown (after st p)
known_on st [] p rest k h = absurd h
known_on st (u ∷ us) p rest k h = known_by st u p us rest k h

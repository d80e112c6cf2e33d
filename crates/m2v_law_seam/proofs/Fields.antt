-- The first field that waits, by the bits of the pieces that were read and by their reading.
use Rattle.std.proofs.Common.{◌≡◌, ℕ, zero, suc, Bool, true, false, List, [], ◌∷◌, Option, Some, None, ◌⊎◌, inl, inr, refl, sym, ap, subst, ◌∙◌, arith}
use Rattle.std.specs.Prelude.{nat_eq, nat_le, is_some, not, ◌&&◌, ◌||◌, if◌then◌else◌}
use Rattle.std.proofs.lemmas.Bool.{both_ways, eqb-true, le-leb, not-true}
use Rattle.m2v_bits.specs.Syntax.{seq, done, here, rule, choose}
use Rattle.m2v_bits.proofs.SyntaxLaws.{good}
use Rattle.m2v_model.specs.m2v_macroblock.m2v_head.declared.picture.PictureInfo.{PictureInfo}
use Rattle.m2v_model.specs.m2v_macroblock.m2v_head.declared.picture.PictureExtension.{PictureExtension}
use Rattle.m2v_model.specs.m2v_macroblock.m2v_head.declared.group.GroupInfo.{GroupInfo}
use Rattle.m2v_model.specs.declared.state.Sequence.{Sequence}
use Rattle.m2v_model.specs.declared.state.FirstField.{FirstField}
use Rattle.m2v_model.specs.declared.state.State.{State}
use Rattle.m2v_model.specs.Units.{Units, unit_at, unit_bits, body, inside}
use Rattle.m2v_model.specs.States.{is_frame, may_follow, is_second_field_due}
use Rattle.m2v_model.specs.Streams.{Part, Among, sequence, group, picture, after, value_of, close, picture_unit, onward, later_unit, known_unit}
use Rattle.m2v_model.specs.Pieces.{begins_piece}
use Rattle.m2v_model.specs.ByPieces.{unit_read}
use Rattle.m2v_model.proofs.StreamLaws.{known_lawful}
use Rattle.m2v_model.proofs.SplitLaws.{IsKnown, known_after, IsOther, other_by}
use Rattle.m2v_law_group.specs.Groups.{is_picture, is_sequence, is_group, has_picture, next_unit, coded_pictures, structure_of}
use Rattle.m2v_law_group.proofs.Counted.{waiting_by}
use Rattle.m2v_law_group.proofs.Heads.{structure_seen, structure_some}
use Rattle.m2v_law_group.proofs.Lists.{and_parts}
use Rattle.m2v_law_group.proofs.Parts.{PartOf, of_sequence, of_group, of_picture, of_other, part_of, extension_there}
use Rattle.m2v_law_group.proofs.Runs.{Run, stop, step, none_ends}
use Rattle.m2v_law_seam.specs.Spans.{is_extension, field_by, first_field}
use Rattle.m2v_law_seam.proofs.Pieced.{Quiet}

-- ---- a picture that was read

pub record PictureThere (st : State) (us mid : Units) (info : PictureInfo) (extension : PictureExtension) : Type 0 where
  pub v : List ℕ
  pub is : us ≡ v ∷ mid
  pub value : is_extension v ≡ true
  pub seen : structure_of v ≡ Some extension.structure
  pub some : nat_eq extension.structure 0 ≡ false
  pub due : is_second_field_due st.waiting info extension ≡ true

parts_same : (i j : PictureInfo) (e f : PictureExtension) → picture i e ≡ picture j f → (i ≡ j) × (e ≡ f)
parts_same i j e f same = (cc, cc)

picture_by : (st : State) (start : ℕ) (u : List ℕ) (us mid : Units) (info : PictureInfo) (extension : PictureExtension) → (picture_unit st start u).Stands (picture info extension) us mid → PictureThere st us mid info extension
unfolding picture_unit close seq here unit_at rule inside done
picture_by st start u us mid info extension (_, _, ended, (i, _, own, (next, at, stands, (v, left, there, (x, rest, read, (_, _, pair, (_, _, anchor, is))))))) =
    let before : at ≡ us = stands.1 ∙ own.0 ∙ ended.1 in
    let behind : mid ≡ rest = is.1 ∙ anchor.1 ∙ pair.1 in
    let e = extension_there 8 v next _ x at left rest there read in
    let same = parts_same info i extension x is.0 in
    record {
      v = e.v;
      is = sym before ∙ e.is ∙ ap (λ (l : Units). e.v ∷ l) (sym behind);
      value = e.value;
      seen = structure_seen _ i x (body e.v) e.end e.stands ∙ ap (λ (y : PictureExtension). Some y.structure) (sym same.1);
      some = ap (λ (y : PictureExtension). nat_eq y.structure 0) same.1 ∙ structure_some _ i x (body e.v) e.end e.stands;
      due = ap (λ (j : PictureInfo). is_second_field_due st.waiting j extension) same.0 ∙ ap (λ (y : PictureExtension). is_second_field_due st.waiting i y) same.1 ∙ pair.0;
    }

onward_at : (s : Among Part) (p : Part) (us mid : Units) → (onward s).Stands (true, p) us mid → s.Stands p us mid
unfolding onward seq done
onward_at s p us mid h =
    let own : p ≡ h.0 = ap (λ (y : Bool × Part). y.1) h.3.0 in
    subst (λ (x : Part). s.Stands x us mid) (sym own) (subst (λ (l : Units). s.Stands h.0 us l) (sym h.3.1) h.2)

known_picture : (st : State) (start : ℕ) (u : List ℕ) (us mid : Units) (p : Part) → IsKnown st → (known_unit st start 0x00 u).Stands (true, p) us mid → (picture_unit st start u).Stands p us mid
unfolding known_unit later_unit choose
known_picture st start u us mid p k (inl y) = let wrong : false ≡ true = y.0 in absurd cc
known_picture st start u us mid p k (inr y) = elim y.1 [
  | inl z ↦ elim z.1 [
    | inl a ↦ onward_at _ p us mid a.1
    | inr a ↦ let wrong : true ≡ false = a.0 in absurd cc
  ]
  | inr z ↦ absurd (both_ways (is_some st.sequence) z.0 k)
]

pub picture_there : (st : State) (u : List ℕ) (us mid : Units) (info : PictureInfo) (extension : PictureExtension) → IsKnown st → is_picture u ≡ true → unit_read st (u ∷ us) ≡ good ((true, picture info extension), mid) → PictureThere st us mid info extension
unfolding unit_read
picture_there st u us mid info extension k on e =
    let start = unit_bits (u ∷ us) in
    let s = (known_lawful st start (value_of u) u).found (true, picture info extension) us mid e in
    picture_by st start u us mid info extension (known_picture st start u us mid (picture info extension) k (subst (λ (n : ℕ). (known_unit st start n u).Stands (true, picture info extension) us mid) (eqb-true (value_of u) 0x00 on) s))

-- ---- the field that waits

-- by its structure; 0 where none does
abbrev pub Waits : ℕ → Option FirstField → Type 0
Waits w None = w ≡ 0
Waits w (Some f) = (w ≡ f.structure) × (nat_eq w 0 ≡ false)

abbrev pub second_by : ℕ → ℕ → Bool
second_by w field = not (nat_eq w 0) && (nat_le 1 field && not (nat_eq field w))

abbrev pub next_waits : ℕ → ℕ → ℕ
next_waits w field = if second_by w field then 0 else field

pub field_is : (v : List ℕ) (s : ℕ) → is_extension v ≡ true → structure_of v ≡ Some s → (b : Bool) → nat_eq s 3 ≡ b → field_by v ≡ (if b then 0 else s)
field_is v s value seen true e = rw (value, seen, e) refl
field_is v s value seen false e = rw (value, seen, e) refl

some_at_least : (s : ℕ) → nat_eq s 0 ≡ false → nat_le 1 s ≡ true
some_at_least zero e = absurd cc
some_at_least (suc s) e = le_one s
  where
    le_one : (s : ℕ) → nat_le 1 (suc s) ≡ true
    le_one s = le-leb 1 (suc s) (omega arith)

-- a picture that is the second field, where one is due
pub second_is : (w : ℕ) (f : FirstField) (info : PictureInfo) (extension : PictureExtension) → w ≡ f.structure → nat_eq w 0 ≡ false → nat_eq extension.structure 0 ≡ false → is_second_field_due (Some f) info extension ≡ true
    → (is_frame extension ≡ false) × (second_by w extension.structure ≡ true)
second_is w f info extension same some own due =
    let a = and_parts (not (is_frame extension)) _ due in
    let b = and_parts (not (nat_eq extension.structure f.structure)) (may_follow f.kind info.kind) a.1 in
    let other : nat_eq extension.structure w ≡ false = ap (nat_eq extension.structure) same ∙ not-true (nat_eq extension.structure f.structure) b.0 in
    (not-true (is_frame extension) a.0, rw (some, some_at_least extension.structure own, other) refl)

first_waits : (w : ℕ) (info : PictureInfo) (extension : PictureExtension) (v : List ℕ) (frame : Bool) → is_frame extension ≡ frame → w ≡ 0 → nat_eq extension.structure 0 ≡ false → field_by v ≡ (if frame then 0 else extension.structure) → Waits (next_waits w (field_by v)) (waiting_by (is_frame extension || false) info extension)
first_waits w info extension v true e none some field = rw (e, none, field) refl
first_waits w info extension v false e none some field = rw (e, none, field) (refl, some)

picture_waits : (w : ℕ) (o : Option FirstField) (info : PictureInfo) (extension : PictureExtension) (v : List ℕ) → Waits w o → is_extension v ≡ true → structure_of v ≡ Some extension.structure → nat_eq extension.structure 0 ≡ false → is_second_field_due o info extension ≡ true
    → Waits (next_waits w (field_by v)) (waiting_by (is_frame extension || is_some o) info extension)
picture_waits w None info extension v h value seen some due = first_waits w info extension v (is_frame extension) refl h some (field_is v extension.structure value seen (is_frame extension) refl)
picture_waits w (Some f) info extension v h value seen some due =
    let s = second_is w f info extension h.0 h.1 some due in
    let field : field_by v ≡ extension.structure = field_is v extension.structure value seen false s.0 in
    let two : second_by w (field_by v) ≡ true = ap (second_by w) field ∙ s.1 in
    rw (two, s.0) refl

-- ---- units behind a picture, and a piece

other_waits : (st : State) (p : Part) → IsOther p → (after st p).waiting ≡ st.waiting
unfolding after
other_waits st p o = other_by (λ q. (after st q).waiting ≡ st.waiting) (λ m. refl) (λ row x. refl) (λ row u. refl) (λ u. refl) p o

begins_by : (u : List ℕ) → (is_picture u ≡ true) ⊎ ((is_sequence u ≡ true) ⊎ (is_group u ≡ true)) → begins_piece (value_of u) ≡ true
unfolding begins_piece
begins_by u (inl on) = rw (eqb-true (value_of u) 0x00 on) refl
begins_by u (inr (inl on)) = rw (eqb-true (value_of u) 0xB3 on) refl
begins_by u (inr (inr on)) = rw (eqb-true (value_of u) 0xB8 on) refl

none_more : {A : Type 0} (st : State) (p : Part) (mid : Units) → unit_read st [] ≡ good ((true, p), mid) → A
none_more st p mid e = let wrong = none_ends st (true, p) mid e in absurd cc

behind_step : (st z : State) (u : List ℕ) (us mid : Units) (p : Part) → PartOf u us p mid → Quiet true (u ∷ us) → (Quiet true mid → z.waiting ≡ (after st p).waiting) → z.waiting ≡ st.waiting
behind_step st z u us mid p (of_sequence v on e value) q ih = absurd (both_ways (begins_piece (value_of u)) (q.0 refl) (begins_by u (inr (inl on))))
behind_step st z u us mid p (of_group end on stands e) q ih = absurd (both_ways (begins_piece (value_of u)) (q.0 refl) (begins_by u (inr (inr on))))
behind_step st z u us mid p (of_picture v on e value kind structure) q ih = absurd (both_ways (begins_piece (value_of u)) (q.0 refl) (begins_by u (inl on)))
behind_step st z u us mid p (of_other a b c o e) q ih = ih (subst (Quiet true) (sym e) q.1) ∙ other_waits st p o

behind_picture : {st z : State} {us rest : Units} {ps : List Part} → Run st us ps z rest → IsKnown st → Quiet true us → z.waiting ≡ st.waiting
behind_picture stop k q = refl
behind_picture {st} {us = []} (step {mid = mid} {p = p} e later) k q = none_more st p mid e
behind_picture {st} {z} {us = u ∷ us} (step {mid = mid} {p = p} e later) k q = behind_step st z u us mid p (part_of st u us mid p (inl k) e) q (λ r. behind_picture later (known_after st p k) r)

pub plain_first : (u : List ℕ) (us : Units) → is_picture u ≡ false → (coded_pictures (u ∷ us) ≡ coded_pictures us) × (has_picture (u ∷ us) ≡ has_picture us)
unfolding coded_pictures has_picture
plain_first u us off = (rw off refl, rw off refl)

pub shown_first : (u : List ℕ) (us : Units) → is_picture u ≡ true → coded_pictures (u ∷ us) ≡ (u, next_unit us) ∷ coded_pictures us
unfolding coded_pictures
shown_first u us on = rw on refl

extension_plain : (v : List ℕ) → nat_eq (value_of v) 0xB5 ≡ true → is_picture v ≡ false
extension_plain v e = ap (λ (n : ℕ). nat_eq n 0x00) (eqb-true (value_of v) 0xB5 e)

quiet_on : (u : List ℕ) (us : Units) → Quiet false (u ∷ us) → is_picture u ≡ false → Quiet false us
quiet_on u us q off = subst (λ (b : Bool). Quiet b us) off q.1

-- what waits behind a piece, or its last units
abbrev WaitsBehind : ℕ → Units → State → Type 0
WaitsBehind w us z = Waits (next_waits w (first_field (coded_pictures us))) z.waiting

sequence_waits : (st : State) (s : Sequence) → (after st (sequence s)).waiting ≡ st.waiting
unfolding after
sequence_waits st s = refl

group_waits : (st : State) (g : GroupInfo) → (after st (group g)).waiting ≡ st.waiting
unfolding after
group_waits st g = refl

picture_after : (st : State) (info : PictureInfo) (extension : PictureExtension) → (after st (picture info extension)).waiting ≡ waiting_by (is_frame extension || is_some st.waiting) info extension
unfolding after
picture_after st info extension = refl

piece_step : (w : ℕ) (st z : State) (u : List ℕ) (us mid : Units) (p : Part) → PartOf u us p mid → Quiet false (u ∷ us) → has_picture (u ∷ us) ≡ true → Waits w st.waiting
    → ((info : PictureInfo) (extension : PictureExtension) → p ≡ picture info extension → PictureThere st us mid info extension) → (Quiet true mid → z.waiting ≡ (after st p).waiting)
    → (Quiet false mid → has_picture mid ≡ true → Waits w (after st p).waiting → WaitsBehind w mid z) → WaitsBehind w (u ∷ us) z
piece_step w st z u us mid p (of_sequence {s = s} v on e value) q h waits there behind ih =
    let off : is_picture u ≡ false = ap (λ (n : ℕ). nat_eq n 0x00) (eqb-true (value_of u) 0xB3 on) in
    let plain = extension_plain v value in
    let a = plain_first u us off in
    let b = plain_first v mid plain in
    let pictures : coded_pictures (u ∷ us) ≡ coded_pictures mid = a.0 ∙ ap coded_pictures e ∙ b.0 in
    let has : has_picture mid ≡ true = sym (a.1 ∙ ap has_picture e ∙ b.1) ∙ h in
    let quiet : Quiet false mid = quiet_on v mid (subst (Quiet false) e (quiet_on u us q off)) plain in
    subst (λ (l : List (List ℕ × List ℕ)). Waits (next_waits w (first_field l)) z.waiting) (sym pictures) (ih quiet has (subst (Waits w) (sym (sequence_waits st s)) waits))
piece_step w st z u us mid p (of_group {g = g} end on stands e) q h waits there behind ih =
    let off : is_picture u ≡ false = ap (λ (n : ℕ). nat_eq n 0x00) (eqb-true (value_of u) 0xB8 on) in
    let a = plain_first u us off in
    let pictures : coded_pictures (u ∷ us) ≡ coded_pictures mid = a.0 ∙ ap coded_pictures (sym e) in
    subst (λ (l : List (List ℕ × List ℕ)). Waits (next_waits w (first_field l)) z.waiting) (sym pictures)
    (ih (subst (Quiet false) (sym e) (quiet_on u us q off)) (ap has_picture e ∙ sym a.1 ∙ h) (subst (Waits w) (sym (group_waits st g)) waits))
piece_step w st z u us mid p (of_picture {info = info} {extension = extension} v on e value kind structure) q h waits there behind ih =
    let t = there info extension refl in
    let shown : first_field (coded_pictures (u ∷ us)) ≡ field_by t.v = ap first_field (shown_first u us on) ∙ ap (λ (l : Units). field_by (next_unit l)) t.is in
    let seen : Quiet true us = subst (λ (b : Bool). Quiet b us) on q.1 in
    let later : Quiet true mid = (subst (Quiet true) t.is seen).1 in
    let own = picture_waits w st.waiting info extension t.v waits t.value t.seen t.some t.due in
    let behind_it : Waits (next_waits w (field_by t.v)) z.waiting = subst (Waits (next_waits w (field_by t.v))) (sym (behind later ∙ picture_after st info extension)) own in
    subst (λ (n : ℕ). Waits (next_waits w n) z.waiting) (sym shown) behind_it
piece_step w st z u us mid p (of_other a b c o e) q h waits there behind ih =
    let f = plain_first u us c in
    let pictures : coded_pictures (u ∷ us) ≡ coded_pictures mid = f.0 ∙ ap coded_pictures (sym e) in
    subst (λ (l : List (List ℕ × List ℕ)). Waits (next_waits w (first_field l)) z.waiting) (sym pictures)
    (ih (subst (Quiet false) (sym e) (quiet_on u us q c)) (ap has_picture e ∙ sym f.1 ∙ h) (subst (Waits w) (sym (other_waits st p o)) waits))

known_on : (st : State) (u : List ℕ) (us mid : Units) (p : Part) → (IsKnown st) ⊎ (is_sequence u ≡ true) → PartOf u us p mid → IsKnown (after st p)
unfolding after
known_on st u us mid p k (of_sequence v on e value) = refl
known_on st u us mid p (inl k) (of_group end on stands e) = k
known_on st u us mid p (inr is) (of_group end on stands e) = absurd (both_ways (is_group u) (ap (λ (n : ℕ). nat_eq n 0xB8) (eqb-true (value_of u) 0xB3 is)) on)
known_on st u us mid p (inl k) (of_picture v on e value kind structure) = k
known_on st u us mid p (inr is) (of_picture v on e value kind structure) = absurd (both_ways (is_picture u) (ap (λ (n : ℕ). nat_eq n 0x00) (eqb-true (value_of u) 0xB3 is)) on)
known_on st u us mid p (inl k) (of_other a b c o e) = known_after st p k
known_on st u us mid p (inr is) (of_other a b c o e) = absurd (both_ways (is_sequence u) a is)

-- a sequence header is in force, or the first unit is one
abbrev pub KnownFirst : State → Units → Type 0
KnownFirst st [] = Unit {0}
KnownFirst st (u ∷ us) = (IsKnown st) ⊎ (is_sequence u ≡ true)

pub known_first : (st : State) (us : Units) → IsKnown st → KnownFirst st us
known_first st [] k = tt
known_first st (u ∷ us) k = inl k

picture_known : (st : State) (u : List ℕ) → (IsKnown st) ⊎ (is_sequence u ≡ true) → is_picture u ≡ true → IsKnown st
picture_known st u (inl k) on = k
picture_known st u (inr is) on = absurd (both_ways (is_picture u) (ap (λ (n : ℕ). nat_eq n 0x00) (eqb-true (value_of u) 0xB3 is)) on)

there_by : (st : State) (u : List ℕ) (us mid : Units) (p : Part) → (IsKnown st) ⊎ (is_sequence u ≡ true) → PartOf u us p mid → unit_read st (u ∷ us) ≡ good ((true, p), mid) → (info : PictureInfo) (extension : PictureExtension) → p ≡ picture info extension → PictureThere st us mid info extension
there_by st u us mid p k (of_sequence v on e value) read info extension same = absurd cc
there_by st u us mid p k (of_group end on stands e) read info extension same = absurd cc
there_by st u us mid p k (of_picture v on e value kind structure) read info extension same =
    picture_there st u us mid info extension (picture_known st u k on) on (subst (λ (x : Part). unit_read st (u ∷ us) ≡ good ((true, x), mid)) same read)
there_by st u us mid p k (of_other a b c o e) read info extension same = absurd (subst IsOther same o)

-- what waits behind a piece with a picture
pub piece_waits : {st z : State} {us rest : Units} {ps : List Part} → Run st us ps z rest → rest ≡ [] → (w : ℕ) → KnownFirst st us → Quiet false us → has_picture us ≡ true → Waits w st.waiting → WaitsBehind w us z
unfolding has_picture
piece_waits {us = us} stop none w k q h waits = let wrong : false ≡ true = sym (ap has_picture none) ∙ h in absurd cc
piece_waits {st} {us = []} (step {mid = mid} {p = p} e later) none w k q h waits = none_more st p mid e
piece_waits {st} {z} {us = u ∷ us} (step {mid = mid} {p = p} e later) none w k q h waits =
    let part = part_of st u us mid p k e in
    let known = known_on st u us mid p k part in
    piece_step w st z u us mid p part q h waits (there_by st u us mid p k part e) (λ r. behind_picture later known r) (λ r has now. piece_waits later none w (known_first (after st p) mid known) r has now)

-- A piece tells its headers before its picture, and a picture only where one of its units is a picture.
use Rattle.std.proofs.Common.{◌≡◌, ℕ, ◌+◌, ◌*◌, ◌≤◌, Bool, true, false, List, [], ◌∷◌, ◌++◌, length, take, Option, Some, None, Ok, ◌⊎◌, inl, inr, refl, sym, ap, subst, ◌∙◌, append_assoc, arith}
use Rattle.std.specs.Prelude.{nat_eq, if◌then◌else◌}
use Rattle.std.proofs.lemmas.Bool.{cases_Bool, eqb-true}
use Rattle.std.proofs.lemmas.List.{append-nil, length-append}
use Rattle.m2v_model.specs.declared.phase.Phase.{Phase}
use Rattle.m2v_model.specs.declared.phase.Phase.TheVariants as phases
use Rattle.m2v_model.specs.declared.state.Open.{Open}
use Rattle.m2v_model.specs.Units.{Units, cut, joined, AreUnits}
use Rattle.m2v_model.specs.States.{with_slice, with_unread_slice}
use Rattle.m2v_model.specs.Slices.{large_in}
use Rattle.m2v_model.specs.Streams.{Part, sequence, group, picture, matrices, slice, unread_slice, skipped_unit, ending, over, after, value_of}
use Rattle.m2v_model.specs.Pictures.{Store, Events, sequence_header, group_header, coded_picture, pictures_in, closed, told_by}
use Rattle.m2v_model.specs.Pieces.{phase_after, begins_piece, piece_of, grouped, pieces}
use Rattle.m2v_model.specs.Buffering.{before_picture, code_bits}
use Rattle.m2v_model.specs.ByPieces.{Between, after_part, units_read}
use Rattle.m2v_model.proofs.CutLaws.{cut_cuts, cut_units, joined-append, are_before, are_behind, are_code}
use Rattle.m2v_model.proofs.PieceLaws.{piece_whole}
use Rattle.m2v_model.proofs.EventLaws.{pictures_in-append}
use Rattle.m2v_decode.proofs.m2v_dec_rows.UnitGifts.{IsOnward, first_value}
use Rattle.m2v_check.proofs.Telling.{AtLast, InFront, by_units, of_last}

-- ---- headers before the picture

-- no picture and no header stands behind a picture; `seen` tells whether one stood before
abbrev pub HeadersFirst : Bool → Units → Type 0
HeadersFirst seen [] = Unit {0}
HeadersFirst true (u ∷ us) = (begins_piece (value_of u) ≡ false) × HeadersFirst true us
HeadersFirst false (u ∷ us) = HeadersFirst (nat_eq (value_of u) 0x00) us

-- behind some of the units
behind_first : (seen : Bool) (us mid : Units) → HeadersFirst seen (us ++ mid) → (later : Bool) × HeadersFirst later mid × (seen ≡ true → later ≡ true)
behind_first seen [] mid h = (seen, h, λ e. e)
behind_first true (u ∷ us) mid h = behind_first true us mid h.1
behind_first false (u ∷ us) mid h = let r = behind_first (nat_eq (value_of u) 0x00) us mid h in (r.0, r.1, λ e. absurd cc)

-- nothing is told behind a picture
abbrev pub PictureLast : Events → Type 0
PictureLast [] = Unit {0}
PictureLast (sequence_header s ∷ es) = PictureLast es
PictureLast (group_header g ∷ es) = PictureLast es
PictureLast (coded_picture p ∷ es) = es ≡ []

-- one picture at most, and nothing else
abbrev PictureOnly : Events → Type 0
PictureOnly [] = Unit {0}
PictureOnly (sequence_header s ∷ es) = ⊥
PictureOnly (group_header g ∷ es) = ⊥
PictureOnly (coded_picture p ∷ es) = es ≡ []

only_last : (es : Events) → PictureOnly es → PictureLast es
only_last [] h = tt
only_last (sequence_header s ∷ es) h = absurd h
only_last (group_header g ∷ es) h = absurd h
only_last (coded_picture p ∷ es) h = h

closed_only : (o : Option Open) (store : Store) → PictureOnly (closed o store)
closed_only None store = tt
closed_only (Some p) store = refl

-- what is told of units in which headers stand first
abbrev Shaped : Between → Units → Events → Between → Type 0
Shaped b us es next = (HeadersFirst true us → PictureOnly es) × (HeadersFirst false us → b.state.picture ≡ None → PictureLast es)

closed_none : (o : Option Open) (store : Store) → o ≡ None → closed o store ≡ []
closed_none o store e = ap (λ (p : Option Open). closed p store) e

shut_shaped : (b : Between) (us : Units) (next : Between) → Shaped b us (closed b.state.picture b.store) next
shut_shaped b us next =
    let o = closed_only b.state.picture b.store in
    (λ h. o, λ h none. only_last (closed b.state.picture b.store) o)

last_shaped : AtLast Shaped
last_shaped b us =
    of_last (λ (p : Part). Shaped b us (told_by b.state b.store p) (after_part b p))
    (shut_shaped b us (after_part b ending)) (shut_shaped b us (after_part b over))

none_first : (us : Units) (v : ℕ) → first_value us ≡ Some v → begins_piece v ≡ true → HeadersFirst true us → ⊥
none_first [] v e begins h = absurd cc
none_first (u ∷ us) v e begins h = let same : value_of u ≡ v = cc in let d : false ≡ true = sym h.0 ∙ ap begins_piece same ∙ begins in absurd cc

-- behind a part, in which a picture stood before
seen_on : (us mid : Units) → IsOnward us mid → HeadersFirst true us → HeadersFirst true mid
seen_on [] mid onward h = absurd onward
seen_on (u ∷ us) mid onward h =
    let r = behind_first true onward.0 mid (subst (HeadersFirst true) onward.1 h.1) in
    subst (λ (s : Bool). HeadersFirst s mid) (r.2 refl) r.1

-- the same, where none stood before: one stands now where the first unit is a picture
first_on : (us mid : Units) → IsOnward us mid → HeadersFirst false us → (later : Bool) × HeadersFirst later mid × (first_value us ≡ Some 0x00 → later ≡ true)
first_on [] mid onward h = absurd onward
first_on (u ∷ us) mid onward h =
    let r = behind_first (nat_eq (value_of u) 0x00) onward.0 mid (subst (HeadersFirst (nat_eq (value_of u) 0x00)) onward.1 h) in
    (r.0, r.1, λ e. let same : value_of u ≡ 0x00 = cc in r.2 (ap (λ (v : ℕ). nat_eq v 0x00) same))

rest_last : (seen : Bool) (b : Between) (us : Units) (es : Events) (next : Between) → HeadersFirst seen us → (seen ≡ false → b.state.picture ≡ None) → Shaped b us es next → PictureLast es
rest_last true b us es next h none s = only_last es (s.0 h)
rest_last false b us es next h none s = s.1 h (none refl)

plain_shaped : (b c : Between) (us mid : Units) (es : Events) (next : Between) → IsOnward us mid → (b.state.picture ≡ None → c.state.picture ≡ None) → Shaped c mid es next → Shaped b us es next
plain_shaped b c us mid es next onward keeps ih = (
  λ h. ih.0 (seen_on us mid onward h),
  λ h none. let r = first_on us mid onward h in rest_last r.0 c mid es next r.1 (λ off. keeps none) ih,
)

header_shaped : (b c : Between) (us mid : Units) (hs es : Events) (next : Between) (v : ℕ) → IsOnward us mid → first_value us ≡ Some v → begins_piece v ≡ true → c.state.picture ≡ None
    → (PictureLast es → PictureLast (hs ++ es)) → Shaped c mid es next → Shaped b us ((closed b.state.picture b.store ++ hs) ++ es) next
header_shaped b c us mid hs es next v onward e begins none goes ih = (
  λ h. absurd (none_first us v e begins h),
  λ h shut.
      let r = first_on us mid onward h in
      subst (λ (l : Events). PictureLast ((l ++ hs) ++ es)) (sym (closed_none b.state.picture b.store shut)) (goes (rest_last r.0 c mid es next r.1 (λ off. none) ih)),
)

sliced_none : (o : Option Open) (row covered large : ℕ) → o ≡ None → with_slice o row covered large ≡ None
sliced_none o row covered large e = ap (λ (p : Option Open). with_slice p row covered large) e

unread_none : (o : Option Open) (row : ℕ) → o ≡ None → with_unread_slice o row ≡ None
unread_none o row e = ap (λ (p : Option Open). with_unread_slice p row) e

front_shaped : InFront Shaped
unfolding after begins_piece
front_shaped b us mid (sequence s) es next fits onward ih = header_shaped b (after_part b (sequence s)) us mid (sequence_header s ∷ []) es next 0xB3 onward fits refl refl (λ h. h) ih
front_shaped b us mid (group g) es next fits onward ih = header_shaped b (after_part b (group g)) us mid (group_header g ∷ []) es next 0xB8 onward fits refl refl (λ h. h) ih
front_shaped b us mid (picture info extension) es next fits onward ih = (
  λ h. absurd (none_first us 0x00 fits.0 refl h),
  λ h shut.
      let r = first_on us mid onward h in
      let seen = r.2 fits.0 in
      subst (λ (l : Events). PictureLast (l ++ es)) (sym (closed_none b.state.picture b.store shut))
      (only_last es (ih.0 (subst (λ (s : Bool). HeadersFirst s mid) seen r.1))),
)
front_shaped b us mid (matrices m) es next fits onward ih = plain_shaped b (after_part b (matrices m)) us mid es next onward (λ e. e) ih
front_shaped b us mid (slice row x) es next fits onward ih = plain_shaped b (after_part b (slice row x)) us mid es next onward (λ e. sliced_none b.state.picture row x.covered (large_in x) e) ih
front_shaped b us mid (unread_slice row u) es next fits onward ih = plain_shaped b (after_part b (unread_slice row u)) us mid es next onward (λ e. unread_none b.state.picture row e) ih
front_shaped b us mid (skipped_unit u) es next fits onward ih = plain_shaped b (after_part b (skipped_unit u)) us mid es next onward (λ e. e) ih
front_shaped b us mid ending es next fits onward ih = absurd fits
front_shaped b us mid over es next fits onward ih = absurd fits

pub units_ordered : (b : Between) (us : Units) (es : Events) (next : Between) → units_read b us ≡ Ok (es, next) → HeadersFirst false us → b.state.picture ≡ None → PictureLast es
units_ordered b us es next e = (by_units Shaped last_shaped front_shaped b us es next e).1

-- ---- where a picture is told

abbrev HasPicture : Units → Type 0
HasPicture [] = ⊥
HasPicture (u ∷ us) = (value_of u ≡ 0x00) ⊎ HasPicture us

has_behind : (us mid : Units) → HasPicture mid → HasPicture (us ++ mid)
has_behind [] mid h = h
has_behind (u ∷ us) mid h = inr (has_behind us mid h)

has_onward : (us mid : Units) → IsOnward us mid → HasPicture mid → HasPicture us
has_onward [] mid onward h = absurd onward
has_onward (u ∷ us) mid onward h = inr (subst HasPicture (sym onward.1) (has_behind onward.0 mid h))

has_first : (us : Units) → first_value us ≡ Some 0x00 → HasPicture us
has_first [] e = absurd cc
has_first (u ∷ us) e = inl (let same : value_of u ≡ 0x00 = cc in same)

abbrev IsPictured : Between → Units → Events → Between → Type 0
IsPictured b us es next = b.state.picture ≡ None → (pictures_in es ≡ [] → ⊥) → HasPicture us

none_told : (o : Option Open) (store : Store) → o ≡ None → pictures_in (closed o store) ≡ []
none_told o store e = ap pictures_in (closed_none o store e)

last_pictured : AtLast IsPictured
last_pictured b us =
    let shut : IsPictured b us (closed b.state.picture b.store) b = λ none some. absurd (some (none_told b.state.picture b.store none)) in
    of_last (λ (p : Part). IsPictured b us (told_by b.state b.store p) (after_part b p)) shut shut

plain_pictured : (b c : Between) (us mid : Units) (told es : Events) (next : Between) → IsOnward us mid → (b.state.picture ≡ None → c.state.picture ≡ None) → (b.state.picture ≡ None → pictures_in told ≡ [])
    → IsPictured c mid es next → IsPictured b us (told ++ es) next
plain_pictured b c us mid told es next onward keeps none ih shut some =
    has_onward us mid onward (ih (keeps shut) (λ e. some (pictures_in-append told es ∙ (λ i. none shut i ++ e i))))

header_told : (o : Option Open) (store : Store) (hs : Events) → pictures_in hs ≡ [] → o ≡ None → pictures_in (closed o store ++ hs) ≡ []
header_told o store hs h e = ap (λ (p : Option Open). pictures_in (closed p store ++ hs)) e ∙ h

front_pictured : InFront IsPictured
unfolding after
front_pictured b us mid (sequence s) es next fits onward ih = plain_pictured b (after_part b (sequence s)) us mid (closed b.state.picture b.store ++ sequence_header s ∷ []) es next onward (λ e. refl) (header_told b.state.picture b.store (sequence_header s ∷ []) refl) ih
front_pictured b us mid (group g) es next fits onward ih = plain_pictured b (after_part b (group g)) us mid (closed b.state.picture b.store ++ group_header g ∷ []) es next onward (λ e. refl) (header_told b.state.picture b.store (group_header g ∷ []) refl) ih
front_pictured b us mid (picture info extension) es next fits onward ih = λ shut some. has_first us fits.0
front_pictured b us mid (matrices m) es next fits onward ih = plain_pictured b (after_part b (matrices m)) us mid [] es next onward (λ e. e) (λ e. refl) ih
front_pictured b us mid (slice row x) es next fits onward ih = plain_pictured b (after_part b (slice row x)) us mid [] es next onward (λ e. sliced_none b.state.picture row x.covered (large_in x) e) (λ e. refl) ih
front_pictured b us mid (unread_slice row u) es next fits onward ih = plain_pictured b (after_part b (unread_slice row u)) us mid [] es next onward (λ e. unread_none b.state.picture row e) (λ e. refl) ih
front_pictured b us mid (skipped_unit u) es next fits onward ih = plain_pictured b (after_part b (skipped_unit u)) us mid [] es next onward (λ e. e) (λ e. refl) ih
front_pictured b us mid ending es next fits onward ih = absurd fits
front_pictured b us mid over es next fits onward ih = absurd fits

before_fits : (us : Units) → AreUnits us → HasPicture us → before_picture us + 4 ≤ length (joined us)
unfolding before_picture
before_fits [] a h = absurd h
before_fits (u ∷ us) a h = elim (cases_Bool (nat_eq (value_of u) 0x00)) [
  | inl on ↦ rw on (let some = a.0 in omega (arith, length-append u (joined us), some))
  | inr off ↦
      let more = before_fits us a.3 (later u us off h) in
      rw off (omega (arith, length-append u (joined us), more))
]
  where
    later : (u : List ℕ) (us : Units) → nat_eq (value_of u) 0x00 ≡ false → HasPicture (u ∷ us) → HasPicture us
    later u us off (inl e) = let on : nat_eq (value_of u) 0x00 ≡ true = ap (λ (v : ℕ). nat_eq v 0x00) e in let d : true ≡ false = sym on ∙ off in absurd cc
    later u us off (inr h) = h

-- the start code of a picture that a piece tells ends in the piece
pub code_within : (b : Between) (p : List ℕ) (es : Events) (next : Between) → units_read b (cut 0 p).1 ≡ Ok (es, next) → b.state.picture ≡ None → (pictures_in es ≡ [] → ⊥) → code_bits p ≤ 8 * length p
code_within b p es next e shut some =
    let cuts = cut_cuts p in
    let h = by_units IsPictured last_pictured front_pictured b (cut 0 p).1 es next e shut some in
    let fits = before_fits (cut 0 p).1 cuts.are_units h in
    let whole = ap length cuts.whole in
    omega (arith, fits, whole, length-append (cut 0 p).0 (joined (cut 0 p).1))

-- ---- the pieces of a text

-- headers stand first in a piece
abbrev pub IsOrdered : List ℕ → Type 0
IsOrdered p = HeadersFirst false (cut 0 p).1

abbrev pub AreOrdered : List (List ℕ) → Type 0
AreOrdered [] = Unit {0}
AreOrdered (p ∷ ps) = IsOrdered p × AreOrdered ps

ordered_units : (ws : Units) → AreUnits ws → HeadersFirst false ws → IsOrdered (joined ws)
ordered_units ws a h = subst (HeadersFirst false) (sym (cut_units ws a)) h

-- a picture stands among units, or before them
abbrev is_seen : Bool → Units → Bool
is_seen seen [] = seen
is_seen true (u ∷ us) = is_seen true us
is_seen false (u ∷ us) = is_seen (nat_eq (value_of u) 0x00) us

first-append : (seen : Bool) (us vs : Units) → HeadersFirst seen us → HeadersFirst (is_seen seen us) vs → HeadersFirst seen (us ++ vs)
first-append seen [] vs h k = k
first-append true (u ∷ us) vs h k = (h.0, first-append true us vs h.1 k)
first-append false (u ∷ us) vs h k = first-append (nat_eq (value_of u) 0x00) us vs h k

seen-append : (seen : Bool) (us vs : Units) → is_seen seen (us ++ vs) ≡ is_seen (is_seen seen us) vs
seen-append seen [] vs = refl
seen-append true (u ∷ us) vs = seen-append true us vs
seen-append false (u ∷ us) vs = seen-append (nat_eq (value_of u) 0x00) us vs

-- no picture stands yet where headers are read
abbrev IsIn : Phase → Units → Type 0
IsIn phases.Before us = ⊥
IsIn phases.Headers us = is_seen false us ≡ false
IsIn phases.Picture us = Unit {0}

one_plain : (seen : Bool) (u : List ℕ) → begins_piece (value_of u) ≡ false → HeadersFirst seen (u ∷ [])
one_plain true u e = (e, tt)
one_plain false u e = tt

one_first : (us : Units) (u : List ℕ) → HeadersFirst false us → is_seen false us ≡ false → HeadersFirst false (us ++ u ∷ [])
one_first us u h off = first-append false us (u ∷ []) h (subst (λ (s : Bool). HeadersFirst s (u ∷ [])) (sym off) tt)

phase_on : (us : Units) (u : List ℕ) → is_seen false us ≡ false → IsIn (phase_after phases.Headers (value_of u)) (us ++ u ∷ [])
unfolding phase_after
phase_on us u off = elim (cases_Bool (nat_eq (value_of u) 0x00)) [
  | inl on ↦ rw on tt
  | inr off_zero ↦ rw off_zero (seen-append false us (u ∷ []) ∙ ap (λ (s : Bool). is_seen s (u ∷ [])) off ∙ off_zero)
]

abbrev AllOrdered : Units → Type 0
AllOrdered us = (phase : Phase) (v : List ℕ) (vs : Units) → IsIn phase (v ∷ vs) → HeadersFirst false (v ∷ vs) → AreUnits (v ∷ (vs ++ us)) → AreOrdered (grouped phase (joined (v ∷ vs)) us)

-- the piece at hand goes on with a unit
ordered_on : (phase : Phase) (v : List ℕ) (vs us : Units) (u : List ℕ) → AllOrdered us → IsIn phase (v ∷ (vs ++ u ∷ [])) → HeadersFirst false (v ∷ (vs ++ u ∷ [])) → AreUnits (v ∷ (vs ++ u ∷ us)) → AreOrdered (grouped phase (joined (v ∷ vs) ++ u) us)
ordered_on phase v vs us u ih o h a =
    let ws = vs ++ u ∷ [] in
    let e : vs ++ u ∷ us ≡ ws ++ us = sym (append_assoc vs (u ∷ []) us) in
    let bytes : joined (v ∷ ws) ≡ joined (v ∷ vs) ++ u = joined-append (v ∷ vs) (u ∷ []) ∙ ap (λ (l : List ℕ). joined (v ∷ vs) ++ l) (append-nil u) in
    subst (λ (l : List ℕ). AreOrdered (grouped phase l us)) bytes (ih phase v ws o h (subst (λ (l : Units). AreUnits (v ∷ l)) e a))

headers_ordered : (e : Bool) (v : List ℕ) (vs us : Units) (u : List ℕ) → AllOrdered us → is_seen false (v ∷ vs) ≡ false → HeadersFirst false (v ∷ vs) → AreUnits (v ∷ (vs ++ u ∷ us))
    → AreOrdered (if e then (joined (v ∷ vs) ++ take 4 u) ∷ [] else grouped (phase_after phases.Headers (value_of u)) (joined (v ∷ vs) ++ u) us)
headers_ordered true v vs us u ih o h a =
    let code = take 4 u in
    let bytes : joined (v ∷ (vs ++ code ∷ [])) ≡ joined (v ∷ vs) ++ code = joined-append (v ∷ vs) (code ∷ []) ∙ ap (λ (l : List ℕ). joined (v ∷ vs) ++ l) (append-nil code) in
    (subst IsOrdered bytes (ordered_units (v ∷ (vs ++ code ∷ [])) (are_code (v ∷ vs) us u a) (one_first (v ∷ vs) code h o)), tt)
headers_ordered false v vs us u ih o h a = ordered_on (phase_after phases.Headers (value_of u)) v vs us u ih (phase_on (v ∷ vs) u o) (one_first (v ∷ vs) u h o) a

picture_ordered : (e f : Bool) (v : List ℕ) (vs us : Units) (u : List ℕ) → begins_piece (value_of u) ≡ f → AllOrdered us → HeadersFirst false (v ∷ vs) → AreUnits (v ∷ (vs ++ u ∷ us))
    → AreOrdered (if e then joined (v ∷ vs) ∷ take 4 u ∷ [] else if f then joined (v ∷ vs) ∷ grouped (phase_after phases.Headers (value_of u)) u us else grouped phases.Picture (joined (v ∷ vs) ++ u) us)
picture_ordered true f v vs us u begins ih h a =
    let code = take 4 u in
    let own = are_behind (v ∷ vs) (code ∷ []) (are_code (v ∷ vs) us u a) in
    (ordered_units (v ∷ vs) (are_before (v ∷ vs) (u ∷ us) a) h, (subst IsOrdered (append-nil code) (ordered_units (code ∷ []) own tt), tt))
picture_ordered false true v vs us u begins ih h a =
    let phase = phase_after phases.Headers (value_of u) in (
      ordered_units (v ∷ vs) (are_before (v ∷ vs) (u ∷ us) a) h,
      subst (λ (l : List ℕ). AreOrdered (grouped phase l us)) (append-nil u) (ih phase u [] (phase_on [] u refl) tt (are_behind (v ∷ vs) (u ∷ us) a)),
    )
picture_ordered false false v vs us u begins ih h a =
    ordered_on phases.Picture v vs us u ih tt (first-append false (v ∷ vs) (u ∷ []) h (one_plain (is_seen false (v ∷ vs)) u begins)) a

last_ordered : (v : List ℕ) (vs : Units) → HeadersFirst false (v ∷ vs) → AreUnits (v ∷ (vs ++ [])) → AreOrdered (piece_of (joined (v ∷ vs)))
last_ordered v vs h a =
    let own = are_before (v ∷ vs) [] a in
    subst AreOrdered (sym (piece_whole v vs own)) (ordered_units (v ∷ vs) own h, tt)

all_ordered : (us : Units) → AllOrdered us
unfolding grouped
all_ordered us phases.Before v vs o h a = absurd o
all_ordered [] phases.Headers v vs o h a = last_ordered v vs h a
all_ordered [] phases.Picture v vs o h a = last_ordered v vs h a
all_ordered (u ∷ us) phases.Headers v vs o h a = headers_ordered _ v vs us u (all_ordered us) o h a
all_ordered (u ∷ us) phases.Picture v vs o h a = picture_ordered _ _ v vs us u refl (all_ordered us) h a

sequence_seen : (u : List ℕ) → nat_eq (value_of u) 0xB3 ≡ true → nat_eq (value_of u) 0x00 ≡ false
sequence_seen u on = ap (λ (v : ℕ). nat_eq v 0x00) (eqb-true (value_of u) 0xB3 on)

first_ordered : (e : Bool) (us : Units) (u : List ℕ) → nat_eq (value_of u) 0xB3 ≡ e → AreOrdered (grouped phases.Before [] us) → AreUnits (u ∷ us)
    → AreOrdered (if e then grouped phases.Headers u us else grouped phases.Before [] us)
first_ordered true us u is ih a = subst (λ (l : List ℕ). AreOrdered (grouped phases.Headers l us)) (append-nil u) (all_ordered us phases.Headers u [] (sequence_seen u is) tt a)
first_ordered false us u is ih a = ih

before_ordered : (us : Units) → AreUnits us → AreOrdered (grouped phases.Before [] us)
unfolding grouped
before_ordered [] a = tt
before_ordered (u ∷ us) a = first_ordered _ us u refl (before_ordered us a.3) a

pub pieces_ordered : (text : List ℕ) → AreOrdered (pieces text)
pieces_ordered text = before_ordered (cut 0 text).1 (cut_cuts text).are_units

-- The pieces of a text have one picture each at most.
use Rattle.std.proofs.Common.{◌≡◌, ℕ, Bool, true, false, List, [], ◌∷◌, ◌++◌, take, inl, inr, refl, sym, ap, subst, ◌∙◌, append_assoc, arith}
use Rattle.std.specs.Prelude.{nat_eq, if◌then◌else◌, All}
use Rattle.std.specs.List.{AllByRecursion}
use Rattle.std.proofs.lemmas.Bool.{cases_Bool, eq-eqb, eqb-true, both_ways}
use Rattle.std.proofs.lemmas.List.{append-nil}
use Rattle.std.proofs.lemmas.List.Elements.{All-from_recursion}
use Rattle.m2v_model.specs.declared.phase.Phase.{Phase}
use Rattle.m2v_model.specs.declared.phase.Phase.TheVariants.{Before, Headers, Picture}
use Rattle.m2v_model.specs.Units.{Units, cut, joined, AreUnits}
use Rattle.m2v_model.specs.Streams.{value_of}
use Rattle.m2v_model.specs.Pieces.{phase_after, begins_piece, is_end, piece_of, grouped, pieces}
use Rattle.m2v_model.proofs.CutLaws.{cut_cuts, cut_units, joined-append, are_before, are_behind, are_code}
use Rattle.m2v_model.proofs.PieceLaws.{IsOpen, open_after, piece_whole}
use Rattle.m2v_dec_rows.specs.OnePicture.{NoneBegins, HasOnePicture}

-- a unit more
none_more : (us : Units) (u : List ℕ) → NoneBegins us → begins_piece (value_of u) ≡ false → NoneBegins (us ++ u ∷ [])
none_more [] u n off = (off, tt)
none_more (v ∷ us) u n off = (n.0, none_more us u n.1 off)

one_more : (us : Units) (u : List ℕ) → HasOnePicture us → begins_piece (value_of u) ≡ false → HasOnePicture (us ++ u ∷ [])
one_more [] u h off = (λ e. tt, tt)
one_more (v ∷ us) u h off = (λ e. none_more us u (h.0 e) off, one_more us u h.1 off)

-- no unit is a picture
abbrev NoPictures : Units → Type 0
NoPictures [] = Unit {0}
NoPictures (u ∷ us) = (nat_eq (value_of u) 0x00 ≡ false) × NoPictures us

still_none : (us : Units) (u : List ℕ) → NoPictures us → nat_eq (value_of u) 0x00 ≡ false → NoPictures (us ++ u ∷ [])
still_none [] u n off = (off, tt)
still_none (v ∷ us) u n off = (n.0, still_none us u n.1 off)

is_none : (value : ℕ) (P : Type 0) → nat_eq value 0x00 ≡ false → value ≡ 0x00 → P
is_none value P off e = absurd (both_ways _ off (eq-eqb value 0x00 e))

first_one : (us : Units) (u : List ℕ) → NoPictures us → HasOnePicture (us ++ u ∷ [])
first_one [] u n = (λ e. tt, tt)
first_one (v ∷ us) u n = (is_none (value_of v) _ n.0, first_one us u n.1)

none_one : (us : Units) → NoPictures us → HasOnePicture us
none_one [] n = tt
none_one (u ∷ us) n = (is_none (value_of u) _ n.0, none_one us n.1)

-- what a piece has in a phase
abbrev Has : Phase → Units → Type 0
Has Before us = ⊥
Has Headers us = NoPictures us
Has Picture us = HasOnePicture us

has_after : (us : Units) (u : List ℕ) → NoPictures us → Has (phase_after Headers (value_of u)) (us ++ u ∷ [])
unfolding phase_after
has_after us u n = elim (cases_Bool (nat_eq (value_of u) 0x00)) [ inl on ↦ rw on (first_one us u n) | inr off ↦ rw off (still_none us u n off) ]

has_one : (phase : Phase) (us : Units) → Has phase us → HasOnePicture us
has_one Before us h = absurd h
has_one Headers us h = none_one us h
has_one Picture us h = h

-- ---- pieces

abbrev OneIn : List ℕ → Type 0
OneIn piece = HasOnePicture (cut 0 piece).1

abbrev Each : List (List ℕ) → Type 0
Each ps = AllByRecursion OneIn ps

one_in : (us : Units) → AreUnits us → HasOnePicture us → OneIn (joined us)
one_in us are h = subst HasOnePicture (sym (cut_units us are)) h

-- with some units of the piece at hand and others behind them
abbrev Ones : Units → Type 0
Ones us = (phase : Phase) (v : List ℕ) (vs : Units) → IsOpen phase → Has phase (v ∷ vs) → AreUnits (v ∷ (vs ++ us)) → Each (grouped phase (joined (v ∷ vs)) us)

goes_on : (phase : Phase) (v : List ℕ) (vs us : Units) (u : List ℕ) → Ones us → IsOpen phase → Has phase (v ∷ (vs ++ u ∷ [])) → AreUnits (v ∷ (vs ++ u ∷ us)) → Each (grouped phase (joined (v ∷ vs) ++ u) us)
goes_on phase v vs us u ih o h are =
    let ws = vs ++ u ∷ [] in
    let e : vs ++ u ∷ us ≡ ws ++ us = sym (append_assoc vs (u ∷ []) us) in
    let bytes : joined (v ∷ ws) ≡ joined (v ∷ vs) ++ u = joined-append (v ∷ vs) (u ∷ []) ∙ ap (λ (l : List ℕ). joined (v ∷ vs) ++ l) (append-nil u) in
    subst (λ (l : List ℕ). Each (grouped phase l us)) bytes (ih phase v ws o h (subst (λ (l : Units). AreUnits (v ∷ l)) e are))

headers_go : (e : Bool) (v : List ℕ) (vs us : Units) (u : List ℕ) → Ones us → NoPictures (v ∷ vs) → AreUnits (v ∷ (vs ++ u ∷ us))
    → Each (if e then (joined (v ∷ vs) ++ take 4 u) ∷ [] else grouped (phase_after Headers (value_of u)) (joined (v ∷ vs) ++ u) us)
headers_go true v vs us u ih n are =
    let code = take 4 u in
    let bytes : joined (v ∷ (vs ++ code ∷ [])) ≡ joined (v ∷ vs) ++ code = joined-append (v ∷ vs) (code ∷ []) ∙ ap (λ (l : List ℕ). joined (v ∷ vs) ++ l) (append-nil code) in
    (subst OneIn bytes (one_in (v ∷ (vs ++ code ∷ [])) (are_code (v ∷ vs) us u are) (first_one (v ∷ vs) code n)), tt)
headers_go false v vs us u ih n are = goes_on (phase_after Headers (value_of u)) v vs us u ih (open_after (value_of u)) (has_after (v ∷ vs) u n) are

picture_goes : (e f : Bool) (v : List ℕ) (vs us : Units) (u : List ℕ) → begins_piece (value_of u) ≡ f → Ones us → HasOnePicture (v ∷ vs) → AreUnits (v ∷ (vs ++ u ∷ us))
    → Each (if e then joined (v ∷ vs) ∷ take 4 u ∷ [] else if f then joined (v ∷ vs) ∷ grouped (phase_after Headers (value_of u)) u us else grouped Picture (joined (v ∷ vs) ++ u) us)
picture_goes true f v vs us u is ih h are =
    let code = take 4 u in
    let own = are_behind (v ∷ vs) (code ∷ []) (are_code (v ∷ vs) us u are) in
    (one_in (v ∷ vs) (are_before (v ∷ vs) (u ∷ us) are) h, (subst OneIn (append-nil code) (one_in (code ∷ []) own (λ e. tt, tt)), tt))
picture_goes false true v vs us u is ih h are =
    let phase = phase_after Headers (value_of u) in
    let rest = ih phase u [] (open_after (value_of u)) (has_after [] u tt) (are_behind (v ∷ vs) (u ∷ us) are) in
    (one_in (v ∷ vs) (are_before (v ∷ vs) (u ∷ us) are) h, subst (λ (l : List ℕ). Each (grouped phase l us)) (append-nil u) rest)
picture_goes false false v vs us u is ih h are = goes_on Picture v vs us u ih tt (one_more (v ∷ vs) u h is) are

last_one : (v : List ℕ) (vs : Units) → HasOnePicture (v ∷ vs) → AreUnits (v ∷ (vs ++ [])) → Each (piece_of (joined (v ∷ vs)))
last_one v vs h are =
    let a = are_before (v ∷ vs) [] are in
    subst Each (sym (piece_whole v vs a)) (one_in (v ∷ vs) a h, tt)

ones : (us : Units) → Ones us
unfolding grouped
ones us Before v vs o h are = absurd o
ones [] Headers v vs o h are = last_one v vs (none_one (v ∷ vs) h) are
ones [] Picture v vs o h are = last_one v vs h are
ones (u ∷ us) Headers v vs o h are = headers_go (is_end (value_of u)) v vs us u (ones us) h are
ones (u ∷ us) Picture v vs o h are = picture_goes (is_end (value_of u)) (begins_piece (value_of u)) v vs us u refl (ones us) h are

-- ---- texts

sequence_none : (value : ℕ) → nat_eq value 0xB3 ≡ true → nat_eq value 0x00 ≡ false
sequence_none value on =
    elim (cases_Bool (nat_eq value 0x00)) [ inl e ↦ absurd (omega (arith, eqb-true value 0xB3 on, eqb-true value 0x00 e)) | inr off ↦ off ]

first_goes : (e : Bool) (us : Units) (u : List ℕ) → nat_eq (value_of u) 0xB3 ≡ e → Each (grouped Before [] us) → AreUnits (u ∷ us) → Each (if e then grouped Headers u us else grouped Before [] us)
first_goes true us u is ih are =
    subst (λ (l : List ℕ). Each (grouped Headers l us)) (append-nil u) (ones us Headers u [] tt (sequence_none (value_of u) is, tt) are)
first_goes false us u is ih are = ih

all_ones : (us : Units) → AreUnits us → Each (grouped Before [] us)
unfolding grouped
all_ones [] are = tt
all_ones (u ∷ us) are = first_goes (nat_eq (value_of u) 0xB3) us u refl (all_ones us are.3) are

pub one_picture : (text : List ℕ) → All OneIn (pieces text)
one_picture text = All-from_recursion _ (pieces text) (all_ones (cut 0 text).1 (cut_cuts text).are_units)

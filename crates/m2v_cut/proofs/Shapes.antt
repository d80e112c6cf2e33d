-- Pieces as groups of a stream's units: headers, and then a picture with its slices.
use Rattle.std.proofs.Common.{◌≡◌, ℕ, ◌<◌, ◌≤◌, Bool, true, false, List, [], ◌∷◌, ◌++◌, length, take, inl, inr, refl, sym, ap, subst, ◌∙◌, append_assoc, arith}
use Rattle.std.specs.Prelude.{nat_eq, ◌||◌, if◌then◌else◌}
use Rattle.std.proofs.lemmas.Bool.{cases_Bool, eqb-true}
use Rattle.std.proofs.lemmas.List.{append-nil, length-append}
use Rattle.m2v_model.specs.declared.phase.Phase.{Phase}
use Rattle.m2v_model.specs.declared.phase.Phase.TheVariants.{Before, Headers, Picture}
use Rattle.m2v_model.specs.Units.{Units, cut, joined, AreUnits}
use Rattle.m2v_model.specs.Streams.{value_of}
use Rattle.m2v_model.specs.Pieces.{phase_after, begins_piece, is_end, piece_of, grouped, pieces, before_pieces, before_sequence}
use Rattle.m2v_model.proofs.CutLaws.{cut_cuts, cuts_is, joined-append, are_before, are_behind, are_code}
use Rattle.m2v_model.proofs.ShiftLaws.{BeginsPiece, NoEnds}
use Rattle.m2v_model.proofs.PieceLaws.{value_code, piece_whole, no_ends-append, sequence_goes}
use Rattle.m2v_law_group.specs.Groups.{is_picture, is_sequence, has_picture, from_sequence, to_end, stream_units}

-- a unit among these begins a piece
unfoldable pub has_begin : Units → Bool
has_begin [] = false
has_begin (u ∷ us) = begins_piece (value_of u) || has_begin us

-- a picture unit with its slices, or nothing
abbrev pub IsPictured : Units → Type 0
IsPictured [] = Unit {0}
IsPictured (u ∷ us) = (is_picture u ≡ true) × (has_begin us ≡ false)

-- headers, and then a picture
pub record Shape (vs : Units) : Type 0 where
  pub heads : Units
  pub tail : Units
  pub is : vs ≡ heads ++ tail
  pub none : has_picture heads ≡ false
  pub pictured : IsPictured tail

-- the sequence end code, or nothing
abbrev pub AreEnds : Units → Type 0
AreEnds [] = Unit {0}
AreEnds (u ∷ us) = (is_end (value_of u) ≡ true) × (us ≡ [])

-- another piece follows only behind a picture
abbrev pub Follows : List (List ℕ) → Units → Units → Type 0
Follows [] tail ends = Unit {0}
Follows (p ∷ ps) tail ends = (tail ≡ [] → ⊥) × (ends ≡ [])

-- units of a piece, and the sequence end codes behind them
pub record Alone (p : List ℕ) : Type 0 where
  pub vs : Units
  pub ends : Units
  pub units : cut 0 p ≡ ([], vs ++ ends)
  pub whole : p ≡ joined (vs ++ ends)
  pub no_ends : NoEnds vs
  pub at_end : AreEnds ends
  pub shape : Shape vs
  pub apart : (shape.tail ≡ [] → ⊥) → ends ≡ []
  pub begins : BeginsPiece vs

-- a piece of a stream's units
pub record Split (p : List ℕ) (ps : List (List ℕ)) (us rest : Units) : Type 0 where
  pub own : Alone p
  pub open own use *
  pub is : us ≡ vs ++ rest
  pub follows : Follows ps shape.tail ends

-- pieces are those of a stream's units
abbrev pub Splits : List (List ℕ) → Units → Type 0
Splits [] us = us ≡ []
Splits (p ∷ ps) us = (rest : Units) × Split p ps us rest × Splits ps rest

-- ---- the piece at hand

abbrev InPhase : Phase → Units → Type 0
InPhase Before ws = ⊥
InPhase Headers ws = has_picture ws ≡ false
InPhase Picture ws = (s : Shape ws) × (s.tail ≡ [] → ⊥)

none_more : (ws : Units) (u : List ℕ) → has_picture ws ≡ false → is_picture u ≡ false → has_picture (ws ++ u ∷ []) ≡ false
unfolding has_picture
none_more [] u none off = ap (λ (b : Bool). b || false) off
none_more (w ∷ ws) u none off = by_case (is_picture w) (has_picture ws) (has_picture (ws ++ u ∷ [])) none (λ rest. none_more ws u rest off)
  where
    by_case : (a b c : Bool) → (a || b) ≡ false → (b ≡ false → c ≡ false) → (a || c) ≡ false
    by_case true b c e f = absurd cc
    by_case false b c e f = f e

begin_more : (ws : Units) (u : List ℕ) → has_begin ws ≡ false → begins_piece (value_of u) ≡ false → has_begin (ws ++ u ∷ []) ≡ false
unfolding has_begin
begin_more [] u none off = ap (λ (b : Bool). b || false) off
begin_more (w ∷ ws) u none off = by_case (begins_piece (value_of w)) (has_begin ws) (has_begin (ws ++ u ∷ [])) none (λ rest. begin_more ws u rest off)
  where
    by_case : (a b c : Bool) → (a || b) ≡ false → (b ≡ false → c ≡ false) → (a || c) ≡ false
    by_case true b c e f = absurd cc
    by_case false b c e f = f e

header_more : (ws : Units) (u : List ℕ) → has_picture ws ≡ false → InPhase (phase_after Headers (value_of u)) (ws ++ u ∷ [])
unfolding phase_after has_begin
header_more ws u none = elim (cases_Bool (nat_eq (value_of u) 0x00)) [
  | inl on ↦ rw on (record { heads = ws; tail = u ∷ []; is = refl; none = none; pictured = (on, refl) }, λ e. absurd cc)
  | inr off ↦ rw off (none_more ws u none off)
]

some_tail : (tail : Units) (u : List ℕ) → (tail ++ u ∷ []) ≡ [] → ⊥
some_tail [] u e = absurd cc
some_tail (t ∷ tail) u e = absurd cc

pictured_more : (tail : Units) (u : List ℕ) → IsPictured tail → (tail ≡ [] → ⊥) → begins_piece (value_of u) ≡ false → IsPictured (tail ++ u ∷ [])
pictured_more [] u p some off = absurd (some refl)
pictured_more (t ∷ tail) u p some off = (p.0, begin_more tail u p.1 off)

picture_more : (ws : Units) (u : List ℕ) → InPhase Picture ws → begins_piece (value_of u) ≡ false → InPhase Picture (ws ++ u ∷ [])
picture_more ws u p off =
    let s : Shape ws = p.0 in (
      record {
        heads = s.heads;
        tail = s.tail ++ u ∷ [];
        is = ap (λ (l : Units). l ++ u ∷ []) s.is ∙ append_assoc s.heads s.tail (u ∷ []);
        none = s.none;
        pictured = pictured_more s.tail u s.pictured p.1 off;
      },
      some_tail s.tail u,
    )

-- ---- pieces

cut_all : (ws : Units) → AreUnits ws → cut 0 (joined ws) ≡ ([], ws)
cut_all ws h = cuts_is (joined ws) [] ws (record { whole = refl; front_clear = λ i le lt. absurd (omega arith); are_units = h })

abbrev shape_of : (phase : Phase) (ws : Units) → InPhase phase ws → Shape ws
shape_of Before ws p = absurd p
shape_of Headers ws p = record { heads = ws; tail = []; is = sym (append-nil ws); none = p; pictured = tt }
shape_of Picture ws p = p.0

-- the last piece, without an end code or with it
last_split : (phase : Phase) (ws ends : Units) (p : InPhase phase ws) → NoEnds ws → AreEnds ends → (((shape_of phase ws p).tail ≡ [] → ⊥) → ends ≡ []) → BeginsPiece ws → AreUnits (ws ++ ends) → Splits (joined (ws ++ ends) ∷ []) (ws ++ [])
last_split phase ws ends p n e apart b h = (
  [],
  record {
    own = record { vs = ws; ends = ends; units = cut_all (ws ++ ends) h; whole = refl; no_ends = n; at_end = e; shape = shape_of phase ws p; apart = apart; begins = b };
    is = refl;
    follows = tt;
  },
  refl,
)

-- a piece and others behind it
one_split : (ws us : Units) (q : List ℕ) (qs : List (List ℕ)) → InPhase Picture ws → NoEnds ws → BeginsPiece ws → AreUnits ws → Splits (q ∷ qs) us → Splits (joined ws ∷ q ∷ qs) (ws ++ us)
one_split ws us q qs p n b h others = (
  us,
  record {
    own = record {
      vs = ws;
      ends = [];
      units = cut_all ws h ∙ ap (λ (l : Units). ([], l)) (sym (append-nil ws));
      whole = ap joined (sym (append-nil ws));
      no_ends = n;
      at_end = tt;
      shape = p.0;
      apart = λ some. refl;
      begins = b;
    };
    is = refl;
    follows = (p.1, refl);
  },
  others,
)

-- some pieces follow behind a piece that has begun
abbrev AreSome : List (List ℕ) → Units → Type 0
AreSome ps us = (q : List ℕ) × (qs : List (List ℕ)) × (ps ≡ q ∷ qs) × Splits ps us

abbrev Held : Units → Type 0
Held us = (phase : Phase) (v : List ℕ) (vs : Units) → InPhase phase (v ∷ vs) → NoEnds (v ∷ vs) → begins_piece (value_of v) ≡ true → AreUnits (v ∷ (vs ++ us)) → AreSome (grouped phase (joined (v ∷ vs)) us) ((v ∷ vs) ++ to_end us)

goes_on : (phase : Phase) (v : List ℕ) (vs us : Units) (u : List ℕ) → Held us → InPhase phase ((v ∷ vs) ++ u ∷ []) → is_end (value_of u) ≡ false → NoEnds (v ∷ vs) → begins_piece (value_of v) ≡ true → AreUnits (v ∷ (vs ++ u ∷ us))
    → AreSome (grouped phase (joined (v ∷ vs) ++ u) us) ((v ∷ vs) ++ u ∷ to_end us)
goes_on phase v vs us u ih p off n b h =
    let ws = vs ++ u ∷ [] in
    let bytes : joined (v ∷ ws) ≡ joined (v ∷ vs) ++ u = joined-append (v ∷ vs) (u ∷ []) ∙ ap (λ (l : List ℕ). joined (v ∷ vs) ++ l) (append-nil u) in
    let all : v ∷ (ws ++ to_end us) ≡ (v ∷ vs) ++ u ∷ to_end us = ap (λ (l : Units). v ∷ l) (append_assoc vs (u ∷ []) (to_end us)) in
    subst (λ (l : Units). AreSome (grouped phase (joined (v ∷ vs) ++ u) us) l) all
    (subst (λ (l : List ℕ). AreSome (grouped phase l us) (v ∷ (ws ++ to_end us))) bytes
    (ih phase v ws p (no_ends-append (v ∷ vs) (u ∷ []) n (off, tt)) b (subst (λ (l : Units). AreUnits (v ∷ l)) (sym (append_assoc vs (u ∷ []) us)) h)))

headers_go : (c : Bool) (v : List ℕ) (vs us : Units) (u : List ℕ) → is_end (value_of u) ≡ c → Held us → InPhase Headers (v ∷ vs) → NoEnds (v ∷ vs) → begins_piece (value_of v) ≡ true → AreUnits (v ∷ (vs ++ u ∷ us))
    → AreSome (if c then (joined (v ∷ vs) ++ take 4 u) ∷ [] else grouped (phase_after Headers (value_of u)) (joined (v ∷ vs) ++ u) us) ((v ∷ vs) ++ (if c then [] else u ∷ to_end us))
headers_go true v vs us u is ih p n b h =
    let code = take 4 u in
    let e : joined ((v ∷ vs) ++ code ∷ []) ≡ joined (v ∷ vs) ++ code = joined-append (v ∷ vs) (code ∷ []) ∙ ap (λ (l : List ℕ). joined (v ∷ vs) ++ l) (append-nil code) in
    (joined (v ∷ vs) ++ code, [], refl, subst (λ (l : List ℕ). Splits (l ∷ []) ((v ∷ vs) ++ [])) e (last_split Headers (v ∷ vs) (code ∷ []) p n (ap is_end (value_code u) ∙ is, refl) (λ some. absurd (some refl)) b (are_code (v ∷ vs) us u h)))
headers_go false v vs us u is ih p n b h = goes_on (phase_after Headers (value_of u)) v vs us u ih (header_more (v ∷ vs) u p) is n b h

picture_begins : (v : List ℕ) (vs us : Units) (u : List ℕ) → Held us → InPhase Picture (v ∷ vs) → begins_piece (value_of u) ≡ true → is_end (value_of u) ≡ false → NoEnds (v ∷ vs) → begins_piece (value_of v) ≡ true → AreUnits (v ∷ (vs ++ u ∷ us))
    → AreSome (joined (v ∷ vs) ∷ grouped (phase_after Headers (value_of u)) u us) ((v ∷ vs) ++ u ∷ to_end us)
unfolding has_picture
picture_begins v vs us u ih p on off n b h =
    let phase = phase_after Headers (value_of u) in
    let q = ih phase u [] (header_more [] u refl) (off, tt) on (are_behind (v ∷ vs) (u ∷ us) h) in
    let q' : AreSome (grouped phase u us) (u ∷ to_end us) = subst (λ (l : List ℕ). AreSome (grouped phase l us) (u ∷ to_end us)) (append-nil u) q in
    let others : Splits (q'.0 ∷ q'.1) (u ∷ to_end us) = subst (λ (l : List (List ℕ)). Splits l (u ∷ to_end us)) q'.2 q'.3 in (
      joined (v ∷ vs),
      grouped phase u us,
      refl,
      subst (λ (l : List (List ℕ)). Splits (joined (v ∷ vs) ∷ l) ((v ∷ vs) ++ u ∷ to_end us)) (sym q'.2) (one_split (v ∷ vs) (u ∷ to_end us) q'.0 q'.1 p n b (are_before (v ∷ vs) (u ∷ us) h) others),
    )

picture_goes : (c d : Bool) (v : List ℕ) (vs us : Units) (u : List ℕ) → is_end (value_of u) ≡ c → begins_piece (value_of u) ≡ d → Held us → InPhase Picture (v ∷ vs) → NoEnds (v ∷ vs) → begins_piece (value_of v) ≡ true → AreUnits (v ∷ (vs ++ u ∷ us))
    → AreSome (if c then joined (v ∷ vs) ∷ take 4 u ∷ [] else if d then joined (v ∷ vs) ∷ grouped (phase_after Headers (value_of u)) u us else grouped Picture (joined (v ∷ vs) ++ u) us) ((v ∷ vs) ++ (if c then [] else u ∷ to_end us))
unfolding has_picture
picture_goes true d v vs us u is begins ih p n b h =
    let code = take 4 u in
    let one : AreUnits (code ∷ []) = are_behind (v ∷ vs) (code ∷ []) (are_code (v ∷ vs) us u h) in
    let last : Splits (code ∷ []) [] = subst (λ (l : List ℕ). Splits (l ∷ []) []) (append-nil code) (last_split Headers [] (code ∷ []) refl tt (ap is_end (value_code u) ∙ is, refl) (λ some. absurd (some refl)) tt one) in
    (joined (v ∷ vs), code ∷ [], refl, one_split (v ∷ vs) [] code [] p n b (are_before (v ∷ vs) (u ∷ us) h) last)
picture_goes false true v vs us u is begins ih p n b h = picture_begins v vs us u ih p begins is n b h
picture_goes false false v vs us u is begins ih p n b h = goes_on Picture v vs us u ih (picture_more (v ∷ vs) u p begins) is n b h

last_some : (phase : Phase) (v : List ℕ) (vs : Units) → InPhase phase (v ∷ vs) → NoEnds (v ∷ vs) → begins_piece (value_of v) ≡ true → AreUnits (v ∷ (vs ++ [])) → AreSome (piece_of (joined (v ∷ vs))) ((v ∷ vs) ++ [])
last_some phase v vs p n b h =
    let ws = v ∷ vs in
    let one : Splits (joined ws ∷ []) (ws ++ []) = subst (λ (l : Units). Splits (joined l ∷ []) (ws ++ [])) (append-nil ws) (last_split phase ws [] p n tt (λ some. refl) b h) in
    subst (λ (l : List (List ℕ)). AreSome l (ws ++ [])) (sym (piece_whole v vs (are_before ws [] h))) (joined ws, [], refl, one)

all_held : (us : Units) → Held us
unfolding grouped to_end
all_held us Before v vs p n b h = absurd p
all_held [] Headers v vs p n b h = last_some Headers v vs p n b h
all_held [] Picture v vs p n b h = last_some Picture v vs p n b h
all_held (u ∷ us) Headers v vs p n b h = headers_go _ v vs us u refl (all_held us) p n b h
all_held (u ∷ us) Picture v vs p n b h = picture_goes _ _ v vs us u refl refl (all_held us) p n b h

-- ---- texts

sequence_begins : (value : ℕ) → nat_eq value 0xB3 ≡ true → (begins_piece value ≡ true) × (nat_eq value 0x00 ≡ false)
unfolding begins_piece
sequence_begins value on = let e = eqb-true value 0xB3 on in rw e (refl, refl)

first_split : (c : Bool) (us : Units) (u : List ℕ) → nat_eq (value_of u) 0xB3 ≡ c → AreUnits (u ∷ us) → Splits (grouped Before [] us) (to_end (from_sequence us))
    → Splits (if c then grouped Headers u us else grouped Before [] us) (to_end (if c then u ∷ us else from_sequence us))
unfolding to_end has_picture
first_split true us u is h ih =
    let b = sequence_begins (value_of u) is in
    let off : is_end (value_of u) ≡ false = sequence_goes (value_of u) is in
    let q = all_held us Headers u [] (ap (λ (x : Bool). x || false) b.1) (off, tt) b.0 h in
    rw off (subst (λ (l : List ℕ). Splits (grouped Headers l us) (u ∷ to_end us)) (append-nil u) q.3)
first_split false us u is h ih = ih

text_split : (us : Units) → AreUnits us → Splits (grouped Before [] us) (to_end (from_sequence us))
unfolding grouped from_sequence to_end
text_split [] h = refl
text_split (u ∷ us) h = first_split _ us u refl h (text_split us h.3)

-- the pieces of a text are those of its stream's units
pub pieces_split : (text : List ℕ) → Splits (pieces text) (stream_units text)
pieces_split text = text_split (cut 0 text).1 (cut_cuts text).are_units

-- a stream begins with a sequence header
abbrev pub BeginsSequence : Units → Type 0
BeginsSequence [] = Unit {0}
BeginsSequence (u ∷ us) = is_sequence u ≡ true

first_begins : (c : Bool) (u : List ℕ) (us : Units) → is_sequence u ≡ c → BeginsSequence (to_end (from_sequence us)) → BeginsSequence (to_end (if c then u ∷ us else from_sequence us))
unfolding to_end
first_begins true u us is ih = rw (sequence_goes (value_of u) is) is
first_begins false u us is ih = ih

sequence_first : (us : Units) → BeginsSequence (to_end (from_sequence us))
unfolding from_sequence to_end
sequence_first [] = tt
sequence_first (u ∷ us) = first_begins _ u us refl (sequence_first us)

pub begins_sequence : (text : List ℕ) → BeginsSequence (stream_units text)
begins_sequence text = sequence_first (cut 0 text).1

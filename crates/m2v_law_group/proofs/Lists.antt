-- Units of a stream by their values: where they are parted, and how many group headers they have.
use Rattle.std.proofs.Common.{◌≡◌, ℕ, zero, suc, ◌+◌, ◌≤◌, Bool, true, false, List, [], ◌∷◌, ◌++◌, refl, sym, ap, ◌∙◌, arith}
use Rattle.std.specs.Prelude.{nat_eq, not, ◌&&◌, ◌||◌, if◌then◌else◌}
use Rattle.m2v_model.specs.Units.{Units}
use Rattle.m2v_model.specs.Streams.{value_of}
use Rattle.m2v_model.specs.Pieces.{is_end, begins_piece}
use Rattle.m2v_model.proofs.ShiftLaws.{BeginsPiece, NoEnds}
use Rattle.m2v_law_group.specs.Groups.{is_picture, is_sequence, is_group, has_picture, has_sequence, group_headers, from_sequence, to_end, before_group, from_group, from_last_sequence, up_to_piece}

-- ---- all of them

pub headers_append : (us vs : Units) → group_headers (us ++ vs) ≡ group_headers us + group_headers vs
unfolding group_headers
headers_append [] vs = omega arith
headers_append (u ∷ us) vs = let ih = headers_append us vs in omega (arith, ih)

pub or_parts : (a b : Bool) → (a || b) ≡ false → (a ≡ false) × (b ≡ false)
or_parts true b e = absurd cc
or_parts false b e = (refl, e)

pub and_parts : (a b : Bool) → (a && b) ≡ true → (a ≡ true) × (b ≡ true)
and_parts true b e = (refl, e)
and_parts false b e = absurd cc

pub picture_append : (us vs : Units) → has_picture (us ++ vs) ≡ false → (has_picture us ≡ false) × (has_picture vs ≡ false)
unfolding has_picture
picture_append [] vs e = (refl, e)
picture_append (u ∷ us) vs e =
    let o = or_parts (is_picture u) (has_picture (us ++ vs)) e in
    let i = picture_append us vs o.1 in
    (rw (o.0) i.0, i.1)

pub no_ends_parts : (us vs : Units) → NoEnds (us ++ vs) → NoEnds us × NoEnds vs
no_ends_parts [] vs n = (tt, n)
no_ends_parts (u ∷ us) vs n = let i = no_ends_parts us vs n.1 in ((n.0, i.0), i.1)

-- ---- a stream's units

end_begins : (value : ℕ) → is_end value ≡ true → begins_piece value ≡ true
unfolding is_end begins_piece
end_begins value e = rw e (ends_by (nat_eq value 0x00 || nat_eq value 0xB3) (nat_eq value 0xB8))
  where
    ends_by : (a b : Bool) → (a || true || b) ≡ true
    ends_by true b = refl
    ends_by false b = refl

-- nothing, or a sequence end code and what stands behind it
abbrev pub Behind : Units → Type 0
Behind [] = Unit {0}
Behind (u ∷ us) = is_end (value_of u) ≡ true

pub behind_begins : (us : Units) → Behind us → BeginsPiece us
behind_begins [] h = tt
behind_begins (u ∷ us) h = end_begins (value_of u) h

end_step : (u : List ℕ) (us : Units) (e : Bool) → is_end (value_of u) ≡ e → (rest : Units) × (us ≡ to_end us ++ rest) × Behind rest × NoEnds (to_end us) → (rest : Units) × (u ∷ us ≡ to_end (u ∷ us) ++ rest) × Behind rest × NoEnds (to_end (u ∷ us))
unfolding to_end
end_step u us true e i = rw e (u ∷ us, refl, e, tt)
end_step u us false e i = rw e (i.0, ap (λ (l : Units). u ∷ l) i.1, i.2, (e, i.3))

pub ended_units : (us : Units) → (rest : Units) × (us ≡ to_end us ++ rest) × Behind rest × NoEnds (to_end us)
unfolding to_end
ended_units [] = ([], refl, tt, tt)
ended_units (u ∷ us) = end_step u us (is_end (value_of u)) refl (ended_units us)

-- ---- groups

before_step : (u : List ℕ) (us : Units) (g : Bool) → is_group u ≡ g → us ≡ before_group 0 us ++ from_group 0 us → u ∷ us ≡ before_group 0 (u ∷ us) ++ from_group 0 (u ∷ us)
unfolding before_group from_group
before_step u us true e ih = rw e refl
before_step u us false e ih = rw e (ap (λ (l : Units). u ∷ l) ih)

pub group_parts : (us : Units) (n : ℕ) → us ≡ before_group n us ++ from_group n us
unfolding before_group from_group
group_parts [] n = refl
group_parts (u ∷ us) zero = before_step u us (is_group u) refl (group_parts us 0)
group_parts (u ∷ us) (suc n) = ap (λ (l : Units). u ∷ l) (group_parts us (if is_group u then n else suc n))

-- the group with a number begins with its header, behind so many others
abbrev GroupFound : ℕ → Units → Units → List ℕ → Units → Type 0
GroupFound n before behind g later = behind ≡ g ∷ later → (group_headers before ≡ n) × (is_group g ≡ true)

found_step : (u : List ℕ) (us : Units) (g : Bool) → is_group u ≡ g → (h : List ℕ) (later : Units) → GroupFound 0 (before_group 0 us) (from_group 0 us) h later → GroupFound 0 (before_group 0 (u ∷ us)) (from_group 0 (u ∷ us)) h later
unfolding before_group from_group group_headers
found_step u us true e h later ih is =
    let own : u ∷ us ≡ h ∷ later = sym (rw e refl) ∙ is in
    let same : u ≡ h = cc in
    (rw e refl, ap is_group (sym same) ∙ e)
found_step u us false e h later ih is =
    let own : from_group 0 us ≡ h ∷ later = sym (rw e refl) ∙ is in
    let i = ih own in
    (rw (e, e) (omega (arith, i.0)), i.1)

counted_by : (g : Bool) (n m : ℕ) → m ≡ (if g then n else suc n) → (if g then 1 else 0) + m ≡ suc n
counted_by true n m e = omega (arith, e)
counted_by false n m e = omega (arith, e)

pub group_found : (us : Units) (n : ℕ) (g : List ℕ) (later : Units) → GroupFound n (before_group n us) (from_group n us) g later
unfolding before_group from_group group_headers
group_found [] n g later is = absurd cc
group_found (u ∷ us) zero g later is = found_step u us (is_group u) refl g later (group_found us 0 g later) is
group_found (u ∷ us) (suc n) g later is =
    let m = if is_group u then n else suc n in
    let i = group_found us m g later is in
    (counted_by (is_group u) n (group_headers (before_group m us)) i.0, i.1)

-- where there are fewer groups
fewer_step : (u : List ℕ) (us : Units) (g : Bool) → is_group u ≡ g → (from_group 0 us ≡ [] → group_headers us ≤ 0) → from_group 0 (u ∷ us) ≡ [] → group_headers (u ∷ us) ≤ 0
unfolding from_group group_headers
fewer_step u us true e ih none = let wrong : u ∷ us ≡ [] = sym (rw e refl) ∙ none in absurd cc
fewer_step u us false e ih none = let own : from_group 0 us ≡ [] = sym (rw e refl) ∙ none in rw e (omega (arith, ih own))

most_by : (g : Bool) (n m : ℕ) → m ≤ (if g then n else suc n) → (if g then 1 else 0) + m ≤ suc n
most_by true n m e = omega (arith, e)
most_by false n m e = omega (arith, e)

pub fewer_groups : (us : Units) (n : ℕ) → from_group n us ≡ [] → group_headers us ≤ n
unfolding from_group group_headers
fewer_groups [] n none = omega arith
fewer_groups (u ∷ us) zero none = fewer_step u us (is_group u) refl (fewer_groups us 0) none
fewer_groups (u ∷ us) (suc n) none = most_by (is_group u) n (group_headers us) (fewer_groups us (if is_group u then n else suc n) none)

-- ---- the last sequence header

pub record HasLast (us : Units) : Type 0 where
  pub before : Units
  pub h : List ℕ
  pub later : Units
  pub whole : us ≡ before ++ h ∷ later
  pub last : from_last_sequence us ≡ h ∷ later
  pub is : is_sequence h ≡ true
  pub none : has_sequence later ≡ false

last_step : (u : List ℕ) (us : Units) (a b : Bool) → is_sequence u ≡ a → has_sequence us ≡ b → (has_sequence us ≡ true → HasLast us) → has_sequence (u ∷ us) ≡ true → HasLast (u ∷ us)
unfolding has_sequence from_last_sequence
last_step u us a true ea eb ih some =
    let i = ih eb in
    let off : (is_sequence u && not (has_sequence us)) ≡ false = rw eb (none_by (is_sequence u)) in
    record { before = u ∷ i.before; h = i.h; later = i.later; whole = ap (λ (l : Units). u ∷ l) i.whole; last = rw off (i.last); is = i.is; none = i.none }
  where
    none_by : (x : Bool) → (x && false) ≡ false
    none_by true = refl
    none_by false = refl
last_step u us true false ea eb ih some = record { before = []; h = u; later = us; whole = refl; last = rw (ea, eb) refl; is = ea; none = eb }
last_step u us false false ea eb ih some = let wrong : false ≡ true = sym (rw (ea, eb) refl) ∙ some in absurd cc

pub last_found : (us : Units) → has_sequence us ≡ true → HasLast us
unfolding has_sequence
last_found [] some = absurd cc
last_found (u ∷ us) some = last_step u us (is_sequence u) (has_sequence us) refl refl (last_found us) some

-- ---- up to a piece

piece_step : (u : List ℕ) (us : Units) (b : Bool) → (begins_piece (value_of u) && not (has_picture (u ∷ us))) ≡ b → (rest : Units) × (us ≡ up_to_piece us ++ rest) × BeginsPiece rest × (has_picture rest ≡ false)
    → (rest : Units) × (u ∷ us ≡ up_to_piece (u ∷ us) ++ rest) × BeginsPiece rest × (has_picture rest ≡ false)
unfolding up_to_piece
piece_step u us true e i = let p = and_parts _ _ e in rw e (u ∷ us, refl, p.0, not_true (has_picture (u ∷ us)) p.1)
  where
    not_true : (b : Bool) → not b ≡ true → b ≡ false
    not_true true h = absurd cc
    not_true false h = refl
piece_step u us false e i = rw e (i.0, ap (λ (l : Units). u ∷ l) i.1, i.2, i.3)

pub piece_parts : (us : Units) → (rest : Units) × (us ≡ up_to_piece us ++ rest) × BeginsPiece rest × (has_picture rest ≡ false)
unfolding up_to_piece has_picture
piece_parts [] = ([], refl, tt, refl)
piece_parts (u ∷ us) = piece_step u us _ refl (piece_parts us)

-- ---- from the first sequence header on

first_step : (u : List ℕ) (us : Units) (a : Bool) → is_sequence u ≡ a → (h : List ℕ) (later : Units) → (from_sequence us ≡ h ∷ later → is_sequence h ≡ true) → from_sequence (u ∷ us) ≡ h ∷ later → is_sequence h ≡ true
unfolding from_sequence
first_step u us true e h later ih is = let own : u ∷ us ≡ h ∷ later = sym (rw e refl) ∙ is in let same : u ≡ h = cc in ap is_sequence (sym same) ∙ e
first_step u us false e h later ih is = let own : from_sequence us ≡ h ∷ later = sym (rw e refl) ∙ is in ih own

pub first_sequence : (us : Units) (h : List ℕ) (later : Units) → from_sequence us ≡ h ∷ later → is_sequence h ≡ true
unfolding from_sequence
first_sequence [] h later is = absurd cc
first_sequence (u ∷ us) h later is = first_step u us (is_sequence u) refl h later (first_sequence us h later) is

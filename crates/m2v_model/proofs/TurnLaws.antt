-- Each piece of a text tells one picture, and the last one at most one.
use Rattle.std.proofs.Common.{◌≡◌, inl, inr, ℕ, ◌+◌, ◌≤◌, Bool, true, false, List, [], ◌∷◌, ◌++◌, length, take, Ok, Err, refl, sym, ap, subst, ◌∙◌, append_assoc, arith}
use Rattle.std.specs.Prelude.{nat_eq, if◌then◌else◌}
use Rattle.std.proofs.lemmas.Bool.{cases_Bool, eqb-true}
use Rattle.std.proofs.lemmas.List.{append-nil}
use Rattle.m2v_model.specs.declared.phase.Phase.{Phase}
use Rattle.m2v_model.specs.declared.phase.Phase.TheVariants.{Before, Headers, Picture}
use Rattle.m2v_model.specs.Units.{Units, cut, joined, AreUnits}
use Rattle.m2v_model.specs.Streams.{value_of}
use Rattle.m2v_model.specs.Pictures.{Events, pictures_in}
use Rattle.m2v_model.specs.Pieces.{phase_after, begins_piece, is_end, piece_of, grouped, picture_units, before_pieces}
use Rattle.m2v_model.specs.ByPieces.{Between, at_start, Course, units_read, IsOne, TellInTurn, TellsPictures}
use Rattle.m2v_model.proofs.CutLaws.{cut_cuts, joined-append, are_before, are_behind, are_code}
use Rattle.m2v_model.proofs.ShiftLaws.{NoEnds}
use Rattle.m2v_model.proofs.SplitLaws.{IsKnown, KnownBy, KnownAt, known_at}
use Rattle.m2v_model.proofs.PieceLaws.{placed, piece_units, IsOpen, open_after, no_ends-append, piece_whole, value_code, sequence_goes}
use Rattle.m2v_model.proofs.CountLaws.{open_count, own_count, head_is, end_is, Told, pictures_told}

-- ---- picture units

no_units : picture_units [] ≡ 0
unfolding picture_units
no_units = refl

units_more : (us vs : Units) → NoEnds us → picture_units (us ++ vs) ≡ picture_units us + picture_units vs
units_more [] vs n = omega (arith, no_units)
units_more (u ∷ us) vs n =
    let h = head_is u (us ++ vs) n.0 in
    let k = head_is u us n.0 in
    let rest = units_more us vs n.1 in
    omega (arith, h, k, rest)

one_more : (us : Units) (u : List ℕ) → NoEnds us → is_end (value_of u) ≡ false → picture_units (us ++ u ∷ []) ≡ picture_units us + own_count (value_of u)
one_more us u n off =
    let h = head_is u [] off in
    let m = units_more us (u ∷ []) n in
    omega (arith, h, m, no_units)

alone : (u : List ℕ) → is_end (value_of u) ≡ false → picture_units (u ∷ []) ≡ own_count (value_of u)
alone u off = let h = head_is u [] off in omega (arith, h, no_units)

-- how many a piece has in a phase
abbrev in_phase : Phase → ℕ
in_phase Before = 0
in_phase Headers = 0
in_phase Picture = 1

phase_count : (value : ℕ) → in_phase (phase_after Headers value) ≡ own_count value
unfolding phase_after
phase_count value = elim (cases_Bool (nat_eq value 0x00)) [ inl on ↦ rw on refl | inr off ↦ rw off refl ]

goes_on : (value : ℕ) → begins_piece value ≡ false → own_count value ≡ 0
unfolding begins_piece
goes_on value off =
    elim (cases_Bool (nat_eq value 0x00)) [
      | inl on ↦ let h = rw on at off in absurd cc
      | inr other ↦ rw other refl
    ]

-- ---- one piece

placed_ok : (end : ℕ) (r : Course) (x : Events × Between) → placed end r ≡ Ok x → r ≡ Ok x
placed_ok end (Ok y) x e = e
placed_ok end (Err f) x e = absurd cc

-- a piece of units, and the pieces behind it
piece_tells : (b : Between) (at : ℕ) (ws : Units) (ps : List (List ℕ)) → AreUnits ws → KnownAt b.state ws → open_count b.state.picture ≡ 0 → IsOne (picture_units ws) ps
    → ((next : Between) → IsKnown next.state → open_count next.state.picture ≡ 0 → TellInTurn next (at + length (joined ws)) ps) → TellInTurn b at (joined ws ∷ ps)
piece_tells b at ws ps h k none one rest es next e =
    let end = at + length (joined ws) in
    let r : units_read b ws ≡ Ok (es, next) = placed_ok end (units_read b ws) (es, next) (sym (piece_units b end ws h) ∙ e) in
    let t = subst (Told b ws) r (pictures_told b ws k) in
    let count : picture_units ws ≡ length (pictures_in es) = let x = t.0 in omega (arith, x, none) in
    (subst (λ (n : ℕ). IsOne n ps) count one, rest next t.2 t.1)

is_one : (n : ℕ) (ps : List (List ℕ)) → n ≡ 1 → IsOne n ps
is_one n [] e = omega arith
is_one n (p ∷ ps) e = e

-- ---- units in groups

-- the pieces tell so, with some units of the piece at hand and others behind them
abbrev Tells : Units → Type 0
Tells us = (phase : Phase) (b : Between) (at : ℕ) (v : List ℕ) (vs : Units) → IsOpen phase → picture_units (v ∷ vs) ≡ in_phase phase → NoEnds (v ∷ vs) → KnownBy b.state v → open_count b.state.picture ≡ 0
    → AreUnits (v ∷ (vs ++ us)) → TellInTurn b at (grouped phase (joined (v ∷ vs)) us)

-- the piece at hand goes on with a unit
tells_on : (phase : Phase) (b : Between) (at : ℕ) (v : List ℕ) (vs us : Units) (u : List ℕ) → Tells us → IsOpen phase → is_end (value_of u) ≡ false → picture_units (v ∷ vs) + own_count (value_of u) ≡ in_phase phase → NoEnds (v ∷ vs) → KnownBy b.state v → open_count b.state.picture ≡ 0
    → AreUnits (v ∷ (vs ++ u ∷ us)) → TellInTurn b at (grouped phase (joined (v ∷ vs) ++ u) us)
tells_on phase b at v vs us u ih o off c n k none h =
    let ws = vs ++ u ∷ [] in
    let e : vs ++ u ∷ us ≡ ws ++ us = sym (append_assoc vs (u ∷ []) us) in
    let bytes : joined (v ∷ ws) ≡ joined (v ∷ vs) ++ u = joined-append (v ∷ vs) (u ∷ []) ∙ ap (λ (l : List ℕ). joined (v ∷ vs) ++ l) (append-nil u) in
    subst (λ (l : List ℕ). TellInTurn b at (grouped phase l us)) bytes
    (ih phase b at v ws o (one_more (v ∷ vs) u n off ∙ c) (no_ends-append (v ∷ vs) (u ∷ []) n (off, tt)) k none (subst (λ (l : Units). AreUnits (v ∷ l)) e h))

-- the sequence end code behind headers
tells_code : (b : Between) (at : ℕ) (v : List ℕ) (vs us : Units) (u : List ℕ) → is_end (value_of u) ≡ true → picture_units (v ∷ vs) ≤ 1 → NoEnds (v ∷ vs) → KnownBy b.state v → open_count b.state.picture ≡ 0
    → AreUnits (v ∷ (vs ++ u ∷ us)) → TellInTurn b at ((joined (v ∷ vs) ++ take 4 u) ∷ [])
tells_code b at v vs us u on c n k none h =
    let code = take 4 u in
    let ws = vs ++ code ∷ [] in
    let bytes : joined (v ∷ ws) ≡ joined (v ∷ vs) ++ code = joined-append (v ∷ vs) (code ∷ []) ∙ ap (λ (l : List ℕ). joined (v ∷ vs) ++ l) (append-nil code) in
    let m = units_more (v ∷ vs) (code ∷ []) n in
    let z = end_is code [] (ap is_end (value_code u) ∙ on) in
    subst (λ (l : List ℕ). TellInTurn b at (l ∷ [])) bytes
    (piece_tells b at (v ∷ ws) [] (are_code (v ∷ vs) us u h) k none (omega (arith, m, z, c)) (λ next known still. tt))

headers_tell : (e : Bool) (b : Between) (at : ℕ) (v : List ℕ) (vs us : Units) (u : List ℕ) → is_end (value_of u) ≡ e → Tells us → picture_units (v ∷ vs) ≡ 0 → NoEnds (v ∷ vs) → KnownBy b.state v → open_count b.state.picture ≡ 0
    → AreUnits (v ∷ (vs ++ u ∷ us)) → TellInTurn b at (if e then (joined (v ∷ vs) ++ take 4 u) ∷ [] else grouped (phase_after Headers (value_of u)) (joined (v ∷ vs) ++ u) us)
headers_tell true b at v vs us u is ih c n k none h = tells_code b at v vs us u is (omega arith) n k none h
headers_tell false b at v vs us u is ih c n k none h =
    let p = phase_count (value_of u) in
    tells_on (phase_after Headers (value_of u)) b at v vs us u ih (open_after (value_of u)) is (omega (arith, c, p)) n k none h

picture_tells : (e f : Bool) (b : Between) (at : ℕ) (v : List ℕ) (vs us : Units) (u : List ℕ) → is_end (value_of u) ≡ e → begins_piece (value_of u) ≡ f → Tells us → picture_units (v ∷ vs) ≡ 1 → NoEnds (v ∷ vs) → KnownBy b.state v → open_count b.state.picture ≡ 0
    → AreUnits (v ∷ (vs ++ u ∷ us))
    → TellInTurn b at (if e then joined (v ∷ vs) ∷ take 4 u ∷ [] else if f then joined (v ∷ vs) ∷ grouped (phase_after Headers (value_of u)) u us else grouped Picture (joined (v ∷ vs) ++ u) us)
picture_tells true f b at v vs us u is begins ih c n k none h =
    let code = take 4 u in
    let own = are_behind (v ∷ vs) (code ∷ []) (are_code (v ∷ vs) us u h) in
    let on : is_end (value_of code) ≡ true = ap is_end (value_code u) ∙ is in
    let z = end_is code [] on in
    piece_tells b at (v ∷ vs) (code ∷ []) (are_before (v ∷ vs) (u ∷ us) h) k none c (λ next known still.
    subst (λ (l : List ℕ). TellInTurn next (at + length (joined (v ∷ vs))) (l ∷ [])) (append-nil code)
    (piece_tells next (at + length (joined (v ∷ vs))) (code ∷ []) [] own (known_at next.state (code ∷ []) known) still (omega (arith, z)) (λ last k2 s2. tt)))
picture_tells false true b at v vs us u is begins ih c n k none h =
    let phase = phase_after Headers (value_of u) in
    let to = at + length (joined (v ∷ vs)) in
    let first : picture_units (u ∷ []) ≡ in_phase phase = alone u is ∙ sym (phase_count (value_of u)) in
    piece_tells b at (v ∷ vs) (grouped phase u us) (are_before (v ∷ vs) (u ∷ us) h) k none (is_one _ (grouped phase u us) c) (λ next known still.
    subst (λ (l : List ℕ). TellInTurn next to (grouped phase l us)) (append-nil u)
    (ih phase next to u [] (open_after (value_of u)) first (is, tt) (known_at next.state (u ∷ []) known) still (are_behind (v ∷ vs) (u ∷ us) h)))
picture_tells false false b at v vs us u is begins ih c n k none h =
    let z = goes_on (value_of u) begins in
    tells_on Picture b at v vs us u ih tt is (omega (arith, c, z)) n k none h

last_tells : (b : Between) (at : ℕ) (v : List ℕ) (vs : Units) → picture_units (v ∷ vs) ≤ 1 → KnownBy b.state v → open_count b.state.picture ≡ 0 → AreUnits (v ∷ (vs ++ [])) → TellInTurn b at (piece_of (joined (v ∷ vs)))
last_tells b at v vs c k none h =
    let a = are_before (v ∷ vs) [] h in
    subst (TellInTurn b at) (sym (piece_whole v vs a)) (piece_tells b at (v ∷ vs) [] a k none c (λ next known still. tt))

grouped_tell : (us : Units) → Tells us
unfolding grouped
grouped_tell us Before b at v vs o c n k none h = absurd o
grouped_tell [] Headers b at v vs o c n k none h = last_tells b at v vs (omega arith) k none h
grouped_tell [] Picture b at v vs o c n k none h = last_tells b at v vs (omega arith) k none h
grouped_tell (u ∷ us) Headers b at v vs o c n k none h = headers_tell _ b at v vs us u refl (grouped_tell us) c n k none h
grouped_tell (u ∷ us) Picture b at v vs o c n k none h = picture_tells _ _ b at v vs us u refl refl (grouped_tell us) c n k none h

-- ---- texts

first_tells : (e : Bool) (us : Units) (u : List ℕ) (at : ℕ) → nat_eq (value_of u) 0xB3 ≡ e → TellInTurn at_start at (grouped Before [] us) → AreUnits (u ∷ us)
    → TellInTurn at_start at (if e then grouped Headers u us else grouped Before [] us)
first_tells true us u at is ih h =
    let off = sequence_goes (value_of u) is in
    let none : own_count (value_of u) ≡ 0 = ap own_count (eqb-true (value_of u) 0xB3 is) in
    let first = alone u off ∙ none in
    subst (λ (l : List ℕ). TellInTurn at_start at (grouped Headers l us)) (append-nil u)
    (grouped_tell us Headers at_start at u [] tt first (off, tt) is refl h)
first_tells false us u at is ih h = ih

all_tell : (us : Units) (at : ℕ) → AreUnits us → TellInTurn at_start at (grouped Before [] us)
unfolding grouped
all_tell [] at h = tt
all_tell (u ∷ us) at h = first_tells _ us u at refl (all_tell us at h.3) h

pub pictures_in_turn : (text : List ℕ) → TellsPictures text
pictures_in_turn text = all_tell (cut 0 text).1 (length (before_pieces text)) (cut_cuts text).are_units

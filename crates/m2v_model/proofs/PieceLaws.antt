-- Reading a text piece by piece is reading it whole.
use Rattle.std.proofs.Common.{◌≡◌, ℕ, ◌+◌, ◌-◌, ◌*◌, Bool, true, false, cond, List, [], ◌∷◌, ◌++◌, length, take, Result, Ok, Err, inl, inr, refl, sym, ap, subst, ◌∙◌, append_assoc, arith}
use Rattle.std.specs.Prelude.{nat_eq, if◌then◌else◌}
use Rattle.std.proofs.lemmas.Bool.{cases_Bool, eqb-true}
use Rattle.std.proofs.lemmas.List.{append-nil, length-append}
use Rattle.m2v_bits.specs.Syntax.{bind, seq, rule, done, choose}
use Rattle.m2v_bits.proofs.SyntaxLaws.{good, bad, good_is}
use Rattle.m2v_model.specs.declared.fault.FaultKind.{FaultKind}
use Rattle.m2v_model.specs.declared.fault.FaultKind.TheVariants.{MissingMacroblocks, FieldPair}
use Rattle.m2v_model.specs.declared.phase.Phase.{Phase}
use Rattle.m2v_model.specs.declared.phase.Phase.TheVariants.{Before, Headers, Picture}
use Rattle.m2v_model.specs.Units.{Units, cut, joined, unit_bits, AreUnits}
use Rattle.m2v_model.specs.States.{at_first, is_complete, none_waits}
use Rattle.m2v_model.specs.Streams.{Sofar, value_of, after, known_unit, units_from, stream_from, stream_at}
use Rattle.m2v_model.specs.Pictures.{Events}
use Rattle.m2v_model.specs.Pieces.{phase_after, begins_piece, is_end, piece_of, grouped, pieces, before_sequence, before_pieces}
use Rattle.m2v_model.specs.Decoding.{FaultAt}
use Rattle.m2v_model.specs.ByPieces.{Between, at_start, Course, read_of, unit_read, course_of, units_read, told, piece_read, behind, continued, pieces_read, end_of, text_ended, end_read, text_read, IsRead, ByPieces}
use Rattle.m2v_model.proofs.CutLaws.{cut_cuts, joined_bits, joined-append, are_before, are_behind, are_code, cut_units}
use Rattle.m2v_model.proofs.StreamLaws.{stream_lawful}
use Rattle.m2v_model.proofs.Unique.{bad_is}
use Rattle.m2v_model.proofs.FlowLaws.{read_once}
use Rattle.m2v_model.proofs.ShiftLaws.{BeginsPiece, NoEnds}
use Rattle.m2v_model.proofs.SplitLaws.{behind_none, behind_twice, IsKnown, KnownBy, KnownAt, IsKnownBehind, known_at, split, splits, rested, closed_of, closing, over_seen, end_seen}

-- ---- one after another

continued_behind : (ps : Events) (r : Course) (f : Between → Course) → continued (behind ps r) f ≡ behind ps (continued r f)
unfolding continued
continued_behind ps (Ok x) f = behind_twice ps x.0 (f x.1)
continued_behind ps (Err e) f = refl

pub continued_twice : (r : Course) (f g : Between → Course) → continued (continued r f) g ≡ continued r (λ st. continued (f st) g)
unfolding continued
continued_twice (Ok x) f g = continued_behind x.0 (f x.1) g
continued_twice (Err e) f g = refl

continued_same : (r : Course) (f g : Between → Course) → IsKnownBehind r → ((st : Between) → IsKnown st.state → f st ≡ g st) → continued r f ≡ continued r g
unfolding continued
continued_same (Ok x) f g k h = ap (behind x.0) (h x.1 k)
continued_same (Err e) f g k h = refl

continued_all : (r : Course) (f g : Between → Course) → ((st : Between) → f st ≡ g st) → continued r f ≡ continued r g
unfolding continued
continued_all (Ok x) f g h = ap (behind x.0) (h x.1)
continued_all (Err e) f g h = refl

continued_steps : (r : Course) (f : Between → Course) (g : Between → Between → Course) (h : Between → Course) → ((st : Between) → h st ≡ continued (f st) (g st)) → continued r h ≡ continued r (λ st. continued (f st) (g st))
unfolding continued
continued_steps (Ok x) f g h e = ap (behind x.0) (e x.1)
continued_steps (Err e) f g h q = refl

pub pieces_read-append : (ps qs : List (List ℕ)) (st : Between) (at : ℕ) → pieces_read st at (ps ++ qs) ≡ continued (pieces_read st at ps) (λ next. pieces_read next (end_of at ps) qs)
unfolding pieces_read end_of continued
pieces_read-append [] qs st at = sym (behind_none _)
pieces_read-append (p ∷ ps) qs st at =
    let to = at + length p in
    let r = piece_read st to p in
    continued_steps r (λ next. pieces_read next to ps) (λ next last. pieces_read last (end_of to ps) qs) (λ next. pieces_read next to (ps ++ qs)) (λ next. pieces_read-append ps qs next to)
    ∙ sym (continued_twice r (λ next. pieces_read next to ps) (λ last. pieces_read last (end_of to ps) qs))

-- pieces, and then the end of the text
abbrev pub rest_read : Between → ℕ → List (List ℕ) → Course
rest_read st at ps = continued (pieces_read st at ps) (λ last. end_read last (end_of at ps))

pub rest_none : (st : Between) (at : ℕ) → rest_read st at [] ≡ end_read st at
unfolding pieces_read end_of continued
rest_none st at = behind_none _

pub rest_more : (st : Between) (at : ℕ) (p : List ℕ) (ps : List (List ℕ)) → rest_read st at (p ∷ ps) ≡ continued (piece_read st (at + length p) p) (λ next. rest_read next (at + length p) ps)
unfolding pieces_read end_of
rest_more st at p ps =
    let to = at + length p in
    continued_twice (piece_read st to p) (λ next. pieces_read next to ps) (λ last. end_read last (end_of to ps))

pub end_of-append : (ps qs : List (List ℕ)) (at : ℕ) → end_of at (ps ++ qs) ≡ end_of (end_of at ps) qs
unfolding end_of
end_of-append [] qs at = refl
end_of-append (p ∷ ps) qs at = end_of-append ps qs (at + length p)

pub rest_read-append : (ps qs : List (List ℕ)) (st : Between) (at : ℕ) → rest_read st at (ps ++ qs) ≡ continued (pieces_read st at ps) (λ next. rest_read next (end_of at ps) qs)
rest_read-append ps qs st at =
    let f = λ (last : Between). end_read last (end_of at (ps ++ qs)) in
    ap (λ (r : Course). continued r f) (pieces_read-append ps qs st at)
    ∙ continued_twice (pieces_read st at ps) (λ next. pieces_read next (end_of at ps) qs) f
    ∙ ap (λ (n : ℕ). continued (pieces_read st at ps) (λ next. continued (pieces_read next (end_of at ps) qs) (λ last. end_read last n))) (end_of-append ps qs at)

-- ---- the end of the text

ended_cond : (c : Bool) (end : ℕ) (es : Events) (x : Events × Between) → cond c (Ok (es ++ x.0, x.1)) (Err (FieldPair, 8 * end)) ≡ behind es (cond c (Ok x) (Err (FieldPair, 8 * end)))
ended_cond true end es x = refl
ended_cond false end es x = refl

ended_behind : (end : ℕ) (es : Events) (r : Course) → text_ended end (behind es r) ≡ behind es (text_ended end r)
ended_behind end es (Ok x) = ended_cond (none_waits (x.1).state.waiting) end es x
ended_behind end es (Err f) = refl

ended_continued : (end : ℕ) (r : Course) (f : Between → Course) → text_ended end (continued r f) ≡ continued r (λ st. text_ended end (f st))
unfolding continued
ended_continued end (Ok x) f = ended_behind end x.0 (f x.1)
ended_continued end (Err e) f = refl

-- ---- places

-- what is read, with its fault's place in a text that ends at a byte
abbrev pub placed : ℕ → Course → Course
placed end (Ok x) = Ok x
placed end (Err f) = Err (f.0, 8 * end - f.1)

told_is : (st : Between) (end : ℕ) (r : Result (Sofar × Units) (FaultKind × ℕ)) → told st end r ≡ placed end (course_of st r)
unfolding told
told_is st end (Ok x) = refl
told_is st end (Err f) = refl

-- a piece, as what is read of its units
pub piece_is : (st : Between) (end : ℕ) (piece : List ℕ) → piece_read st end piece ≡ placed end (units_read st (cut 0 piece).1)
unfolding piece_read units_read
piece_is st end piece = told_is st end _

-- a piece of units
pub piece_units : (st : Between) (end : ℕ) (us : Units) → AreUnits us → piece_read st end (joined us) ≡ placed end (units_read st us)
piece_units st end us h = piece_is st end (joined us) ∙ ap (λ (vs : Units). placed end (units_read st vs)) (cut_units us h)

pub piece_none : (st : Between) (end : ℕ) → piece_read st end [] ≡ placed end (units_read st [])
piece_none st end = piece_units st end [] tt

placed_behind : (end : ℕ) (ps : Events) (r : Course) → placed end (behind ps r) ≡ behind ps (placed end r)
placed_behind end ps (Ok x) = refl
placed_behind end ps (Err f) = refl

placed_known : (end : ℕ) (r : Course) → IsKnownBehind r → IsKnownBehind (placed end r)
placed_known end (Ok x) k = k
placed_known end (Err f) k = tt

placed_split : (at : ℕ) (vs : Units) (r : Course) → placed (at + length (joined vs)) (split vs r) ≡ continued (placed at r) (λ st. placed (at + length (joined vs)) (units_read st vs))
unfolding continued
placed_split at vs (Ok x) = placed_behind (at + length (joined vs)) x.0 (units_read x.1 vs)
placed_split at vs (Err f) =
    let e : 8 * (at + length (joined vs)) - (f.1 + unit_bits vs) ≡ 8 * at - f.1 = omega (arith, joined_bits vs) in
    ap (λ (n : ℕ). bad {T = Between} {V = Events} (f.0, n)) e

-- ---- a piece, and what stands behind it

-- a piece's units, and units behind them of which the first begins a piece
piece_split : (st : Between) (at : ℕ) (us vs : Units) → BeginsPiece vs → NoEnds us → KnownAt st.state us → AreUnits (us ++ vs)
    → placed (at + length (joined (us ++ vs))) (units_read st (us ++ vs)) ≡ continued (piece_read st (at + length (joined us)) (joined us)) (λ next. placed (at + length (joined us) + length (joined vs)) (units_read next vs))
piece_split st at us vs b n k h =
    let to = at + length (joined us) in
    let e : at + length (joined (us ++ vs)) ≡ to + length (joined vs) = omega (arith, ap length (joined-append us vs), length-append (joined us) (joined vs)) in
    let f = λ (next : Between). placed (to + length (joined vs)) (units_read next vs) in
    ap (λ (n : ℕ). placed n (units_read st (us ++ vs))) e
    ∙ ap (placed (to + length (joined vs))) (splits st us vs b n k).is
    ∙ placed_split to vs (units_read st us)
    ∙ ap (λ (r : Course). continued r f) (sym (piece_units st to us (are_before us vs h)))

-- what is read, with its fault's place in a text that ends at a byte, and that end
abbrev pub finished : ℕ → Course → Course
finished end r = text_ended end (placed end r)

finished_split : (st : Between) (at : ℕ) (us vs : Units) → BeginsPiece vs → NoEnds us → KnownAt st.state us → AreUnits (us ++ vs)
    → finished (at + length (joined (us ++ vs))) (units_read st (us ++ vs)) ≡ continued (piece_read st (at + length (joined us)) (joined us)) (λ next. finished (at + length (joined us) + length (joined vs)) (units_read next vs))
finished_split st at us vs b n k h =
    let to = at + length (joined us) in
    let end = at + length (joined (us ++ vs)) in
    let r = piece_read st to (joined us) in
    let e : end ≡ to + length (joined vs) = omega (arith, ap length (joined-append us vs), length-append (joined us) (joined vs)) in
    ap (text_ended end) (piece_split st at us vs b n k h)
    ∙ ended_continued end r (λ next. placed (to + length (joined vs)) (units_read next vs))
    ∙ ap (λ (m : ℕ). continued r (λ next. text_ended m (placed (to + length (joined vs)) (units_read next vs)))) e

-- what is read of a piece's units leaves a sequence header in force
piece_known : (st : Between) (end : ℕ) (us : Units) → NoEnds us → KnownAt st.state us → AreUnits us → IsKnownBehind (piece_read st end (joined us))
piece_known st end us n k h = subst IsKnownBehind (sym (piece_units st end us h)) (placed_known end (units_read st us) (splits st us [] tt n k).known)

-- the next piece
next_piece : (st : Between) (at : ℕ) (us vs : Units) (ps : List (List ℕ)) → BeginsPiece vs → NoEnds us → KnownAt st.state us → AreUnits (us ++ vs)
    → ((next : Between) → IsKnown next.state → finished (at + length (joined us) + length (joined vs)) (units_read next vs) ≡ rest_read next (at + length (joined us)) ps)
    → finished (at + length (joined (us ++ vs))) (units_read st (us ++ vs)) ≡ rest_read st at (joined us ∷ ps)
next_piece st at us vs ps b n k h e =
    let to = at + length (joined us) in
    finished_split st at us vs b n k h
    ∙ continued_same (piece_read st to (joined us)) (λ next. finished (to + length (joined vs)) (units_read next vs)) (λ next. rest_read next to ps) (piece_known st to us n k (are_before us vs h)) e
    ∙ sym (rest_more st at (joined us) ps)

-- the last piece
last_piece : (st : Between) (at : ℕ) (us : Units) → NoEnds us → KnownAt st.state us → AreUnits (us ++ []) → finished (at + length (joined (us ++ []))) (units_read st (us ++ [])) ≡ rest_read st at (joined us ∷ [])
last_piece st at us n k h =
    next_piece st at us [] [] tt n k h (λ next known.
    let to = at + length (joined us) in
    let e : to + 0 ≡ to = omega arith in
    ap (λ (m : ℕ). finished m (units_read next [])) e ∙ sym (rest_none next to ∙ ap (text_ended to) (piece_none next to)))

-- ---- the sequence end code

ends_piece : (value : ℕ) → is_end value ≡ true → begins_piece value ≡ true
unfolding is_end begins_piece
ends_piece value on = let e = eqb-true value 0xB7 on in rw e refl

-- the end code alone, with bytes behind it or not: the picture that is open ends, and no second field is due
abbrev coded_by : Bool → Bool → Between → ℕ → Course
coded_by c d st left = cond c (behind (closed_of st) (cond d (Ok ([], rested st)) (Err (FieldPair, left)))) (Err (MissingMacroblocks, left))

abbrev coded : Between → ℕ → Course
coded st at = coded_by (is_complete st.state.sequence st.state.picture) (none_waits st.state.waiting) st (8 * at)

placed_coded : (c d : Bool) (st : Between) (at : ℕ) (us : Units) → placed (at + length (joined us)) (coded_by c d st (unit_bits us)) ≡ coded_by c d st (8 * at)
placed_coded true true st at us = refl
placed_coded true false st at us =
    let e : 8 * (at + length (joined us)) - unit_bits us ≡ 8 * at = omega (arith, joined_bits us) in
    ap (λ (n : ℕ). bad {T = Between} {V = Events} (FieldPair, n)) e
placed_coded false d st at us =
    let e : 8 * (at + length (joined us)) - unit_bits us ≡ 8 * at = omega (arith, joined_bits us) in
    ap (λ (n : ℕ). bad {T = Between} {V = Events} (MissingMacroblocks, n)) e

end_is : (st : Between) (u : List ℕ) (us : Units) → is_end (value_of u) ≡ true → IsKnown st.state
    → units_read st (u ∷ us) ≡ coded_by (is_complete st.state.sequence st.state.picture) (none_waits st.state.waiting) st (unit_bits (u ∷ us))
end_is st u us on k =
    let c = is_complete st.state.sequence st.state.picture in
    closing st (u ∷ us) (ends_piece (value_of u) on) k ∙ ap (λ (r : Course). cond c (behind (closed_of st) r) (Err (MissingMacroblocks, unit_bits (u ∷ us)))) (end_seen st u us on k)

end_placed : (st : Between) (at : ℕ) (u : List ℕ) (us : Units) → is_end (value_of u) ≡ true → IsKnown st.state → placed (at + length (joined (u ∷ us))) (units_read st (u ∷ us)) ≡ coded st at
end_placed st at u us on k =
    ap (placed (at + length (joined (u ∷ us)))) (end_is st u us on k)
    ∙ placed_coded (is_complete st.state.sequence st.state.picture) (none_waits st.state.waiting) st at (u ∷ us)

ended_coded : (c d : Bool) (st : Between) (at end : ℕ) → none_waits st.state.waiting ≡ d → text_ended end (coded_by c d st (8 * at)) ≡ coded_by c d st (8 * at)
ended_coded true true st at end e = rw e refl
ended_coded true false st at end e = refl
ended_coded false d st at end e = refl

-- nothing is read behind it
coded_rest : (c d : Bool) (st : Between) (at to : ℕ) → IsKnown st.state → none_waits st.state.waiting ≡ d → continued (coded_by c d st (8 * at)) (λ last. rest_read last to []) ≡ coded_by c d st (8 * at)
unfolding continued
coded_rest true true st at to k e =
    let es = closed_of st in
    let none : rest_read (rested st) to [] ≡ Ok ([], rested st) = rest_none (rested st) to ∙ ap (text_ended to) (piece_none (rested st) to ∙ ap (placed to) (over_seen st k)) ∙ rw e refl in
    ap (behind (es ++ [])) none ∙ ap (λ (l : Events). Ok (l, rested st)) (append-nil (es ++ []))
coded_rest true false st at to k e = refl
coded_rest false d st at to k e = refl

-- the bytes of an end code as a piece of its own
end_piece : (st : Between) (at : ℕ) (u : List ℕ) → is_end (value_of u) ≡ true → IsKnown st.state → AreUnits (u ∷ []) → rest_read st at (joined (u ∷ []) ∷ []) ≡ coded st at
end_piece st at u on k h =
    let to = at + length (joined (u ∷ [])) in
    rest_more st at (joined (u ∷ [])) []
    ∙ ap (λ (r : Course). continued r (λ last. rest_read last to [])) (piece_units st to (u ∷ []) h ∙ end_placed st at u [] on k)
    ∙ coded_rest (is_complete st.state.sequence st.state.picture) (none_waits st.state.waiting) st at to k refl

pub value_code : (u : List ℕ) → value_of (take 4 u) ≡ value_of u
value_code [] = refl
value_code (a ∷ []) = refl
value_code (a ∷ b ∷ []) = refl
value_code (a ∷ b ∷ c ∷ []) = refl
value_code (a ∷ b ∷ c ∷ v ∷ w) = refl

joined_one : (u : List ℕ) → joined (u ∷ []) ≡ u
joined_one u = append-nil u

-- a piece and an end code behind it
abbrev piece_ended : Between → ℕ → Units → Course
piece_ended st at us = continued (piece_read st (at + length (joined us)) (joined us)) (λ next. coded next (at + length (joined us)))

ended_pieces : (st : Between) (at end : ℕ) (us : Units) → text_ended end (piece_ended st at us) ≡ piece_ended st at us
ended_pieces st at end us =
    let to = at + length (joined us) in
    let r = piece_read st to (joined us) in
    ended_continued end r (λ next. coded next to)
    ∙ continued_all r (λ next. text_ended end (coded next to)) (λ next. coded next to) (λ next. ended_coded (is_complete next.state.sequence next.state.picture) (none_waits next.state.waiting) next to end refl)

whole_ended : (st : Between) (at : ℕ) (us vs : Units) (u : List ℕ) → is_end (value_of u) ≡ true → NoEnds us → KnownAt st.state us → AreUnits (us ++ u ∷ vs)
    → placed (at + length (joined (us ++ u ∷ vs))) (units_read st (us ++ u ∷ vs)) ≡ piece_ended st at us
whole_ended st at us vs u on n k h =
    let to = at + length (joined us) in
    piece_split st at us (u ∷ vs) (ends_piece (value_of u) on) n k h
    ∙ continued_same (piece_read st to (joined us)) (λ next. placed (to + length (joined (u ∷ vs))) (units_read next (u ∷ vs))) (λ next. coded next to) (piece_known st to us n k (are_before us (u ∷ vs) h)) (λ next known. end_placed next to u vs on known)

all_ended : (st : Between) (at : ℕ) (us vs : Units) (u : List ℕ) → is_end (value_of u) ≡ true → NoEnds us → KnownAt st.state us → AreUnits (us ++ u ∷ vs)
    → finished (at + length (joined (us ++ u ∷ vs))) (units_read st (us ++ u ∷ vs)) ≡ piece_ended st at us
all_ended st at us vs u on n k h =
    let end = at + length (joined (us ++ u ∷ vs)) in
    ap (text_ended end) (whole_ended st at us vs u on n k h) ∙ ended_pieces st at end us

-- the end code is a piece of its own
end_apart : (st : Between) (at : ℕ) (us : Units) (code : List ℕ) → is_end (value_of code) ≡ true → NoEnds us → KnownAt st.state us → AreUnits (us ++ code ∷ []) → rest_read st at (joined us ∷ code ∷ []) ≡ piece_ended st at us
end_apart st at us code on n k h =
    let to = at + length (joined us) in
    let one : AreUnits (code ∷ []) = are_behind us (code ∷ []) h in
    rest_more st at (joined us) (code ∷ [])
    ∙ continued_same (piece_read st to (joined us)) (λ next. rest_read next to (code ∷ [])) (λ next. coded next to) (piece_known st to us n k (are_before us (code ∷ []) h))
    (λ next known. ap (λ (p : List ℕ). rest_read next to (p ∷ [])) (sym (append-nil code)) ∙ end_piece next to code on known one)

-- the end code ends the piece itself
end_within : (st : Between) (at : ℕ) (us : Units) (code : List ℕ) → is_end (value_of code) ≡ true → NoEnds us → KnownAt st.state us → AreUnits (us ++ code ∷ []) → rest_read st at ((joined us ++ code) ∷ []) ≡ piece_ended st at us
end_within st at us code on n k h =
    let to = at + length (joined us) in
    let ws = us ++ code ∷ [] in
    let end = at + length (joined ws) in
    let e : joined us ++ code ≡ joined ws = ap (λ (l : List ℕ). joined us ++ l) (sym (append-nil code)) ∙ sym (joined-append us (code ∷ [])) in
    ap (λ (p : List ℕ). rest_read st at (p ∷ [])) e
    ∙ rest_more st at (joined ws) []
    ∙ ap (λ (r : Course). continued r (λ last. rest_read last end [])) (piece_units st end ws h ∙ whole_ended st at us [] code on n k h)
    ∙ continued_twice (piece_read st to (joined us)) (λ next. coded next to) (λ last. rest_read last end [])
    ∙ continued_same (piece_read st to (joined us)) (λ next. continued (coded next to) (λ last. rest_read last end [])) (λ next. coded next to) (piece_known st to us n k (are_before us (code ∷ []) h))
    (λ next known. coded_rest (is_complete next.state.sequence next.state.picture) (none_waits next.state.waiting) next to end known refl)

-- ---- units in groups

-- a piece is at hand
abbrev pub IsOpen : Phase → Type 0
IsOpen Before = ⊥
IsOpen Headers = Unit {0}
IsOpen Picture = Unit {0}

pub open_after : (value : ℕ) → IsOpen (phase_after Headers value)
unfolding phase_after
open_after value = elim (cases_Bool (nat_eq value 0x00)) [ inl on ↦ rw on tt | inr off ↦ rw off tt ]

pub no_ends-append : (us vs : Units) → NoEnds us → NoEnds vs → NoEnds (us ++ vs)
no_ends-append [] vs n m = m
no_ends-append (u ∷ us) vs n m = (n.0, no_ends-append us vs n.1 m)

-- reading is as the pieces say, with some units of the piece at hand and others behind them
abbrev Grouped : Units → Type 0
Grouped us = (phase : Phase) (st : Between) (at : ℕ) (v : List ℕ) (vs : Units) → IsOpen phase → NoEnds (v ∷ vs) → KnownBy st.state v → AreUnits (v ∷ (vs ++ us))
    → finished (at + length (joined (v ∷ (vs ++ us)))) (units_read st (v ∷ (vs ++ us))) ≡ rest_read st at (grouped phase (joined (v ∷ vs)) us)

-- the piece at hand goes on with a unit
piece_goes : (phase : Phase) (st : Between) (at : ℕ) (v : List ℕ) (vs us : Units) (u : List ℕ) → Grouped us → IsOpen phase → is_end (value_of u) ≡ false → NoEnds (v ∷ vs) → KnownBy st.state v → AreUnits (v ∷ (vs ++ u ∷ us))
    → finished (at + length (joined (v ∷ (vs ++ u ∷ us)))) (units_read st (v ∷ (vs ++ u ∷ us))) ≡ rest_read st at (grouped phase (joined (v ∷ vs) ++ u) us)
piece_goes phase st at v vs us u ih o off n k h =
    let ws = vs ++ u ∷ [] in
    let e : vs ++ u ∷ us ≡ ws ++ us = sym (append_assoc vs (u ∷ []) us) in
    let bytes : joined (v ∷ ws) ≡ joined (v ∷ vs) ++ u = joined-append (v ∷ vs) (u ∷ []) ∙ ap (λ (l : List ℕ). joined (v ∷ vs) ++ l) (append-nil u) in
    ap (λ (l : Units). finished (at + length (joined (v ∷ l))) (units_read st (v ∷ l))) e
    ∙ ih phase st at v ws o (no_ends-append (v ∷ vs) (u ∷ []) n (off, tt)) k (subst (λ (l : Units). AreUnits (v ∷ l)) e h)
    ∙ ap (λ (l : List ℕ). rest_read st at (grouped phase l us)) bytes

headers_go : (b : Bool) (st : Between) (at : ℕ) (v : List ℕ) (vs us : Units) (u : List ℕ) → is_end (value_of u) ≡ b → Grouped us → NoEnds (v ∷ vs) → KnownBy st.state v → AreUnits (v ∷ (vs ++ u ∷ us))
    → finished (at + length (joined (v ∷ (vs ++ u ∷ us)))) (units_read st (v ∷ (vs ++ u ∷ us)))
    ≡ rest_read st at (if b then (joined (v ∷ vs) ++ take 4 u) ∷ [] else grouped (phase_after Headers (value_of u)) (joined (v ∷ vs) ++ u) us)
headers_go true st at v vs us u is ih n k h =
    all_ended st at (v ∷ vs) us u is n k h ∙ sym (end_within st at (v ∷ vs) (take 4 u) (ap is_end (value_code u) ∙ is) n k (are_code (v ∷ vs) us u h))
headers_go false st at v vs us u is ih n k h = piece_goes (phase_after Headers (value_of u)) st at v vs us u ih (open_after (value_of u)) is n k h

-- behind a picture a new piece begins
piece_begins : (st : Between) (at : ℕ) (v : List ℕ) (vs us : Units) (u : List ℕ) → Grouped us → begins_piece (value_of u) ≡ true → is_end (value_of u) ≡ false → NoEnds (v ∷ vs) → KnownBy st.state v → AreUnits (v ∷ (vs ++ u ∷ us))
    → finished (at + length (joined (v ∷ (vs ++ u ∷ us)))) (units_read st (v ∷ (vs ++ u ∷ us))) ≡ rest_read st at (joined (v ∷ vs) ∷ grouped (phase_after Headers (value_of u)) u us)
piece_begins st at v vs us u ih on off n k h =
    let to = at + length (joined (v ∷ vs)) in
    let phase = phase_after Headers (value_of u) in
    next_piece st at (v ∷ vs) (u ∷ us) (grouped phase u us) on n k h (λ next known.
    ih phase next to u [] (open_after (value_of u)) (off, tt) (known_at next.state (u ∷ []) known) (are_behind (v ∷ vs) (u ∷ us) h)
    ∙ ap (λ (l : List ℕ). rest_read next to (grouped phase l us)) (append-nil u))

picture_goes : (b c : Bool) (st : Between) (at : ℕ) (v : List ℕ) (vs us : Units) (u : List ℕ) → is_end (value_of u) ≡ b → begins_piece (value_of u) ≡ c → Grouped us → NoEnds (v ∷ vs) → KnownBy st.state v → AreUnits (v ∷ (vs ++ u ∷ us))
    → finished (at + length (joined (v ∷ (vs ++ u ∷ us)))) (units_read st (v ∷ (vs ++ u ∷ us)))
    ≡ rest_read st at (if b then joined (v ∷ vs) ∷ take 4 u ∷ [] else if c then joined (v ∷ vs) ∷ grouped (phase_after Headers (value_of u)) u us else grouped Picture (joined (v ∷ vs) ++ u) us)
picture_goes true c st at v vs us u is begins ih n k h =
    all_ended st at (v ∷ vs) us u is n k h ∙ sym (end_apart st at (v ∷ vs) (take 4 u) (ap is_end (value_code u) ∙ is) n k (are_code (v ∷ vs) us u h))
picture_goes false true st at v vs us u is begins ih n k h = piece_begins st at v vs us u ih begins is n k h
picture_goes false false st at v vs us u is begins ih n k h = piece_goes Picture st at v vs us u ih tt is n k h

pub piece_whole : (v : List ℕ) (us : Units) → AreUnits (v ∷ us) → piece_of (joined (v ∷ us)) ≡ joined (v ∷ us) ∷ []
piece_whole [] us h = absurd (omega (arith, h.0))
piece_whole (b ∷ v) us h = refl

-- the last piece of a text without an end code
piece_last : (st : Between) (at : ℕ) (v : List ℕ) (vs : Units) → NoEnds (v ∷ vs) → KnownBy st.state v → AreUnits (v ∷ (vs ++ []))
    → finished (at + length (joined (v ∷ (vs ++ [])))) (units_read st (v ∷ (vs ++ []))) ≡ rest_read st at (piece_of (joined (v ∷ vs)))
piece_last st at v vs n k h = last_piece st at (v ∷ vs) n k h ∙ ap (rest_read st at) (sym (piece_whole v vs (are_before (v ∷ vs) [] h)))

grouped_read : (us : Units) → Grouped us
unfolding grouped
grouped_read us Before st at v vs o n k h = absurd o
grouped_read [] Headers st at v vs o n k h = piece_last st at v vs n k h
grouped_read [] Picture st at v vs o n k h = piece_last st at v vs n k h
grouped_read (u ∷ us) Headers st at v vs o n k h = headers_go _ st at v vs us u refl (grouped_read us) n k h
grouped_read (u ∷ us) Picture st at v vs o n k h = picture_goes _ _ st at v vs us u refl refl (grouped_read us) n k h

-- ---- texts

-- a unit before the first sequence header changes nothing
skipped_seen : (u : List ℕ) (us : Units) → nat_eq (value_of u) 0xB3 ≡ false → units_read at_start (u ∷ us) ≡ units_read at_start us
unfolding unit_read known_unit choose done bind after
skipped_seen u us off = read_once at_start (u ∷ us) ∙ rw off (behind_none _)

abbrev FirstRead : Units → Type 0
FirstRead us = (at : ℕ) → AreUnits us → finished (at + length (joined us)) (units_read at_start us) ≡ rest_read at_start (at + length (before_sequence us)) (grouped Before [] us)

pub sequence_goes : (value : ℕ) → nat_eq value 0xB3 ≡ true → is_end value ≡ false
unfolding is_end
sequence_goes value on = let e = eqb-true value 0xB3 on in rw e refl

first_goes : (b : Bool) (us : Units) (u : List ℕ) (at : ℕ) → nat_eq (value_of u) 0xB3 ≡ b → FirstRead us → AreUnits (u ∷ us)
    → finished (at + length (joined (u ∷ us))) (units_read at_start (u ∷ us)) ≡ rest_read at_start (at + length (if b then [] else u ++ before_sequence us)) (if b then grouped Headers u us else grouped Before [] us)
first_goes true us u at is ih h =
    let e : at ≡ at + 0 = omega arith in
    grouped_read us Headers at_start at u [] tt (sequence_goes (value_of u) is, tt) is h
    ∙ ap (λ (l : List ℕ). rest_read at_start at (grouped Headers l us)) (append-nil u)
    ∙ ap (λ (n : ℕ). rest_read at_start n (grouped Headers u us)) e
first_goes false us u at is ih h =
    let to : at + length (u ++ joined us) ≡ at + length u + length (joined us) = omega (arith, length-append u (joined us)) in
    let from : at + length u + length (before_sequence us) ≡ at + length (u ++ before_sequence us) = omega (arith, length-append u (before_sequence us)) in
    ap (finished (at + length (u ++ joined us))) (skipped_seen u us is)
    ∙ ap (λ (n : ℕ). finished n (units_read at_start us)) to
    ∙ ih (at + length u) h.3
    ∙ ap (λ (n : ℕ). rest_read at_start n (grouped Before [] us)) from

first_read : (us : Units) → FirstRead us
unfolding grouped before_sequence
first_read [] at h = let e : at + 0 ≡ at = omega arith in rw e (sym (rest_none at_start at ∙ ap (text_ended at) (piece_none at_start at)))
first_read (u ∷ us) at h = first_goes _ us u at refl (first_read us) h

pub text_rest : (text : List ℕ) → text_read text ≡ rest_read at_start (length (before_pieces text)) (pieces text)
unfolding text_read
text_rest text = refl

-- what is read piece by piece is what is read of the whole
pub text_is : (text : List ℕ) → text_read text ≡ finished (length text) (units_read at_start (cut 0 text).1)
unfolding text_read
text_is text =
    let c = cut_cuts text in
    let front = (cut 0 text).0 in
    let us = (cut 0 text).1 in
    let whole : length text ≡ length front + length (joined us) = ap length c.whole ∙ length-append front (joined us) in
    ap (λ (n : ℕ). rest_read at_start n (pieces text)) (length-append front (before_sequence us))
    ∙ sym (first_read us (length front) c.are_units)
    ∙ ap (λ (n : ℕ). finished n (units_read at_start us)) (sym whole)

-- what is read of a whole text, from what is read of its units: at its end no second field is due
abbrev judged : Result (Sofar × Units) (FaultKind × ℕ) → Result (Sofar × Units) (FaultKind × ℕ)
judged (Ok x) = cond (none_waits (x.0).state.waiting) (Ok x) (Err (FieldPair, 0))
judged (Err f) = Err f

judged_by : (c : Bool) (x : Sofar × Units) → bind (cond c (Ok (tt, x.1)) (Err (FieldPair, 0))) (λ (u : Unit {0}) (mid : Units). good {K = FaultKind} (x.0, mid)) ≡ cond c (Ok x) (Err (FieldPair, 0))
unfolding bind
judged_by true x = refl
judged_by false x = refl

judged_is : (r : Result (Sofar × Units) (FaultKind × ℕ)) → bind r (λ s mid. bind (cond (none_waits s.state.waiting) (Ok (tt, mid)) (Err (FieldPair, 0))) (λ (u : Unit {0}) (rest : Units). good {K = FaultKind} (s, rest))) ≡ judged r
unfolding bind
judged_is (Ok x) = judged_by (none_waits (x.0).state.waiting) x
judged_is (Err f) = refl

whole_read : (us : Units) → stream_at.read us ≡ judged ((units_from at_first).read us)
unfolding stream_at stream_from seq rule done
whole_read us = judged_is ((units_from at_first).read us)

stands_by : (text : List ℕ) (es : Events) (b : Between) (x : Sofar × Units) (c : Bool) → stream_at.read (cut 0 text).1 ≡ cond c (Ok x) (Err (FieldPair, 0)) → cond {A = Course} c (Ok (read_of at_start x.0)) (Err (FieldPair, 8 * length text)) ≡ Ok (es, b) → IsRead text es b
stands_by text es b x true at e =
    record {
      tree = x.0;
      stream = record { front = (cut 0 text).0; units = (cut 0 text).1; rest = x.1; cuts = cut_cuts text; stands = stream_lawful.found x.0 _ x.1 at };
      told = sym (good_is {K = FaultKind} _ _ e);
    }
stands_by text es b x false at e = absurd cc

text_stands : (text : List ℕ) (es : Events) (b : Between) (r : Result (Sofar × Units) (FaultKind × ℕ)) → stream_at.read (cut 0 text).1 ≡ judged r → finished (length text) (course_of at_start r) ≡ Ok (es, b) → IsRead text es b
text_stands text es b (Ok x) at e = stands_by text es b x (none_waits (x.0).state.waiting) at e
text_stands text es b (Err f) at e = absurd cc

fault_by : (text : List ℕ) (kind : FaultKind) (place : ℕ) (f : FaultKind × ℕ) → stream_at.read (cut 0 text).1 ≡ bad f → bad {T = Between} {V = Events} (f.0, 8 * length text - f.1) ≡ bad (kind, place) → FaultAt text place kind
fault_by text kind place f at e =
    let same : (f.0, 8 * length text - f.1) ≡ (kind, place) = bad_is {T = Between} {V = Events} _ _ e in
    let kinds : f.0 ≡ kind = ap (λ (y : FaultKind × ℕ). y.0) same in
    record {
      front = (cut 0 text).0;
      units = (cut 0 text).1;
      left = f.1;
      cuts = cut_cuts text;
      broken = subst (λ (k : FaultKind). stream_at.Broken (cut 0 text).1 (k, f.1)) kinds (stream_lawful.first _ f at);
      at = sym (ap (λ (y : FaultKind × ℕ). y.1) same);
    }

broken_by : (text : List ℕ) (kind : FaultKind) (place : ℕ) (x : Sofar × Units) (c : Bool) → stream_at.read (cut 0 text).1 ≡ cond c (Ok x) (Err (FieldPair, 0)) → cond {A = Course} c (Ok (read_of at_start x.0)) (Err (FieldPair, 8 * length text)) ≡ bad {T = Between} {V = Events} (kind, place) → FaultAt text place kind
broken_by text kind place x true at e = absurd cc
broken_by text kind place x false at e =
    let z : 8 * length text - 0 ≡ 8 * length text = omega arith in
    fault_by text kind place (FieldPair, 0) at (ap (λ (n : ℕ). bad {T = Between} {V = Events} (FieldPair, n)) z ∙ e)

text_broken : (text : List ℕ) (kind : FaultKind) (place : ℕ) (r : Result (Sofar × Units) (FaultKind × ℕ)) → stream_at.read (cut 0 text).1 ≡ judged r → finished (length text) (course_of at_start r) ≡ bad {T = Between} {V = Events} (kind, place) → FaultAt text place kind
text_broken text kind place (Ok x) at e = broken_by text kind place x (none_waits (x.0).state.waiting) at e
text_broken text kind place (Err f) at e = fault_by text kind place f at e

-- the law of pieces
pub by_pieces : (text : List ℕ) → ByPieces text
unfolding units_read
by_pieces text = record {
  stands = λ es b e. text_stands text es b _ (whole_read (cut 0 text).1) (sym (text_is text) ∙ e);
  fault = λ kind place e. text_broken text kind place _ (whole_read (cut 0 text).1) (sym (text_is text) ∙ e);
}

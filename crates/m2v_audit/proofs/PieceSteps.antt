-- One step of the report of a text: a piece, its end, or why it stops.
use Rattle.std.proofs.Common.{◌≡◌, ◌⊎◌, inl, inr, ℕ, ◌+◌, ◌<◌, ◌≤◌, Bool, true, false, List, [], ◌∷◌, length, Option, Some, None, Ok, Err, refl, sym, ap, ◌∙◌, arith}
use Rattle.std.specs.Prelude.{nat_lt, nat_le}
use Rattle.std.proofs.lemmas.Bool.{cases_lt, le-ltb, lt-ltb, le-leb}
use Rattle.m2v_model.specs.declared.fault.FaultKind.{FaultKind}
use Rattle.m2v_model.specs.Pictures.{Events}
use Rattle.m2v_model.specs.Pieces.{Limit, too_long, too_large, limit, most_input}
use Rattle.m2v_model.specs.PieceNotes.{PieceNotes, notes_of}
use Rattle.m2v_model.specs.ByPieces.{Between, Course, piece_read, end_read}
use Rattle.m2v_dec_piece.specs.declared.answer.DecodeError.TheVariants as errors
use Rattle.m2v_dec_piece.specs.Cutting.{PieceStops, Passes}
use Rattle.m2v_audit.specs.Auditing.{Auditing, cleared, after_piece}
use Rattle.m2v_audit.specs.Audited.{Audited, Telling, then_comes, begins_another, by_fault_in, by_limit, limit_at, unless_passed, piece_told, end_told, pieces_told}

-- ---- limits

under : (at : ℕ) → at ≤ most_input → nat_lt most_input at ≡ false
under at le = le-ltb _ _ (omega (arith, le))

over : (at : ℕ) → most_input < at → nat_lt most_input at ≡ true
over at lt = lt-ltb _ _ (omega (arith, lt))

fits_at : (at : ℕ) (p : List ℕ) (ps : List (List ℕ)) → at ≤ most_input → limit at 0 p ≡ None → limit_at at (p ∷ ps) ≡ None
unfolding limit_at
fits_at at p ps le fits = rw (under at le) fits

none_at : (at : ℕ) → at ≤ most_input → limit_at at [] ≡ None
unfolding limit_at
none_at at le = rw (under at le) refl

late_at : (at : ℕ) (ps : List (List ℕ)) → most_input < at → limit_at at ps ≡ Some too_long
unfolding limit_at
late_at at [] lt = rw (over at lt) refl
late_at at (p ∷ ps) lt = rw (over at lt) refl

-- a piece that begins behind the limit passes it by its first byte
first_late : (at : ℕ) (p : List ℕ) (l : Limit) → most_input < at → limit at 0 p ≡ Some l → l ≡ too_long
unfolding limit
first_late at [] l lt e = absurd cc
first_late at (b ∷ bs) l lt e =
    let long : nat_le most_input (at + 0) ≡ true = le-leb _ _ (omega (arith, lt)) in
    let is : Some too_long ≡ Some l = rw long at e in
    cc

past_by : (at : ℕ) (p : List ℕ) (ps : List (List ℕ)) (l : Limit) → (most_input < at) ⊎ (at ≤ most_input) → limit at 0 p ≡ Some l → limit_at at (p ∷ ps) ≡ Some l
unfolding limit_at
past_by at p ps l (inr le) e = rw (under at le) e
past_by at p ps l (inl lt) e = late_at at (p ∷ ps) lt ∙ ap Some (sym (first_late at p l lt e))

past_at : (at : ℕ) (ps : List (List ℕ)) (l : Limit) → Passes at l ps → limit_at at ps ≡ Some l
past_at at ps l p = ap (limit_at at) p.are ∙ past_by at p.whole p.others l (cases_lt most_input at) p.decides

pub too_long_at : (at : ℕ) (ps : List (List ℕ)) → PieceStops at ps errors.TooLong → limit_at at ps ≡ Some too_long
too_long_at at ps (inl lt) = late_at at ps lt
too_long_at at ps (inr p) = past_at at ps too_long p

pub too_large_at : (at : ℕ) (ps : List (List ℕ)) → PieceStops at ps errors.PictureTooLarge → limit_at at ps ≡ Some too_large
too_large_at at ps p = past_at at ps too_large p

-- ---- steps

-- the next piece was read
pub piece_step : (x : Telling) (optional : Bool) (a : Auditing) (b b' : Between) (at : ℕ) (p : List ℕ) (ps : List (List ℕ)) (es : Events) (notes : PieceNotes) → at ≤ most_input → limit at 0 p ≡ None
    → piece_read b (at + length p) p ≡ Ok (es, b') → notes ≡ notes_of at p es
    → pieces_told x optional a b at (p ∷ ps) ≡ then_comes (after_piece a at p notes).report.text (pieces_told x false (cleared (after_piece a at p notes)) b' (at + length p) ps)
unfolding pieces_told
piece_step x optional a b b' at p ps es notes le fits read is =
    let go : Option Limit → Course → Audited = λ l c. unless_passed l x a (piece_told x a at p ps c (λ a' b'. pieces_told x false a' b' (at + length p) ps)) in
    ap (λ (l : Option Limit). go l (piece_read b (at + length p) p)) (fits_at at p ps le fits)
    ∙ ap (go None) read
    ∙ ap (λ (n : PieceNotes). then_comes (after_piece a at p n).report.text (pieces_told x false (cleared (after_piece a at p n)) b' (at + length p) ps)) (sym is)

-- the next piece has a fault
pub piece_fault : (x : Telling) (optional : Bool) (a : Auditing) (b : Between) (at : ℕ) (p : List ℕ) (ps : List (List ℕ)) (f : FaultKind × ℕ) → at ≤ most_input → limit at 0 p ≡ None
    → piece_read b (at + length p) p ≡ Err f → pieces_told x optional a b at (p ∷ ps) ≡ by_fault_in (begins_another a at p f.1) x a at p ps f
unfolding pieces_told
piece_fault x optional a b at p ps f le fits read =
    let go : Option Limit → Course → Audited = λ l c. unless_passed l x a (piece_told x a at p ps c (λ a' b'. pieces_told x false a' b' (at + length p) ps)) in
    ap (λ (l : Option Limit). go l (piece_read b (at + length p) p)) (fits_at at p ps le fits) ∙ ap (go None) read

-- a limit is passed
pub limit_step : (x : Telling) (optional : Bool) (a : Auditing) (b : Between) (at : ℕ) (ps : List (List ℕ)) (l : Limit) → limit_at at ps ≡ Some l → pieces_told x optional a b at ps ≡ by_limit x a l
unfolding pieces_told
limit_step x optional a b at [] l e = ap (λ (o : Option Limit). unless_passed o x a (end_told x optional a at (end_read b at))) e
limit_step x optional a b at (p ∷ ps) l e =
    ap (λ (o : Option Limit). unless_passed o x a (piece_told x a at p ps (piece_read b (at + length p) p) (λ a' b'. pieces_told x false a' b' (at + length p) ps))) e

-- no piece is left
pub end_step : (x : Telling) (optional : Bool) (a : Auditing) (b : Between) (at : ℕ) → at ≤ most_input → pieces_told x optional a b at [] ≡ end_told x optional a at (end_read b at)
unfolding pieces_told
end_step x optional a b at le = ap (λ (o : Option Limit). unless_passed o x a (end_told x optional a at (end_read b at))) (none_at at le)

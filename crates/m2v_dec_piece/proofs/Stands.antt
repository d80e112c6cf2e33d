-- Where the bytes stop that are looked at for one piece.
use Rattle.std.proofs.Common.{◌≡◌, ℕ, zero, suc, ◌≤◌, ◌<◌, List, [], ◌∷◌, ◌++◌, length, get_or, drop, Option, Some, None, true, Result, Ok, Err, IfErr, IsErrOf, refl, sym, ap, subst, ◌∙◌, append_assoc, arith}
use Rattle.m2v_model.specs.declared.phase.Phase.{Phase}
use Rattle.m2v_model.specs.declared.phase.Phase.TheVariants.{Before, Headers, Picture}
use Rattle.m2v_dec_piece.specs.declared.answer.Piece.{Piece}
use Rattle.m2v_dec_piece.specs.declared.answer.DecodeError.{DecodeError}
use Rattle.m2v_dec_piece.specs.declared.answer.DecodeError.TheVariants as errors
use Rattle.m2v_dec_piece.specs.Reads.{Refilled}
use Rattle.m2v_dec_piece.specs.Following.{following_in}
use Rattle.m2v_dec_piece.specs.Cutting.{Held, Fits, open_pieces, open_start, pieces_behind, start_behind, follows_behind, PieceStops, IsReading, AtPiece, phase_for, is_begun, prefix, taken_by, Cutting, IsPiece}
use Rattle.m2v_model.specs.Pieces.{limit, grouped, piece_of}
use Rattle.std.specs.Option.{option_map}
use Rattle.std.proofs.lemmas.List.{length-append}
use Rattle.m2v_port.specs.Port.{Moves}
use Rattle.m2v_port.proofs.Runs.{moves_on}
use Rattle.m2v_dec_piece.specs.declared.cutter.Stand.{Stand}
use Rattle.m2v_dec_piece.specs.declared.cutter.Stand.TheVariants.{Boundary, Ending, Over}
use Rattle.m2v_dec_piece.specs.Stepping.{IsWhole, IsLast, Why, Fails, Advanced, Looked, Rounded, Stood, LastOf, NextPiece, Spends, Keeps}
use Rattle.m2v_dec_piece.proofs.Steps.{length_prefix}
use Rattle.m2v_dec_piece.proofs.PieceLaws.{ends_piece}

-- a chunk by its first byte
pub by_first : (xs rest : List ℕ) (b : ℕ) → 0 < length xs → b ≡ get_or xs 0 0 → b ∷ (drop 1 xs ++ rest) ≡ xs ++ rest
by_first [] rest b lt e = absurd (omega arith)
by_first (x ∷ xs) rest b lt e = ap (λ (y : ℕ). y ∷ (xs ++ rest)) e

pub whole_stood : (h new : Held) (b : ℕ) (t : List ℕ) → IsWhole h b new → (pieces_behind h (b ∷ t) ≡ new.sure ∷ open_pieces Headers [] (0 ∷ 0 ∷ 1 ∷ b ∷ t)) × (start_behind h (b ∷ t) ≡ new.place)
    × (follows_behind h (b ∷ t) ≡ following_in true (0 ∷ 0 ∷ 1 ∷ b ∷ t))
unfolding open_start
whole_stood h new b t w = rw (w.same, w.ahead, w.phase) (ends_piece h.sure b t w.begins, refl, refl)

pub last_stood : (h new : Held) (b : ℕ) (t : List ℕ) → IsLast h b new → (pieces_behind h (b ∷ t) ≡ new.sure ∷ []) × (start_behind h (b ∷ t) ≡ new.place) × (follows_behind h (b ∷ t) ≡ t)
unfolding open_start
last_stood h new b t l = rw (l.value) (l.ends.pieces t, rw (l.ahead, l.phase) (sym l.ends.place), l.ends.follows t)

-- ---- with the bytes that are read

-- what is wrong with a text that was read in part is wrong with it as it was, and is an error of a cutter
pub stops_why : (start : ℕ) (pieces : List (List ℕ)) (e : DecodeError) → PieceStops start pieces e → Why start pieces e × IsReading e
stops_why start pieces errors.Read why = absurd why
stops_why start pieces errors.Memory why = (tt, tt)
stops_why start pieces errors.TooLong why = (why, tt)
stops_why start pieces errors.PictureTooLarge why = (why, tt)
stops_why start pieces errors.Write why = absurd why
stops_why start pieces (errors.Stream f) why = absurd why

joined_text : (chunk filled bytes rest : List ℕ) → filled ≡ chunk ++ bytes → filled ++ rest ≡ chunk ++ (bytes ++ rest)
joined_text chunk filled bytes rest e = ap (λ (x : List ℕ). x ++ rest) e ∙ append_assoc chunk bytes rest

pub filled_fails : (h : Held) (chunk filled : List ℕ) (left left' : Option (List ℕ)) (e : DecodeError) → Refilled chunk left filled left'
    → ((rest : List ℕ) → PieceStops (start_behind h (filled ++ rest)) (pieces_behind h (filled ++ rest)) e) → Fails h chunk left left' e
filled_fails h chunk filled left left' e r why = record {
  bytes = r.bytes;
  moved = r.moved;
  why = λ rest told. subst (λ (t : List ℕ). Why (start_behind h t) (pieces_behind h t) e) (joined_text chunk filled r.bytes rest r.grown) (stops_why _ _ e (why rest)).0;
}

-- no text stops a byte by a failed source
pub never_read : {T : Type 0} {A : Type 0} (h : Held) (chunk : List ℕ) (r : Result T DecodeError) → IfErr r (λ e. (rest : List ℕ) → PieceStops (start_behind h (chunk ++ rest)) (pieces_behind h (chunk ++ rest)) e) → IsErrOf r errors.Read → A
never_read h chunk (Ok v) f e = absurd cc
never_read h chunk (Err errors.Read) f e = absurd (f [])
never_read h chunk (Err errors.Memory) f e = absurd cc
never_read h chunk (Err errors.TooLong) f e = absurd cc
never_read h chunk (Err errors.PictureTooLarge) f e = absurd cc
never_read h chunk (Err errors.Write) f e = absurd cc
never_read h chunk (Err (errors.Stream f')) f e = absurd cc

-- ---- one byte after another

module _ (h h' : Held) (chunk chunk' : List ℕ) (left left' : Option (List ℕ)) (a : Advanced h chunk left h' chunk' left') where
  pub regrouped : (more rest : List ℕ) → chunk ++ ((a.bytes ++ more) ++ rest) ≡ chunk ++ (a.bytes ++ (more ++ rest))
  regrouped more rest = ap (λ (x : List ℕ). chunk ++ x) (append_assoc a.bytes more rest)

  pub advanced_on : (h'' : Held) (chunk'' : List ℕ) (left'' : Option (List ℕ)) → Advanced h' chunk' left' h'' chunk'' left'' → Advanced h chunk left h'' chunk'' left''
  advanced_on h'' chunk'' left'' b = record {
    bytes = a.bytes ++ b.bytes;
    moved = moves_on a.moved b.moved;
    pieces = λ rest. ap (pieces_behind h) (regrouped b.bytes rest) ∙ a.pieces (b.bytes ++ rest) ∙ b.pieces rest;
    start = λ rest. ap (start_behind h) (regrouped b.bytes rest) ∙ a.start (b.bytes ++ rest) ∙ b.start rest;
    follows = λ rest. ap (follows_behind h) (regrouped b.bytes rest) ∙ a.follows (b.bytes ++ rest) ∙ b.follows rest;
    took = omega (arith, a.took, b.took, length-append a.bytes b.bytes);
    onward = omega (arith, a.onward, b.onward);
    fits = b.fits;
  }

  pub fails_on : (left'' : Option (List ℕ)) (e : DecodeError) → Fails h' chunk' left' left'' e → Fails h chunk left left'' e
  fails_on left'' e b = record {
    bytes = a.bytes ++ b.bytes;
    moved = moves_on a.moved b.moved;
    why = λ rest told.
        let start = ap (start_behind h) (regrouped b.bytes rest) ∙ a.start (b.bytes ++ rest) in
        let pieces = ap (pieces_behind h) (regrouped b.bytes rest) ∙ a.pieces (b.bytes ++ rest) in
        rw (start, pieces) (b.why rest told);
  }

  stood_on : (stand : Stand) (text : List ℕ) (text' : List ℕ) (h'' : Held) (chunk'' rest : List ℕ) → pieces_behind h text ≡ pieces_behind h' text' → start_behind h text ≡ start_behind h' text'
      → follows_behind h text ≡ follows_behind h' text' → Stood stand h' text' h'' chunk'' rest → Stood stand h text h'' chunk'' rest
  stood_on Boundary text text' h'' chunk'' rest pieces start follows b = (pieces ∙ b.0, start ∙ b.1, b.2, follows ∙ b.3)
  stood_on Ending text text' h'' chunk'' rest pieces start follows b = (pieces ∙ b.0, start ∙ b.1, follows ∙ b.2, b.3)
  stood_on Over text text' h'' chunk'' rest pieces start follows b = (pieces ∙ b.0, start ∙ b.1, b.2, b.3, follows ∙ b.4, b.5)

  pub looked_on : (stand : Stand) (h'' : Held) (chunk'' : List ℕ) (left'' : Option (List ℕ)) → Looked stand h' chunk' left' h'' chunk'' left'' → Looked stand h chunk left h'' chunk'' left''
  looked_on stand h'' chunk'' left'' b = record {
    bytes = a.bytes ++ b.bytes;
    moved = moves_on a.moved b.moved;
    stood = λ rest told.
        stood_on stand _ (chunk' ++ (b.bytes ++ rest)) h'' chunk'' rest
        (ap (pieces_behind h) (regrouped b.bytes rest) ∙ a.pieces (b.bytes ++ rest))
        (ap (start_behind h) (regrouped b.bytes rest) ∙ a.start (b.bytes ++ rest))
        (ap (follows_behind h) (regrouped b.bytes rest) ∙ a.follows (b.bytes ++ rest))
        (b.stood rest told);
    full = b.full;
    took = omega (arith, a.took, b.took, length-append a.bytes b.bytes);
    onward = omega (arith, a.onward, b.onward);
    fits = b.fits;
  }

-- what is held then was taken of the text
pub spends_on : (h h' h'' : Held) (chunk chunk' chunk'' bytes : List ℕ) (left left' left'' : Option (List ℕ)) → Spends h chunk left h' chunk' left' → Moves left' bytes left''
    → Spends h' chunk' left' h'' chunk'' left'' → Spends h chunk left h'' chunk'' left''
spends_on h h' h'' chunk chunk' chunk'' bytes left left' left'' a m b text rest is is_then =
    let mid : left' ≡ Some (bytes ++ rest) = m.was ∙ ap (option_map (λ (t : List ℕ). bytes ++ t)) is_then in
    omega (arith, a text (bytes ++ rest) is mid, b (bytes ++ rest) rest mid is_then)

pub round_spends : (stand : Option Stand) (h h' h'' : Held) (chunk chunk' chunk'' : List ℕ) (left left' left'' : Option (List ℕ)) → Spends h chunk left h' chunk' left' → Rounded stand h' chunk' left' h'' chunk'' left''
    → Spends h' chunk' left' h'' chunk'' left'' → Spends h chunk left h'' chunk'' left''
round_spends None h h' h'' chunk chunk' chunk'' left left' left'' a r b = spends_on h h' h'' chunk chunk' chunk'' r.0.bytes left left' left'' a r.0.moved b
round_spends (Some stand) h h' h'' chunk chunk' chunk'' left left' left'' a r b = spends_on h h' h'' chunk chunk' chunk'' r.bytes left left' left'' a r.moved b

prefix_most : (n : ℕ) → length (prefix n) ≤ n
prefix_most zero = omega arith
prefix_most (suc zero) = omega arith
prefix_most (suc (suc zero)) = omega arith
prefix_most (suc (suc (suc zero))) = omega arith
prefix_most (suc (suc (suc (suc n)))) = omega arith

-- ---- of a cutter

-- the bytes that are read and not handed out were taken
pub keeps_read : (h mid h' : Held) (chunk chunk' : List ℕ) (left left' : Option (List ℕ)) (old new : Cutting) → AtPiece h → h.ahead ≤ 3 → old.place ≡ h.place → old.unread ≡ prefix h.ahead ++ chunk
    → new.place ≡ h'.place → new.unread ≡ prefix h'.ahead ++ chunk' → Spends h chunk left mid chunk' left' → taken_by h' ≡ taken_by mid → Keeps old left new left'
keeps_read h mid h' chunk chunk' left left' old new at few place unread place_then unread_then spends same text rest is is_then =
    omega (
      arith,
      spends text rest is is_then,
      same,
      place,
      place_then,
      ap length unread,
      ap length unread_then,
      ap length at.sure,
      length-append (prefix h.ahead) chunk,
      length-append (prefix h'.ahead) chunk',
      length_prefix h.ahead few,
      prefix_most h'.ahead,
    )

pub at_piece_fits : (h : Held) → AtPiece h → Fits h
unfolding limit
at_piece_fits h a = record { limit = rw (a.sure) refl; none = λ e. a.sure }

-- the pieces that are left are those of what is held
pub left_is : (h : Held) (chunk text : List ℕ) → AtPiece h → open_pieces (phase_for (is_begun h.phase)) [] ((prefix h.ahead ++ chunk) ++ text) ≡ pieces_behind h (chunk ++ text)
left_is h chunk text a =
    ap (λ (phase : Phase). open_pieces phase [] ((prefix h.ahead ++ chunk) ++ text)) (sym a.phase)
    ∙ ap (λ (sure : List ℕ). open_pieces h.phase sure ((prefix h.ahead ++ chunk) ++ text)) (sym a.sure)
    ∙ ap (open_pieces h.phase h.sure) (append_assoc (prefix h.ahead) chunk text)

pub start_is : (h : Held) (chunk text : List ℕ) → AtPiece h → open_start (phase_for (is_begun h.phase)) h.place ((prefix h.ahead ++ chunk) ++ text) ≡ start_behind h (chunk ++ text)
start_is h chunk text a =
    ap (λ (phase : Phase). open_start phase h.place ((prefix h.ahead ++ chunk) ++ text)) (sym a.phase)
    ∙ ap (open_start h.phase h.place) (append_assoc (prefix h.ahead) chunk text)

-- no bytes are no piece, and others are one
pub none_left : (phase : Phase) (sure : List ℕ) → sure ≡ [] → grouped phase sure [] ≡ []
unfolding grouped
none_left Before sure e = refl
none_left Headers sure e = rw e refl
none_left Picture sure e = rw e refl

one_piece : (sure : List ℕ) → (sure ≡ [] → ⊥) → piece_of sure ≡ sure ∷ []
one_piece [] some = absurd (some refl)
one_piece (b ∷ sure) some = refl

pub one_left : (h : Held) → Fits h → (h.sure ≡ [] → ⊥) → grouped h.phase h.sure [] ≡ h.sure ∷ []
unfolding grouped
one_left h fits some = by_phase h.phase h.sure fits.none some
  where
    by_phase : (phase : Phase) (sure : List ℕ) → (phase ≡ Before → sure ≡ []) → (sure ≡ [] → ⊥) → grouped phase sure [] ≡ sure ∷ []
    by_phase Before sure none some = absurd (some (none refl))
    by_phase Headers sure none some = one_piece sure some
    by_phase Picture sure none some = one_piece sure some

pub last_next : (piece : Option Piece) (h h' : Held) (start : ℕ) (pieces : List (List ℕ)) (new : Cutting) → LastOf piece h h' → pieces ≡ grouped h.phase h.sure [] → start ≡ h.place → new.place ≡ h'.place → new.ended ≡ true
    → NextPiece piece start pieces new []
last_next None h h' start pieces new l is at place ended = (is ∙ l.0, refl, place ∙ l.1 ∙ sym at, ended)
last_next (Some p) h h' start pieces new l is at place ended = (h.sure, is ∙ l.0, subst (λ (n : ℕ). IsPiece p n h.sure) (sym at) l.1, place ∙ l.2)

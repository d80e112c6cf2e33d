-- A piece that comes once more, and the text that it begins.
use Rattle.std.proofs.Common.{◌≡◌, ◌⊎◌, inl, inr, ℕ, zero, suc, ◌+◌, ◌-◌, ◌<◌, Bool, true, false, nat_eq, List, [], ◌∷◌, ◌++◌, drop, replicate, Option, Some, None, refl, sym, ap, subst, ◌∙◌, append_assoc, arith}
use Rattle.std.specs.Prelude.{◌&&◌, ◌*◌, vec_len, if◌then◌else◌}
use Rattle.std.specs.List.{starts_with}
use Rattle.std.proofs.lemmas.Bool.Decides.{Decides-eqb}
use Rattle.std.proofs.lemmas.Slice.Eq.{starts_is}
use Rattle.std.proofs.lemmas.List.{length-append}
use Rattle.m2v_port.specs.Ends.{Change}
use Rattle.m2v_port.proofs.Runs.{moves_nothing}
use Rattle.m2v_model.specs.declared.phase.Phase.TheVariants.{Before, Headers}
use Rattle.m2v_model.specs.Units.{joined}
use Rattle.m2v_model.specs.Pieces.{limit, trimmed}
use Rattle.m2v_model.specs.ByPieces.{at_start}
use Rattle.m2v_dec_piece.specs.declared.answer.Piece.{Piece}
use Rattle.m2v_dec_piece.specs.declared.answer.DecodeError.{DecodeError}
use Rattle.m2v_dec_piece.specs.declared.answer.DecodeError.TheVariants as errors
use Rattle.m2v_dec_piece.specs.Following.{following_in}
use Rattle.m2v_dec_piece.specs.Cutting.{Cutting, IsPiece, left_of, start_of, follows_of, code_of, open_pieces, open_start, phase_for}
use Rattle.m2v_dec_piece.specs.Sound.{IsSoundPiece}
use Rattle.m2v_dec_piece.specs.Stepping.{Handed, NextPiece}
use Rattle.m2v_dec_piece.proofs.FollowingLaws.{follows_first}
use Rattle.m2v_dec_piece.proofs.PieceLaws.{begins_first, starts_first}
use Rattle.m2v_dec_piece.proofs.TextLaws.{left_whole}
use Rattle.m2v_dec_piece.proofs.WholeLaws.{whole_is}
use Rattle.m2v_strict.specs.m2v_check.m2v_decode.Decoding.{Decoding, between, whole_of}
use Rattle.m2v_strict.proofs.m2v_check.m2v_decode.EndLaws.{whole_length}
use Rattle.m2v_strict.proofs.m2v_check.m2v_decode.Going.{gave}
use Rattle.m2v_audit.specs.Auditing.{Auditing, is_begun}
use Rattle.m2v_audit.specs.Feeding.{with_again, cutting_of, again_of, comes_again, ComesAgain, Waits}
use Rattle.m2v_audit.specs.declared.feed.Feed.{Feed}
use Rattle.m2v_audit.specs.Leading.{PieceFails}

-- ---- a text that begins with a sequence header

header_front : (whole : List ℕ) → starts_with nat_eq whole (code_of 0xB3) ≡ true → whole ≡ code_of 0xB3 ++ drop 4 whole
header_front whole e = (starts_is Decides-eqb whole (code_of 0xB3) _ refl).0 e

-- The zero bytes that a piece leaves out are none of the header's code.
no_value : (n : ℕ) → starts_with nat_eq (replicate n 0) (0xB3 ∷ []) ≡ false
no_value zero = refl
no_value (suc n) = refl

no_prefix : (n : ℕ) → starts_with nat_eq (replicate n 0) (1 ∷ 0xB3 ∷ []) ≡ false
no_prefix zero = refl
no_prefix (suc n) = refl

no_zero : (n : ℕ) → starts_with nat_eq (replicate n 0) (0 ∷ 1 ∷ 0xB3 ∷ []) ≡ false
no_zero zero = refl
no_zero (suc n) = no_prefix n

no_code : (n : ℕ) → starts_with nat_eq (replicate n 0) (code_of 0xB3) ≡ false
no_code zero = refl
no_code (suc n) = no_zero n

with_zeros : (bytes : List ℕ) (n : ℕ) → starts_with nat_eq bytes (code_of 0xB3) ≡ starts_with nat_eq (bytes ++ replicate n 0) (code_of 0xB3)
with_zeros [] n = sym (no_code n)
with_zeros (a ∷ []) n = ap (λ (z : Bool). nat_eq 0 a && z) (sym (no_zero n))
with_zeros (a ∷ b ∷ []) n = ap (λ (z : Bool). nat_eq 0 a && (nat_eq 0 b && z)) (sym (no_prefix n))
with_zeros (a ∷ b ∷ c ∷ []) n = ap (λ (z : Bool). nat_eq 0 a && (nat_eq 0 b && (nat_eq 1 c && z))) (sym (no_value n))
with_zeros (a ∷ b ∷ c ∷ d ∷ bytes) n = refl

pub header_whole : (p : Piece) → starts_with nat_eq p.bytes.items (code_of 0xB3) ≡ starts_with nat_eq (whole_of p) (code_of 0xB3)
header_whole p = with_zeros p.bytes.items (p.length - vec_len p.bytes)

-- its first piece begins at once
record FirstAtOnce (text : List ℕ) : Type 0 where
  pieces : open_pieces Before [] text ≡ open_pieces Headers [] text
  start : (place : ℕ) → open_start Before place text ≡ place
  follows : following_in false text ≡ following_in true text

at_once : (text behind : List ℕ) → text ≡ code_of 0xB3 ++ behind → FirstAtOnce text
at_once text behind is = subst FirstAtOnce (sym is) (record { pieces = begins_first [] behind; start = λ place. starts_first place behind; follows = follows_first behind })

-- what is left behind the first sequence header of a text, with a piece in front
open_by : (begun ended : Bool) (text whole follows : List ℕ) (ps : List (List ℕ)) → begun ≡ true → (if ended then [] else open_pieces (phase_for begun) [] text) ≡ whole ∷ ps → (if ended then text else following_in begun text) ≡ follows
    → (open_pieces Headers [] text ≡ whole ∷ ps) × (following_in true text ≡ follows)
open_by begun true text whole follows ps b e f = absurd cc
open_by begun false text whole follows ps b e f = (rw b at e, rw b at f)

-- ---- the piece

module _ (p : Piece) (c c' : Cutting) (begun : c.begun ≡ true) (begun' : c'.begun ≡ true) (header : starts_with nat_eq (whole_of p) (code_of 0xB3) ≡ true) where
  abbrev again : Cutting
  again = record { place = p.place; unread = whole_of p ++ c'.unread; begun = false; ended = false; failed = c'.failed }

  comes : (bytes rest : List ℕ) → NextPiece (Some p) (start_of c (bytes ++ rest)) (left_of c (bytes ++ rest)) c' (left_of c' rest) → follows_of c (bytes ++ rest) ≡ follows_of c' rest
      → NextPiece (Some p) (start_of again rest) (left_of again rest) c' (left_of c' rest) × (follows_of again rest ≡ follows_of c' rest)
  comes bytes rest next follows =
      let whole = whole_of p in
      let text = (whole ++ c'.unread) ++ rest in
      let from = bytes ++ rest in
      let g = gave c bytes rest c' p begun' next in
      let given : List ℕ = next.0 in
      let is : whole ≡ given = whole_is p _ given next.2 in
      let all : text ≡ c.unread ++ from =
      append_assoc whole c'.unread rest
      ∙ ap (λ (t : List ℕ). whole ++ t) (sym (left_whole c' rest begun'))
      ∙ sym (append_assoc whole (joined (left_of c' rest)) (follows_of c' rest))
      ∙ ap (λ (t : List ℕ). joined (whole ∷ left_of c' rest) ++ t) (sym follows)
      ∙ ap (λ (ps : List (List ℕ)). joined ps ++ follows_of c from) (sym g.pieces)
      ∙ left_whole c from begun in
      let opened = open_by c.begun c.ended (c.unread ++ from) whole (follows_of c' rest) (left_of c' rest) begun g.pieces follows in
      let first = at_once text (drop 4 whole ++ (c'.unread ++ rest)) (append_assoc whole c'.unread rest ∙ ap (λ (w : List ℕ). w ++ (c'.unread ++ rest)) (header_front whole header)) in
      let start : start_of again rest ≡ p.place = first.start p.place in
      let piece : IsPiece p (start_of again rest) whole = record {
        bytes = (next.2).bytes ∙ ap trimmed (sym is);
        at = sym start;
        length = g.length;
        fits = subst (λ (at : ℕ). limit at 0 whole ≡ None) (sym start) g.fits;
      } in ((whole, first.pieces ∙ ap (open_pieces Headers []) all ∙ opened.0, piece, next.3), first.follows ∙ ap (following_in true) all ∙ opened.1)

-- a sequence that has begun has a piece, behind which the cutter stands
pub begun_behind : (later optional begun : Bool) (a0 a : Auditing) (place place' : ℕ) (d : Decoding) → is_begun a0 ≡ false → ((place < place') × (begun ≡ true)) ⊎ ((optional ≡ later) × (between d ≡ at_start) × (place ≡ place') × (a ≡ a0)) → is_begun a ≡ true → begun ≡ true
begun_behind later optional begun a0 a place place' d none (inl far) on = far.1
begun_behind later optional begun a0 a place place' d none (inr still) on = absurd (let off : false ≡ true = sym none ∙ sym (ap is_begun still.3) ∙ on in cc)

-- a piece that was refused comes once more, or never
module _ (p : Piece) (c c' : Cutting) (left left' : Option (List ℕ)) (handed : Handed c left c' left' (Some p)) (sound : IsSoundPiece p) (begun : c'.begun ≡ true) (end : c'.place ≡ p.place + p.length) where
  waits_by : (on right header : Bool) → (on ≡ true → c.begun ≡ true) → (header ≡ true → starts_with nat_eq (whole_of p) (code_of 0xB3) ≡ true) → Waits (again_of (on && (right && header)) p) c' left'
  unfolding with_again
  waits_by true true true first is =
      let told = λ (rest : List ℕ) (e : left' ≡ Some rest). comes p c c' (first refl) begun (is refl) handed.bytes rest (handed.next rest e) (handed.behind rest e) in
      record { sound = sound; begun = begun; end = end; next = λ rest e. (told rest e).0; behind = λ rest e. (told rest e).1 }
  waits_by true true false first is = tt
  waits_by true false header first is = tt
  waits_by false right header first is = tt

  pub waits_refused : (d : Decoding) (a a' : Auditing) (held : Change) (e : DecodeError) → PieceFails d a p held a' e → (is_begun a ≡ true → c.begun ≡ true) → Waits (again_of (comes_again (is_begun a') e p) p) c' left'
  unfolding comes_again
  waits_refused d a a' held errors.Read h first = tt
  waits_refused d a a' held errors.Write h first = tt
  waits_refused d a a' held (errors.Stream f) h first =
      waits_by (is_begun a') (nat_eq f.place (8 * p.place)) (starts_with nat_eq (whole_of p) (code_of 0xB3)) (λ on. first (sym (ap is_begun h.1) ∙ on)) (λ e. e)
  waits_refused d a a' held errors.TooLong h first = tt
  waits_refused d a a' held errors.PictureTooLarge h first = tt
  waits_refused d a a' held errors.Memory h first = tt

-- ---- one piece more

-- no piece comes once more
pub cutter_is : (f : Feed) → f.again ≡ None → cutting_of f ≡ f.cutter
unfolding with_again
cutter_is f none = ap (λ (o : Option Piece). with_again o f.cutter) none

-- the piece that comes once more is handed out
pub handed_again : (p : Piece) (c : Cutting) (left : Option (List ℕ)) → ComesAgain p c left → Handed (with_again (Some p) c) left c left (Some p)
unfolding with_again
handed_again p c left w = record {
  bytes = [];
  moved = moves_nothing left;
  next = w.next;
  behind = w.behind;
  place = let most = whole_length p w.sound in omega (arith, w.end, most, length-append (whole_of p) c.unread);
}

-- How copies of pieces are made, one after another.
use Rattle.std.proofs.Common.{◌≡◌, ℕ, ◌+◌, ◌<◌, ◌≤◌, Bool, true, List, [], ◌∷◌, ◌++◌, length, drop, get_or, refl, sym, subst, append_assoc, append-nil}
use Rattle.std.specs.Prelude.{All}
use Rattle.std.proofs.lemmas.List.{drop_all}
use Rattle.std.proofs.lemmas.List.Elements.{All-nil, All-cons, All-head, All-tail}
use Rattle.m2v_decode.specs.m2v_dec_piece.declared.answer.Piece.{Piece}
use Rattle.m2v_decode.specs.m2v_dec_piece.Sound.{IsSoundPiece}
use Rattle.m2v_mend.specs.declared.member.Member.{Member}
use Rattle.m2v_mend.specs.Kept.{pieces_of}
use Rattle.m2v_mend.specs.Members.{IsMember}
use Rattle.m2v_mend.specs.Copying.{IsCopy, AreCopies}
use Rattle.m2v_mend.proofs.EditLaws.{lowered_by_nothing}
use Rattle.m2v_mend.proofs.Parting.{next_left}

-- ---- pieces as they are

own_copy : (m : Member) → IsMember m → IsCopy true 0 m.piece m.piece
own_copy m is = let same = lowered_by_nothing 0 m.piece refl is.units in λ header. record { bytes = same.bytes; units = same.units; place = λ on. refl; end = refl }

-- pieces are copies of themselves behind a strand that has a byte, where they are lowered by nothing
pub own_copies : (ms : List Member) → All IsMember ms → AreCopies true 0 (pieces_of ms) (pieces_of ms)
own_copies [] all = tt
own_copies (m ∷ ms) all = (own_copy m (All-head IsMember m ms all), own_copies ms (All-tail IsMember m ms all))

-- ---- one piece more

-- copies of the members from one on are copies of all, behind those that were made
abbrev pub Continue : Bool → Bool → ℕ → List Member → List Piece → ℕ → Type 0
Continue begun behind low ms done i = (qs : List Piece) → AreCopies behind low (pieces_of (drop i ms)) qs → AreCopies begun low (pieces_of ms) (done ++ qs)

pub copies_more : (begun behind : Bool) (low : ℕ) (ms : List Member) (done : List Piece) (i : ℕ) (m : Member) (q : Piece) → i < length ms → m ≡ get_or ms i m → IsCopy behind low m.piece q → Continue begun behind low ms done i
    → Continue begun true low ms (done ++ q ∷ []) (i + 1)
copies_more begun behind low ms done i m q lt is copy go = λ qs h.
    subst (AreCopies begun low (pieces_of ms)) (sym (append_assoc done (q ∷ []) qs))
    (go (q ∷ qs) (subst (λ (l : List Member). AreCopies behind low (pieces_of l) (q ∷ qs)) (sym (next_left ms i m lt is)) (copy, h)))

pub copies_all : (begun behind : Bool) (low : ℕ) (ms : List Member) (done : List Piece) (i : ℕ) → length ms ≤ i → Continue begun behind low ms done i → AreCopies begun low (pieces_of ms) done
copies_all begun behind low ms done i le go =
    subst (AreCopies begun low (pieces_of ms)) (append-nil done)
    (go [] (subst (λ (l : List Member). AreCopies behind low (pieces_of l) []) (sym (drop_all i ms le)) tt))

-- ---- all pieces

pub members_sound : (ms : List Member) → All IsMember ms → All IsSoundPiece (pieces_of ms)
members_sound [] all = All-nil IsSoundPiece
members_sound (m ∷ ms) all = All-cons IsSoundPiece m.piece (pieces_of ms) (All-head IsMember m ms all).sound (members_sound ms (All-tail IsMember m ms all))

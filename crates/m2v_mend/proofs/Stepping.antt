-- One piece more of those that are read behind a strand.
use Rattle.std.proofs.Common.{◌≡◌, ℕ, ◌+◌, ◌<◌, List, [], ◌∷◌, ◌++◌, length, take, drop, get_or, Err, refl, sym, ap, subst, ◌∙◌, arith}
use Rattle.m2v_model.specs.declared.notes.Notes.{Notes}
use Rattle.m2v_model.specs.ByPieces.{piece_read}
use Rattle.m2v_decode.specs.m2v_dec_piece.declared.answer.Piece.{Piece}
use Rattle.m2v_decode.specs.m2v_dec_piece.declared.answer.Fault.{Fault}
use Rattle.m2v_decode.specs.m2v_dec_piece.Sound.{IsSoundPiece}
use Rattle.m2v_decode.specs.Decoding.{Decoding, between, whole_of}
use Rattle.m2v_decode.specs.Decoding as decoding
use Rattle.m2v_decode.specs.Reading.{Reading, Follows, LeadsOn}
use Rattle.m2v_decode.proofs.EndLaws.{whole_length}
use Rattle.m2v_mend.specs.Strand.{StrandState, standing_with, IsReady, Steps, Walks, stop, step, Walked, Halts, bytes_in}
use Rattle.m2v_mend.proofs.Parting.{next_taken, next_left, next_parts}

-- a decoder that has come as far as a reader, with no frame at hand
leader : Reading → Decoding
leader r = record decoding.at_start { state = r.state; ended = r.ended; failed = r.failed; pictures = r.pictures; dropped = r.dropped; shown = r.frames }

follows_leader : (r : Reading) → Follows r (leader r)
unfolding leader
follows_leader r = record { state = refl; pictures = refl; dropped = refl; frames = omega arith; ended = refl; failed = refl; reading = refl }

pub step_is : (d : Decoding) (s z : StrandState) (p : Piece) (notes : Notes) → LeadsOn d p.place (whole_of p) notes z.reading → z.standing ≡ standing_with s.standing notes.picture → z.bytes ≡ s.bytes + p.length → z.opening ≡ s.opening → Steps d s p z
step_is d s z p notes l standing bytes opening = record { behind = l.behind; notes = notes; advanced = l.advanced; follows = l.follows; standing = standing; bytes = bytes; opening = opening }

pub ready_is : (s z : StrandState) (p : Piece) (notes : Notes) → IsReady s → IsSoundPiece p → ((d : Decoding) → Follows s.reading d → LeadsOn d p.place (whole_of p) notes z.reading) → z.bytes ≡ s.bytes + p.length → IsReady z
unfolding leader
ready_is s z p notes ready sound leads bytes =
    let l = leads (leader s.reading) (follows_leader s.reading) in
    let pictures = (l.follows).pictures in
    let counted = (l.advanced).counted in
    let few = (l.advanced).few in
    let long = whole_length p sound in
    let before = ready.few in
    record {
      going = sym (l.follows).failed ∙ (l.advanced).sound;
      before = sym (l.follows).ended ∙ (l.advanced).going;
      few = omega (arith, pictures, counted, few, long, before, bytes);
    }

-- ---- piece by piece

walks_more : {d e : Decoding} {s z y : StrandState} {ps : List Piece} {p : Piece} → Walks d s ps e z → (x : Steps e z p y) → Walks d s (ps ++ p ∷ []) x.behind y
walks_more stop x = step x stop
walks_more (step y w) x = step y (walks_more w x)

pub walked_none : (d : Decoding) (s : StrandState) → Follows s.reading d → Walked d s [] s
walked_none d s f = record { behind = d; walks = stop; follows = f }

walked_on : (d : Decoding) (s z y : StrandState) (ps : List Piece) (p : Piece) → (w : Walked d s ps z) → Steps w.behind z p y → Walked d s (ps ++ p ∷ []) y
walked_on d s z y ps p w x = record { behind = x.behind; walks = walks_more w.walks x; follows = x.follows }

pub walked_more : (d : Decoding) (s z y : StrandState) (ps : List Piece) (i : ℕ) (p : Piece) → i < length ps → p ≡ get_or ps i p → (w : Walked d s (take i ps) z) → ((e : Decoding) → Follows z.reading e → Steps e z p y) → Walked d s (take (i + 1) ps) y
walked_more d s z y ps i p lt is w x =
    subst (λ (l : List Piece). Walked d s l y) (sym (next_taken ps i p lt is)) (walked_on d s z y (take i ps) p w (x w.behind w.follows))

pub halts_at : (d : Decoding) (s z : StrandState) (ps : List Piece) (i : ℕ) (p : Piece) (f : Fault) → i < length ps → p ≡ get_or ps i p → (w : Walked d s (take i ps) z)
    → ((e : Decoding) → Follows z.reading e → piece_read (between e) (p.place + length (whole_of p)) (whole_of p) ≡ Err (f.kind, f.place)) → Halts d s ps f
halts_at d s z ps i p f lt is w x = record {
  front = take i ps;
  piece = p;
  later = drop (i + 1) ps;
  are = next_parts ps i p lt is;
  at = w.behind;
  state = z;
  walks = w.walks;
  refused = x w.behind w.follows;
}

-- how many bytes are left
pub bytes_left : (ps : List Piece) (i : ℕ) (p : Piece) → i < length ps → p ≡ get_or ps i p → bytes_in (drop i ps) ≡ p.length + bytes_in (drop (i + 1) ps)
bytes_left ps i p lt is = ap bytes_in (next_left ps i p lt is)

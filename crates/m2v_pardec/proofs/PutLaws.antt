-- Pieces taken ahead, decoded one after another.
use Rattle.std.proofs.Common.{ℕ, ◌+◌, ◌≤◌, ◌^◌, List, [], ◌∷◌, ◌++◌, Option, subst, append_assoc, arith}
use Rattle.m2v_port.specs.Ends.{Change}
use Rattle.m2v_port.specs.Port.{Grows}
use Rattle.m2v_dec_piece.specs.declared.answer.Piece.{Piece}
use Rattle.m2v_dec_piece.specs.declared.answer.DecodeError.{DecodeError}
use Rattle.m2v_dec_piece.specs.declared.answer.DecodeError.TheVariants as errors
use Rattle.m2v_dec_piece.specs.Sound.{IsSoundPiece}
use Rattle.m2v_decode.specs.Decoding.{Decoding, Onward, Refuses, due_of, whole_of}
use Rattle.m2v_decode.proofs.EndLaws.{whole_length}
use Rattle.m2v_decode.specs.Progress.{raw_of, Cuts, HasPut}
use Rattle.m2v_pardec.specs.Ahead.{AreInOrder, IsAhead}
use Rattle.m2v_pardec.specs.Put.{PutsTo, PutsAll, StopsBy, CountsTo, CountsOn, AreNext, WerePut}
use Rattle.m2v_pardec.proofs.AheadLaws.{ahead_onward, ahead_refused, ahead_unwritten, ahead_unmade, fails_weaker}

-- ---- pieces in order

pub order_lower : (ps : List Piece) (low low' high : ℕ) → low' ≤ low → AreInOrder low ps high → AreInOrder low' ps high
order_lower [] low low' high le h = omega (arith, le, h)
order_lower (p ∷ ps) low low' high le h = (omega (arith, le, h.0), h.1, h.2)

pub order_more : (ps : List Piece) (low mid high : ℕ) (p : Piece) → AreInOrder low ps mid → mid ≤ p.place → IsSoundPiece p → p.place + p.length ≤ high → AreInOrder low (ps ++ p ∷ []) high
order_more [] low mid high p h at sound end = (omega (arith, h, at), sound, end)
order_more (q ∷ ps) low mid high p h at sound end = (h.0, h.1, order_more ps (q.place + q.length) mid high p h.2 at sound end)

pub order_higher : (ps : List Piece) (low mid high : ℕ) → mid ≤ high → AreInOrder low ps mid → AreInOrder low ps high
order_higher [] low mid high le h = omega (arith, le, h)
order_higher (p ∷ ps) low mid high le h = (h.0, h.1, order_higher ps (p.place + p.length) mid high le h.2)

pub order_rises : (ps : List Piece) (low high : ℕ) → AreInOrder low ps high → low ≤ high
order_rises [] low high h = h
order_rises (p ∷ ps) low high h = let more = order_rises ps (p.place + p.length) high h.2 in omega (arith, h.0, more)

pub order_front : (ps qs : List Piece) (low high : ℕ) → AreInOrder low (ps ++ qs) high → (mid : ℕ) × AreInOrder low ps mid × AreInOrder mid qs high
order_front [] qs low high h = (low, omega arith, h)
order_front (p ∷ ps) qs low high h =
    let rest = order_front ps qs (p.place + p.length) high h.2 in
    (rest.0, (h.0, h.1, rest.1), rest.2)

-- the first of some pieces, and those behind them once the first were decoded
front_order : (ps qs : List Piece) (low : ℕ) → ((high : ℕ) × (high ≤ 2 ^ 36) × AreInOrder low (ps ++ qs) high) → ((high : ℕ) × (high ≤ 2 ^ 36) × AreInOrder low ps high)
front_order ps qs low h =
    let o = order_front ps qs low h.0 h.2 in
    (o.0, omega (arith, order_rises qs o.0 h.0 o.2, h.1), o.1)

behind_order : (ps qs : List Piece) (d m : Decoding) → CountsOn ps d m → ((high : ℕ) × (high ≤ 2 ^ 36) × AreInOrder d.pictures (ps ++ qs) high) → ((high : ℕ) × (high ≤ 2 ^ 36) × AreInOrder m.pictures qs high)
behind_order ps qs d m counts h =
    let o = order_front ps qs d.pictures h.0 h.2 in
    (h.0, h.1, order_lower qs o.0 m.pictures h.0 (counts o.0 o.1) o.2)

pub front_next : (ps qs : List Piece) (d : Decoding) → AreNext (ps ++ qs) d → AreNext ps d
front_next ps qs d next = record { going = next.going; before = next.before; order = front_order ps qs d.pictures next.order }

pub behind_next : (ps qs : List Piece) (d m : Decoding) (h1 h2 : Option (List ℕ)) → WerePut ps d h1 m h2 → AreNext (ps ++ qs) d → AreNext qs m
behind_next ps qs d m h1 h2 were next = record { going = were.going; before = were.before; order = behind_order ps qs d m were.counted next.order }

-- ---- one piece

pub put_one : (d m n : Decoding) (p : Piece) (h1 h2 : Option (List ℕ)) → Onward d p.place (whole_of p) m → HasPut m n → Grows h1 (raw_of (due_of m)) h2 → PutsAll (p ∷ []) d h1 n h2
put_one d m n p h1 h2 a put grown = λ later l l' b others so. ahead_onward later l l' b h1 h2 p others d m n so a put grown

pub counted_one : (d m n : Decoding) (p : Piece) → IsSoundPiece p → Onward d p.place (whole_of p) m → HasPut m n → n.pictures ≤ d.pictures + p.length
counted_one d m n p sound a put = omega (arith, put.pictures, a.counted, a.few, whole_length p sound)

pub refused_one : (failed : Type 0) (d : Decoding) (p : Piece) (h : Option (List ℕ)) (e : DecodeError) → IsSoundPiece p → Refuses d p.place (whole_of p) e → StopsBy failed (p ∷ []) d h h e
refused_one failed d p h e sound why = λ later l l' b others so. ahead_refused failed later l l' b h p others d e so sound why

pub unwritten_one : (failed : Type 0) (d m : Decoding) (p : Piece) (out : Change) (e : DecodeError) → (out.Failed → failed) → Onward d p.place (whole_of p) m → Cuts (raw_of (due_of m)) out e → StopsBy failed (p ∷ []) d out.old out.new e
unwritten_one failed d m p out e rose a cut = λ later l l' b others so. ahead_unwritten failed later l l' b out p others d m e rose so a cut

pub unmade : (failed : Type 0) (ps : List Piece) (d : Decoding) (h : Option (List ℕ)) → StopsBy failed ps d h h errors.Memory
unmade failed ps d h = λ later l l' b others so. ahead_unmade failed later l l' b h (ps ++ others) d so

-- ---- one after another

-- a piece more is decoded of those that are left
pub puts_more : (ps qs : List Piece) (p : Piece) (d m n : Decoding) (h1 h2 h3 : Option (List ℕ)) → PutsTo ps d h1 (p ∷ qs) m h2 → PutsAll (p ∷ []) m h2 n h3 → PutsTo ps d h1 qs n h3
puts_more ps qs p d m n h1 h2 h3 first next = λ later l l' b others so. next later l l' b (qs ++ others) (first later l l' b others so)

pub counts_more : (ps qs : List Piece) (p : Piece) (d m n : Decoding) → CountsTo ps d (p ∷ qs) m → n.pictures ≤ m.pictures + p.length → CountsTo ps d qs n
counts_more ps qs p d m n first few = λ high h.
    let at = first high h in
    order_lower qs (p.place + p.length) n.pictures high (omega (arith, few, at.0)) at.2

pub stops_behind : (failed failed' : Type 0) (ps qs : List Piece) (p : Piece) (d m : Decoding) (h1 h2 h3 : Option (List ℕ)) (e : DecodeError) → (failed → failed') → PutsTo ps d h1 (p ∷ qs) m h2 → StopsBy failed (p ∷ []) m h2 h3 e → StopsBy failed' ps d h1 h3 e
stops_behind failed failed' ps qs p d m h1 h2 h3 e weaker first next = λ later l l' b others so.
    fails_weaker failed failed' l l' b h3 e weaker (next later l l' b (qs ++ others) (first later l l' b others so))

-- all of some pieces, and then others
pub stops_first : (failed : Type 0) (ps qs : List Piece) (d : Decoding) (h1 h2 : Option (List ℕ)) (e : DecodeError) → StopsBy failed ps d h1 h2 e → StopsBy failed (ps ++ qs) d h1 h2 e
stops_first failed ps qs d h1 h2 e stops = λ later l l' b others so.
    stops later l l' b (qs ++ others) (subst (λ (xs : List Piece). IsAhead later l l' b h1 xs d) (append_assoc ps qs others) so)

pub stops_next : (failed failed' : Type 0) (ps qs : List Piece) (d m : Decoding) (h1 h2 h3 : Option (List ℕ)) (e : DecodeError) → (failed → failed') → PutsAll ps d h1 m h2 → StopsBy failed qs m h2 h3 e → StopsBy failed' (ps ++ qs) d h1 h3 e
stops_next failed failed' ps qs d m h1 h2 h3 e weaker first next = λ later l l' b others so.
    fails_weaker failed failed' l l' b h3 e weaker
    (next later l l' b others (first later l l' b (qs ++ others) (subst (λ (xs : List Piece). IsAhead later l l' b h1 xs d) (append_assoc ps qs others) so)))

counts_both : (ps qs : List Piece) (d m n : Decoding) → CountsOn ps d m → CountsOn qs m n → CountsOn (ps ++ qs) d n
counts_both ps qs d m n first next = λ high h.
    let o = order_front ps qs d.pictures high h in
    next high (order_lower qs o.0 m.pictures high (first o.0 o.1) o.2)

pub puts_both : (ps qs : List Piece) (d m n : Decoding) (h1 h2 h3 : Option (List ℕ)) → WerePut ps d h1 m h2 → WerePut qs m h2 n h3 → WerePut (ps ++ qs) d h1 n h3
puts_both ps qs d m n h1 h2 h3 first next = record {
  puts = λ later l l' b others so. (next.puts) later l l' b others ((first.puts) later l l' b (qs ++ others) (subst (λ (xs : List Piece). IsAhead later l l' b h1 xs d) (append_assoc ps qs others) so));
  counted = counts_both ps qs d m n first.counted next.counted;
  going = next.going;
  before = next.before;
}

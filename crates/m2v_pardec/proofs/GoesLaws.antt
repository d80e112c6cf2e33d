-- A batch taken and decoded: what stands behind it, and where decoding stops.
use Rattle.std.proofs.Common.{◌≡◌, ℕ, ◌+◌, ◌<◌, ◌≤◌, false, true, List, [], ◌∷◌, ◌++◌, length, Option, Some, None, sym, subst, arith}
use Rattle.std.proofs.lemmas.List.{append-nil}
use Rattle.m2v_model.specs.Pieces.{most_input}
use Rattle.m2v_dec_piece.specs.declared.answer.Piece.{Piece}
use Rattle.m2v_dec_piece.specs.declared.answer.DecodeError.{DecodeError}
use Rattle.m2v_dec_piece.specs.Sound.{IsSoundPiece, GoesOnward}
use Rattle.m2v_dec_piece.specs.Cutting.{Cutting, IsReading}
use Rattle.m2v_dec_piece.specs.Stepping.{Handed, Stopped, Keeps}
use Rattle.m2v_decode.specs.Decoding.{Decoding}
use Rattle.m2v_pardec.specs.declared.taking.Stop.{Stop}
use Rattle.m2v_pardec.specs.declared.taking.Stop.TheVariants.{More, End, Error}
use Rattle.m2v_pardec.specs.Ahead.{AreInOrder, behind, later_of, IsAhead, none, more, Takes}
use Rattle.m2v_pardec.specs.Put.{PutsAll, StopsBy, StandsBy, GoesOn, GoesWrong}
use Rattle.m2v_pardec.proofs.AheadLaws.{ahead_stopped, ahead_over, ahead_all}
use Rattle.m2v_pardec.proofs.PutLaws.{order_rises}

-- ---- what was taken

pub after_taken : (c : Cutting) (l : Option (List ℕ)) (ps qs : List Piece) (stop : Stop) (c' : Cutting) (l' bl b h : Option (List ℕ)) (d : Decoding) → Takes c l qs stop c' l' → IsAhead (behind c) bl l b h ps d → IsAhead (later_of stop c') bl l' b h (ps ++ qs) d
after_taken c l ps qs More c' l' bl b h d t so = ahead_all bl l b h c d ps qs c' l' so t.0
after_taken c l ps qs End c' l' bl b h d t so = ahead_over bl t.1 l' b h t.0 c' (ps ++ qs) d (ahead_all bl l b h c d ps qs t.0 t.1 so t.2) t.3
after_taken c l ps qs (Error e) c' l' bl b h d t so = ahead_stopped bl t.1 l' b h t.0 (ps ++ qs) d e (ahead_all bl l b h c d ps qs t.0 t.1 so t.2) t.3

pub order_strict : (ps : List Piece) (low high : ℕ) → 0 < length ps → AreInOrder low ps high → low < high
order_strict [] low high some h = absurd (omega (arith, some))
order_strict (p ∷ ps) low high some h = let rises = order_rises ps (p.place + p.length) high h.2 in omega (arith, h.0, (h.1).some, rises)

-- ---- a batch

pub goes_taken : (c : Cutting) (l : Option (List ℕ)) (ps : List Piece) (stop : Stop) (c' : Cutting) (l' h h' : Option (List ℕ)) (d n : Decoding) → Takes c l ps stop c' l' → PutsAll ps d h n h' → StandsBy stop c c' n → n.failed ≡ false → n.ended ≡ false → GoesOn c l h d stop c' l' h' n
goes_taken c l ps stop c' l' h h' d n t puts stands going before = record {
  ahead = λ bl b so. puts (later_of stop c') bl l' b [] (subst (λ (xs : List Piece). IsAhead (later_of stop c') bl l' b h xs d) (sym (append-nil ps)) (after_taken c l [] ps stop c' l' bl b h d t so));
  stands = stands;
  going = going;
  before = before;
}

pub wrong_taken : (failed : Type 0) (c : Cutting) (l : Option (List ℕ)) (ps : List Piece) (stop : Stop) (c' : Cutting) (l' h h' : Option (List ℕ)) (d : Decoding) (e : DecodeError) → Takes c l ps stop c' l' → StopsBy failed ps d h h' e → GoesWrong failed c l h d l' h' e
wrong_taken failed c l ps stop c' l' h h' d e t stops = λ bl b so.
    stops (later_of stop c') bl l' b [] (subst (λ (xs : List Piece). IsAhead (later_of stop c') bl l' b h xs d) (sym (append-nil ps)) (after_taken c l [] ps stop c' l' bl b h d t so))

-- ---- one piece

pub takes_one : (c : Cutting) (l : Option (List ℕ)) (p : Piece) (c' : Cutting) (l' : Option (List ℕ)) → Handed c l c' l' (Some p) → c'.begun ≡ true → Keeps c l c' l' → c'.failed ≡ false → Takes c l (p ∷ []) More c' l'
takes_one c l p c' l' handed begun keeps going = (more none handed begun keeps, going)

pub order_one : (c c' : Cutting) (p : Piece) (low : ℕ) → GoesOnward (Some p) c.place c'.place → IsSoundPiece p → low ≤ c.place → AreInOrder low (p ∷ []) c'.place
order_one c c' p low onward sound few = (omega (arith, onward.0, few), sound, omega (arith, onward.1))

pub stands_one : (c c' : Cutting) (p : Piece) (d n : Decoding) → GoesOnward (Some p) c.place c'.place → IsSoundPiece p → c'.failed ≡ false → d.pictures ≤ c.place → n.pictures ≤ d.pictures + p.length → StandsBy More c c' n
stands_one c c' p d n onward sound going few counted = (going, omega (arith, onward.0, onward.1, sound.some), omega (arith, onward.1, sound.end), omega (arith, onward.0, onward.1, few, counted))

-- ---- nothing more

pub goes_end : (c c' : Cutting) (l l' h : Option (List ℕ)) (d : Decoding) → Handed c l c' l' None → c'.ended ≡ true → c'.place ≤ most_input → d.failed ≡ false → d.ended ≡ false → GoesOn c l h d End c' l' h d
goes_end c c' l l' h d handed ended most going before = record {
  ahead = λ bl b so. ahead_over bl l l' b h c c' [] d so handed;
  stands = (ended, most);
  going = going;
  before = before;
}

pub goes_error : (c c' : Cutting) (l l' h : Option (List ℕ)) (d : Decoding) (e : DecodeError) → Stopped c l l' e → IsReading e → d.failed ≡ false → d.ended ≡ false → GoesOn c l h d (Error e) c' l' h d
goes_error c c' l l' h d e stops kind going before = record {
  ahead = λ bl b so. ahead_stopped bl l l' b h c [] d e so stops;
  stands = kind;
  going = going;
  before = before;
}

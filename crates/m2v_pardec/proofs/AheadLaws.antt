-- Pieces taken ahead: what stands after one more is taken or decoded, and where decoding stops.
use Rattle.std.proofs.Common.{◌≡◌, ℕ, ◌+◌, ◌≤◌, true, List, [], ◌∷◌, ◌++◌, length, map, Option, Some, None, refl, sym, ap, subst, ◌∙◌, append_assoc, arith}
use Rattle.std.proofs.lemmas.List.{append-nil, length-append, map-append}
use Rattle.m2v_port.specs.Ends.{Change}
use Rattle.m2v_port.specs.Port.{Moves, Grows, GrowsByPrefix}
use Rattle.m2v_port.proofs.Runs.{moves_on, grows_by_all}
use Rattle.m2v_plane.specs.Samples.{Samples}
use Rattle.m2v_model.specs.Pieces.{limit, most_input}
use Rattle.m2v_dec_piece.specs.declared.answer.Piece.{Piece}
use Rattle.m2v_dec_piece.specs.declared.answer.Fault.{Fault}
use Rattle.m2v_dec_piece.specs.declared.answer.DecodeError.{DecodeError}
use Rattle.m2v_dec_piece.specs.declared.answer.DecodeError.TheVariants as errors
use Rattle.m2v_dec_piece.specs.Sound.{IsSoundPiece}
use Rattle.m2v_dec_piece.specs.Cutting.{Cutting, left_of, start_of, IsReading, PieceStops}
use Rattle.m2v_dec_piece.specs.Stepping.{Handed, Stopped, Keeps, Why}
use Rattle.m2v_decode.specs.Decoding.{Decoding, Onward, Refuses, due_of, whole_of}
use Rattle.m2v_decode.specs.Answers.{IsCut, IsFaulty, IsOver, OfText, OfTaken, Fails}
use Rattle.m2v_decode.specs.Progress.{raw_of, Cuts, HasPut, Reached, Progress, IsDone}
use Rattle.m2v_decode.proofs.Going.{moved_some, written_on, reached_more, gave, start_place, due_cut, reached_cut, reached_later, faulty_at, over_at}
use Rattle.m2v_pardec.specs.Ahead.{AreTaken, Later, behind, ended, stopped, Knows, Waits, IsAhead, HandsOut, none, more, FailsBy}

-- ---- lists of pieces

pub taken_rises : (ps : List Piece) (a b : ℕ) → AreTaken a ps b → a ≤ b
taken_rises [] a b h = omega (arith, h)
taken_rises (p ∷ ps) a b h = let more = taken_rises ps (p.place + p.length) b h.3 in omega (arith, h.0, more)

taken_more : (ps : List Piece) (a b : ℕ) (p : Piece) → AreTaken a ps b → p.place ≡ b → p.length ≡ length (whole_of p) → limit p.place 0 (whole_of p) ≡ None → AreTaken a (ps ++ p ∷ []) (p.place + p.length)
taken_more [] a b p h at long fits = (at ∙ h, long, fits, refl)
taken_more (q ∷ ps) a b p h at long fits = (h.0, h.1, h.2, taken_more ps (q.place + q.length) b p h.3 at long fits)

wholes_more : (ps : List Piece) (p : Piece) (others : List (List ℕ)) → map whole_of (ps ++ p ∷ []) ++ others ≡ map whole_of ps ++ (whole_of p ∷ others)
wholes_more ps p others = ap (λ (l : List (List ℕ)). l ++ others) (map-append whole_of ps (p ∷ [])) ∙ append_assoc (map whole_of ps) (whole_of p ∷ []) others

-- ---- taking pieces

-- one piece more is taken
pub ahead_more : (l0 l1 l2 h0 h1 : Option (List ℕ)) (c c' : Cutting) (ps : List Piece) (p : Piece) (d : Decoding) → IsAhead (behind c) l0 l1 h0 h1 ps d → Handed c l1 c' l2 (Some p) → c'.begun ≡ true
    → Keeps c l1 c' l2 → IsAhead (behind c') l0 l2 h0 h1 (ps ++ p ∷ []) d
ahead_more l0 l1 l2 h0 h1 c c' ps p d so handed begun keeps = record {
  bytes = so.bytes ++ handed.bytes;
  moved = moves_on so.moved handed.moved;
  written = so.written;
  told = λ rest e.
      let mid = moved_some l1 l2 handed.bytes rest handed.moved e in
      let w = so.told (handed.bytes ++ rest) mid in
      let g = gave c handed.bytes rest c' p begun (handed.next rest e) in
      let all : List ℕ = so.bytes ++ (handed.bytes ++ rest) in
      let long : length (so.bytes ++ handed.bytes) ≡ length so.bytes + length handed.bytes = length-append so.bytes handed.bytes in
      let few : c'.place + length c'.unread ≤ length (so.bytes ++ handed.bytes) = omega (arith, keeps (handed.bytes ++ rest) rest mid e, (w.known).2, length-append handed.bytes rest, long) in
      let others : w.others ≡ whole_of p ∷ left_of c' rest = (w.known).1 ∙ g.pieces in
      record {
        start = w.start;
        next = p.place + p.length;
        others = left_of c' rest;
        reached =
            subst (λ (t : List ℕ). Reached (length (so.bytes ++ handed.bytes)) t w.start (map whole_of (ps ++ p ∷ []) ++ left_of c' rest) so.frames d) (sym (append_assoc so.bytes handed.bytes rest))
            (subst (λ (l : List (List ℕ)). Reached (length (so.bytes ++ handed.bytes)) all w.start l so.frames d) (ap (λ (l : List (List ℕ)). map whole_of ps ++ l) others ∙ sym (wholes_more ps p (left_of c' rest)))
            (reached_later (length so.bytes) (length (so.bytes ++ handed.bytes)) all w.start (map whole_of ps ++ w.others) so.frames d (omega (arith, long)) w.reached));
        pieces = taken_more ps w.start w.next p w.pieces (g.place ∙ sym (w.known).0) g.length g.fits;
        within = λ some. omega (arith, few, g.next, start_place c' rest begun);
        known = (sym g.next, refl, few);
      };
}

-- more bytes were read, and no piece taken of them
ahead_read : (l0 l1 l2 h0 h1 : Option (List ℕ)) (c : Cutting) (later : Later) (bytes : List ℕ) (ps : List Piece) (d : Decoding) → IsAhead (behind c) l0 l1 h0 h1 ps d → Moves l1 bytes l2
    → ((rest : List ℕ) → l2 ≡ Some rest → (taken : ℕ) → Knows later taken rest (start_of c (bytes ++ rest)) (left_of c (bytes ++ rest))) → IsAhead later l0 l2 h0 h1 ps d
ahead_read l0 l1 l2 h0 h1 c later bytes ps d so moved knows = record {
  bytes = so.bytes ++ bytes;
  moved = moves_on so.moved moved;
  written = so.written;
  told = λ rest e.
      let w = so.told (bytes ++ rest) (moved_some l1 l2 bytes rest moved e) in
      let long : length (so.bytes ++ bytes) ≡ length so.bytes + length bytes = length-append so.bytes bytes in
      let all = length (so.bytes ++ bytes) in
      record {
        start = w.start;
        next = w.next;
        others = w.others;
        reached =
            subst (λ (t : List ℕ). Reached all t w.start (map whole_of ps ++ w.others) so.frames d) (sym (append_assoc so.bytes bytes rest))
            (reached_later (length so.bytes) all _ w.start _ so.frames d (omega (arith, long)) w.reached);
        pieces = w.pieces;
        within = λ some. let within = w.within some in omega (arith, within, long);
        known = subst (λ (x : ℕ). Knows later all rest x w.others) (sym (w.known).0) (subst (λ (l : List (List ℕ)). Knows later all rest (start_of c (bytes ++ rest)) l) (sym (w.known).1) (knows rest e all));
      };
}

-- the cutter gives no piece, by an error
pub ahead_stopped : (l0 l1 l2 h0 h1 : Option (List ℕ)) (c : Cutting) (ps : List Piece) (d : Decoding) (e : DecodeError) → IsAhead (behind c) l0 l1 h0 h1 ps d → Stopped c l1 l2 e
    → IsAhead (stopped e) l0 l2 h0 h1 ps d
ahead_stopped l0 l1 l2 h0 h1 c ps d e so s = ahead_read l0 l1 l2 h0 h1 c (stopped e) s.bytes ps d so s.moved (λ rest q taken. s.why rest q)

-- no piece is left
pub ahead_over : (l0 l1 l2 h0 h1 : Option (List ℕ)) (c c' : Cutting) (ps : List Piece) (d : Decoding) → IsAhead (behind c) l0 l1 h0 h1 ps d → Handed c l1 c' l2 None
    → IsAhead (ended c') l0 l2 h0 h1 ps d
ahead_over l0 l1 l2 h0 h1 c c' ps d so handed =
    ahead_read l0 l1 l2 h0 h1 c (ended c') handed.bytes ps d so handed.moved (λ rest q taken. let next = handed.next rest q in (sym next.2, next.0))

-- pieces that a cutter hands out, one after another
pub ahead_all : (l0 l1 h0 h1 : Option (List ℕ)) (c : Cutting) (d : Decoding) (ps qs : List Piece) (c' : Cutting) (l2 : Option (List ℕ)) → IsAhead (behind c) l0 l1 h0 h1 ps d → HandsOut c l1 qs c' l2 → IsAhead (behind c') l0 l2 h0 h1 (ps ++ qs) d
ahead_all l0 l1 h0 h1 c d ps qs c' l2 so none = subst (λ (xs : List Piece). IsAhead (behind c) l0 l1 h0 h1 xs d) (sym (append-nil ps)) so
ahead_all l0 l1 h0 h1 c d ps qs c' l2 so (more {ps = rs} {p = p} {c1 = c1} {left1 = m} gone handed begun keeps) =
    subst (λ (xs : List Piece). IsAhead (behind c') l0 l2 h0 h1 xs d) (append_assoc ps rs (p ∷ []))
    (ahead_more l0 m l2 h0 h1 c1 c' (ps ++ rs) p d (ahead_all l0 l1 h0 h1 c d ps rs c1 m so gone) handed begun keeps)

-- ---- decoding under way

-- nothing was taken ahead
pub ahead_none : {left held : Change} {c : Cutting} {d : Decoding} → Progress left held c d → IsAhead (behind c) left.old left.new held.old held.new [] d
ahead_none {left} {held} {c} {d} so = record {
  bytes = so.bytes;
  moved = so.moved;
  written = so.written;
  told = λ rest e. record {
    start = start_of c rest;
    next = start_of c rest;
    others = left_of c rest;
    reached = so.told rest e;
    pieces = refl;
    within = λ some. absurd (omega arith);
    known = (refl, refl, so.taken rest e);
  };
}

-- the first of the pieces that were taken is the next one
next_reached : {later : Later} {taken : ℕ} {text rest : List ℕ} {p : Piece} {ps : List Piece} {frames : List Samples} {d : Decoding} → (w : Waits later taken text rest (p ∷ ps) frames d)
    → Reached taken text p.place (whole_of p ∷ (map whole_of ps ++ w.others)) frames d
next_reached {later} {taken} {text} {rest} {p} {ps} {frames} {d} w = subst (λ (x : ℕ). Reached taken text x (whole_of p ∷ (map whole_of ps ++ w.others)) frames d) (sym w.pieces.0) w.reached

-- the next piece was decoded, and the frames due then written
pub ahead_onward : (later : Later) (l0 l1 h0 h1 h2 : Option (List ℕ)) (p : Piece) (ps : List Piece) (d m n : Decoding) → IsAhead later l0 l1 h0 h1 (p ∷ ps) d → Onward d p.place (whole_of p) m → HasPut m n → Grows h1 (raw_of (due_of m)) h2
    → IsAhead later l0 l1 h0 h2 ps n
ahead_onward later l0 l1 h0 h1 h2 p ps d m n so a put grown = record {
  bytes = so.bytes;
  moved = so.moved;
  written = written_on so.written a put grown;
  told = λ rest e.
      let w = so.told rest e in
      let t = w.pieces in
      let here : p.place + length (whole_of p) ≡ p.place + p.length = ap (λ (x : ℕ). p.place + x) (sym t.1) in
      let rises = taken_rises ps (p.place + p.length) w.next t.3 in
      let within = w.within (omega arith) in
      record {
        start = p.place + p.length;
        next = w.next;
        others = w.others;
        reached = subst (λ (x : ℕ). Reached (length so.bytes) (so.bytes ++ rest) x (map whole_of ps ++ w.others) (so.frames ++ due_of m) n) here
            (reached_more (length so.bytes) (length so.bytes) (so.bytes ++ rest) p.place (whole_of p) (map whole_of ps ++ w.others) so.frames d m n (next_reached w) so.none t.2 a put (omega (arith, here, rises, within)));
        pieces = t.3;
        within = λ some. within;
        known = w.known;
      };
}

-- all that was taken was decoded, and no piece is left
pub ahead_done : (left held : Change) (c : Cutting) (d : Decoding) → IsAhead (ended c) left.old left.new held.old held.new [] d → c.ended ≡ true → c.place ≤ most_input → IsDone left held c d
ahead_done left held c d so over most = record {
  bytes = so.bytes;
  moved = so.moved;
  written = so.written;
  over = over;
  most = most;
  told = λ rest e.
      let w = so.told rest e in
      subst (λ (x : ℕ). Reached (length so.bytes) (so.bytes ++ rest) x [] so.frames d) (sym w.pieces ∙ w.known.0)
      (subst (λ (l : List (List ℕ)). Reached (length so.bytes) (so.bytes ++ rest) w.start l so.frames d) w.known.1 w.reached);
}

-- ---- where decoding stops

-- an endpoint by what it tells alone
abbrev itself : Option (List ℕ) → Option (List ℕ)
itself x = x

abbrev no_faults : Option (List ℕ) → ℕ
no_faults x = 0

abbrev plain : Type 0 → Option (List ℕ) → Option (List ℕ) → Change
plain failed old new = record { old = old; new = new; Failed = failed; Unchanged = ⊥ }

-- whether an endpoint failed makes no difference to what was written
abbrev told_of : Change → Type 0 → Type 0 → Change
told_of b failed unchanged = record { old = b.old; new = b.new; Failed = failed; Unchanged = unchanged }

cut_as : {bytes text : List ℕ} {f u : Type 0} (b : Change) → IsCut bytes text (told_of b f u) → IsCut bytes text b
cut_as b x = record { events = x.events; between = x.between; others = x.others; begun = x.begun; within = x.within; grown = x.grown }

faulty_as : {text : List ℕ} {fault : Fault} {f u : Type 0} (b : Change) → IsFaulty text (told_of b f u) fault → IsFaulty text b fault
faulty_as b x = record { fault = x.fault; start = x.start; events = x.events; between = x.between; others = x.others; begun = x.begun; here = x.here; grown = x.grown }

over_as : {text : List ℕ} {e : DecodeError} {f u : Type 0} (b : Change) → IsOver text (told_of b f u) e → IsOver text b e
over_as b x = record { events = x.events; between = x.between; others = x.others; begun = x.begun; over = x.over; grown = x.grown }

-- the frames that were written are those of whole pieces that were taken
pub ahead_cut : (failed : Type 0) (later : Later) (l0 l1 h0 h1 : Option (List ℕ)) (ps : List Piece) (d : Decoding) → IsAhead later l0 l1 h0 h1 ps d → OfTaken (plain ⊥ l0 l1) (λ bytes text. IsCut bytes text (plain failed h0 h1))
ahead_cut failed later l0 l1 h0 h1 ps d so = record {
  bytes = so.bytes;
  moved = so.moved;
  told = λ rest e.
      let w = so.told rest e in
      cut_as (plain failed h0 h1)
      (reached_cut itself no_faults itself no_faults (length so.bytes) so.bytes (so.bytes ++ rest) w.start _ so.frames d h0 h1 w.reached (omega arith) (grows_by_all so.grown));
}

-- the next piece is refused
pub ahead_refused : (failed : Type 0) (later : Later) (l0 l1 h0 h1 : Option (List ℕ)) (p : Piece) (ps : List Piece) (d : Decoding) (e : DecodeError) → IsAhead later l0 l1 h0 h1 (p ∷ ps) d → IsSoundPiece p → Refuses d p.place (whole_of p) e → FailsBy failed l0 l1 h0 h1 e
ahead_refused failed later l0 l1 h0 h1 p ps d errors.Read so sound why = absurd why
ahead_refused failed later l0 l1 h0 h1 p ps d errors.Write so sound why = absurd why
ahead_refused failed later l0 l1 h0 h1 p ps d errors.TooLong so sound why = absurd why
ahead_refused failed later l0 l1 h0 h1 p ps d errors.PictureTooLarge so sound why = absurd why
ahead_refused failed later l0 l1 h0 h1 p ps d errors.Memory so sound why = ahead_cut failed later l0 l1 h0 h1 (p ∷ ps) d so
ahead_refused failed later l0 l1 h0 h1 p ps d (errors.Stream f) so sound why = record {
  bytes = so.bytes;
  moved = so.moved;
  told = λ rest e.
      let w = so.told rest e in
      let t = w.pieces in
      faulty_as (plain failed h0 h1)
      (faulty_at itself no_faults itself no_faults (length so.bytes) (so.bytes ++ rest) p.place (whole_of p ∷ (map whole_of ps ++ w.others)) so.frames d h0 h1 f (next_reached w) so.grown (t.2, why) (omega (arith, sound.end)));
}

-- memory ran out
pub ahead_unmade : (failed : Type 0) (later : Later) (l0 l1 h0 h1 : Option (List ℕ)) (ps : List Piece) (d : Decoding) → IsAhead later l0 l1 h0 h1 ps d → FailsBy failed l0 l1 h0 h1 errors.Memory
ahead_unmade = ahead_cut

-- a prefix of the frames due behind a piece was written
due_text : (failed : Type 0) (later : Later) (l0 l1 h0 h1 h2 : Option (List ℕ)) (p : Piece) (ps : List Piece) (d m : Decoding) → IsAhead later l0 l1 h0 h1 (p ∷ ps) d → Onward d p.place (whole_of p) m → GrowsByPrefix h1 (raw_of (due_of m)) h2
    → OfTaken (plain ⊥ l0 l1) (λ bytes text. IsCut bytes text (plain failed h0 h2))
due_text failed later l0 l1 h0 h1 h2 p ps d m so a cut = record {
  bytes = so.bytes;
  moved = so.moved;
  told = λ rest e.
      let w = so.told rest e in
      let t = w.pieces in
      let rises = taken_rises ps (p.place + p.length) w.next t.3 in
      let within = w.within (omega arith) in
      cut_as (plain failed h0 h2)
      (due_cut itself no_faults itself no_faults (length so.bytes) so.bytes (so.bytes ++ rest) p.place (whole_of p) (map whole_of ps ++ w.others) so.frames d m h0 h1 h2 (next_reached w) so.none t.2 a (omega (arith, t.1, rises, within)) so.grown cut);
}

-- output failed behind a piece
pub ahead_unwritten : (failed : Type 0) (later : Later) (l0 l1 h0 : Option (List ℕ)) (out : Change) (p : Piece) (ps : List Piece) (d m : Decoding) (e : DecodeError) → (out.Failed → failed) → IsAhead later l0 l1 h0 out.old (p ∷ ps) d → Onward d p.place (whole_of p) m
    → Cuts (raw_of (due_of m)) out e → FailsBy failed l0 l1 h0 out.new e
ahead_unwritten failed later l0 l1 h0 out p ps d m errors.Read rose so a cut = absurd cut
ahead_unwritten failed later l0 l1 h0 out p ps d m errors.Write rose so a cut = (rose cut.0, due_text failed later l0 l1 h0 out.old out.new p ps d m so a cut.1)
ahead_unwritten failed later l0 l1 h0 out p ps d m (errors.Stream f) rose so a cut = absurd cut
ahead_unwritten failed later l0 l1 h0 out p ps d m errors.TooLong rose so a cut = absurd cut
ahead_unwritten failed later l0 l1 h0 out p ps d m errors.PictureTooLarge rose so a cut = absurd cut
ahead_unwritten failed later l0 l1 h0 out p ps d m errors.Memory rose so a cut = due_text failed later l0 l1 h0 out.old out.new p ps d m so a cut

-- ---- what is answered

text_as : (P Q : List ℕ → Type 0) (l : Change) → ((t : List ℕ) → P t → Q t) → OfText (plain ⊥ l.old l.new) P → OfText l Q
text_as P Q l f x = record { bytes = x.bytes; moved = x.moved; told = λ rest e. f (x.bytes ++ rest) (x.told rest e) }

taken_as : (P Q : List ℕ → List ℕ → Type 0) (l : Change) → ((b t : List ℕ) → P b t → Q b t) → OfTaken (plain ⊥ l.old l.new) P → OfTaken l Q
taken_as P Q l f x = record { bytes = x.bytes; moved = x.moved; told = λ rest e. f x.bytes (x.bytes ++ rest) (x.told rest e) }

-- whether output failed may be said by what follows from it
pub fails_weaker : (failed failed' : Type 0) (l0 l1 h0 h1 : Option (List ℕ)) (e : DecodeError) → (failed → failed') → FailsBy failed l0 l1 h0 h1 e → FailsBy failed' l0 l1 h0 h1 e
fails_weaker failed failed' l0 l1 h0 h1 errors.Read weaker x = absurd x.0
fails_weaker failed failed' l0 l1 h0 h1 errors.Write weaker x = (weaker x.0, taken_as _ _ (plain ⊥ l0 l1) (λ b t c. cut_as (plain failed' h0 h1) c) x.1)
fails_weaker failed failed' l0 l1 h0 h1 (errors.Stream f) weaker x = text_as _ _ (plain ⊥ l0 l1) (λ t c. faulty_as (plain failed' h0 h1) c) x
fails_weaker failed failed' l0 l1 h0 h1 errors.TooLong weaker x = text_as _ _ (plain ⊥ l0 l1) (λ t c. over_as (plain failed' h0 h1) c) x
fails_weaker failed failed' l0 l1 h0 h1 errors.PictureTooLarge weaker x = text_as _ _ (plain ⊥ l0 l1) (λ t c. over_as (plain failed' h0 h1) c) x
fails_weaker failed failed' l0 l1 h0 h1 errors.Memory weaker x = taken_as _ _ (plain ⊥ l0 l1) (λ b t c. cut_as (plain failed' h0 h1) c) x

-- why decoding stopped is the answer
pub fails_as : (failed : Type 0) (left held : Change) (e : DecodeError) → (failed → held.Failed) → FailsBy failed left.old left.new held.old held.new e → Fails left held e
fails_as failed left held errors.Read rose x = absurd x.0
fails_as failed left held errors.Write rose x = (rose x.0, taken_as _ _ left (λ b t c. cut_as held c) x.1)
fails_as failed left held (errors.Stream f) rose x = text_as _ _ left (λ t c. faulty_as held c) x
fails_as failed left held errors.TooLong rose x = text_as _ _ left (λ t c. over_as held c) x
fails_as failed left held errors.PictureTooLarge rose x = text_as _ _ left (λ t c. over_as held c) x
fails_as failed left held errors.Memory rose x = taken_as _ _ left (λ b t c. cut_as held c) x

-- all that was taken was decoded, and the cutter gives no piece, by an error
over_text : (l0 l1 h0 h1 : Option (List ℕ)) (d : Decoding) (e : DecodeError) → IsAhead (stopped e) l0 l1 h0 h1 [] d → ((x : ℕ) (l : List (List ℕ)) → Why x l e → PieceStops x l e) → OfText (plain ⊥ l0 l1) (λ text. IsOver text (plain ⊥ h0 h1) e)
over_text l0 l1 h0 h1 d e so is = record {
  bytes = so.bytes;
  moved = so.moved;
  told = λ rest q.
      let w = so.told rest q in
      over_as (plain ⊥ h0 h1)
      (over_at itself no_faults itself no_faults (length so.bytes) (so.bytes ++ rest) w.start w.others so.frames d h0 h1 e w.reached so.grown
      (is w.start w.others (subst (λ (x : ℕ). Why x w.others e) w.pieces w.known)));
}

pub ahead_unread : (left held : Change) (d : Decoding) (e : DecodeError) → (e ≡ errors.Read → left.Failed) → IsReading e → IsAhead (stopped e) left.old left.new held.old held.new [] d → Fails left held e
ahead_unread left held d errors.Read rose kind so = (rose refl, taken_as _ _ left (λ b t c. cut_as held c) (ahead_cut ⊥ (stopped errors.Read) _ _ _ _ [] d so))
ahead_unread left held d errors.Write rose kind so = absurd kind
ahead_unread left held d (errors.Stream f) rose kind so = absurd kind
ahead_unread left held d errors.TooLong rose kind so = text_as _ _ left (λ t c. over_as held c) (over_text _ _ _ _ d errors.TooLong so (λ x l w. w))
ahead_unread left held d errors.PictureTooLarge rose kind so = text_as _ _ left (λ t c. over_as held c) (over_text _ _ _ _ d errors.PictureTooLarge so (λ x l w. w))
ahead_unread left held d errors.Memory rose kind so = taken_as _ _ left (λ b t c. cut_as held c) (ahead_cut ⊥ (stopped errors.Memory) _ _ _ _ [] d so)

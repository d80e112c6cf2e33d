-- The pieces of a text on their way: what stands between two pieces, and where they stop.
use Rattle.std.proofs.Common.{◌≡◌, ◌⊎◌, inl, inr, ℕ, ◌+◌, ◌<◌, ◌≤◌, Bool, true, false, List, [], ◌∷◌, ◌++◌, length, Option, Some, None, Err, refl, sym, ap, subst, ◌∙◌, append_assoc, arith}
use Rattle.std.specs.Prelude.{◌&&◌, not}
use Rattle.std.proofs.lemmas.List.{length-append}
use Rattle.m2v_port.specs.Ends.{Change, change}
use Rattle.m2v_port.specs.Port.{Grows, GrowsByPrefix}
use Rattle.m2v_port.proofs.Runs.{rose_since, grows_by_nothing, prefix_of_more}
use Rattle.m2v_model.specs.Pieces.{Limit, too_long, too_large, most_input}
use Rattle.m2v_model.specs.declared.notes.Notes.{Notes}
use Rattle.m2v_model.specs.PieceNotes.{noted}
use Rattle.m2v_model.specs.Units.{joined}
use Rattle.m2v_model.specs.ByPieces.{Between, at_start, piece_read}
use Rattle.m2v_dec_piece.specs.declared.answer.Fault.{Fault}
use Rattle.m2v_dec_piece.specs.declared.answer.Piece.{Piece}
use Rattle.m2v_dec_piece.specs.declared.answer.DecodeError.{DecodeError}
use Rattle.m2v_dec_piece.specs.declared.answer.DecodeError.TheVariants as errors
use Rattle.m2v_dec_piece.specs.Cutting.{Cutting, IsReading, left_of, start_of, follows_of}
use Rattle.m2v_dec_piece.specs.Sound.{IsSoundPiece}
use Rattle.m2v_dec_piece.specs.Stepping.{Why, Handed, Stopped}
use Rattle.m2v_dec_piece.proofs.TextLaws.{left_whole}
use Rattle.m2v_strict.specs.m2v_check.m2v_decode.Decoding.{Decoding, at_start as first_decoding, between, Advanced, whole_of}
use Rattle.m2v_strict.specs.m2v_check.m2v_decode.Reading.{Reading, nothing_read, Follows}
use Rattle.m2v_strict.proofs.m2v_check.m2v_decode.EndLaws.{whole_length}
use Rattle.m2v_strict.proofs.m2v_check.m2v_decode.Following.{follows_none}
use Rattle.m2v_strict.proofs.m2v_check.m2v_decode.Going.{Gave, gave, moved_some}
use Rattle.m2v_audit.specs.Auditing.{Auditing, is_begun, cleared, after_piece}
use Rattle.m2v_audit.specs.Audited.{Audited, Telling, then_comes, begins_another, by_fault, by_fault_in, limit_at, by_limit, pieces_told}
use Rattle.m2v_audit.specs.Feeding.{with_again, again_of, comes_again}
use Rattle.m2v_audit.specs.Leading.{LeadsTo, IsCut, PieceTold, PieceCut, PieceFails, pieces_from, AreTold, HasFault, TextStops}
use Rattle.m2v_audit.proofs.LeadLaws.{leads_none, leads_on, leads_cut, cut_here, cut_there}
use Rattle.m2v_audit.proofs.PieceSteps.{piece_step, piece_fault, limit_step, too_long_at, too_large_at, end_step}

-- the pieces so far were told
pub record SoFar (left held : Change) (later : Bool) (a : Auditing) (c : Cutting) (optional : Bool) (a' : Auditing) (r' : Reading) (c' : Cutting) : Type 0 where
  pub decoder : Decoding
  pub follows : Follows r' decoder
  pub leads : LeadsTo left held (pieces_from later a at_start c) (pieces_from optional a' (between decoder) c')
  pub text : (rest : List ℕ) → left.new ≡ Some rest → follows_of c (leads.bytes ++ rest) ≡ follows_of c' rest
  pub place : c'.place + length c'.unread ≡ (c.place + length c.unread) + length leads.bytes
  pub some : ((c.place < c'.place) × (c'.begun ≡ true)) ⊎ ((optional ≡ later) × (between decoder ≡ at_start) × (c.place ≡ c'.place) × (a' ≡ a))

first_true : (a b : Bool) → (a && b) ≡ true → a ≡ true
first_true true b e = refl
first_true false b e = absurd (let d : true ≡ false = sym e in cc)

-- ---- a piece that was given

place_low : (p : Piece) → IsSoundPiece p → p.place ≤ most_input
place_low p sound = omega (arith, sound.end)

-- the next piece is the one that was given
next_is : (optional : Bool) (a : Auditing) (b : Between) (c c' : Cutting) (p : Piece) (bytes rest : List ℕ) → Gave c bytes rest c' p → (x : Telling)
    → pieces_from optional a b c x (bytes ++ rest) ≡ pieces_told x optional a b p.place (whole_of p ∷ left_of c' rest)
next_is optional a b c c' p bytes rest g x =
    ap (λ (at : ℕ). pieces_told x optional a b at (left_of c (bytes ++ rest))) (sym g.place) ∙ ap (pieces_told x optional a b p.place) g.pieces

told_next : (optional : Bool) (a : Auditing) (c c' : Cutting) (d m : Decoding) (p : Piece) (notes : Notes) (bytes rest : List ℕ) → Gave c bytes rest c' p → IsSoundPiece p → Advanced d p.place (whole_of p) notes m → (x : Telling)
    → pieces_from optional a (between d) c x (bytes ++ rest)
    ≡ then_comes (after_piece a p.place (whole_of p) (noted notes)).report.text (pieces_from false (cleared (after_piece a p.place (whole_of p) (noted notes))) (between m) c' x rest)
told_next optional a c c' d m p notes bytes rest g sound adv x =
    let whole = whole_of p in
    let told = after_piece a p.place whole (noted notes) in
    let end : p.place + length whole ≡ start_of c' rest = sym (g.next ∙ ap (λ (n : ℕ). p.place + n) g.length) in
    next_is optional a (between d) c c' p bytes rest g x
    ∙ piece_step x optional a (between d) (between m) p.place whole (left_of c' rest) adv.events (noted notes) (place_low p sound) g.fits adv.read adv.notes_are
    ∙ ap (λ (at : ℕ). then_comes told.report.text (pieces_told x false (cleared told) (between m) at (left_of c' rest))) end

fault_told : (optional : Bool) (a : Auditing) (c c' : Cutting) (d : Decoding) (p : Piece) (f : Fault) (bytes rest : List ℕ) → Gave c bytes rest c' p → IsSoundPiece p → piece_read (between d) (p.place + length (whole_of p)) (whole_of p) ≡ Err (f.kind, f.place)
    → (again : Bool) → begins_another a p.place (whole_of p) f.place ≡ again → (x : Telling) → pieces_from optional a (between d) c x (bytes ++ rest) ≡ by_fault_in again x a p.place (whole_of p) (left_of c' rest) (f.kind, f.place)
fault_told optional a c c' d p f bytes rest g sound fault again is x =
    next_is optional a (between d) c c' p bytes rest g x
    ∙ piece_fault x optional a (between d) p.place (whole_of p) (left_of c' rest) (f.kind, f.place) (place_low p sound) g.fits fault
    ∙ ap (λ (z : Bool). by_fault_in z x a p.place (whole_of p) (left_of c' rest) (f.kind, f.place)) is

module _ {S K : Type 0} (left : S → Option (List ℕ)) (input_faults : S → ℕ) (held : K → Option (List ℕ)) (output_faults : K → ℕ) where
  abbrev input : S → S → Change
  input = change left input_faults

  abbrev output : K → K → Change
  output = change held output_faults

  pub so_none : (i0 : S) (o0 : K) (later : Bool) (a : Auditing) (c : Cutting) → SoFar (input i0 i0) (output o0 o0) later a c later a nothing_read c
  unfolding leads_none
  so_none i0 o0 later a c = record {
    decoder = first_decoding;
    follows = follows_none;
    leads = leads_none left input_faults held output_faults i0 o0 (pieces_from later a at_start c);
    text = λ rest e. refl;
    place = omega arith;
    some = inr (refl, refl, refl, refl);
  }

  -- ---- one piece

  piece_leads : (i1 i2 : S) (o1 o2 : K) (optional : Bool) (r r' : Reading) (a a' : Auditing) (c c' : Cutting) (d : Decoding) (p : Piece) → (handed : Handed c (left i1) c' (left i2) (Some p)) → c'.begun ≡ true → IsSoundPiece p → (f : Follows r d)
      → (t : PieceTold r a p (output o1 o2) r' a') → LeadsTo (input i1 i2) (output o1 o2) (pieces_from optional a (between d) c) (pieces_from false a' (between (t.leads d f).behind) c')
  piece_leads i1 i2 o1 o2 optional r r' a a' c c' d p handed begun sound f t =
      let m = (t.leads d f).behind in
      let told = after_piece a p.place (whole_of p) (noted t.notes) in
      record {
        bytes = handed.bytes;
        moved = handed.moved;
        lines = told.report.text;
        grown = t.grown;
        told = λ rest e x.
            told_next optional a c c' d m p t.notes handed.bytes rest (gave c handed.bytes rest c' p begun (handed.next rest e)) sound (t.leads d f).advanced x
            ∙ ap (λ (y : Auditing). then_comes told.report.text (pieces_from false y (between m) c' x rest)) (sym t.auditing);
      }

  -- one piece more was told
  pub so_more : (i0 i1 i2 : S) (o0 o1 o2 : K) (later optional : Bool) (r r' : Reading) (a0 a a' : Auditing) (c0 c c' : Cutting) (p : Piece) → (so : SoFar (input i0 i1) (output o0 o1) later a0 c0 optional a r c) → (handed : Handed c (left i1) c' (left i2) (Some p)) → c'.begun ≡ true
      → IsSoundPiece p → c0.place ≤ c.place → c.place ≤ p.place → c'.place ≡ p.place + p.length → PieceTold r a p (output o1 o2) r' a' → SoFar (input i0 i2) (output o0 o2) later a0 c0 false a' r' c'
  unfolding leads_on piece_leads
  so_more i0 i1 i2 o0 o1 o2 later optional r r' a0 a a' c0 c c' p so handed begun sound low before after t =
      let led = t.leads so.decoder so.follows in
      record {
        decoder = led.behind;
        follows = led.follows;
        leads = leads_on left input_faults held output_faults i0 i1 i2 o0 o1 o2 _ _ _ so.leads (piece_leads i1 i2 o1 o2 optional r r' a a' c c' so.decoder p handed begun sound so.follows t);
        text = λ rest e.
            ap (follows_of c0) (append_assoc so.leads.bytes handed.bytes rest)
            ∙ so.text (handed.bytes ++ rest) (moved_some (left i1) (left i2) handed.bytes rest handed.moved e) ∙ handed.behind rest e;
        place = omega (arith, so.place, handed.place, length-append so.leads.bytes handed.bytes);
        some = inl (omega (arith, low, before, after, sound.some), begun);
      }

  -- ---- where they stop

  -- a sequence that has begun has a piece, and the pieces so far reach further than where it begins
  some_far : (later optional : Bool) (a0 a : Auditing) (c0 c c' : Cutting) (d : Decoding) → is_begun a0 ≡ false → c0.place ≤ c.place → ((c0.place < c.place) × (c.begun ≡ true)) ⊎ ((optional ≡ later) × (between d ≡ at_start) × (c0.place ≡ c.place) × (a ≡ a0))
      → (c.place < c'.place) ⊎ ((not (is_begun a) ≡ false) × (c.place ≤ c'.place)) → (c0.place < c'.place) ⊎ ((later ≡ false) × (c0.place ≤ c'.place))
  some_far later optional a0 a c0 c c' d none low so (inl lt) = inl (omega (arith, low, lt))
  some_far later optional a0 a c0 c c' d none low (inl lt) (inr (on, le)) = inl (let far = lt.0 in omega (arith, far, le))
  some_far later optional a0 a c0 c c' d none low (inr (is, at, same, still)) (inr (on, le)) =
      let off : not (is_begun a) ≡ true = ap (λ (y : Auditing). not (is_begun y)) still ∙ ap not none in
      absurd (let d : true ≡ false = sym off ∙ on in cc)

  pub stops_on : (i0 i1 i2 : S) (o0 o1 o2 : K) (later optional : Bool) (r : Reading) (a0 a a' : Auditing) (c0 c c' : Cutting) (e : DecodeError) → input_faults i0 ≤ input_faults i1 → output_faults o0 ≤ output_faults o1 → is_begun a0 ≡ false → c0.place ≤ c.place
      → (so : SoFar (input i0 i1) (output o0 o1) later a0 c0 optional a r c) → TextStops (input i1 i2) (output o1 o2) (pieces_from optional a (between so.decoder) c) (not (is_begun a)) c a' c' e
      → TextStops (input i0 i2) (output o0 o2) (pieces_from later a0 at_start c0) later c0 a' c' e
  unfolding leads_on
  stops_on i0 i1 i2 o0 o1 o2 later optional r a0 a a' c0 c c' errors.Read ins outs none low so s = (rose_since ins s.0, leads_cut left input_faults held output_faults i0 i1 i2 o0 o1 o2 _ _ so.leads s.1)
  stops_on i0 i1 i2 o0 o1 o2 later optional r a0 a a' c0 c c' errors.Write ins outs none low so s = (rose_since outs s.0, leads_cut left input_faults held output_faults i0 i1 i2 o0 o1 o2 _ _ so.leads s.1)
  stops_on i0 i1 i2 o0 o1 o2 later optional r a0 a a' c0 c c' (errors.Stream f) ins outs none low so s =
      let bytes = s.leads.bytes in
      record {
        pieces = s.pieces;
        leads = leads_on left input_faults held output_faults i0 i1 i2 o0 o1 o2 _ _ _ so.leads s.leads;
        text = λ rest e.
            ap (λ (t : List ℕ). s.pieces rest ++ t) (ap (follows_of c0) (append_assoc so.leads.bytes bytes rest) ∙ so.text (bytes ++ rest) (moved_some (left i1) (left i2) bytes rest s.leads.moved e))
            ∙ s.text rest e;
        place = omega (arith, so.place, s.place, length-append so.leads.bytes bytes);
        some = some_far later optional a0 a c0 c c' so.decoder none low so.some s.some;
        going = s.going;
      }
  stops_on i0 i1 i2 o0 o1 o2 later optional r a0 a a' c0 c c' errors.TooLong ins outs none low so s = leads_on left input_faults held output_faults i0 i1 i2 o0 o1 o2 _ _ (λ x rest. by_limit x a' too_long) so.leads s
  stops_on i0 i1 i2 o0 o1 o2 later optional r a0 a a' c0 c c' errors.PictureTooLarge ins outs none low so s = leads_on left input_faults held output_faults i0 i1 i2 o0 o1 o2 _ _ (λ x rest. by_limit x a' too_large) so.leads s
  stops_on i0 i1 i2 o0 o1 o2 later optional r a0 a a' c0 c c' errors.Memory ins outs none low so s = leads_cut left input_faults held output_faults i0 i1 i2 o0 o1 o2 _ _ so.leads s

  -- the cutter gave no piece, by a limit
  limit_stops : (i1 i2 : S) (o1 : K) (optional : Bool) (a : Auditing) (b : Between) (c : Cutting) (e : DecodeError) (l : Limit) → ((at : ℕ) (ps : List (List ℕ)) → Why at ps e → limit_at at ps ≡ Some l) → Stopped c (left i1) (left i2) e
      → LeadsTo (input i1 i2) (output o1 o1) (pieces_from optional a b c) (λ x rest. by_limit x a l)
  limit_stops i1 i2 o1 optional a b c e l is s = record {
    bytes = s.bytes;
    moved = s.moved;
    lines = [];
    grown = grows_by_nothing (held o1);
    told = λ rest here x. limit_step x optional a b _ _ l (is _ _ (s.why rest here));
  }

  -- the cutter gave no piece
  pub cutter_stops : (i1 i2 : S) (o1 : K) (optional later : Bool) (a : Auditing) (b : Between) (c c' : Cutting) (e : DecodeError) → (e ≡ errors.Read → (input i1 i2).Failed) → IsReading e → Stopped c (left i1) (left i2) e
      → TextStops (input i1 i2) (output o1 o1) (pieces_from optional a b c) later c a c' e
  cutter_stops i1 i2 o1 optional later a b c c' errors.Read rose kind s = (rose refl, cut_here left input_faults held output_faults i1 i2 o1 s.bytes _ s.moved)
  cutter_stops i1 i2 o1 optional later a b c c' errors.Write rose kind s = absurd kind
  cutter_stops i1 i2 o1 optional later a b c c' (errors.Stream f) rose kind s = absurd kind
  cutter_stops i1 i2 o1 optional later a b c c' errors.TooLong rose kind s = limit_stops i1 i2 o1 optional a b c errors.TooLong too_long too_long_at s
  cutter_stops i1 i2 o1 optional later a b c c' errors.PictureTooLarge rose kind s = limit_stops i1 i2 o1 optional a b c errors.PictureTooLarge too_large too_large_at s
  cutter_stops i1 i2 o1 optional later a b c c' errors.Memory rose kind s = cut_here left input_faults held output_faults i1 i2 o1 s.bytes _ s.moved

  piece_cut : (i1 i2 : S) (o1 o2 : K) (optional : Bool) (a : Auditing) (c c' : Cutting) (d : Decoding) (p : Piece) → Handed c (left i1) c' (left i2) (Some p) → c'.begun ≡ true → IsSoundPiece p → PieceCut d a p (output o1 o2)
      → IsCut (input i1 i2) (output o1 o2) (pieces_from optional a (between d) c)
  piece_cut i1 i2 o1 o2 optional a c c' d p handed begun sound t = record {
    bytes = handed.bytes;
    moved = handed.moved;
    told = λ rest e x.
        let is = told_next optional a c c' d (t.leads).behind p t.notes handed.bytes rest (gave c handed.bytes rest c' p begun (handed.next rest e)) sound (t.leads).advanced x in
        subst (λ (y : Audited). GrowsByPrefix (held o1) y.report (held o2)) (sym is) (prefix_of_more t.grown _);
  }

  -- a piece has a fault: it comes once more, or what is behind it comes next
  fault_at : (i1 i2 : S) (o1 o2 : K) (optional : Bool) (a : Auditing) (c c' : Cutting) (d : Decoding) (p : Piece) (f : Fault) → Handed c (left i1) c' (left i2) (Some p) → c'.begun ≡ true → c'.failed ≡ false → IsSoundPiece p → c.place ≤ p.place → c'.place ≡ p.place + p.length
      → piece_read (between d) (p.place + length (whole_of p)) (whole_of p) ≡ Err (f.kind, f.place) → held o2 ≡ held o1 → (again : Bool) → begins_another a p.place (whole_of p) f.place ≡ again
      → HasFault (input i1 i2) (output o1 o2) (pieces_from optional a (between d) c) (not (is_begun a)) c a (with_again (again_of again p) c') f
  unfolding with_again
  fault_at i1 i2 o1 o2 optional a c c' d p f handed begun going sound before after fault same true is =
      let whole = whole_of p in
      let most = whole_length p sound in
      record {
        pieces = λ rest. whole ++ joined (left_of c' rest);
        leads = record {
          bytes = handed.bytes;
          moved = handed.moved;
          lines = [];
          grown = subst (λ (y : Option (List ℕ)). Grows (held o1) [] y) (sym same) (grows_by_nothing (held o1));
          told = λ rest e x. fault_told optional a c c' d p f handed.bytes rest (gave c handed.bytes rest c' p begun (handed.next rest e)) sound fault true is x;
        };
        text = λ rest e.
            append_assoc whole (joined (left_of c' rest)) (follows_of c (handed.bytes ++ rest))
            ∙ ap (λ (t : List ℕ). whole ++ (joined (left_of c' rest) ++ t)) (handed.behind rest e)
            ∙ ap (λ (t : List ℕ). whole ++ t) (left_whole c' rest begun)
            ∙ sym (append_assoc whole c'.unread rest);
        place = omega (arith, handed.place, after, most, length-append whole c'.unread);
        some = inr (ap not (first_true (is_begun a) _ is), before);
        going = going;
      }
  fault_at i1 i2 o1 o2 optional a c c' d p f handed begun going sound before after fault same false is =
      let most = whole_length p sound in
      let end : p.place + length (whole_of p) ≡ c'.place = omega (arith, after, most) in
      record {
        pieces = λ rest. joined (left_of c' rest);
        leads = record {
          bytes = handed.bytes;
          moved = handed.moved;
          lines = [];
          grown = subst (λ (y : Option (List ℕ)). Grows (held o1) [] y) (sym same) (grows_by_nothing (held o1));
          told = λ rest e x.
              fault_told optional a c c' d p f handed.bytes rest (gave c handed.bytes rest c' p begun (handed.next rest e)) sound fault false is x
              ∙ ap (λ (at : ℕ). by_fault x a (f.kind, f.place) at (joined (left_of c' rest))) end;
        };
        text = λ rest e. ap (λ (t : List ℕ). joined (left_of c' rest) ++ t) (handed.behind rest e) ∙ left_whole c' rest begun;
        place = handed.place;
        some = inl (omega (arith, before, after, sound.some));
        going = going;
      }

  -- a piece was refused, or not written whole
  pub piece_stops : (i1 i2 : S) (o1 o2 : K) (optional : Bool) (a a' : Auditing) (c c' : Cutting) (d : Decoding) (p : Piece) (e : DecodeError) → Handed c (left i1) c' (left i2) (Some p) → c'.begun ≡ true → c'.failed ≡ false → IsSoundPiece p → c.place ≤ p.place → c'.place ≡ p.place + p.length
      → PieceFails d a p (output o1 o2) a' e → TextStops (input i1 i2) (output o1 o2) (pieces_from optional a (between d) c) (not (is_begun a)) c a' (with_again (again_of (comes_again (is_begun a') e p) p) c') e
  unfolding comes_again
  piece_stops i1 i2 o1 o2 optional a a' c c' d p errors.Read handed begun going sound before after h = absurd h
  piece_stops i1 i2 o1 o2 optional a a' c c' d p errors.Write handed begun going sound before after h = (h.0, piece_cut i1 i2 o1 o2 optional a c c' d p handed begun sound h.1)
  piece_stops i1 i2 o1 o2 optional a a' c c' d p (errors.Stream f) handed begun going sound before after h =
      subst (λ (y : Auditing). HasFault (input i1 i2) (output o1 o2) (pieces_from optional a (between d) c) (not (is_begun a)) c y (with_again (again_of (comes_again (is_begun y) (errors.Stream f) p) p) c') f) (sym h.1)
      (fault_at i1 i2 o1 o2 optional a c c' d p f handed begun going sound before after h.0 h.2 (begins_another a p.place (whole_of p) f.place) refl)
  piece_stops i1 i2 o1 o2 optional a a' c c' d p errors.TooLong handed begun going sound before after h = absurd h
  piece_stops i1 i2 o1 o2 optional a a' c c' d p errors.PictureTooLarge handed begun going sound before after h = absurd h
  piece_stops i1 i2 o1 o2 optional a a' c c' d p errors.Memory handed begun going sound before after (inl same) = cut_there left input_faults held output_faults i1 i2 o1 o2 handed.bytes _ handed.moved same
  piece_stops i1 i2 o1 o2 optional a a' c c' d p errors.Memory handed begun going sound before after (inr cut) = piece_cut i1 i2 o1 o2 optional a c c' d p handed begun sound cut

  -- ---- the last piece

  -- no piece was left
  pub so_all : (i0 i1 i2 : S) (o0 o1 : K) (later optional : Bool) (r : Reading) (a0 a : Auditing) (c0 c c' : Cutting) → (so : SoFar (input i0 i1) (output o0 o1) later a0 c0 optional a r c) → (handed : Handed c (left i1) c' (left i2) None) → c'.ended ≡ true
      → c'.place ≤ most_input → c.place ≤ c'.place → r.ended ≡ false → r.failed ≡ false → AreTold (input i0 i2) (output o0 o1) later a0 c0 optional a r c'
  unfolding leads_on
  so_all i0 i1 i2 o0 o1 later optional r a0 a c0 c c' so handed over most onward still sound =
      let b = between so.decoder in
      record {
        decoder = so.decoder;
        follows = so.follows;
        leads = leads_on left input_faults held output_faults i0 i1 i2 o0 o1 o1 _ (pieces_from optional a b c) _ so.leads (record {
          bytes = handed.bytes;
          moved = handed.moved;
          lines = [];
          grown = grows_by_nothing (held o1);
          told = λ rest e x.
              let next = handed.next rest e in
              ap (λ (ps : List (List ℕ)). pieces_told x optional a b (start_of c (handed.bytes ++ rest)) ps) next.0
              ∙ ap (λ (at : ℕ). pieces_told x optional a b at []) (sym next.2)
              ∙ end_step x optional a b c'.place most;
        });
        text = λ rest e.
            let there : follows_of c0 ((so.leads.bytes ++ handed.bytes) ++ rest) ≡ follows_of c' rest =
            ap (follows_of c0) (append_assoc so.leads.bytes handed.bytes rest)
            ∙ so.text (handed.bytes ++ rest) (moved_some (left i1) (left i2) handed.bytes rest handed.moved e) ∙ handed.behind rest e in
            rw over at there;
        place = omega (arith, so.place, handed.place, length-append so.leads.bytes handed.bytes);
        some = some_still so.some;
        still = still;
        sound = sound;
      }
    where
      some_still : ((c0.place < c.place) × (c.begun ≡ true)) ⊎ ((optional ≡ later) × (between so.decoder ≡ at_start) × (c0.place ≡ c.place) × (a ≡ a0)) → (c0.place < c'.place) ⊎ ((optional ≡ later) × (between so.decoder ≡ at_start) × (c0.place ≤ c'.place))
      some_still (inl lt) = inl (let far = lt.0 in omega (arith, far, onward))
      some_still (inr none) = inr (none.0, none.1, let same = none.2 in omega (arith, same, onward))

-- Piece after piece: what stands after one more, and where decoding stops.
use Rattle.std.proofs.Common.{◌≡◌, ℕ, ◌+◌, ◌≤◌, Bool, true, false, List, [], ◌∷◌, ◌++◌, length, Option, Some, None, option_to_list, Ok, Err, refl, sym, ap, subst, ◌∙◌, append_assoc, arith}
use Rattle.std.specs.Prelude.{if◌then◌else◌}
use Rattle.std.specs.Option.{option_map}
use Rattle.std.proofs.lemmas.List.{append-nil, length-append}
use Rattle.m2v_port.specs.Ends.{Change, change}
use Rattle.m2v_port.specs.Port.{Moves, Grows, GrowsByPrefix}
use Rattle.m2v_port.proofs.Runs.{rose_since, moves_on, moves_nothing, grows_on, grows_by_nothing, grows_by_all, prefix_on, prefix_of_more}
use Rattle.m2v_plane.specs.Samples.{Samples}
use Rattle.m2v_plane.specs.Raw.{raw}
use Rattle.m2v_model.specs.declared.fault.FaultKind.{FaultKind}
use Rattle.m2v_model.specs.Pictures.{Pictures, Events, pictures_in}
use Rattle.m2v_model.specs.declared.phase.Phase.TheVariants.{Before}
use Rattle.m2v_model.specs.Units.{Units, cut}
use Rattle.m2v_model.specs.Pieces.{limit, grouped, most_input}
use Rattle.m2v_model.specs.Decoding.{FaultAt, low_delay_of}
use Rattle.m2v_model.specs.ByPieces.{Between, at_start as nothing_read, Course, piece_read, behind as behind_events, continued, pieces_read, end_of}
use Rattle.m2v_model.proofs.PieceLaws.{pieces_read-append, rest_read, rest_none, rest_more, rest_read-append, text_rest, by_pieces}
use Rattle.m2v_dec_piece.specs.declared.answer.Piece.{Piece}
use Rattle.m2v_dec_piece.specs.declared.answer.Fault.{Fault}
use Rattle.m2v_dec_piece.specs.declared.answer.DecodeError.{DecodeError}
use Rattle.m2v_dec_piece.specs.declared.answer.DecodeError.TheVariants as errors
use Rattle.m2v_dec_piece.specs.Cutting.{Cutting, left_of, IsReading, PieceStops, open_start, open_pieces}
use Rattle.m2v_dec_piece.proofs.WholeLaws.{whole_is}
use Rattle.m2v_dec_piece.specs.Cutting.{start_of as start_of_rest}
use Rattle.m2v_dec_piece.specs.Sound.{IsSoundPiece}
use Rattle.m2v_dec_piece.specs.Stepping.{Handed, Stopped, NextPiece, Keeps}
use Rattle.m2v_model.specs.declared.notes.Notes.{Notes}
use Rattle.m2v_decode.specs.Decoding.{Decoding, at_start, between, due_of, dropped_in, Agrees, ShowsFrames, Advanced, Onward, Refuses, whole_of}
use Rattle.m2v_decode.specs.Answers.{start_of, AllFit, PiecesRead, place_behind, HasFault, due_before, shown_by, shown_so_far, IsFaulty, IsOver, IsCut, OfText, OfTaken, Fails}
use Rattle.m2v_decode.specs.Progress.{raw_of, before_all, Cuts, HasPut, Reached, Written, Progress, IsDone}
use Rattle.m2v_decode.proofs.Putting.{raw-append, stays_but}
use Rattle.m2v_model.proofs.EventLaws.{pictures_in-append}
use Rattle.m2v_decode.proofs.Showing.{shows_on, shows_none, shows_behind, dropped-append}
use Rattle.m2v_decode.proofs.Ordering.{due_is, shown_is, agrees}

-- ---- lists of pieces

end_more : (ps : List (List ℕ)) (at : ℕ) (p : List ℕ) → end_of at (ps ++ p ∷ []) ≡ end_of at ps + length p
unfolding end_of
end_more [] at p = refl
end_more (q ∷ ps) at p = end_more ps (at + length q) p

-- pieces end no earlier than they begin
pub ends_behind : (at : ℕ) (ps : List (List ℕ)) → at ≤ end_of at ps
unfolding end_of
ends_behind at [] = omega arith
ends_behind at (p ∷ ps) =
    let more : at + length p ≤ end_of (at + length p) ps = ends_behind (at + length p) ps in
    omega arith

fit_more : (ps : List (List ℕ)) (at : ℕ) (p : List ℕ) → AllFit at ps → limit (end_of at ps) 0 p ≡ None → AllFit at (ps ++ p ∷ [])
unfolding end_of
fit_more [] at p fit next = (next, tt)
fit_more (q ∷ ps) at p fit next = (fit.0, fit_more ps (at + length q) p fit.1 next)

pub read_more : (ps : List (List ℕ)) (at : ℕ) (p : List ℕ) (st mid last : Between) (xs ys : Events) → pieces_read st at ps ≡ Ok (xs, mid) → piece_read mid (end_of at ps + length p) p ≡ Ok (ys, last)
    → pieces_read st at (ps ++ p ∷ []) ≡ Ok (xs ++ ys, last)
unfolding pieces_read continued
read_more ps at p st mid last xs ys first next =
    pieces_read-append ps (p ∷ []) st at
    ∙ rw (first, next) (ap (λ (t : Events). Ok (xs ++ t, last)) (append-nil ys))

-- ---- bytes that were read

pub moved_some : (l1 l2 : Option (List ℕ)) (bytes rest : List ℕ) → Moves l1 bytes l2 → l2 ≡ Some rest → l1 ≡ Some (bytes ++ rest)
moved_some l1 l2 bytes rest m e = m.was ∙ ap (option_map (λ (t : List ℕ). bytes ++ t)) e

-- ---- one piece more

both_none : (xs ys : List Samples) → xs ++ ys ≡ [] → xs ≡ []
both_none [] ys e = refl
both_none (x ∷ xs) ys e = absurd cc

pub ready_none : (d : Decoding) → d.ended ≡ false → due_of d ≡ [] → d.ready ≡ []
ready_none d going none = both_none d.ready _ none

pub due_ready : (d : Decoding) → d.ended ≡ false → due_of d ≡ d.ready
due_ready d going = rw going (append-nil d.ready)

-- a decoder whose frames that are due were handed out
abbrev pub drained : Decoding → Decoding
drained d = record d { ready = []; shown = d.shown + length (due_of d) }

pub has_put : (d : Decoding) → d.ended ≡ false → HasPut d (drained d)
has_put d going = record {
  none = due_ready (drained d) going;
  stays = stays_but d [] (d.shown + length (due_of d));
  shown = refl;
}

-- a piece more was decoded, and the frames due then written
abbrev pub written_on : {h0 h1 h2 : Option (List ℕ)} {d m n : Decoding} {place : ℕ} {whole : List ℕ} → (so : Written h0 h1 d) → Onward d place whole m → HasPut m n → Grows h1 (raw_of (due_of m)) h2 → Written h0 h2 n
written_on {h0} {h1} {h2} {d} {m} {n} so a put grown = record {
  frames = so.frames ++ due_of m;
  grown = subst (λ (b : List ℕ). Grows h0 b h2) (sym (raw-append so.frames (due_of m))) (grows_on so.grown grown);
  shown = omega (arith, put.shown, a.shown, so.shown, length-append so.frames (due_of m));
  none = ready_none n (put.ended ∙ a.going) put.none;
  going = put.ended ∙ a.going;
  sound = put.failed ∙ a.sound;
}

begun_more : (text : List ℕ) (ps qs : Events) (mid last : Between) (whole : List ℕ) (others : List (List ℕ)) → (b : PiecesRead text ps mid (whole ∷ others)) → limit (place_behind b) 0 whole ≡ None
    → piece_read mid (place_behind b + length whole) whole ≡ Ok (qs, last) → PiecesRead text (ps ++ qs) last others
begun_more text ps qs mid last whole others b fits read = record {
  first = b.first ++ whole ∷ [];
  are = b.are ∙ sym (append_assoc b.first (whole ∷ []) others);
  fit = fit_more b.first (start_of text) whole b.fit fits;
  read = read_more b.first (start_of text) whole nothing_read mid last ps qs b.read read;
}

first_same : (low : Bool) (b z : Between) → z ≡ b → Agrees low z.state.first → Agrees low b.state.first
first_same low b z e a = subst (λ (x : Between). Agrees low x.state.first) e a

pub reached_more : (taken more : ℕ) (text : List ℕ) (start : ℕ) (whole : List ℕ) (others : List (List ℕ)) (frames : List Samples) (d m n : Decoding) → Reached taken text start (whole ∷ others) frames d → d.ready ≡ []
    → limit start 0 whole ≡ None → Onward d start whole m → HasPut m n → start + length whole ≤ more → Reached more text (start + length whole) others (frames ++ due_of m) n
unfolding begun_more
reached_more taken more text start whole others frames d m n r none fits a put within =
    let read : piece_read (between d) (place_behind r.begun + length whole) whole ≡ Ok (a.events, (between n)) =
    ap (λ (x : ℕ). piece_read (between d) (x + length whole) whole) (sym r.place) ∙ a.read ∙ ap (λ (z : Between). Ok (a.events, z)) (sym put.between_is) in
    let all : pictures_in (r.events ++ a.events) ≡ pictures_in r.events ++ pictures_in a.events = pictures_in-append r.events a.events in
    record {
      events = r.events ++ a.events;
      begun = begun_more text r.events a.events (between d) (between n) whole others r.begun (subst (λ (x : ℕ). limit x 0 whole ≡ None) r.place fits) read;
      place = ap (λ (x : ℕ). x + length whole) r.place ∙ sym (end_more (r.begun).first (start_of text) whole);
      within = λ some. within;
      shows = λ low agree.
          let agree_m = first_same low (between m) (between n) put.between_is agree in
          let second = subst (λ (x : List Samples). ShowsFrames low d.anchor x (pictures_in a.events) m.anchor m.ready) none (a.shows low agree_m) in
          subst (λ (x : List Samples). ShowsFrames low None [] (pictures_in (r.events ++ a.events)) n.anchor (frames ++ x)) (sym (due_ready m a.going))
          (subst (λ (x : Option Samples). ShowsFrames low None [] (pictures_in (r.events ++ a.events)) x (frames ++ m.ready)) (sym (put.anchor a.going))
          (subst (λ (ps : Pictures). ShowsFrames low None [] ps m.anchor (frames ++ m.ready)) (sym all)
          (shows_on low None d.anchor m.anchor [] frames (frames ++ m.ready) (pictures_in r.events) (pictures_in a.events) (r.shows low (a.first low agree_m)) (shows_behind low d.anchor m.anchor frames m.ready (pictures_in a.events) second))));
      counted =
          let more = ap length all in
          omega (arith, put.pictures, a.counted, r.counted, more, length-append (pictures_in r.events) (pictures_in a.events));
      dropped =
          let more = ap dropped_in all in
          omega (arith, put.dropped, a.dropped, r.dropped, more, dropped-append (pictures_in r.events) (pictures_in a.events));
    }

-- what a cutter that handed a piece out says of it, where the source tells its bytes
pub record Gave (c : Cutting) (bytes rest : List ℕ) (c' : Cutting) (p : Piece) : Type 0 where
  pub pieces : left_of c (bytes ++ rest) ≡ whole_of p ∷ left_of c' rest
  pub place : p.place ≡ start_of_rest c (bytes ++ rest)
  pub length : p.length ≡ length (whole_of p)
  pub fits : limit p.place 0 (whole_of p) ≡ None
  pub next : start_of_rest c' rest ≡ p.place + p.length

same : (b : Bool) (x : ℕ) → (if b then x else x) ≡ x
same true x = refl
same false x = refl

next_start : (c : Cutting) (rest : List ℕ) → c.begun ≡ true → start_of_rest c rest ≡ c.place
unfolding open_start
next_start c rest begun = rw begun (same c.ended c.place)

pub start_place : (c : Cutting) (rest : List ℕ) → c.begun ≡ true → start_of_rest c rest ≡ c.place
start_place = next_start

pub gave : (c : Cutting) (bytes rest : List ℕ) (c' : Cutting) (p : Piece) → c'.begun ≡ true → NextPiece (Some p) (start_of_rest c (bytes ++ rest)) (left_of c (bytes ++ rest)) c' (left_of c' rest) → Gave c bytes rest c' p
gave c bytes rest c' p begun h =
    let whole : List ℕ = h.0 in
    let is = whole_is p _ whole h.2 in
    record {
      pieces = h.1 ∙ ap (λ (w : List ℕ). w ∷ left_of c' rest) (sym is);
      place = (h.2).at;
      length = (h.2).length ∙ ap length (sym is);
      fits = subst (λ (w : List ℕ). limit p.place 0 w ≡ None) (sym is) (subst (λ (x : ℕ). limit x 0 whole ≡ None) (sym (h.2).at) (h.2).fits);
      next = next_start c' rest begun ∙ h.3;
    }

before_bytes : (bytes : List ℕ) (us : Units) → grouped Before [] us ≡ grouped Before bytes us
unfolding grouped
before_bytes bytes [] = refl
before_bytes bytes (u ∷ us) = refl

-- the frames that were written are those that are due
due_raw : (b : Between) (es : Events) (anchor : Option Samples) (frames : List Samples) → ((low : Bool) → Agrees low b.state.first → ShowsFrames low None [] (pictures_in es) anchor frames) → raw_of frames ≡ raw (due_before b es)
due_raw b es anchor frames s = ap raw (due_is (low_delay_of b.state.first) (pictures_in es) anchor frames (s (low_delay_of b.state.first) (agrees b.state.first)))

pub shown_raw : (b : Between) (es : Events) (anchor : Option Samples) (frames : List Samples) → ((low : Bool) → Agrees low b.state.first → ShowsFrames low None [] (pictures_in es) anchor frames)
    → raw (shown_by b es) ≡ raw_of frames ++ raw_of (option_to_list anchor)
shown_raw b es anchor frames s = sym (ap raw (shown_is (low_delay_of b.state.first) (pictures_in es) anchor frames (s (low_delay_of b.state.first) (agrees b.state.first)))) ∙ raw-append frames (option_to_list anchor)

continued_err : (r : Course) (next : Between → Course) (f : FaultKind × ℕ) → r ≡ Err f → continued r next ≡ Err f
unfolding continued
continued_err r next f e = rw e refl

-- the first fault of a text is looked at in the next piece
faulty_text : (text : List ℕ) (kind : FaultKind) (place : ℕ) (es : Events) (st : Between) (others : List (List ℕ)) → (b : PiecesRead text es st others) → HasFault st (place_behind b) others kind place → FaultAt text place kind
unfolding continued pieces_read
faulty_text text kind place es st [] b here = (by_pieces text).fault kind place (
    text_rest text ∙ ap (rest_read nothing_read (start_of text)) (b.are) ∙ rest_read-append b.first [] nothing_read (start_of text)
    ∙ rw b.read (ap (behind_events es) (rest_none st (place_behind b) ∙ here.1)))
faulty_text text kind place es st (p ∷ others) b here = (by_pieces text).fault kind place (
    text_rest text ∙ ap (rest_read nothing_read (start_of text)) (b.are) ∙ rest_read-append b.first (p ∷ others) nothing_read (start_of text)
    ∙ rw b.read (ap (behind_events es) (rest_more st (place_behind b) p others ∙ continued_err (piece_read st (place_behind b + length p) p) (λ next. rest_read next (place_behind b + length p) others) (kind, place) here.1)))

-- more bytes were taken
pub reached_later : (taken more : ℕ) (text : List ℕ) (start : ℕ) (others : List (List ℕ)) (frames : List Samples) (d : Decoding) → taken ≤ more → Reached taken text start others frames d → Reached more text start others frames d
reached_later taken more text start others frames d le r = record {
  events = r.events;
  begun = r.begun;
  place = r.place;
  within = λ some. let within = r.within some in omega (arith, within, le);
  shows = r.shows;
  counted = r.counted;
  dropped = r.dropped;
}

-- ---- between two pieces

module _ {S K : Type 0} (left : S → Option (List ℕ)) (input_faults : S → ℕ) (held : K → Option (List ℕ)) (output_faults : K → ℕ) where
  abbrev input : S → S → Change
  input = change left input_faults

  abbrev output : K → K → Change
  output = change held output_faults

  abbrev With : S → S → K → K → Cutting → Decoding → Type 0
  With i0 i1 o0 o1 c d = Progress (input i0 i1) (output o0 o1) c d

  pub progress_none : (i0 : S) (o0 : K) → With i0 i0 o0 o0 before_all at_start
  unfolding pieces_read end_of open_start open_pieces
  progress_none i0 o0 = record {
    bytes = [];
    moved = moves_nothing (left i0);
    written = record { frames = []; grown = grows_by_nothing (held o0); shown = refl; none = refl; going = refl; sound = refl };
    taken = λ rest e. omega arith;
    told = λ rest e. record {
      events = [];
      begun = record { first = []; are = before_bytes (cut 0 rest).0 (cut 0 rest).1; fit = tt; read = refl };
      place = omega arith;
      within = λ some. absurd (omega arith);
      shows = λ low agree. shows_none low None [];
      counted = refl;
      dropped = refl;
    };
  }

  -- what was taken behind one more call of the cutter
  taken_more : (i0 i1 i2 : S) (o0 o1 : K) (c c' : Cutting) (d : Decoding) (piece : Option Piece) → (so : With i0 i1 o0 o1 c d) → (handed : Handed c (left i1) c' (left i2) piece) → Keeps c (left i1) c' (left i2)
      → (rest : List ℕ) → (left i2) ≡ Some rest → c'.place + length c'.unread ≤ length (so.bytes ++ handed.bytes)
  taken_more i0 i1 i2 o0 o1 c c' d piece so handed keeps rest e =
      let mid = moved_some (left i1) (left i2) handed.bytes rest handed.moved e in
      omega (arith, keeps (handed.bytes ++ rest) rest mid e, so.taken (handed.bytes ++ rest) mid, length-append handed.bytes rest, length-append so.bytes handed.bytes)

  pub progress_more : (i0 i1 i2 : S) (o0 o1 o2 : K) (c c' : Cutting) (d m n : Decoding) (p : Piece) (notes : Notes) → With i0 i1 o0 o1 c d → Handed c (left i1) c' (left i2) (Some p) → c'.begun ≡ true
      → Keeps c (left i1) c' (left i2) → Advanced d p.place (whole_of p) notes m → HasPut m n → Grows (held o1) (raw_of (due_of m)) (held o2) → With i0 i2 o0 o2 c' n
  progress_more i0 i1 i2 o0 o1 o2 c c' d m n p notes so handed begun keeps a put grown = record {
    bytes = so.bytes ++ handed.bytes;
    moved = moves_on so.moved handed.moved;
    written = written_on so.written a.onward put grown;
    taken = taken_more i0 i1 i2 o0 o1 c c' d (Some p) so handed keeps;
    told = λ rest e.
        let g = gave c handed.bytes rest c' p begun (handed.next rest e) in
        let r = so.told (handed.bytes ++ rest) (moved_some (left i1) (left i2) handed.bytes rest handed.moved e) in
        let start : ℕ = start_of_rest c (handed.bytes ++ rest) in
        let r' = subst (λ (ps : List (List ℕ)). Reached (length so.bytes) (so.bytes ++ (handed.bytes ++ rest)) start ps so.frames d) g.pieces r in
        let a' = subst (λ (x : ℕ). Onward d x (whole_of p) m) g.place a.onward in
        let place : start + length (whole_of p) ≡ start_of_rest c' rest = sym (g.next ∙ ap (λ (x : ℕ). x + p.length) g.place ∙ ap (λ (x : ℕ). start + x) g.length) in
        let within = taken_more i0 i1 i2 o0 o1 c c' d (Some p) so handed keeps rest e in
        let more = reached_more (length so.bytes) (length (so.bytes ++ handed.bytes)) _ start (whole_of p) (left_of c' rest) so.frames d m n r' so.none (subst (λ (x : ℕ). limit x 0 (whole_of p) ≡ None) g.place g.fits) a' put (omega (arith, within, place, start_place c' rest begun)) in
        subst (λ (t : List ℕ). Reached (length (so.bytes ++ handed.bytes)) t (start_of_rest c' rest) (left_of c' rest) (so.frames ++ due_of m) n) (sym (append_assoc so.bytes handed.bytes rest))
        (subst (λ (x : ℕ). Reached (length (so.bytes ++ handed.bytes)) (so.bytes ++ (handed.bytes ++ rest)) x (left_of c' rest) (so.frames ++ due_of m) n) place more);
  }

  -- ---- where decoding stops

  abbrev Text : S → S → (List ℕ → Type 0) → Type 0
  Text i0 i1 Holds = OfText (input i0 i1) Holds

  abbrev Cut : S → S → K → K → Type 0
  Cut i0 i1 o0 o1 = OfTaken (input i0 i1) (λ bytes text. IsCut bytes text (output o0 o1))

  pub reached_cut : (taken : ℕ) (bytes text : List ℕ) (start : ℕ) (others : List (List ℕ)) (frames : List Samples) (d : Decoding) (o0 o1 : K) → Reached taken text start others frames d → taken ≤ length bytes → GrowsByPrefix (held o0) (raw_of frames) (held o1) → IsCut bytes text (output o0 o1)
  reached_cut taken bytes text start others frames d o0 o1 r le grown = record {
    events = r.events;
    between = (between d);
    others = others;
    begun = r.begun;
    within = λ some. let within = r.within some in omega (arith, within, r.place, le);
    grown = so_far others;
  }
    where
      -- what is due is a front of what is shown
      so_far : (ps : List (List ℕ)) → GrowsByPrefix (held o0) (raw (shown_so_far ps (between d) r.events)) (held o1)
      so_far [] = subst (λ (b : List ℕ). GrowsByPrefix (held o0) b (held o1)) (sym (shown_raw (between d) r.events d.anchor frames r.shows)) (prefix_of_more grown (raw_of (option_to_list d.anchor)))
      so_far (p ∷ ps) = subst (λ (b : List ℕ). GrowsByPrefix (held o0) b (held o1)) (due_raw (between d) r.events d.anchor frames r.shows) grown

  -- bytes were read, and nothing came of them
  pub moved_cut : (i0 i1 i2 : S) (o0 o1 : K) (c : Cutting) (d : Decoding) (bytes : List ℕ) → With i0 i1 o0 o1 c d → Moves (left i1) bytes (left i2) → Cut i0 i2 o0 o1
  moved_cut i0 i1 i2 o0 o1 c d bytes so moved = record {
    bytes = so.bytes ++ bytes;
    moved = moves_on so.moved moved;
    told = λ rest e.
        subst (λ (t : List ℕ). IsCut (so.bytes ++ bytes) t (output o0 o1)) (sym (append_assoc so.bytes bytes rest))
        (reached_cut (length so.bytes) (so.bytes ++ bytes) _ _ _ so.frames d o0 o1 (so.told (bytes ++ rest) (moved_some (left i1) (left i2) bytes rest moved e)) (omega (arith, length-append so.bytes bytes)) (grows_by_all so.grown));
  }

  pub over_at : (taken : ℕ) (text : List ℕ) (start : ℕ) (others : List (List ℕ)) (frames : List Samples) (d : Decoding) (o0 o1 : K) (e : DecodeError) → Reached taken text start others frames d → Grows (held o0) (raw_of frames) (held o1) → PieceStops start others e → IsOver text (output o0 o1) e
  over_at taken text start others frames d o0 o1 e r grown over = record {
    events = r.events;
    between = (between d);
    others = others;
    begun = r.begun;
    over = subst (λ (x : ℕ). PieceStops x others e) r.place over;
    grown = subst (λ (b : List ℕ). Grows (held o0) b (held o1)) (due_raw (between d) r.events d.anchor frames r.shows) grown;
  }

  over_text : (i0 i1 i2 : S) (o0 o1 : K) (c : Cutting) (d : Decoding) (bytes : List ℕ) (e : DecodeError) → With i0 i1 o0 o1 c d → Moves (left i1) bytes (left i2)
      → ((rest : List ℕ) → (left i2) ≡ Some rest → PieceStops (start_of_rest c (bytes ++ rest)) (left_of c (bytes ++ rest)) e) → Text i0 i2 (λ text. IsOver text (output o0 o1) e)
  over_text i0 i1 i2 o0 o1 c d bytes e so moved why = record {
    bytes = so.bytes ++ bytes;
    moved = moves_on so.moved moved;
    told = λ rest q.
        subst (λ (t : List ℕ). IsOver t (output o0 o1) e) (sym (append_assoc so.bytes bytes rest))
        (over_at _ _ _ _ so.frames d o0 o1 e (so.told (bytes ++ rest) (moved_some (left i1) (left i2) bytes rest moved q)) so.grown (why rest q));
  }

  -- the cutter gave no piece
  pub cutter_stopped : (i0 i1 i2 : S) (o0 o1 : K) (c : Cutting) (d : Decoding) (e : DecodeError) → (e ≡ errors.Read → (input i0 i2).Failed) → IsReading e
      → With i0 i1 o0 o1 c d → Stopped c (left i1) (left i2) e → Fails (input i0 i2) (output o0 o1) e
  cutter_stopped i0 i1 i2 o0 o1 c d errors.Read rose kind so s = (rose refl, moved_cut i0 i1 i2 o0 o1 c d s.bytes so s.moved)
  cutter_stopped i0 i1 i2 o0 o1 c d errors.Write rose kind so s = absurd kind
  cutter_stopped i0 i1 i2 o0 o1 c d (errors.Stream f) rose kind so s = absurd kind
  cutter_stopped i0 i1 i2 o0 o1 c d errors.TooLong rose kind so s = over_text i0 i1 i2 o0 o1 c d s.bytes errors.TooLong so s.moved s.why
  cutter_stopped i0 i1 i2 o0 o1 c d errors.PictureTooLarge rose kind so s = over_text i0 i1 i2 o0 o1 c d s.bytes errors.PictureTooLarge so s.moved s.why
  cutter_stopped i0 i1 i2 o0 o1 c d errors.Memory rose kind so s = moved_cut i0 i1 i2 o0 o1 c d s.bytes so s.moved

  pub faulty_at : (taken : ℕ) (text : List ℕ) (start : ℕ) (others : List (List ℕ)) (frames : List Samples) (d : Decoding) (o0 o1 : K) (f : Fault) → Reached taken text start others frames d → Grows (held o0) (raw_of frames) (held o1) → HasFault (between d) start others f.kind f.place → start ≤ most_input
      → IsFaulty text (output o0 o1) f
  faulty_at taken text start others frames d o0 o1 f r grown here le =
      let there = subst (λ (x : ℕ). HasFault (between d) x others f.kind f.place) r.place here in
      record {
        fault = faulty_text text f.kind f.place r.events (between d) others r.begun there;
        start =
            let low = ends_behind (start_of text) (r.begun).first in
            omega (arith, low, r.place, le);
        events = r.events;
        between = (between d);
        others = others;
        begun = r.begun;
        here = there;
        grown = subst (λ (b : List ℕ). Grows (held o0) b (held o1)) (due_raw (between d) r.events d.anchor frames r.shows) grown;
      }

  -- a piece that was given is the next one of those that are left
  given : (i0 i1 i2 : S) (o0 o1 : K) (c c' : Cutting) (d : Decoding) (p : Piece) → (so : With i0 i1 o0 o1 c d) → (handed : Handed c (left i1) c' (left i2) (Some p)) → c'.begun ≡ true → (rest : List ℕ) → (left i2) ≡ Some rest
      → Reached (length so.bytes) (so.bytes ++ (handed.bytes ++ rest)) p.place (whole_of p ∷ left_of c' rest) so.frames d × (limit p.place 0 (whole_of p) ≡ None) × (p.length ≡ length (whole_of p))
  given i0 i1 i2 o0 o1 c c' d p so handed begun rest e =
      let g = gave c handed.bytes rest c' p begun (handed.next rest e) in
      let r = so.told (handed.bytes ++ rest) (moved_some (left i1) (left i2) handed.bytes rest handed.moved e) in
      let r' = subst (λ (ps : List (List ℕ)). Reached (length so.bytes) (so.bytes ++ (handed.bytes ++ rest)) (start_of_rest c (handed.bytes ++ rest)) ps so.frames d) g.pieces r in
      (subst (λ (x : ℕ). Reached (length so.bytes) (so.bytes ++ (handed.bytes ++ rest)) x (whole_of p ∷ left_of c' rest) so.frames d) (sym g.place) r', g.fits, g.length)

  -- the decoder refused a piece
  pub piece_refused : (i0 i1 i2 : S) (o0 o1 : K) (c c' : Cutting) (d : Decoding) (p : Piece) (e : DecodeError) → With i0 i1 o0 o1 c d → Handed c (left i1) c' (left i2) (Some p) → c'.begun ≡ true → IsSoundPiece p
      → Refuses d p.place (whole_of p) e → Fails (input i0 i2) (output o0 o1) e
  piece_refused i0 i1 i2 o0 o1 c c' d p errors.Read so handed begun sound why = absurd why
  piece_refused i0 i1 i2 o0 o1 c c' d p errors.Write so handed begun sound why = absurd why
  piece_refused i0 i1 i2 o0 o1 c c' d p errors.TooLong so handed begun sound why = absurd why
  piece_refused i0 i1 i2 o0 o1 c c' d p errors.PictureTooLarge so handed begun sound why = absurd why
  piece_refused i0 i1 i2 o0 o1 c c' d p errors.Memory so handed begun sound why = moved_cut i0 i1 i2 o0 o1 c d handed.bytes so handed.moved
  piece_refused i0 i1 i2 o0 o1 c c' d p (errors.Stream f) so handed begun sound why = record {
    bytes = so.bytes ++ handed.bytes;
    moved = moves_on so.moved handed.moved;
    told = λ rest e.
        let g = given i0 i1 i2 o0 o1 c c' d p so handed begun rest e in
        subst (λ (t : List ℕ). IsFaulty t (output o0 o1) f) (sym (append_assoc so.bytes handed.bytes rest))
        (faulty_at _ _ p.place (whole_of p ∷ left_of c' rest) so.frames d o0 o1 f g.0 so.grown (g.1, why) (omega (arith, sound.end)));
  }

  -- a prefix of the frames due behind a piece was written
  pub due_cut : (taken : ℕ) (bytes text : List ℕ) (start : ℕ) (whole : List ℕ) (others : List (List ℕ)) (frames : List Samples) (d m : Decoding) (o0 o1 o2 : K) → Reached taken text start (whole ∷ others) frames d → d.ready ≡ []
      → limit start 0 whole ≡ None → Onward d start whole m → start + length whole ≤ length bytes → Grows (held o0) (raw_of frames) (held o1) → GrowsByPrefix (held o1) (raw_of (due_of m)) (held o2) → IsCut bytes text (output o0 o2)
  due_cut taken bytes text start whole others frames d m o0 o1 o2 r none fits a within grown cut =
      reached_cut (length bytes) bytes text (start + length whole) others (frames ++ due_of m) (drained m) o0 o2 (reached_more taken (length bytes) text start whole others frames d m (drained m) r none fits a (has_put m a.going) within) (omega arith)
      (subst (λ (b : List ℕ). GrowsByPrefix (held o0) b (held o2)) (sym (raw-append frames (due_of m))) (prefix_on grown cut))

  due_text : (i0 i1 i2 : S) (o0 o1 o2 : K) (c c' : Cutting) (d m : Decoding) (p : Piece) (notes : Notes) → With i0 i1 o0 o1 c d → Handed c (left i1) c' (left i2) (Some p) → c'.begun ≡ true → Keeps c (left i1) c' (left i2) → Advanced d p.place (whole_of p) notes m
      → GrowsByPrefix (held o1) (raw_of (due_of m)) (held o2) → Cut i0 i2 o0 o2
  due_text i0 i1 i2 o0 o1 o2 c c' d m p notes so handed begun keeps a cut = record {
    bytes = so.bytes ++ handed.bytes;
    moved = moves_on so.moved handed.moved;
    told = λ rest e.
        let g = given i0 i1 i2 o0 o1 c c' d p so handed begun rest e in
        let gone = gave c handed.bytes rest c' p begun (handed.next rest e) in
        let within = taken_more i0 i1 i2 o0 o1 c c' d (Some p) so handed keeps rest e in
        subst (λ (t : List ℕ). IsCut (so.bytes ++ handed.bytes) t (output o0 o2)) (sym (append_assoc so.bytes handed.bytes rest))
        (due_cut (length so.bytes) (so.bytes ++ handed.bytes) _ p.place (whole_of p) (left_of c' rest) so.frames d m o0 o1 o2 g.0 so.none g.1 a.onward (omega (arith, within, gone.next, g.2, start_place c' rest begun)) so.grown cut);
  }

  -- output failed behind a piece
  pub put_stopped : (i0 i1 i2 : S) (o0 o1 o2 : K) (c c' : Cutting) (d m : Decoding) (p : Piece) (notes : Notes) (e : DecodeError) → output_faults o0 ≤ output_faults o1
      → With i0 i1 o0 o1 c d → Handed c (left i1) c' (left i2) (Some p) → c'.begun ≡ true → Keeps c (left i1) c' (left i2) → Advanced d p.place (whole_of p) notes m
      → Cuts (raw_of (due_of m)) (output o1 o2) e → Fails (input i0 i2) (output o0 o2) e
  put_stopped i0 i1 i2 o0 o1 o2 c c' d m p notes errors.Read rises so handed begun keeps a cut = absurd cut
  put_stopped i0 i1 i2 o0 o1 o2 c c' d m p notes errors.Write rises so handed begun keeps a cut = (rose_since rises cut.0, due_text i0 i1 i2 o0 o1 o2 c c' d m p notes so handed begun keeps a cut.1)
  put_stopped i0 i1 i2 o0 o1 o2 c c' d m p notes (errors.Stream f) rises so handed begun keeps a cut = absurd cut
  put_stopped i0 i1 i2 o0 o1 o2 c c' d m p notes errors.TooLong rises so handed begun keeps a cut = absurd cut
  put_stopped i0 i1 i2 o0 o1 o2 c c' d m p notes errors.PictureTooLarge rises so handed begun keeps a cut = absurd cut
  put_stopped i0 i1 i2 o0 o1 o2 c c' d m p notes errors.Memory rises so handed begun keeps a cut = due_text i0 i1 i2 o0 o1 o2 c c' d m p notes so handed begun keeps a cut

  -- no piece was left
  pub pieces_done : (i0 i1 i2 : S) (o0 o1 : K) (c c' : Cutting) (d : Decoding) → With i0 i1 o0 o1 c d → Handed c (left i1) c' (left i2) None → c'.ended ≡ true → c'.place ≤ most_input → IsDone (input i0 i2) (output o0 o1) c' d
  pieces_done i0 i1 i2 o0 o1 c c' d so handed over most = record {
    bytes = so.bytes ++ handed.bytes;
    moved = moves_on so.moved handed.moved;
    written = so.written;
    over = over;
    most = most;
    told = λ rest e.
        let next = handed.next rest e in
        let r = so.told (handed.bytes ++ rest) (moved_some (left i1) (left i2) handed.bytes rest handed.moved e) in
        let more = length so.bytes in
        reached_later more (length (so.bytes ++ handed.bytes)) _ c'.place [] so.frames d (omega (arith, length-append so.bytes handed.bytes))
        (subst (λ (t : List ℕ). Reached more t c'.place [] so.frames d) (sym (append_assoc so.bytes handed.bytes rest))
        (subst (λ (x : ℕ). Reached more (so.bytes ++ (handed.bytes ++ rest)) x [] so.frames d) (sym next.2)
        (subst (λ (ps : List (List ℕ)). Reached more (so.bytes ++ (handed.bytes ++ rest)) (start_of_rest c (handed.bytes ++ rest)) ps so.frames d) next.0 r)));
  }

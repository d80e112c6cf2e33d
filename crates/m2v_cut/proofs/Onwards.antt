-- Pieces that are read behind others.
use Rattle.std.proofs.Common.{◌≡◌, ◌⊎◌, ℕ, ◌+◌, ◌<◌, ◌≤◌, Bool, true, false, List, [], ◌∷◌, ◌++◌, length, Option, Some, None, inl, inr, refl, sym, ap, subst, ◌∙◌, append_assoc, arith}
use Rattle.std.specs.Prelude.{if◌then◌else◌}
use Rattle.std.proofs.lemmas.List.{append-nil, length-append}
use Rattle.m2v_port.specs.Ends.{Change, change}
use Rattle.m2v_port.specs.Port.{Moves, Grows, GrowsByPrefix}
use Rattle.m2v_port.proofs.Runs.{moves_on, moves_nothing, grows_on, grows_by_nothing, grows_by_all, prefix_on, rose_since}
use Rattle.m2v_model.specs.Units.{cut, joined}
use Rattle.m2v_model.proofs.CutLaws.{cut_cuts, joined_bits}
use Rattle.m2v_model.specs.Pieces.{limit, most_input}
use Rattle.m2v_model.specs.ByPieces.{end_of}
use Rattle.m2v_decode.specs.m2v_dec_piece.declared.answer.Piece.{Piece}
use Rattle.m2v_decode.specs.m2v_dec_piece.declared.answer.DecodeError.{DecodeError}
use Rattle.m2v_decode.specs.m2v_dec_piece.declared.answer.DecodeError.TheVariants as reading
use Rattle.m2v_decode.specs.m2v_dec_piece.Cutting.{Cutting, left_of, IsReading, PieceStops}
use Rattle.m2v_decode.specs.m2v_dec_piece.Cutting.{start_of as start_of_rest}
use Rattle.m2v_decode.specs.m2v_dec_piece.Stepping.{Handed, Stopped, Keeps}
use Rattle.m2v_decode.specs.Decoding.{whole_of}
use Rattle.m2v_decode.specs.Answers.{AllFit}
use Rattle.m2v_decode.proofs.Going.{gave, moved_some}
use Rattle.m2v_cut.specs.declared.answer.CutError.{CutError}
use Rattle.m2v_cut.specs.declared.answer.CutError.TheVariants as errors
use Rattle.m2v_cut.specs.declared.copy.Copied.{Copied}
use Rattle.m2v_cut.specs.Answers.{units_of, groups_of}
use Rattle.m2v_cut.specs.Progress.{Led, Onward, ReadOn, RestPut, RestRead, RestCut, RestStops, RestFails, PutEnds, HasPut, Cuts, bytes_of, all_bytes, all_groups, all_lengths, reading_error}
use Rattle.m2v_decode.specs.m2v_dec_piece.Sound.{IsSoundPiece}
use Rattle.m2v_cut.specs.declared.look.FirstPicture.{FirstPicture}
use Rattle.m2v_cut.specs.Starts.{is_field_number, Second, SecondFails}
use Rattle.m2v_cut.proofs.Going.{start_place, groups_more, end_more, fit_more}
use Rattle.m2v_cut.proofs.Lefts.{end_less}

-- ---- lists of pieces

bytes_more : (ps : List (List ℕ)) (p : List ℕ) → all_bytes (ps ++ p ∷ []) ≡ all_bytes ps ++ bytes_of p
bytes_more [] p = append-nil (bytes_of p)
bytes_more (q ∷ ps) p = ap (λ (t : List ℕ). bytes_of q ++ t) (bytes_more ps p) ∙ sym (append_assoc (bytes_of q) (all_bytes ps) (bytes_of p))

lengths_more : (ps : List (List ℕ)) (p : List ℕ) → all_lengths (ps ++ p ∷ []) ≡ all_lengths ps + length (joined (units_of p))
lengths_more [] p = omega arith
lengths_more (q ∷ ps) p = omega (arith, lengths_more ps p)

pub units_length : (p : List ℕ) → length (joined (units_of p)) ≤ length p
units_length p =
    let c = cut_cuts p in
    omega (arith, end_less (cut 0 p).1, joined_bits (units_of p), joined_bits (cut 0 p).1, ap length c.whole, length-append (cut 0 p).0 (joined (cut 0 p).1))

led_none : (start : ℕ) (pieces : List (List ℕ)) → Led start pieces [] start pieces
unfolding end_of
led_none start pieces = record { are = refl; fit = tt; place = refl }

led_more : (start end : ℕ) (pieces read others : List (List ℕ)) (w : List ℕ) → Led start pieces read end (w ∷ others) → limit end 0 w ≡ None → Led start pieces (read ++ w ∷ []) (end + length w) others
led_more start end pieces read others w l fits = record {
  are = l.are ∙ sym (append_assoc read (w ∷ []) others);
  fit = fit_more read start w l.fit (subst (λ (x : ℕ). limit x 0 w ≡ None) l.place fits);
  place = ap (λ (x : ℕ). x + length w) l.place ∙ sym (end_more read start w);
}

-- ---- pieces that are read

-- a cutter is at a piece, or at the end
settled_place : (c : Cutting) (rest : List ℕ) → (c.begun ≡ true) ⊎ (c.ended ≡ true) → start_of_rest c rest ≡ c.place
settled_place c rest (inl begun) = start_place c rest begun
settled_place c rest (inr over) = rw over refl

pub onward_none : (old : Option (List ℕ)) (c : Cutting) → (c.begun ≡ true) ⊎ (c.ended ≡ true) → Onward old old c c []
onward_none old c begun = record {
  bytes = [];
  moved = moves_nothing old;
  keeps = λ text rest a b. let e : Some text ≡ Some rest = sym a ∙ b in let same : text ≡ rest = cc in omega (arith, ap length same);
  told = λ rest e. led_none (start_of_rest c rest) (left_of c rest);
  at = λ rest e. settled_place c rest begun;
}

pub keeps_on : (old mid new : Option (List ℕ)) (c0 c c' : Cutting) (bytes : List ℕ) → Keeps c0 old c mid → Moves mid bytes new → Keeps c mid c' new → Keeps c0 old c' new
keeps_on old mid new c0 c c' bytes a m b text rest x y =
    let z = moved_some mid new bytes rest m y in
    omega (arith, a text (bytes ++ rest) x z, b (bytes ++ rest) rest z y)

pub onward_more : (old mid new : Option (List ℕ)) (c0 c c' : Cutting) (read : List (List ℕ)) (p : Piece) → Onward old mid c0 c read → Handed c mid c' new (Some p) → c'.begun ≡ true → Keeps c mid c' new → Onward old new c0 c' (read ++ whole_of p ∷ [])
onward_more old mid new c0 c c' read p so handed begun keeps = record {
  bytes = so.bytes ++ handed.bytes;
  moved = moves_on so.moved handed.moved;
  keeps = keeps_on old mid new c0 c c' handed.bytes so.keeps handed.moved keeps;
  told = λ rest e.
      let g = gave c handed.bytes rest c' p begun (handed.next rest e) in
      let l = so.told (handed.bytes ++ rest) (moved_some mid new handed.bytes rest handed.moved e) in
      let start : ℕ = start_of_rest c (handed.bytes ++ rest) in
      let l' = subst (λ (ps : List (List ℕ)). Led (start_of_rest c0 (so.bytes ++ (handed.bytes ++ rest))) (left_of c0 (so.bytes ++ (handed.bytes ++ rest))) read start ps) g.pieces l in
      let place : start + length (whole_of p) ≡ start_of_rest c' rest = sym (g.next ∙ ap (λ (x : ℕ). x + p.length) g.place ∙ ap (λ (x : ℕ). start + x) g.length) in
      let more = led_more _ start _ read (left_of c' rest) (whole_of p) l' (subst (λ (x : ℕ). limit x 0 (whole_of p) ≡ None) g.place g.fits) in
      subst (λ (t : List ℕ). Led (start_of_rest c0 t) (left_of c0 t) (read ++ whole_of p ∷ []) (start_of_rest c' rest) (left_of c' rest)) (sym (append_assoc so.bytes handed.bytes rest))
      (subst (λ (x : ℕ). Led (start_of_rest c0 (so.bytes ++ (handed.bytes ++ rest))) (left_of c0 (so.bytes ++ (handed.bytes ++ rest))) (read ++ whole_of p ∷ []) x (left_of c' rest)) place more);
  at = λ rest e. start_place c' rest begun;
}

ended_left : (c : Cutting) (rest : List ℕ) → c.ended ≡ true → left_of c rest ≡ []
ended_left c rest over = rw over refl

ended_start : (c : Cutting) (rest : List ℕ) → c.ended ≡ true → start_of_rest c rest ≡ c.place
ended_start c rest over = rw over refl

pub onward_over : (old mid new : Option (List ℕ)) (c0 c c' : Cutting) (read : List (List ℕ)) → Onward old mid c0 c read → Handed c mid c' new None → c'.ended ≡ true → Keeps c mid c' new → Onward old new c0 c' read
onward_over old mid new c0 c c' read so handed over keeps = record {
  bytes = so.bytes ++ handed.bytes;
  moved = moves_on so.moved handed.moved;
  keeps = keeps_on old mid new c0 c c' handed.bytes so.keeps handed.moved keeps;
  told = λ rest e.
      let next = handed.next rest e in
      let l = so.told (handed.bytes ++ rest) (moved_some mid new handed.bytes rest handed.moved e) in
      let place : start_of_rest c (handed.bytes ++ rest) ≡ start_of_rest c' rest = sym next.2 ∙ sym (ended_start c' rest over) in
      let others : left_of c (handed.bytes ++ rest) ≡ left_of c' rest = next.0 ∙ sym next.1 in
      subst (λ (t : List ℕ). Led (start_of_rest c0 t) (left_of c0 t) read (start_of_rest c' rest) (left_of c' rest)) (sym (append_assoc so.bytes handed.bytes rest))
      (subst (λ (x : ℕ). Led (start_of_rest c0 (so.bytes ++ (handed.bytes ++ rest))) (left_of c0 (so.bytes ++ (handed.bytes ++ rest))) read x (left_of c' rest)) place
      (subst (λ (ps : List (List ℕ)). Led (start_of_rest c0 (so.bytes ++ (handed.bytes ++ rest))) (left_of c0 (so.bytes ++ (handed.bytes ++ rest))) read (start_of_rest c (handed.bytes ++ rest)) ps) others l));
  at = λ rest e. ended_start c' rest over;
}

-- ---- pieces that are written

-- some were written
pub record PuttingOn (most : ℕ) (old now : Copied) (left held : Change) (c0 c : Cutting) : Type 0 where
  pub mids : List (List ℕ)
  pub onward : Onward left.old left.new c0 c mids
  pub few : old.groups + all_groups mids ≤ most
  pub groups : now.groups ≡ old.groups + all_groups mids
  pub grown : Grows held.old (all_bytes mids) held.new
  pub bytes : now.bytes ≡ old.bytes + all_lengths mids

module _ {S K : Type 0} (left : S → Option (List ℕ)) (input_faults : S → ℕ) (held : K → Option (List ℕ)) (output_faults : K → ℕ) where
  abbrev input : S → S → Change
  input = change left input_faults

  abbrev output : K → K → Change
  output = change held output_faults

  pub put_none : (most : ℕ) (old : Copied) (i0 : S) (o0 : K) (c : Cutting) → (c.begun ≡ true) ⊎ (c.ended ≡ true) → old.groups ≤ most → PuttingOn most old old (input i0 i0) (output o0 o0) c c
  put_none most old i0 o0 c begun few = record {
    mids = [];
    onward = onward_none (left i0) c begun;
    few = omega (arith, few);
    groups = omega arith;
    grown = grows_by_nothing (held o0);
    bytes = omega arith;
  }

  pub put_more : (most : ℕ) (old now new : Copied) (i0 i1 i2 : S) (o0 o1 o2 : K) (c0 c c' : Cutting) (p : Piece) → PuttingOn most old now (input i0 i1) (output o0 o1) c0 c → Handed c (left i1) c' (left i2) (Some p) → c'.begun ≡ true → Keeps c (left i1) c' (left i2)
      → HasPut true (whole_of p) most now new (output o1 o2) → PuttingOn most old new (input i0 i2) (output o0 o2) c0 c'
  put_more most old now new i0 i1 i2 o0 o1 o2 c0 c c' p so handed begun keeps put =
      let g = groups_more so.mids (whole_of p) in
      let groups : new.groups ≡ now.groups + groups_of (whole_of p) = ap (λ (x : Copied). x.groups) put.0 in
      let bytes : new.bytes ≡ now.bytes + length (joined (units_of (whole_of p))) = ap (λ (x : Copied). x.bytes) put.0 in
      record {
        mids = so.mids ++ whole_of p ∷ [];
        onward = onward_more (left i0) (left i1) (left i2) c0 c c' so.mids p so.onward handed begun keeps;
        few = omega (arith, g, groups, so.groups, put.1);
        groups = omega (arith, g, groups, so.groups);
        grown = subst (λ (b : List ℕ). Grows (held o0) b (held o2)) (sym (bytes_more so.mids (whole_of p))) (grows_on so.grown put.2);
        bytes = omega (arith, bytes, so.bytes, lengths_more so.mids (whole_of p));
      }

  pub put_over : (most : ℕ) (old now : Copied) (i0 i1 i2 : S) (o0 o1 : K) (c0 c c' : Cutting) → PuttingOn most old now (input i0 i1) (output o0 o1) c0 c → Handed c (left i1) c' (left i2) None → c'.ended ≡ true → Keeps c (left i1) c' (left i2)
      → RestPut most old now (input i0 i2) (output o0 o1) c0 c'
  put_over most old now i0 i1 i2 o0 o1 c0 c c' so handed over keeps = record {
    mids = so.mids;
    last = [];
    onward = subst (Onward (left i0) (left i2) c0 c') (sym (append-nil so.mids)) (onward_over (left i0) (left i1) (left i2) c0 c c' so.mids so.onward handed over keeps);
    grown = so.grown;
    bytes = so.bytes;
    ends = (so.few, so.groups, λ rest e. ended_left c' rest over);
  }

  pub put_stops : (most : ℕ) (old now mid new : Copied) (i0 i1 i2 : S) (o0 o1 o2 : K) (c0 c c' : Cutting) (p : Piece) → PuttingOn most old now (input i0 i1) (output o0 o1) c0 c → Handed c (left i1) c' (left i2) (Some p) → c'.begun ≡ true → Keeps c (left i1) c' (left i2)
      → HasPut false (whole_of p) most now mid (output o1 o2) → new ≡ record { groups = most; bytes = mid.bytes } → RestPut most old new (input i0 i2) (output o0 o2) c0 c'
  put_stops most old now mid new i0 i1 i2 o0 o1 o2 c0 c c' p so handed begun keeps put is =
      let bytes : new.bytes ≡ now.bytes = ap (λ (x : Copied). x.bytes) is ∙ ap (λ (x : Copied). x.bytes) put.0 in
      record {
        mids = so.mids;
        last = whole_of p ∷ [];
        onward = onward_more (left i0) (left i1) (left i2) c0 c c' so.mids p so.onward handed begun keeps;
        grown = subst (λ (h : Option (List ℕ)). Grows (held o0) (all_bytes so.mids) h) (sym put.2) so.grown;
        bytes = omega (arith, bytes, so.bytes);
        ends = (refl, so.few, omega (arith, put.1, so.groups), ap (λ (x : Copied). x.groups) is);
      }

  -- ---- where it stops

  abbrev read_on : (i0 i1 i2 : S) (c0 c : Cutting) (read : List (List ℕ)) (bytes : List ℕ) → Onward (left i0) (left i1) c0 c read → Moves (left i1) bytes (left i2) → ReadOn (left i0) (left i2) c0 read
  read_on i0 i1 i2 c0 c read bytes so moved = record { between = left i1; then_is = c; onward = so; bytes = bytes; moved = moved }

  cut_at : (most : ℕ) (old now : Copied) (i0 i1 i2 : S) (o0 o1 : K) (c0 c : Cutting) (bytes : List ℕ) → PuttingOn most old now (input i0 i1) (output o0 o1) c0 c → Moves (left i1) bytes (left i2) → RestCut most old.groups (input i0 i2) (output o0 o1) c0
  cut_at most old now i0 i1 i2 o0 o1 c0 c bytes so moved = record { mids = so.mids; few = so.few; read = read_on i0 i1 i2 c0 c so.mids bytes so.onward moved; grown = grows_by_all so.grown }

  stops_at : (most : ℕ) (old now : Copied) (i0 i1 i2 : S) (o0 o1 : K) (c0 c : Cutting) (e : DecodeError) → (so : PuttingOn most old now (input i0 i1) (output o0 o1) c0 c) → (s : Stopped c (left i1) (left i2) e)
      → ((rest : List ℕ) → left i2 ≡ Some rest → PieceStops (start_of_rest c (s.bytes ++ rest)) (left_of c (s.bytes ++ rest)) e) → RestStops most old.groups (input i0 i2) (output o0 o1) c0 e
  stops_at most old now i0 i1 i2 o0 o1 c0 c e so s over = record { mids = so.mids; few = so.few; read = read_on i0 i1 i2 c0 c so.mids s.bytes so.onward s.moved; grown = so.grown; over = over }

  pub read_stopped : (most : ℕ) (old now : Copied) (i0 i1 i2 : S) (o0 o1 : K) (c0 c : Cutting) (e : DecodeError) → (e ≡ reading.Read → (input i0 i2).Failed) → IsReading e → PuttingOn most old now (input i0 i1) (output o0 o1) c0 c → Stopped c (left i1) (left i2) e
      → RestFails most old.groups (input i0 i2) (output o0 o1) c0 (reading_error e)
  read_stopped most old now i0 i1 i2 o0 o1 c0 c reading.Read rose kind so s = (rose refl, record { mids = so.mids; few = so.few; read = read_on i0 i1 i2 c0 c so.mids s.bytes so.onward s.moved; grown = so.grown })
  read_stopped most old now i0 i1 i2 o0 o1 c0 c reading.Write rose kind so s = absurd kind
  read_stopped most old now i0 i1 i2 o0 o1 c0 c (reading.Stream f) rose kind so s = absurd kind
  read_stopped most old now i0 i1 i2 o0 o1 c0 c reading.TooLong rose kind so s = stops_at most old now i0 i1 i2 o0 o1 c0 c reading.TooLong so s s.why
  read_stopped most old now i0 i1 i2 o0 o1 c0 c reading.PictureTooLarge rose kind so s = stops_at most old now i0 i1 i2 o0 o1 c0 c reading.PictureTooLarge so s s.why
  read_stopped most old now i0 i1 i2 o0 o1 c0 c reading.Memory rose kind so s = cut_at most old now i0 i1 i2 o0 o1 c0 c s.bytes so s.moved

  -- the piece wasn't written whole; it holds few headers
  piece_cut : (most : ℕ) (old now : Copied) (i0 i1 i2 : S) (o0 o1 o2 : K) (c0 c c' : Cutting) (p : Piece) → PuttingOn most old now (input i0 i1) (output o0 o1) c0 c → Handed c (left i1) c' (left i2) (Some p) → c'.begun ≡ true → Keeps c (left i1) c' (left i2)
      → now.groups + groups_of (whole_of p) ≤ most → GrowsByPrefix (held o1) (bytes_of (whole_of p)) (held o2) → RestCut most old.groups (input i0 i2) (output o0 o2) c0
  piece_cut most old now i0 i1 i2 o0 o1 o2 c0 c c' p so handed begun keeps few cut = record {
    mids = so.mids ++ whole_of p ∷ [];
    few = omega (arith, groups_more so.mids (whole_of p), so.groups, few);
    read = read_on i0 i2 i2 c0 c' (so.mids ++ whole_of p ∷ []) [] (onward_more (left i0) (left i1) (left i2) c0 c c' so.mids p so.onward handed begun keeps) (moves_nothing (left i2));
    grown = subst (λ (b : List ℕ). GrowsByPrefix (held o0) b (held o2)) (sym (bytes_more so.mids (whole_of p))) (prefix_on so.grown cut);
  }

  pub put_stopped : (most : ℕ) (old now : Copied) (i0 i1 i2 : S) (o0 o1 o2 : K) (c0 c c' : Cutting) (p : Piece) (e : CutError) → output_faults o0 ≤ output_faults o1 → PuttingOn most old now (input i0 i1) (output o0 o1) c0 c → Handed c (left i1) c' (left i2) (Some p) → c'.begun ≡ true → Keeps c (left i1) c' (left i2)
      → (now.groups + groups_of (whole_of p) ≤ most) × Cuts (bytes_of (whole_of p)) (output o1 o2) e → RestFails most old.groups (input i0 i2) (output o0 o2) c0 e
  put_stopped most old now i0 i1 i2 o0 o1 o2 c0 c c' p errors.Write le so handed begun keeps cut = (rose_since le cut.1.0, piece_cut most old now i0 i1 i2 o0 o1 o2 c0 c c' p so handed begun keeps cut.0 cut.1.1)
  put_stopped most old now i0 i1 i2 o0 o1 o2 c0 c c' p errors.Memory le so handed begun keeps cut = piece_cut most old now i0 i1 i2 o0 o1 o2 c0 c c' p so handed begun keeps cut.0 cut.1
  put_stopped most old now i0 i1 i2 o0 o1 o2 c0 c c' p _ le so handed begun keeps cut = absurd cut.1

-- ---- a second piece

pub second_stopped : {S : Type 0} (left : S → Option (List ℕ)) (faults : S → ℕ) (i0 i1 : S) (c : Cutting) (e : DecodeError) → c.begun ≡ true → (e ≡ reading.Read → (change left faults i0 i1).Failed) → IsReading e → Stopped c (left i0) (left i1) e
    → SecondFails (change left faults i0 i1) c (reading_error e)
second_stopped left faults i0 i1 c reading.Read begun rose kind s = (rose refl, record { between = left i0; then_is = c; onward = onward_none (left i0) c (inl begun); bytes = s.bytes; moved = s.moved })
second_stopped left faults i0 i1 c reading.Write begun rose kind s = absurd kind
second_stopped left faults i0 i1 c (reading.Stream f) begun rose kind s = absurd kind
second_stopped left faults i0 i1 c reading.TooLong begun rose kind s = record { read = record { between = left i0; then_is = c; onward = onward_none (left i0) c (inl begun); bytes = s.bytes; moved = s.moved }; over = s.why }
second_stopped left faults i0 i1 c reading.PictureTooLarge begun rose kind s = record { read = record { between = left i0; then_is = c; onward = onward_none (left i0) c (inl begun); bytes = s.bytes; moved = s.moved }; over = s.why }
second_stopped left faults i0 i1 c reading.Memory begun rose kind s = record { between = left i0; then_is = c; onward = onward_none (left i0) c (inl begun); bytes = s.bytes; moved = s.moved }

pub no_second : (f : FirstPicture) (old : Option (List ℕ)) (c : Cutting) → c.begun ≡ true → is_field_number f.structure ≡ false → Second f old old c c None
no_second f old c begun off = record { onward = onward_none old c (inl begun); is = inl off }

pub second_over : (f : FirstPicture) (old new : Option (List ℕ)) (c c' : Cutting) → c.begun ≡ true → Handed c old c' new None → c'.ended ≡ true → Keeps c old c' new → Second f old new c c' None
second_over f old new c c' begun handed over keeps = record { onward = onward_over old old new c c c' [] (onward_none old c (inl begun)) handed over keeps; is = inr (λ rest e. ended_left c' rest over) }

pub second_more : (f : FirstPicture) (old new : Option (List ℕ)) (c c' : Cutting) (p : Piece) → c.begun ≡ true → is_field_number f.structure ≡ true → Handed c old c' new (Some p) → c'.begun ≡ true → Keeps c old c' new → IsSoundPiece p → Second f old new c c' (Some p)
second_more f old new c c' p begun on handed after keeps sound = record { onward = onward_more old old new c c c' [] p (onward_none old c (inl begun)) handed after keeps; is = (on, sound) }

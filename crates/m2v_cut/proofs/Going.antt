-- Piece after piece: what was read then, and where reading stops.
use Rattle.std.proofs.Common.{◌≡◌, ℕ, ◌+◌, ◌-◌, ◌<◌, ◌≤◌, Bool, true, false, List, [], ◌∷◌, ◌++◌, length, Option, Some, None, refl, sym, ap, subst, ◌∙◌, append_assoc, inl, inr, arith}
use Rattle.std.specs.Prelude.{if◌then◌else◌}
use Rattle.std.proofs.lemmas.List.{append-nil, length-append}
use Rattle.m2v_port.specs.Ends.{Change, change}
use Rattle.m2v_port.specs.Port.{Moves}
use Rattle.m2v_port.proofs.Runs.{moves_on, moves_nothing}
use Rattle.m2v_model.specs.declared.phase.Phase.TheVariants.{Before}
use Rattle.m2v_model.specs.Units.{cut}
use Rattle.m2v_model.specs.Pieces.{pieces, limit, grouped, most_input}
use Rattle.m2v_model.specs.ByPieces.{end_of}
use Rattle.m2v_decode.specs.m2v_dec_piece.declared.answer.Piece.{Piece}
use Rattle.m2v_decode.specs.m2v_dec_piece.declared.answer.DecodeError.{DecodeError}
use Rattle.m2v_decode.specs.m2v_dec_piece.declared.answer.DecodeError.TheVariants as reading
use Rattle.m2v_decode.specs.m2v_dec_piece.Cutting.{Cutting, left_of, IsReading, PieceStops, open_start, open_pieces}
use Rattle.m2v_decode.specs.m2v_dec_piece.Cutting.{start_of as start_of_rest}
use Rattle.m2v_decode.specs.m2v_dec_piece.Sound.{IsSoundPiece}
use Rattle.m2v_decode.specs.m2v_dec_piece.Stepping.{Handed, Stopped, NextPiece, Keeps}
use Rattle.m2v_decode.specs.Decoding.{whole_of}
use Rattle.m2v_decode.specs.Answers.{start_of, AllFit, OfText, OfTaken}
use Rattle.m2v_decode.specs.Progress.{before_all}
use Rattle.m2v_decode.proofs.Going.{Gave, gave, moved_some, ends_behind}
use Rattle.m2v_decode.proofs.AnswerLaws.{ends_low}
use Rattle.m2v_cut.specs.declared.answer.CutError.{CutError}
use Rattle.m2v_cut.specs.declared.answer.CutError.TheVariants as errors
use Rattle.m2v_cut.specs.declared.find.Found.{Found}
use Rattle.m2v_cut.specs.Answers.{groups_of}
use Rattle.m2v_cut.specs.Progress.{Reached, Progress, IsFound, Stops, StopsBefore, HasFew, FindFails, all_groups, are_some, reading_error}

-- ---- lists of pieces

pub end_more : (ps : List (List ℕ)) (at : ℕ) (p : List ℕ) → end_of at (ps ++ p ∷ []) ≡ end_of at ps + length p
unfolding end_of
end_more [] at p = refl
end_more (q ∷ ps) at p = end_more ps (at + length q) p

pub fit_more : (ps : List (List ℕ)) (at : ℕ) (p : List ℕ) → AllFit at ps → limit (end_of at ps) 0 p ≡ None → AllFit at (ps ++ p ∷ [])
unfolding end_of
fit_more [] at p fit next = (next, tt)
fit_more (q ∷ ps) at p fit next = (fit.0, fit_more ps (at + length q) p fit.1 next)

pub groups_more : (ps : List (List ℕ)) (p : List ℕ) → all_groups (ps ++ p ∷ []) ≡ all_groups ps + groups_of p
groups_more [] p = omega arith
groups_more (q ∷ ps) p = omega (arith, groups_more ps p)

some_more : (ps : List (List ℕ)) (p : List ℕ) → are_some (ps ++ p ∷ []) ≡ true
some_more [] p = refl
some_more (q ∷ ps) p = refl

before_bytes : (bytes : List ℕ) (us : List (List ℕ)) → grouped Before [] us ≡ grouped Before bytes us
unfolding grouped
before_bytes bytes [] = refl
before_bytes bytes (u ∷ us) = refl

-- a cutter at a piece
pub start_place : (c : Cutting) (rest : List ℕ) → c.begun ≡ true → start_of_rest c rest ≡ c.place
unfolding open_start
start_place c rest begun = rw begun (same c.ended c.place)
  where
    same : (b : Bool) (x : ℕ) → (if b then x else x) ≡ x
    same true x = refl
    same false x = refl

-- ---- one piece more

reached_more : (taken more : ℕ) (text : List ℕ) (start : ℕ) (whole : List ℕ) (others first : List (List ℕ)) → Reached taken text start (whole ∷ others) first
    → limit start 0 whole ≡ None → start + length whole ≤ more → Reached more text (start + length whole) others (first ++ whole ∷ [])
reached_more taken more text start whole others first r fits within = record {
  are = r.are ∙ sym (append_assoc first (whole ∷ []) others);
  fit = fit_more first (start_of text) whole r.fit (subst (λ (x : ℕ). limit x 0 whole ≡ None) r.place fits);
  place = ap (λ (x : ℕ). x + length whole) r.place ∙ sym (end_more first (start_of text) whole);
  within = λ some. within;
}

-- The input's states are i0, i1 and so on.
module _ {S : Type 0} (left : S → Option (List ℕ)) (input_faults : S → ℕ) where
  abbrev input : S → S → Change
  input = change left input_faults

  abbrev With : S → S → Cutting → List (List ℕ) → Type 0
  With i0 i1 c first = Progress (input i0 i1) c first

  pub progress_none : (i0 : S) → With i0 i0 before_all []
  unfolding end_of open_start open_pieces
  progress_none i0 = record {
    bytes = [];
    moved = moves_nothing (left i0);
    taken = λ rest e. omega arith;
    told = λ rest e. record {
      are = before_bytes (cut 0 rest).0 (cut 0 rest).1;
      fit = tt;
      place = omega arith;
      within = λ some. absurd (omega arith);
    };
  }

  -- what was taken behind one more call of the cutter
  taken_more : (i0 i1 i2 : S) (c c' : Cutting) (first : List (List ℕ)) (piece : Option Piece) → (so : With i0 i1 c first) → (handed : Handed c (left i1) c' (left i2) piece) → Keeps c (left i1) c' (left i2)
      → (rest : List ℕ) → (left i2) ≡ Some rest → c'.place + length c'.unread ≤ length (so.bytes ++ handed.bytes)
  taken_more i0 i1 i2 c c' first piece so handed keeps rest e =
      let mid = moved_some (left i1) (left i2) handed.bytes rest handed.moved e in
      omega (arith, keeps (handed.bytes ++ rest) rest mid e, so.taken (handed.bytes ++ rest) mid, length-append handed.bytes rest, length-append so.bytes handed.bytes)

  pub progress_more : (i0 i1 i2 : S) (c c' : Cutting) (first : List (List ℕ)) (p : Piece) → With i0 i1 c first → Handed c (left i1) c' (left i2) (Some p) → c'.begun ≡ true
      → Keeps c (left i1) c' (left i2) → With i0 i2 c' (first ++ whole_of p ∷ [])
  progress_more i0 i1 i2 c c' first p so handed begun keeps = record {
    bytes = so.bytes ++ handed.bytes;
    moved = moves_on so.moved handed.moved;
    taken = taken_more i0 i1 i2 c c' first (Some p) so handed keeps;
    told = λ rest e.
        let g = gave c handed.bytes rest c' p begun (handed.next rest e) in
        let r = so.told (handed.bytes ++ rest) (moved_some (left i1) (left i2) handed.bytes rest handed.moved e) in
        let start : ℕ = start_of_rest c (handed.bytes ++ rest) in
        let r' = subst (λ (ps : List (List ℕ)). Reached (length so.bytes) (so.bytes ++ (handed.bytes ++ rest)) start ps first) g.pieces r in
        let place : start + length (whole_of p) ≡ start_of_rest c' rest = sym (g.next ∙ ap (λ (x : ℕ). x + p.length) g.place ∙ ap (λ (x : ℕ). start + x) g.length) in
        let within = taken_more i0 i1 i2 c c' first (Some p) so handed keeps rest e in
        let more = reached_more (length so.bytes) (length (so.bytes ++ handed.bytes)) _ start (whole_of p) (left_of c' rest) first r' (subst (λ (x : ℕ). limit x 0 (whole_of p) ≡ None) g.place g.fits) (omega (arith, within, place, start_place c' rest begun)) in
        subst (λ (t : List ℕ). Reached (length (so.bytes ++ handed.bytes)) t (start_of_rest c' rest) (left_of c' rest) (first ++ whole_of p ∷ [])) (sym (append_assoc so.bytes handed.bytes rest))
        (subst (λ (x : ℕ). Reached (length (so.bytes ++ handed.bytes)) (so.bytes ++ (handed.bytes ++ rest)) x (left_of c' rest) (first ++ whole_of p ∷ [])) place more);
  }

  -- ---- where reading stops

  -- the cutter stopped at a limit
  pub stops_text : (i0 i1 i2 : S) (c : Cutting) (first : List (List ℕ)) (e : DecodeError) → (so : With i0 i1 c first) → (s : Stopped c (left i1) (left i2) e)
      → ((rest : List ℕ) → (left i2) ≡ Some rest → PieceStops (start_of_rest c (s.bytes ++ rest)) (left_of c (s.bytes ++ rest)) e) → OfText (input i0 i2) (λ text. Stops text first e)
  stops_text i0 i1 i2 c first e so s why = record {
    bytes = so.bytes ++ s.bytes;
    moved = moves_on so.moved s.moved;
    told = λ rest q.
        let r = so.told (s.bytes ++ rest) (moved_some (left i1) (left i2) s.bytes rest s.moved q) in
        subst (λ (t : List ℕ). Stops t first e) (sym (append_assoc so.bytes s.bytes rest))
        (record {
          others = left_of c (s.bytes ++ rest);
          are = r.are;
          fit = r.fit;
          over = subst (λ (x : ℕ). PieceStops x (left_of c (s.bytes ++ rest)) e) r.place (why rest q);
        });
  }

  before_text : (i0 i2 : S) (from : ℕ) (first : List (List ℕ)) (e : DecodeError) → all_groups first ≤ from → OfText (input i0 i2) (λ text. Stops text first e) → OfText (input i0 i2) (λ text. StopsBefore from text e)
  before_text i0 i2 from first e few t = record { bytes = t.bytes; moved = t.moved; told = λ rest q. record { first = first; few = few; stops = t.told rest q } }

  -- bytes were read
  pub read_text : (i0 i1 i2 : S) (c : Cutting) (first : List (List ℕ)) (bytes : List ℕ) → With i0 i1 c first → Moves (left i1) bytes (left i2) → OfTaken (input i0 i2) (λ bytes text. Unit {0})
  read_text i0 i1 i2 c first bytes so moved = record { bytes = so.bytes ++ bytes; moved = moves_on so.moved moved; told = λ rest e. tt }

  pub find_stopped : (i0 i1 i2 : S) (from : ℕ) (c : Cutting) (first : List (List ℕ)) (e : DecodeError) → (e ≡ reading.Read → (input i0 i2).Failed) → IsReading e → all_groups first ≤ from
      → With i0 i1 c first → Stopped c (left i1) (left i2) e → FindFails from (input i0 i2) (reading_error e)
  find_stopped i0 i1 i2 from c first reading.Read rose kind few so s = (rose refl, read_text i0 i1 i2 c first s.bytes so s.moved)
  find_stopped i0 i1 i2 from c first reading.Write rose kind few so s = absurd kind
  find_stopped i0 i1 i2 from c first (reading.Stream f) rose kind few so s = absurd kind
  find_stopped i0 i1 i2 from c first reading.TooLong rose kind few so s = before_text i0 i2 from first reading.TooLong few (stops_text i0 i1 i2 c first reading.TooLong so s s.why)
  find_stopped i0 i1 i2 from c first reading.PictureTooLarge rose kind few so s = before_text i0 i2 from first reading.PictureTooLarge few (stops_text i0 i1 i2 c first reading.PictureTooLarge so s s.why)
  find_stopped i0 i1 i2 from c first reading.Memory rose kind few so s = read_text i0 i1 i2 c first s.bytes so s.moved

  -- no piece was left
  pub progress_over : (i0 i1 i2 : S) (c c' : Cutting) (first : List (List ℕ)) → With i0 i1 c first → (handed : Handed c (left i1) c' (left i2) None) → c'.ended ≡ true → Keeps c (left i1) c' (left i2) → With i0 i2 c' first
  progress_over i0 i1 i2 c c' first so handed over keeps = record {
    bytes = so.bytes ++ handed.bytes;
    moved = moves_on so.moved handed.moved;
    taken = taken_more i0 i1 i2 c c' first None so handed keeps;
    told = λ rest e.
        let next = handed.next rest e in
        let r = so.told (handed.bytes ++ rest) (moved_some (left i1) (left i2) handed.bytes rest handed.moved e) in
        let start : ℕ = start_of_rest c (handed.bytes ++ rest) in
        let r' = subst (λ (ps : List (List ℕ)). Reached (length so.bytes) (so.bytes ++ (handed.bytes ++ rest)) start ps first) (next.0 ∙ sym next.1) r in
        let place : start ≡ start_of_rest c' rest = sym (rw over (next.2)) in
        let more : Reached (length (so.bytes ++ handed.bytes)) (so.bytes ++ (handed.bytes ++ rest)) start (left_of c' rest) first = record {
          are = r'.are;
          fit = r'.fit;
          place = r'.place;
          within = λ some. let w = r'.within some in omega (arith, w, length-append so.bytes handed.bytes);
        } in
        subst (λ (t : List ℕ). Reached (length (so.bytes ++ handed.bytes)) t (start_of_rest c' rest) (left_of c' rest) first) (sym (append_assoc so.bytes handed.bytes rest))
        (subst (λ (x : ℕ). Reached (length (so.bytes ++ handed.bytes)) (so.bytes ++ (handed.bytes ++ rest)) x (left_of c' rest) first) place more);
  }

  pub find_none : (i0 i1 i2 : S) (from have need : ℕ) (c c' : Cutting) (first : List (List ℕ)) → With i0 i1 c first → (handed : Handed c (left i1) c' (left i2) None) → c'.ended ≡ true → c'.place ≤ most_input
      → all_groups first ≤ from → have ≡ all_groups first → need ≡ from + 1 → OfText (input i0 i2) (HasFew from have need)
  find_none i0 i1 i2 from have need c c' first so handed over most few is needs = record {
    bytes = so.bytes ++ handed.bytes;
    moved = moves_on so.moved handed.moved;
    told = λ rest e.
        let next = handed.next rest e in
        let r = so.told (handed.bytes ++ rest) (moved_some (left i1) (left i2) handed.bytes rest handed.moved e) in
        let all : pieces (so.bytes ++ (handed.bytes ++ rest)) ≡ first = r.are ∙ ap (λ (ps : List (List ℕ)). first ++ ps) next.0 ∙ append-nil first in
        let text : List ℕ = so.bytes ++ (handed.bytes ++ rest) in
        let low = ends_behind (start_of text) first in
        subst (HasFew from have need) (sym (append_assoc so.bytes handed.bytes rest))
        (record {
          have_is = is ∙ ap all_groups (sym all);
          need_is = needs;
          few = omega (arith, is, few);
          start = omega (arith, low, r.place, next.2, most);
          fit = subst (AllFit (start_of text)) (sym all) r.fit;
        });
  }

-- a group is looked for, and these pieces were read
pub record Finding (from : ℕ) (left : Change) (c : Cutting) (before : ℕ) (behind : Bool) : Type 0 where
  pub first : List (List ℕ)
  pub few : all_groups first ≤ from
  pub before_is : before ≡ all_groups first
  pub behind_is : behind ≡ are_some first
  pub progress : Progress left c first

pub finding_more : (from : ℕ) (left : Change) (c : Cutting) (before groups : ℕ) (p : List ℕ) (first : List (List ℕ)) → all_groups first ≤ from → before ≡ all_groups first → groups ≡ groups_of p → groups ≤ from - before → Progress left c (first ++ p ∷ [])
    → Finding from left c (before + groups) true
finding_more from left c before groups p first few is counted le so = record {
  first = first ++ p ∷ [];
  few = omega (arith, groups_more first p, few, is, counted, le);
  before_is = omega (arith, groups_more first p, is, counted);
  behind_is = sym (some_more first p);
  progress = so;
}

-- Where the units of a piece stand in its bytes.
use Rattle.std.proofs.Common.{◌≡◌, ℕ, ◌+◌, ◌-◌, ◌*◌, ◌/◌, ◌≤◌, ◌<◌, true, List, [], ◌∷◌, ◌++◌, length, take, drop, replicate, get_or, Ok, refl, sym, ap, ◌∙◌, append_assoc, arith, ◌⊎◌, inl, inr}
use Rattle.std.specs.Prelude.{vec_len}
use Rattle.std.proofs.Math.Seq.{drop-append_seam, take-append_seam, get_or-append_right}
use Rattle.std.proofs.lemmas.Bool.{cases_lt}
use Rattle.std.proofs.lemmas.List.{length-append, get_or-append-add, get_or_append_left, get_or-replicate}
use Rattle.m2v_model.specs.declared.state.State.{State}
use Rattle.m2v_model.specs.Units.{Units, cut, joined, unit_bits}
use Rattle.m2v_model.specs.Streams.{Part, value_of}
use Rattle.m2v_model.specs.ByPieces.{unit_read}
use Rattle.m2v_model.proofs.CutLaws.{cut_cuts, joined-append, joined_bits}
use Rattle.m2v_dec_piece.specs.declared.answer.Piece.{Piece}
use Rattle.m2v_dec_piece.specs.Sound.{IsSoundPiece}
use Rattle.m2v_dec_unit.proofs.Cuts.{text_length}
use Rattle.m2v_dec_rows.specs.Opened.{StandsIn, unread, whole_of}
use Rattle.m2v_dec_rows.specs.Headers.{end_of}
use Rattle.m2v_dec_rows.specs.Skims.{EndsWith, unit_of}
use Rattle.m2v_dec_rows.proofs.UnitGifts.{IsOnward, unit_says}

pub whole_length : (p : Piece) → IsSoundPiece p → length (whole_of p) ≡ p.length
whole_length p sound = omega (arith, text_length p.bytes.items (p.length - vec_len p.bytes), sound.kept, p.bytes.ok.0)

-- a text ends with its units
pub ends_first : (text : List ℕ) (us : Units) → us ≡ (cut 0 text).1 → EndsWith text us
ends_first text us e = ((cut 0 text).0, (cut_cuts text).whole ∙ ap (λ (vs : Units). (cut 0 text).0 ++ joined vs) (sym e))

ends_behind : (text : List ℕ) (us mid : Units) → EndsWith text us → IsOnward us mid → EndsWith text mid
ends_behind text [] mid ends behind = absurd behind
ends_behind text (u ∷ us) mid ends behind =
    let front = ends.0 in
    let taken = behind.0 in
    let rest : joined us ≡ joined taken ++ joined mid = ap joined behind.1 ∙ joined-append taken mid in (
      front ++ (u ++ joined taken),
      ends.1
          ∙ ap (λ (l : List ℕ). front ++ (u ++ l)) rest
          ∙ ap (λ (l : List ℕ). front ++ l) (sym (append_assoc u (joined taken) (joined mid)))
          ∙ sym (append_assoc front (u ++ joined taken) (joined mid)),
    )

-- behind a unit that was read
pub ends_on : (text : List ℕ) (st : State) (us mid : Units) (x : Part) → EndsWith text us → unit_read st us ≡ Ok ((true, x), mid) → EndsWith text mid
ends_on text st us mid x ends read = ends_behind text us mid ends ((unit_says st us (true, x) mid read).more refl).1

pub ends_here : (text : List ℕ) (us mid : Units) → us ≡ mid → EndsWith text us → EndsWith text mid
ends_here text us mid e ends = (ends.0, ends.1 ∙ ap (λ (vs : Units). ends.0 ++ joined vs) e)

-- ---- a unit in a piece

pub start_within : (p : Piece) (u : List ℕ) (rest : Units) (start : ℕ) → IsSoundPiece p → EndsWith (whole_of p) (u ∷ rest) → start ≡ unit_bits (u ∷ rest) → start ≤ 8 * p.length
start_within p u rest start sound ends e =
    omega (arith, e, joined_bits rest, ap length ends.1, length-append ends.0 (u ++ joined rest), length-append u (joined rest), whole_length p sound)

-- a byte that isn't 0 is among those that are kept
kept_byte : (bytes : List ℕ) (n i : ℕ) → 1 ≤ get_or (bytes ++ replicate n 0) i 0 → i < length bytes + n → (i < length bytes) ⊎ (length bytes ≤ i) → i < length bytes
kept_byte bytes n i some within (inl less) = less
kept_byte bytes n i some within (inr le) =
    let a = get_or-append_right bytes (replicate n 0) i 0 le in
    let b = get_or-replicate {A = ℕ} n (i - length bytes) 0 0 (omega (arith, within, le)) in
    absurd (omega (arith, some, a, b))

value_there : (front u rest : List ℕ) → 4 ≤ length u → get_or (front ++ (u ++ rest)) (length front + 3) 0 ≡ value_of u
value_there front u rest long = get_or-append-add front (u ++ rest) 3 0 ∙ get_or_append_left u rest 0 3 (omega (arith, long))

pub record Placed (p : Piece) (row start : ℕ) (u : List ℕ) (rest : Units) : Type 0 where
  pub is : unread p (unit_of p row start u) ≡ record { row = row; unit = u; end = end_of p - unit_bits rest / 8 }
  pub stands : StandsIn p (unit_of p row start u)

pub placed : (p : Piece) (row start : ℕ) (u : List ℕ) (rest : Units) → IsSoundPiece p → EndsWith (whole_of p) (u ∷ rest) → start ≡ unit_bits (u ∷ rest) → 1 ≤ value_of u → 4 ≤ length u → Placed p row start u rest
placed p row start u rest sound ends e value long =
    let front = ends.0 in
    let z = p.length - vec_len p.bytes in
    let all = whole_length p sound in
    let bits = joined_bits rest in
    let whole_long : length (whole_of p) ≡ length front + (length u + length (joined rest)) = ap length ends.1 ∙ length-append front (u ++ joined rest) ∙ ap (λ (n : ℕ). length front + n) (length-append u (joined rest)) in
    let bytes : start / 8 ≡ length u + length (joined rest) = omega (arith, e, bits) in
    let behind : unit_bits rest / 8 ≡ length (joined rest) = omega (arith, bits) in
    let from : (end_of p - start / 8) - p.place ≡ length front = omega (arith, bytes, whole_long, all) in
    let end : (end_of p - start / 8) + length u ≡ end_of p - unit_bits rest / 8 = omega (arith, bytes, behind, whole_long, all) in
    let unit : take (length u) (drop ((end_of p - start / 8) - p.place) (whole_of p)) ≡ u =
    ap (λ (n : ℕ). take (length u) (drop n (whole_of p))) from
    ∙ ap (λ (l : List ℕ). take (length u) (drop (length front) l)) ends.1
    ∙ ap (take (length u)) (drop-append_seam front (u ++ joined rest))
    ∙ take-append_seam u (joined rest) in
    let byte : get_or (whole_of p) (length front + 3) 0 ≡ value_of u = ap (λ (l : List ℕ). get_or l (length front + 3) 0) ends.1 ∙ value_there front u (joined rest) long in
    let kept : length front + 3 < length p.bytes.items = kept_byte p.bytes.items z (length front + 3) (omega (arith, byte, value)) (omega (arith, long, whole_long, all, sound.kept, p.bytes.ok.0)) (cases_lt (length front + 3) (length p.bytes.items)) in
    record {
      is = λ i. record { row = row; unit = unit i; end = end i };
      stands = record {
        behind = omega (arith, bytes, whole_long, all);
        code = long;
        kept = omega (arith, from, kept, p.bytes.ok.0);
        end = omega (arith, end);
      };
    }

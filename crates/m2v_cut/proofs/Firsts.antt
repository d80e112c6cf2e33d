-- What holds of the places of a group that can be cut out.
use Rattle.std.proofs.Common.{◌≡◌, ℕ, ◌+◌, ◌*◌, ◌<◌, ◌≤◌, Bool, true, false, List, [], ◌∷◌, ◌++◌, length, Option, Some, None, inl, inr, refl, sym, ap, subst, ◌∙◌, arith}
use Rattle.std.specs.Prelude.{IfSome, nat_le, ◌&&◌, if◌then◌else◌}
use Rattle.std.proofs.lemmas.Bool.{cases_Bool, leb-true}
use Rattle.std.proofs.lemmas.List.{length-append}
use Rattle.m2v_model.specs.Units.{Units, cut, unit_bits, joined}
use Rattle.m2v_model.specs.Streams.{value_of}
use Rattle.m2v_model.specs.Pieces.{is_end}
use Rattle.m2v_model.proofs.CutLaws.{cut_cuts, joined_bits}
use Rattle.m2v_model.proofs.ShiftLaws.{unit_bits-append}
use Rattle.m2v_decode.specs.m2v_dec_piece.declared.answer.Piece.{Piece}
use Rattle.m2v_law_group.specs.Groups.{group_headers, to_end, before_group, from_group, from_last_sequence}
use Rattle.m2v_port.specs.Ends.{Change}
use Rattle.m2v_decode.specs.m2v_dec_piece.Cutting.{Cutting}
use Rattle.m2v_decode.specs.m2v_dec_piece.Sound.{IsSoundPiece}
use Rattle.m2v_cut.specs.declared.look.FirstPicture.{FirstPicture}
use Rattle.m2v_decode.specs.Decoding.{whole_of}
use Rattle.m2v_decode.proofs.EndLaws.{whole_length}
use Rattle.m2v_cut.specs.declared.copy.Copied.{Copied}
use Rattle.m2v_cut.specs.declared.start.Start.{Start}
use Rattle.m2v_cut.specs.Answers.{units_of}
use Rattle.m2v_cut.specs.Progress.{SecondPut}
use Rattle.m2v_cut.proofs.Onwards.{units_length}
use Rattle.m2v_cut.specs.Starts.{IsStart, IsSequencePlace, is_long, is_intra_frame, cut_place, piece_list, Second}

pub headers_less : (us : Units) → group_headers (to_end us) ≤ group_headers us
unfolding group_headers to_end
headers_less [] = omega arith
headers_less (u ∷ us) = elim (cases_Bool (is_end (value_of u))) [
  | inl on ↦ rw on (omega arith)
  | inr off ↦ rw off (let e = headers_less us in omega (arith, e))
]

pub some_place : (b : Bool) (place : Option ℕ) (at : ℕ) → (if b then place else None) ≡ Some at → (b ≡ true) × (place ≡ Some at)
some_place true place at e = (refl, e)
some_place false place at e = absurd cc

pub and_true : (a b : Bool) → (a && b) ≡ true → a ≡ true
and_true true b e = refl
and_true false b e = absurd cc

long_bits : (us : Units) → is_long us ≡ true → 64 ≤ unit_bits us
long_bits [] e = absurd cc
long_bits (u ∷ us) e = let l = leb-true 8 (length u) e in omega (arith, l)

pub whole_bits : (w : List ℕ) → unit_bits (cut 0 w).1 ≤ 8 * length w
whole_bits w =
    let c = cut_cuts w in
    omega (arith, joined_bits (cut 0 w).1, ap length c.whole, length-append (cut 0 w).0 (joined (cut 0 w).1))

-- the places stand in order, and the header's bytes within the piece
pub record Fits (sequence header most : ℕ) : Type 0 where
  pub ordered : sequence ≤ header
  pub within : header + 8 ≤ most

pub start_fits : (w : List ℕ) (n : ℕ) (s : Start) (second : Option Piece) (sequence : ℕ) → IsStart (cut 0 w).1 n s → cut_place s second ≡ Some sequence → Fits sequence s.header (length w)
start_fits w n s second sequence is e =
    let us : Units = (cut 0 w).1 in
    let p = some_place (s.long && is_intra_frame s.first second) s.sequence sequence e in
    let long : is_long (from_group n us) ≡ true = sym is.long ∙ and_true s.long (is_intra_frame s.first second) p.0 in
    let at : IsSequencePlace (Some sequence) us (before_group n us) (from_group n us) = subst (λ (x : Option ℕ). IsSequencePlace x us (before_group n us) (from_group n us)) p.1 is.sequence in
    let more = unit_bits-append (from_last_sequence (before_group n us)) (from_group n us) in
    record {
      ordered = omega (arith, at.1, is.header, more);
      within = omega (arith, is.header, long_bits (from_group n us) long, whole_bits w);
    }

-- a header stands within its piece
pub header_low : (w : List ℕ) (n : ℕ) (s : Start) → IsStart (cut 0 w).1 n s → s.header ≤ length w
header_low w n s is = omega (arith, is.header, whole_bits w)

-- ---- room

pub second_room : (second : Option Piece) (written : Bool) (most : ℕ) (old new : Copied) (held : Change) (before after : ℕ) → SecondPut written (piece_list second) most old new held → old.bytes ≤ before → before ≤ after
    → IfSome second (λ q. before + q.length ≤ after) → IfSome second IsSoundPiece → new.bytes ≤ after
second_room None written most old new held before after put low le room sound =
    let same : new.bytes ≡ old.bytes = ap (λ (x : Copied). x.bytes) put.1 in
    omega (arith, same, low, le)
second_room (Some p) true most old new held before after put low le room sound =
    let bytes : new.bytes ≡ old.bytes + length (joined (units_of (whole_of p))) = ap (λ (x : Copied). x.bytes) put.0 in
    omega (arith, bytes, low, room, units_length (whole_of p), whole_length p sound)
second_room (Some p) false most old new held before after put low le room sound =
    let same : new.bytes ≡ old.bytes = ap (λ (x : Copied). x.bytes) put.0 in
    omega (arith, same, low, le)

pub second_sound : (f : FirstPicture) (old new : Option (List ℕ)) (c c' : Cutting) (second : Option Piece) → Second f old new c c' second → IfSome second IsSoundPiece
second_sound f old new c c' None s = tt
second_sound f old new c c' (Some p) s = s.is.1

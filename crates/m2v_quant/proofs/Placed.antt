-- Levels are written by raster places: the tables of positions, one level more, the whole block, and whether any isn't 0.
use Rattle.std.proofs.Common.{◌≡◌, ◌≢◌, ℕ, suc, ◌^◌, ◌<◌, ◌≤◌, Bool, true, false, not, cond, refl, ap, sym, subst, ◌∙◌, arith, List, length, map, get_or, set, replicate, get_or-set_other, get_or-set_same, ℤ, pos, negsuc, w64, inl, inr}
use Rattle.std.specs.Prelude.{slice_index, if◌then◌else◌, ◌&&◌, nat_eq, unsigned_abs}
use Rattle.std.specs.Int.{bit_at, trailing_zeros}
use Rattle.std.specs.List.{range_with_len}
use Rattle.std.proofs.lemmas.Int.{ints}
use Rattle.std.proofs.lemmas.Bool.{cases_Bool, cases_eq, eqb-true, ne_eqb, ltb-true, true≢false}
use Rattle.std.proofs.lemmas.Nat.Bits.{bit_at-trailing_zeros, bit_at-zero}
use Rattle.std.proofs.lemmas.List.Elements.{All-set, All-replicate}
use Rattle.std.proofs.lemmas.List.Folds.{list_all_at}
use Rattle.std.proofs.lemmas.List.FromFn.{fill_by_all, get_or-map-range_with_len}
use Rattle.m2v_quant.specs.declared.kind.BlockKind.{BlockKind}
use Rattle.m2v_quant.specs.declared.positions.TheConstants.{ZIGZAG_POSITIONS, ALTERNATE_POSITIONS}
use Rattle.m2v_quant.specs.Kinds.{IsLevel}
use Rattle.m2v_quant.specs.Scans.{zigzag, alternate, scan_order}
use Rattle.m2v_quant.specs.Coefficients.{position}
use Rattle.m2v_quant.specs.Marks.{level_of_place, AreMarked, ArePlacedBut}
use Rattle.m2v_quant.specs.Quantiser.{dc_level, level_at, levels_of, is_empty}
use Rattle.m2v_quant.proofs.Tables.{same_zigzag, same_alternate, zigzag_below, alternate_below, entry_passes, place_test}
use Rattle.m2v_quant.proofs.Scanned.{first_position, position_scan, scan_position}
use Rattle.m2v_quant.proofs.Zeros.{zeros_at}

-- the tables
same_zigzag_positions : map (position false) (range_with_len 0 64) ≡ ZIGZAG_POSITIONS
unfolding position scan_order zigzag
same_zigzag_positions = refl

same_alternate_positions : map (position true) (range_with_len 0 64) ≡ ALTERNATE_POSITIONS
unfolding position scan_order alternate
same_alternate_positions = refl

looked_up : (g : ℕ → ℕ) (xs : List ℕ) (k r : ℕ) → map g (range_with_len 0 64) ≡ xs → k < 64 → r ≡ slice_index xs k → r ≡ g k
looked_up g xs k r e lt is =
    is ∙ sym (ap (λ (ys : List ℕ). get_or ys k 0) e) ∙ get_or-map-range_with_len g 0 64 k k 0 lt (omega arith)

pub zigzag_position : (b : Bool) (k r : ℕ) → b ≡ false → k < 64 → r ≡ slice_index ZIGZAG_POSITIONS k → r ≡ position b k
zigzag_position b k r e lt is = rw e (looked_up (position false) ZIGZAG_POSITIONS k r same_zigzag_positions lt is)

pub alternate_position : (b : Bool) (k r : ℕ) → b ≡ true → k < 64 → r ≡ slice_index ALTERNATE_POSITIONS k → r ≡ position b k
alternate_position b k r e lt is = rw e (looked_up (position true) ALTERNATE_POSITIONS k r same_alternate_positions lt is)

pub zigzag_position_below : (k r : ℕ) → k < 64 → r ≡ slice_index ZIGZAG_POSITIONS k → r < 64
zigzag_position_below k r lt is = rw is (ltb-true _ _ (entry_passes place_test ZIGZAG_POSITIONS k refl lt))

pub alternate_position_below : (k r : ℕ) → k < 64 → r ≡ slice_index ALTERNATE_POSITIONS k → r < 64
alternate_position_below k r lt is = rw is (ltb-true _ _ (entry_passes place_test ALTERNATE_POSITIONS k refl lt))

position_below : (b : Bool) (k : ℕ) → k < 64 → position b k < 64
position_below false k lt = subst (λ n. n < 64) (zigzag_position false k _ refl lt refl) (zigzag_position_below k _ lt refl)
position_below true k lt = subst (λ n. n < 64) (alternate_position true k _ refl lt refl) (alternate_position_below k _ lt refl)

scan_below : (b : Bool) (i : ℕ) → i < 64 → slice_index (scan_order b) i < 64
unfolding scan_order
scan_below false i lt = subst (λ (xs : List ℕ). slice_index xs i < 64) same_zigzag (zigzag_below i _ lt refl)
scan_below true i lt = subst (λ (xs : List ℕ). slice_index xs i < 64) same_alternate (alternate_below i _ lt refl)

-- two places have two positions
positions_differ : (b : Bool) (p k : ℕ) → p < 64 → k < 64 → (p ≡ k → ⊥) → position b p ≡ position b k → ⊥
positions_differ b p k lp lk ne e = ne (sym (scan_position b p lp) ∙ ap (slice_index (scan_order b)) e ∙ scan_position b k lk)

not_both : (b t : Bool) (x y : ℤ) → b ≡ false → (if b && t then x else y) ≡ y
not_both b t x y e = rw e refl

not_second : (b t : Bool) (x y : ℤ) → t ≡ false → (if b && t then x else y) ≡ y
not_second true t x y e = rw e refl
not_second false t x y e = refl

both : (b : Bool) (x y : ℤ) → b ≡ true → (if b && true then x else y) ≡ x
both b x y e = rw e refl

other_level : (f : List ℤ) (kind : BlockKind) (i : ℕ) → kind.intra ≡ false → level_at f kind i ≡ level_of_place f kind (slice_index (scan_order kind.alternate) i)
unfolding level_at
other_level f kind i e = not_both kind.intra (nat_eq i 0) _ _ e

later_level : (f : List ℤ) (kind : BlockKind) (i : ℕ) → (i ≡ 0 → ⊥) → level_at f kind i ≡ level_of_place f kind (slice_index (scan_order kind.alternate) i)
unfolding level_at
later_level f kind i ne = not_second kind.intra (nat_eq i 0) _ _ (ne_eqb i 0 ne)

first_level : (f : List ℤ) (kind : BlockKind) → kind.intra ≡ true → level_at f kind 0 ≡ dc_level (get_or f 0 (pos 0))
unfolding level_at
first_level f kind e = both kind.intra _ _ e

first_place : (b : Bool) → slice_index (scan_order b) 0 ≡ 0
unfolding scan_order zigzag alternate
first_place false = refl
first_place true = refl

-- the level of a position is that of its raster place
placed_level : (f : List ℤ) (kind : BlockKind) (p : ℕ) → p < 64 → (kind.intra ≡ true → p ≡ 0 → ⊥) → level_at f kind (position kind.alternate p) ≡ level_of_place f kind p
placed_level f kind p lt later =
    let b = kind.alternate in
    let place : level_of_place f kind (slice_index (scan_order b) (position b p)) ≡ level_of_place f kind p = ap (level_of_place f kind) (scan_position b p lt) in
    elim (cases_Bool kind.intra) [
      | inl is ↦ later_level f kind (position b p) (λ e. later is (sym (scan_position b p lt) ∙ ap (slice_index (scan_order b)) e ∙ first_place b)) ∙ place
      | inr not ↦ other_level f kind (position b p) not ∙ place
    ]

-- one level more
pub one_placed : (f : List ℤ) (kind : BlockKind) (left less n : ℕ) (levels : List ℤ) (v : ℤ) (i : ℕ)
    → length levels ≡ 64 → n < 64 → (kind.intra ≡ true → n ≡ 0 → ⊥) → i ≡ position kind.alternate n → v ≡ level_of_place f kind n → IsLevel v
    → ((p : ℕ) → (p ≡ n → ⊥) → bit_at less p ≡ bit_at left p) → ArePlacedBut left f kind levels → ArePlacedBut less f kind (set levels i v)
one_placed f kind left less n levels v i len lt later at is level others h =
    let b = kind.alternate in
    let room : i < length levels = omega (arith, len, at, position_below b n lt) in
    record {
      done = λ p l none.
          elim (cases_eq p n) [
            | inl same ↦
                ap (λ k. get_or (set levels i v) (position b k) (pos 0)) same
                ∙ ap (λ k. get_or (set levels i v) k (pos 0)) (sym at) ∙ rw get_or-set_same is ∙ sym (placed_level f kind n lt later)
                ∙ sym (ap (λ k. level_at f kind (position b k)) same)
            | inr ne ↦ let apart : position b p ≢ i = λ e. positions_differ b p n l lt ne (e ∙ at) in rw get_or-set_other (h.done p l (sym (others p ne) ∙ none))
          ];
      within = All-set IsLevel levels i v level h.within;
    }

-- nothing is left
pub all_placed : (f : List ℤ) (kind : BlockKind) (left : ℕ) (levels : List ℤ) → length levels ≡ 64 → left ≡ 0 → ArePlacedBut left f kind levels → levels ≡ levels_of f kind
unfolding levels_of
all_placed f kind left levels len e h =
    let b = kind.alternate in
    fill_by_all (level_at f kind) levels 64 (pos 0) len
    (λ i lt.
    let turn = position_scan b i lt in
    ap (λ k. get_or levels k (pos 0)) (sym turn)
    ∙ h.done (slice_index (scan_order b) i) (scan_below b i lt) (ap (λ n. bit_at n (slice_index (scan_order b) i)) e ∙ bit_at-zero (slice_index (scan_order b) i))
    ∙ ap (level_at f kind) turn)

-- places of two bits
pub apart_from : (marks p k : ℕ) → bit_at marks k ≡ 0 → bit_at marks p ≡ 1 → p ≡ k → ⊥
apart_from marks p k none one e = absurd (omega (arith, one, none, ap (bit_at marks) e))

-- levels by their marks
abbrev pub bit_of : Bool → ℕ
bit_of b = cond b 0 1

pub is_none : (b : Bool) → bit_of b ≡ 0 → b ≡ true
is_none true e = refl
is_none false e = absurd (omega (arith, e))

pub is_some : (b : Bool) → bit_of b ≡ 1 → b ≡ false
is_some true e = absurd (omega (arith, e))
is_some false e = refl

zero_level : (z : ℤ) → nat_eq (unsigned_abs z) 0 ≡ true → z ≡ pos 0
zero_level (pos n) e = ap pos (eqb-true n 0 e)
zero_level (negsuc n) e = absurd (omega (arith, eqb-true (suc n) 0 e))

unmarked : (f : List ℤ) (kind : BlockKind) (from marks p : ℕ) → AreMarked from f kind marks → from ≤ p → p < 64 → (kind.intra ≡ true → p ≡ 0 → ⊥) → bit_at marks p ≡ 0
    → level_at f kind (position kind.alternate p) ≡ pos 0
unmarked f kind from marks p h le lt later e = placed_level f kind p lt later ∙ zero_level _ (is_none _ (sym (h p le lt) ∙ e))

is_marked : (f : List ℤ) (kind : BlockKind) (from marks p : ℕ) → AreMarked from f kind marks → from ≤ p → p < 64 → (kind.intra ≡ true → p ≡ 0 → ⊥) → bit_at marks p ≡ 1
    → nat_eq (unsigned_abs (level_at f kind (position kind.alternate p))) 0 ≡ false
is_marked f kind from marks p h le lt later e =
    ap (λ (level : ℤ). nat_eq (unsigned_abs level) 0) (placed_level f kind p lt later) ∙ is_some _ (sym (h p le lt) ∙ e)

-- all zeros but for what is marked
pub zeros_placed : (f : List ℤ) (kind : BlockKind) (marks : ℕ) → kind.intra ≡ false → AreMarked 0 f kind marks → ArePlacedBut marks f kind (replicate 64 (pos 0))
zeros_placed f kind marks other h = record {
  done = λ p lt none. zeros_at 64 (position kind.alternate p) ∙ sym (unmarked f kind 0 marks p h (omega arith) lt (λ is. absurd (true≢false (sym is ∙ other))) none);
  within = All-replicate IsLevel 64 (pos 0) (omega (arith, ints), omega (arith, ints));
}

pub dc_placed : (f : List ℤ) (kind : BlockKind) (marks : ℕ) (v : ℤ) → kind.intra ≡ true → AreMarked 1 f kind marks → v ≡ dc_level (get_or f 0 (pos 0)) → IsLevel v
    → ArePlacedBut marks f kind (set (replicate 64 (pos 0)) 0 v)
dc_placed f kind marks v intra h is level =
    let b = kind.alternate in
    let zeros = replicate 64 (pos 0) in
    let first = λ (k : ℕ). get_or (set zeros 0 v) (position b k) (pos 0) ≡ level_at f kind (position b k) in
    record {
      done = λ p lt none.
          elim (cases_eq p 0) [
            | inl same ↦
                subst first (sym same)
                (ap (λ k. get_or (set zeros 0 v) k (pos 0)) (first_position b) ∙ is ∙ sym (first_level f kind intra) ∙ ap (level_at f kind) (sym (first_position b)))
            | inr ne ↦
                let apart : position b p ≢ 0 = λ e. ne (sym (scan_position b p lt) ∙ ap (slice_index (scan_order b)) e ∙ first_place b) in
                rw get_or-set_other (zeros_at 64 (position b p) ∙ sym (unmarked f kind 1 marks p h (omega (arith, ne)) lt (λ _. ne) none))
          ];
      within = All-set IsLevel zeros 0 v level (All-replicate IsLevel 64 (pos 0) (omega (arith, ints), omega (arith, ints)));
    }

-- whether any level isn't 0
none_told : (f : List ℤ) (kind : BlockKind) → ((i : ℕ) → i < 64 → level_at f kind i ≡ pos 0) → is_empty (levels_of f kind) ≡ true
unfolding levels_of
none_told f kind none = ap is_empty (sym (fill_by_all (level_at f kind) (replicate 64 (pos 0)) 64 (pos 0) refl (λ i lt. zeros_at 64 i ∙ sym (none i lt))))

one_told : (f : List ℤ) (kind : BlockKind) (i : ℕ) → i < 64 → nat_eq (unsigned_abs (level_at f kind i)) 0 ≡ false → is_empty (levels_of f kind) ≡ false
unfolding levels_of
one_told f kind i lt some =
    list_all_at (λ (level : ℤ). nat_eq (unsigned_abs level) 0) (levels_of f kind) i (pos 0) lt
    (ap (λ (level : ℤ). nat_eq (unsigned_abs level) 0) (get_or-map-range_with_len (level_at f kind) 0 64 i i (pos 0) lt (omega arith)) ∙ some)

mark_told : (f : List ℤ) (kind : BlockKind) (marks : ℕ) → marks < 2 ^ 64
    → ((p : ℕ) → p < 64 → bit_at marks p ≡ 1 → nat_eq (unsigned_abs (level_at f kind (position kind.alternate p))) 0 ≡ false)
    → (marks ≡ 0 → ⊥) → is_empty (levels_of f kind) ≡ false
mark_told f kind marks fits each some =
    let p = trailing_zeros w64 marks in
    let first = bit_at-trailing_zeros w64 marks (omega (arith, some)) fits in
    one_told f kind (position kind.alternate p) (position_below kind.alternate p first.0) (each p first.0 first.1)

-- every position has its place
all_told : (f : List ℤ) (kind : BlockKind) → ((p : ℕ) → p < 64 → level_at f kind (position kind.alternate p) ≡ pos 0) → is_empty (levels_of f kind) ≡ true
all_told f kind none =
    none_told f kind (λ i lt. ap (level_at f kind) (sym (position_scan kind.alternate i lt)) ∙ none (slice_index (scan_order kind.alternate) i) (scan_below kind.alternate i lt))

no_bit : (marks p : ℕ) → marks ≡ 0 → bit_at marks p ≡ 0
no_bit marks p e = ap (λ n. bit_at n p) e ∙ bit_at-zero p

pub some_other : (f : List ℤ) (kind : BlockKind) (marks : ℕ) → marks < 2 ^ 64 → kind.intra ≡ false → AreMarked 0 f kind marks → not (nat_eq marks 0) ≡ not (is_empty (levels_of f kind))
some_other f kind marks fits other h =
    let later : (p : ℕ) → kind.intra ≡ true → p ≡ 0 → ⊥ = λ p is. absurd (true≢false (sym is ∙ other)) in
    elim (cases_eq marks 0) [
      | inl none ↦ rw (none, all_told f kind (λ p lt. unmarked f kind 0 marks p h (omega arith) lt (later p) (no_bit marks p none))) refl
      | inr some ↦ rw (ne_eqb marks 0 some, mark_told f kind marks fits (λ p lt one. is_marked f kind 0 marks p h (omega arith) lt (later p) one) some) refl
    ]

pub some_intra : (f : List ℤ) (kind : BlockKind) (marks : ℕ) (v : ℤ) → marks < 2 ^ 64 → kind.intra ≡ true → AreMarked 1 f kind marks → bit_at marks 0 ≡ 0 → v ≡ dc_level (get_or f 0 (pos 0))
    → not (nat_eq marks 0 && nat_eq (unsigned_abs v) 0) ≡ not (is_empty (levels_of f kind))
some_intra f kind marks v fits intra h behind is =
    let dc : v ≡ level_at f kind 0 = is ∙ sym (first_level f kind intra) in
    elim (cases_eq marks 0) [
      | inl none ↦
          elim (cases_Bool (nat_eq (unsigned_abs v) 0)) [
            | inl zero_ ↦ rw (none, zero_, all_told f kind (λ p lt. no_level p lt none (sym dc ∙ zero_level v zero_))) refl
            | inr some ↦ rw (none, some, one_told f kind 0 (omega arith) (ap (λ (level : ℤ). nat_eq (unsigned_abs level) 0) (sym dc) ∙ some)) refl
          ]
      | inr some ↦ rw (ne_eqb marks 0 some, mark_told f kind marks fits (λ p lt one. is_marked f kind 1 marks p h (above p one) lt (λ _. apart_from marks p 0 behind one) one) some) refl
    ]
  where
    above : (p : ℕ) → bit_at marks p ≡ 1 → 1 ≤ p
    above p one = elim (cases_eq p 0) [ inl e ↦ absurd (apart_from marks p 0 behind one e) | inr ne ↦ omega (arith, ne) ]

    no_level : (p : ℕ) → p < 64 → marks ≡ 0 → level_at f kind 0 ≡ pos 0 → level_at f kind (position kind.alternate p) ≡ pos 0
    no_level p lt none first = elim (cases_eq p 0) [
      | inl e ↦ ap (λ k. level_at f kind (position kind.alternate k)) e ∙ ap (level_at f kind) (first_position kind.alternate) ∙ first
      | inr ne ↦ unmarked f kind 1 marks p h (omega (arith, ne)) lt (λ _. ne) (no_bit marks p none)
    ]

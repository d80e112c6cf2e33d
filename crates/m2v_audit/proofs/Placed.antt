-- The headers before the picture of a piece, unit by unit, and where they stand.
use Rattle.std.proofs.Common.{◌≡◌, ℕ, ◌+◌, ◌*◌, ◌≤◌, Bool, true, false, List, [], ◌∷◌, ◌++◌, length, drop, take, Result, Ok, Err, inl, inr, refl, sym, ap, ◌∙◌, append_assoc, arith}
use Rattle.std.specs.Prelude.{nat_eq}
use Rattle.std.specs.List.{AllByRecursion}
use Rattle.std.proofs.lemmas.Bool.{cases_Bool, eqb-true, ne_eqb}
use Rattle.std.proofs.lemmas.List.{length-append}
use Rattle.m2v_model.specs.m2v_macroblock.m2v_head.declared.group.GroupInfo.{GroupInfo}
use Rattle.m2v_model.specs.declared.fault.FaultKind.{FaultKind}
use Rattle.m2v_model.specs.Headers.{whole_header, group_in}
use Rattle.m2v_model.specs.Streams.{value_of}
use Rattle.m2v_model.specs.Units.{Units, begins_code, cut, joined, AreUnits, body}
use Rattle.m2v_model.specs.declared.phase.Phase.{Phase}
use Rattle.m2v_model.specs.declared.phase.Phase.TheVariants.{Before, Headers, Picture}
use Rattle.m2v_model.specs.Pieces.{phase_after, begins_piece, is_end, piece_of, grouped, pieces}
use Rattle.m2v_model.proofs.CutLaws.{cut_front, cut_cuts}
use Rattle.m2v_audit.specs.declared.headers.PieceHeader.{PieceHeader}
use Rattle.m2v_audit.specs.Front.{group_told, group_at, header_at, headers_from, front_of, bit_of, code_of, IsPlaced}

-- ---- unit by unit

pub headers_none : (bit : ℕ) → headers_from bit [] ≡ []
unfolding headers_from
headers_none bit = refl

pub headers_on : (bit : ℕ) (u : List ℕ) (us : Units) → (value_of u ≡ 0 → ⊥) → headers_from bit (u ∷ us) ≡ header_at bit u ++ headers_from (bit + 8 * length u) us
unfolding headers_from
headers_on bit u us off = let other : nat_eq (value_of u) 0x00 ≡ false = ne_eqb (value_of u) 0x00 off in rw other refl

pub headers_end : (bit : ℕ) (u : List ℕ) (us : Units) → value_of u ≡ 0 → headers_from bit (u ∷ us) ≡ []
unfolding headers_from
headers_end bit u us on = rw on refl

-- ---- where they stand

-- units that stand behind so many bytes of a piece
record Behind (piece before : List ℕ) (us : Units) : Type 0 where
  whole : piece ≡ before ++ joined us
  are : AreUnits us

drop_front : (before rest : List ℕ) → drop (length before) (before ++ rest) ≡ rest
drop_front [] rest = refl
drop_front (b ∷ before) rest = drop_front before rest

long_code : (u rest : List ℕ) → 4 ≤ length u → begins_code u ≡ true → begins_code (u ++ rest) ≡ true
long_code [] rest le on = absurd (omega (arith, le))
long_code (a ∷ []) rest le on = absurd (omega (arith, le))
long_code (a ∷ b ∷ []) rest le on = absurd (omega (arith, le))
long_code (a ∷ b ∷ c ∷ []) rest le on = absurd (omega (arith, le))
long_code (a ∷ b ∷ c ∷ v ∷ w) rest le on = on

long_value : (u rest : List ℕ) → 4 ≤ length u → value_of (u ++ rest) ≡ value_of u
long_value [] rest le = absurd (omega (arith, le))
long_value (a ∷ []) rest le = absurd (omega (arith, le))
long_value (a ∷ b ∷ []) rest le = absurd (omega (arith, le))
long_value (a ∷ b ∷ c ∷ []) rest le = absurd (omega (arith, le))
long_value (a ∷ b ∷ c ∷ v ∷ w) rest le = refl

placed : (place : ℕ) (piece before : List ℕ) (u : List ℕ) (us : Units) (h : PieceHeader) → Behind piece before (u ∷ us) → bit_of h ≡ 8 * (place + length before) → value_of u ≡ code_of h → IsPlaced place piece h
placed place piece before u us h at bit value =
    let there : drop (length before) piece ≡ u ++ joined us = ap (drop (length before)) at.whole ∙ drop_front before (u ++ joined us) in
    record {
      byte = length before;
      bit = bit;
      code = ap begins_code there ∙ long_code u (joined us) at.are.0 at.are.1;
      value = ap value_of there ∙ long_value u (joined us) at.are.0 ∙ value;
    }

group_placed : (place : ℕ) (piece before : List ℕ) (u : List ℕ) (us : Units) (bit : ℕ) → Behind piece before (u ∷ us) → bit ≡ 8 * (place + length before) → value_of u ≡ 0xB8
    → (read : Result (GroupInfo × List Bool) (FaultKind × ℕ)) → AllByRecursion (IsPlaced place piece) (group_told bit read)
group_placed place piece before u us bit at is value (Ok x) = (placed place piece before u us _ at is value, tt)
group_placed place piece before u us bit at is value (Err f) = tt

header_placed : (place : ℕ) (piece before : List ℕ) (u : List ℕ) (us : Units) (bit : ℕ) → Behind piece before (u ∷ us) → bit ≡ 8 * (place + length before) → AllByRecursion (IsPlaced place piece) (header_at bit u)
unfolding header_at group_at
header_placed place piece before u us bit at is =
    elim (cases_Bool (nat_eq (value_of u) 0xB3)) [
      | inl e ↦ rw e (placed place piece before u us _ at is (eqb-true (value_of u) 0xB3 e), tt)
      | inr e ↦
          rw e
          (elim (cases_Bool (nat_eq (value_of u) 0xB8)) [
            | inl f ↦ rw f (group_placed place piece before u us bit at is (eqb-true (value_of u) 0xB8 f) ((whole_header group_in).read (body u)))
            | inr f ↦ rw f tt
          ])
    ]

both_all : {V : Type 0} (P : V → Type 0) (xs ys : List V) → AllByRecursion P xs → AllByRecursion P ys → AllByRecursion P (xs ++ ys)
both_all P [] ys p q = q
both_all P (x ∷ xs) ys p q = (p.0, both_all P xs ys p.1 q)

units_placed : (place : ℕ) (piece before : List ℕ) (us : Units) (bit : ℕ) → Behind piece before us → bit ≡ 8 * (place + length before) → AllByRecursion (IsPlaced place piece) (headers_from bit us)
unfolding headers_from
units_placed place piece before [] bit at is = tt
units_placed place piece before (u ∷ us) bit at is =
    elim (cases_Bool (nat_eq (value_of u) 0x00)) [
      | inl e ↦ rw e tt
      | inr e ↦
          rw e
          (both_all (IsPlaced place piece) (header_at bit u) (headers_from (bit + 8 * length u) us) (header_placed place piece before u us bit at is)
          (units_placed place piece (before ++ u) us (bit + 8 * length u)
          (record { whole = at.whole ∙ sym (append_assoc before u (joined us)); are = at.are.3 })
          (omega (arith, is, length-append before u))))
    ]

pub all_placed : (place : ℕ) (piece : List ℕ) → begins_code piece ≡ true → AllByRecursion (IsPlaced place piece) (front_of place piece)
all_placed place piece begins =
    let none : (cut 0 piece).0 ≡ [] = cut_front piece begins in
    let cuts = cut_cuts piece in
    units_placed place piece [] (cut 0 piece).1 (8 * place)
    (record { whole = cuts.whole ∙ ap (λ (f : List ℕ). f ++ joined (cut 0 piece).1) none; are = cuts.are_units })
    (omega arith)

-- ---- each piece of a text begins with a unit

longer_code : (bytes rest : List ℕ) → begins_code bytes ≡ true → begins_code (bytes ++ rest) ≡ true
longer_code [] rest on = absurd cc
longer_code (a ∷ []) rest on = absurd cc
longer_code (a ∷ b ∷ []) rest on = absurd cc
longer_code (a ∷ b ∷ c ∷ []) rest on = absurd cc
longer_code (a ∷ b ∷ c ∷ v ∷ w) rest on = on

code_alone : (u : List ℕ) → begins_code u ≡ true → begins_code (take 4 u) ≡ true
code_alone [] on = absurd cc
code_alone (a ∷ []) on = absurd cc
code_alone (a ∷ b ∷ []) on = absurd cc
code_alone (a ∷ b ∷ c ∷ []) on = absurd cc
code_alone (a ∷ b ∷ c ∷ v ∷ w) on = on

abbrev Begin : List (List ℕ) → Type 0
Begin ps = AllByRecursion (λ (p : List ℕ). begins_code p ≡ true) ps

piece_begins : (bytes : List ℕ) → begins_code bytes ≡ true → Begin (piece_of bytes)
piece_begins [] on = tt
piece_begins (b ∷ bytes) on = (on, tt)

-- whether a piece is at hand or none, it begins with a unit
abbrev HasBegun : Phase → List ℕ → Type 0
HasBegun Before bytes = Unit {0}
HasBegun Headers bytes = begins_code bytes ≡ true
HasBegun Picture bytes = begins_code bytes ≡ true

begun_after : (value : ℕ) (bytes : List ℕ) → begins_code bytes ≡ true → HasBegun (phase_after Headers value) bytes
unfolding phase_after
begun_after value bytes on = elim (cases_Bool (nat_eq value 0x00)) [
  | inl e ↦ rw e on
  | inr e ↦ rw e on
]

grouped_begin : (phase : Phase) (bytes : List ℕ) (us : Units) → AreUnits us → HasBegun phase bytes → Begin (grouped phase bytes us)
unfolding grouped
grouped_begin Before bytes [] are on = tt
grouped_begin Headers bytes [] are on = piece_begins bytes on
grouped_begin Picture bytes [] are on = piece_begins bytes on
grouped_begin Before bytes (u ∷ us) are on = elim (cases_Bool (nat_eq (value_of u) 0xB3)) [
  | inl e ↦ rw e (grouped_begin Headers u us are.3 are.1)
  | inr e ↦ rw e (grouped_begin Before [] us are.3 tt)
]
grouped_begin Headers bytes (u ∷ us) are on = elim (cases_Bool (is_end (value_of u))) [
  | inl e ↦ rw e (longer_code bytes (take 4 u) on, tt)
  | inr e ↦ rw e (grouped_begin (phase_after Headers (value_of u)) (bytes ++ u) us are.3 (begun_after (value_of u) (bytes ++ u) (longer_code bytes u on)))
]
grouped_begin Picture bytes (u ∷ us) are on = elim (cases_Bool (is_end (value_of u))) [
  | inl e ↦ rw e (on, (code_alone u are.1, tt))
  | inr e ↦
      rw e
      (elim (cases_Bool (begins_piece (value_of u))) [
        | inl f ↦ rw f (on, grouped_begin (phase_after Headers (value_of u)) u us are.3 (begun_after (value_of u) u are.1))
        | inr f ↦ rw f (grouped_begin Picture (bytes ++ u) us are.3 (longer_code bytes u on))
      ])
]

pub pieces_begin : (text : List ℕ) → Begin (pieces text)
pieces_begin text = grouped_begin Before [] (cut 0 text).1 (cut_cuts text).are_units tt

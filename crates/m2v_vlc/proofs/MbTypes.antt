-- Tables B.2 to B.4 and their look-ups, checked by computing.
use Rattle.std.proofs.Common.{sym, ◌≡◌, ℕ, ◌*◌, ◌/◌, ◌%◌, ◌<◌, ◌≤◌, Bool, true, false, cond, List, length, get_or, refl, ap, ◌∙◌, arith, ltb}
use Rattle.std.specs.Prelude.{nat_eq}
use Rattle.m2v_bits.specs.Bits.{bits_of}
use Rattle.m2v_bits.specs.Syntax.{Spells}
use Rattle.m2v_vlc.specs.Codes.{Row, code_of, code_at, apart_all, is_free, is_within, is_other, is_single}
use Rattle.m2v_vlc.specs.Values.{same_type, kind, flags, has_type_i, has_type_p, has_type_b}
use Rattle.m2v_vlc.specs.Tables.{type_i, type_i_code, type_p, type_p_code, type_b, type_b_code}
use Rattle.m2v_vlc.specs.Lookups.{code_in}
use Rattle.m2v_vlc.specs.declared.values.MbType.{MbType}
use Rattle.m2v_vlc.specs.declared.kind_rows.TheConstants.{TYPE_I_ROWS, TYPE_I_AT, TYPE_I_ROW, TYPE_P_ROWS, TYPE_P_AT, TYPE_P_ROW, TYPE_B_ROWS, TYPE_B_AT, TYPE_B_ROW}
use Rattle.m2v_vlc.proofs.CodeLaws.{length_within, code_spells}
use Rattle.m2v_vlc.proofs.LookupLaws.{holds}
use Rattle.m2v_vlc.proofs.ValueLaws.{type_sound, below, agree}
use Rattle.m2v_vlc.proofs.Checks.{Checked}

-- ---- the flags of a type

pub from_flags : ℕ → MbType
from_flags n = record { quant = nat_eq (n / 16 % 2) 1; forward = nat_eq (n / 8 % 2) 1; backward = nat_eq (n / 4 % 2) 1; pattern = nat_eq (n / 2 % 2) 1; intra = nat_eq (n % 2) 1 }

weight : (b : Bool) (n : ℕ) → (cond b n 0 ≡ n * cond b 1 0) × (cond b 1 0 ≤ 1)
weight true n = (omega arith, omega arith)
weight false n = (omega arith, omega arith)

flag : (b : Bool) (n : ℕ) → n ≡ cond b 1 0 → nat_eq n 1 ≡ b
flag true n e = rw e refl
flag false n e = rw e refl

flags_below : (v : MbType) → flags v < 32
flags_below v = omega (arith, weight v.quant 16, weight v.forward 8, weight v.backward 4, weight v.pattern 2, weight v.intra 1)

flags_back : (v : MbType) → from_flags (flags v) ≡ v
unfolding from_flags
flags_back v =
    let q = weight v.quant 16 in
    let f = weight v.forward 8 in
    let b = weight v.backward 4 in
    let p = weight v.pattern 2 in
    let i = weight v.intra 1 in
    let eq = flag v.quant (flags v / 16 % 2) (omega (arith, q, f, b, p, i)) in
    let ef = flag v.forward (flags v / 8 % 2) (omega (arith, q, f, b, p, i)) in
    let eb = flag v.backward (flags v / 4 % 2) (omega (arith, q, f, b, p, i)) in
    let ep = flag v.pattern (flags v / 2 % 2) (omega (arith, q, f, b, p, i)) in
    let ei = flag v.intra (flags v % 2) (omega (arith, q, f, b, p, i)) in
    λ k. record { quant = eq k; forward = ef k; backward = eb k; pattern = ep k; intra = ei k }

-- ---- a table of types

-- each type's code stands in the row that its flags point to; and which types have one
pub record AreTypes (t : List (Row MbType)) (at : List ℕ) (has : MbType → Bool) : Type 0 where
  pub codes : below (λ n. code_in t (get_or at n 0)) 32 ≡ below (λ n. code_of same_type t (from_flags n)) 32
  pub some : below (λ n. ltb 0 (length (code_of same_type t (from_flags n)))) 32 ≡ below (λ n. has (from_flags n)) 32

pub type_index : {t : List (Row MbType)} {at : List ℕ} {has : MbType → Bool} → AreTypes t at has → (v : MbType) (n i : ℕ) → n ≡ flags v → i ≡ get_or at n 0 → code_in t i ≡ code_of same_type t v
type_index {t} {at} {has} are v n i is place =
    let lt : n < 32 = omega (arith, is, flags_below v) in
    ap (code_in t) place ∙ agree (λ n. code_in t (get_or at n 0)) (λ n. code_of same_type t (from_flags n)) 32 n are.codes lt ∙ ap (λ (x : ℕ). code_of same_type t (from_flags x)) is ∙ ap (code_of same_type t) (flags_back v)

type_some : {t : List (Row MbType)} {at : List ℕ} {has : MbType → Bool} → AreTypes t at has → (v : MbType) → ltb 0 (length (code_of same_type t v)) ≡ has v
type_some {t} {at} {has} are v =
    let back = flags_back v in
    ap (λ (x : MbType). ltb 0 (length (code_of same_type t x))) (sym back)
    ∙ agree (λ n. ltb 0 (length (code_of same_type t (from_flags n)))) (λ n. has (from_flags n)) 32 (flags v) are.some (flags_below v)
    ∙ ap has back

-- ---- tables B.2 to B.4

pub type_i_checked : Checked same_type (kind 0 0 0 0 0) 2 TYPE_I_ROWS TYPE_I_AT type_i
unfolding is_free apart_all is_within is_single is_other holds type_i
type_i_checked = record { rows = refl; free = refl; within = refl; width = (omega arith, omega arith); single = refl; looked = refl }

pub type_p_checked : Checked same_type (kind 0 0 0 0 0) 6 TYPE_P_ROWS TYPE_P_AT type_p
unfolding is_free apart_all is_within is_single is_other holds type_p
type_p_checked = record { rows = refl; free = refl; within = refl; width = (omega arith, omega arith); single = refl; looked = refl }

pub type_b_checked : Checked same_type (kind 0 0 0 0 0) 6 TYPE_B_ROWS TYPE_B_AT type_b
unfolding is_free apart_all is_within is_single is_other holds type_b
type_b_checked = record { rows = refl; free = refl; within = refl; width = (omega arith, omega arith); single = refl; looked = refl }

pub type_i_are : AreTypes type_i TYPE_I_ROW has_type_i
unfolding below type_i code_of from_flags bits_of
type_i_are = record { codes = refl; some = refl }

pub type_p_are : AreTypes type_p TYPE_P_ROW has_type_p
unfolding below type_p code_of from_flags bits_of
type_p_are = record { codes = refl; some = refl }

pub type_b_are : AreTypes type_b TYPE_B_ROW has_type_b
unfolding below type_b code_of from_flags bits_of
type_b_are = record { codes = refl; some = refl }

-- ---- the laws

pub type_i_length : (v : MbType) → length (type_i_code v) ≤ 2
type_i_length v = length_within same_type 2 type_i v type_i_checked.within

pub type_p_length : (v : MbType) → length (type_p_code v) ≤ 6
type_p_length v = length_within same_type 6 type_p v type_p_checked.within

pub type_b_length : (v : MbType) → length (type_b_code v) ≤ 6
type_b_length v = length_within same_type 6 type_b v type_b_checked.within

-- which types have a code
pub type_i_some : (v : MbType) → ltb 0 (length (type_i_code v)) ≡ has_type_i v
type_i_some v = type_some type_i_are v

pub type_p_some : (v : MbType) → ltb 0 (length (type_p_code v)) ≡ has_type_p v
type_p_some v = type_some type_p_are v

pub type_b_some : (v : MbType) → ltb 0 (length (type_b_code v)) ≡ has_type_b v
type_b_some v = type_some type_b_are v

pub type_i_spells : {K : Type 0} (cut none : K) (v : MbType) → 0 < length (type_i_code v) → Spells (code_at cut none type_i) v (type_i_code v)
type_i_spells cut none v some = code_spells cut none same_type type_i v type_sound some

pub type_p_spells : {K : Type 0} (cut none : K) (v : MbType) → 0 < length (type_p_code v) → Spells (code_at cut none type_p) v (type_p_code v)
type_p_spells cut none v some = code_spells cut none same_type type_p v type_sound some

pub type_b_spells : {K : Type 0} (cut none : K) (v : MbType) → 0 < length (type_b_code v) → Spells (code_at cut none type_b) v (type_b_code v)
type_b_spells cut none v some = code_spells cut none same_type type_b v type_sound some

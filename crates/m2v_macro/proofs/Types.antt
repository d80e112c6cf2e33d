-- Which types macroblocks have, by the picture's type.
use Rattle.std.proofs.Common.{◌≡◌, ℕ, ◌<◌, Bool, true, List, length, Ok, refl, ◌∙◌}
use Rattle.std.specs.List.{list_all}
use Rattle.std.proofs.lemmas.Bool.{ne_eqb, ltb-true}
use Rattle.m2v_vlc.specs.declared.values.CodeFault.{CodeFault}
use Rattle.m2v_vlc.specs.declared.values.CodeFault.TheVariants.{Truncated, NoCode}
use Rattle.m2v_vlc.specs.declared.values.MbType.{MbType}
use Rattle.m2v_vlc.specs.Codes.{code_at}
use Rattle.m2v_vlc.specs.Tables.{type_i, type_p, type_b, type_i_code, type_p_code, type_b_code}
use Rattle.m2v_vlc.specs.Values.{has_type_i, has_type_p, has_type_b}
use Rattle.m2v_vlc.proofs.ValueLaws.{in_range}
use Rattle.m2v_vlc.proofs.MbTypes.{type_i_checked, type_p_checked, type_b_checked, type_i_some, type_p_some, type_b_some}
use Rattle.m2v_macro.specs.Conditions.{has_type}

all_i : list_all (λ r. has_type_i r.value) type_i ≡ true
unfolding type_i
all_i = refl

all_p : list_all (λ r. has_type_p r.value) type_p ≡ true
unfolding type_p
all_p = refl

all_b : list_all (λ r. has_type_b r.value) type_b ≡ true
unfolding type_b
all_b = refl

pub read_i : (v : MbType) (t rest : List Bool) → (code_at Truncated NoCode type_i).read t ≡ Ok (v, rest) → has_type_i v ≡ true
read_i v t rest e = in_range {K = CodeFault} (λ v. has_type_i v ≡ true) has_type_i Truncated NoCode type_i t rest (Ok v) type_i_checked.free all_i (λ v h. h) e

pub read_p : (v : MbType) (t rest : List Bool) → (code_at Truncated NoCode type_p).read t ≡ Ok (v, rest) → has_type_p v ≡ true
read_p v t rest e = in_range {K = CodeFault} (λ v. has_type_p v ≡ true) has_type_p Truncated NoCode type_p t rest (Ok v) type_p_checked.free all_p (λ v h. h) e

pub read_b : (v : MbType) (t rest : List Bool) → (code_at Truncated NoCode type_b).read t ≡ Ok (v, rest) → has_type_b v ≡ true
read_b v t rest e = in_range {K = CodeFault} (λ v. has_type_b v ≡ true) has_type_b Truncated NoCode type_b t rest (Ok v) type_b_checked.free all_b (λ v h. h) e

pub in_i : (kind : ℕ) (v : MbType) → kind ≡ 1 → has_type_i v ≡ true → has_type kind v ≡ true
unfolding has_type
in_i kind v e h = rw e h

pub in_p : (kind : ℕ) (v : MbType) → kind ≡ 2 → has_type_p v ≡ true → has_type kind v ≡ true
unfolding has_type
in_p kind v e h = rw e h

pub in_b : (kind : ℕ) (v : MbType) → (kind ≡ 1 → ⊥) → (kind ≡ 2 → ⊥) → has_type_b v ≡ true → has_type kind v ≡ true
unfolding has_type
in_b kind v one two h = let not_one = ne_eqb kind 1 one in let not_two = ne_eqb kind 2 two in rw (not_one, not_two) h

pub of_i : (kind : ℕ) (v : MbType) → kind ≡ 1 → has_type kind v ≡ true → has_type_i v ≡ true
unfolding has_type
of_i kind v e h = rw e at h

pub of_p : (kind : ℕ) (v : MbType) → kind ≡ 2 → has_type kind v ≡ true → has_type_p v ≡ true
unfolding has_type
of_p kind v e h = rw e at h

pub of_b : (kind : ℕ) (v : MbType) → (kind ≡ 1 → ⊥) → (kind ≡ 2 → ⊥) → has_type kind v ≡ true → has_type_b v ≡ true
unfolding has_type
of_b kind v one two h = let not_one = ne_eqb kind 1 one in let not_two = ne_eqb kind 2 two in rw (not_one, not_two) at h

-- each type that a picture has has a code
pub code_i : (v : MbType) → has_type_i v ≡ true → 0 < length (type_i_code v)
code_i v h = ltb-true _ _ (type_i_some v ∙ h)

pub code_p : (v : MbType) → has_type_p v ≡ true → 0 < length (type_p_code v)
code_p v h = ltb-true _ _ (type_p_some v ∙ h)

pub code_b : (v : MbType) → has_type_b v ≡ true → 0 < length (type_b_code v)
code_b v h = ltb-true _ _ (type_b_some v ∙ h)

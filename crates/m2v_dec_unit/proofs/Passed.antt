-- The bits of a piece up to the end of its picture start code.
use Rattle.std.proofs.Common.{◌≡◌, ℕ, ◌+◌, ◌*◌, ◌≤◌, false, List, [], ◌∷◌, length, refl, subst, arith}
use Rattle.std.specs.Prelude.{nat_eq}
use Rattle.std.proofs.lemmas.Bool.{ne_eqb}
use Rattle.m2v_model.specs.Units.{Units, unit_bits}
use Rattle.m2v_model.specs.Streams.{value_of}
use Rattle.m2v_model.specs.Buffering.{before_picture}

-- so many bits of units were passed, among which no picture begins
pub record Passed (all us : Units) (bits : ℕ) : Type 0 where
  pub is : bits + 8 * before_picture us ≡ 8 * before_picture all + 32
  pub most : bits + unit_bits us ≤ unit_bits all + 32

pub passed_none : (us : Units) → Passed us us 32
passed_none us = record { is = omega arith; most = omega arith }

pub passed_more : (all us mid : Units) (u : List ℕ) (bits more : ℕ) → Passed all us bits → us ≡ u ∷ mid → (value_of u ≡ 0 → ⊥) → more ≡ bits + 8 * length u → Passed all mid more
unfolding before_picture
passed_more all us mid u bits more h e off is =
    let at = subst (λ (l : Units). Passed all l bits) e h in
    let other : nat_eq (value_of u) 0x00 ≡ false = ne_eqb (value_of u) 0x00 off in
    let here : before_picture (u ∷ mid) ≡ length u + before_picture mid = rw other refl in
    record { is = omega (arith, at.is, here, is); most = omega (arith, at.most, is) }

pub passed_here : (all us mid : Units) (u : List ℕ) (bits : ℕ) → Passed all us bits → us ≡ u ∷ mid → value_of u ≡ 0 → bits ≡ 8 * before_picture all + 32
unfolding before_picture
passed_here all us mid u bits h e on =
    let at = subst (λ (l : Units). Passed all l bits) e h in
    let here : before_picture (u ∷ mid) ≡ 0 = rw on refl in
    omega (arith, at.is, here)

pub passed_all : (all us : Units) (bits : ℕ) → Passed all us bits → us ≡ [] → bits ≡ 8 * before_picture all + 32
unfolding before_picture
passed_all all us bits h e =
    let at = subst (λ (l : Units). Passed all l bits) e h in
    omega (arith, at.is)

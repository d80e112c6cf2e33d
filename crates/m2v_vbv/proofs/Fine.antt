-- A removal that doesn't fail.
use Rattle.std.proofs.Common.{◌≡◌, ℕ, ◌+◌, ◌*◌, false, List, ◌∷◌, refl, arith}
use Rattle.std.proofs.Math.Nat.{zero-div, zero-mod}
use Rattle.std.proofs.lemmas.Bool.{ltb-false}
use Rattle.std.proofs.lemmas.List.Sums.{sum_by-cons}
use Rattle.std.specs.Int.{div_ceil}
use Rattle.m2v_vbv.specs.Annex.{Removal, removed}
use Rattle.m2v_vbv.specs.Buffer.{Inflow, Picture, Buffer, reach, is_over, is_under, wait_for, wait_of, full_of, removal_of, removals, left}

pub left_cons : (p : Picture) (ps : List Picture) (behind : ℕ) → left (p ∷ ps) behind ≡ p.bits + left ps behind
left_cons p ps behind =
    let e : removed (removals (p ∷ ps)) ≡ p.bits + removed (removals ps) = sum_by-cons (λ (r : Removal). r.bits) (removal_of p) (removals ps) in
    omega (arith, e)

pub no_rounds : (y : ℕ) → div_ceil 0 y ≡ 0
no_rounds y = omega (arith, zero-div y, zero-mod y)

no_wait : (c : Inflow) (missing : ℕ) → missing ≡ 0 → wait_for c missing ≡ 0
no_wait c missing e = rw (e, no_rounds (c.k * c.step)) (omega arith)

pub wait_fine : (b : Buffer) (bits rest : ℕ) → is_under b bits rest ≡ false → wait_of b bits rest ≡ 0
wait_fine b bits rest e =
    let le = ltb-false _ _ e in no_wait b.inflow _ (omega (arith, le))

pub full_fine : (b : Buffer) (bits rest : ℕ) → is_under b bits rest ≡ false → is_over b rest ≡ false → full_of b bits rest ≡ reach b
full_fine b bits rest under over = rw (under, over) refl

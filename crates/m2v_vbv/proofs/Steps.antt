-- One removal after another.
use Rattle.std.proofs.Common.{◌≡◌, ℕ, ◌+◌, ◌*◌, ◌≤◌, List, [], ◌∷◌, ◌++◌, refl, ap, ◌∙◌, arith}
use Rattle.std.proofs.lemmas.List.{map-append}
use Rattle.std.proofs.lemmas.List.Sums.{sum_by-append}
use Rattle.m2v_vbv.specs.Annex.{Removal, removed}
use Rattle.m2v_vbv.specs.Buffer.{Picture, Buffer, reach, have_of, told, next, removal_of, removals, left, run, tells}

same_have : (b : Buffer) (rest rest' : ℕ) → reach b ≤ 1800 * rest → reach b ≤ 1800 * rest' → have_of b rest ≡ have_of b rest'
same_have b rest rest' one other = omega arith

pub settled_told : (b : Buffer) (p : Picture) (rest rest' : ℕ) → reach b ≤ 1800 * rest → reach b ≤ 1800 * rest' → told b p rest ≡ told b p rest'
unfolding told
settled_told b p rest rest' one other = rw (same_have b rest rest' one other) refl

pub settled_next : (b : Buffer) (p : Picture) (rest rest' : ℕ) → reach b ≤ 1800 * rest → reach b ≤ 1800 * rest' → next b p rest ≡ next b p rest'
unfolding next
settled_next b p rest rest' one other = rw (same_have b rest rest' one other) refl

pub left_append : (ps qs : List Picture) (behind : ℕ) → left (ps ++ qs) behind ≡ left ps (left qs behind)
left_append ps qs behind =
    let e : removed (removals (ps ++ qs)) ≡ removed (removals ps) + removed (removals qs) =
    ap removed (map-append removal_of ps qs) ∙ sum_by-append (λ (r : Removal). r.bits) (removals ps) (removals qs) in
    omega (arith, e)

pub run_append : (b : Buffer) (ps qs : List Picture) (behind : ℕ) → run b (ps ++ qs) behind ≡ run (run b ps (left qs behind)) qs behind
unfolding run
run_append b [] qs behind = refl
run_append b (p ∷ ps) qs behind =
    ap (λ rest. run (next b p rest) (ps ++ qs) behind) (left_append (p ∷ ps) qs behind)
    ∙ run_append (next b p (left (p ∷ ps) (left qs behind))) ps qs behind

pub tells_append : (b : Buffer) (ps qs : List Picture) (behind : ℕ)
    → tells b (ps ++ qs) behind ≡ tells b ps (left qs behind) ++ tells (run b ps (left qs behind)) qs behind
unfolding run tells
tells_append b [] qs behind = refl
tells_append b (p ∷ ps) qs behind =
    let rest : ℕ = left (p ∷ ps) (left qs behind) in
    ap (λ r. told b p r ∷ tells (next b p r) (ps ++ qs) behind) (left_append (p ∷ ps) qs behind)
    ∙ ap (λ ts. told b p rest ∷ ts) (tells_append (next b p rest) ps qs behind)

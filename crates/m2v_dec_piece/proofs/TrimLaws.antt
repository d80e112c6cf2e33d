-- The zero bytes that stand last in a piece.
use Rattle.std.proofs.Common.{◌≡◌, ◌≢◌, ℕ, zero, suc, ◌+◌, ◌-◌, List, [], ◌∷◌, ◌++◌, length, replicate, min, refl, sym, ap, ◌∙◌, ◌<◌, append_assoc, arith}
use Rattle.std.specs.Prelude.{reverse}
use Rattle.std.proofs.lemmas.Bool.{ne_eqb}
use Rattle.std.proofs.lemmas.List.{reverse-append, length-append, length-replicate, take_at}
use Rattle.m2v_model.specs.Pieces.{zeros_first, zeros_last, trimmed}
use Rattle.m2v_dec_piece.specs.Cutting.{IsRun}
use Rattle.m2v_dec_piece.proofs.RunLaws.{run_tail, run_last}

-- none stands behind a byte that isn't zero
pub zeros_last_end : (xs : List ℕ) (b : ℕ) → b ≢ 0 → zeros_last (xs ++ b ∷ []) ≡ 0
unfolding zeros_first
zeros_last_end xs b some = ap zeros_first (reverse-append xs (b ∷ [])) ∙ rw (ne_eqb b 0 some) refl

-- nor behind bytes that don't end in one
pub zeros_last_run : (front run : List ℕ) → IsRun run → 0 < length run → zeros_last (front ++ run) ≡ 0
zeros_last_run front [] some lt = absurd (omega arith)
zeros_last_run front (b ∷ []) some lt = zeros_last_end front b (λ none. absurd (omega (arith, run_last b some, none)))
zeros_last_run front (b ∷ c ∷ run) some lt =
    ap zeros_last (sym (append_assoc front (b ∷ []) (c ∷ run)))
    ∙ zeros_last_run (front ++ b ∷ []) (c ∷ run) (run_tail b (c ∷ run) some) (omega arith)

pub length-sure : (bytes : List ℕ) (zeros : ℕ) → length (bytes ++ replicate zeros 0) ≡ length bytes + zeros
length-sure bytes zeros = let none : List ℕ = replicate zeros 0 in length-append bytes none ∙ omega (arith, length-replicate {A = ℕ} zeros 0)

replicate_last : (n : ℕ) → replicate {A = ℕ} n 0 ++ 0 ∷ [] ≡ 0 ∷ replicate n 0
replicate_last zero = refl
replicate_last (suc n) = ap (λ (x : List ℕ). 0 ∷ x) (replicate_last n)

pub reverse_zeros : (n : ℕ) → reverse (replicate {A = ℕ} n 0) ≡ replicate n 0
reverse_zeros zero = refl
reverse_zeros (suc n) = reverse-append (0 ∷ []) (replicate {A = ℕ} n 0) ∙ ap (λ (x : List ℕ). x ++ 0 ∷ []) (reverse_zeros n) ∙ replicate_last n

zeros_more : (n : ℕ) (xs : List ℕ) → zeros_first (replicate n 0 ++ xs) ≡ n + zeros_first xs
unfolding zeros_first
zeros_more zero xs = omega arith
zeros_more (suc n) xs = ap suc (zeros_more n xs) ∙ omega arith

last_zeros : (bytes : List ℕ) (n : ℕ) → zeros_last bytes ≡ 0 → zeros_last (bytes ++ replicate n 0) ≡ n
last_zeros bytes n none =
    ap zeros_first (reverse-append bytes (replicate n 0) ∙ ap (λ (x : List ℕ). x ++ reverse bytes) (reverse_zeros n))
    ∙ zeros_more n (reverse bytes) ∙ omega (arith, none)

-- bytes of which the last isn't zero, and zeros behind them
pub trimmed_is : (bytes : List ℕ) (n : ℕ) → zeros_last bytes ≡ 0 → bytes ++ replicate (min 64 n) 0 ≡ trimmed (bytes ++ replicate n 0)
trimmed_is bytes n none =
    let len : length (bytes ++ replicate n 0) - n ≡ length bytes = omega (arith, length-sure bytes n) in
    rw (last_zeros bytes n none, len) (ap (λ (x : List ℕ). x ++ replicate (min 64 n) 0) (sym (take_at bytes (replicate n 0) (length bytes) refl)))

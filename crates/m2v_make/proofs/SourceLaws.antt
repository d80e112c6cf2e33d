-- The source of the frames of a seed, over plain numbers.
use Rattle.std.proofs.Common.{◌≡◌, ℕ, suc, ◌+◌, ◌-◌, ◌*◌, ◌/◌, ◌%◌, ◌^◌, ◌<◌, ◌≤◌, refl, ap, sym, ◌∙◌, arith, cond}
use Rattle.std.proofs.lemmas.Bool.{lt-ltb, le-ltb}
use Rattle.m2v_make.specs.Frames.{state_behind, luma, number_at}
use Rattle.m2v_make.specs.Source.{chroma_byte, byte_in, byte_at, draws_before}

pub draws_none : (seed : ℕ) → seed ≡ state_behind seed (draws_before 0)
unfolding draws_before state_behind
draws_none seed = refl

-- a chroma sample takes no draw
pub draws_stay : (p : ℕ) → 25344 ≤ p % 38016 → draws_before (p + 1) ≡ draws_before p
unfolding draws_before
draws_stay p le = omega arith

-- a luma sample takes one
pub draws_more : (p : ℕ) → p % 38016 < 25344 → draws_before (p + 1) ≡ draws_before p + 1
unfolding draws_before
draws_more p lt = omega arith

pub draws_number : (p : ℕ) → p % 38016 < 25344 → number_at (p / 38016) (p % 38016 / 176) (p % 38016 % 176) ≡ draws_before p
unfolding draws_before
draws_number p lt = omega arith

pub state_more : (seed n : ℕ) → state_behind seed (n + 1) ≡ (state_behind seed n * 6364136223846793005 + 1442695040888963407) % 2 ^ 64
unfolding state_behind
state_more seed n =
    let next : n + 1 ≡ suc n = omega arith in
    ap (state_behind seed) next

-- the state behind a byte
pub state_kept : (seed state p : ℕ) → state ≡ state_behind seed (draws_before p) → 25344 ≤ p % 38016 → state ≡ state_behind seed (draws_before (p + 1))
state_kept seed state p is le = is ∙ ap (state_behind seed) (sym (draws_stay p le))

pub state_drawn : (seed state p x : ℕ) → state ≡ state_behind seed (draws_before p) → x ≡ (state * 6364136223846793005 + 1442695040888963407) % 2 ^ 64
    → p % 38016 < 25344 → x ≡ state_behind seed (draws_before (p + 1))
state_drawn seed state p x is drawn lt =
    drawn ∙ ap (λ s. (s * 6364136223846793005 + 1442695040888963407) % 2 ^ 64) is
    ∙ sym (state_more seed (draws_before p)) ∙ ap (state_behind seed) (sym (draws_more p lt))

-- a byte of chroma
pub chroma_there : (seed p : ℕ) → 25344 ≤ p % 38016 → chroma_byte (p / 38016) (p % 38016 - 25344) ≡ byte_at seed p
unfolding byte_at byte_in
chroma_there seed p le =
    sym (ap (λ b. cond b (luma seed (p / 38016) (p % 38016 / 176) (p % 38016 % 176)) (chroma_byte (p / 38016) (p % 38016 - 25344))) (le-ltb (p % 38016) 25344 le))

-- a byte of luma
pub luma_there : (seed state p x : ℕ) → state ≡ state_behind seed (draws_before (p + 1)) → p % 38016 < 25344
    → x ≡ (3 * (p % 38016 % 176) + 2 * (p % 38016 / 176) + 5 * (p / 38016)) % 128 + 32 + state / 2 ^ 56 / 16 → x ≡ byte_at seed p
unfolding byte_at byte_in
luma_there seed state p x is lt value =
    value
    ∙ ap (λ s. (3 * (p % 38016 % 176) + 2 * (p % 38016 / 176) + 5 * (p / 38016)) % 128 + 32 + s / 2 ^ 56 / 16)
    (is ∙ ap (state_behind seed) (draws_more p lt ∙ ap (λ n. n + 1) (sym (draws_number p lt))))
    ∙ sym (ap (λ b. cond b (luma seed (p / 38016) (p % 38016 / 176) (p % 38016 % 176)) (chroma_byte (p / 38016) (p % 38016 - 25344))) (lt-ltb (p % 38016) 25344 lt))

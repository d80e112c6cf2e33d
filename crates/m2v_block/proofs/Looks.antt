-- Bits out of those that were looked at.
use Rattle.std.proofs.Common.{◌≡◌, ℕ, ◌+◌, ◌-◌, ◌*◌, ◌/◌, ◌%◌, ◌^◌, ◌<◌, ◌≤◌, Bool, List, ◌++◌, drop, ap, ◌∙◌, sym, arith}
use Rattle.std.proofs.lemmas.List.{drop-drop}
use Rattle.std.proofs.lemmas.Nat.{shr_high, mod_low}
use Rattle.m2v_bits.specs.Bits.{number, ahead}
use Rattle.m2v_bits.proofs.Bits.{number_below, number-append}
use Rattle.m2v_bits.proofs.Cursor.{length-ahead, ahead-add}
use Rattle.m2v_block.specs.Blocks.{Looked}

-- n bits behind the first `used` of w bits
pub part_ahead : (w look used n : ℕ) (bs : List Bool) → look ≡ number (ahead w bs) → used + n ≤ w → look / 2 ^ (w - used - n) % 2 ^ n ≡ number (ahead n (drop used bs))
part_ahead w look used n bs at le =
    let s = w - used - n in
    let sum : (used + n) + s ≡ w = omega (arith, le) in
    let a = ahead used bs in
    let b = ahead n (drop used bs) in
    let f = ahead (used + n) bs in
    let c = ahead s (drop (used + n) bs) in
    let parts : ahead w bs ≡ f ++ c = rw sum at (ahead-add (used + n) s bs) in
    let low : number c < 2 ^ s = rw (length-ahead s (drop (used + n) bs)) at (number_below c) in
    let small : number b < 2 ^ n = rw (length-ahead n (drop used bs)) at (number_below b) in
    let whole : number (f ++ c) ≡ number f * 2 ^ s + number c = rw (length-ahead s (drop (used + n) bs)) at (number-append f c) in
    let front : number (a ++ b) ≡ number a * 2 ^ n + number b = rw (length-ahead n (drop used bs)) at (number-append a b) in
    ap (λ (x : ℕ). x / 2 ^ s % 2 ^ n) (at ∙ ap number parts ∙ whole)
    ∙ ap (λ (x : ℕ). x % 2 ^ n) (shr_high (number f) s (number c) low ∙ ap number (ahead-add used n bs) ∙ front)
    ∙ mod_low (number a) n (number b) small

pub nine_ahead : (look used : ℕ) (rest : List Bool) → Looked look used rest → used ≤ 23 → look / 2 ^ (23 - used) % 512 ≡ number (ahead 9 rest)
nine_ahead look used rest l le =
    let shift : 23 - used ≡ 32 - used - 9 = omega arith in
    ap (λ (s : ℕ). look / 2 ^ s % 512) shift
    ∙ part_ahead 32 look used 9 l.from l.bits (omega (arith, le))
    ∙ ap (λ (x : List Bool). number (ahead 9 x)) (sym l.here)

pub looked_on : (look used n : ℕ) (rest next : List Bool) → Looked look used rest → next ≡ drop n rest → Looked look (used + n) next
looked_on look used n rest next l is = record { from = l.from; bits = l.bits; here = is ∙ ap (drop n) l.here ∙ drop-drop n used l.from }

-- the code, the run and the level of an escape
pub escape_look : (look : ℕ) (bs : List Bool) → look ≡ number (ahead 24 bs)
    → (look / 2 ^ 18 ≡ number (ahead 6 bs)) × (look / 4096 % 64 ≡ number (ahead 6 (drop 6 bs))) × (look % 4096 ≡ number (ahead 12 (drop 12 bs)))
escape_look look bs e =
    let a = ahead 6 bs in
    let b = ahead 6 (drop 6 bs) in
    let c = ahead 12 (drop 6 (drop 6 bs)) in
    let d = ahead 18 (drop 6 bs) in
    let first : number (a ++ d) ≡ number a * 2 ^ 18 + number d = rw (length-ahead 18 (drop 6 bs)) at (number-append a d) in
    let second : number (b ++ c) ≡ number b * 2 ^ 12 + number c = rw (length-ahead 12 (drop 6 (drop 6 bs))) at (number-append b c) in
    let whole : look ≡ number a * 2 ^ 18 + number d = e ∙ ap number (ahead-add 6 18 bs) ∙ first in
    let later : number d ≡ number b * 2 ^ 12 + number c = ap number (ahead-add 6 12 (drop 6 bs)) ∙ second in
    let run : number b < 2 ^ 6 = rw (length-ahead 6 (drop 6 bs)) at (number_below b) in
    let level : number c < 2 ^ 12 = rw (length-ahead 12 (drop 6 (drop 6 bs))) at (number_below c) in
    let same : number c ≡ number (ahead 12 (drop 12 bs)) = ap (λ (xs : List Bool). number (ahead 12 xs)) (drop-drop 6 6 bs) in
    (omega (arith, whole, later, run, level), omega (arith, whole, later, run, level), omega (arith, whole, later, run, level) ∙ same)

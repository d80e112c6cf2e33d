-- The size of a DC difference and its bits out of one look.
use Rattle.std.proofs.Common.{◌≡◌, ℕ, zero, suc, ◌+◌, ◌-◌, ◌*◌, ◌/◌, ◌%◌, ◌^◌, ◌<◌, ◌≤◌, Bool, true, false, List, ◌++◌, length, take, drop, ℤ, pos, negsuc, ◌+ℤ◌, ◌-ℤ◌, ◌≤ℤ◌, ◌<ℤ◌, inl, inr, refl, sym, ap, ◌∙◌, arith}
use Rattle.std.specs.Prelude.{nat_eq, nat_le}
use Rattle.std.proofs.lemmas.Bool.{ne_eqb, le-ltb, le-leb, lt-leb}
use Rattle.std.proofs.Math.Nat.{pow-suc}
use Rattle.std.proofs.lemmas.List.{length-append}
use Rattle.std.proofs.Math.Seq.{drop-append_seam}
use Rattle.std.proofs.lemmas.Int.{ints, to_z-of_z}
use mir.Syntax.{w32}
use mir.Val.{SFits, to_z, of_z}
use Rattle.m2v_quant.specs.Kinds.{IsLevel}
use Rattle.m2v_bits.specs.Bits.{Unread, IsSound, number, ahead}
use Rattle.m2v_bits.specs.Syntax.{choose, renamed, seq, bind, here, rule, done}
use Rattle.m2v_bits.specs.Leaves.{bits_at}
use Rattle.m2v_bits.proofs.Cursor.{ahead_take}
use Rattle.m2v_bits.proofs.SyntaxLaws.{good}
use Rattle.m2v_vlc.specs.declared.values.CodeFault.TheVariants as codes
use Rattle.m2v_vlc.specs.Tables.{dc_luma_code, dc_chroma_code}
use Rattle.m2v_vlc.proofs.Sizes.{dc_luma_length, dc_luma_once, dc_chroma_length, dc_chroma_once}
use Rattle.m2v_block.specs.Faults.{cut}
use Rattle.m2v_block.specs.Blocks.{IsDc, is_dc, difference, size_at, dc_at}
use Rattle.m2v_block.proofs.BlockLaws.{size_strict}
use Rattle.m2v_block.proofs.Looks.{part_ahead}
use Rattle.m2v_block.proofs.Ranges.{power_most, dc_is_level, level_fits}

-- a size is read by its code, of at most ten bits
size_taken : (luma : Bool) (v : ℕ) (bs mid : List Bool) → (size_at luma).read bs ≡ good (v, mid) → (c : List Bool) × (length c ≤ 10) × (bs ≡ c ++ mid)
unfolding size_at choose renamed
size_taken luma v bs mid e = elim ((size_strict luma).lawful.found v bs mid e) [
  | inl s ↦ (dc_luma_code v, omega (arith, dc_luma_length v), dc_luma_once codes.Truncated codes.NoCode v bs mid s.1)
  | inr s ↦ (dc_chroma_code v, dc_chroma_length v, dc_chroma_once codes.Truncated codes.NoCode v bs mid s.1)
]

-- so many bits the reader went on
pub size_used : (luma : Bool) (v : ℕ) (old new : Unread) → IsSound old → IsSound new → new.text ≡ old.text → (size_at luma).read old.rest ≡ good (v, new.rest)
    → (old.place ≤ new.place) × (new.place - old.place ≤ 10) × (new.place - old.place + length new.rest ≡ length old.rest)
size_used luma v old new from to text e =
    let taken = size_taken luma v old.rest new.rest e in
    let both : length old.rest ≡ length taken.0 + length new.rest = ap length taken.2 ∙ length-append taken.0 new.rest in
    let same : length new.text ≡ length old.text = ap length text in
    (omega (arith, both, same, from.sum, to.sum, taken.1), omega (arith, both, same, from.sum, to.sum, taken.1), omega (arith, both, same, from.sum, to.sum, taken.1))

size_behind : (luma : Bool) (v used : ℕ) (bs mid : List Bool) → (size_at luma).read bs ≡ good (v, mid) → used + length mid ≡ length bs → mid ≡ drop used bs
size_behind luma v used bs mid e sum =
    let taken = size_taken luma v bs mid e in
    let c = taken.0 in
    let both : length bs ≡ length c + length mid = ap length taken.2 ∙ length-append c mid in
    let same : length c ≡ used = omega (arith, both, sum) in
    let rest : drop (length c) bs ≡ mid = ap (drop (length c)) taken.2 ∙ drop-append_seam c mid in
    sym rest ∙ ap (λ (n : ℕ). drop n bs) same

-- the bits behind the size
pub bits_looked : (luma : Bool) (look v used : ℕ) (bs mid : List Bool) → (size_at luma).read bs ≡ good (v, mid) → used ≤ 10 → used + length mid ≡ length bs → look ≡ number (ahead 21 bs) → v < 12 → 57 ≤ length bs
    → (bits_at cut v).read mid ≡ good (look / 2 ^ (21 - used - v) % (1 * 2 ^ v % 4294967296), drop v mid)
unfolding bits_at
bits_looked luma look v used bs mid e near sum at small long =
    let behind = size_behind luma v used bs mid e sum in
    let enough : v ≤ length mid = omega (arith, sum, near, small, long) in
    let most = power_most v small in
    let one : 1 * 2 ^ v % 4294967296 ≡ 2 ^ v = omega (arith, most) in
    let part = part_ahead 21 look used v bs at (omega (arith, near, small)) in
    let here : number (ahead v (drop used bs)) ≡ number (take v mid) = ap (λ (xs : List Bool). number (ahead v xs)) (sym behind) ∙ ap number (ahead_take v mid enough) in
    rw (le-ltb (length mid) v enough, one, part ∙ here) refl

-- the level of a size and its bits
pub dc_behind : (luma : Bool) (precision size bits : ℕ) (predictor : ℤ) (bs mid rest : List Bool) → (size_at luma).read bs ≡ good (size, mid) → (bits_at cut size).read mid ≡ good (bits, rest)
    → is_dc precision (predictor +ℤ difference size bits) ≡ true → (dc_at luma precision predictor).read bs ≡ good (predictor +ℤ difference size bits, rest)
unfolding dc_at seq bind here rule done
dc_behind luma precision size bits predictor bs mid rest e f is = rw (e, f, is) refl

sum_fits : (z : ℤ) → pos 0 ≤ℤ (z +ℤ pos 2048) → z <ℤ pos 8192 → SFits w32 z
sum_fits (pos n) low high = record { sfits = omega (arith, ints, low, high) }
sum_fits (negsuc n) low high = record { sfits = omega (arith, ints, low, high) }

-- the level as it is worked out
pub level_passed : (precision : ℕ) (predictor d : ℤ) → precision ≤ 3 → IsDc precision predictor → IsLevel d
    → to_z w32 (of_z w32 (to_z w32 (of_z w32 predictor) +ℤ to_z w32 (of_z w32 d))) ≡ predictor +ℤ d
level_passed precision predictor d le p l =
    let most = power_most (8 + precision) (omega (arith, le)) in
    let fits : SFits w32 (predictor +ℤ d) = sum_fits (predictor +ℤ d) (omega (arith, ints, most, p.0, p.1, l.0, l.1)) (omega (arith, ints, most, p.0, p.1, l.0, l.1)) in
    rw (to_z-of_z w32 predictor (level_fits predictor (dc_is_level precision predictor le p)), to_z-of_z w32 d (level_fits d l)) (to_z-of_z w32 (predictor +ℤ d) fits)

-- a size that isn't 0 tells the half by its highest bit
half_is : (s bits : ℕ) → (nat_eq (suc s) 0 ≡ false) × (nat_le (2 ^ (suc s - 1)) bits ≡ nat_le (2 ^ s) bits) × (2 ^ suc s ≡ 2 ^ s * 2)
half_is s bits = let half : suc s - 1 ≡ s = omega arith in (ne_eqb (suc s) 0 (λ e. omega arith), rw half refl, pow-suc 2 s)

pub difference_high : (size bits : ℕ) → bits < 2 ^ size → 2 ^ size ≤ 2 * bits → difference size bits ≡ pos bits
unfolding difference
difference_high zero bits fits high = absurd (omega (arith, fits, high))
difference_high (suc s) bits fits high =
    let h = half_is s bits in
    rw (h.0, h.1 ∙ le-leb (2 ^ s) bits (omega (arith, h.2, high))) refl

pub difference_low : (size bits : ℕ) → bits < 2 ^ size → 2 * bits < 2 ^ size → difference size bits ≡ pos (bits + 1) -ℤ pos (2 ^ size)
unfolding difference
difference_low zero bits fits low = let none : bits ≡ 0 = omega (arith, fits) in rw none refl
difference_low (suc s) bits fits low =
    let h = half_is s bits in
    rw (h.0, h.1 ∙ lt-leb (2 ^ s) bits (omega (arith, h.2, low))) refl

-- One macroblock row, whose planes stand one after another.
use Rattle.std.proofs.Common.{◌≡◌, ℕ, ◌+◌, ◌*◌, List, ◌++◌, length, take, drop, replicate, ap, sym, ◌∙◌, arith}
use Rattle.std.proofs.lemmas.List.{take_at, drop_at, drop-drop, length-append, length-replicate, replicate-append-replicate}
use Rattle.m2v_plane.specs.declared.dims.Dims.{Dims}
use Rattle.m2v_plane.specs.Samples.{Samples, row_of, blank}

-- three planes
abbrev pub planes : Dims → List ℕ → List ℕ → List ℕ → Samples
planes d l b r = record { dims = d; luma = l; cb = b; cr = r }

third : (d : Dims) (xs : List ℕ) → drop (64 * d.mb_width) (drop (256 * d.mb_width) xs) ≡ drop (320 * d.mb_width) xs
third d xs = drop-drop (64 * d.mb_width) (256 * d.mb_width) xs ∙ ap (λ n. drop n xs) (omega arith)

-- a row taken apart
pub parted : (d : Dims) (xs l rest b r : List ℕ) → l ≡ take (256 * d.mb_width) xs → rest ≡ drop (256 * d.mb_width) xs
    → b ≡ take (64 * d.mb_width) rest → r ≡ drop (64 * d.mb_width) rest → planes d l b r ≡ row_of d xs
parted d xs l rest b r el erest eb er =
    ap (λ x. planes d x b r) el
    ∙ ap (λ x. planes d (take (256 * d.mb_width) xs) x r) (eb ∙ ap (take (64 * d.mb_width)) erest)
    ∙ ap (λ x. planes d (take (256 * d.mb_width) xs) (take (64 * d.mb_width) (drop (256 * d.mb_width) xs)) x)
    (er ∙ ap (drop (64 * d.mb_width)) erest ∙ third d xs)

-- and put together
pub joined : (d : Dims) (xs l b r : List ℕ) → xs ≡ l ++ (b ++ r) → length l ≡ 256 * d.mb_width → length b ≡ 64 * d.mb_width
    → row_of d xs ≡ planes d l b r
joined d xs l b r is el eb =
    let rest : drop (256 * d.mb_width) xs ≡ b ++ r = ap (drop (256 * d.mb_width)) is ∙ drop_at l (b ++ r) (256 * d.mb_width) el in
    sym (parted d xs l (b ++ r) b r
    (sym (ap (take (256 * d.mb_width)) is ∙ take_at l (b ++ r) (256 * d.mb_width) (omega arith)))
    (sym rest)
    (sym (take_at b r (64 * d.mb_width) (omega arith)))
    (sym (drop_at b r (64 * d.mb_width) eb)))

pub three_long : (d : Dims) (n m : ℕ) (l b r : List ℕ) → n ≡ 384 * d.mb_width → m + 256 * d.mb_width ≡ n
    → length r + 64 * d.mb_width ≡ m → length l ≡ 256 * d.mb_width → length b ≡ 64 * d.mb_width → length (l ++ (b ++ r)) ≡ n
three_long d n m l b r all rest er el eb = omega (arith, length-append l (b ++ r), length-append b r)

-- a row of samples 0
pub blanked : (d : Dims) (n : ℕ) → n ≡ 384 * d.mb_width → row_of d (replicate n 0) ≡ blank d 1
blanked d n e =
    let w = d.mb_width in
    let all : n ≡ 256 * w + (64 * w + 64 * w) = omega arith in
    let luma : 256 * w ≡ 16 * 1 * (16 * w) = omega arith in
    let chroma : 64 * w ≡ 8 * 1 * (8 * w) = omega arith in
    joined d (zeros n) (zeros (256 * w)) (zeros (64 * w)) (zeros (64 * w))
    (ap zeros all ∙ sym (replicate-append-replicate (256 * w) (64 * w + 64 * w) 0)
    ∙ ap (λ x. zeros (256 * w) ++ x) (sym (replicate-append-replicate (64 * w) (64 * w) 0)))
    (length-replicate (256 * w) 0) (length-replicate (64 * w) 0)
    ∙ ap (λ k. planes d (zeros k) (zeros (64 * w)) (zeros (64 * w))) luma
    ∙ ap (λ k. planes d (zeros (16 * 1 * (16 * w))) (zeros k) (zeros k)) chroma
  where
    zeros : ℕ → List ℕ
    zeros k = replicate k 0

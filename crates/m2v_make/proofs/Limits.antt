-- Texts of which no piece passes a limit: of few bytes each piece, and of at most 2^36 bytes the text.
use Rattle.std.proofs.Common.{◌≡◌, ℕ, ◌+◌, ◌*◌, ◌≤◌, Bool, true, false, List, [], ◌∷◌, ◌++◌, length, map, sum, take, Option, Some, None, refl, ap, arith}
use Rattle.std.specs.Prelude.{All, nat_eq, if◌then◌else◌, slice_index}
use Rattle.std.proofs.lemmas.Bool.{cond_both}
use Rattle.std.proofs.lemmas.List.{length-append, length-take}
use Rattle.std.proofs.lemmas.List.Elements.{All-head, All-tail}
use Rattle.std.proofs.lemmas.List.Sums.{sum_by-cons}
use Rattle.m2v_check.specs.m2v_model.declared.phase.Phase.{Phase}
use Rattle.m2v_check.specs.m2v_model.declared.phase.Phase.TheVariants.{Before, Headers, Picture}
use Rattle.m2v_check.specs.m2v_model.Units.{Units, cut, joined}
use Rattle.m2v_check.specs.m2v_model.Pieces.{phase_after, begins_piece, is_end, piece_of, grouped, pieces, before_sequence, most_input}
use Rattle.m2v_check.specs.m2v_model.Buffering.{bits_of_piece}
use Rattle.m2v_check.proofs.m2v_model.CutLaws.{cut_cuts}
use Rattle.m2v_check.proofs.m2v_decode.m2v_dec_piece.LimitLaws.{few_fit}
use Rattle.m2v_check.specs.m2v_decode.Answers.{AllFit, start_of}
use Rattle.m2v_check.specs.m2v_decode.Complete.{IsUnderLimits}

-- ---- pieces lie in their text

-- the bytes of pieces
abbrev pub bytes_of : List (List ℕ) → ℕ
bytes_of ps = sum (map length ps)

bytes_more : (p : List ℕ) (ps : List (List ℕ)) → bytes_of (p ∷ ps) ≡ length p + bytes_of ps
bytes_more p ps = sum_by-cons (λ (n : ℕ). n) (length p) (map length ps)

bytes_one : (p : List ℕ) → bytes_of (p ∷ []) ≡ length p
bytes_one p = omega arith

bytes_two : (p q : List ℕ) → bytes_of (p ∷ q ∷ []) ≡ length p + length q
bytes_two p q = omega arith

last_most : (bytes : List ℕ) → bytes_of (piece_of bytes) ≤ length bytes
last_most [] = omega arith
last_most (b ∷ bs) = omega (arith, bytes_one (b ∷ bs))

-- pieces have no bytes but those at hand and those of the units
grouped_most : (us : Units) (phase : Phase) (bytes : List ℕ) → bytes_of (grouped phase bytes us) ≤ length bytes + length (joined us)
unfolding grouped
grouped_most [] Before bytes = omega arith
grouped_most [] Headers bytes = omega (arith, last_most bytes)
grouped_most [] Picture bytes = omega (arith, last_most bytes)
grouped_most (u ∷ us) Before bytes =
    cond_both (nat_eq (slice_index u 3) 0xB3) (grouped Headers u us) (grouped Before [] us) (λ (ps : List (List ℕ)). bytes_of ps ≤ length bytes + length (u ++ joined us))
    (λ e. omega (arith, grouped_most us Headers u, length-append u (joined us)))
    (λ e. omega (arith, grouped_most us Before [], length-append u (joined us)))
grouped_most (u ∷ us) Headers bytes =
    cond_both (is_end (slice_index u 3)) ((bytes ++ take 4 u) ∷ []) (grouped (phase_after Headers (slice_index u 3)) (bytes ++ u) us)
    (λ (ps : List (List ℕ)). bytes_of ps ≤ length bytes + length (u ++ joined us))
    (λ e. omega (arith, bytes_one (bytes ++ take 4 u), length-append bytes (take 4 u), length-take 4 u, length-append u (joined us)))
    (λ e. omega (arith, grouped_most us (phase_after Headers (slice_index u 3)) (bytes ++ u), length-append bytes u, length-append u (joined us)))
grouped_most (u ∷ us) Picture bytes =
    cond_both (is_end (slice_index u 3)) (bytes ∷ take 4 u ∷ [])
    (if begins_piece (slice_index u 3) then bytes ∷ grouped (phase_after Headers (slice_index u 3)) u us else grouped Picture (bytes ++ u) us)
    (λ (ps : List (List ℕ)). bytes_of ps ≤ length bytes + length (u ++ joined us))
    (λ e. omega (arith, bytes_two bytes (take 4 u), length-take 4 u, length-append u (joined us)))
    (λ e. cond_both (begins_piece (slice_index u 3)) (bytes ∷ grouped (phase_after Headers (slice_index u 3)) u us) (grouped Picture (bytes ++ u) us)
    (λ (ps : List (List ℕ)). bytes_of ps ≤ length bytes + length (u ++ joined us))
    (λ f. omega (arith, bytes_more bytes (grouped (phase_after Headers (slice_index u 3)) u us), grouped_most us (phase_after Headers (slice_index u 3)) u, length-append u (joined us)))
    (λ f. omega (arith, grouped_most us Picture (bytes ++ u), length-append bytes u, length-append u (joined us))))

behind_most : (us : Units) → length (before_sequence us) + bytes_of (grouped Before [] us) ≤ length (joined us)
unfolding grouped before_sequence
behind_most [] = omega arith
behind_most (u ∷ us) = by_case (nat_eq (slice_index u 3) 0xB3) (behind_most us)
  where
    by_case : (t : Bool) → length (before_sequence us) + bytes_of (grouped Before [] us) ≤ length (joined us)
        → length (if t then [] else u ++ before_sequence us) + bytes_of (if t then grouped Headers u us else grouped Before [] us) ≤ length (u ++ joined us)
    by_case true rest = omega (arith, grouped_most us Headers u, length-append u (joined us))
    by_case false rest = omega (arith, rest, length-append u (before_sequence us), length-append u (joined us))

-- the pieces, and the bytes before the first one
within : (text : List ℕ) → start_of text + bytes_of (pieces text) ≤ length text
within text =
    let front = (cut 0 text).0 in
    let us = (cut 0 text).1 in
    omega (arith, ap length (cut_cuts text).whole, length-append front (joined us), length-append front (before_sequence us), behind_most us)

-- ---- limits

-- the bits of a piece of the most bytes
abbrev pub most_bits : ℕ
most_bits = 16777216

pieces_fit : (at : ℕ) (ps : List (List ℕ)) → All (λ n. n ≤ most_bits) (map bits_of_piece ps) → at + bytes_of ps ≤ most_input → AllFit at ps
pieces_fit at [] few long = tt
pieces_fit at (p ∷ ps) few long =
    let here : bits_of_piece p ≤ most_bits = All-head (λ (n : ℕ). n ≤ most_bits) (bits_of_piece p) (map bits_of_piece ps) few in
    let behind = All-tail (λ (n : ℕ). n ≤ most_bits) (bits_of_piece p) (map bits_of_piece ps) few in
    let more = bytes_more p ps in
    (few_fit at 0 p (omega (arith, long, more)) (omega (arith, here)), pieces_fit (at + length p) ps behind (omega (arith, long, more)))

-- a text whose pieces have few bits each passes no limit, if it isn't longer than an input may be
pub under_limits : (text : List ℕ) → All (λ n. n ≤ most_bits) (map bits_of_piece (pieces text)) → length text ≤ most_input → IsUnderLimits text
under_limits text few long =
    let inside = within text in
    record { start = omega (arith, inside, long); pieces = pieces_fit (start_of text) (pieces text) few (omega (arith, inside, long)) }

-- ---- bits

pub bits_are_bytes : (ps : List (List ℕ)) → sum (map bits_of_piece ps) ≡ 8 * bytes_of ps
bits_are_bytes [] = omega arith
bits_are_bytes (p ∷ ps) = omega (arith, sum_by-cons (λ (n : ℕ). n) (bits_of_piece p) (map bits_of_piece ps), bytes_more p ps, bits_are_bytes ps)

-- so many numbers have so small a sum
pub sum_most : (ns : List ℕ) → All (λ n. n ≤ most_bits) ns → sum ns ≤ most_bits * length ns
sum_most [] few = omega arith
sum_most (n ∷ ns) few =
    omega (arith, All-head (λ (k : ℕ). k ≤ most_bits) n ns few, sum_by-cons (λ (k : ℕ). k) n ns, sum_most ns (All-tail (λ (k : ℕ). k ≤ most_bits) n ns few))

-- What is said of all pictures of a stream is what the standard's account says.
use Rattle.std.proofs.Common.{◌≡◌, ℕ, ◌/◌, ◌<◌, ◌≤◌, List, [], ◌∷◌, length, map, Some, None, Result, Ok, Err, sym, ap, subst, ◌∙◌, arith}
use Rattle.std.specs.Prelude.{drop}
use Rattle.m2v_vbv.specs.Annex.{Removal, removed}
use Rattle.m2v_vbv.specs.declared.fault.AccountFault.{AccountFault}
use Rattle.m2v_model.specs.declared.state.Sequence.{Sequence}
use Rattle.m2v_model.specs.Lawful.{Numbered}
use Rattle.m2v_model.specs.Buffering.{StreamAccount, account_from, unsafe_from, unsafe_in, amounts_from, greatest, codes, exact_delays, exact_delays_from, other_delays, low_of, high_of}
use Rattle.m2v_check.specs.declared.buffer.BufferFigures.{BufferFigures as Found}
use Rattle.m2v_check.specs.declared.times.Times.{Times}
use Rattle.m2v_check.specs.Accounts.{removals_of, stream_of, first_fault, most_of, others_of}
use Rattle.m2v_check.specs.Judging.{finished, times_of}
use Rattle.m2v_check.proofs.Accounted.{bits_of, said_of_all}
use Rattle.m2v_check.proofs.Listed.{nexts, all_bits, removals_are, delays_are, low_is, unsafe_same, amounts_same}

-- what is said of an account
abbrev pub SaidBy : StreamAccount → List (List ℕ) → List Numbered → Result Found AccountFault → Type 0
SaidBy a ps ns (Err f) = (others : List AccountFault) × (unsafe_in (Some a) ≡ f ∷ others)
SaidBy a ps ns (Ok x) =
    (unsafe_in (Some a) ≡ []) × (x.low ≡ low_of a) × (x.high ≡ high_of a) × (x.delays ≡ other_delays (drop 1 ns) (drop 1 (exact_delays ps a)))

some_next : (t : Times) (p : List ℕ) (ps : List (List ℕ)) (n : Numbered) (ns : List Numbered) → 0 < length (removals_of (nexts t (p ∷ ps) (n ∷ ns)))
some_next t p ps n [] = omega arith
some_next t p ps n (m ∷ ns) = omega arith

by_faults : (a : StreamAccount) (ps : List (List ℕ)) (ns : List Numbered) (us : List AccountFault) (most delays : ℕ) → us ≡ unsafe_in (Some a) → low_of a ≡ 0 → most / 1800 ≡ high_of a
    → delays ≡ other_delays (drop 1 ns) (drop 1 (exact_delays ps a)) → SaidBy a ps ns (finished (first_fault us) None most delays)
by_faults a ps ns [] most delays e low high d = (sym e, sym low, high, d)
by_faults a ps ns (f ∷ fs) most delays e low high d = (fs, sym e)

pub said_is : (s : Sequence) (p : List ℕ) (ps : List (List ℕ)) (n : Numbered) (ns : List Numbered) → length (n ∷ ns) ≤ length (p ∷ ps) → all_bits (p ∷ ps) ≡ bits_of (nexts (times_of s) (p ∷ ps) (n ∷ ns))
    → SaidBy (account_from s.extension.low_delay s n (p ∷ ps) (n ∷ ns)) (p ∷ ps) (n ∷ ns)
    (said_of_all (account_from s.extension.low_delay s n (p ∷ ps) (n ∷ ns)).start (all_bits (p ∷ ps)) (nexts (times_of s) (p ∷ ps) (n ∷ ns)))
said_is s p ps n ns le bits =
    let a = account_from s.extension.low_delay s n (p ∷ ps) (n ∷ ns) in
    let ts = nexts (times_of s) (p ∷ ps) (n ∷ ns) in
    let e : removals_of ts ≡ a.removals = removals_are (times_of s) (p ∷ ps) (n ∷ ns) le in
    let some : 0 < length a.removals = subst (λ (l : List Removal). 0 < length l) e (some_next (times_of s) p ps n ns) in
    let unsafe : unsafe_from (stream_of a.start a.total) [] (removals_of ts) ≡ unsafe_from a [] a.removals =
    unsafe_same a.start a.total [] a.removals [] (removals_of ts) ∙ ap (unsafe_from a []) e in
    let amounts : amounts_from (stream_of a.start a.total) [] (removals_of ts) ≡ amounts_from a [] a.removals =
    amounts_same a.start a.total [] a.removals [] (removals_of ts) ∙ ap (amounts_from a []) e in
    let delays = delays_are a.start (times_of s) (p ∷ ps) (n ∷ ns) le ∙ ap (λ (l : List Removal). other_delays (drop 1 (n ∷ ns)) (drop 1 (exact_delays_from a.start [] (codes 0 (p ∷ ps)) l))) e in
    by_faults a (p ∷ ps) (n ∷ ns) (unsafe_from (stream_of a.start a.total) [] (removals_of ts)) (most_of a.start a.total ts) (others_of a.start ts) unsafe
    (low_is a some (bits ∙ ap removed e))
    (ap (λ (l : List (ℕ × ℕ)). greatest (map (λ (x : ℕ × ℕ). x.0) l) / 1800) amounts)
    delays

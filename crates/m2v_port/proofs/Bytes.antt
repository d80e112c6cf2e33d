-- Bytes on their way.
use Rattle.std.proofs.Common.{◌≡◌, ℕ, ◌+◌, ◌-◌, ◌≤◌, List, ◌++◌, length, take, drop, sym, ◌∙◌, ap, arith, take-append-drop}
use Rattle.std.proofs.lemmas.List.{take_at, drop-drop, length-take-le}

-- bytes from a place on, copied to the front of a buffer
pub taken : (bytes buf got : List ℕ) (from n : ℕ) → n ≤ length buf → length got ≡ length (take n buf) → got ≡ take (from + n - from) (drop from bytes)
    → drop from bytes ≡ take n (got ++ drop n buf) ++ drop (from + n) bytes
taken bytes buf got from n fits len is =
    let is_long : length got ≡ n = len ∙ length-take-le n buf fits in
    let same : from + n - from ≡ n = omega arith in
    let got_is : got ≡ take n (drop from bytes) = is ∙ ap (λ k. take k (drop from bytes)) same in
    rw (take_at got (drop n buf) n is_long, got_is, ← drop-drop n from bytes) (sym (take-append-drop n (drop from bytes)))

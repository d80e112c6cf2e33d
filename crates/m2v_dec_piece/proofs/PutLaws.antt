-- Bytes that are written one part after another.
use Rattle.std.proofs.Common.{◌≡◌, ℕ, ◌+◌, ◌-◌, ◌≤◌, List, ◌++◌, take, replicate, Option, Result, Ok, Err, OnErr, IfErr, ap, subst, ◌∙◌, arith}
use Rattle.std.specs.Prelude.{IsErrOf}
use Rattle.std.proofs.lemmas.List.{take-replicate, replicate-append-replicate}
use Rattle.m2v_port.specs.Ends.{Change, change}
use Rattle.m2v_port.specs.Port.{Rose, Grows, GrowsByPrefix}
use Rattle.m2v_port.specs.declared.error.PortError.{PortError}
use Rattle.m2v_port.specs.declared.error.PortError.TheVariants as errors
use Rattle.m2v_port.proofs.Runs.{rose_since, grows_on, grows_by_none, prefix_on, prefix_of_more}
use Rattle.m2v_dec_piece.specs.Putting.{PutStops}

-- The output's states are o0, o1 and so on.
module _ {K : Type 0} (held : K → Option (List ℕ)) (output_faults : K → ℕ) where
  abbrev output : K → K → Change
  output = change held output_faults

  -- what a call tells
  pub put_stops : {T : Type 0} (o0 o1 : K) (bytes : List ℕ) (r : Result T PortError) → OnErr r (GrowsByPrefix (held o0) bytes (held o1)) → (IsErrOf r errors.Failed → Rose (output_faults o0) (output_faults o1)) → IfErr r (PutStops bytes (output o0 o1))
  put_stops o0 o1 bytes (Ok u) grown failed = tt
  put_stops o0 o1 bytes (Err e) grown failed = record { failed = λ is. failed (ap Err is); grown = grown }

  -- memory ran out before anything was written
  pub none_put : (o : K) (bytes : List ℕ) → PutStops bytes (output o o) errors.Memory
  none_put o bytes = record { failed = λ is. absurd cc; grown = grows_by_none _ }

  -- more was to be written
  pub stops_more : (o0 o1 : K) (bytes more : List ℕ) (e : PortError) → PutStops bytes (output o0 o1) e → PutStops (bytes ++ more) (output o0 o1) e
  stops_more o0 o1 bytes more e stops = record { failed = stops.failed; grown = prefix_of_more stops.grown more }

  -- some was written before
  pub stops_on : (o0 o1 o2 : K) (bytes more : List ℕ) (e : PortError) → output_faults o0 ≤ output_faults o1 → Grows (held o0) bytes (held o1) → PutStops more (output o1 o2) e → PutStops (bytes ++ more) (output o0 o2) e
  stops_on o0 o1 o2 bytes more e le grown stops = record { failed = λ is. rose_since le (stops.failed is); grown = prefix_on grown stops.grown }

  -- zero bytes, of which some were written
  pub zeros_on : (o0 o1 o2 : K) (zeros left n : ℕ) → n ≤ left → left ≤ zeros → Grows (held o0) (replicate (zeros - left) 0) (held o1) → Grows (held o1) (replicate n 0) (held o2) → Grows (held o0) (replicate (zeros - (left - n)) 0) (held o2)
  zeros_on o0 o1 o2 zeros left n le less grown next =
      let e : (zeros - left) + n ≡ zeros - (left - n) = omega arith in
      subst (λ (b : List ℕ). Grows (held o0) b (held o2)) (replicate-append-replicate (zeros - left) n 0 ∙ ap (λ (k : ℕ). replicate k 0) e) (grows_on grown next)

  pub zeros_stop : (o0 o1 o2 : K) (zeros left n : ℕ) (e : PortError) → n ≤ left → left ≤ zeros → output_faults o0 ≤ output_faults o1 → Grows (held o0) (replicate (zeros - left) 0) (held o1) → PutStops (replicate n 0) (output o1 o2) e → PutStops (replicate zeros 0) (output o0 o2) e
  zeros_stop o0 o1 o2 zeros left n e le less faults grown stops =
      let q : ((zeros - left) + n) + (left - n) ≡ zeros = omega arith in
      subst (λ (b : List ℕ). PutStops b (output o0 o2) e) (replicate-append-replicate ((zeros - left) + n) (left - n) 0 ∙ ap (λ (k : ℕ). replicate k 0) q)
      (stops_more o0 o2 (replicate ((zeros - left) + n) 0) (replicate (left - n) 0) e
      (subst (λ (b : List ℕ). PutStops b (output o0 o2) e) (replicate-append-replicate (zeros - left) n 0) (stops_on o0 o1 o2 (replicate (zeros - left) 0) (replicate n 0) e faults grown stops)))

pub of_buffer : (n most : ℕ) → n ≤ most → take {A = ℕ} n (replicate most 0) ≡ replicate n 0
of_buffer n most le = take-replicate n most 0 le

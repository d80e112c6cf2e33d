-- Bytes put one after another: what is held then, and where it stops.
use Rattle.std.proofs.Common.{◌≡◌, ℕ, ◌≤◌, List, [], ◌++◌, Option, sym, subst, arith}
use Rattle.m2v_port.specs.Ends.{change}
use Rattle.m2v_port.specs.Port.{Grows, GrowsByPrefix}
use Rattle.m2v_port.proofs.Runs.{rose_since, prefix_on, prefix_of_more, grows_by_nothing}
use Rattle.m2v_encode.specs.declared.answer.EncodeError.{EncodeError}
use Rattle.m2v_encode.specs.declared.answer.EncodeError.TheVariants.{Read, Write, ShortFrame, NoFrames, TooManyFrames, Memory}
use Rattle.m2v_encode.specs.Steps.{PutStops}

cut_in : (h0 h1 h2 : Option (List ℕ)) (xs ys zs all : List ℕ) → all ≡ xs ++ (ys ++ zs) → Grows h0 xs h1 → GrowsByPrefix h1 ys h2 → GrowsByPrefix h0 all h2
cut_in h0 h1 h2 xs ys zs all is first last = subst (λ (b : List ℕ). GrowsByPrefix h0 b h2) (sym is) (prefix_on first (prefix_of_more last zs))

module _ {K : Type 0} (held : K → Option (List ℕ)) (faults : K → ℕ) where
  -- a put that stopped, behind one that did not and before others
  pub put_then : (e : EncodeError) (o0 o1 o2 : K) (xs ys zs all : List ℕ) → faults o0 ≤ faults o1 → all ≡ xs ++ (ys ++ zs)
      → Grows (held o0) xs (held o1) → PutStops ys (change held faults o1 o2) e → PutStops all (change held faults o0 o2) e
  unfolding PutStops
  put_then Read o0 o1 o2 xs ys zs all le is grown h = absurd h
  put_then Write o0 o1 o2 xs ys zs all le is grown h = (rose_since le h.0, cut_in (held o0) (held o1) (held o2) xs ys zs all is grown h.1)
  put_then (ShortFrame extra) o0 o1 o2 xs ys zs all le is grown h = absurd h
  put_then NoFrames o0 o1 o2 xs ys zs all le is grown h = absurd h
  put_then TooManyFrames o0 o1 o2 xs ys zs all le is grown h = absurd h
  put_then Memory o0 o1 o2 xs ys zs all le is grown h = cut_in (held o0) (held o1) (held o2) xs ys zs all is grown h

  -- the first put stopped
  pub put_first : (e : EncodeError) (o0 o1 : K) (ys zs all : List ℕ) → all ≡ ys ++ zs
      → PutStops ys (change held faults o0 o1) e → PutStops all (change held faults o0 o1) e
  put_first e o0 o1 ys zs all is h = put_then e o0 o0 o1 [] ys zs all (omega arith) is (grows_by_nothing (held o0)) h

  -- the same bytes
  pub put_same : (e : EncodeError) (o0 o1 : K) (ys all : List ℕ) → all ≡ ys → PutStops ys (change held faults o0 o1) e → PutStops all (change held faults o0 o1) e
  put_same e o0 o1 ys all is h = subst (λ (b : List ℕ). PutStops b (change held faults o0 o1) e) (sym is) h

pub grown_by : (h0 h1 : Option (List ℕ)) (xs ys : List ℕ) → xs ≡ ys → Grows h0 xs h1 → Grows h0 ys h1
grown_by h0 h1 xs ys is grown = subst (λ (b : List ℕ). Grows h0 b h1) is grown

-- How the calls of an endpoint follow one another: what holds of a run, from what holds of its parts.
use Rattle.std.proofs.Common.{◌≡◌, ◌⊎◌, inl, inr, ℕ, zero, suc, ◌+◌, ◌-◌, ◌^◌, ◌<◌, ◌≤◌, Bool, IsTrue, List, [], ◌∷◌, ◌++◌, length, take, Option, Some, None, IfSome, Result, Ok, Err, OnErr, refl, sym, ◌∙◌, ap, subst, arith, append_assoc, length-append}
use Rattle.std.specs.Option.{option_map}
use Rattle.std.proofs.lemmas.List.{append-nil, length-take-le, take-append-le}
use Rattle.m2v_port.specs.Port.{Rose, Moves, IsAtEnd, Grows, GrowsByPrefix}
use Rattle.m2v_port.specs.Ends.{Change, absent, Tells, SinkStays}

-- A count that rose in the last part rose in the whole.
pub rose_since : {before between now : ℕ} → before ≤ between → Rose between now → Rose before now
rose_since le (inl more) = inl (omega arith)
rose_since le (inr last) = inr last

-- A count that rose in the first part rose in the whole.
pub rose_still : {before between now : ℕ} → Rose before between → between ≤ now → Rose before now
rose_still (inl more) le = inl (omega arith)
rose_still (inr last) le = inr (omega arith)

-- Below the last value of a counter it is greater than it was.
pub rose_below : {before now : ℕ} → Rose before now → now < 2 ^ 64 - 1 → before < now
rose_below (inl more) below = more
rose_below (inr last) below = absurd (omega arith)

-- Nothing has been read yet.
pub moves_nothing : (left : Option (List ℕ)) → Moves left [] left
moves_nothing None = record { was = refl }
moves_nothing (Some bytes) = record { was = refl }

-- one read after another
pub moves_on : {old between new : Option (List ℕ)} {xs ys : List ℕ} → Moves old xs between → Moves between ys new → Moves old (xs ++ ys) new
moves_on {old} {between} {new} {xs} {ys} first second = record { was = first.was ∙ ap (option_map (λ rest. xs ++ rest)) second.was ∙ joined new }
  where
    joined : (o : Option (List ℕ)) → option_map (λ rest. xs ++ rest) (option_map (λ rest. ys ++ rest) o) ≡ option_map (λ rest. (xs ++ ys) ++ rest) o
    joined None = refl
    joined (Some rest) = ap Some (sym (append_assoc xs ys rest))

pub then_nothing : {old between new : Option (List ℕ)} {bytes : List ℕ} → Moves old bytes between → Moves between [] new → Moves old bytes new
then_nothing {old} {between} {new} {bytes} first second = subst (λ (b : List ℕ). Moves old b new) (append-nil bytes) (moves_on first second)

take_past : (xs ys : List ℕ) (m n : ℕ) → length xs ≡ m → take (m + n) (xs ++ ys) ≡ xs ++ take n ys
take_past [] ys m n is = let same : m + n ≡ n = omega arith in ap (λ k. take k ys) same
take_past (x ∷ xs) ys zero n is = absurd (omega arith)
take_past (x ∷ xs) ys (suc m) n is =
    let next : suc m + n ≡ suc (m + n) = omega arith in
    rw next (ap (λ l. x ∷ l) (take_past xs ys m n (omega arith)))

-- a read into a buffer behind the bytes that it has
pub moves_into : {old between new : Option (List ℕ)} (buf got rest : List ℕ) (filled n : ℕ) → filled ≤ length buf → n ≤ length got
    → Moves old (take filled buf) between → Moves between (take n got) new → Moves old (take (filled + n) (take filled buf ++ (got ++ rest))) new
moves_into {old} {between} {new} buf got rest filled n fits within first second =
    let front = length-take-le filled buf fits in
    let is = take_past (take filled buf) (got ++ rest) filled n front ∙ ap (λ l. take filled buf ++ l) (take-append-le n got rest within) in
    subst (λ bytes. Moves old bytes new) (sym is) (moves_on first second)

-- the buffer is as long as it needs to be
pub length_into : (buf got rest : List ℕ) (filled n : ℕ) → filled ≤ length buf → n ≤ length got → filled + n ≤ length (take filled buf ++ (got ++ rest))
length_into buf got rest filled n fits within = omega (arith, length-take-le filled buf fits, length-append (take filled buf) (got ++ rest), length-append got rest)

-- At the end nothing moves.
pub end_stays : {old new : Option (List ℕ)} {bytes : List ℕ} → Moves old bytes new → IsAtEnd old → IsAtEnd new
end_stays {old} {new} {bytes} moves end = by_cases new (subst IsAtEnd moves.was end)
  where
    empty : (xs ys : List ℕ) → xs ++ ys ≡ [] → ys ≡ []
    empty [] ys is = is
    empty (x ∷ xs) ys is = absurd (cc)

    by_cases : (o : Option (List ℕ)) → IsAtEnd (option_map (λ rest. bytes ++ rest) o) → IsAtEnd o
    by_cases None is = tt
    by_cases (Some rest) is = empty bytes rest is

-- What was read to the end is all that was left.
pub moved_all : {old new : Option (List ℕ)} {bytes : List ℕ} → Moves old bytes new → IsAtEnd new → IfSome old (λ all. bytes ≡ all)
moved_all {old} {new} {bytes} moves end = subst (λ o. IfSome o (λ all. bytes ≡ all)) (sym moves.was) (by_cases new end)
  where
    by_cases : (o : Option (List ℕ)) → IsAtEnd o → IfSome (option_map (λ rest. bytes ++ rest) o) (λ all. bytes ≡ all)
    by_cases None end = tt
    by_cases (Some rest) end = sym (ap (λ l. bytes ++ l) end ∙ append-nil bytes)

-- Nothing has been put yet.
pub grows_by_nothing : (held : Option (List ℕ)) → Grows held [] held
grows_by_nothing None = record { is = refl }
grows_by_nothing (Some bytes) = record { is = ap Some (sym (append-nil bytes)) }

-- one put after another
pub grows_on : {old between new : Option (List ℕ)} {xs ys : List ℕ} → Grows old xs between → Grows between ys new → Grows old (xs ++ ys) new
grows_on {old} {between} {new} {xs} {ys} first second = record { is = second.is ∙ ap (option_map (λ held. held ++ ys)) first.is ∙ joined old }
  where
    joined : (o : Option (List ℕ)) → option_map (λ held. held ++ ys) (option_map (λ held. held ++ xs) o) ≡ option_map (λ held. held ++ (xs ++ ys)) o
    joined None = refl
    joined (Some held) = ap Some (append_assoc held xs ys)

-- the whole is a prefix of itself
pub grows_by_all : {old new : Option (List ℕ)} {bytes : List ℕ} → Grows old bytes new → GrowsByPrefix old bytes new
grows_by_all {old} {new} {bytes} grows = record { part = bytes; rest = []; split = sym (append-nil bytes); grown = grows }

-- nothing is a prefix of anything
pub grows_by_none : {held : Option (List ℕ)} (bytes : List ℕ) → GrowsByPrefix held bytes held
grows_by_none {held} bytes = record { part = []; rest = bytes; split = refl; grown = grows_by_nothing held }

-- a put that is cut short after puts that aren't
pub prefix_on : {old between new : Option (List ℕ)} {xs ys : List ℕ} → Grows old xs between → GrowsByPrefix between ys new → GrowsByPrefix old (xs ++ ys) new
prefix_on {old} {between} {new} {xs} {ys} first last = record {
  part = xs ++ last.part;
  rest = last.rest;
  split = ap (λ l. xs ++ l) last.split ∙ sym (append_assoc xs last.part last.rest);
  grown = grows_on first last.grown;
}

-- a prefix of some bytes is one of these and more
pub prefix_of_more : {old new : Option (List ℕ)} {bytes : List ℕ} → GrowsByPrefix old bytes new → (more : List ℕ) → GrowsByPrefix old (bytes ++ more) new
prefix_of_more by more = record {
  part = by.part;
  rest = by.rest ++ more;
  split = ap (λ l. l ++ more) by.split ∙ append_assoc by.part by.rest more;
  grown = by.grown;
}

-- what tells nothing grows by any bytes
pub grows_absent : (bytes : List ℕ) → Grows absent.old bytes absent.new
grows_absent bytes = record { is = refl }

pub grows_untold : (held : Option (List ℕ)) (bytes : List ℕ) → held ≡ None → Grows held bytes held
grows_untold held bytes none = subst (λ (o : Option (List ℕ)). Grows o bytes o) (sym none) (grows_absent bytes)

-- and by any prefix
pub prefix_absent : (bytes : List ℕ) → GrowsByPrefix absent.old bytes absent.new
prefix_absent bytes = record { part = []; rest = bytes; split = refl; grown = grows_absent [] }

-- and goes on to tell nothing
pub still_untold : (old new : Option (List ℕ)) (bytes : List ℕ) → old ≡ None → Grows old bytes new → new ≡ None
still_untold old new bytes none grown = grown.is ∙ ap (option_map (λ held. held ++ bytes)) none

-- where the other one never fails, it was this one
pub failed_here : {A B : Type 0} → (B → ⊥) → A ⊎ B → A ⊎ ⊥
failed_here never (inl a) = inl a
failed_here never (inr b) = absurd (never b)

-- a fact that holds after an error holds
pub on_err : {T E P : Type 0} (result : Result T E) → P → OnErr result P
on_err (Ok v) holds = tt
on_err (Err e) holds = holds

-- A sink stays as it is where nothing is called.
pub stays_here : {K : Type 0} {ready : K → Bool} {name : K → Option (List ℕ)} {faults : K → ℕ} {k : K} → IsTrue (ready k) → SinkStays ready name faults k k
stays_here ready = record { is_ready = ready; keeps_name = refl; counts = omega arith }

-- one call of a sink after another
pub stays_on : {K : Type 0} {ready : K → Bool} {name : K → Option (List ℕ)} {faults : K → ℕ} {a b c : K} → SinkStays ready name faults a b → SinkStays ready name faults b c → SinkStays ready name faults a c
stays_on first second = record {
  is_ready = second.is_ready;
  keeps_name = second.keeps_name ∙ first.keeps_name;
  counts = omega (arith, first.counts, second.counts);
}

-- what holds of all bytes that an endpoint can have told holds of those that it told
pub tells : (c : Change) (Holds : List ℕ → Type 0) → ((bytes : List ℕ) → c.old ≡ Some bytes → Holds bytes) → Tells c Holds
tells c Holds each = by_case c.old refl
  where
    by_case : (o : Option (List ℕ)) → c.old ≡ o → IfSome o Holds
    by_case None is = tt
    by_case (Some bytes) is = each bytes is

-- for the goals of a caller that reads or puts more than once
pub ruleset runs = (rose_since, rose_still, moves_nothing, moves_on, end_stays, moved_all, grows_by_nothing, grows_on, grows_by_all, prefix_on, prefix_of_more, stays_here, stays_on)

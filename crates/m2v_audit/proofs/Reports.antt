-- What is told piece by piece, and then at the end.
use Rattle.std.proofs.Common.{◌≡◌, ℕ, ◌+◌, ◌*◌, ◌<◌, ◌≤◌, true, false, List, [], ◌∷◌, ◌++◌, length, Option, Some, None, inl, inr, append_assoc, refl, sym, ap, subst, ◌∙◌, arith}
use Rattle.std.specs.List.{AllByRecursion}
use Rattle.std.specs.Option.{option_to_list}
use Rattle.std.proofs.lemmas.Bool.{cases_Bool, leb-true, leb-false}
use Rattle.std.specs.Prelude.{map}
use Rattle.std.proofs.lemmas.Slice.Zip.{firsts-zip, seconds-zip}
use Rattle.m2v_vbv.specs.Buffer.{Picture, Buffer, reach, have_of, told, next, left, tells}
use Rattle.m2v_vbv.specs.declared.removed.Removed.{Removed}
use Rattle.m2v_vbv.proofs.Steps.{settled_told, settled_next}
use Rattle.m2v_audit.specs.declared.account.Due.{Due}
use Rattle.m2v_audit.specs.Account.{picture_of, pictures, IsPicture, Told, all_told, Account, opened, with_picture, with_more, longer, last_bits, settles, settled_of, behind_settled, settled, after_settled, Event, picture, more, reported, read}
use Rattle.m2v_audit.proofs.Kept.{left_cons, left_both, last_left}
use Rattle.m2v_audit.proofs.Telling.{open_told, open_behind, one_told, one_behind}

-- ---- bits that follow

-- the pictures have at least the bits that were read already
read_least : (last : Option Due) (es : List Event) → last_bits last ≤ left (pictures (read last es)) 0
unfolding read
read_least last [] = let e = last_left last in omega (arith, e)
read_least last (picture d ∷ es) = let e = left_both (option_to_list last) (read (Some d) es) 0 in let f = last_left last in omega (arith, e, f)
read_least None (more n ∷ es) = omega arith
read_least (Some d) (more n ∷ es) = let e = read_least (Some (longer n d)) es in omega (arith, e)

-- ---- what is settled

-- the removal of the first of these pictures is the same, whether others follow or not
first_stays : (b : Buffer) (d : Due) (ds rest : List Due) (n : ℕ) → n ≤ left (pictures rest) 0 → settles b (left (pictures (d ∷ ds)) n) ≡ true →
    let k = left (pictures (d ∷ ds)) n in
    all_told b (d ∷ ds ++ rest) ≡ (d, told b (picture_of d) k) ∷ all_told (next b (picture_of d) k) (ds ++ rest)
unfolding tells
first_stays b d ds rest n le e =
    let k = left (pictures (d ∷ ds)) n in
    let all = left (pictures (d ∷ ds ++ rest)) 0 in
    let both : all ≡ left (pictures (d ∷ ds)) (left (pictures rest) 0) = left_both (d ∷ ds) rest 0 in
    let now : reach b ≤ 1800 * k = leb-true (reach b) (1800 * k) e in
    let then : reach b ≤ 1800 * all = omega (arith, now, both, le) in
    ap (λ (t : Removed). (d, t) ∷ all_told (next b (picture_of d) all) (ds ++ rest)) (settled_told b (picture_of d) all k then now)
    ∙ ap (λ (x : Buffer). (d, told b (picture_of d) k) ∷ all_told x (ds ++ rest)) (settled_next b (picture_of d) all k then now)

settled_then : (b : Buffer) (ds rest : List Due) (n : ℕ) → n ≤ left (pictures rest) 0
    → settled_of b ds n ++ all_told (behind_settled b ds n).0 ((behind_settled b ds n).1 ++ rest) ≡ all_told b (ds ++ rest)
unfolding settled_of behind_settled
settled_then b [] rest n le = refl
settled_then b (d ∷ ds) rest n le =
    let k : ℕ = left (pictures (d ∷ ds)) n in
    let after : List Told × (Buffer × List Due) → List Told = λ p. p.0 ++ all_told p.1.0 (p.1.1 ++ rest) in
    elim (cases_Bool (settles b k)) [
      | inl e ↦
          ap (λ (xs : List Told). after (xs, behind_settled b (d ∷ ds) n)) (one_told b d ds n e)
          ∙ ap (λ (x : Buffer × List Due). after ((d, told b (picture_of d) k) ∷ settled_of (next b (picture_of d) k) ds n, x)) (one_behind b d ds n e)
          ∙ ap (λ (xs : List Told). (d, told b (picture_of d) k) ∷ xs) (settled_then (next b (picture_of d) k) ds rest n le)
          ∙ sym (first_stays b d ds rest n le e)
      | inr e ↦
          ap (λ (xs : List Told). after (xs, behind_settled b (d ∷ ds) n)) (open_told b d ds n e)
          ∙ ap (λ (x : Buffer × List Due). after ([], x)) (open_behind b d ds n e)
    ]

settled_onward : (a : Account) (rest : List Due) → last_bits a.last ≤ left (pictures rest) 0
    → settled a ++ all_told (after_settled a).buffer ((after_settled a).waiting ++ rest) ≡ all_told a.buffer (a.waiting ++ rest)
settled_onward a rest le = settled_then a.buffer a.waiting rest (last_bits a.last) le

-- what is told piece by piece, and then at the end
pub told_onward : (a : Account) (es : List Event) → reported a es ≡ all_told a.buffer (a.waiting ++ read a.last es)
unfolding reported read
told_onward a [] = refl
told_onward a (picture d ∷ es) =
    let b : Account = with_picture a d in
    ap (λ (xs : List Told). settled b ++ xs) (told_onward (after_settled b) es)
    ∙ settled_onward b (read (Some d) es) (read_least (Some d) es)
    ∙ ap (all_told a.buffer) (append_assoc a.waiting (option_to_list a.last) (read (Some d) es))
told_onward a (more n ∷ es) =
    let b : Account = with_more a n in
    ap (λ (xs : List Told). settled b ++ xs) (told_onward (after_settled b) es)
    ∙ settled_onward b (read b.last es) (read_least b.last es)

pub told_in_all : (b : Buffer) (first : Due) (es : List Event) → reported (opened b first) es ≡ all_told b (read (Some first) es)
told_in_all b first es = told_onward (opened b first) es

-- ---- what is told of whole pictures

as_many : (b : Buffer) (ds : List Due) → length (tells b (pictures ds) 0) ≡ length ds
unfolding tells
as_many b [] = refl
as_many b (d ∷ ds) = let e = as_many (next b (picture_of d) (left (pictures (d ∷ ds)) 0)) ds in omega (arith, e)

pub each_told : (b : Buffer) (ds : List Due) → map (λ (t : Told). t.0) (all_told b ds) ≡ ds
each_told b ds = firsts-zip ds (tells b (pictures ds) 0) (as_many b ds)

pub removals_told : (b : Buffer) (ds : List Due) → map (λ (t : Told). t.1) (all_told b ds) ≡ tells b (pictures ds) 0
removals_told b ds = seconds-zip ds (tells b (pictures ds) 0) (as_many b ds)

-- ---- when a removal is settled

pub settled_stays : (b : Buffer) (p : Picture) (known extra : ℕ) → settles b known ≡ true
    → (told b p (known + extra) ≡ told b p known) × (next b p (known + extra) ≡ next b p known)
settled_stays b p known extra e =
    let now : reach b ≤ 1800 * known = leb-true (reach b) (1800 * known) e in
    let then : reach b ≤ 1800 * (known + extra) = omega (arith, now) in
    (settled_told b p (known + extra) known then now, settled_next b p (known + extra) known then now)

pub open_differs : (b : Buffer) (p : Picture) (known : ℕ) → settles b known ≡ false → told b p (known + 1) ≡ told b p known → ⊥
unfolding told
open_differs b p known e same =
    let now : 1800 * known < reach b = leb-false (reach b) (1800 * known) e in
    let have : have_of b (known + 1) ≡ have_of b known = ap (λ (t : Removed). t.have) same in
    omega (arith, now, have)

none_more : (b : Buffer) (ds : List Due) (n : ℕ) → settled_of (behind_settled b ds n).0 (behind_settled b ds n).1 n ≡ []
unfolding settled_of behind_settled
none_more b [] n = refl
none_more b (d ∷ ds) n =
    let k : ℕ = left (pictures (d ∷ ds)) n in
    let of : Buffer × List Due → List Told = λ x. settled_of x.0 x.1 n in
    elim (cases_Bool (settles b k)) [
      | inl e ↦ ap of (one_behind b d ds n e) ∙ none_more (next b (picture_of d) k) ds n
      | inr e ↦ ap of (open_behind b d ds n e) ∙ open_told b d ds n e
    ]

pub nothing_left : (a : Account) → settled (after_settled a) ≡ []
nothing_left a = none_more a.buffer a.waiting (last_bits a.last)

-- ---- how many wait

least_bits : (ds : List Due) (n : ℕ) → AllByRecursion IsPicture ds → 32 * length ds ≤ left (pictures ds) n
least_bits [] n all = omega arith
least_bits (d ∷ ds) n all =
    let e = left_cons d ds n in
    let others = least_bits ds n all.1 in
    let fits = all.0 in
    omega (arith, e, others, fits.least, fits.code)

few_waiting : (b : Buffer) (ds : List Due) (n : ℕ) → AllByRecursion IsPicture ds → 1800 * (32 * length (behind_settled b ds n).1) ≤ reach (behind_settled b ds n).0
unfolding behind_settled
few_waiting b [] n all = omega arith
few_waiting b (d ∷ ds) n all =
    let k : ℕ = left (pictures (d ∷ ds)) n in
    let IsFew : Buffer × List Due → Type 0 = λ x. 1800 * (32 * length x.1) ≤ reach x.0 in
    elim (cases_Bool (settles b k)) [
      | inl e ↦ subst IsFew (sym (one_behind b d ds n e)) (few_waiting (next b (picture_of d) k) ds n all.1)
      | inr e ↦
          let now : 1800 * k < reach b = leb-false (reach b) (1800 * k) e in
          let least : 32 * length (d ∷ ds) ≤ k = least_bits (d ∷ ds) n all in
          let few : 1800 * (32 * length (d ∷ ds)) ≤ reach b = omega (arith, now, least) in
          subst IsFew (sym (open_behind b d ds n e)) few
    ]

pub few_wait : (a : Account) → AllByRecursion IsPicture a.waiting → 1800 * (32 * length (after_settled a).waiting) ≤ reach (after_settled a).buffer
few_wait a all = few_waiting a.buffer a.waiting (last_bits a.last) all

-- What an account keeps as bits come and pictures are removed.
use Rattle.std.proofs.Common.{◌≡◌, ℕ, ◌+◌, ◌-◌, List, [], ◌∷◌, ◌++◌, Option, Some, None, refl, ap, ◌∙◌, arith}
use Rattle.std.specs.Option.{option_to_list}
use Rattle.std.proofs.lemmas.List.{map-append}
use Rattle.m2v_vbv.specs.Buffer.{Picture, Buffer, next, left}
use Rattle.m2v_vbv.proofs.Fine.{left_cons as more_left}
use Rattle.m2v_vbv.proofs.Steps.{left_append}
use Rattle.m2v_audit.specs.declared.account.Due.{Due}
use Rattle.m2v_audit.specs.Account.{picture_of, pictures, IsSound, last_bits}

-- bits by one picture more
pub left_cons : (d : Due) (ds : List Due) (n : ℕ) → left (pictures (d ∷ ds)) n ≡ d.bits + left (pictures ds) n
left_cons d ds n = more_left (picture_of d) (pictures ds) n

pub left_both : (ds es : List Due) (n : ℕ) → left (pictures (ds ++ es)) n ≡ left (pictures ds) (left (pictures es) n)
left_both ds es n = ap (λ ps. left ps n) (map-append picture_of ds es) ∙ left_append (pictures ds) (pictures es) n

pub last_left : (last : Option Due) → left (pictures (option_to_list last)) 0 ≡ last_bits last
last_left None = refl
last_left (Some d) = let e = left_cons d [] 0 in omega (arith, e)

-- what is known: the bits of the pictures that wait, and those of the last one
pub known_is : (ds : List Due) (last : Option Due) → left (pictures (ds ++ option_to_list last)) 0 ≡ left (pictures ds) (last_bits last)
known_is ds last = left_both ds (option_to_list last) 0 ∙ ap (left (pictures ds)) (last_left last)

-- the picture that waits first is removed
pub sound_first : (b c : Buffer) (d : Due) (ds : List Due) (whole : ℕ) (last : Option Due) (total : ℕ) (p : Picture) (rest : ℕ)
    → c ≡ next b p rest → IsSound b (d ∷ ds) whole last total → IsSound c ds (whole - d.bits) last total
unfolding next
sound_first b c d ds whole last total p rest is s =
    let one : c.removals ≡ b.removals + 1 = ap (λ (x : Buffer). x.removals) is in
    let e = left_cons d ds 0 in
    let fits = s.each.0 in
    record {
      each = s.each.1;
      end = s.end;
      sum = omega (arith, e, s.sum);
      counted = omega (arith, e, s.sum, one, s.counted, fits.least, fits.code);
      most = s.most;
    }

-- the last picture is removed
pub sound_end : (b c : Buffer) (d : Due) (ds : List Due) (whole total : ℕ) (p : Picture) (rest : ℕ)
    → c ≡ next b p rest → IsSound b ds whole (Some d) total → IsSound c ds whole None total
unfolding next
sound_end b c d ds whole total p rest is s =
    let one : c.removals ≡ b.removals + 1 = ap (λ (x : Buffer). x.removals) is in
    record {
      each = s.each;
      end = tt;
      sum = s.sum;
      counted = omega (arith, one, s.counted, s.end.least, s.end.code);
      most = s.most;
    }

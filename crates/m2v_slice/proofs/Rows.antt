-- How many jobs there are.
use Rattle.std.proofs.Common.{◌≡◌, ℕ, ◌+◌, ◌-◌, ◌*◌, ◌<◌, ◌≤◌, length, ap, arith, inl, inr}
use Rattle.std.specs.Prelude.{nat_le}
use Rattle.std.proofs.lemmas.Bool.{le-leb, cond-true, cond-false, cases_Bool, cases_lt}
use Rattle.m2v_slice.specs.Books.{Book, rows, picture_of_job}
use Rattle.m2v_slice.specs.Jobs.{jobs_of}
use Rattle.m2v_slice.specs.Needs.{job_is}

pub jobs_are : (b : Book) → rows b ≤ 72 → jobs_of b ≡ length b.pictures * (rows b + 1)
unfolding jobs_of
jobs_are b few = cond-true (nat_le (rows b) 72) (length b.pictures * (rows b + 1)) 0 (le-leb (rows b) 72 few)

jobs_most : (b : Book) → jobs_of b ≤ length b.pictures * (rows b + 1)
unfolding jobs_of
jobs_most b = elim (cases_Bool (nat_le (rows b) 72)) [
  | inl e ↦ let all = cond-true (nat_le (rows b) 72) (length b.pictures * (rows b + 1)) 0 e in omega (arith, all)
  | inr e ↦ let none = cond-false (nat_le (rows b) 72) (length b.pictures * (rows b + 1)) 0 e in omega (arith, none)
]

within : (n p w : ℕ) → p * w < n * w → p < n
within n p w lt = elim (cases_lt p n) [
  | inl below ↦ below
  | inr le ↦ absurd (let k = p - n in let e : p ≡ n + k = omega arith in let f : p * w ≡ (n + k) * w = ap (λ i. i * w) e in let g : (n + k) * w ≡ n * w + k * w = omega arith in omega (arith, f, g, lt))
]

pub job_picture : (b : Book) (j : ℕ) → j < jobs_of b → picture_of_job b j < length b.pictures
job_picture b j lt = within (length b.pictures) (picture_of_job b j) (rows b + 1) (omega (arith, lt, jobs_most b, job_is b j))

-- The groups of the answer are those of the spans that are kept, and of all spans.
use Rattle.std.proofs.Common.{◌≡◌, ℕ, ◌+◌, Bool, true, false, List, [], ◌∷◌, ◌++◌, Option, Some, None, refl, sym, ap, ◌∙◌, arith, inl, inr}
use Rattle.std.proofs.lemmas.Bool.{cases_Bool, lt-ltb}
use Rattle.std.specs.Prelude.{◌||◌, if◌then◌else◌, nat_lt}
use Rattle.m2v_model.specs.Units.{Units}
use Rattle.m2v_law_group.specs.Groups.{is_picture, has_picture}
use Rattle.m2v_law_seam.specs.Spans.{units_in, picture_count, Dividing, Span, spans_in}
use Rattle.m2v_law_seam.specs.Seams.{leading}
use Rattle.m2v_law_seam.specs.Faults.{begins_entry}
use Rattle.m2v_law_seam.specs.Mending.{Mending, nothing_yet, is_group_span, groups_behind, goes_behind, put_behind, begins_strand, strand_begun, left_out, with_span, with_spans, ended_by, strand_ended, with_stretches, mending}
use Rattle.m2v_law_seam.specs.Told.{groups_in_spans, all_groups}
use Rattle.m2v_law_seam.specs.Mends.{Steps, steps_in, steps_from, steps_of, left_of, all_left_pieces, is_kept, kept_groups, step_groups}
use Rattle.m2v_law_seam.proofs.Told.{pictures_append}

-- ---- one more

sum_by : (n k : ℕ) (b : Bool) → (if b then n + k + 1 else n + k) ≡ n + (if b then k + 1 else k)
sum_by n k true = omega arith
sum_by n k false = refl

behind_sum : (n k : ℕ) (s : Span) → groups_behind (n + k) s ≡ n + groups_behind k s
behind_sum n k s = sum_by n k (is_group_span s)

behind_none : (n : ℕ) (s : Span) → groups_behind n s ≡ n + groups_behind 0 s
behind_none n s = let e : n ≡ n + 0 = omega arith in ap (λ (k : ℕ). groups_behind k s) e ∙ behind_sum n 0 s

-- the groups of one step
abbrev own : Mending × Span → ℕ
own x = if is_kept x then groups_behind 0 x.1 else 0

own_by : (n : ℕ) (s : Span) (b : Bool) → (if b then groups_behind n s else n) ≡ (if b then groups_behind 0 s else 0) + n
own_by n s true = let h = behind_none n s in omega (arith, h)
own_by n s false = omega arith

kept_none : kept_groups [] ≡ 0
unfolding kept_groups
kept_none = refl

all_none : step_groups [] ≡ 0
unfolding step_groups
all_none = refl

kept_first : (x : Mending × Span) (xs : Steps) → kept_groups (x ∷ xs) ≡ own x + kept_groups xs
unfolding kept_groups
kept_first x xs = own_by (kept_groups xs) x.1 (is_kept x)

kept_append : (xs ys : Steps) → kept_groups (xs ++ ys) ≡ kept_groups xs + kept_groups ys
kept_append [] ys = let z = kept_none in omega (arith, z)
kept_append (x ∷ xs) ys =
    let i = kept_append xs ys in
    let a = kept_first x (xs ++ ys) in
    let b = kept_first x xs in
    omega (arith, i, a, b)

step_append : (xs ys : Steps) → step_groups (xs ++ ys) ≡ step_groups xs + step_groups ys
unfolding step_groups
step_append [] ys = omega arith
step_append (x ∷ xs) ys =
    let i = step_append xs ys in
    let a = behind_none (step_groups (xs ++ ys)) x.1 in
    let b = behind_none (step_groups xs) x.1 in
    omega (arith, i, a, b)

-- ---- those that are kept

step_kept : (m : Mending) (s : Span) (g b : Bool) → (if g then put_behind m s else if b then strand_begun m s else left_out m s).groups ≡ m.groups + (if g || b then groups_behind 0 s else 0)
step_kept m s true b = behind_none m.groups s
step_kept m s false true = behind_none m.groups s
step_kept m s false false = omega arith

span_groups : (m : Mending) (s : Span) → (with_span m s).groups ≡ m.groups + own (m, s)
unfolding with_span
span_groups m s = step_kept m s (goes_behind m s) (begins_strand m.first s)

spans_groups : (ss : List Span) (m : Mending) → (with_spans m ss).groups ≡ m.groups + kept_groups (steps_in m ss)
unfolding with_spans steps_in
spans_groups [] m = let z = kept_none in omega (arith, z)
spans_groups (s ∷ ss) m =
    let a = span_groups m s in
    let b = spans_groups ss (with_span m s) in
    let c = kept_first (m, s) (steps_in (with_span m s) ss) in
    omega (arith, a, b, c)

end_groups : (m : Mending) (o : Option (List ℕ)) → (ended_by o m).groups ≡ m.groups
end_groups m None = refl
end_groups m (Some []) = refl
end_groups m (Some (b ∷ strand)) = refl

stretches_groups : (more : List (List Span)) (m : Mending) → (with_stretches m more).groups ≡ m.groups + kept_groups (steps_from m more)
unfolding with_stretches steps_from
stretches_groups [] m = let z = kept_none in omega (arith, z)
stretches_groups (ss ∷ more) m =
    let z = with_spans m ss in
    let a = spans_groups ss m in
    let b = end_groups z z.strand in
    let c = stretches_groups more (strand_ended z) in
    let d = kept_append (steps_in m ss) (steps_from (strand_ended z) more) in
    omega (arith, a, b, c, d)

pub groups_kept : (divide : Dividing) (text : List ℕ) → (mending divide text).groups ≡ kept_groups (steps_of divide text)
groups_kept divide text = let e = stretches_groups (spans_in divide text) nothing_yet in omega (arith, e)

-- ---- all of them

spans_all : (ss : List Span) (m : Mending) (n : ℕ) → groups_in_spans n ss ≡ n + step_groups (steps_in m ss)
unfolding groups_in_spans steps_in step_groups
spans_all [] m n = omega arith
spans_all (s ∷ ss) m n =
    let a = spans_all ss (with_span m s) (groups_behind n s) in
    let b = behind_none n s in
    let c = behind_none (step_groups (steps_in (with_span m s) ss)) s in
    omega (arith, a, b, c)

stretches_all : (more : List (List Span)) (m : Mending) (n : ℕ) → all_groups n more ≡ n + step_groups (steps_from m more)
unfolding all_groups steps_from
stretches_all [] m n = let z = all_none in omega (arith, z)
stretches_all (ss ∷ more) m n =
    let z = strand_ended (with_spans m ss) in
    let a = stretches_all more z (groups_in_spans n ss) in
    let b = spans_all ss m n in
    let c = step_append (steps_in m ss) (steps_from z more) in
    omega (arith, a, b, c)

pub groups_there : (divide : Dividing) (text : List ℕ) → all_groups 0 (spans_in divide text) ≡ step_groups (steps_of divide text)
groups_there divide text = let e = stretches_all (spans_in divide text) nothing_yet 0 in omega (arith, e)

-- ---- where no picture is left out, no group is

pub picture_is : (us : Units) → has_picture us ≡ nat_lt 0 (picture_count us)
unfolding has_picture picture_count
picture_is [] = refl
picture_is (u ∷ us) = elim (cases_Bool (is_picture u)) [
  | inl on ↦ rw on (sym (lt-ltb 0 (1 + picture_count us) (omega arith)))
  | inr off ↦ let none : 0 + picture_count us ≡ picture_count us = omega arith in rw (off, none) (picture_is us)
]

pub no_picture : (us : Units) → picture_count us ≡ 0 → has_picture us ≡ false
no_picture us e = picture_is us ∙ ap (nat_lt 0) e

no_group : (n : ℕ) (s : Span) (b : Bool) → begins_entry s.pieces ≡ b → picture_count (units_in s.pieces) ≡ 0 → groups_behind n s ≡ n
no_group n s true h e = rw h (rw (no_picture (units_in s.pieces) e) refl)
no_group n s false h e = rw h refl

step_none : (x : Mending × Span) (k n : ℕ) (g b : Bool) → picture_count (units_in (if g then [] else if b then leading (x.1).pieces else (x.1).pieces)) ≡ 0 → k ≡ n → (if g || b then groups_behind k x.1 else k) ≡ groups_behind n x.1
step_none x k n true b e i = ap (λ (l : ℕ). groups_behind l x.1) i
step_none x k n false true e i = ap (λ (l : ℕ). groups_behind l x.1) i
step_none x k n false false e i = i ∙ sym (no_group n x.1 (begins_entry (x.1).pieces) refl e)

pub none_left : (xs : Steps) → picture_count (units_in (all_left_pieces xs)) ≡ 0 → kept_groups xs ≡ step_groups xs
unfolding all_left_pieces kept_groups step_groups
none_left [] e = refl
none_left (x ∷ xs) e =
    let a = pictures_append (left_of x) (all_left_pieces xs) in
    step_none x (kept_groups xs) (step_groups xs) (goes_behind x.0 x.1) (begins_strand (x.0).first x.1) (omega (arith, e, a)) (none_left xs (omega (arith, e, a)))

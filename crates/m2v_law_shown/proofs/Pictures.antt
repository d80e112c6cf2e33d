-- A picture of the encoder breaks none of the rules on pictures by themselves.
use Rattle.std.proofs.Common.{◌≡◌, ℕ, zero, suc, ◌%◌, ◌≤◌, Bool, true, false, cond, not, List, [], ◌++◌, refl, ap, subst, arith}
use Rattle.std.specs.Prelude.{◌&&◌, ◌||◌, nat_eq}
use Rattle.m2v_set.specs.declared.settings.Settings.{Settings}
use Rattle.m2v_set.specs.declared.settings.Level.{Level}
use Rattle.m2v_set.specs.declared.settings.Level.TheVariants.{Main, High1440, High}
use Rattle.m2v_set.specs.declared.settings.Scan.{Scan}
use Rattle.m2v_set.specs.declared.settings.Scan.TheVariants.{Frames}
use Rattle.m2v_set.specs.Rules.{Passes, is_progressive}
use Rattle.m2v_set.proofs.Facts.{bounds}
use Rattle.m2v_order.specs.declared.jobs.PictureJob.{PictureJob}
use Rattle.m2v_order.specs.Times.{repeats}
use Rattle.m2v_slice.specs.Headers.{sequence_extension_of, picture_of, extension_of, begins_group, is_film, IsJob}
use Rattle.m2v_model.specs.Lawful.{Breaches, at_most, Numbered, most_horizontal, level_in, horizontal_rule, vertical_rule, intra_rule, crowd_rule, repeat_rule, progressive_rule, precision_rule, reference_rule, picture_breaches}
use Rattle.m2v_law_shown.specs.Own.{IsOwnPicture, FitsScan, BreaksNone}
use Rattle.m2v_model.proofs.Judging.{judge_none, most_none}

-- a type is one of three
pub by_kind : (P : ℕ → Type 0) (k : ℕ) → 1 ≤ k → k ≤ 3 → P 1 → P 2 → P 3 → P k
by_kind P zero low high one two three = absurd (omega arith)
by_kind P (suc zero) low high one two three = one
by_kind P (suc (suc zero)) low high one two three = two
by_kind P (suc (suc (suc zero))) low high one two three = three
by_kind P (suc (suc (suc (suc k)))) low high one two three = absurd (omega arith)

horizontal_least : (l : Level) → 8 ≤ most_horizontal l
unfolding most_horizontal
horizontal_least Main = omega arith
horizontal_least High1440 = omega arith
horizontal_least High = omega arith

-- a limit of the vertical f_code
vertical_least : (b : Bool) → 2 ≤ cond {A = ℕ} b 5 4
vertical_least true = omega arith
vertical_least false = omega arith

-- f_codes of 2 where there are vectors
codes_none : (job : PictureJob) (rule number most : ℕ) → IsJob job → 2 ≤ most
    → (cond {A = Breaches} (not (nat_eq job.kind 1) || false)
    (at_most rule number (cond {A = ℕ} (nat_eq job.kind 2 || nat_eq job.kind 3) 2 15) most) [])
    ++ (cond {A = Breaches} (nat_eq job.kind 3) (at_most rule number (cond {A = ℕ} (nat_eq job.kind 3) 2 15) most) []) ≡ []
codes_none job rule number most is le =
    let none = most_none rule number 2 most le in
    by_kind
    (λ k. (cond {A = Breaches} (not (nat_eq k 1) || false) (at_most rule number (cond {A = ℕ} (nat_eq k 2 || nat_eq k 3) 2 15) most) [])
    ++ (cond {A = Breaches} (nat_eq k 3) (at_most rule number (cond {A = ℕ} (nat_eq k 3) 2 15) most) []) ≡ [])
    job.kind is.kind.0 is.kind.1 refl (ap (λ xs. xs ++ []) none) (ap (λ xs. xs ++ xs) none)

-- ---- the tests of the other rules

intra_test : (b c : Bool) → (not (b && c) || b) ≡ true
intra_test true true = refl
intra_test true false = refl
intra_test false c = refl

-- with pulldown frames are shot as frames, and coded so
repeat_test : (constant even pulldown progressive frame : Bool) → (pulldown ≡ true → progressive ≡ false) → (pulldown ≡ true → frame ≡ true)
    → not (constant && (pulldown && even) && (progressive || not (progressive || pulldown) || not frame)) ≡ true
repeat_test false even pulldown progressive frame scan whole = refl
repeat_test true even false progressive frame scan whole = refl
repeat_test true false true progressive frame scan whole = refl
repeat_test true true true progressive frame scan whole = rw (scan refl, whole refl) refl

progressive_test : (p q : Bool) → (not p || ((p || q) && (p || q))) ≡ true
progressive_test true q = refl
progressive_test false q = refl

no_progressive : (scan : Scan) → scan ≡ Frames → is_progressive scan ≡ false
unfolding is_progressive
no_progressive scan e = rw e refl

whole_frame : (scan : Scan) (job : PictureJob) → FitsScan scan job → scan ≡ Frames → nat_eq job.structure 3 ≡ true
whole_frame scan job fits e =
    let structure : job.structure ≡ 3 = subst (λ (x : Scan). FitsScan x job) e fits in rw structure refl

module _ (s : Settings) (job : PictureJob) (n : Numbered) (own : IsOwnPicture s job n) (is : IsJob job) where
  horizontal_none : horizontal_rule n ≡ []
  unfolding horizontal_rule picture_of extension_of
  horizontal_none =
      let least = horizontal_least (level_in n.sequence) in
      rw (own.picture.info, own.picture.extension) (codes_none job 8 n.number (most_horizontal (level_in n.sequence)) is (omega (arith, least)))

  vertical_none : vertical_rule n ≡ []
  unfolding vertical_rule picture_of extension_of
  vertical_none =
      rw (own.picture.info, own.picture.extension) (codes_none job 9 n.number (cond {A = ℕ} (nat_eq job.structure 3) 5 4) is (vertical_least (nat_eq job.structure 3)))

  intra_none : intra_rule n ≡ []
  unfolding intra_rule picture_of begins_group
  intra_none = rw (own.picture.info, own.first) (judge_none _ _ (intra_test (nat_eq job.kind 1) (not (nat_eq job.structure 2))))

  crowd_none : crowd_rule n ≡ []
  unfolding crowd_rule
  crowd_none = rw own.picture.crowded (most_none 12 n.number 0 2 (omega arith))

  repeat_none : (constant : Bool) → Passes s → FitsScan s.scan job → repeat_rule constant n ≡ []
  unfolding repeat_rule extension_of sequence_extension_of repeats is_film
  repeat_none constant passes fits =
      let pulldown = (bounds s passes).pulldown in
      rw (own.picture.extension, own.sequence)
      (judge_none _ _
      (repeat_test constant (nat_eq (job.display % 2) 0) s.pulldown (is_progressive s.scan) (nat_eq job.structure 3)
      (λ on. no_progressive s.scan (pulldown.scan on)) (λ on. whole_frame s.scan job fits (pulldown.scan on))))

  progressive_none : progressive_rule n ≡ []
  unfolding progressive_rule extension_of sequence_extension_of is_film
  progressive_none = rw (own.picture.extension, own.sequence) (judge_none _ _ (progressive_test (is_progressive s.scan) s.pulldown))

  precision_none : precision_rule n ≡ []
  unfolding precision_rule extension_of
  precision_none = rw own.picture.extension (most_none 15 n.number 0 2 (omega arith))

pub picture_keeps : (s : Settings) (job : PictureJob) (n : Numbered) (constant : Bool) → Passes s → IsJob job → FitsScan s.scan job
    → IsOwnPicture s job n → BreaksNone constant n
picture_keeps s job n constant passes is fits own = record {
  horizontal = horizontal_none s job n own is;
  vertical = vertical_none s job n own is;
  intra = intra_none s job n own is;
  crowd = crowd_none s job n own is;
  repeat = repeat_none s job n own is constant passes fits;
  progressive = progressive_none s job n own is;
  precision = precision_none s job n own is;
}

-- with its place in its group, it breaks none
pub picture_none : (low_delay constant : Bool) (all : List Numbered) (n : Numbered) → BreaksNone constant n → reference_rule low_delay all n ≡ []
    → picture_breaches low_delay constant all n ≡ []
unfolding picture_breaches
picture_none low_delay constant all n none reference =
    rw (none.horizontal, none.vertical, none.intra, none.crowd, none.repeat, none.progressive, none.precision, reference) refl

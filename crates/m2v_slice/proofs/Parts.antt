-- The activities of a slice, among those of a book.
use Rattle.std.proofs.Common.{◌≡◌, ℕ, ◌+◌, ◌*◌, ◌<◌, ◌≤◌, true, false, List, [], length, take, drop, sym, ap, subst, ◌∙◌, arith, inr}
use Rattle.std.specs.Prelude.{All}
use Rattle.std.proofs.lemmas.Bool.{cond-true, cond-false}
use Rattle.std.proofs.lemmas.List.{length-take, length-drop}
use Rattle.std.proofs.lemmas.List.Elements.{All-take, All-drop}
use Rattle.m2v_set.specs.declared.settings.Settings.{Settings}
use Rattle.m2v_set.specs.declared.settings.Planning.TheVariants.{Weights, Even}
use Rattle.m2v_set.specs.Numbers.{dims_of}
use Rattle.m2v_set.specs.Rules.{is_even}
use Rattle.m2v_set.proofs.Facts.{bounds}
use Rattle.m2v_enc_activity.specs.Activity.{look_of, activities, row_activities, IsActivity}
use Rattle.m2v_enc_activity.proofs.Places.{length-row_activities, row_in_all}
use Rattle.m2v_slice.specs.Laws.{AreSliceActivities}
use Rattle.m2v_slice.specs.Books.{Book, macroblock_activities, slice_activities, rows}
use Rattle.m2v_slice.specs.Conditions.{IsBook}
use Rattle.m2v_slice.proofs.Groups.{passes_of, picture_is_one, rows_are}

wide : (s : Settings) → 1 ≤ s.width → 1 ≤ (dims_of s).mb_width
unfolding dims_of
wide s some = omega arith

even_is : (s : Settings) → s.planning ≡ Even → is_even s.planning ≡ true
unfolding is_even
even_is s e = ap is_even e

uneven_is : (s : Settings) → s.planning ≡ Weights → is_even s.planning ≡ false
unfolding is_even
uneven_is s e = ap is_even e

-- with the plan by weights a slice has none
pub no_row : (b : Book) (p r : ℕ) → b.settings.planning ≡ Weights → [] ≡ slice_activities b p r
unfolding slice_activities
no_row b p r e = sym (cond-false (is_even b.settings.planning) _ _ (uneven_is b.settings e))

all_are : (b : Book) → is_even b.settings.planning ≡ true → macroblock_activities b.settings b.frames b.pictures ≡ activities (dims_of b.settings) b.frames b.pictures
unfolding macroblock_activities
all_are b even = cond-true (is_even b.settings.planning) _ _ even

row_is : (b : Book) (p r : ℕ) → is_even b.settings.planning ≡ true → slice_activities b p r ≡ row_activities (dims_of b.settings) b.frames (look_of b.pictures p) r
unfolding slice_activities
row_is b p r even = cond-true (is_even b.settings.planning) _ _ even

-- those of slice r of picture p stand behind those of the pictures and rows before
pub record HasRow (b : Book) (p r n w : ℕ) (all : List ℕ) : Type 0 where
  pub within : (p * n + r) * w + w ≤ length all
  pub is : take w (drop ((p * n + r) * w) all) ≡ slice_activities b p r
  pub range : AreSliceActivities (dims_of b.settings).mb_width (slice_activities b p r)

taken : (w from : ℕ) (xs ys : List ℕ) → 1 ≤ w → take w (drop from xs) ≡ ys → length ys ≡ w → from + w ≤ length xs
taken w from xs ys some e long = omega (arith, some, ap length e, long, length-take w (drop from xs), length-drop from xs)

row_here : (b : Book) → IsBook b → (p r : ℕ) (all : List ℕ) → is_even b.settings.planning ≡ true → all ≡ macroblock_activities b.settings b.frames b.pictures
    → All IsActivity all → p < length b.pictures → r < rows b → HasRow b p r (rows b) (dims_of b.settings).mb_width all
row_here b h p r all even is range lt small =
    let d = dims_of b.settings in
    let from = (p * rows b + r) * d.mb_width in
    let here = row_in_all d b.frames b.pictures (rows b) p r (λ j below. rows_are b.settings _ (picture_is_one b h j below).structure) lt small in
    let row : take d.mb_width (drop from all) ≡ row_activities d b.frames (look_of b.pictures p) r = ap (λ (xs : List ℕ). take d.mb_width (drop from xs)) (is ∙ all_are b even) ∙ here in
    let same = row ∙ sym (row_is b p r even) in
    let long = ap length (row_is b p r even) ∙ length-row_activities d b.frames (look_of b.pictures p) r in
    let ones = subst (All IsActivity) same (All-take IsActivity d.mb_width (drop from all) (All-drop IsActivity from all range)) in
    record {
      within = taken d.mb_width from all (slice_activities b p r) (wide b.settings (omega (arith, (bounds b.settings (passes_of b h)).size.wide))) same long;
      is = same;
      range = inr (record { count = long; range = ones });
    }

pub has_row : (b : Book) → IsBook b → (p r n w : ℕ) (all : List ℕ) → b.settings.planning ≡ Even → all ≡ macroblock_activities b.settings b.frames b.pictures
    → All IsActivity all → p < length b.pictures → r < rows b → n ≡ rows b → w ≡ (dims_of b.settings).mb_width → HasRow b p r n w all
has_row b h p r n w all planning is range lt small en ew =
    subst (λ (k : ℕ). HasRow b p r k w all) (sym en)
    (subst (λ (k : ℕ). HasRow b p r (rows b) k all) (sym ew) (row_here b h p r all (even_is b.settings planning) is range lt small))

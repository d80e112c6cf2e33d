-- The places of a group's pictures.
use Rattle.std.proofs.Common.{◌≡◌, ℕ, zero, suc, ◌+◌, ◌-◌, ◌<◌, ◌≤◌, Bool, true, false, not, List, [], ◌∷◌, ◌++◌, map, refl, sym, ap, subst, ◌∙◌, arith, None}
use Rattle.std.specs.Prelude.{All, filter}
use Rattle.std.specs.List.{range_with_len, flat_map}
use Rattle.std.proofs.lemmas.List.Elements.{All-nil, All-cons, All-head, All-tail, All-weaker}
use Rattle.m2v_set.specs.declared.settings.Settings.{Settings}
use Rattle.m2v_set.specs.declared.settings.Scan.{Scan}
use Rattle.m2v_set.specs.declared.settings.Scan.TheVariants.{Progressive, Frames, Fields}
use Rattle.m2v_set.specs.Rules.{Passes}
use Rattle.m2v_order.specs.declared.jobs.PictureJob.{PictureJob}
use Rattle.m2v_order.specs.Coding.{is_anchor, kind_of, frames_between, in_order, structures}
use Rattle.m2v_order.specs.Groups.{past_last, jobs_of, Group, group_of, first_of}
use Rattle.m2v_order.specs.Display.{is_b, Order, frames_of}
use Rattle.m2v_order.specs.Whole.{IsGroupOf}
use Rattle.m2v_order.proofs.Anchors.{Between, within}
use Rattle.m2v_order.proofs.Intra.{IsGrouped, kind_anchor, kind_b}
use Rattle.m2v_order.proofs.Pictures.{job_by}
use Rattle.m2v_order.proofs.Queues.{grouped, top_of}
use Rattle.m2v_order.proofs.Shows.{order_kept}
use Rattle.m2v_model.specs.Lawful.{display_place}
use Rattle.m2v_law_shown.specs.Showing.{AreAnchors}
use Rattle.m2v_law_shown.specs.Places.{frames_from, HavePlaces}
use Rattle.m2v_law_shown.proofs.Order.{run_shown, tested_anchors, all_kept, all_shown}
use Rattle.m2v_law_shown.proofs.DisplayPlaces.{coded_at, at_one, order_at, place_is}

-- the B frames are those that are no anchors
b_is : (s : Settings) (count : ℕ) → IsGrouped s → (at i : ℕ) → (let p : ℕ × ℕ = (at, kind_of s count i) in is_b p ≡ not (is_anchor s count i))
b_is s count ok at i = by_anchor (is_anchor s count i) refl
  where
    by_anchor : (b : Bool) → is_anchor s count i ≡ b → (let p : ℕ × ℕ = (at, kind_of s count i) in is_b p ≡ not b)
    by_anchor true e = kind_anchor s count i e
    by_anchor false e = kind_b s count i ok e

-- ---- the pictures of frames

module _ (s : Settings) (count first : ℕ) where
  frames_step : (scan : Scan) (frame display kind n : ℕ) (rest : List PictureJob)
      → frames_from n (map (job_by frame display kind) (structures scan) ++ rest) ≡ (n, kind) ∷ frames_from (n + 1) rest
  unfolding structures frames_from
  frames_step Progressive frame display kind n rest = refl
  frames_step Frames frame display kind n rest = refl
  frames_step Fields frame display kind n rest = refl

  frames_are : (h : ℕ → ℕ) (xs : List ℕ) (n k : ℕ) → map h xs ≡ range_with_len n k
      → frames_from n (flat_map (jobs_of s count first) xs) ≡ map (λ i. (h i, kind_of s count i)) xs
  unfolding frames_from
  frames_are h [] n k e = refl
  frames_are h (x ∷ xs) n zero e = absurd cc
  frames_are h (x ∷ xs) n (suc k) e =
      let head : h x ≡ n = cc in
      let rest : map h xs ≡ range_with_len (n + 1) k = cc in
      frames_step s.scan (x - first) x (kind_of s count x) n (flat_map (jobs_of s count first) xs)
      ∙ rw (head, frames_are h xs (n + 1) k rest) refl

  places_step : (place : ℕ → ℕ) (scan : Scan) (frame display kind n : ℕ) (rest : List PictureJob) → place n ≡ frame → HavePlaces place (n + 1) rest
      → HavePlaces place n (map (job_by frame display kind) (structures scan) ++ rest)
  unfolding structures HavePlaces
  places_step place Progressive frame display kind n rest e more = (e, more)
  places_step place Frames frame display kind n rest e more = (e, more)
  places_step place Fields frame display kind n rest e more = (e, (e, more))

  places_are : (h place : ℕ → ℕ) (xs : List ℕ) (n k : ℕ) → map h xs ≡ range_with_len n k → All (λ i. place (h i) ≡ i - first) xs
      → HavePlaces place n (flat_map (jobs_of s count first) xs)
  unfolding HavePlaces
  places_are h place [] n k e all = tt
  places_are h place (x ∷ xs) n zero e all = absurd cc
  places_are h place (x ∷ xs) n (suc k) e all =
      let head : h x ≡ n = cc in
      let rest : map h xs ≡ range_with_len (n + 1) k = cc in
      let P = λ (i : ℕ). place (h i) ≡ i - first in
      places_step place s.scan (x - first) x (kind_of s count x) n (flat_map (jobs_of s count first) xs)
      (ap place (sym head) ∙ All-head P x xs all) (places_are h place xs (n + 1) k rest (All-tail P x xs all))

-- ---- frames in coding order, and their display order

all_false : (ps : List (ℕ × ℕ)) → All (λ (p : ℕ × ℕ). false ≡ false) ps
all_false [] = All-nil (λ (p : ℕ × ℕ). false ≡ false)
all_false (p ∷ ps) = All-cons (λ (p : ℕ × ℕ). false ≡ false) p ps refl (all_false ps)

module _ (s : Settings) (count first n base : ℕ) (ok : IsGrouped s) where
  abbrev run_anchors : List ℕ
  run_anchors = filter (is_anchor s count) (range_with_len first n)

  abbrev run : List ℕ
  run = in_order first run_anchors

  abbrev last : ℕ
  last = past_last first run_anchors

  abbrev at : ℕ → ℕ
  at i = coded_at base first run_anchors i

  abbrev coded : ℕ → ℕ × ℕ
  coded i = (at i, kind_of s count i)

  are_anchors : AreAnchors coded first run_anchors
  are_anchors = tested_anchors coded (is_anchor s count) (λ i. b_is s count ok (at i) i) first n

  order_is : frames_of (Order false (map coded run)) ≡ map at (frames_between first last)
  order_is =
      let ps = map coded run in
      let none : ℕ → Bool = λ i. false in
      ap (λ xs. frames_of (Order false xs)) (sym (all_kept none ps (all_false ps)))
      ∙ ap frames_of (order_kept none false ps)
      ∙ all_shown none ps (map at (frames_between first last)) (all_false ps)
      (run_shown coded (is_anchor s count) first n None (λ i. b_is s count ok (at i) i))

  run_is : map at run ≡ range_with_len base (last - first)
  run_is = order_at coded base first run_anchors are_anchors

  place_of : (i : ℕ) → first ≤ i → i < last → display_place (at i) (Order false (map coded run)) ≡ i - first
  place_of i low high =
      place_is at first (last - first) (Order false (map coded run)) i order_is
      (λ j l e. at_one coded base first run_anchors j i are_anchors l low e) low (omega (arith, low, high))

  pub run_places : (let jobs = flat_map (jobs_of s count first) run in
      HavePlaces (λ frame. display_place frame (Order false (frames_from base jobs))) base jobs)
  run_places =
      let jobs = flat_map (jobs_of s count first) run in
      let each : All (λ i. display_place (at i) (Order false (map coded run)) ≡ i - first) run =
      All-weaker (Between first last) (λ i. display_place (at i) (Order false (map coded run)) ≡ i - first) (λ i h. place_of i h.0 h.1) run
      (within (is_anchor s count) first n) in
      subst (λ xs. HavePlaces (λ frame. display_place frame (Order false xs)) base jobs)
      (sym (frames_are s count first at run base (last - first) run_is))
      (places_are s count first at (λ frame. display_place frame (Order false (map coded run))) run base (last - first) run_is each)

module _ {F : Type 0} where
  group_places_at : (s : Settings) (g : Group F) (base : ℕ) → Passes s → (is : IsGroupOf s g)
      → HavePlaces (λ frame. display_place frame (Order false (frames_from base (group_of is.queue).pictures))) base (group_of is.queue).pictures
  unfolding group_of
  group_places_at s g base passes is =
      let q = is.queue in
      run_places q.settings q.pushed (first_of q) (top_of q - (first_of q)) base (grouped q.settings (subst Passes (sym is.settings) passes))

  pub group_shown : (s : Settings) (g : Group F) (base : ℕ) → Passes s → IsGroupOf s g
      → HavePlaces (λ frame. display_place frame (Order false (frames_from base g.pictures))) base g.pictures
  group_shown s g base passes is =
      subst (λ (x : Group F). HavePlaces (λ frame. display_place frame (Order false (frames_from base x.pictures))) base x.pictures)
      (sym is.is) (group_places_at s g base passes is)

-- What was surveyed around a macroblock, for lines, an area and a reach that are worked out once more.
use Rattle.std.proofs.Common.{◌≡◌, ℕ, ◌+◌, ◌-◌, sym, subst, ◌∙◌}
use Rattle.std.specs.Prelude.{slice_index}
use Rattle.m2v_plane.specs.declared.dims.Dims.{Dims}
use Rattle.m2v_plane.specs.declared.planes.Lines.{Lines}
use Rattle.m2v_search.specs.declared.form.BlockLines.{BlockLines}
use Rattle.m2v_search.specs.declared.scratch.Surroundings.{Surroundings}
use Rattle.m2v_search.specs.declared.spot.Area.{Area}
use Rattle.m2v_search.specs.declared.spot.Span.{Span}
use Rattle.m2v_search.specs.Bounds.{AreSumsFor}
use Rattle.m2v_search.specs.Spots.{IsWindow, area_in, span_of}
use Rattle.m2v_search.specs.Surveys.{IsSurvey, lines_near}

-- the area that was worked out is that of the lines
area_is : (d t : Dims) (b l : BlockLines) (column : ℕ) (a : Area) → l ≡ b → t ≡ d → a ≡ area_in t l column → a ≡ area_in d b column
area_is d t b l column a lines dims area = area ∙ (λ i. area_in (dims i) (lines i) column)

near_is : (d t : Dims) (b l : BlockLines) (column down far : ℕ) (a : Area) → l ≡ b → t ≡ d → a ≡ area_in t l column → far ≡ down
    → span_of l.count far a.top a.bottom l.count ≡ lines_near d b column down
near_is d t b l column down far a lines dims area is =
    let same = area_is d t b l column a lines dims area in
    λ i. span_of (lines i).count (is i) (same i).top (same i).bottom (lines i).count

abbrev HasSums : BlockLines → Span → Surroundings → Type 0
HasSums b x s = AreSumsFor b.count (slice_index s.window) x.first (x.end + b.count - 8) (slice_index s.sums)

module _ {d t : Dims} {at : Lines → ℕ → ℕ → ℕ} {b l : BlockLines} {column down : ℕ} {a : Area} {s : Surroundings} where
  pub window_is : IsSurvey d at b column down s → l ≡ b → t ≡ d → a ≡ area_in t l column → IsWindow at l column a s.window
  window_is h lines dims area =
      subst (λ (x : BlockLines). IsWindow at x column a s.window) (sym lines)
      (subst (λ (x : Area). IsWindow at b column x s.window) (sym (area_is d t b l column a lines dims area)) h.window)

  pub sums_are : {far : ℕ} → IsSurvey d at b column down s → l ≡ b → t ≡ d → a ≡ area_in t l column → far ≡ down
      → AreSumsFor l.count (slice_index s.window) (span_of l.count far a.top a.bottom l.count).first ((span_of l.count far a.top a.bottom l.count).end + l.count - 8) (slice_index s.sums)
  sums_are {far} h lines dims area is =
      subst (λ (x : Span). HasSums l x s) (sym (near_is d t b l column down far a lines dims area is))
      (subst (λ (x : BlockLines). HasSums x (lines_near d b column down) s) (sym lines) h.sums)

  pub surveyed : {far : ℕ} → l ≡ b → t ≡ d → a ≡ area_in t l column → far ≡ down → IsWindow at l column a s.window
      → AreSumsFor l.count (slice_index s.window) (span_of l.count far a.top a.bottom l.count).first ((span_of l.count far a.top a.bottom l.count).end + l.count - 8) (slice_index s.sums)
      → IsSurvey d at b column down s
  surveyed {far} lines dims area is window sums = record {
    window = subst (λ (x : Area). IsWindow at b column x s.window) (area_is d t b l column a lines dims area)
        (subst (λ (x : BlockLines). IsWindow at x column a s.window) lines window);
    sums = subst (λ (x : BlockLines). HasSums x (lines_near d b column down) s) lines
        (subst (λ (x : Span). HasSums l x s) (near_is d t b l column down far a lines dims area is) sums);
  }

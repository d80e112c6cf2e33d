use Rattle.std.proofs.Common.{◌≡◌, ℕ, suc, ◌+◌, ◌<◌, List, [], ◌∷◌, ◌++◌, length, map, take, get_or, None, sym, ap, ◌∙◌, append-nil, arith}
use Rattle.std.proofs.Math.Seq.{take-suc}
use Rattle.std.proofs.lemmas.Grind.{flat_map-append}
use Rattle.std.proofs.lemmas.List.{map-append, take_all}
use Rattle.m2v_mend.specs.declared.gap.Gap.{Gap}
use Rattle.m2v_mend.specs.Listing.{gap_line, lines_of}
use Rattle.m2v_mend.specs.Making.{gap_told}
use Rattle.m2v_mend.proofs.listing.lines.Goals as goal

lines_more : (gs : List Gap) (i : ℕ) (none : Gap) → i < length gs → lines_of (map gap_told (take (i + 1) gs)) ≡ lines_of (map gap_told (take i gs)) ++ gap_line (gap_told (get_or gs i none))
lines_more gs i none lt =
    let next : suc i ≡ i + 1 = omega arith in
    let g = get_or gs i none in
    ap (λ (n : ℕ). lines_of (map gap_told (take n gs))) (sym next)
    ∙ ap (λ (l : List Gap). lines_of (map gap_told l)) (take-suc gs i none lt)
    ∙ ap lines_of (map-append gap_told (take i gs) (g ∷ []))
    ∙ flat_map-append gap_line (map gap_told (take i gs)) (gap_told g ∷ [])
    ∙ ap (λ (l : List ℕ). lines_of (map gap_told (take i gs)) ++ l) (append-nil (gap_line (gap_told g)))

pub loop-gap-preserved : goal.loop-gap-preserved
loop-gap-preserved c =
    let none : Gap = record { frames = 0; from = 0; bytes = 0; pictures = 0; fault = None } in
    c.in_ok-push_line.ensures ∙ ap (λ (l : List ℕ). l ++ gap_line (gap_told (get_or c.args.gaps.now c.loop-gap.gap-index none))) c.loop-gap.invariant
    ∙ sym (lines_more c.args.gaps.now c.loop-gap.gap-index none c.loop-gap-test.true)

pub returns : goal.returns
returns c = c.loop-gap.invariant ∙ ap (λ (l : List Gap). lines_of (map gap_told l)) (take_all c.loop-gap.gap-index c.args.gaps.now c.loop-gap-test.false)

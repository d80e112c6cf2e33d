-- The groups of a lawful stream begin with I pictures.
use Rattle.std.proofs.Common.{◌≡◌, ℕ, Bool, List, [], ◌∷◌, ◌++◌, refl, ap, ◌∙◌}
use Rattle.std.specs.Prelude.{not}
use Rattle.std.specs.List.{flat_map}
use Rattle.m2v_model.specs.Decoding.{events, low_delay_of}
use Rattle.m2v_model.specs.Streams.{Sofar}
use Rattle.m2v_model.specs.Lawful.{Numbered, Breaches, horizontal_rule, vertical_rule, intra_rule, reference_rule, crowd_rule, repeat_rule, progressive_rule, precision_rule, picture_breaches, all_numbered, is_variable, sequence_breaches, sequences_in, breaches, breaches_of}
use Rattle.m2v_law_group.specs.Chosen.{BeginIntra, LawfulCutDecodes}
use Rattle.m2v_law_group.proofs.Told.{none_left}
use Rattle.m2v_law_group.proofs.Decodes.{cut_law}

-- of pictures that break no rule none breaks the one on groups
intra_none : (low constant : Bool) (all ns : List Numbered) → flat_map (picture_breaches low constant all) ns ≡ [] → flat_map intra_rule ns ≡ []
unfolding picture_breaches
intra_none low constant all [] e = refl
intra_none low constant all (n ∷ ns) e =
    let own = none_left (picture_breaches low constant all n) (flat_map (picture_breaches low constant all) ns) e in
    let first = horizontal_rule n ++ vertical_rule n in
    let x3 = first ++ intra_rule n in
    let x4 = x3 ++ reference_rule low all n in
    let x5 = x4 ++ crowd_rule n in
    let x6 = x5 ++ repeat_rule constant n in
    let x7 = x6 ++ progressive_rule n in
    let a = none_left x7 (precision_rule n) own.0 in
    let b = none_left x6 (progressive_rule n) a.0 in
    let c = none_left x5 (repeat_rule constant n) b.0 in
    let d = none_left x4 (crowd_rule n) c.0 in
    let f = none_left x3 (reference_rule low all n) d.0 in
    let g = none_left first (intra_rule n) f.0 in
    ap (λ (l : Breaches). l ++ flat_map intra_rule ns) g.1 ∙ intra_none low constant all ns own.1

lawful_begins : (tree : Sofar) → breaches_of tree ≡ [] → BeginIntra (events tree)
unfolding breaches
lawful_begins tree e =
    let all = all_numbered (events tree) in
    let parts = none_left (sequence_breaches (sequences_in (events tree))) (flat_map (picture_breaches (low_delay_of tree.state.first) (not (is_variable all)) all) all) e in
    intra_none (low_delay_of tree.state.first) (not (is_variable all)) all all parts.1

-- a cut of a lawful stream
pub lawful_law : (text : List ℕ) (from count : ℕ) → LawfulCutDecodes text from count
lawful_law text from count l le alone clear = cut_law text from count l.tree l.stream le (lawful_begins l.tree l.lawful) alone clear

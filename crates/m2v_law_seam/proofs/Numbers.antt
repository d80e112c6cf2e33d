-- The numbers of the answer are those of the strands and of the input.
use Rattle.std.proofs.Common.{◌≡◌, ℕ, ◌+◌, ◌-◌, ◌*◌, Bool, true, false, List, [], ◌∷◌, length, Some, refl, sym, ap, subst, ◌∙◌, arith}
use Rattle.std.specs.Prelude.{nat_eq, if◌then◌else◌}
use Rattle.std.proofs.lemmas.Bool.{eqb-true}
use Rattle.std.proofs.lemmas.List.{length-append}
use Rattle.m2v_model.specs.Units.{cut, joined}
use Rattle.m2v_law_group.specs.Groups.{end_code}
use Rattle.m2v_law_seam.specs.Spans.{units_of, units_in, picture_count, Dividing, Span, spans, steps, spans_in}
use Rattle.m2v_law_seam.specs.Mending.{nothing_yet, mending, strands, gaps_in, ended_text}
use Rattle.m2v_law_seam.specs.Told.{all_groups, span_pictures, all_pictures, left_pictures, all_kept, some_kept, answer_by}
use Rattle.m2v_law_seam.specs.Mends.{steps_of, all_pieces, without_ends, AreParts, neither, kept, left, AllThere, PicturesKept, SizeIs, IsTold, AnswerTells}
use Rattle.m2v_law_seam.proofs.Fold.{text_of}
use Rattle.m2v_law_seam.proofs.Told.{count_append, pictures_none, pictures_append, all_told, pictures_of_pieces}
use Rattle.m2v_law_seam.proofs.There.{span_pieces, stretch_all, all_steps, spans_keep, steps_keep}
use Rattle.m2v_law_seam.proofs.InTurn.{all_there}
use Rattle.m2v_law_seam.proofs.Groups.{groups_kept, groups_there, none_left}
use Rattle.m2v_law_seam.proofs.Kept.{spans_kept_pictures, steps_kept_pictures}

-- ---- pictures of pieces

pictures_first : (p : List ℕ) (ps : List (List ℕ)) → pictures_of_pieces (p ∷ ps) ≡ picture_count (units_of p) + pictures_of_pieces ps
unfolding units_in
pictures_first p ps = count_append (units_of p) (units_in ps)

parts_pictures : {ks ls all : List (List ℕ)} → AreParts ks ls all → pictures_of_pieces all ≡ pictures_of_pieces ks + pictures_of_pieces ls
parts_pictures neither = let z = pictures_none in omega (arith, z)
parts_pictures (kept {ks = ks} {ls = ls} {all = all} {p = p} a) =
    let i = parts_pictures a in
    let x = pictures_first p ks in
    let y = pictures_first p all in
    omega (arith, i, x, y)
parts_pictures (left {ks = ks} {ls = ls} {all = all} {p = p} a) =
    let i = parts_pictures a in
    let x = pictures_first p ls in
    let y = pictures_first p all in
    omega (arith, i, x, y)

span_total : (ss : List Span) → span_pictures ss ≡ pictures_of_pieces (span_pieces ss)
unfolding span_pictures
span_total [] = sym pictures_none
span_total (s ∷ ss) = let i = span_total ss in let a = pictures_append s.pieces (span_pieces ss) in omega (arith, i, a)

all_total : (more : List (List Span)) → all_pictures more ≡ pictures_of_pieces (stretch_all more)
unfolding all_pictures
all_total [] = sym pictures_none
all_total (ss ∷ more) = let i = all_total more in let s = span_total ss in let a = pictures_append (span_pieces ss) (stretch_all more) in omega (arith, i, s, a)

-- ---- the answer

-- the pictures of the input, of the strands, and of the gaps
record AllNumbers (divide : Dividing) (text : List ℕ) : Type 0 where
  all : all_pictures (spans_in divide text) ≡ picture_count (without_ends (cut 0 text).1)
  sum : all_pictures (spans_in divide text) ≡ pictures_of_pieces (strands divide text) + left_pictures (gaps_in divide text)

numbers : (divide : Dividing) (text : List ℕ) → AllThere divide text → PicturesKept divide text → AllNumbers divide text
numbers divide text there strand =
    let t = all_told divide text in
    let whole = all_total (spans_in divide text) in
    let same : pictures_of_pieces (stretch_all (spans_in divide text)) ≡ pictures_of_pieces (all_pieces (steps_of divide text)) = ap pictures_of_pieces (sym (all_steps (spans_in divide text) nothing_yet)) in
    let input = ap picture_count there.pieces in
    let parts = parts_pictures t.parts in
    let gaps = t.pictures in
    record { all = whole ∙ same ∙ input; sum = omega (arith, whole, same, parts, gaps, strand) }

size_of : (divide : Dividing) (text : List ℕ) (ds : List (List ℕ)) → strands divide text ≡ ds → (s : List ℕ) (ss : List (List ℕ)) → ds ≡ s ∷ ss → SizeIs divide text (length (joined ds) + length end_code)
size_of divide text ds e s ss is bytes m =
    let own : ended_text (s ∷ ss) ≡ Some bytes = ap ended_text (sym (e ∙ is)) ∙ m in
    ap (λ (l : List (List ℕ)). length (joined l) + length end_code) is ∙ sym (length-append (joined (s ∷ ss)) end_code) ∙ ap length (text_of s ss bytes own)

kept_told : (divide : Dividing) (text : List ℕ) (n : AllNumbers divide text) (none : Bool) → nat_eq (left_pictures (gaps_in divide text)) 0 ≡ none → SizeIs divide text (length (joined (strands divide text)) + length end_code)
    → IsTold divide text (
    if none then all_kept (mending divide text).groups (all_pictures (spans_in divide text)) (length (joined (strands divide text)) + length end_code)
    else some_kept (mending divide text).groups (all_groups 0 (spans_in divide text)) (all_pictures (spans_in divide text) - left_pictures (gaps_in divide text)) (all_pictures (spans_in divide text)) (length (joined (strands divide text)) + length end_code)
    )
kept_told divide text n true e size =
    let z = eqb-true (left_pictures (gaps_in divide text)) 0 e in
    let s = n.sum in
    let t = all_told divide text in
    let k = groups_kept divide text in
    (k, k ∙ none_left (steps_of divide text) (sym t.pictures ∙ z), omega (arith, s, z), n.all, size)
kept_told divide text n false e size = let s = n.sum in (groups_kept divide text, groups_there divide text, omega (arith, s), n.all, size)

told_by : (divide : Dividing) (text : List ℕ) (n : AllNumbers divide text) (ds : List (List ℕ)) → strands divide text ≡ ds → IsTold divide text (answer_by (8 * length text) (mending divide text) (spans_in divide text) ds)
told_by divide text n [] e = e
told_by divide text n (s ∷ ss) e =
    let size = subst (λ (l : List (List ℕ)). SizeIs divide text (length (joined l) + length end_code)) (sym e) (size_of divide text (s ∷ ss) e s ss refl) in
    kept_told divide text n (nat_eq (left_pictures (gaps_in divide text)) 0) refl size

answer_told : (divide : Dividing) (text : List ℕ) → AllThere divide text → PicturesKept divide text → AnswerTells divide text
answer_told divide text there strand = told_by divide text (numbers divide text there strand) (strands divide text) refl

pub spans_answer : (text : List ℕ) → AnswerTells spans text
spans_answer text = answer_told spans text (all_there spans spans_keep text) (spans_kept_pictures text)

pub steps_answer : (text : List ℕ) → AnswerTells steps text
steps_answer text = answer_told steps text (all_there steps steps_keep text) (steps_kept_pictures text)

-- Two runs of one sequence, of which one stands further on: what else stands before the first slice of a piece.
use Rattle.std.proofs.Common.{◌≡◌, ℕ, ◌+◌, ◌*◌, Bool, List, [], ◌∷◌, ◌++◌, length, Result, Ok, Err, Option, refl, sym, ap, subst, ◌∙◌}
use Rattle.std.specs.Prelude.{map, nat_eq, if◌then◌else◌}
use Rattle.std.specs.Option.{option_map}
use Rattle.std.proofs.lemmas.List.{map-append}
use Rattle.m2v_model.specs.m2v_macroblock.m2v_head.declared.matrix.MatrixInfo.{MatrixInfo}
use Rattle.m2v_model.specs.declared.fault.FaultKind.{FaultKind}
use Rattle.m2v_model.specs.declared.notes.PictureNote.{PictureNote}
use Rattle.m2v_model.specs.Units.{Units, cut, body}
use Rattle.m2v_model.specs.Headers.{whole_header, matrices_in}
use Rattle.m2v_model.specs.Streams.{value_of}
use Rattle.m2v_audit.specs.m2v_strict.declared.display.Display.{Display}
use Rattle.m2v_audit.specs.m2v_strict.OtherRules.{extra_rule, matrix_remarks}
use Rattle.m2v_audit.specs.declared.auditing.Auditing.{Auditing}
use Rattle.m2v_audit.specs.declared.others.Other.{Other}
use Rattle.m2v_audit.specs.declared.others.Other.TheVariants as others
use Rattle.m2v_audit.specs.Auditing.{with_display, with_others, pictured}
use Rattle.m2v_audit.specs.Findings.{with_remarks}
use Rattle.m2v_audit.specs.Others.{display_told, extra_told, matrices_told, display_at, extra_at, display_in, extra_in, matrices_of, other_at, is_slice, others_from, others_of, display_of, own_remarks, own_bit, with_own_remarks, headed_remarks, display_behind}
use Rattle.m2v_audit.specs.Report.{Report}
use Rattle.m2v_law_audit.proofs.MovedReports.{Together, remarks_at, note_on}
use Rattle.m2v_law_audit.proofs.MovedSteps.{Moves, step_both, beside, further, lists_chosen, list_further, AreFurther, pictured_both}

-- the same so many bytes further on
abbrev pub other_on : ℕ → Other → Other
other_on k (others.Display d) = others.Display d
other_on k (others.Picture bit extra) = others.Picture (bit + 8 * k) extra
other_on k (others.Matrices bit m) = others.Matrices (bit + 8 * k) m

-- ---- where they stand

module _ (k : ℕ) where
  display_further : (x : Result (Display × List Bool) (FaultKind × ℕ)) → display_told x ≡ map (other_on k) (display_told x)
  display_further (Ok x) = refl
  display_further (Err f) = refl

  extra_further : (bit : ℕ) (x : Result (Bool × List Bool) (FaultKind × ℕ)) → extra_told (bit + 8 * k) x ≡ map (other_on k) (extra_told bit x)
  extra_further bit (Ok x) = refl
  extra_further bit (Err f) = refl

  matrices_further : (bit : ℕ) (x : Result (MatrixInfo × List Bool) (FaultKind × ℕ)) → matrices_told (bit + 8 * k) x ≡ map (other_on k) (matrices_told bit x)
  matrices_further bit (Ok x) = refl
  matrices_further bit (Err f) = refl

  -- what a unit tells that is an extension
  extension_further : (bit : ℕ) (u : List ℕ) → display_in u ++ matrices_of (bit + 8 * k) u ≡ map (other_on k) (display_in u ++ matrices_of bit u)
  unfolding display_in matrices_of
  extension_further bit u =
      let shown = display_told (display_at.read (body u)) in
      let loaded = (whole_header matrices_in).read (body u) in
      ap (λ (l : List Other). shown ++ l) (matrices_further bit loaded)
      ∙ ap (λ (l : List Other). l ++ map (other_on k) (matrices_told bit loaded)) (display_further (display_at.read (body u)))
      ∙ sym (map-append (other_on k) shown (matrices_told bit loaded))

  other_further : (bit : ℕ) (u : List ℕ) → other_at (bit + 8 * k) u ≡ map (other_on k) (other_at bit u)
  unfolding other_at extra_in
  other_further bit u =
      lists_chosen (other_on k) (nat_eq (value_of u) 0x00) _ _ (extra_told bit (extra_at.read (body u))) _ (extra_further bit (extra_at.read (body u)))
      (lists_chosen (other_on k) (nat_eq (value_of u) 0xB5) _ _ (display_in u ++ matrices_of bit u) [] (extension_further bit u) refl)

  others_further : (bit : ℕ) (us : Units) → others_from (bit + 8 * k) us ≡ map (other_on k) (others_from bit us)
  unfolding others_from
  others_further = list_further k (other_on k) other_at other_further is_slice others_from (λ bit. refl) (λ bit u us. refl)

  pub all_further : (place : ℕ) (piece : List ℕ) → others_of (place + k) piece ≡ map (other_on k) (others_of place piece)
  all_further place piece =
      ap (λ (bit : ℕ). others_from bit (cut 0 piece).1) (further k place) ∙ others_further (8 * place) (cut 0 piece).1

  display_same : (os : List Other) → display_of (map (other_on k) os) ≡ display_of os
  unfolding display_of
  display_same [] = refl
  display_same (others.Display d ∷ os) = refl
  display_same (others.Picture bit extra ∷ os) = display_same os
  display_same (others.Matrices bit m ∷ os) = display_same os

-- ---- what is told of them

own_come : {n k : ℕ} {r s : Report} (picture : ℕ) (o : Other) → Together n k r s
    → Together n k (with_remarks r picture (own_bit o) (own_remarks o)) (with_remarks s picture (own_bit (other_on k o)) (own_remarks (other_on k o)))
unfolding own_bit own_remarks with_remarks
own_come picture (others.Display d) t = t
own_come {n} {k} picture (others.Picture bit extra) t = remarks_at picture bit (bit + 8 * k) (extra_rule extra) (extra_rule extra) refl refl t
own_come {n} {k} picture (others.Matrices bit m) t = remarks_at picture bit (bit + 8 * k) (matrix_remarks m) (matrix_remarks m) refl refl t

others_come : {n k : ℕ} (r s : Report) (picture : ℕ) (os : List Other) → Together n k r s
    → Together n k (with_own_remarks r picture os) (with_own_remarks s picture (map (other_on k) os))
unfolding with_own_remarks
others_come r s picture [] t = t
others_come {n} {k} r s picture (o ∷ os) t =
    others_come (with_remarks r picture (own_bit o) (own_remarks o)) (with_remarks s picture (own_bit (other_on k o)) (own_remarks (other_on k o))) picture os
    (own_come picture o t)

with_both : {n k : ℕ} {a b : Auditing} (picture : ℕ) (os : List Other) → Moves n k a b → Moves n k (with_others picture os a) (with_others picture (map (other_on k) os) b)
with_both {n} {k} {a} picture os m = step_both (with_others picture os a) (with_others picture (map (other_on k) os)) m
    (λ r t. record { report = others_come a.report r picture os t; rest = refl })

display_with : {n k : ℕ} {a b : Auditing} (place : ℕ) (os : List Other) → Moves n k a b → Moves n k (with_display place os a) (with_display (place + k) (map (other_on k) os) b)
display_with {n} {k} {a} place os m = step_both (with_display place os a) (with_display (place + k) (map (other_on k) os)) m (λ r t.
    let same = display_same k os in
    let other = with_remarks r a.pictures (8 * (place + k)) (headed_remarks a.headed a.display (display_of (map (other_on k) os))) in
    record {
      report =
          remarks_at a.pictures (8 * place) (8 * (place + k)) (headed_remarks a.headed a.display (display_of os))
          (headed_remarks a.headed a.display (display_of (map (other_on k) os))) (further k place)
          (ap (λ (d : Option Display). headed_remarks a.headed a.display d) same) t;
      rest = ap (λ (d : Option Display). record (beside k other a) { display = display_behind a.headed a.display d }) same;
    })

-- ---- of a piece

pub display_both : {n k : ℕ} {a b : Auditing} (place : ℕ) (piece : List ℕ) → Moves n k a b
    → Moves n k (with_display place (others_of place piece) a) (with_display (place + k) (others_of (place + k) piece) b)
display_both {n} {k} {a} {b} place piece m =
    subst (λ (os : List Other). Moves n k (with_display place (others_of place piece) a) (with_display (place + k) os b)) (sym (all_further k place piece))
    (display_with place (others_of place piece) m)

-- its picture, and what else stands before the first slice
pub others_both : {n k : ℕ} {a b : Auditing} (p : Option PictureNote) (place zeros : ℕ) (piece : List ℕ) → AreFurther k p → Moves n k a b →
    let bytes = length piece in
    Moves n k (with_others a.pictures (others_of place piece) (pictured a place bytes zeros p))
    (with_others b.pictures (others_of (place + k) piece) (pictured b (place + k) bytes zeros (option_map (note_on k) p)))
others_both {n} {k} {a} {b} p place zeros piece e m =
    let own = with_others a.pictures (others_of place piece) (pictured a place (length piece) zeros p) in
    let both = pictured_both p place (length piece) zeros e m in
    let next = pictured b (place + k) (length piece) zeros (option_map (note_on k) p) in
    subst (λ (picture : ℕ). Moves n k own (with_others picture (others_of (place + k) piece) next)) (sym (ap (λ (x : Auditing). x.pictures) m.rest))
    (subst (λ (os : List Other). Moves n k own (with_others a.pictures os next)) (sym (all_further k place piece))
    (with_both a.pictures (others_of place piece) both))

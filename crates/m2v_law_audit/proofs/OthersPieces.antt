-- The units of a text's pieces are those of the text: what holds of each unit of the text, and of an end code, holds of each of its pieces.
use Rattle.std.proofs.Common.{◌≡◌, ℕ, Bool, true, false, List, [], ◌∷◌, ◌++◌, take, refl, sym, ap, subst, ◌∙◌, append_assoc}
use Rattle.std.specs.Prelude.{if◌then◌else◌}
use Rattle.std.specs.List.{AllByRecursion}
use Rattle.std.proofs.ByRecursion.{All-append}
use Rattle.std.proofs.lemmas.List.{append-nil}
use Rattle.m2v_model.specs.declared.phase.Phase.{Phase}
use Rattle.m2v_model.specs.declared.phase.Phase.TheVariants as phases
use Rattle.m2v_model.specs.Units.{Units, cut, joined, AreUnits}
use Rattle.m2v_model.specs.Streams.{value_of}
use Rattle.m2v_model.specs.Pieces.{phase_after, is_end, piece_of, grouped, pieces}
use Rattle.m2v_audit.proofs.m2v_check.m2v_model.CutLaws.{cut_cuts, cut_units, joined-append, are_before, are_behind, are_code}
use Rattle.m2v_audit.proofs.m2v_check.m2v_model.PieceLaws.{piece_whole, IsOpen, open_after}

module _ (P : List ℕ → Type 0) (codes : (u : List ℕ) → is_end (value_of u) ≡ true → P (take 4 u)) where
  abbrev pub Each : Units → Type 0
  Each us = AllByRecursion P us

  abbrev pub InPieces : List (List ℕ) → Type 0
  InPieces ps = AllByRecursion (λ (p : List ℕ). Each (cut 0 p).1) ps

  -- a piece of units
  of_units : (us : Units) → AreUnits us → Each us → Each (cut 0 (joined us)).1
  of_units us a h = subst Each (sym (cut_units us a)) h

  abbrev All : Units → Type 0
  All us = (phase : Phase) (v : List ℕ) (vs : Units) → IsOpen phase → AreUnits (v ∷ (vs ++ us)) → Each (v ∷ vs) → InPieces (grouped phase (joined (v ∷ vs)) us)

  -- the piece at hand goes on with a unit
  goes_on : (phase : Phase) (v : List ℕ) (vs us : Units) (u : List ℕ) → All us → IsOpen phase → AreUnits (v ∷ (vs ++ u ∷ us)) → Each (v ∷ vs) → P u
      → InPieces (grouped phase (joined (v ∷ vs) ++ u) us)
  goes_on phase v vs us u ih o a h own =
      let ws = vs ++ u ∷ [] in
      let e : vs ++ u ∷ us ≡ ws ++ us = sym (append_assoc vs (u ∷ []) us) in
      let bytes : joined (v ∷ ws) ≡ joined (v ∷ vs) ++ u = joined-append (v ∷ vs) (u ∷ []) ∙ ap (λ (l : List ℕ). joined (v ∷ vs) ++ l) (append-nil u) in
      subst (λ (l : List ℕ). InPieces (grouped phase l us)) bytes
      (ih phase v ws o (subst (λ (l : Units). AreUnits (v ∷ l)) e a) (All-append P (v ∷ vs) (u ∷ []) h (own, tt)))

  in_headers : (e : Bool) (v : List ℕ) (vs us : Units) (u : List ℕ) → is_end (value_of u) ≡ e → All us → AreUnits (v ∷ (vs ++ u ∷ us)) → Each (v ∷ vs) → P u
      → InPieces (if e then (joined (v ∷ vs) ++ take 4 u) ∷ [] else grouped (phase_after phases.Headers (value_of u)) (joined (v ∷ vs) ++ u) us)
  in_headers true v vs us u is ih a h own =
      let code = take 4 u in
      let bytes : joined (v ∷ (vs ++ code ∷ [])) ≡ joined (v ∷ vs) ++ code = joined-append (v ∷ vs) (code ∷ []) ∙ ap (λ (l : List ℕ). joined (v ∷ vs) ++ l) (append-nil code) in
      subst (λ (l : List ℕ). InPieces (l ∷ [])) bytes
      (of_units (v ∷ (vs ++ code ∷ [])) (are_code (v ∷ vs) us u a) (All-append P (v ∷ vs) (code ∷ []) h (codes u is, tt)), tt)
  in_headers false v vs us u is ih a h own = goes_on (phase_after phases.Headers (value_of u)) v vs us u ih (open_after (value_of u)) a h own

  in_picture : (e f : Bool) (v : List ℕ) (vs us : Units) (u : List ℕ) → is_end (value_of u) ≡ e → All us → AreUnits (v ∷ (vs ++ u ∷ us)) → Each (v ∷ vs) → P u
      → InPieces (if e then joined (v ∷ vs) ∷ take 4 u ∷ [] else if f then joined (v ∷ vs) ∷ grouped (phase_after phases.Headers (value_of u)) u us else grouped phases.Picture (joined (v ∷ vs) ++ u) us)
  in_picture true f v vs us u is ih a h own =
      let code = take 4 u in
      let alone : AreUnits (code ∷ []) = are_behind (v ∷ vs) (code ∷ []) (are_code (v ∷ vs) us u a) in (
        of_units (v ∷ vs) (are_before (v ∷ vs) (u ∷ us) a) h,
        (subst (λ (l : List ℕ). Each (cut 0 l).1) (append-nil code) (of_units (code ∷ []) alone (codes u is, tt)), tt),
      )
  in_picture false true v vs us u is ih a h own =
      let phase = phase_after phases.Headers (value_of u) in (
        of_units (v ∷ vs) (are_before (v ∷ vs) (u ∷ us) a) h,
        subst (λ (l : List ℕ). InPieces (grouped phase l us)) (append-nil u) (ih phase u [] (open_after (value_of u)) (are_behind (v ∷ vs) (u ∷ us) a) (own, tt)),
      )
  in_picture false false v vs us u is ih a h own = goes_on phases.Picture v vs us u ih tt a h own

  at_last : (v : List ℕ) (vs : Units) → AreUnits (v ∷ (vs ++ [])) → Each (v ∷ vs) → InPieces (piece_of (joined (v ∷ vs)))
  at_last v vs a h =
      let own = are_before (v ∷ vs) [] a in
      subst InPieces (sym (piece_whole v vs own)) (of_units (v ∷ vs) own h, tt)

  all_grouped : (us : Units) → Each us → All us
  unfolding grouped
  all_grouped us each phases.Before v vs o a h = absurd o
  all_grouped [] each phases.Headers v vs o a h = at_last v vs a h
  all_grouped [] each phases.Picture v vs o a h = at_last v vs a h
  all_grouped (u ∷ us) each phases.Headers v vs o a h = in_headers _ v vs us u refl (all_grouped us each.1) a h each.0
  all_grouped (u ∷ us) each phases.Picture v vs o a h = in_picture _ _ v vs us u refl (all_grouped us each.1) a h each.0

  at_first : (e : Bool) (us : Units) (u : List ℕ) → InPieces (grouped phases.Before [] us) → AreUnits (u ∷ us) → Each us → P u
      → InPieces (if e then grouped phases.Headers u us else grouped phases.Before [] us)
  at_first true us u ih a each own =
      subst (λ (l : List ℕ). InPieces (grouped phases.Headers l us)) (append-nil u) (all_grouped us each phases.Headers u [] tt a (own, tt))
  at_first false us u ih a each own = ih

  before_all : (us : Units) → AreUnits us → Each us → InPieces (grouped phases.Before [] us)
  unfolding grouped
  before_all [] a h = tt
  before_all (u ∷ us) a h = at_first _ us u (before_all us a.3 h.1) a h.1 h.0

  pub in_pieces_of : (text : List ℕ) → Each (cut 0 text).1 → InPieces (pieces text)
  in_pieces_of text h = before_all (cut 0 text).1 (cut_cuts text).are_units h

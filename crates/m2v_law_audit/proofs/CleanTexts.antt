-- What is found of a stream of which the stricter rules remark breaches of some rules alone: breaches of these, and of the rules that the
-- verifier looks at.
use Rattle.std.proofs.Common.{◌≡◌, ℕ, ◌+◌, true, List, [], ◌∷◌, ◌++◌, length, map, Option, Some, None, inl, inr, refl, sym, ap, subst, ◌∙◌}
use Rattle.std.specs.Prelude.{nat_le}
use Rattle.std.proofs.lemmas.Bool.{cases_Bool}
use Rattle.m2v_model.specs.declared.state.Sequence.{Sequence}
use Rattle.m2v_model.specs.declared.notes.PictureNote.{PictureNote}
use Rattle.m2v_model.specs.Pictures.{Events}
use Rattle.m2v_model.specs.Pieces.{zeros_last, pieces}
use Rattle.m2v_model.specs.PieceNotes.{PieceNotes, notes_of, header_pair}
use Rattle.m2v_model.specs.Lawful.{sequences_in}
use Rattle.m2v_model.specs.Streams.{Sofar}
use Rattle.m2v_model.specs.Decoding.{Stream, events}
use Rattle.m2v_model.specs.ByPieces.{Between, at_start}
use Rattle.m2v_audit.proofs.m2v_check.Telling.{first_in}
use Rattle.m2v_audit.specs.m2v_check.Running.{ends_frame}
use Rattle.m2v_audit.specs.m2v_strict.declared.rule_set.RuleSet.TheVariants as sets
use Rattle.m2v_audit.specs.declared.asked.Asked.{Asked}
use Rattle.m2v_audit.specs.declared.auditing.Auditing.{Auditing}
use Rattle.m2v_audit.specs.Auditing.{nothing, with_note, begun, longer, fronted}
use Rattle.m2v_audit.specs.Front.{front_of}
use Rattle.m2v_law_audit.specs.Sequences.{first_byte}
use Rattle.m2v_law_audit.specs.Found.{piece_found, end_found, all_along, all_found, findings_of}
use Rattle.m2v_law_audit.proofs.PartsKept.{headers_keep, piece_leaves, headers_leave}
use Rattle.m2v_law_audit.proofs.EventsFront.{Fronts, all_go_on}
use Rattle.m2v_law_audit.proofs.EventsPieces.{BeginWith, text_begins}
use Rattle.m2v_law_audit.proofs.AccountReading.{Turn, Turns, in_pieces, begun_at, behind_piece, one_piece, first_header, header_stays, first_begun}
use Rattle.m2v_law_audit.proofs.BreachEvents.{Marked, plain, marked, with_note as with_coded_note}
use Rattle.m2v_law_audit.proofs.BreachPieces.{plain-append, plain_marked}
use Rattle.m2v_law_audit.proofs.BreachTexts.{end_in, piece_first}
use Rattle.m2v_law_audit.proofs.CleanRemarks.{AreOf, found_none, found_both}
use Rattle.m2v_law_audit.proofs.CleanArrivals.{piece_arrivals, all_arrivals}
use Rattle.m2v_law_audit.proofs.CleanKeeps.{Keep as Keeping}
use Rattle.m2v_law_audit.proofs.CleanOthers.{piece_others, all_others, plain_piece}
use Rattle.m2v_law_audit.proofs.CleanEvents.{Before, before_first, before_behind, before, headed_by, note_before, behind_both, front_before, MayBeAll, MayBeEnd, maybe_parts, IsPlain, of_front, of_end}
use Rattle.m2v_law_audit.proofs.VerdictRules.{none_before, none_behind}

-- ---- the rules that are asked for stay

rules_noted : (a : Auditing) (s : Option Sequence) (n : Option PictureNote) (place bytes ending : ℕ)
    → (with_note a s n place bytes ending).rules ≡ a.rules
rules_noted a s None place bytes ending = refl
rules_noted a None (Some n) place bytes ending = refl
rules_noted a (Some s) (Some n) place bytes ending = elim (cases_Bool (ends_frame n)) [ inl on ↦ rw on refl | inr off ↦ rw off refl ]

rules_behind : (a : Auditing) (place : ℕ) (p : List ℕ) (es : Events) → (behind_piece a place p es).rules ≡ (begun_at a place p es).rules
rules_behind a place p es =
    let n : PieceNotes = notes_of place p es in
    let front : Auditing = fronted (longer (length p) a) place p n in
    piece_leaves (λ (x : Auditing). x.rules) (λ a r d last x. refl) a place p n
    ∙ rules_noted front front.sequence n.picture place (length p) (zeros_last p)
    ∙ headers_keep (λ (x : Auditing). x.rules) (λ a bit s. refl) (λ a bit g. refl) (begun_at a place p es) n.sequences 0 (front_of place p)

-- ---- what came before what stands behind a piece

-- what a picture leaves hangs on no more than what came before
same_before : (a b : Auditing) (o : Option Sequence) (n : Option PictureNote) (place bytes ending : ℕ) → before a ≡ before b
    → before (with_note a o n place bytes ending) ≡ before (with_note b o n place bytes ending)
same_before a b o None place bytes ending e = e
same_before a b o (Some n) place bytes ending e =
    note_before a o n place bytes ending
    ∙ ap (λ (x : Before). record { kept = with_coded_note x.kept o n; headed = headed_by o x.headed }) e
    ∙ sym (note_before b o n place bytes ending)

piece_before : (a : Auditing) (place : ℕ) (p : List ℕ) (es : Events) → Fronts (front_of place p) es
    → before (behind_piece a place p es) ≡ before_behind (before (begun_at a place p es)) (marked (end_in place p) es)
unfolding notes_of
piece_before a place p es f =
    headers_leave before (λ a r d last x. refl) same_before a place p (notes_of place p es)
    ∙ front_before (front_of place p) es (begun_at a place p es) (map header_pair (sequences_in es)) 0 (end_in place p) place (length p) (zeros_last p) f
    (all_go_on (map header_pair (sequences_in es)))

-- ---- pieces

module _ (may : ℕ → Type 0) (law : (rule : ℕ) → nat_le rule 15 ≡ true → may rule) (first : Sequence) where
  -- of these events, and of the end behind them, breaches of rules that may be broken are remarked alone, wherever their start codes end
  abbrev Keep : Before → Events → Type 0
  Keep x es = Keeping may first x es

  of_piece : (a : Auditing) (place : ℕ) (p : List ℕ) (es : Events) → Fronts (front_of place p) es
      → IsPlain may law first (begun_at a place p es)
      → MayBeAll may first (before (begun_at a place p es)) (marked (end_in place p) es)
      → piece_arrivals a place p (notes_of place p es) ≡ [] → piece_others a place p (notes_of place p es) ≡ []
      → AreOf may (piece_found a place p (notes_of place p es))
  unfolding notes_of
  of_piece a place p es f is h arrives none =
      let ss = map header_pair (sequences_in es) in
      subst (AreOf may) (sym (plain_piece a place p es none))
      (of_front may law first (front_of place p) es (begun_at a place p es) ss 0 (end_in place p) f (all_go_on ss) is h arrives)

  -- a piece, and those behind it
  one_more : (a : Auditing) (b : Between) (at : ℕ) (p : List ℕ) (ps : List (List ℕ)) (es : Events) (k : Before) → (u : Turn b p ps es)
      → IsPlain may law first (begun_at a at p u.own) → before (begun_at a at p u.own) ≡ k → Keep k es → all_arrivals a b at (p ∷ ps) ≡ [] → all_others a b at (p ∷ ps) ≡ []
      → ((c : Auditing) → IsPlain may law first c → Keep (before c) u.rest → all_arrivals c u.next (at + length p) ps ≡ [] → all_others c u.next (at + length p) ps ≡ []
      → AreOf may (all_found c u.next (at + length p) ps))
      → AreOf may (all_found a b at (p ∷ ps))
  one_more a b at p ps es k u is begins_so h arrives others later =
      let c = behind_piece a at p u.own in
      let front = u.fronts at in
      let own = marked (end_in at p) u.own in
      let parts : (ys : Marked) → plain ys ≡ u.rest → (MayBeAll may first k own × MayBeAll may first (before_behind k own) ys) × MayBeEnd may (before_behind (before_behind k own) ys) =
      λ ys e.
      let both = h (own ++ ys) (plain-append own ys ∙ (λ i. plain_marked (end_in at p) u.own i ++ e i) ∙ sym u.are) in
      (maybe_parts may first k own ys both.0, subst (MayBeEnd may) (behind_both k own ys) both.1) in
      let here : MayBeAll may first k own = (parts (marked 0 u.rest) (plain_marked 0 u.rest)).0.0 in
      let left : before c ≡ before_behind k own = piece_before a at p u.own front ∙ ap (λ (x : Before). before_behind x own) begins_so in
      let next : IsPlain may law first c = record {
        rules = rules_behind a at p u.own ∙ is.rules;
        header = piece_first a at p u.own ∙ is.header;
      } in
      let none : piece_arrivals a at p (notes_of at p u.own) ++ all_arrivals c u.next (at + length p) ps ≡ [] =
      sym (one_piece piece_arrivals (λ x. []) a b at p ps es u) ∙ arrives in
      let silent : piece_others a at p (notes_of at p u.own) ++ all_others c u.next (at + length p) ps ≡ [] =
      sym (one_piece piece_others (λ x. []) a b at p ps es u) ∙ others in
      subst (AreOf may) (sym (one_piece piece_found end_found a b at p ps es u))
      (found_both
      (of_piece a at p u.own front is (subst (λ (x : Before). MayBeAll may first x own) (sym begins_so) here) (none_before _ _ none) (none_before _ _ silent))
      (later c next
      (λ ys e.
      let all = parts ys e in
      subst (λ (x : Before). MayBeAll may first x ys × MayBeEnd may (before_behind x ys)) (sym left) (all.0.1, all.1))
      (none_behind (piece_arrivals a at p (notes_of at p u.own)) _ none) (none_behind (piece_others a at p (notes_of at p u.own)) _ silent)))

  -- behind the first piece
  of_later : (ps : List (List ℕ)) (a : Auditing) (b : Between) (at : ℕ) (es : Events) → IsPlain may law first a → Turns b ps es
      → Keep (before a) es → all_arrivals a b at ps ≡ [] → all_others a b at ps ≡ [] → AreOf may (all_found a b at ps)
  unfolding all_along
  of_later [] a b at es is turns h arrives others = of_end may law first a is (h [] (sym turns)).1
  of_later (p ∷ ps) a b at es is turns h arrives others =
      let u = turns.0 in
      let begins_so : begun_at a at p u.own ≡ longer (length p) a =
      ap (λ (o : Option Sequence). begun o (longer (length p) a) at (notes_of at p u.own)) is.header in
      let same : IsPlain may law first (begun_at a at p u.own) =
      subst (IsPlain may law first) (sym begins_so) (record { rules = is.rules; header = is.header }) in
      one_more a b at p ps es (before a) u same (ap before begins_so) h arrives others
      (λ c next keep more silent. of_later ps c u.next (at + length p) u.rest next turns.1 keep more silent)

  -- all pieces, of which the first begins with a sequence header
  of_first : (ps : List (List ℕ)) (number start : ℕ) (asked : Asked) (at : ℕ) (es : Events) → asked.rules ≡ sets.Main
      → BeginWith 0xB3 ps → Turns at_start ps es → first_in None es ≡ Some first → Keep (before_first first.extension.low_delay) es
      → all_arrivals (nothing number asked start) at_start at ps ≡ [] → all_others (nothing number asked start) at_start at ps ≡ []
      → AreOf may (all_found (nothing number asked start) at_start at ps)
  unfolding all_along
  of_first [] number start asked at es rules begins turns e h arrives others = found_none
  of_first (p ∷ ps) number start asked at es rules begins turns e h arrives others =
      let a = nothing number asked start in
      let u = turns.0 in
      let x = first_header at p u.own begins (u.fronts at) in
      let is = first_begun a at p u.own refl x in
      let same : x.header ≡ first = some_is (sym (header_stays u.own u.rest es u.are x) ∙ e) in
      let begins_so : before (begun_at a at p u.own) ≡ before_first first.extension.low_delay =
      ap before is ∙ ap (λ (s : Sequence). before_first s.extension.low_delay) same in
      let plain : IsPlain may law first (begun_at a at p u.own) = record {
        rules = ap (λ (y : Auditing). y.rules) is ∙ rules;
        header = ap (λ (y : Auditing). y.first) is ∙ ap (λ (s : Sequence). Some s) same;
      } in
      one_more a at_start at p ps es (before_first first.extension.low_delay) u plain begins_so h arrives others
      (λ c next keep more silent. of_later ps c u.next (at + length p) u.rest next turns.1 keep more silent)
    where
      some_is : {s t : Sequence} → Some s ≡ Some t → s ≡ t
      some_is q = cc

  -- Under the rules that every stream has to keep each breach that is told of a stream without a fault, of whose bits' arrival
  -- nothing is remarked, nor of what else stands before first slices, is of a rule that may be broken.
  pub of_text : (text : List ℕ) (tree : Sofar) → Stream text tree → tree.state.first ≡ Some first
      → Keep (before_first first.extension.low_delay) (events tree)
      → (asked : Asked) (number start : ℕ) → asked.rules ≡ sets.Main
      → all_arrivals (nothing number asked start) at_start (first_byte start text) (pieces text) ≡ []
      → all_others (nothing number asked start) at_start (first_byte start text) (pieces text) ≡ []
      → AreOf may (findings_of asked number start text)
  of_text text tree s header h asked number start rules arrives others =
      let r = in_pieces text tree s in
      of_first (pieces text) number start asked (first_byte start text) (events tree) rules (text_begins text) r.turns (sym r.first ∙ header) h arrives others

-- The pieces of a text, read one after another: what holds of each, and that they tell what the whole text does.
use Rattle.std.proofs.Common.{◌≡◌, ℕ, Bool, true, false, List, [], ◌∷◌, ◌++◌, take, Some, None, Ok, inl, inr, refl, sym, ap, subst, ◌∙◌, append_assoc}
use Rattle.std.specs.Prelude.{nat_eq, is_some, if◌then◌else◌}
use Rattle.std.proofs.lemmas.Bool.{cases_Bool, eqb-true}
use Rattle.std.proofs.lemmas.List.{append-nil}
use Rattle.m2v_model.specs.declared.phase.Phase.{Phase}
use Rattle.m2v_model.specs.declared.phase.Phase.TheVariants as phases
use Rattle.m2v_model.specs.declared.state.State.{State}
use Rattle.m2v_model.specs.Units.{Units, cut, joined, AreUnits}
use Rattle.m2v_model.specs.States.{at_first}
use Rattle.m2v_model.specs.Streams.{value_of}
use Rattle.m2v_model.specs.Pictures.{Events}
use Rattle.m2v_model.specs.Pieces.{phase_after, is_end, piece_of, grouped, pieces}
use Rattle.m2v_model.specs.ByPieces.{Between, at_start, units_read}
use Rattle.m2v_audit.proofs.m2v_check.m2v_model.CutLaws.{cut_cuts, cut_units, joined-append, are_before, are_behind, are_code}
use Rattle.m2v_audit.proofs.m2v_check.m2v_model.ShiftLaws.{NoEnds}
use Rattle.m2v_model.proofs.CountLaws.{Told, pictures_told}
use Rattle.m2v_audit.proofs.m2v_check.m2v_model.SplitLaws.{IsKnown, KnownAt, known_at}
use Rattle.m2v_audit.proofs.m2v_check.m2v_model.PieceLaws.{piece_whole, IsOpen, open_after, no_ends-append, sequence_goes}
use Rattle.m2v_audit.proofs.m2v_check.m2v_decode.m2v_dec_rows.UnitGifts.{first_value}
use Rattle.m2v_audit.proofs.m2v_check.Telling.{IsGoodState, Says, units_say}
use Rattle.m2v_audit.proofs.m2v_check.Ordered.{AreOrdered, PictureLast, pieces_ordered, units_ordered}
use Rattle.m2v_audit.specs.Front.{front_of}
use Rattle.m2v_law_audit.proofs.EventsFront.{Fronts, EndsLast, front_is}

-- ---- how a text is cut

-- in each piece an end code stands last
abbrev pub AreEnded : List (List ℕ) → Type 0
AreEnded [] = Unit {0}
AreEnded (p ∷ ps) = EndsLast (cut 0 p).1 × AreEnded ps

-- the first unit of the first piece is of a value
abbrev pub BeginWith : ℕ → List (List ℕ) → Type 0
BeginWith value [] = Unit {0}
BeginWith value (p ∷ ps) = first_value (cut 0 p).1 ≡ Some value

-- the pieces from one on that begins with a unit of a value
abbrev Cut : ℕ → List (List ℕ) → Type 0
Cut value ps = AreEnded ps × BeginWith value ps

no_ends_last : (us : Units) → NoEnds us → EndsLast us
no_ends_last [] n = tt
no_ends_last (u ∷ us) n = (λ on. absurd (let d : true ≡ false = sym on ∙ n.0 in cc), no_ends_last us n.1)

code_last : (us : Units) (code : List ℕ) → NoEnds us → EndsLast (us ++ code ∷ [])
code_last [] code n = (λ on. refl, tt)
code_last (u ∷ us) code n = (λ on. absurd (let d : true ≡ false = sym on ∙ n.0 in cc), code_last us code n.1)

-- a piece of units
piece_cut : (v : List ℕ) (vs : Units) (ps : List (List ℕ)) → AreUnits (v ∷ vs) → EndsLast (v ∷ vs) → AreEnded ps → Cut (value_of v) (joined (v ∷ vs) ∷ ps)
piece_cut v vs ps a e more =
    let is = cut_units (v ∷ vs) a in
    ((subst EndsLast (sym is) e, more), ap first_value is)

abbrev AllCut : Units → Type 0
AllCut us = (phase : Phase) (v : List ℕ) (vs : Units) → IsOpen phase → NoEnds (v ∷ vs) → AreUnits (v ∷ (vs ++ us)) → Cut (value_of v) (grouped phase (joined (v ∷ vs)) us)

-- the piece at hand goes on with a unit
cut_on : (phase : Phase) (v : List ℕ) (vs us : Units) (u : List ℕ) → AllCut us → IsOpen phase → is_end (value_of u) ≡ false → NoEnds (v ∷ vs) → AreUnits (v ∷ (vs ++ u ∷ us)) → Cut (value_of v) (grouped phase (joined (v ∷ vs) ++ u) us)
cut_on phase v vs us u ih o off n a =
    let ws = vs ++ u ∷ [] in
    let e : vs ++ u ∷ us ≡ ws ++ us = sym (append_assoc vs (u ∷ []) us) in
    let bytes : joined (v ∷ ws) ≡ joined (v ∷ vs) ++ u = joined-append (v ∷ vs) (u ∷ []) ∙ ap (λ (l : List ℕ). joined (v ∷ vs) ++ l) (append-nil u) in
    subst (λ (l : List ℕ). Cut (value_of v) (grouped phase l us)) bytes (ih phase v ws o (no_ends-append (v ∷ vs) (u ∷ []) n (off, tt)) (subst (λ (l : Units). AreUnits (v ∷ l)) e a))

headers_cut : (e : Bool) (v : List ℕ) (vs us : Units) (u : List ℕ) → is_end (value_of u) ≡ e → AllCut us → NoEnds (v ∷ vs) → AreUnits (v ∷ (vs ++ u ∷ us))
    → Cut (value_of v) (if e then (joined (v ∷ vs) ++ take 4 u) ∷ [] else grouped (phase_after phases.Headers (value_of u)) (joined (v ∷ vs) ++ u) us)
headers_cut true v vs us u is ih n a =
    let code = take 4 u in
    let bytes : joined (v ∷ (vs ++ code ∷ [])) ≡ joined (v ∷ vs) ++ code = joined-append (v ∷ vs) (code ∷ []) ∙ ap (λ (l : List ℕ). joined (v ∷ vs) ++ l) (append-nil code) in
    subst (λ (l : List ℕ). Cut (value_of v) (l ∷ [])) bytes (piece_cut v (vs ++ code ∷ []) [] (are_code (v ∷ vs) us u a) (code_last (v ∷ vs) code n) tt)
headers_cut false v vs us u is ih n a = cut_on (phase_after phases.Headers (value_of u)) v vs us u ih (open_after (value_of u)) is n a

picture_cut : (e f : Bool) (v : List ℕ) (vs us : Units) (u : List ℕ) → is_end (value_of u) ≡ e → AllCut us → NoEnds (v ∷ vs) → AreUnits (v ∷ (vs ++ u ∷ us))
    → Cut (value_of v) (if e then joined (v ∷ vs) ∷ take 4 u ∷ [] else if f then joined (v ∷ vs) ∷ grouped (phase_after phases.Headers (value_of u)) u us else grouped phases.Picture (joined (v ∷ vs) ++ u) us)
picture_cut true f v vs us u is ih n a =
    let code = take 4 u in
    let own : AreUnits (code ∷ []) = are_behind (v ∷ vs) (code ∷ []) (are_code (v ∷ vs) us u a) in
    let alone = subst (λ (l : List ℕ). Cut (value_of code) (l ∷ [])) (append-nil code) (piece_cut code [] [] own (code_last [] code tt) tt) in
    piece_cut v vs (code ∷ []) (are_before (v ∷ vs) (u ∷ us) a) (no_ends_last (v ∷ vs) n) alone.0
picture_cut false true v vs us u is ih n a =
    let phase = phase_after phases.Headers (value_of u) in
    let more = subst (λ (l : List ℕ). Cut (value_of u) (grouped phase l us)) (append-nil u) (ih phase u [] (open_after (value_of u)) (is, tt) (are_behind (v ∷ vs) (u ∷ us) a)) in
    piece_cut v vs (grouped phase u us) (are_before (v ∷ vs) (u ∷ us) a) (no_ends_last (v ∷ vs) n) more.0
picture_cut false false v vs us u is ih n a = cut_on phases.Picture v vs us u ih tt is n a

last_cut : (v : List ℕ) (vs : Units) → NoEnds (v ∷ vs) → AreUnits (v ∷ (vs ++ [])) → Cut (value_of v) (piece_of (joined (v ∷ vs)))
last_cut v vs n a =
    let own = are_before (v ∷ vs) [] a in
    subst (Cut (value_of v)) (sym (piece_whole v vs own)) (piece_cut v vs [] own (no_ends_last (v ∷ vs) n) tt)

all_cut : (us : Units) → AllCut us
unfolding grouped
all_cut us phases.Before v vs o n a = absurd o
all_cut [] phases.Headers v vs o n a = last_cut v vs n a
all_cut [] phases.Picture v vs o n a = last_cut v vs n a
all_cut (u ∷ us) phases.Headers v vs o n a = headers_cut _ v vs us u refl (all_cut us) n a
all_cut (u ∷ us) phases.Picture v vs o n a = picture_cut _ _ v vs us u refl (all_cut us) n a

first_cut : (e : Bool) (us : Units) (u : List ℕ) → nat_eq (value_of u) 0xB3 ≡ e → Cut 0xB3 (grouped phases.Before [] us) → AreUnits (u ∷ us)
    → Cut 0xB3 (if e then grouped phases.Headers u us else grouped phases.Before [] us)
first_cut true us u is ih a =
    let off = sequence_goes (value_of u) is in
    subst (λ (v : ℕ). Cut v (grouped phases.Headers u us)) (eqb-true (value_of u) 0xB3 is)
    (subst (λ (l : List ℕ). Cut (value_of u) (grouped phases.Headers l us)) (append-nil u) (all_cut us phases.Headers u [] tt (off, tt) a))
first_cut false us u is ih a = ih

before_cut : (us : Units) → AreUnits us → Cut 0xB3 (grouped phases.Before [] us)
unfolding grouped
before_cut [] a = (tt, tt)
before_cut (u ∷ us) a = first_cut _ us u refl (before_cut us a.3) a

-- A text's first piece begins with a sequence header.
pub text_begins : (text : List ℕ) → BeginWith 0xB3 (pieces text)
text_begins text = (before_cut (cut 0 text).1 (cut_cuts text).are_units).1

-- ---- pieces that come next

abbrev pub KnownFirst : State → List (List ℕ) → Type 0
KnownFirst st [] = Unit {0}
KnownFirst st (p ∷ ps) = KnownAt st (cut 0 p).1

-- what stands between two pieces of a text
pub record AreReady (b : Between) (ps : List (List ℕ)) : Type 0 where
  pub good : IsGoodState b.state
  pub shut : b.state.picture ≡ None
  pub ordered : AreOrdered ps
  pub ends : AreEnded ps
  pub known : KnownFirst b.state ps

known_value : (st : State) (us : Units) → first_value us ≡ Some 0xB3 → KnownAt st us
known_value st [] e = absurd cc
known_value st (u ∷ us) e =
    let same : value_of u ≡ 0xB3 = cc in
    let on : nat_eq (value_of u) 0xB3 ≡ true = ap (λ (v : ℕ). nat_eq v 0xB3) same in
    elim (cases_Bool (is_some st.sequence)) [
      | inl some ↦ rw some refl
      | inr none ↦ rw (none, on) refl
    ]

first_known : (st : State) (ps : List (List ℕ)) → BeginWith 0xB3 ps → KnownFirst st ps
first_known st [] h = tt
first_known st (p ∷ ps) h = known_value st (cut 0 p).1 h

later_known : (st : State) (ps : List (List ℕ)) → IsKnown st → KnownFirst st ps
later_known st [] k = tt
later_known st (p ∷ ps) k = known_at st (cut 0 p).1 k

pub all_ready : (text : List ℕ) → AreReady at_start (pieces text)
all_ready text =
    let c = before_cut (cut 0 text).1 (cut_cuts text).are_units in
    record { good = tt; shut = refl; ordered = pieces_ordered text; ends = c.0; known = first_known at_first (pieces text) c.1 }

-- a piece was read
pub record PieceSays (b : Between) (p : List ℕ) (ps : List (List ℕ)) (es : Events) (next : Between) : Type 0 where
  pub says : Says b.state es next.state
  pub last : PictureLast es
  pub fronts : (place : ℕ) → Fronts (front_of place p) es
  pub ready : AreReady next ps

pub piece_says : (b : Between) (p : List ℕ) (ps : List (List ℕ)) (es : Events) (next : Between) → AreReady b (p ∷ ps) → units_read b (cut 0 p).1 ≡ Ok (es, next) → PieceSays b p ps es next
piece_says b p ps es next r e =
    let us = (cut 0 p).1 in
    let s = units_say b us es next e r.good in
    record {
      says = s.0;
      last = units_ordered b us es next e r.ordered.0 r.shut;
      fronts = λ place. front_is b p es next place e r.known r.ordered.0 r.ends.0 r.shut;
      ready = record { good = s.0.good; shut = s.1; ordered = r.ordered.1; ends = r.ends.1; known = later_known next.state ps (subst (Told b us) e (pictures_told b us r.known)).2 };
    }

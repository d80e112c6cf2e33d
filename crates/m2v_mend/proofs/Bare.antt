-- The pieces that a cutter hands out of a stretch, without what stands before its first unit and without its end code, are the
-- pieces of the stretch.
use Rattle.std.proofs.Common.{◌≡◌, ℕ, ◌≤◌, Bool, true, false, List, [], ◌∷◌, ◌++◌, length, take, drop, inl, inr, refl, sym, ap, subst, ◌∙◌, append_assoc, append-nil, arith}
use Rattle.std.specs.Prelude.{nat_eq, if◌then◌else◌}
use Rattle.std.proofs.lemmas.Bool.{cases_Bool}
use Rattle.std.proofs.lemmas.List.{take-append-drop, length-append}
use Rattle.m2v_model.specs.declared.phase.Phase.{Phase}
use Rattle.m2v_model.specs.declared.phase.Phase.TheVariants.{Before, Headers, Picture}
use Rattle.m2v_model.specs.Units.{Units, cut, joined, Clear, AreUnits, Cuts}
use Rattle.m2v_model.specs.Streams.{value_of}
use Rattle.m2v_model.specs.Pieces.{phase_after, begins_piece, is_end, piece_of, grouped}
use Rattle.m2v_model.proofs.CutLaws.{cut_cuts, cuts_is, clear_front, joined-append, are_before, are_behind, are_code}
use Rattle.m2v_model.proofs.PieceLaws.{value_code}
use Rattle.m2v_model.proofs.ShiftLaws.{NoEnds}
use Rattle.m2v_law_seam.proofs.There.{more_goes}
use Rattle.m2v_law_seam.proofs.Whole.{end_here, end_later}
use Rattle.m2v_law_seam.proofs.Twice.{up_to_end}
use Rattle.m2v_law_group.specs.Groups.{to_end}
use Rattle.m2v_mend.specs.Feeding.{bare, bare_pieces}

-- ---- units before an end code

pub before_none : (vs : Units) → NoEnds vs → to_end vs ≡ vs
unfolding to_end
before_none [] n = refl
before_none (v ∷ vs) n = rw (n.0) (ap (λ (l : Units). v ∷ l) (before_none vs n.1))

-- ---- bytes before the first unit

-- units behind such bytes, of which some may belong to later pieces
pub record At (j : List ℕ) (vs us : Units) : Type 0 where
  pub clear : Clear 0 j (joined (vs ++ us))
  pub are : AreUnits (vs ++ us)
  pub none : NoEnds vs

pub at_clear : (j : List ℕ) (vs us : Units) → Clear 0 j (joined (vs ++ us)) → Clear 0 j (joined vs)
at_clear j vs us h = clear_front 0 j (joined vs) (joined us) (subst (Clear 0 j) (joined-append vs us) h)

-- a piece that ends before other units
pub front_cuts : (j : List ℕ) (vs us : Units) → At j vs us → Cuts (j ++ joined vs) j vs
front_cuts j vs us at = record { whole = refl; front_clear = at_clear j vs us at.clear; are_units = are_before vs us at.are }

pub bare_front : (j : List ℕ) (vs us : Units) → At j vs us → bare (j ++ joined vs) ≡ joined vs
bare_front j vs us at = ap (λ (x : List ℕ × Units). joined (to_end x.1)) (cuts_is (j ++ joined vs) j vs (front_cuts j vs us at)) ∙ ap joined (before_none vs at.none)

-- one that ends with an end code
pub code_cuts : (j : List ℕ) (vs : Units) (u : List ℕ) (us : Units) → At j vs (u ∷ us) → Cuts ((j ++ joined vs) ++ take 4 u) j (vs ++ take 4 u ∷ [])
code_cuts j vs u us at =
    let code = vs ++ take 4 u ∷ [] in
    let same : joined code ≡ joined vs ++ take 4 u = joined-append vs (take 4 u ∷ []) ∙ ap (λ (l : List ℕ). joined vs ++ l) (append-nil (take 4 u)) in
    let bytes : (j ++ joined vs) ++ take 4 u ≡ j ++ joined code = append_assoc j (joined vs) (take 4 u) ∙ ap (λ (l : List ℕ). j ++ l) (sym same) in
    let whole : joined (vs ++ u ∷ us) ≡ joined code ++ (drop 4 u ++ joined us) =
    joined-append vs (u ∷ us)
    ∙ ap (λ (l : List ℕ). joined vs ++ (l ++ joined us)) (sym (take-append-drop 4 u))
    ∙ ap (λ (l : List ℕ). joined vs ++ l) (append_assoc (take 4 u) (drop 4 u) (joined us))
    ∙ sym (append_assoc (joined vs) (take 4 u) (drop 4 u ++ joined us))
    ∙ ap (λ (l : List ℕ). l ++ (drop 4 u ++ joined us)) (sym same) in
    record {
      whole = bytes;
      front_clear = clear_front 0 j (joined code) (drop 4 u ++ joined us) (subst (Clear 0 j) whole at.clear);
      are_units = are_code vs us u at.are;
    }

pub bare_code : (j : List ℕ) (vs : Units) (u : List ℕ) (us : Units) → At j vs (u ∷ us) → is_end (value_of u) ≡ true → bare ((j ++ joined vs) ++ take 4 u) ≡ joined vs
bare_code j vs u us at on =
    let last : is_end (value_of (take 4 u)) ≡ true = ap is_end (value_code u) ∙ on in
    ap (λ (x : List ℕ × Units). joined (to_end x.1)) (cuts_is _ j (vs ++ take 4 u ∷ []) (code_cuts j vs u us at)) ∙ ap joined (up_to_end vs (take 4 u) at.none last)

-- ---- pieces

pub bare_none : bare [] ≡ []
unfolding cut to_end
bare_none = refl

bare_one : (w : List ℕ) → bare_pieces (piece_of w) ≡ piece_of (bare w)
unfolding bare_pieces
bare_one [] = ap piece_of (sym bare_none)
bare_one (b ∷ w) = append-nil (piece_of (bare (b ∷ w)))

pub bare_first : (w : List ℕ) (ws : List (List ℕ)) → bare_pieces (w ∷ ws) ≡ piece_of (bare w) ++ bare_pieces ws
unfolding bare_pieces
bare_first w ws = refl

pub no_pieces : bare_pieces [] ≡ []
unfolding bare_pieces
no_pieces = refl

bare_one_piece : (w : List ℕ) → bare_pieces (w ∷ []) ≡ piece_of (bare w)
unfolding bare_pieces
bare_one_piece w = append-nil (piece_of (bare w))

pub some_piece : (w : List ℕ) → 1 ≤ length w → piece_of w ≡ w ∷ []
some_piece [] le = absurd (omega (arith, le))
some_piece (b ∷ w) le = refl

-- what is known of the bytes of a piece in its phase
abbrev pub IsOpen : Phase → List ℕ → Type 0
IsOpen Before w = ⊥
IsOpen Headers w = Unit {0}
IsOpen Picture w = 1 ≤ length w

pub open_after : (value : ℕ) (w : List ℕ) → 1 ≤ length w → IsOpen (phase_after Headers value) w
unfolding phase_after
open_after value w le = by_case (nat_eq value 0x00)
  where
    by_case : (b : Bool) → IsOpen (if b then Picture else Headers) w
    by_case true = le
    by_case false = tt

pub grown : (j : List ℕ) (vs : Units) (u : List ℕ) → (j ++ joined vs) ++ u ≡ j ++ joined (vs ++ u ∷ [])
grown j vs u =
    append_assoc j (joined vs) u
    ∙ ap (λ (l : List ℕ). j ++ (joined vs ++ l)) (sym (append-nil u))
    ∙ ap (λ (l : List ℕ). j ++ l) (sym (joined-append vs (u ∷ [])))

pub at_more : (j : List ℕ) (vs : Units) (u : List ℕ) (us : Units) → At j vs (u ∷ us) → is_end (value_of u) ≡ false → At j (vs ++ u ∷ []) us
at_more j vs u us at off =
    let same : vs ++ u ∷ us ≡ (vs ++ u ∷ []) ++ us = sym (append_assoc vs (u ∷ []) us) in
    record {
      clear = subst (λ (l : Units). Clear 0 j (joined l)) same at.clear;
      are = subst AreUnits same at.are;
      none = more_goes vs u at.none off;
    }

pub at_begin : (vs : Units) (u : List ℕ) (us : Units) → AreUnits (vs ++ u ∷ us) → is_end (value_of u) ≡ false → At [] (u ∷ []) us
at_begin vs u us are off = record { clear = λ i le lt. absurd (omega (arith, lt)); are = are_behind vs (u ∷ us) are; none = (off, tt) }

pub unit_long : (vs : Units) (u : List ℕ) (us : Units) → AreUnits (vs ++ u ∷ us) → 4 ≤ length u
unit_long vs u us are = (are_behind vs (u ∷ us) are).0

-- bytes that grow by a unit, on both sides
by_growth : (phase : Phase) (j : List ℕ) (vs : Units) (u : List ℕ) (us : Units)
    → bare_pieces (grouped phase (j ++ joined (vs ++ u ∷ [])) us) ≡ grouped phase (joined (vs ++ u ∷ [])) (to_end us)
    → bare_pieces (grouped phase ((j ++ joined vs) ++ u) us) ≡ grouped phase (joined vs ++ u) (to_end us)
by_growth phase j vs u us h =
    ap (λ (x : List ℕ). bare_pieces (grouped phase x us)) (grown j vs u) ∙ h ∙ ap (λ (x : List ℕ). grouped phase x (to_end us)) (sym (grown [] vs u))

pub long_more : (vs : Units) (u : List ℕ) → 4 ≤ length u → 1 ≤ length (joined (vs ++ u ∷ []))
long_more vs u le = omega (arith, le, ap length (grown [] vs u), length-append (joined vs) u)

-- what holds of the units behind, whatever phase they are in
abbrev Later : Units → Type 0
Later us =
    (phase : Phase) (j : List ℕ) (vs : Units) → IsOpen phase (joined vs) → At j vs us
    → bare_pieces (grouped phase (j ++ joined vs) us) ≡ grouped phase (joined vs) (to_end us)

-- before the picture of a piece
in_headers : (u : List ℕ) (us : Units) (j : List ℕ) (vs : Units) → At j vs (u ∷ us) → Later us
    → bare_pieces (grouped Headers (j ++ joined vs) (u ∷ us)) ≡ grouped Headers (joined vs) (to_end (u ∷ us))
unfolding grouped
in_headers u us j vs at later =
    elim (cases_Bool (is_end (value_of u))) [
      | inl on ↦
          rw (on, end_here u us on) (bare_one_piece ((j ++ joined vs) ++ take 4 u) ∙ ap piece_of (bare_code j vs u us at on))
      | inr off ↦
          let phase = phase_after Headers (value_of u) in
          let le = unit_long vs u us at.are in
          let next = later phase j (vs ++ u ∷ []) (open_after (value_of u) (joined (vs ++ u ∷ [])) (long_more vs u le)) (at_more j vs u us at off) in
          rw (off, end_later u us off, off) (by_growth phase j vs u us next)
    ]

-- behind it
in_picture : (u : List ℕ) (us : Units) (j : List ℕ) (vs : Units) → 1 ≤ length (joined vs) → At j vs (u ∷ us) → Later us
    → bare_pieces (grouped Picture (j ++ joined vs) (u ∷ us)) ≡ grouped Picture (joined vs) (to_end (u ∷ us))
unfolding grouped
in_picture u us j vs some at later =
    elim (cases_Bool (is_end (value_of u))) [
      | inl on ↦
          let alone : At [] [] (u ∷ us) = record { clear = λ i le lt. absurd (omega (arith, lt)); are = are_behind vs (u ∷ us) at.are; none = tt } in
          let code : bare (take 4 u) ≡ [] = bare_code [] [] u us alone on in
          rw (on, end_here u us on) (bare_first (j ++ joined vs) (take 4 u ∷ [])
          ∙ ap (λ (l : List (List ℕ)). piece_of (bare (j ++ joined vs)) ++ l) (bare_one_piece (take 4 u) ∙ ap piece_of code)
          ∙ append-nil (piece_of (bare (j ++ joined vs)))
          ∙ ap piece_of (bare_front j vs (u ∷ us) at))
      | inr off ↦ elim (cases_Bool (begins_piece (value_of u))) [
        | inl on ↦
            let phase = phase_after Headers (value_of u) in
            let le = unit_long vs u us at.are in
            let one : u ++ [] ≡ u = append-nil u in
            let next = later phase [] (u ∷ []) (open_after (value_of u) (joined (u ∷ [])) (omega (arith, le, ap length one))) (at_begin vs u us at.are off) in
            let next' : bare_pieces (grouped phase u us) ≡ grouped phase u (to_end us) = subst (λ (x : List ℕ). bare_pieces (grouped phase x us) ≡ grouped phase x (to_end us)) one next in
            rw (off, end_later u us off, off, on) (bare_first (j ++ joined vs) (grouped phase u us)
            ∙ ap (λ (w : List ℕ). piece_of w ++ bare_pieces (grouped phase u us)) (bare_front j vs (u ∷ us) at)
            ∙ ap (λ (l : List (List ℕ)). l ++ bare_pieces (grouped phase u us)) (some_piece (joined vs) some)
            ∙ ap (λ (l : List (List ℕ)). joined vs ∷ l) next')
        | inr none ↦
            let le = unit_long vs u us at.are in
            let next = later Picture j (vs ++ u ∷ []) (long_more vs u le) (at_more j vs u us at off) in
            rw (off, end_later u us off, off, none) (by_growth Picture j vs u us next)
      ]
    ]

-- the units of a stretch, behind the first ones of a piece
bared : (us : Units) → Later us
unfolding grouped to_end
bared [] Before j vs some at = absurd some
bared [] Headers j vs some at = bare_one (j ++ joined vs) ∙ ap piece_of (bare_front j vs [] at)
bared [] Picture j vs some at = bare_one (j ++ joined vs) ∙ ap piece_of (bare_front j vs [] at)
bared (u ∷ us) Before j vs some at = absurd some
bared (u ∷ us) Headers j vs some at = in_headers u us j vs at (bared us)
bared (u ∷ us) Picture j vs some at = in_picture u us j vs some at (bared us)

-- the pieces of a text, as they are cut from its first byte on
pub text_bared : (text : List ℕ) → bare_pieces (grouped Headers (cut 0 text).0 (cut 0 text).1) ≡ grouped Headers [] (to_end (cut 0 text).1)
text_bared text =
    let cuts = cut_cuts text in
    let at : At (cut 0 text).0 [] (cut 0 text).1 = record { clear = cuts.front_clear; are = cuts.are_units; none = tt } in
    ap (λ (x : List ℕ). bare_pieces (grouped Headers x (cut 0 text).1)) (sym (append-nil (cut 0 text).0)) ∙ bared (cut 0 text).1 Headers (cut 0 text).0 [] tt at

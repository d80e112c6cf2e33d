-- The pieces that a cutter hands out of a stretch lie one behind another, also without what stands before the first unit.
use Rattle.std.proofs.Common.{◌≡◌, ℕ, ◌+◌, ◌≤◌, true, List, [], ◌∷◌, ◌++◌, length, take, inl, inr, refl, sym, ap, subst, append-nil, arith}
use Rattle.std.proofs.lemmas.Bool.{cases_Bool}
use Rattle.std.proofs.lemmas.List.{length-append}
use Rattle.m2v_model.specs.declared.phase.Phase.{Phase}
use Rattle.m2v_model.specs.declared.phase.Phase.TheVariants.{Before, Headers, Picture}
use Rattle.m2v_model.specs.Units.{Units, cut, joined}
use Rattle.m2v_model.specs.Streams.{value_of}
use Rattle.m2v_model.specs.Pieces.{phase_after, begins_piece, is_end, piece_of, grouped}
use Rattle.m2v_model.proofs.CutLaws.{cut_cuts, cuts_is, are_behind}
use Rattle.m2v_mend.specs.Feeding.{bare}
use Rattle.m2v_mend.specs.Stretching.{Lie}
use Rattle.m2v_mend.proofs.Bare.{At, IsOpen, bare_front, bare_code, bare_none, open_after, at_more, at_begin, unit_long, long_more, grown, front_cuts, code_cuts}

-- what stands before the first unit of a piece
front_of : (j : List ℕ) (vs us : Units) → At j vs us → (cut 0 (j ++ joined vs)).0 ≡ j
front_of j vs us at = ap (λ (x : List ℕ × Units). x.0) (cuts_is (j ++ joined vs) j vs (front_cuts j vs us at))

-- of one that ends with an end code
code_front : (j : List ℕ) (vs : Units) (u : List ℕ) (us : Units) → At j vs (u ∷ us) → (cut 0 ((j ++ joined vs) ++ take 4 u)).0 ≡ j
code_front j vs u us at = ap (λ (x : List ℕ × Units). x.0) (cuts_is _ j (vs ++ take 4 u ∷ []) (code_cuts j vs u us at))

-- one piece, and no other behind it
record Alone (start at : ℕ) (w : List ℕ) : Type 0 where
  here : start + length (cut 0 w).0 ≡ at
  within : at + length (bare w) ≤ start + length w

lie_one : (start at : ℕ) (w : List ℕ) → Alone start at w → Lie start at (piece_of w)
lie_one start at [] a = omega (arith, a.within, ap length bare_none)
lie_one start at (b ∷ w) a = (a.here, a.within)

alone_front : (start at : ℕ) (j : List ℕ) (vs us : Units) → start + length j ≡ at → At j vs us → Alone start at (j ++ joined vs)
alone_front start at j vs us sum h =
    let f = ap length (front_of j vs us h) in
    let b = ap length (bare_front j vs us h) in
    record { here = omega (arith, sum, f); within = omega (arith, sum, b, length-append j (joined vs)) }

alone_code : (start at : ℕ) (j : List ℕ) (vs : Units) (u : List ℕ) (us : Units) → start + length j ≡ at → At j vs (u ∷ us) → is_end (value_of u) ≡ true → Alone start at ((j ++ joined vs) ++ take 4 u)
alone_code start at j vs u us sum h on =
    let f = ap length (code_front j vs u us h) in
    let b = ap length (bare_code j vs u us h on) in
    record { here = omega (arith, sum, f); within = omega (arith, sum, b, length-append (j ++ joined vs) (take 4 u), length-append j (joined vs)) }

-- one piece, and others behind it
lie_first : (start at : ℕ) (j : List ℕ) (vs us : Units) (ws : List (List ℕ)) → start + length j ≡ at → At j vs us
    → ((start' at' : ℕ) → start' ≡ at' → Lie start' at' ws) → Lie start at ((j ++ joined vs) ∷ ws)
lie_first start at j vs us ws sum h next =
    let f = ap length (front_of j vs us h) in
    let b = ap length (bare_front j vs us h) in
    (omega (arith, sum, f), next (start + length (j ++ joined vs)) (at + length (bare (j ++ joined vs))) (omega (arith, sum, b, length-append j (joined vs))))

-- what holds of the units behind, whatever phase they are in
abbrev Later : Units → Type 0
Later us =
    (phase : Phase) (j : List ℕ) (vs : Units) (start at : ℕ) → IsOpen phase (joined vs) → At j vs us → start + length j ≡ at
    → Lie start at (grouped phase (j ++ joined vs) us)

by_growth : (phase : Phase) (j : List ℕ) (vs : Units) (u : List ℕ) (us : Units) (start at : ℕ)
    → Lie start at (grouped phase (j ++ joined (vs ++ u ∷ [])) us) → Lie start at (grouped phase ((j ++ joined vs) ++ u) us)
by_growth phase j vs u us start at h = subst (λ (x : List ℕ). Lie start at (grouped phase x us)) (sym (grown j vs u)) h

-- what then holds behind a unit in a phase
abbrev InPhase : Phase → Type 0
InPhase phase =
    (u : List ℕ) (us : Units) (j : List ℕ) (vs : Units) (start at : ℕ) → At j vs (u ∷ us) → start + length j ≡ at → Later us
    → Lie start at (grouped phase (j ++ joined vs) (u ∷ us))

in_headers : InPhase Headers
unfolding grouped
in_headers u us j vs start at h sum later =
    elim (cases_Bool (is_end (value_of u))) [
      | inl on ↦
          let a = alone_code start at j vs u us sum h on in
          rw on (a.here, a.within)
      | inr off ↦
          let phase = phase_after Headers (value_of u) in
          let le = unit_long vs u us h.are in
          rw off (by_growth phase j vs u us start at (later phase j (vs ++ u ∷ []) start at (open_after (value_of u) (joined (vs ++ u ∷ [])) (long_more vs u le)) (at_more j vs u us h off) sum))
    ]

in_picture : InPhase Picture
unfolding grouped
in_picture u us j vs start at h sum later =
    elim (cases_Bool (is_end (value_of u))) [
      | inl on ↦
          let alone : At [] [] (u ∷ us) = record { clear = λ i le lt. absurd (omega (arith, lt)); are = are_behind vs (u ∷ us) h.are; none = tt } in
          rw on (lie_first start at j vs (u ∷ us) (take 4 u ∷ []) sum h (λ s a e. let x = alone_code s a [] [] u us (omega (arith, e)) alone on in (x.here, x.within)))
      | inr off ↦ elim (cases_Bool (begins_piece (value_of u))) [
        | inl on ↦
            let phase = phase_after Headers (value_of u) in
            let le = unit_long vs u us h.are in
            let one : u ++ [] ≡ u = append-nil u in
            rw (off, on) (lie_first start at j vs (u ∷ us) (grouped phase u us) sum h (λ s a e.
            subst (λ (x : List ℕ). Lie s a (grouped phase x us)) one (later phase [] (u ∷ []) s a (open_after (value_of u) (joined (u ∷ [])) (omega (arith, le, ap length one))) (at_begin vs u us h.are off) (omega (arith, e)))))
        | inr none ↦
            let le = unit_long vs u us h.are in
            rw (off, none) (by_growth Picture j vs u us start at (later Picture j (vs ++ u ∷ []) start at (long_more vs u le) (at_more j vs u us h off) sum))
      ]
    ]

lying : (us : Units) → Later us
unfolding grouped
lying [] Before j vs start at some h sum = absurd some
lying [] Headers j vs start at some h sum = lie_one start at (j ++ joined vs) (alone_front start at j vs [] sum h)
lying [] Picture j vs start at some h sum = lie_one start at (j ++ joined vs) (alone_front start at j vs [] sum h)
lying (u ∷ us) Before j vs start at some h sum = absurd some
lying (u ∷ us) Headers j vs start at some h sum = in_headers u us j vs start at h sum (lying us)
lying (u ∷ us) Picture j vs start at some h sum = in_picture u us j vs start at h sum (lying us)

-- the pieces of a text, as they are cut from its first byte on
pub text_lies : (text : List ℕ) (start : ℕ) → Lie start (start + length (cut 0 text).0) (grouped Headers (cut 0 text).0 (cut 0 text).1)
text_lies text start =
    let cuts = cut_cuts text in
    let at : At (cut 0 text).0 [] (cut 0 text).1 = record { clear = cuts.front_clear; are = cuts.are_units; none = tt } in
    subst (λ (x : List ℕ). Lie start (start + length (cut 0 text).0) (grouped Headers x (cut 0 text).1)) (append-nil (cut 0 text).0)
    (lying (cut 0 text).1 Headers (cut 0 text).0 [] start (start + length (cut 0 text).0) tt at refl)

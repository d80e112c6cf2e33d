-- What follows the sequence of a text, byte by byte.
use Rattle.std.proofs.Common.{◌≡◌, ℕ, zero, suc, ◌≤◌, Bool, true, false, List, [], ◌∷◌, ◌++◌, refl, sym, ap, ◌∙◌, arith}
use Rattle.std.specs.Prelude.{nat_eq, if◌then◌else◌}
use Rattle.m2v_model.specs.declared.phase.Phase.{Phase}
use Rattle.m2v_model.specs.declared.phase.Phase.TheVariants.{Before, Headers, Picture}
use Rattle.m2v_model.specs.Units.{Units, begins_code, cut}
use Rattle.m2v_model.specs.Pieces.{is_end, phase_after}
use Rattle.m2v_model.proofs.CutLaws.{cut_cuts}
use Rattle.m2v_dec_piece.specs.Following.{following, following_in, text_after}
use Rattle.m2v_dec_piece.specs.Cutting.{GoesOn, is_begun, phase_behind, prefix}
use Rattle.m2v_dec_piece.proofs.PieceLaws.{cut_plain, cut_code, no_code_0, no_code_1, no_code_2, no_end}

-- ---- byte by byte

plain_follows : (begun : Bool) (b : ℕ) (t : List ℕ) → begins_code (b ∷ t) ≡ false → following_in begun (b ∷ t) ≡ following_in begun t
plain_follows begun b t off = ap (λ (x : List ℕ × Units). following begun x.1) (cut_plain b t off)

at_code : (begun : Bool) (v : ℕ) (t : List ℕ) → following_in begun (0 ∷ 0 ∷ 1 ∷ v ∷ t) ≡ following begun ((0 ∷ 0 ∷ 1 ∷ v ∷ (cut 0 t).0) ∷ (cut 0 t).1)
at_code begun v t = ap (λ (x : List ℕ × Units). following begun x.1) (cut_code v t)

-- the first sequence header
pub follows_first : (t : List ℕ) → following_in false (0 ∷ 0 ∷ 1 ∷ 0xB3 ∷ t) ≡ following_in true (0 ∷ 0 ∷ 1 ∷ 0xB3 ∷ t)
unfolding following is_end
follows_first t = at_code false 0xB3 t ∙ sym (at_code true 0xB3 t)

-- the end code
pub follows_end : (t : List ℕ) → following_in true (0 ∷ 0 ∷ 1 ∷ 0xB7 ∷ t) ≡ t
unfolding following is_end
follows_end t = at_code true 0xB7 t ∙ sym (cut_cuts t).whole

begun_after : (v : ℕ) → is_begun (phase_after Headers v) ≡ true
unfolding phase_after
begun_after v = by_case (nat_eq v 0)
  where
    by_case : (b : Bool) → is_begun (if b then Picture else Headers) ≡ true
    by_case true = refl
    by_case false = refl

-- any other unit
pub follows_unit : (phase : Phase) (v : ℕ) (t : List ℕ) → GoesOn phase v → following_in (is_begun phase) (0 ∷ 0 ∷ 1 ∷ v ∷ t) ≡ following_in (is_begun (phase_behind phase v)) t
unfolding following
follows_unit Before v t goes = at_code false v t ∙ ap (λ (b : Bool). following b (cut 0 t).1) goes
follows_unit Headers v t goes = at_code true v t ∙ rw goes (ap (λ (b : Bool). following b (cut 0 t).1) (sym (begun_after v)))
follows_unit Picture v t goes = let end = no_end v goes in at_code true v t ∙ rw end refl

-- a third zero
pub follows_zero : (begun : Bool) (t : List ℕ) → following_in begun (0 ∷ 0 ∷ 0 ∷ t) ≡ following_in begun (0 ∷ 0 ∷ t)
follows_zero begun t = plain_follows begun 0 (0 ∷ 0 ∷ t) (no_code_2 0 t refl)

-- a byte that ends a prefix which is none
pub follows_other : (begun : Bool) (ahead b : ℕ) (t : List ℕ) → ahead ≤ 2 → nat_eq b 0 ≡ false → (ahead ≡ 2 → nat_eq b 1 ≡ false) → following_in begun (prefix ahead ++ (b ∷ t)) ≡ following_in begun t
follows_other begun zero b t le some one = plain_follows begun b t (no_code_0 b t some)
follows_other begun (suc zero) b t le some one = plain_follows begun 0 (b ∷ t) (no_code_1 b t some) ∙ plain_follows begun b t (no_code_0 b t some)
follows_other begun (suc (suc zero)) b t le some one =
    plain_follows begun 0 (0 ∷ b ∷ t) (no_code_2 b t (one refl))
    ∙ plain_follows begun 0 (b ∷ t) (no_code_1 b t some)
    ∙ plain_follows begun b t (no_code_0 b t some)
follows_other begun (suc (suc (suc n))) b t le some one = absurd (omega arith)

no_units : (begun : Bool) → following begun [] ≡ []
unfolding following
no_units true = refl
no_units false = refl

-- the end of the text
pub follows_none : (begun : Bool) (ahead : ℕ) → ahead ≤ 3 → following_in begun (prefix ahead ++ []) ≡ []
unfolding cut
follows_none begun zero le = no_units begun
follows_none begun (suc zero) le = no_units begun
follows_none begun (suc (suc zero)) le = no_units begun
follows_none begun (suc (suc (suc zero))) le = no_units begun
follows_none begun (suc (suc (suc (suc n)))) le = absurd (omega arith)

-- ---- worked

-- a sequence header, the end code, and others behind it
two_sequences : text_after (0 ∷ 0 ∷ 1 ∷ 0xB3 ∷ 5 ∷ 0 ∷ 0 ∷ 1 ∷ 0xB7 ∷ 7 ∷ 0 ∷ 0 ∷ 1 ∷ 0xB3 ∷ 0 ∷ 0 ∷ 1 ∷ 0xB7 ∷ []) ≡ 7 ∷ 0 ∷ 0 ∷ 1 ∷ 0xB3 ∷ 0 ∷ 0 ∷ 1 ∷ 0xB7 ∷ []
unfolding following cut is_end
two_sequences = refl

-- an end code before the first sequence header ends nothing
end_before : text_after (0 ∷ 0 ∷ 1 ∷ 0xB7 ∷ 0 ∷ 0 ∷ 1 ∷ 0xB3 ∷ 0 ∷ 0 ∷ 1 ∷ 0 ∷ 9 ∷ 0 ∷ 0 ∷ 1 ∷ 0xB7 ∷ 8 ∷ []) ≡ 8 ∷ []
unfolding following cut is_end
end_before = refl

-- behind no sequence nothing follows, and behind none that ends
no_header : text_after (0 ∷ 0 ∷ 1 ∷ 0xB7 ∷ 0 ∷ 0 ∷ 1 ∷ 0xB7 ∷ 6 ∷ []) ≡ []
unfolding following cut is_end
no_header = refl

no_end_code : text_after (0 ∷ 0 ∷ 1 ∷ 0xB3 ∷ 5 ∷ 0 ∷ 0 ∷ 1 ∷ 0xB8 ∷ 0 ∷ 0 ∷ 1 ∷ []) ≡ []
unfolding following cut is_end
no_end_code = refl

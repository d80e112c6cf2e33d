-- Which limit a text passes, as its pieces are read.
use Rattle.std.proofs.Common.{◌≡◌, ℕ, zero, suc, ◌+◌, ◌^◌, ◌≤◌, true, List, [], ◌∷◌, length, Option, Some, None, inl, inr, refl, sym, ap, ◌∙◌, arith}
use Rattle.std.proofs.lemmas.List.{length-append}
use Rattle.m2v_model.specs.Units.{cut, joined}
use Rattle.m2v_model.specs.Pieces.{grouped, limit, Limit, too_long, too_large}
use Rattle.m2v_model.specs.ByPieces.{end_of}
use Rattle.m2v_decode.specs.m2v_dec_piece.Cutting.{Passes, PieceStops}
use Rattle.m2v_decode.specs.m2v_dec_piece.declared.answer.DecodeError.TheVariants as reading
use Rattle.m2v_decode.specs.m2v_dec_piece.Following.{following, following_in}
use Rattle.m2v_mend.specs.Answers.{pieces_ahead, first_limit, limit_among, limit_from}
use Rattle.m2v_mend.proofs.Stretched.{follows_less}

-- ---- pieces

-- a piece that fits
pub among_on : (at : ℕ) (p : List ℕ) (ps : List (List ℕ)) → limit at 0 p ≡ None → limit_among at (p ∷ ps) ≡ limit_among (at + length p) ps
unfolding limit_among
among_on at p ps fits = ap (λ (o : Option Limit). first_limit o (limit_among (at + length p) ps)) fits

pub among_none : (at : ℕ) → limit_among at [] ≡ None
unfolding limit_among
among_none at = refl

-- one that doesn't
among_passes : (at : ℕ) (pieces : List (List ℕ)) (l : Limit) → Passes at l pieces → limit_among at pieces ≡ Some l
unfolding limit_among
among_passes at pieces l p =
    ap (limit_among at) p.are ∙ ap (λ (o : Option Limit). first_limit o (limit_among (at + length p.whole) p.others)) p.decides

pub among_long : (at : ℕ) (pieces : List (List ℕ)) → at ≤ 2 ^ 36 → PieceStops at pieces reading.TooLong → limit_among at pieces ≡ Some too_long
among_long at pieces le (inl far) = absurd (omega (arith, le, far))
among_long at pieces le (inr p) = among_passes at pieces too_long p

pub among_large : (at : ℕ) (pieces : List (List ℕ)) → PieceStops at pieces reading.PictureTooLarge → limit_among at pieces ≡ Some too_large
among_large at pieces p = among_passes at pieces too_large p

pub end_is : (at : ℕ) (ps : List (List ℕ)) → end_of at ps ≡ at + length (joined ps)
unfolding end_of
end_is at [] = omega (arith)
end_is at (p ∷ ps) = let i = end_is (at + length p) ps in omega (arith, i, length-append p (joined ps))

-- ---- texts

-- nothing left passes no limit
ahead_none : pieces_ahead [] ≡ []
unfolding cut grouped
ahead_none = refl

follows_none : following_in true [] ≡ []
unfolding cut following
follows_none = refl

pub limit_none : (n at : ℕ) → limit_from n at [] ≡ None
unfolding limit_from
limit_none zero at = refl
limit_none (suc n) at =
    ap (λ (ps : List (List ℕ)). first_limit (limit_among at ps) (limit_from n (end_of at ps) (following_in true []))) ahead_none
    ∙ ap (λ (t : List ℕ). first_limit (limit_among at []) (limit_from n (end_of at []) t)) follows_none
    ∙ ap (λ (o : Option Limit). first_limit o (limit_from n (end_of at []) [])) (among_none at) ∙ limit_none n (end_of at [])

limit_step : (n at : ℕ) (text : List ℕ) → limit_from (suc n) at text ≡ first_limit (limit_among at (pieces_ahead text)) (limit_from n (end_of at (pieces_ahead text)) (following_in true text))
unfolding limit_from
limit_step n at text = refl

-- what is left of a text passes a limit by its pieces, or by the text that follows
pub record StepsOn (fuel at : ℕ) (text : List ℕ) : Type 0 where
  pub next : ℕ
  pub enough : length (following_in true text) ≤ next
  pub limits : limit_from fuel at text ≡ first_limit (limit_among at (pieces_ahead text)) (limit_from next (end_of at (pieces_ahead text)) (following_in true text))

pub steps_on : (fuel at : ℕ) (text : List ℕ) → length text ≤ fuel → StepsOn fuel at text
steps_on zero at [] le = record {
  next = 0;
  enough = omega (arith, ap length follows_none);
  limits =
      limit_none 0 at
      ∙ sym (ap (λ (ps : List (List ℕ)). first_limit (limit_among at ps) (limit_from 0 (end_of at ps) (following_in true []))) ahead_none
      ∙ ap (λ (t : List ℕ). first_limit (limit_among at []) (limit_from 0 (end_of at []) t)) follows_none
      ∙ ap (λ (o : Option Limit). first_limit o (limit_from 0 (end_of at []) [])) (among_none at) ∙ limit_none 0 (end_of at []));
}
steps_on zero at (b ∷ text) le = absurd (omega (arith, le))
steps_on (suc n) at text le = record { next = n; enough = omega (arith, le, follows_less text); limits = limit_step n at text }

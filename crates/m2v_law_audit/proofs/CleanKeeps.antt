-- Events one after another, of which the stricter rules remark breaches of some rules alone.
use Rattle.std.proofs.Common.{◌≡◌, ℕ, false, not, [], ◌∷◌, sym, ap, subst}
use Rattle.m2v_model.specs.declared.state.Sequence.{Sequence}
use Rattle.m2v_model.specs.Pictures.{Event, Events}
use Rattle.m2v_audit.specs.m2v_strict.OrderRules.{leads, late_header_rule}
use Rattle.m2v_law_audit.proofs.BreachEvents.{Marked, plain}
use Rattle.m2v_law_audit.proofs.CleanRemarks.{held}
use Rattle.m2v_law_audit.proofs.CleanEvents.{Before, before_with, before_behind, leads_with, MayBeEvent, MayBeAll, MayBeEnd}

module _ (may : ℕ → Type 0) (first : Sequence) where
  -- of these events nothing else may be remarked, behind what came before them and wherever their start codes end
  abbrev pub Keep : Before → Events → Type 0
  Keep x es = (xs : Marked) → plain xs ≡ es → MayBeAll may first x xs × MayBeEnd may (before_behind x xs)

  -- no header stands behind the last picture
  pub keep_none : (x : Before) → leads (leads_with x) ≡ false → Keep x []
  unfolding late_header_rule
  keep_none x bare [] e = (tt, held _ _ (ap not bare))
  keep_none x bare (y ∷ ys) e = absurd cc

  pub keep_one : (x : Before) (e : Event) (es : Events) → ((end : ℕ) → MayBeEvent may first x (end, e))
      → ((end : ℕ) → Keep (before_with x (end, e)) es) → Keep x (e ∷ es)
  keep_one x e es here later [] q = absurd cc
  keep_one x e es here later ((end, f) ∷ xs) q =
      let head : f ≡ e = cc in
      let tail : plain xs ≡ es = cc in
      let more = later end xs tail in
      subst
      (λ (y : Event). (MayBeEvent may first x (end, y) × MayBeAll may first (before_with x (end, y)) xs)
      × MayBeEnd may (before_behind (before_with x (end, y)) xs))
      (sym head) ((here end, more.0), more.1)

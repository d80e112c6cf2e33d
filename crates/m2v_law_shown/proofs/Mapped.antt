-- What is shown of frames is shown of whatever is made of them.
use Rattle.std.proofs.Common.{◌≡◌, ℕ, Bool, false, List, [], ◌∷◌, ◌++◌, map, inl, inr, Option, Some, None, option_to_list, refl, sym, ap, ◌∙◌}
use Rattle.std.specs.Prelude.{All}
use Rattle.std.proofs.lemmas.Bool.{cases_Bool}
use Rattle.std.proofs.lemmas.List.{map-append}
use Rattle.m2v_order.specs.Display.{is_b, Shown, Holder, handed, held_after, frames_of}
use Rattle.m2v_order.proofs.Shows.{handed_shown}
use Rattle.m2v_law_shown.specs.Showing.{holding, ShowAll}
use Rattle.m2v_law_shown.proofs.Order.{handed_anchor, held_anchor, handed_b, held_b, all_kept}

module _ {F G : Type 0} (c : F → G) where
  -- a frame, by what is made of it
  abbrev made : F × ℕ → G × ℕ
  made p = (c p.0, p.1)

  held_made : Option F → Option G
  held_made None = None
  held_made (Some f) = Some (c f)

  list_made : (h : Option F) → map c (option_to_list h) ≡ option_to_list (held_made h)
  unfolding held_made
  list_made None = refl
  list_made (Some f) = refl

  handed_made : (ps : List (F × ℕ)) (h : Option F) → map c (handed (holding h) ps) ≡ handed (holding (held_made h)) (map made ps)
  unfolding handed held_made
  handed_made [] h = refl
  handed_made (p ∷ ps) h = elim (cases_Bool (is_b p)) [
    | inl e ↦ ap (map c) (handed_b h p ps e) ∙ ap (λ (xs : List G). c p.0 ∷ xs) (handed_made ps h) ∙ sym (handed_b (held_made h) (made p) (map made ps) e)
    | inr e ↦
        ap (map c) (handed_anchor h p ps e) ∙ map-append c (option_to_list h) (handed (holding (Some p.0)) ps)
        ∙ (λ i. list_made h i ++ handed_made ps (Some p.0) i)
        ∙ sym (handed_anchor (held_made h) (made p) (map made ps) e)
  ]

  last_made : (ps : List (F × ℕ)) (h : Option F) → held_made (held_after (holding h) ps).anchor ≡ (held_after (holding (held_made h)) (map made ps)).anchor
  unfolding held_after held_made
  last_made [] h = refl
  last_made (p ∷ ps) h = elim (cases_Bool (is_b p)) [
    | inl e ↦
        ap (λ (q : Holder F). held_made q.anchor) (held_b h p ps e) ∙ last_made ps h
        ∙ sym (ap (λ (q : Holder G). q.anchor) (held_b (held_made h) (made p) (map made ps) e))
    | inr e ↦
        ap (λ (q : Holder F). held_made q.anchor) (held_anchor h p ps e) ∙ last_made ps (Some p.0)
        ∙ sym (ap (λ (q : Holder G). q.anchor) (held_anchor (held_made h) (made p) (map made ps) e))
  ]

  frames_made : (ps : List (F × ℕ)) → map (λ (p : F × ℕ). c p.0) ps ≡ map c (frames_of ps)
  frames_made [] = refl
  frames_made (p ∷ ps) = ap (λ (xs : List G). c p.0 ∷ xs) (frames_made ps)

  -- frames of which none is dropped
  pub made_shown : (dropped : F → Bool) (ps : List (F × ℕ)) (out : List G) → All (λ (p : F × ℕ). dropped p.0 ≡ false) ps → ShowAll None (map made ps) out
      → map (λ (p : F × ℕ). c p.0) (Shown dropped false ps) ≡ out
  unfolding held_made
  made_shown dropped ps out all x =
      frames_made (Shown dropped false ps)
      ∙ ap (map c) (sym (handed_shown dropped false ps))
      ∙ ap (λ (xs : List (F × ℕ)). map c (handed (holding None) xs ++ option_to_list (held_after (holding None) xs).anchor)) (all_kept dropped ps all)
      ∙ map-append c (handed (holding None) ps) (option_to_list (held_after (holding None) ps).anchor)
      ∙ (λ i. handed_made ps None i ++ list_made (held_after (holding None) ps).anchor i)
      ∙ ap (λ (o : Option G). handed (holding None) (map made ps) ++ option_to_list o) (last_made ps None)
      ∙ ap (λ (q : Holder G). handed (holding None) (map made ps) ++ option_to_list q.anchor) x.held
      ∙ x.shown

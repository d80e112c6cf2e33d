-- Values made one after another, looked up by number.
use Rattle.std.proofs.Common.{◌≡◌, ℕ, zero, suc, ◌≤◌, ◌<◌, inl, inr, List, [], ◌∷◌, ◌++◌, take, length, get_or, refl, sym, ap, subst, ◌∙◌, arith, length-append}
use Rattle.std.proofs.Math.ListN.{get_or-append}
use Rattle.std.proofs.Math.Seq.{get_or-append_seam, take-length}
use Rattle.std.proofs.lemmas.List.{take-append-le}
use Rattle.std.proofs.lemmas.Bool.{cases_lt}
use Rattle.m2v_core.specs.Earlier.{earlier}

module _ {A : Type 0} (next : List A → A) where
  -- there are as many as were made
  pub earlier-length : (n : ℕ) → length (earlier next n) ≡ n
  unfolding earlier
  earlier-length zero = refl
  earlier-length (suc n) = omega (arith, length-append (earlier next n) (next (earlier next n) ∷ []), earlier-length n)

  earlier-more : (n : ℕ) → earlier next (suc n) ≡ earlier next n ++ next (earlier next n) ∷ []
  unfolding earlier
  earlier-more n = refl

  -- the last of them is made of all before it
  pub earlier-last : (n : ℕ) (d : A) → get_or (earlier next (suc n)) n d ≡ next (earlier next n)
  earlier-last n d =
      let xs = earlier next n in
      ap (λ ys. get_or ys n d) (earlier-more n)
      ∙ ap (λ k. get_or (xs ++ next xs ∷ []) k d) (sym (earlier-length n))
      ∙ get_or-append_seam xs (next xs) [] d

  -- each is made of those before it, however many follow
  pub earlier-at : (n j : ℕ) (d : A) → j < n → get_or (earlier next n) j d ≡ next (earlier next j)
  earlier-at zero j d lt = absurd (omega arith)
  earlier-at (suc n) j d lt =
      let xs = earlier next n in
      let rest = λ (less : j < n). ap (λ ys. get_or ys j d) (earlier-more n)
      ∙ get_or-append xs (next xs ∷ []) d j (omega (arith, earlier-length n))
      ∙ earlier-at n j d less in
      elim (cases_lt j n) [
        | inl less ↦ rest less
        | inr more ↦
            let here : n ≡ j = omega arith in
            subst (λ (k : ℕ). get_or (earlier next (suc n)) k d ≡ next (earlier next k)) here (earlier-last n d)
      ]

  earlier-none : (m : ℕ) → take m (earlier next zero) ≡ []
  unfolding earlier
  earlier-none zero = refl
  earlier-none (suc m) = refl

  earlier-nil : earlier next zero ≡ []
  unfolding earlier
  earlier-nil = refl

  earlier-all : (k : ℕ) → take k (earlier next k) ≡ earlier next k
  earlier-all k = ap (λ (i : ℕ). take i (earlier next k)) (sym (earlier-length k)) ∙ take-length (earlier next k)

  -- fewer of them are a begin of more
  pub earlier-take : (m n : ℕ) → m ≤ n → take m (earlier next n) ≡ earlier next m
  earlier-take m zero le =
      let none : zero ≡ m = omega arith in
      earlier-none m ∙ sym earlier-nil ∙ ap (earlier next) none
  earlier-take m (suc n) le = elim (cases_lt n m) [
    | inl all ↦
        let same : suc n ≡ m = omega arith in
        subst (λ (k : ℕ). take k (earlier next (suc n)) ≡ earlier next k) same (earlier-all (suc n))
    | inr less ↦
        ap (take m) (earlier-more n)
        ∙ take-append-le m (earlier next n) (next (earlier next n) ∷ []) (omega (arith, earlier-length n))
        ∙ earlier-take m n (omega arith)
  ]

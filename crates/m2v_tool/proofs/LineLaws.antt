-- Texts, each with its number behind it.
use Rattle.std.proofs.Common.{◌≡◌, ℕ, suc, ◌+◌, ◌<◌, ◌≤◌, List, [], ◌∷◌, ◌++◌, length, get_or, drop, map, refl, ap, sym, ◌∙◌, arith, append_assoc, drop-cons}
use Rattle.std.specs.Prelude.{codes, decimal}
use Rattle.std.proofs.lemmas.List.{drop_all}
use Rattle.m2v_tool.specs.Endings.{line_text}

-- a text and its number, and what follows
with_number : (t : List ℕ) (texts : List (List ℕ)) (n : ℕ) (numbers : List ℕ) → line_text (t ∷ texts) (n ∷ numbers) ≡ t ++ (decimal n ++ line_text texts numbers)
unfolding line_text
with_number t texts n numbers = refl

newline : line_text [] [] ≡ codes "\n"
unfolding line_text
newline = refl

module _ {F : Type 0} (text : F → List ℕ) (number : F → ℕ) where
  -- the line of figures
  abbrev pub line_from : List F → List ℕ
  line_from fs = line_text (map text fs) (map number fs)

  -- the figure at a place, and what follows
  pub line_more : (before : List ℕ) (fs : List F) (i : ℕ) (d : F) → i < length fs
      → before ++ line_from (drop i fs) ≡ ((before ++ text (get_or fs i d)) ++ decimal (number (get_or fs i d))) ++ line_from (drop (i + 1) fs)
  line_more before fs i d lt =
      let next : i + 1 ≡ suc i = omega arith in
      let f = get_or fs i d in
      let others = drop (suc i) fs in
      rw (drop-cons fs i d lt, next)
      (ap (λ (b : List ℕ). before ++ b) (with_number (text f) (map text others) (number f) (map number others))
      ∙ sym (append_assoc before (text f) (decimal (number f) ++ line_from others))
      ∙ sym (append_assoc (before ++ text f) (decimal (number f)) (line_from others)))

  -- at the end stands the newline
  pub line_end : (before : List ℕ) (fs : List F) (i : ℕ) → length fs ≤ i → before ++ line_from (drop i fs) ≡ before ++ codes "\n"
  line_end before fs i all = rw (drop_all i fs all) (ap (λ (b : List ℕ). before ++ b) newline)

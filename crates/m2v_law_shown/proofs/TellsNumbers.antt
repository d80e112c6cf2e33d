-- The pictures that the stream tells, numbered.
use Rattle.std.proofs.Common.{◌≡◌, ℕ, ◌+◌, Bool, true, false, cond, List, [], ◌∷◌, ◌++◌, map, Some, None, refl}
use Rattle.std.specs.Prelude.{All}
use Rattle.std.proofs.lemmas.List.Elements.{All-nil, All-cons}
use Rattle.m2v_set.specs.declared.settings.Settings.{Settings}
use Rattle.m2v_slice.specs.Headers.{begins_group}
use Rattle.m2v_model.specs.Pictures.{coded_picture}
use Rattle.m2v_model.specs.Lawful.{Numbered, numbered}
use Rattle.m2v_law_shown.specs.Own.{own_sequence}
use Rattle.m2v_law_shown.specs.Telling.{headers, told_all}
use Rattle.m2v_law_shown.specs.Told.{Made, picture_in, delay_in, number_picture, number_delay}

-- numbered pictures are those of jobs, each behind the encoder's sequence header
abbrev pub AreNumbers : Settings → List Made → List Numbered → Type 0
AreNumbers s [] [] = Unit {0}
AreNumbers s [] (n ∷ ns) = ⊥
AreNumbers s (m ∷ made) [] = ⊥
AreNumbers s (m ∷ made) (n ∷ ns) = ((n.sequence ≡ own_sequence s) × (n.picture ≡ m.1)) × AreNumbers s made ns

module _ (s : Settings) where
  -- they go on from here whatever was counted
  abbrev GoOn : List Made → Type 0
  GoOn made = (group : ℕ) (first : Bool) (number frame : ℕ) → AreNumbers s made (numbered (Some (own_sequence s)) group first number frame (told_all s made))

  one_goes : (m : Made) (made : List Made) (b : Bool) → GoOn made → (group : ℕ) (first : Bool) (number frame : ℕ)
      → AreNumbers s (m ∷ made) (numbered (Some (own_sequence s)) group first number frame ((headers s m.0 b ++ coded_picture m.1 ∷ []) ++ told_all s made))
  unfolding numbered
  one_goes m made true goes group first number frame = ((refl, refl), goes (group + 1) false (number + 1) (cond m.1.ends_frame (frame + 1) frame))
  one_goes m made false goes group first number frame = ((refl, refl), goes group false (number + 1) (cond m.1.ends_frame (frame + 1) frame))

  all_go : (made : List Made) → GoOn made
  unfolding numbered
  all_go [] group first number frame = tt
  all_go (m ∷ made) group first number frame = one_goes m made (begins_group m.0) (all_go made) group first number frame

  -- the first one behind its own headers
  first_goes : (m : Made) (made : List Made) (b : Bool) → b ≡ true
      → AreNumbers s (m ∷ made) (numbered None 0 false 0 0 ((headers s m.0 b ++ coded_picture m.1 ∷ []) ++ told_all s made))
  unfolding numbered
  first_goes m made true e = ((refl, refl), all_go made 1 false 1 (cond m.1.ends_frame 1 0))
  first_goes m made false e = absurd cc

  pub numbers_are : (m : Made) (made : List Made) → begins_group m.0 ≡ true → AreNumbers s (m ∷ made) (numbered None 0 false 0 0 (told_all s (m ∷ made)))
  numbers_are m made e = first_goes m made (begins_group m.0) e

  pub own_sequences : (made : List Made) (ns : List Numbered) → AreNumbers s made ns → All (λ (n : Numbered). n.sequence ≡ own_sequence s) ns
  own_sequences [] [] are = All-nil (λ (n : Numbered). n.sequence ≡ own_sequence s)
  own_sequences [] (n ∷ ns) are = absurd are
  own_sequences (m ∷ made) [] are = absurd are
  own_sequences (m ∷ made) (n ∷ ns) are = All-cons (λ (n : Numbered). n.sequence ≡ own_sequence s) n ns are.0.0 (own_sequences made ns are.1)

  pub own_delays : (made : List Made) (ns : List Numbered) → AreNumbers s made ns → map number_delay ns ≡ map delay_in made
  own_delays [] [] are = refl
  own_delays [] (n ∷ ns) are = absurd are
  own_delays (m ∷ made) [] are = absurd are
  own_delays (m ∷ made) (n ∷ ns) are = (λ i. (are.0.1 i).info.vbv_delay ∷ own_delays made ns are.1 i)

  pub own_pictures : (made : List Made) (ns : List Numbered) → AreNumbers s made ns → map number_picture ns ≡ map picture_in made
  own_pictures [] [] are = refl
  own_pictures [] (n ∷ ns) are = absurd are
  own_pictures (m ∷ made) [] are = absurd are
  own_pictures (m ∷ made) (n ∷ ns) are = (λ i. are.0.1 i ∷ own_pictures made ns are.1 i)

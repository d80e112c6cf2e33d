-- What a macroblock, and those that are skipped before it, are predicted from lies inside the references.
use Rattle.std.proofs.Common.{◌≡◌, ℕ, zero, suc, ◌+◌, ◌-◌, ◌*◌, ◌/◌, ◌%◌, ◌<◌, ◌≤◌, Bool, true, false, ◌&&◌, ◌||◌, not, refl, sym, ap, ◌∙◌, subst, arith, pos, ◌-ℤ◌}
use Rattle.std.specs.Prelude.{nat_eq, if◌then◌else◌}
use Rattle.std.specs.List.{list_all, range_with_len}
use Rattle.std.proofs.lemmas.Int.{ints}
use Rattle.std.proofs.lemmas.Nat.{div-mul-add, mod-mul-add}
use Rattle.std.proofs.lemmas.Bool.{and_from, ne_eqb}
use Rattle.m2v_pred.specs.declared.mode.MbPlace.{MbPlace}
use Rattle.m2v_pred.specs.Inside.{is_inside}
use Rattle.m2v_macro.specs.declared.values.MacroSyntax.{MacroSyntax}
use Rattle.m2v_macro.specs.declared.values.SliceState.{SliceState}
use Rattle.m2v_macro.specs.declared.values.PictureContext.{PictureContext}
use Rattle.m2v_macro.specs.States.{skips}
use Rattle.m2v_macroblock.specs.Modes.{place_of, address_of, skipped_before, first_skipped, skipped_mode, mode_of}
use Rattle.m2v_model.specs.declared.setup.SliceSetup.{SliceSetup}
use Rattle.m2v_model.specs.Modes.{all_inside, references_decoded, is_decoded}

-- the place of a macroblock by its row and column
abbrev pub spot : PictureContext → ℕ → ℕ → MbPlace
spot c row column = record { row = row; column = column; structure = c.extension.structure }

all_range : (p : ℕ → Bool) (a n : ℕ) → ((i : ℕ) → a ≤ i → i < a + n → p i ≡ true) → list_all p (range_with_len a n) ≡ true
all_range p a zero h = refl
all_range p a (suc n) h = and_from (p a) (list_all p (range_with_len (a + 1) n)) (h a (omega arith) (omega arith)) (all_range p (a + 1) n (λ i le lt. h i (omega (arith, le)) (omega (arith, lt))))

place_is : (c : PictureContext) (row column at : ℕ) → column < c.columns → at ≡ row * c.columns + column → place_of c at ≡ spot c row column
place_is c row column at lt e =
    let r : at / c.columns ≡ row = ap (λ (n : ℕ). n / c.columns) e ∙ div-mul-add row c.columns column lt in
    let k : at % c.columns ≡ column = ap (λ (n : ℕ). n % c.columns) e ∙ mod-mul-add row c.columns column lt in
    λ i. spot c (r i) (k i)

-- a macroblock of a column, before which so many are skipped
pub record StandsAt (c : PictureContext) (st : SliceState) (m : MacroSyntax) (row column skipped : ℕ) : Type 0 where
  pub small : column < c.columns
  pub few : skipped ≤ column
  pub address : st.address ≡ pos (row * c.columns + column) -ℤ pos (skipped + 1)
  pub increment : m.increment ≡ skipped + 1

-- at most so many are skipped: none at the start of a slice
skipped_most : (first : Bool) (increment skipped : ℕ) → increment ≡ skipped + 1 → (if not first && not (nat_eq increment 1) then increment - 1 else 0) ≤ skipped
skipped_most true increment skipped e = omega arith
skipped_most false increment skipped e = later (not (nat_eq increment 1))
  where
    later : (b : Bool) → (if b then increment - 1 else 0) ≤ skipped
    later true = omega (arith, e)
    later false = omega arith

module _ (c : PictureContext) (st : SliceState) (m : MacroSyntax) (row column skipped : ℕ) (h : StandsAt c st m row column skipped) where
  pub skipped_few : skipped_before st m ≤ skipped
  unfolding skips
  skipped_few = skipped_most st.first m.increment skipped h.increment

  pub own_place : place_of c (address_of st m) ≡ spot c row column
  own_place = place_is c row column (address_of st m) h.small (omega (arith, ints, h.address, h.increment))

  skipped_place : (k : ℕ) → k < skipped → place_of c (first_skipped st + k) ≡ spot c row (column - skipped + k)
  skipped_place k lt =
      place_is c row (column - skipped + k) (first_skipped st + k) (omega (arith, h.small, h.few, lt)) (omega (arith, ints, h.address, h.few, lt))

  pub inside_all : (s : SliceSetup) → s.context ≡ c → ((k : ℕ) → column ≤ k + skipped → k < column → is_inside (skipped_mode c st) (spot c row k) s.dims ≡ true)
      → is_inside (mode_of c m) (spot c row column) s.dims ≡ true → all_inside s st m ≡ true
  unfolding all_inside
  inside_all s e before own =
      let each : list_all (λ k. is_inside (skipped_mode s.context st) (place_of s.context (first_skipped st + k)) s.dims) (range_with_len 0 (skipped_before st m)) ≡ true =
      all_range _ 0 (skipped_before st m) (λ k le lt.
      let less : k < skipped = omega (arith, lt, skipped_few) in
      (λ i. is_inside (skipped_mode (e i) st) (place_of (e i) (first_skipped st + k)) s.dims) ∙ ap (λ (p : MbPlace). is_inside (skipped_mode c st) p s.dims) (skipped_place k less)
      ∙ before (column - skipped + k) (omega (arith, h.few)) (omega (arith, h.few, less))) in
      let here : is_inside (mode_of s.context m) (place_of s.context (address_of st m)) s.dims ≡ true =
      (λ i. is_inside (mode_of (e i) m) (place_of (e i) (address_of st m)) s.dims) ∙ ap (λ (p : MbPlace). is_inside (mode_of c m) p s.dims) own_place ∙ own in
      and_from _ _ each here

  pub decoded_all : (s : SliceSetup) → s.context ≡ c → (0 < skipped → is_decoded s.references c.extension.structure (skipped_mode c st) ≡ true)
      → is_decoded s.references c.extension.structure (mode_of c m) ≡ true → references_decoded s st m ≡ true
  unfolding references_decoded
  decoded_all s e before own =
      subst (λ (x : PictureContext). (nat_eq (skipped_before st m) 0 || is_decoded s.references x.extension.structure (skipped_mode x st)) && is_decoded s.references x.extension.structure (mode_of x m) ≡ true) (sym e)
      (and_from _ _ (none_or (skipped_before st m) skipped_few) own)
    where
      none_or : (n : ℕ) → n ≤ skipped → (nat_eq n 0 || is_decoded s.references c.extension.structure (skipped_mode c st)) ≡ true
      none_or zero le = refl
      none_or (suc n) le = ap (λ (b : Bool). b || is_decoded s.references c.extension.structure (skipped_mode c st)) (ne_eqb (suc n) 0 (λ e. omega (arith, e))) ∙ before (omega (arith, le))

-- A slice of the encoder stands in its unit.
use Rattle.std.proofs.Common.{◌≡◌, ℕ, zero, suc, ◌+◌, ◌*◌, ◌<◌, ◌≤◌, Bool, true, false, inl, inr, List, [], ◌∷◌, ◌++◌, length, replicate, filter, refl, sym, ap, subst, ◌∙◌, arith, append_assoc, ℤ, pos, ◌+ℤ◌, ◌-ℤ◌}
use Rattle.std.specs.Prelude.{nat_abs}
use Rattle.std.proofs.lemmas.Int.{ints}
use Rattle.std.proofs.lemmas.Bool.{lt-ltb, le-ltb}
use Rattle.std.proofs.lemmas.List.Elements.{filter-append}
use Rattle.m2v_bits.specs.Syntax.{seq, done, here, rule, renamed, repeated, Rounds, Spells}
use Rattle.m2v_bits.proofs.Cursor.{zeros_are_zero}
use Rattle.m2v_head.specs.Texts.{slice_text}
use Rattle.m2v_head.specs.Fits.{SliceFits}
use Rattle.m2v_head.proofs.Spellings.{slice_spells}
use Rattle.m2v_plane.specs.Samples.{Samples, blank}
use Rattle.m2v_macro.specs.declared.values.SliceState.{SliceState}
use Rattle.m2v_macro.specs.declared.values.PictureContext.{PictureContext}
use Rattle.m2v_macro.specs.States.{after}
use Rattle.m2v_macro.specs.Macros.{increment_from}
use Rattle.m2v_macro.specs.Texts.{increment_text}
use Rattle.m2v_macro.proofs.Spellings.{increments_spell}
use Rattle.m2v_macroblock.specs.Macroblocks.{Macroblock, after_macroblock}
use Rattle.m2v_macroblock.specs.Texts.{macroblock_text}
use Rattle.m2v_slice.specs.m2v_choose.Choice.{choice_of}
use Rattle.m2v_slice.specs.Slices.{SliceTask, decision, with_candidate, begun, slice_info}
use Rattle.m2v_slice.specs.Laws.{IsSlice, Keeps, skipped_before}
use Rattle.m2v_slice.proofs.Candidates.{written_bits}
use Rattle.m2v_slice.proofs.Choices.{choice_there}
use Rattle.m2v_slice.proofs.Keeps.{increment_is, skip_where, keeps}
use Rattle.m2v_slice.proofs.Fits.{chosen, last_written}
use Rattle.m2v_model.specs.Looking.{looking}
use Rattle.m2v_model.specs.Slices.{Row, with_next, macroblock_at, macroblock_round, macroblocks_at, slice_start, begins_late, unit_place, slice_at, is_large, large_in}
use Rattle.m2v_enc_stream.specs.Slices.{AreDecoded, setup_of, slice_body, slice_read, macroblock_bits}
use Rattle.m2v_enc_stream.proofs.Macroblocks.{SkipsInside, none_inside, more_inside, written_spells}
use Rattle.m2v_enc_stream.proofs.Rounds.{Leads, leads_none, leads_more, leads_last, macroblock_one, behind_increment, increment_first}

-- ---- one macroblock more

-- the row as it is read behind the first n macroblocks
abbrev row_at : SliceTask → Samples → ℕ → Row
row_at t row n = record { state = (begun t row n).state; macroblocks = (begun t row n).macroblocks; bits = macroblock_bits t row n }

-- the macroblock of a column, where it isn't skipped, and its text
abbrev macroblock : SliceTask → Samples → ℕ → Macroblock
macroblock t row n = (choice_of (decision t (begun t row n) n)).macroblock

abbrev own_text : SliceTask → Samples → ℕ → List Bool
own_text t row n = macroblock_text t.context (begun t row n).state (macroblock t row n)

abbrev is_skipped : SliceTask → Samples → ℕ → Bool
is_skipped t row n = (choice_of (decision t (begun t row n) n)).skip

module _ (t : SliceTask) (row : Samples) (n : ℕ) where
  skip_row : is_skipped t row n ≡ true → row_at t row n ≡ row_at t row (suc n)
  unfolding begun with_candidate decision macroblock_bits
  skip_row e = rw e refl

  skip_text : is_skipped t row n ≡ true → (begun t row n).text ≡ (begun t row (suc n)).text
  unfolding begun with_candidate decision
  skip_text e = rw e refl

  skip_state : is_skipped t row n ≡ true → (begun t row (suc n)).state ≡ (begun t row n).state
  unfolding begun with_candidate decision
  skip_state e = rw e refl

  write_row : is_skipped t row n ≡ false → with_next t.context (row_at t row n) (macroblock t row n) (length (own_text t row n)) ≡ row_at t row (suc n)
  unfolding begun with_candidate decision macroblock_bits
  write_row e = rw e refl

  write_text : is_skipped t row n ≡ false → (begun t row n).text ++ own_text t row n ≡ (begun t row (suc n)).text
  unfolding begun with_candidate decision
  write_text e = rw e refl

  write_state : is_skipped t row n ≡ false → (begun t row (suc n)).state ≡ after_macroblock t.context (begun t row n).state (macroblock t row n)
  unfolding begun with_candidate decision
  write_state e = rw e refl

  skip_bits : is_skipped t row n ≡ true → macroblock_bits t row n ≡ macroblock_bits t row (suc n)
  skip_bits e = ap (λ (r : Row). r.bits) (skip_row e)

  write_bits : is_skipped t row n ≡ false → macroblock_bits t row n ++ length (own_text t row n) ∷ [] ≡ macroblock_bits t row (suc n)
  write_bits e = ap (λ (r : Row). r.bits) (write_row e)

after_address : (c : PictureContext) (st : SliceState) (x : Macroblock) → (after_macroblock c st x).address ≡ st.address +ℤ pos x.syntax.increment
unfolding after_macroblock after
after_address c st x = refl

-- ---- the macroblocks so far

module _ (t : SliceTask) (slice : IsSlice t) (references : List Bool) (decoded : AreDecoded t.context.kind references) (row : Samples) where
  -- what is known behind the first n macroblocks: those that are skipped last read inside, and rounds lead here
  record SoFar (n : ℕ) : Type 0 where
    skips : SkipsInside t (begun t row n) n (skipped_before t (begun t row n) n)
    leads : Leads (setup_of t references) (row_at t row 0) (row_at t row n) (begun t row n).text

  keeps_at : (n : ℕ) → n ≤ t.context.columns → Keeps t n (skipped_before t (begun t row n) n) (begun t row n)
  keeps_at n le = keeps t slice row n le

  start_text : (begun t row 0).text ≡ []
  unfolding begun
  start_text = refl

  none_before : skipped_before t (begun t row 0) 0 ≡ 0
  none_before = elim (keeps_at 0 (omega arith)).within [ inl less ↦ absurd (omega arith) | inr none ↦ none.1 ]

  so_far_none : SoFar 0
  so_far_none = record {
    skips = subst (SkipsInside t (begun t row 0) 0) (sym none_before) (none_inside t (begun t row 0) 0);
    leads = subst (Leads (setup_of t references) (row_at t row 0) (row_at t row 0)) (sym start_text) (leads_none (setup_of t references) (row_at t row 0));
  }

  module _ (n : ℕ) (small : n < t.context.columns) (h : SoFar n) where
    -- one that is skipped
    one_more : is_skipped t row n ≡ true → suc (skipped_before t (begun t row n) n) ≡ skipped_before t (begun t row (suc n)) (suc n)
    one_more e =
        let here = (keeps_at n (omega (arith, small))).address in
        let there = (keeps_at (suc n) (omega (arith, small))).address in
        let same = ap (λ (st : SliceState). st.address) (skip_state t row n e) in
        omega (arith, ints, here, there, same)

    so_far_skip : is_skipped t row n ≡ true → SoFar (suc n)
    so_far_skip e =
        let s = begun t row n in
        let g = skipped_before t s n in
        record {
          skips = subst (SkipsInside t (begun t row (suc n)) (suc n)) (one_more e)
              (more_inside t s (begun t row (suc n)) n g h.skips (skip_state t row n e) e (chosen t slice row n small).inside);
          leads = subst (λ (r : Row). Leads (setup_of t references) (row_at t row 0) r (begun t row (suc n)).text) (skip_row t row n e)
              (subst (Leads (setup_of t references) (row_at t row 0) (row_at t row n)) (skip_text t row n e) h.leads);
        }

    -- one that is written
    spells_here : is_skipped t row n ≡ false → Spells (macroblock_at (setup_of t references) (begun t row n).state) (macroblock t row n) (own_text t row n)
    spells_here = written_spells t slice references decoded row n (skipped_before t (begun t row n) n) small (keeps_at n (omega (arith, small))) h.skips

    moved : (a : ℤ) (increment : ℕ) → a ≡ pos (t.row * t.context.columns + n) -ℤ pos (skipped_before t (begun t row n) n + 1) → increment ≡ skipped_before t (begun t row n) n + 1
        → a +ℤ pos increment ≡ pos (t.row * t.context.columns + suc n) -ℤ pos 1
    moved a increment at step = omega (arith, ints, at, step)

    address_here : is_skipped t row n ≡ false → (begun t row (suc n)).state.address ≡ pos (t.row * t.context.columns + suc n) -ℤ pos 1
    address_here e =
        let here = (keeps_at n (omega (arith, small))).address in
        let d = decision t (begun t row n) n in
        let step = (choice_there d).increment e ∙ increment_is t slice n (skipped_before t (begun t row n) n) (begun t row n) here in
        ap (λ (st : SliceState). st.address) (write_state t row n e) ∙ after_address t.context (begun t row n).state (macroblock t row n) ∙ moved (begun t row n).state.address (macroblock t row n).syntax.increment here step

    none_left : is_skipped t row n ≡ false → 0 ≡ skipped_before t (begun t row (suc n)) (suc n)
    none_left e = omega (arith, ints, (keeps_at (suc n) (omega (arith, small))).address, address_here e)

    so_far_write : is_skipped t row n ≡ false → SoFar (suc n)
    so_far_write e =
        let s = begun t row n in
        let x = macroblock t row n in
        let own = own_text t row n in
        record {
          skips = subst (SkipsInside t (begun t row (suc n)) (suc n)) (none_left e) (none_inside t (begun t row (suc n)) (suc n));
          leads = subst (λ (r : Row). Leads (setup_of t references) (row_at t row 0) r (begun t row (suc n)).text) (write_row t row n e)
              (subst (Leads (setup_of t references) (row_at t row 0) (with_next t.context (row_at t row n) x (length own))) (write_text t row n e)
              (leads_more (setup_of t references) (row_at t row 0) (row_at t row n) s.text own x h.leads (spells_here e) (macroblock_one t.context s.state x)));
        }

    so_far_more : SoFar (suc n)
    so_far_more = elim (is_skipped t row n) as (λ b. is_skipped t row n ≡ b → SoFar (suc n)) [ true ↦ λ e. so_far_skip e | false ↦ λ e. so_far_write e ] refl

    -- the last one, with zeros behind it
    all_stand : is_skipped t row n ≡ false → (z : ℕ)
        → Rounds (macroblock_round (setup_of t references)) (row_at t row 0) (row_at t row (suc n)) ((begun t row (suc n)).text ++ replicate z false) (replicate z false)
    all_stand e z =
        let s = begun t row n in
        let x = macroblock t row n in
        let own = own_text t row n in
        let zeros = replicate z false in
        let round = macroblock_round (setup_of t references) in
        subst (λ (r : Row). Rounds round (row_at t row 0) r ((begun t row (suc n)).text ++ zeros) zeros) (write_row t row n e)
        (subst (λ (u : List Bool). Rounds round (row_at t row 0) (with_next t.context (row_at t row n) x (length own)) (u ++ zeros) zeros) (write_text t row n e)
        (leads_last (setup_of t references) (row_at t row 0) (row_at t row n) s.text own x h.leads (spells_here e) (macroblock_one t.context s.state x) zeros (zeros_are_zero z)))

  so_far : (n : ℕ) → n ≤ t.context.columns → SoFar n
  so_far zero le = so_far_none
  so_far (suc n) le = so_far_more n (omega (arith, le)) (so_far n (omega (arith, le)))

  pub rounds_stand : (columns z : ℕ) → columns ≡ t.context.columns
      → Rounds (macroblock_round (setup_of t references)) (row_at t row 0) (row_at t row columns) ((begun t row columns).text ++ replicate z false) (replicate z false)
  rounds_stand zero z e = absurd (omega (arith, e, slice.own.columns.0))
  rounds_stand (suc n) z e = all_stand n (omega (arith, e)) (so_far n (omega (arith, e))) (last_written t slice row n e) z

  -- the text begins with the increment of its first macroblock, which is 1
  record Begins (text : List Bool) : Type 0 where
    behind : List Bool
    is : text ≡ increment_text 1 ++ behind

  first_told : is_skipped t row 0 ≡ false
  first_told = elim (is_skipped t row 0) as (λ b. is_skipped t row 0 ≡ b → b ≡ false) [
    | true ↦ λ e. absurd (omega (arith, (skip_where t slice 0 (skipped_before t (begun t row 0) 0) (begun t row 0) (keeps_at 0 (omega arith)) (omega (arith, slice.own.columns.0)) ((choice_there (decision t (begun t row 0) 0)).skip e)).0))
    | false ↦ λ e. refl
  ] refl

  first_step : (macroblock t row 0).syntax.increment ≡ 1
  first_step =
      let d = decision t (begun t row 0) 0 in
      let g = skipped_before t (begun t row 0) 0 in
      (choice_there d).increment first_told ∙ increment_is t slice 0 g (begun t row 0) (keeps_at 0 (omega arith)).address ∙ ap (λ (k : ℕ). k + 1) none_before

  first_begins : Begins (begun t row 1).text
  first_begins =
      let st = (begun t row 0).state in
      let x = macroblock t row 0 in
      record {
        behind = behind_increment t.context st x;
        is = sym (write_text t row 0 first_told) ∙ ap (λ (u : List Bool). u ++ own_text t row 0) start_text ∙ increment_first t.context st x
            ∙ ap (λ (k : ℕ). increment_text k ++ behind_increment t.context st x) first_step;
      }

  begins_more : (n : ℕ) → Begins (begun t row n).text → Begins (begun t row (suc n)).text
  begins_more n h = elim (is_skipped t row n) as (λ b. is_skipped t row n ≡ b → Begins (begun t row (suc n)).text) [
    | true ↦ λ e. record { behind = h.behind; is = sym (skip_text t row n e) ∙ h.is }
    | false ↦ λ e. record {
      behind = h.behind ++ own_text t row n;
      is = sym (write_text t row n e) ∙ ap (λ (u : List Bool). u ++ own_text t row n) h.is ∙ append_assoc (increment_text 1) h.behind (own_text t row n);
    }
  ] refl

  begins_all : (n : ℕ) → 1 ≤ n → Begins (begun t row n).text
  begins_all zero some = absurd (omega (arith, some))
  begins_all (suc zero) some = first_begins
  begins_all (suc (suc n)) some = begins_more (suc n) (begins_all (suc n) (omega arith))

  increment_ahead : (z : ℕ) → (end : List Bool) × (increment_from 0).Stands 1 ((begun t row t.context.columns).text ++ replicate z false) end
  increment_ahead z =
      let h = begins_all t.context.columns slice.own.columns.0 in
      let end = h.behind ++ replicate z false in (
        end,
        subst (λ (u : List Bool). (increment_from 0).Stands 1 u end) (sym (ap (λ (u : List Bool). u ++ replicate z false) h.is ∙ append_assoc (increment_text 1) h.behind (replicate z false)))
            ((increments_spell 1 (omega arith)).stands end),
      )

  covered_is : nat_abs ((begun t row t.context.columns).state.address +ℤ pos 1) ≡ (t.row + 1) * t.context.columns
  covered_is =
      let k = keeps_at t.context.columns (omega arith) in
      omega (arith, ints, k.address, k.covers refl)

-- ---- the slice

not_late : (first : ℕ) → begins_late first 1 first ≡ true
not_late first = lt-ltb _ _ (omega arith)

slice_here : (t : SliceTask) → IsSlice t → (references : List Bool) → AreDecoded t.context.kind references → (z : ℕ)
    → (slice_at (setup_of t references) (t.row * t.context.columns) t.row).Stands (slice_read t)
    (slice_text (slice_info t.q) ++ ((begun t (blank t.source.dims 1) t.context.columns).text ++ replicate z false)) (replicate z false)
unfolding slice_at seq here rule looking renamed unit_place done macroblocks_at repeated slice_start begun slice_read macroblock_bits
slice_here t slice references decoded z =
    let row = blank t.source.dims 1 in
    let columns = t.context.columns in
    let text = (begun t row columns).text ++ replicate z false in
    let head = slice_text (slice_info t.q) in
    let fits : SliceFits (slice_info t.q) = record { quantiser = slice.q; reserved = omega arith; untold = refl } in
    let x = row_at t row columns in
    let end = ap (λ (n : ℕ). record { info = slice_info t.q; macroblocks = x.macroblocks; bits = x.bits; covered = n }) (sym (covered_is t slice references decoded row)) in (
      length (head ++ text) + 32,
      head ++ text,
      (refl, refl),
      (
        slice_info t.q,
        text,
        (slice_spells (slice_info t.q) fits).stands text,
        (
          1,
          text,
          (refl, increment_ahead t slice references decoded row z),
          (
            tt,
            text,
            (not_late (t.row * columns), refl),
            (x, replicate z false, rounds_stand t slice references decoded row columns z refl, (end, refl)),
          ),
        ),
      ),
    )

pub slice_stands : (t : SliceTask) (references : List Bool) (zeros : ℕ) → IsSlice t → AreDecoded t.context.kind references
    → (slice_at (setup_of t references) (t.row * t.context.columns) t.row).Stands (slice_read t) (slice_body t ++ replicate zeros false) (replicate zeros false)
slice_stands t references zeros slice decoded =
    let text = (begun t (blank t.source.dims 1) t.context.columns).text in
    subst (λ (u : List Bool). (slice_at (setup_of t references) (t.row * t.context.columns) t.row).Stands (slice_read t) u (replicate zeros false))
    (sym (append_assoc (slice_text (slice_info t.q)) text (replicate zeros false))) (slice_here t slice references decoded zeros)

-- ---- large macroblocks

small_bits : (t : SliceTask) → IsSlice t → (row : Samples) (n : ℕ) → n < t.context.columns → is_skipped t row n ≡ false → is_large (length (own_text t row n)) ≡ false
unfolding decision
small_bits t slice row n small e =
    let d = decision t (begun t row n) n in
    le-ltb _ _ (omega (arith, written_bits d (choice_of d) e, (chosen t slice row n small).fits.most))

few_bits : (t : SliceTask) → IsSlice t → (row : Samples) (n : ℕ) → n ≤ t.context.columns → filter is_large (macroblock_bits t row n) ≡ []
unfolding macroblock_bits
few_bits t slice row zero le = refl
few_bits t slice row (suc n) le = elim (is_skipped t row n) as (λ b. is_skipped t row n ≡ b → filter is_large (macroblock_bits t row (suc n)) ≡ []) [
  | true ↦ λ e. ap (filter is_large) (sym (skip_bits t row n e)) ∙ few_bits t slice row n (omega (arith, le))
  | false ↦ λ e.
      let own = length (own_text t row n) in
      let none : filter is_large (own ∷ []) ≡ [] = rw (small_bits t slice row n (omega (arith, le)) e) refl in
      ap (filter is_large) (sym (write_bits t row n e)) ∙ filter-append is_large (macroblock_bits t row n) (own ∷ [])
      ∙ (λ i. few_bits t slice row n (omega (arith, le)) i ++ none i)
] refl

pub none_large : (t : SliceTask) → IsSlice t → large_in (slice_read t) ≡ 0
unfolding slice_read
none_large t slice = ap length (few_bits t slice (blank t.source.dims 1) t.context.columns (omega arith))

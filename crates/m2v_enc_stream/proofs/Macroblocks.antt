-- A macroblock that is written is read again, with those that are skipped before it.
use Rattle.std.proofs.Common.{◌≡◌, ℕ, suc, ◌+◌, ◌<◌, ◌≤◌, Bool, true, false, ◌⊎◌, inl, inr, List, refl, sym, ap, ◌∙◌, subst, arith}
use Rattle.std.proofs.lemmas.Bool.{cases_lt}
use Rattle.m2v_bits.specs.Syntax.{Spells}
use Rattle.m2v_plane.specs.Samples.{Samples}
use Rattle.m2v_pred.specs.Inside.{is_inside}
use Rattle.m2v_macro.specs.declared.values.SliceState.{SliceState}
use Rattle.m2v_macroblock.specs.Conditions.{AreDc}
use Rattle.m2v_macroblock.specs.Modes.{skipped_mode, mode_of}
use Rattle.m2v_macroblock.specs.Texts.{macroblock_text}
use Rattle.m2v_slice.specs.m2v_choose.Decisions.{Decision, Candidate, place_of}
use Rattle.m2v_slice.specs.m2v_choose.Choice.{choice_of}
use Rattle.m2v_slice.specs.m2v_choose.Laws.{StaysInside}
use Rattle.m2v_slice.proofs.m2v_choose.OwnReady.{own_ready}
use Rattle.m2v_slice.specs.Slices.{SliceTask, Begun, decision, begun}
use Rattle.m2v_slice.specs.Laws.{IsSlice, Keeps}
use Rattle.m2v_slice.proofs.Choices.{choice_there}
use Rattle.m2v_slice.proofs.Columns.{inside_skipped}
use Rattle.m2v_slice.proofs.Keeps.{increment_is}
use Rattle.m2v_slice.proofs.Fits.{chosen}
use Rattle.m2v_model.specs.Slices.{macroblock_at}
use Rattle.m2v_model.specs.Written.{CanBeWritten}
use Rattle.m2v_model.proofs.MacroblockSpellings.{macroblock_spells}
use Rattle.m2v_enc_stream.specs.Slices.{AreDecoded, setup_of}
use Rattle.m2v_enc_stream.proofs.Levels.{choice_levels}
use Rattle.m2v_enc_stream.proofs.Decoded.{decoded_by, mode_may, skipped_may}
use Rattle.m2v_enc_stream.proofs.Insides.{StandsAt, spot, inside_all, decoded_all}
use Rattle.m2v_slice.proofs.m2v_choose.Tried.{own_picture}

-- ---- skipped macroblocks

-- those that are skipped right before a column would read inside the references
pub record SkipsInside (t : SliceTask) (s : Begun) (n skipped : ℕ) : Type 0 where
  pub inside : (k : ℕ) → n ≤ k + skipped → k < n → is_inside (skipped_mode t.context s.state) (spot t.context t.row k) t.source.dims ≡ true

pub none_inside : (t : SliceTask) (s : Begun) (n : ℕ) → SkipsInside t s n 0
none_inside t s n = record { inside = λ k le lt. absurd (omega arith) }

write_inside : (d : Decision) (x : Candidate) → x.skip ≡ false → StaysInside d x → is_inside (mode_of d.context x.macroblock.syntax) (place_of d) d.dims ≡ true
write_inside d x e h = rw e at h

-- one more that is skipped leaves the state
pub more_inside : (t : SliceTask) (s z : Begun) (n skipped : ℕ) → SkipsInside t s n skipped → z.state ≡ s.state → (choice_of (decision t s n)).skip ≡ true → StaysInside (decision t s n) (choice_of (decision t s n))
    → SkipsInside t z (suc n) (suc skipped)
unfolding decision
more_inside t s z n skipped before same e stays = record {
  inside = λ k le lt. ap (λ (st : SliceState). is_inside (skipped_mode t.context st) (spot t.context t.row k) t.source.dims) same ∙ at k le lt;
}
  where
    here : is_inside (skipped_mode t.context s.state) (spot t.context t.row n) t.source.dims ≡ true
    here = inside_skipped (decision t s n) (choice_of (decision t s n)) e stays

    at : (k : ℕ) → suc n ≤ k + suc skipped → k < suc n → is_inside (skipped_mode t.context s.state) (spot t.context t.row k) t.source.dims ≡ true
    at k le lt = elim (cases_lt k n) [
      | inl less ↦ before.inside k (omega (arith, le)) less
      | inr last ↦ subst (λ (i : ℕ). is_inside (skipped_mode t.context s.state) (spot t.context t.row i) t.source.dims ≡ true) (omega (arith, last, lt)) here
    ]

-- ---- a macroblock that is written

module _ (t : SliceTask) (slice : IsSlice t) (references : List Bool) (decoded : AreDecoded t.context.kind references) (row : Samples) (n skipped : ℕ) (small : n < t.context.columns)
    (keeps : Keeps t n skipped (begun t row n)) (skips : SkipsInside t (begun t row n) n skipped) (told : (choice_of (decision t (begun t row n) n)).skip ≡ false) where
  -- where it stands
  stands_here : StandsAt t.context (begun t row n).state (choice_of (decision t (begun t row n) n)).macroblock.syntax t.row n skipped
  stands_here = record {
    small = small;
    few = few keeps.within;
    address = keeps.address;
    increment = (choice_there (decision t (begun t row n) n)).increment told ∙ increment_is t slice n skipped (begun t row n) keeps.address;
  }
    where
      few : (skipped < n) ⊎ ((n ≡ 0) × (skipped ≡ 0)) → skipped ≤ n
      few (inl less) = omega (arith, less)
      few (inr none) = omega (arith, none.0, none.1)

  two_or_three : 0 < skipped → (t.context.kind ≡ 2) ⊎ (t.context.kind ≡ 3)
  two_or_three some = elim (keeps.skips some) [ inl two ↦ inl two | inr three ↦ inr three.0 ]

  can_be_written : CanBeWritten (setup_of t references) (begun t row n).state (choice_of (decision t (begun t row n) n)).macroblock
  unfolding decision
  can_be_written =
      let c = t.context in
      let s = begun t row n in
      let st = s.state in
      let d = decision t s n in
      let x = choice_of d in
      let m = x.macroblock.syntax in
      let h = chosen t slice row n small in
      let written = h.writable told in
      let own = mode_may c m written.macro.kind slice.own.kind.0 slice.own.kind.1 in
      record {
        picture = own_picture c slice.own;
        ready = own_ready c st slice.own keeps.state;
        dc = subst (λ (p : ℕ). AreDc p st.dc) (sym slice.own.precision) keeps.dc;
        fits = written.macro;
        inside = inside_all c st m t.row n skipped stands_here (setup_of t references) refl skips.inside (write_inside d x told h.inside);
        decoded = decoded_all c st m t.row n skipped stands_here (setup_of t references) refl
            (λ some. let may = skipped_may c st (two_or_three some) in decoded_by c.kind references c.extension.structure (skipped_mode c st) decoded may.forward may.backward)
            (decoded_by c.kind references c.extension.structure (mode_of c m) decoded own.forward own.backward);
        blocks = written.blocks;
        levels = choice_levels d;
      }

  pub written_spells : Spells (macroblock_at (setup_of t references) (begun t row n).state) (choice_of (decision t (begun t row n) n)).macroblock
      (macroblock_text t.context (begun t row n).state (choice_of (decision t (begun t row n) n)).macroblock)
  written_spells = macroblock_spells (setup_of t references) (begun t row n).state (choice_of (decision t (begun t row n) n)).macroblock can_be_written

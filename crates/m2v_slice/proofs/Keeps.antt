-- What holds behind each macroblock of a slice.
use Rattle.std.proofs.Common.{◌≡◌, ℕ, zero, suc, ◌+◌, ◌-◌, ◌*◌, ◌%◌, ◌<◌, ◌≤◌, Bool, true, false, ◌&&◌, ◌||◌, not, ◌⊎◌, inl, inr, [], ◌∷◌, ◌++◌, length, refl, ap, sym, ◌∙◌, subst, arith, ℤ, pos, ◌+ℤ◌, ◌-ℤ◌}
use Rattle.std.specs.Prelude.{nat_eq, nat_lt, nat_abs, int_le, unsigned_abs}
use Rattle.std.proofs.lemmas.Int.{ints}
use Rattle.std.proofs.lemmas.Nat.{mod-mul-add}
use Rattle.std.proofs.lemmas.List.{length-append}
use Rattle.std.proofs.lemmas.Bool.{and_parts, eqb-true, eqb-false, ne_eqb, le-leb, lt-ltb}
use Rattle.m2v_macroblock.specs.m2v_vlc.declared.values.MbType.{MbType}
use Rattle.m2v_macroblock.specs.m2v_vlc.Values.{has_type_b}
use Rattle.m2v_plane.specs.Samples.{Samples}
use Rattle.m2v_set.specs.Numbers.{slice_least}
use Rattle.m2v_macroblock.specs.m2v_macro.declared.values.SliceState.{SliceState}
use Rattle.m2v_macroblock.specs.m2v_macro.declared.values.PictureContext.{PictureContext}
use Rattle.m2v_macroblock.specs.m2v_macro.States.{at_start, after, skips, column, not_past, in_order, may_skip}
use Rattle.m2v_macroblock.specs.m2v_macro.Conditions.{IsStep, has_type}
use Rattle.m2v_macroblock.specs.m2v_recon.Macro.{with_macroblock}
use Rattle.m2v_macroblock.specs.Macroblocks.{after_macroblock}
use Rattle.m2v_macroblock.specs.Modes.{skipped_mode}
use Rattle.m2v_macroblock.specs.Texts.{macroblock_text}
use Rattle.m2v_pred.specs.Inside.{is_inside}
use Rattle.m2v_choose.specs.Decisions.{Decision, Candidate, increment_of, place_of}
use Rattle.m2v_choose.specs.Candidates as candidates
use Rattle.m2v_choose.specs.Candidates.{hold}
use Rattle.m2v_choose.specs.Choice.{bits_taken, candidate_at, choice_of, state_behind}
use Rattle.m2v_choose.specs.Own.{IsOwnState, AreLimits}
use Rattle.m2v_choose.specs.Laws.{Fits, IsWritable}
use Rattle.m2v_macroblock.specs.Conditions.{AreDc}
use Rattle.m2v_choose.proofs.OwnReady.{start_own}
use Rattle.m2v_choose.proofs.DcKept.{start_dc, choice_dc}
use Rattle.m2v_choose.proofs.Kept.{choice_leaves}
use Rattle.m2v_choose.proofs.Held.{hold_fits, own_choice_fits}
use Rattle.m2v_choose.proofs.Written.{choice_written}
use Rattle.m2v_slice.specs.Slices.{SliceTask, Begun, room, quantiser_at, decision, with_candidate, begun}
use Rattle.m2v_slice.specs.Laws.{IsSlice, Keeps, skipped_before}
use Rattle.m2v_slice.proofs.Choices.{choice_there}
use Rattle.m2v_slice.proofs.Candidates.{skipped_bits}
use Rattle.m2v_slice.proofs.Quantisers.{quantiser_code, skipped_work, written_work}

-- ---- where a macroblock may stand

first_step : (c : PictureContext) (st : SliceState) (r : ℕ) → st.first ≡ true → st.address ≡ pos r -ℤ pos 1 → st.next ≡ r → 1 ≤ c.columns → IsStep c st 1
unfolding not_past in_order may_skip column skips
first_step c st r first at next some =
    let here : st.address +ℤ pos 1 ≡ pos st.next = omega (arith, ints, at, next) in
    let same : int_le (pos st.next) (pos st.next) ≡ true = le-leb st.next st.next (omega arith) in
    let inside : nat_lt (1 - 1) c.columns ≡ true = lt-ltb (1 - 1) c.columns (omega arith) in
    record {
      some = omega arith;
      near = rw (first, here) same;
      order = rw (first, here, inside) same;
      skip = rw first refl;
    }

later_step : (c : PictureContext) (st : SliceState) (row n g : ℕ) → st.first ≡ false → st.address ≡ pos (row * c.columns + n) -ℤ pos (g + 1) → g < n → n < c.columns
    → (0 < g → (c.kind ≡ 2) ⊎ ((c.kind ≡ 3) × (st.intra ≡ false))) → IsStep c st (g + 1)
unfolding not_past in_order may_skip column skips
later_step c st row n g first at before small skip =
    let across : n - (g + 1) < c.columns = omega arith in
    let there : unsigned_abs st.address ≡ row * c.columns + (n - (g + 1)) = omega (arith, ints, at) in
    let col : unsigned_abs st.address % c.columns ≡ n - (g + 1) = ap (λ (k : ℕ). k % c.columns) there ∙ mod-mul-add row c.columns (n - (g + 1)) across in
    let inside : nat_lt (unsigned_abs st.address % c.columns + (g + 1)) c.columns ≡ true = lt-ltb _ c.columns (omega (arith, col)) in
    record {
      some = omega arith;
      near = rw first refl;
      order = rw (first, inside) refl;
      skip = rw first (may g refl);
    }
  where
    either_kind : (c.kind ≡ 2) ⊎ ((c.kind ≡ 3) × (st.intra ≡ false)) → (nat_eq c.kind 2 || (nat_eq c.kind 3 && not st.intra)) ≡ true
    either_kind (inl e) = rw e refl
    either_kind (inr h) = rw (h.0, h.1) refl

    may : (k : ℕ) → k ≡ g → (not (not (nat_eq (k + 1) 1)) || (nat_eq c.kind 2 || (nat_eq c.kind 3 && not st.intra))) ≡ true
    may zero e = refl
    may (suc k) e = ap (λ (b : Bool). not (not b) || (nat_eq c.kind 2 || (nat_eq c.kind 3 && not st.intra))) (ne_eqb (suc k + 1) 1 (λ one. omega (arith, one))) ∙ either_kind (skip (omega (arith, e)))

-- ---- behind a candidate

skipped_is : (d : Decision) (s : Begun) (x : Candidate) → x.skip ≡ true
    → with_candidate d s x ≡ record {
      state = d.state;
      text = s.text;
      row = with_macroblock 1 0 d.limits.column (candidate_at d x) s.row;
      work = s.work + d.limits.q * bits_taken d x;
      macroblocks = s.macroblocks;
    }
unfolding with_candidate
skipped_is d s x e = rw e refl

written_is : (d : Decision) (s : Begun) (x : Candidate) → x.skip ≡ false
    → with_candidate d s x ≡ record {
      state = after_macroblock d.context d.state x.macroblock;
      text = s.text ++ macroblock_text d.context s.state x.macroblock;
      row = with_macroblock 1 0 d.limits.column (candidate_at d x) s.row;
      work = s.work + d.limits.q * bits_taken d x;
      macroblocks = s.macroblocks ++ x.macroblock ∷ [];
    }
unfolding with_candidate
written_is d s x e = rw e refl

-- a type of a B picture has a direction or is intra
b_type : (v : MbType) → has_type_b v ≡ true → (v.forward ≡ true) ⊎ ((v.backward ≡ true) ⊎ (v.intra ≡ true))
b_type v e = elim (v.forward) as (λ f. v.forward ≡ f → (v.forward ≡ true) ⊎ ((v.backward ≡ true) ⊎ (v.intra ≡ true))) [
  | true ↦ λ f. inl f
  | false ↦ λ f. elim (v.backward) as (λ b. v.backward ≡ b → (v.forward ≡ true) ⊎ ((v.backward ≡ true) ⊎ (v.intra ≡ true))) [
    | true ↦ λ b. inr (inl b)
    | false ↦ λ b. elim (v.intra) as (λ k. v.intra ≡ k → (v.forward ≡ true) ⊎ ((v.backward ≡ true) ⊎ (v.intra ≡ true))) [
      | true ↦ λ k. inr (inr k)
      | false ↦ λ k. let none : false ≡ true = rw (f, b, k) at e in absurd cc
    ] refl
  ] refl
] refl

b_kind : (k : ℕ) (v : MbType) → k ≡ 3 → has_type k v ≡ true → has_type_b v ≡ true
unfolding has_type
b_kind k v e h = rw e at h

module _ (t : SliceTask) (slice : IsSlice t) where
  -- the start
  start_keeps : (row : Samples) → Keeps t 0 0 (begun t row 0)
  unfolding begun at_start slice_least
  start_keeps row = record {
    state = start_own t.context t.row t.q (t.row * t.context.columns) slice.q;
    dc = start_dc t.context t.row t.q (t.row * t.context.columns) slice.own.precision;
    first = refl;
    next = refl;
    address = omega (arith, ints);
    within = inr (refl, refl);
    skips = λ lt. absurd (omega arith);
    direction = λ k lt. absurd (omega arith);
    room = omega (arith, slice.least);
    most = omega arith;
    work = omega arith;
    covers = λ e. refl;
  }

  pub increment_is : (n g : ℕ) (s : Begun) → s.state.address ≡ pos (t.row * t.context.columns + n) -ℤ pos (g + 1) → increment_of (decision t s n) ≡ g + 1
  unfolding increment_of decision
  increment_is n g s e = ap (λ (z : ℤ). nat_abs (pos (t.row * t.context.columns + n) -ℤ z)) e ∙ omega (arith, ints)

  module _ (n g : ℕ) (s : Begun) (keeps : Keeps t n g s) (small : n < t.context.columns) where
    increment_here : increment_of (decision t s n) ≡ g + 1
    increment_here = increment_is n g s keeps.address

    step_here : IsStep t.context s.state (g + 1)
    step_here = elim keeps.within [
      | inl less ↦
          let later : s.state.first ≡ false = keeps.first ∙ ne_eqb n 0 (λ e. omega (arith, e, less)) in
          later_step t.context s.state t.row n g later keeps.address less small keeps.skips
      | inr none ↦
          let first : s.state.first ≡ true = keeps.first ∙ ap (λ (k : ℕ). nat_eq k 0) none.0 in
          let one : g ≡ 0 = none.1 in
          let at : s.state.address ≡ pos (t.row * t.context.columns) -ℤ pos 1 = omega (arith, ints, keeps.address, none.0, none.1) in
          subst (λ (k : ℕ). IsStep t.context s.state (k + 1)) (sym one) (first_step t.context s.state (t.row * t.context.columns) first at keeps.next (omega arith))
    ]

    pub there : IsStep (decision t s n).context (decision t s n).state (increment_of (decision t s n))
    unfolding decision
    there = subst (IsStep t.context s.state) (sym increment_here) step_here

    pub limits_here : AreLimits (decision t s n).limits
    unfolding decision
    limits_here = record { q = quantiser_code t s n slice.q; search = slice.search }

    pub fits_here : Fits (decision t s n) (choice_of (decision t s n))
    unfolding decision room
    fits_here =
        own_choice_fits (decision t s n) slice.own keeps.state.predictors (omega (arith, increment_here)) (most keeps.within) (omega (arith, increment_here, keeps.room))
      where
        most : (g < n) ⊎ ((n ≡ 0) × (g ≡ 0)) → increment_of (decision t s n) ≤ t.context.columns
        most (inl less) = omega (arith, increment_here)
        most (inr none) = omega (arith, increment_here, none.1)

    pub held_here : bits_taken (decision t s n) (hold (decision t s n)) ≤ (decision t s n).limits.room
    unfolding decision room
    held_here =
        omega (arith, hold_fits (decision t s n) slice.own keeps.state.predictors (omega (arith, increment_here)), increment_here, keeps.room, small)

    pub writable_here : (choice_of (decision t s n)).skip ≡ false → IsWritable (decision t s n).context (decision t s n).state (choice_of (decision t s n)).macroblock
    unfolding decision
    writable_here told = choice_written (decision t s n) slice.own s.state there keeps.state limits_here keeps.dc told

    -- a macroblock that is skipped is neither the first nor the last
    pub skip_where : candidates.may_skip (decision t s n) ≡ true → (0 < n) × ((n + 1 < t.context.columns) × ((t.context.kind ≡ 2) ⊎ ((t.context.kind ≡ 3) × (s.state.intra ≡ false))))
    unfolding candidates.may_skip decision
    skip_where may =
        let d = decision t s n in
        let inside = is_inside (skipped_mode t.context s.state) (place_of d) t.source.dims in
        let first = nat_eq n 0 in
        let last = nat_eq (n + 1) t.context.columns in
        let kinds = nat_eq t.context.kind 2 || (nat_eq t.context.kind 3 && not s.state.intra && inside) in
        let h = and_parts (not first && not last) kinds may in
        let ends = and_parts (not first) (not last) h.0 in
        let some : 0 < n = omega (arith, eqb-false n 0 (not_true first ends.0)) in
        let more : n + 1 < t.context.columns = omega (arith, small, eqb-false (n + 1) t.context.columns (not_true last ends.1)) in
        (some, (more, kind_of (nat_eq t.context.kind 2) inside refl h.1))
      where
        not_true : (b : Bool) → not b ≡ true → b ≡ false
        not_true true e = absurd cc
        not_true false e = refl

        kind_of : (b inside : Bool) → nat_eq t.context.kind 2 ≡ b → (b || (nat_eq t.context.kind 3 && not s.state.intra && inside)) ≡ true → (t.context.kind ≡ 2) ⊎ ((t.context.kind ≡ 3) × (s.state.intra ≡ false))
        kind_of true inside is e = inl (eqb-true t.context.kind 2 is)
        kind_of false inside is e =
            let h = and_parts (nat_eq t.context.kind 3 && not s.state.intra) inside e in
            let k = and_parts (nat_eq t.context.kind 3) (not s.state.intra) h.0 in
            inr (eqb-true t.context.kind 3 k.0, not_true s.state.intra k.1)

    skip_keeps : (choice_of (decision t s n)).skip ≡ true → Keeps t (suc n) (suc g) (with_candidate (decision t s n) s (choice_of (decision t s n)))
    unfolding decision
    skip_keeps e =
        let d = decision t s n in
        let h = skip_where ((choice_there d).skip e) in
        subst (Keeps t (suc n) (suc g)) (sym (skipped_is d s (choice_of d) e)) (record {
          state = keeps.state;
          dc = keeps.dc;
          first = keeps.first ∙ ne_eqb n 0 (λ none. omega (arith, none, h.0)) ∙ sym (ne_eqb (suc n) 0 (λ none. omega (arith, none)));
          next = keeps.next;
          address = omega (arith, ints, keeps.address);
          within = inl (more keeps.within h.0);
          skips = λ lt. h.1.1;
          direction = λ three lt. keeps.direction three h.0;
          room = omega (arith, keeps.room, h.1.0);
          most = omega (arith, keeps.most);
          work = skipped_work s.work (quantiser_at t s n) (bits_taken d (choice_of d)) (31 * length s.text) (skipped_bits d (choice_of d) e) keeps.work;
          covers = λ last. absurd (omega (arith, last, h.1.0));
        })
      where
        more : (g < n) ⊎ ((n ≡ 0) × (g ≡ 0)) → 0 < n → suc g < suc n
        more (inl less) some = omega (arith, less)
        more (inr none) some = absurd (omega (arith, none.0, some))

    left_is : (x : Candidate) → x.skip ≡ false → state_behind (decision t s n) x ≡ after_macroblock (decision t s n).context (decision t s n).state x.macroblock
    left_is x e = rw e refl

    room_here : (decision t s n).limits.room ≡ t.cap - (38 + length s.text) - 31 * (t.context.columns - 1 - n)
    unfolding decision room
    room_here = refl

    bits_here : (x : Candidate) → x.skip ≡ false → bits_taken (decision t s n) x ≡ length (macroblock_text t.context s.state x.macroblock)
    unfolding decision bits_taken
    bits_here x e = rw e refl

    write_keeps : (choice_of (decision t s n)).skip ≡ false → Keeps t (suc n) 0 (with_candidate (decision t s n) s (choice_of (decision t s n)))
    unfolding decision after_macroblock after
    write_keeps e =
        let d = decision t s n in
        let x = choice_of d in
        let text = macroblock_text t.context s.state x.macroblock in
        let bits = bits_here x e in
        let fits = fits_here in
        let len = length-append s.text text in
        let increment : x.macroblock.syntax.increment ≡ g + 1 = (choice_there d).increment e ∙ increment_here in
        let written = writable_here e in
        subst (Keeps t (suc n) 0) (sym (written_is d s x e)) (record {
          state = subst IsOwnState (left_is x e) (choice_leaves d keeps.state limits_here);
          dc = subst (λ (st : SliceState). AreDc 0 st.dc) (left_is x e) (choice_dc d slice.own.precision keeps.dc);
          first = sym (ne_eqb (suc n) 0 (λ none. omega (arith, none)));
          next = keeps.next;
          address = omega (arith, ints, keeps.address, increment);
          within = inl (omega arith);
          skips = λ lt. absurd (omega arith);
          direction = λ three lt. b_type x.macroblock.syntax.kind (b_kind t.context.kind x.macroblock.syntax.kind three written.macro.kind);
          room = omega (arith, keeps.room, small, fits.room, room_here, bits, len);
          most = omega (arith, keeps.most, fits.most, bits, len);
          work = written_work s.work (quantiser_at t s n) (bits_taken d x) (length s.text) (length (s.text ++ text)) (quantiser_code t s n slice.q).1 keeps.work (omega (arith, len, bits));
          covers = λ last. refl;
        })

  pub keeps_some : (row : Samples) (n : ℕ) → n ≤ t.context.columns → (g : ℕ) × Keeps t n g (begun t row n)
  unfolding begun
  keeps_some row zero le = (0, start_keeps row)
  keeps_some row (suc n) le =
      let before = keeps_some row n (omega (arith, le)) in
      let s = begun t row n in
      let d = decision t s n in
      elim (choice_of d).skip as (λ b. (choice_of d).skip ≡ b → (g : ℕ) × Keeps t (suc n) g (with_candidate d s (choice_of d))) [
        | true ↦ λ e. (suc before.0, skip_keeps n before.0 s before.1 (omega (arith, le)) e)
        | false ↦ λ e. (0, write_keeps n before.0 s before.1 (omega (arith, le)) e)
      ] refl

  pub keeps : (row : Samples) (n : ℕ) → n ≤ t.context.columns → Keeps t n (skipped_before t (begun t row n) n) (begun t row n)
  keeps row n le =
      let h = keeps_some row n le in
      let is : increment_of (decision t (begun t row n) n) - 1 ≡ h.0 = omega (arith, increment_is n h.0 (begun t row n) h.1.address) in
      subst (λ (g : ℕ). Keeps t n g (begun t row n)) (sym is) h.1

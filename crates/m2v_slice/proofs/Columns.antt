-- One macroblock more of a slice.
use Rattle.std.proofs.Common.{◌≡◌, ℕ, zero, suc, ◌+◌, ◌-◌, ◌*◌, ◌<◌, ◌≤◌, Bool, true, false, ◌⊎◌, inl, inr, List, [], ◌++◌, length, refl, ap, sym, ◌∙◌, subst, arith}
use Rattle.std.specs.Prelude.{nat_eq, if◌then◌else◌}
use Rattle.std.proofs.Common.{append-nil}
use Rattle.std.proofs.lemmas.Int.{ints}
use Rattle.std.proofs.lemmas.Bool.{eqb-false, true≢false}
use Rattle.m2v_plane.specs.declared.dims.Dims.{Dims}
use Rattle.m2v_plane.specs.declared.planes.Plane.{Plane}
use Rattle.m2v_plane.specs.declared.planes.Lines.{Lines}
use Rattle.m2v_plane.specs.Samples.{Samples}
use Rattle.m2v_plane.proofs.Places.{part_of-le}
use Rattle.m2v_pred.specs.Motion.{own_lines}
use Rattle.m2v_pred.specs.Inside.{is_inside}
use Rattle.m2v_pred.specs.Vectors.{IsPlace}
use Rattle.m2v_macroblock.specs.Modes.{skipped_mode}
use Rattle.m2v_macroblock.specs.m2v_recon.Macro.{with_macroblock}
use Rattle.m2v_macroblock.specs.m2v_macro.declared.values.SliceState.{SliceState}
use Rattle.m2v_choose.specs.declared.values.Limits.{Limits}
use Rattle.m2v_choose.specs.Decisions.{Decision, Candidate, place_of}
use Rattle.m2v_choose.specs.Choice.{candidate_at, choice_of, state_behind}
use Rattle.m2v_choose.specs.Laws.{StaysInside}
use Rattle.m2v_choose.specs.Trials.{IsBefore}
use Rattle.m2v_slice.specs.Slices.{SliceTask, Begun, room, quantiser_at, decision, with_candidate, begun}
use Rattle.m2v_slice.specs.Laws.{IsSlice, Keeps}
use Rattle.m2v_slice.specs.Steps.{HasReferences, CanCode, row_place, decision_at, text_of}
use Rattle.m2v_slice.proofs.Choices.{choice_there}
use Rattle.m2v_slice.proofs.Candidates.{bits_are}
use Rattle.m2v_slice.proofs.Keeps.{keeps_some, skip_where, limits_here, fits_here, held_here, writable_here}
use Rattle.m2v_slice.proofs.Fits.{place_here, chosen}
use Rattle.m2v_slice.proofs.Motions.{written_can, skipped_can}

module _ (t : SliceTask) (row : Samples) where
  pub row_dims : (n : ℕ) → (begun t row n).row.dims ≡ row.dims
  unfolding begun with_candidate
  row_dims zero = refl
  row_dims (suc n) = row_dims n

  state_suc : (n : ℕ) → (begun t row (suc n)).state ≡ state_behind (decision t (begun t row n) n) (choice_of (decision t (begun t row n) n))
  unfolding begun with_candidate
  state_suc n = refl

  text_suc : (n : ℕ) → (begun t row (suc n)).text ≡ (begun t row n).text ++ text_of (decision t (begun t row n) n) (choice_of (decision t (begun t row n) n))
  unfolding begun with_candidate decision
  text_suc n =
      let s = begun t row n in
      let d = decision t s n in
      cases (choice_of d).skip s.text _
    where
      cases : (b : Bool) (xs ys : List Bool) → (if b then xs else xs ++ ys) ≡ xs ++ (if b then [] else ys)
      cases true xs ys = sym (append-nil xs)
      cases false xs ys = refl

  row_suc : (n : ℕ) → (begun t row (suc n)).row ≡ with_macroblock 1 0 n (candidate_at (decision t (begun t row n) n) (choice_of (decision t (begun t row n) n))) (begun t row n).row
  unfolding begun with_candidate decision
  row_suc n = refl

  work_suc : (n : ℕ) → (begun t row (suc n)).work
      ≡ (begun t row n).work + quantiser_at t (begun t row n) n * length (text_of (decision t (begun t row n) n) (choice_of (decision t (begun t row n) n)))
  unfolding begun with_candidate decision
  work_suc n =
      let s = begun t row n in
      let d = decision t s n in
      ap (λ (bits : ℕ). s.work + quantiser_at t s n * bits) (sym (bits_are d (choice_of d)))

  pub state_more : (n : ℕ) → (begun t row (n + 1)).state ≡ state_behind (decision t (begun t row n) n) (choice_of (decision t (begun t row n) n))
  state_more n = ap (λ (k : ℕ). (begun t row k).state) (omega arith) ∙ state_suc n

  pub text_more : (n : ℕ) → (begun t row (n + 1)).text ≡ (begun t row n).text ++ text_of (decision t (begun t row n) n) (choice_of (decision t (begun t row n) n))
  text_more n = ap (λ (k : ℕ). (begun t row k).text) (omega arith) ∙ text_suc n

  pub row_more : (n : ℕ) → (begun t row (n + 1)).row ≡ with_macroblock 1 0 n (candidate_at (decision t (begun t row n) n) (choice_of (decision t (begun t row n) n))) (begun t row n).row
  row_more n = ap (λ (k : ℕ). (begun t row k).row) (omega arith) ∙ row_suc n

  pub work_more : (n : ℕ) → (begun t row (n + 1)).work
      ≡ (begun t row n).work + quantiser_at t (begun t row n) n * length (text_of (decision t (begun t row n) n) (choice_of (decision t (begun t row n) n)))
  work_more n = ap (λ (k : ℕ). (begun t row k).work) (omega arith) ∙ work_suc n

-- what a macroblock is decided by, as the program has it
pub decision_is : (t : SliceTask) (s : Begun) (n : ℕ) (st : SliceState) (limits : Limits) (bits q : ℕ) → st ≡ s.state → bits ≡ 38 + length s.text
    → q ≡ quantiser_at t s n
    → limits ≡ record {
      q = q;
      search = t.search;
      room = t.cap - bits - 31 * (t.context.columns - 1 - n);
      first = nat_eq n 0;
      last = nat_eq (n + 1) t.context.columns;
      column = n;
      row = t.row;
    }
    → decision_at t.source t.forward t.backward t.context st limits ≡ decision t s n
unfolding decision room
decision_is t s n st limits bits q same len coarse is =
    let all : limits ≡ (decision t s n).limits = is ∙ (λ i. record {
      q = coarse i;
      search = t.search;
      room = t.cap - len i - 31 * (t.context.columns - 1 - n);
      first = nat_eq n 0;
      last = nat_eq (n + 1) t.context.columns;
      column = n;
      row = t.row;
    }) in
    λ i. decision_at t.source t.forward t.backward t.context (same i) (all i)

-- as long as the text so far and its header
pub long_so : (t : SliceTask) → IsSlice t → (row : Samples) (n bits : ℕ) → n < t.context.columns → bits ≡ 38 + length (begun t row n).text
    → bits + 31 * (t.context.columns - n) ≤ t.cap
long_so t slice row n bits small len = let h = keeps_some t slice row n (omega (arith, small)) in omega (arith, h.1.room, len, small)

pub short_so : (t : SliceTask) → IsSlice t → (row : Samples) (n : ℕ) → n ≤ t.context.columns → length (begun t row n).text ≤ 4608 * n
short_so t slice row n le = (keeps_some t slice row n le).1.most

pub inside_skipped : (d : Decision) (x : Candidate) → x.skip ≡ true → StaysInside d x → is_inside (skipped_mode d.context d.state) (place_of d) d.dims ≡ true
inside_skipped d x e h = rw e at h

-- each macroblock can be coded
module _ (t : SliceTask) (f b : Dims) (ahead behind : Plane → Lines → ℕ → Type 0) (slice : IsSlice t)
    (refs : HasReferences t.context.kind t.source.dims (row_place t.context t.row) f b ahead behind) (row : Samples) (n : ℕ) (small : n < t.context.columns) where
  rows_72 : t.row < 72
  rows_72 =
      let lines = own_lines t.context.extension.structure in
      omega (arith, slice.row, slice.size.mb_rows, part_of-le lines (16 * t.source.dims.mb_rows))

  before_here : (g : ℕ) → Keeps t n g (begun t row n) → IsBefore (decision t (begun t row n) n).context (decision t (begun t row n) n).state (decision t (begun t row n) n).limits
  unfolding decision
  before_here g k = elim k.within [
    | inl less ↦ inl (omega (arith, ints, k.address), omega (arith, ints, k.address))
    | inr none ↦ inr (ap (λ (m : ℕ). nat_eq m 0) none.0, k.address ∙ omega (arith, ints, none.0, none.1))
  ]

  references_here : HasReferences (decision t (begun t row n) n).context.kind (decision t (begun t row n) n).dims (place_of (decision t (begun t row n) n)) f b ahead behind
  unfolding decision
  references_here =
      let d = decision t (begun t row n) n in
      let lies = place_here t slice row n small in
      record {
        forward = λ moves. record {
          lies = subst (IsPlace (place_of d)) (sym (refs.forward_size moves)) lies;
          near = λ l is. record { rows = ((refs.forward moves).near l is).rows };
        };
        forward_size = refs.forward_size;
        backward = λ three. record {
          lies = subst (IsPlace (place_of d)) (sym (refs.backward_size three)) lies;
          near = λ l is. record { rows = ((refs.backward three).near l is).rows };
        };
        backward_size = refs.backward_size;
      }

  skipped_here : (g : ℕ) → Keeps t n g (begun t row n) → (choice_of (decision t (begun t row n) n)).skip ≡ true
      → ((decision t (begun t row n) n).context.kind ≡ 2)
      ⊎ (((decision t (begun t row n) n).context.kind ≡ 3) × (((decision t (begun t row n) n).state.forward ≡ true) ⊎ ((decision t (begun t row n) n).state.backward ≡ true)))
  unfolding decision
  skipped_here g k e =
      let d = decision t (begun t row n) n in
      let h = skip_where t slice n g (begun t row n) k small ((choice_there d).skip e) in
      elim h.1.1 [ inl two ↦ inl two | inr three ↦ inr (three.0, moved three.1 (k.direction three.0 h.0)) ]
    where
      moved : (begun t row n).state.intra ≡ false → ((begun t row n).state.forward ≡ true) ⊎ (((begun t row n).state.backward ≡ true) ⊎ ((begun t row n).state.intra ≡ true))
          → ((begun t row n).state.forward ≡ true) ⊎ ((begun t row n).state.backward ≡ true)
      moved none (inl ahead_one) = inl ahead_one
      moved none (inr (inl behind_one)) = inr behind_one
      moved none (inr (inr intra)) = absurd (true≢false (sym intra ∙ none))

  -- whatever was skipped before
  code_by : (g : ℕ) → Keeps t n g (begun t row n) → CanCode (decision t (begun t row n) n) f b ahead behind
  unfolding decision
  code_by g k =
      let s = begun t row n in
      let d = decision t s n in
      let lies = place_here t slice row n small in
      let limits = limits_here t slice n g s k small in
      let writable = writable_here t slice n g s k small in
      record {
        own = slice.own;
        state = k.state;
        dc = k.dc;
        direction = λ three later. k.direction three (omega (arith, eqb-false n 0 later));
        address = before_here g k;
        limits = limits;
        row = rows_72;
        column = small;
        place = lies;
        references = references_here;
        held = held_here t slice n g s k small;
        fits = fits_here t slice n g s k small;
        writable = writable;
        skipped = λ e. skipped_can d f b ahead behind slice.own references_here k.state lies (inside_skipped d (choice_of d) e (chosen t slice row n small).inside) (skipped_here g k e);
        written = λ told other. written_can d f b ahead behind slice.own references_here limits slice.size lies told (writable told) other;
      }

  pub can_code : CanCode (decision t (begun t row n) n) f b ahead behind
  can_code = let h = keeps_some t slice row n (omega (arith, small)) in code_by h.0 h.1

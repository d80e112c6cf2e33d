-- An I picture is predicted from nothing: its samples are the same for all references.
use Rattle.std.proofs.Common.{◌≡◌, ℕ, ◌-◌, Bool, true, false, List, [], ◌∷◌, ◌++◌, inl, inr, refl, sym, ap, subst, ◌∙◌, append_assoc}
use Rattle.std.specs.Prelude.{nat_eq, not, ◌||◌, ◌&&◌, replicate, Result, Ok, Err}
use Rattle.std.proofs.lemmas.Bool.{eq-eqb, cond-true, cond-false}
use Rattle.m2v_bits.specs.Syntax.{seq, done, rule, choose, renamed, repeated, Rounds, last, more}
use Rattle.m2v_plane.specs.Samples.{Samples}
use Rattle.m2v_vlc.specs.declared.values.MbType.{MbType}
use Rattle.m2v_vlc.specs.Codes.{Row as CodeRow, In, code_at}
use Rattle.m2v_vlc.specs.Tables.{type_i}
use Rattle.m2v_pred.specs.Predicted.{predicted, block_by}
use Rattle.m2v_macro.specs.declared.values.MacroSyntax.{MacroSyntax}
use Rattle.m2v_macro.specs.declared.values.SliceState.{SliceState}
use Rattle.m2v_macro.specs.declared.values.PictureContext.{PictureContext}
use Rattle.m2v_macro.specs.Macros.{allowed_at, step_at, kind_at, macro_at}
use Rattle.m2v_macro.specs.States.{skips, may_skip}
use Rattle.m2v_model.specs.m2v_macroblock.Macroblocks.{Macroblock, after_macroblock}
use Rattle.m2v_model.specs.m2v_macroblock.Modes.{place_of, address_of, skipped_before, first_skipped, mode_of}
use Rattle.m2v_model.specs.m2v_macroblock.Predictions.{prediction_of, sample_at}
use Rattle.m2v_model.specs.declared.setup.SliceSetup.{SliceSetup}
use Rattle.m2v_model.specs.Samples.{References, Put, skipped_painted, own_painted, painted, all_painted}
use Rattle.m2v_model.specs.Slices.{Row, Slice, macroblock_at, macroblock_round, macroblocks_at, slice_start, slice_at}
use Rattle.m2v_model.specs.Units.{body}
use Rattle.m2v_decode.specs.m2v_dec_rows.Rows.{Unread, Slices, Placed, Begun, Read, and_slice, then_slice, slice_read, slices_read, first_of, own, row_read, begun_painted, slices_painted}
use Rattle.m2v_decode.proofs.m2v_dec_rows.Starts.{read_slice_is}

-- ---- types

row_intra : (r : CodeRow MbType) → In type_i r → r.value.intra ≡ true
unfolding type_i
row_intra r (inl e) = sym (ap (λ (x : CodeRow MbType). x.value.intra) e)
row_intra r (inr (inl e)) = sym (ap (λ (x : CodeRow MbType). x.value.intra) e)
row_intra r (inr (inr h)) = absurd h

kind_intra : (kind : ℕ) (v : MbType) (t rest : List Bool) → kind ≡ 1 → (kind_at kind).Stands v t rest → v.intra ≡ true
unfolding kind_at choose renamed code_at
kind_intra kind v t rest e (inl h) = subst (λ (x : MbType). x.intra ≡ true) h.1.2 (row_intra h.1.0 h.1.1)
kind_intra kind v t rest e (inr h) = absurd (true_false (sym (eq-eqb kind 1 e) ∙ h.0))
  where
    true_false : true ≡ false → ⊥
    true_false p = cc

macro_intra : (c : PictureContext) (st : SliceState) (m : MacroSyntax) (t rest : List Bool) → c.kind ≡ 1 → (macro_at c st).Stands m t rest → m.kind.intra ≡ true
unfolding macro_at seq done
macro_intra c st m t rest e h =
    subst (λ (v : MbType). v.intra ≡ true) (sym (ap (λ (x : MacroSyntax). x.kind) h.3.3.3.3.3.3.3.0)) (kind_intra c.kind h.3.0 h.1 h.3.1 e h.3.2)

macroblock_intra : (s : SliceSetup) (st : SliceState) (x : Macroblock) (t rest : List Bool) → s.context.kind ≡ 1 → (macroblock_at s st).Stands x t rest → x.syntax.kind.intra ≡ true
unfolding macroblock_at seq done renamed
macroblock_intra s st x t rest e h =
    subst (λ (y : Macroblock). y.syntax.kind.intra ≡ true) (sym h.3.3.3.3.3.0) (macro_intra s.context st h.3.0 h.1 h.3.1 e h.3.2)

-- ---- increments

step_may : (c : PictureContext) (st : SliceState) (n : ℕ) (t rest : List Bool) → (step_at c st).Stands n t rest → may_skip c st n ≡ true
unfolding step_at allowed_at seq rule done
step_may c st n t rest h = subst (λ (k : ℕ). may_skip c st k ≡ true) (sym h.3.3.3.3.3.0) h.3.3.3.3.2.0

macro_may : (c : PictureContext) (st : SliceState) (m : MacroSyntax) (t rest : List Bool) → (macro_at c st).Stands m t rest → may_skip c st m.increment ≡ true
unfolding macro_at seq done
macro_may c st m t rest h = subst (λ (k : ℕ). may_skip c st k ≡ true) (sym (ap (λ (x : MacroSyntax). x.increment) h.3.3.3.3.3.3.3.0)) (step_may c st h.0 t h.1 h.2)

macroblock_may : (s : SliceSetup) (st : SliceState) (x : Macroblock) (t rest : List Bool) → (macroblock_at s st).Stands x t rest → may_skip s.context st x.syntax.increment ≡ true
unfolding macroblock_at seq done renamed
macroblock_may s st x t rest h = subst (λ (y : Macroblock). may_skip s.context st y.syntax.increment ≡ true) (sym h.3.3.3.3.3.0) (macro_may s.context st h.3.0 h.1 h.3.1 h.3.2)

-- ---- macroblocks

-- a macroblock is intra, and none is skipped before it
pub record IsAlone (st : SliceState) (m : MacroSyntax) : Type 0 where
  pub intra : m.kind.intra ≡ true
  pub next : skips st m.increment ≡ false

none_skipped : (skip two three behind : Bool) → two ≡ false → three ≡ false → (not skip || (two || (three && behind))) ≡ true → skip ≡ false
none_skipped false two three behind e f h = refl
none_skipped true true three behind e f h = absurd cc
none_skipped true false true behind e f h = absurd cc
none_skipped true false false behind e f h = absurd cc

is_next : (c : PictureContext) (st : SliceState) (n : ℕ) → c.kind ≡ 1 → may_skip c st n ≡ true → skips st n ≡ false
unfolding may_skip
is_next c st n e h =
    none_skipped (skips st n) (nat_eq c.kind 2) (nat_eq c.kind 3) (not st.intra) (ap (λ (k : ℕ). nat_eq k 2) e) (ap (λ (k : ℕ). nat_eq k 3) e) h

-- all macroblocks of a list are so
unfoldable pub AreAlone : PictureContext → SliceState → List Macroblock → Type 0
AreAlone c st [] = Unit {0}
AreAlone c st (x ∷ xs) = IsAlone st x.syntax × AreAlone c (after_macroblock c st x) xs

-- a macroblock more
record AddsAlone (s : SliceSetup) (r z : Row) : Type 0 where
  x : Macroblock
  alone : IsAlone r.state x.syntax
  state : z.state ≡ after_macroblock s.context r.state x
  macroblocks : z.macroblocks ≡ r.macroblocks ++ x ∷ []

round_alone : (s : SliceSetup) (r z : Row) (b : Bool) (t rest : List Bool) → s.context.kind ≡ 1 → (macroblock_round s r).Stands (b, z) t rest → AddsAlone s r z
unfolding macroblock_round seq done
round_alone s r z b t rest e h =
    let is = ap (λ (y : Bool × Row). y.1) h.3.3.3.3.0 in
    record {
      x = h.3.0;
      alone = record { intra = macroblock_intra s r.state h.3.0 h.1 h.3.1 e h.3.2; next = is_next s.context r.state h.3.0.syntax.increment e (macroblock_may s r.state h.3.0 h.1 h.3.1 h.3.2) };
      state = ap (λ (y : Row). y.state) is;
      macroblocks = ap (λ (y : Row). y.macroblocks) is;
    }

-- the macroblocks that rounds add
record AddsAll (s : SliceSetup) (r z : Row) : Type 0 where
  xs : List Macroblock
  alone : AreAlone s.context r.state xs
  macroblocks : z.macroblocks ≡ r.macroblocks ++ xs

first_alone : (s : SliceSetup) (r z : Row) → AddsAlone s r z → AddsAll s r z
unfolding AreAlone
first_alone s r z a = record { xs = a.x ∷ []; alone = (a.alone, tt); macroblocks = a.macroblocks }

more_alone : (s : SliceSetup) (r m z : Row) → AddsAlone s r m → AddsAll s m z → AddsAll s r z
unfolding AreAlone
more_alone s r m z a l = record {
  xs = a.x ∷ l.xs;
  alone = (a.alone, subst (λ (st : SliceState). AreAlone s.context st l.xs) a.state l.alone);
  macroblocks = l.macroblocks ∙ ap (λ (ys : List Macroblock). ys ++ l.xs) a.macroblocks ∙ append_assoc r.macroblocks (a.x ∷ []) l.xs;
}

rounds_alone : (s : SliceSetup) (r z : Row) (t rest : List Bool) → s.context.kind ≡ 1 → Rounds (macroblock_round s) r z t rest → AddsAll s r z
rounds_alone s r z t rest e (last h) = first_alone s r z (round_alone s r z false _ _ e h)
rounds_alone s r z t rest e (more {m = m} h later) = more_alone s r m z (round_alone s r m true _ _ e h) (rounds_alone s m z _ _ e later)

-- ---- slices

abbrev BeginsAlone : SliceSetup → ℕ → ℕ → Slice → Type 0
BeginsAlone s row before x = AreAlone s.context (slice_start s.context row before x.info.quantiser) x.macroblocks

stands_alone : (s : SliceSetup) (covered row : ℕ) (x : Slice) (t rest : List Bool) → s.context.kind ≡ 1 → (slice_at s covered row).Stands x t rest → BeginsAlone s row covered x
unfolding slice_at seq done macroblocks_at repeated
stands_alone s covered row x t rest e h =
    let y = h.3.3.3.3.0 in
    let all = rounds_alone s _ y _ _ e h.3.3.3.3.2 in
    let are = subst (AreAlone s.context (slice_start s.context row covered h.3.0.quantiser)) (sym all.macroblocks) all.alone in
    subst (BeginsAlone s row covered) (sym h.3.3.3.3.3.0) are

read_alone : (s : SliceSetup) (u : Unread) (covered : ℕ) (x : Slice) → s.context.kind ≡ 1 → slice_read s covered u ≡ Ok x → BeginsAlone s u.row covered x
unfolding slice_read
read_alone s u covered x e h =
    let found = read_slice_is s u covered x _ refl h in
    stands_alone s covered u.row x (body u.unit) found.0 e found.1

-- all slices of a list are so
unfoldable pub SlicesAlone : SliceSetup → List Begun → Type 0
SlicesAlone s [] = Unit {0}
SlicesAlone s (x ∷ xs) = BeginsAlone s x.row x.before x.slice × SlicesAlone s xs

one_more : (s : SliceSetup) (xs : List Begun) (x : Begun) → SlicesAlone s xs → BeginsAlone s x.row x.before x.slice → SlicesAlone s (xs ++ x ∷ [])
unfolding SlicesAlone
one_more s [] x h own = (own, tt)
one_more s (y ∷ xs) x h own = (h.0, one_more s xs x h.1 own)

-- what was read so far is so
unfoldable ReadAlone : SliceSetup → Read → Type 0
ReadAlone s (Ok x) = SlicesAlone s x.0
ReadAlone s (Err f) = Unit {0}

and_alone : (s : SliceSetup) (xs : List Begun) (row before : ℕ) (r : Result Slice Placed) → SlicesAlone s xs → ((x : Slice) → r ≡ Ok x → BeginsAlone s row before x) → ReadAlone s (and_slice xs row before r)
unfolding ReadAlone
and_alone s xs row before (Ok x) h own = one_more s xs (record { row = row; before = before; slice = x }) h (own x refl)
and_alone s xs row before (Err f) h own = tt

then_alone : (s : SliceSetup) (now : Read) (u : Unread) → s.context.kind ≡ 1 → ReadAlone s now → ReadAlone s (then_slice s now u)
unfolding ReadAlone
then_alone s (Ok x) u e h = and_alone s x.0 u.row x.1 (slice_read s x.1 u) h (λ y is. read_alone s u x.1 y e is)
then_alone s (Err f) u e h = tt

slices_alone : (s : SliceSetup) (now : Read) (us : Slices) → s.context.kind ≡ 1 → ReadAlone s now → ReadAlone s (slices_read s now us)
unfolding slices_read
slices_alone s now [] e h = h
slices_alone s now (u ∷ us) e h = slices_alone s (then_slice s now u) us e (then_alone s now u e h)

none_read : (s : SliceSetup) (n : ℕ) → ReadAlone s (Ok ([], n))
unfolding ReadAlone SlicesAlone
none_read s n = tt

as_read : (s : SliceSetup) (xs : List Begun) (n : ℕ) (r : Read) → r ≡ Ok (xs, n) → ReadAlone s r → SlicesAlone s xs
unfolding ReadAlone
as_read s xs n r e h = subst (ReadAlone s) e h

row_alone : (s : SliceSetup) (row : ℕ) (us : Slices) (xs : List Begun) (n : ℕ) → s.context.kind ≡ 1 → row_read s row us ≡ Ok (xs, n) → SlicesAlone s xs
row_alone s row us xs n e is = as_read s xs n (row_read s row us) is (slices_alone s (Ok ([], first_of s row)) (own row us) e (none_read s (first_of s row)))

-- ---- samples

skipped_none : (put : Put) (s : SliceSetup) (refs : References) (st : SliceState) (at n : ℕ) (now : Samples) → n ≡ 0 → skipped_painted put s refs st at n now ≡ now
unfolding skipped_painted
skipped_none put s refs st at n now e = ap (λ (k : ℕ). skipped_painted put s refs st at k now) e

intra_none : (a : References) (s : SliceSetup) (m : MacroSyntax) (at : ℕ) → m.kind.intra ≡ true → prediction_of a.forward a.backward s.context (place_of s.context at) m ≡ replicate 384 0
unfolding prediction_of
intra_none a s m at e = cond-true m.kind.intra (replicate 384 0) (block_by (predicted a.forward a.backward (mode_of s.context m) (place_of s.context at))) e

own_same : (put : Put) (s : SliceSetup) (a b : References) (st : SliceState) (x : Macroblock) (now : Samples) → x.syntax.kind.intra ≡ true → own_painted put s a st x now ≡ own_painted put s b st x now
unfolding own_painted
own_same put s a b st x now e =
    let at = address_of st x.syntax in
    ap (λ (p : List ℕ). put (place_of s.context at) (sample_at s.context st p x) now) (intra_none a s x.syntax at e ∙ sym (intra_none b s x.syntax at e))

painted_same : (put : Put) (s : SliceSetup) (a b : References) (st : SliceState) (x : Macroblock) (now : Samples) → IsAlone st x.syntax → painted put s a st x now ≡ painted put s b st x now
unfolding painted
painted_same put s a b st x now h =
    let none = cond-false (skips st x.syntax.increment) (x.syntax.increment - 1) 0 h.next in
    ap (own_painted put s a st x) (skipped_none put s a st (first_skipped st) (skipped_before st x.syntax) now none)
    ∙ own_same put s a b st x now h.intra
    ∙ ap (own_painted put s b st x) (sym (skipped_none put s b st (first_skipped st) (skipped_before st x.syntax) now none))

all_same : (put : Put) (s : SliceSetup) (a b : References) (st : SliceState) (xs : List Macroblock) (now : Samples) → AreAlone s.context st xs → all_painted put s a st xs now ≡ all_painted put s b st xs now
unfolding all_painted AreAlone
all_same put s a b st [] now h = refl
all_same put s a b st (x ∷ xs) now h =
    let next = after_macroblock s.context st x in
    ap (all_painted put s a next xs) (painted_same put s a b st x now h.0) ∙ all_same put s a b next xs (painted put s b st x now) h.1

slices_same : (put : Put) (s : SliceSetup) (a b : References) (now : Samples) (xs : List Begun) → SlicesAlone s xs → slices_painted put s a now xs ≡ slices_painted put s b now xs
unfolding slices_painted SlicesAlone
slices_same put s a b now [] h = refl
slices_same put s a b now (x ∷ xs) h =
    ap (λ (y : Samples). slices_painted put s a y xs) (all_same put s a b (slice_start s.context x.row x.before x.slice.info.quantiser) x.slice.macroblocks now h.0)
    ∙ slices_same put s a b (begun_painted put s b now x) xs h.1

-- the row of an I picture is the same for all references
pub row_same : (put : Put) (s : SliceSetup) (a b : References) (row : ℕ) (us : Slices) (now : Samples) (xs : List Begun) (n : ℕ) → s.context.kind ≡ 1 → row_read s row us ≡ Ok (xs, n)
    → slices_painted put s a now xs ≡ slices_painted put s b now xs
row_same put s a b row us now xs n e is = slices_same put s a b now xs (row_alone s row us xs n e is)

-- A slice of an I picture is painted without references: each macroblock is intra, and none is skipped.
use Rattle.std.proofs.Common.{◌≡◌, ℕ, Bool, true, false, List, [], ◌∷◌, ◌++◌, inl, inr, refl, sym, ap, subst, ◌∙◌, append_assoc}
use Rattle.std.specs.Prelude.{nat_eq, ◌||◌, ◌&&◌, not}
use Rattle.m2v_bits.specs.Syntax.{seq, done, rule, choose, renamed, repeated, Rounds, last, more}
use Rattle.m2v_model.specs.m2v_macroblock.m2v_vlc.declared.values.MbType.{MbType}
use Rattle.m2v_model.specs.m2v_macroblock.m2v_vlc.Tables.{type_i}
use Rattle.m2v_model.specs.m2v_macroblock.m2v_vlc.Codes.{code_at}
use Rattle.m2v_order.specs.m2v_plane.Samples.{Samples}
use Rattle.m2v_model.specs.m2v_macroblock.m2v_macro.declared.values.MacroSyntax.{MacroSyntax}
use Rattle.m2v_model.specs.m2v_macroblock.m2v_macro.declared.values.SliceState.{SliceState}
use Rattle.m2v_model.specs.m2v_macroblock.m2v_macro.declared.values.PictureContext.{PictureContext}
use Rattle.m2v_model.specs.m2v_macroblock.m2v_macro.Macros.{kind_at, allowed_at, step_at, macro_at}
use Rattle.m2v_model.specs.m2v_macroblock.m2v_macro.States.{skips, may_skip}
use Rattle.m2v_model.specs.m2v_macroblock.Macroblocks.{Macroblock, after_macroblock}
use Rattle.m2v_model.specs.m2v_macroblock.Predictions.{prediction_of}
use Rattle.m2v_model.specs.declared.setup.SliceSetup.{SliceSetup}
use Rattle.m2v_model.specs.Samples.{Put, References, skipped_painted, own_painted, painted, all_painted}
use Rattle.m2v_model.specs.Slices.{Row, Slice, macroblock_at, macroblock_round, macroblocks_at, slice_start, slice_at}

-- intra, and behind no skipped macroblock
abbrev IsStill : SliceState → MacroSyntax → Type 0
IsStill st m = (m.kind.intra ≡ true) × (skips st m.increment ≡ false)

abbrev pub AreStill : SliceSetup → SliceState → List Macroblock → Type 0
AreStill s st [] = Unit {0}
AreStill s st (x ∷ xs) = IsStill st x.syntax × AreStill s (after_macroblock s.context st x) xs

-- ---- painting

own_same : (put : Put) (s : SliceSetup) (a b : References) (st : SliceState) (x : Macroblock) (now : Samples) → IsStill st x.syntax → painted put s a st x now ≡ painted put s b st x now
unfolding painted own_painted skipped_painted prediction_of
own_same put s a b st x now h = rw (h.0, h.1) refl

pub all_same : (put : Put) (s : SliceSetup) (a b : References) (st : SliceState) (xs : List Macroblock) (now : Samples) → AreStill s st xs → all_painted put s a st xs now ≡ all_painted put s b st xs now
unfolding all_painted
all_same put s a b st [] now h = refl
all_same put s a b st (x ∷ xs) now h =
    ap (λ (n : Samples). all_painted put s a (after_macroblock s.context st x) xs n) (own_same put s a b st x now h.0)
    ∙ all_same put s a b (after_macroblock s.context st x) xs (painted put s b st x now) h.1

-- ---- what is read

type_intra : (v : MbType) (t rest : List Bool) → (kind_at 1).Stands v t rest → v.intra ≡ true
unfolding kind_at choose renamed code_at type_i
type_intra v t rest (inl h) = elim h.1.1 [
  | inl e ↦ ap (λ (k : MbType). k.intra) (sym h.1.2) ∙ ap (λ r. r.value.intra) (sym e)
  | inr z ↦ elim z [ inl e ↦ ap (λ (k : MbType). k.intra) (sym h.1.2) ∙ ap (λ r. r.value.intra) (sym e) | inr none ↦ absurd none ]
]
type_intra v t rest (inr h) = absurd (cc (h.0))

none_skipped : (b : Bool) → (not b || false) ≡ true → b ≡ false
none_skipped true e = absurd cc
none_skipped false e = refl

step_still : (c : PictureContext) (st : SliceState) (n : ℕ) (t rest : List Bool) → c.kind ≡ 1 → (step_at c st).Stands n t rest → skips st n ≡ false
unfolding step_at allowed_at seq rule done may_skip
step_still c st n t rest one h =
    let own = h.3.0 in
    let may : (not (skips st own) || (nat_eq c.kind 2 || (nat_eq c.kind 3 && not st.intra))) ≡ true = h.3.3.3.3.2.0 in
    let off : skips st own ≡ false = none_skipped (skips st own) (subst (λ (k : ℕ). (not (skips st own) || (nat_eq k 2 || (nat_eq k 3 && not st.intra))) ≡ true) one may) in
    ap (skips st) h.3.3.3.3.3.0 ∙ off

macro_still : (c : PictureContext) (st : SliceState) (m : MacroSyntax) (t rest : List Bool) → c.kind ≡ 1 → (macro_at c st).Stands m t rest → IsStill st m
unfolding macro_at seq done
macro_still c st m t rest one h =
    let is = h.3.3.3.3.3.3.3.0 in
    let kind = subst (λ (k : ℕ). (kind_at k).Stands h.3.0 h.1 h.3.1) one h.3.2 in
    (ap (λ (x : MacroSyntax). x.kind.intra) is ∙ type_intra h.3.0 h.1 h.3.1 kind, ap (λ (x : MacroSyntax). skips st x.increment) is ∙ step_still c st h.0 t h.1 one h.2)

macroblock_still : (s : SliceSetup) (st : SliceState) (x : Macroblock) (t rest : List Bool) → s.context.kind ≡ 1 → (macroblock_at s st).Stands x t rest → IsStill st x.syntax
unfolding macroblock_at seq done renamed
macroblock_still s st x t rest one h = subst (λ (y : Macroblock). IsStill st y.syntax) (sym h.3.3.3.3.3.0) (macro_still s.context st h.3.0 h.1 h.3.1 one h.3.2)

-- a round adds a macroblock
round_adds : (s : SliceSetup) (r z : Row) (b : Bool) (t rest : List Bool) → s.context.kind ≡ 1 → (macroblock_round s r).Stands (b, z) t rest
    → (x : Macroblock) × IsStill r.state x.syntax × (z.state ≡ after_macroblock s.context r.state x) × (z.macroblocks ≡ r.macroblocks ++ x ∷ [])
unfolding macroblock_round seq done
round_adds s r z b t rest one h =
    let is = ap (λ (y : Bool × Row). y.1) h.3.3.3.3.0 in
    (h.3.0, macroblock_still s r.state h.3.0 h.1 h.3.1 one h.3.2, ap (λ (y : Row). y.state) is, ap (λ (y : Row). y.macroblocks) is)

rounds_still : (s : SliceSetup) (r z : Row) (t rest : List Bool) → s.context.kind ≡ 1 → Rounds (macroblock_round s) r z t rest → (xs : List Macroblock) × (z.macroblocks ≡ r.macroblocks ++ xs) × AreStill s r.state xs
rounds_still s r z t rest one (last h) = let a = round_adds s r z false _ _ one h in (a.0 ∷ [], a.3, (a.1, tt))
rounds_still s r z t rest one (more {m = m} h later) =
    let a = round_adds s r m true _ _ one h in
    let i = rounds_still s m z _ _ one later in (
      a.0 ∷ i.0,
      i.1 ∙ ap (λ (l : List Macroblock). l ++ i.0) a.3 ∙ append_assoc r.macroblocks (a.0 ∷ []) i.0,
      (a.1, subst (λ (st : SliceState). AreStill s st i.0) a.2 i.2),
    )

-- a slice of an I picture
pub slice_still : (s : SliceSetup) (covered row : ℕ) (x : Slice) (t rest : List Bool) → s.context.kind ≡ 1 → (slice_at s covered row).Stands x t rest
    → AreStill s (slice_start s.context row covered x.info.quantiser) x.macroblocks
unfolding slice_at seq done macroblocks_at repeated
slice_still s covered row x t rest one h =
    let info = h.3.0 in
    let y = h.3.3.3.3.0 in
    let i = rounds_still s _ y _ _ one h.3.3.3.3.2 in
    let is = h.3.3.3.3.3.0 in
    subst (λ (w : Slice). AreStill s (slice_start s.context row covered w.info.quantiser) w.macroblocks) (sym is)
    (subst (AreStill s (slice_start s.context row covered info.quantiser)) (sym i.1) i.2)

-- The blocks of a macroblock, one behind another.
use Rattle.std.proofs.Common.{◌≡◌, ℕ, zero, suc, ◌+◌, ◌<◌, ◌≤◌, Bool, true, false, List, [], ◌∷◌, ◌++◌, ℤ, pos, refl, sym, ap, ◌∙◌, subst, inl, inr, arith, length, take, map, Ok, Err, All}
use Rattle.std.specs.Prelude.{◌/◌, cond, nat_lt, replicate, slice_index_or, slice_set, Result, OnOk}
use Rattle.std.proofs.lemmas.Bool.{cases_Bool}
use Rattle.std.proofs.lemmas.Int.{to_z-of_z}
use mir.Syntax.{w32}
use mir.Val.{SFits, to_z, of_z}
use Rattle.std.proofs.lemmas.List.{length-take-le, length-map, take_all}
use Rattle.std.proofs.lemmas.List.Elements.{All-cons, All-append}
use Rattle.std.proofs.Math.ListN.{get_or-map}
use Rattle.m2v_bits.specs.Syntax.{seq, bind, choose, done, renamed}
use Rattle.m2v_quant.specs.declared.kind.BlockKind.{BlockKind}
use Rattle.m2v_quant.specs.declared.kind.Levels.{Levels}
use Rattle.m2v_quant.specs.Kinds.{IsKind, IsLevel}
use Rattle.m2v_macroblock.specs.m2v_block.Blocks.{first_at, block_at, IsDc}
use Rattle.m2v_recon.specs.Macro.{is_coded}
use Rattle.m2v_recon.specs.Steps.{levels_of}
use Rattle.m2v_macro.specs.declared.values.MacroSyntax.{MacroSyntax}
use Rattle.m2v_macro.specs.declared.values.SliceState.{SliceState}
use Rattle.m2v_macro.specs.declared.values.PictureContext.{PictureContext}
use Rattle.m2v_macroblock.specs.Macroblocks.{kind_for, predictor}
use Rattle.m2v_model.specs.declared.fault.FaultKind.{FaultKind}
use Rattle.m2v_model.specs.declared.stop.Stop.{Stop}
use Rattle.m2v_model.specs.Faults.{of_block}
use Rattle.m2v_model.specs.Slices.{block_in, blocks_from}
use Rattle.m2v_macroblock.proofs.KindLaws.{kind_is as each_kind}
use Rattle.m2v_quant.specs.Scans.{scale_at}
use Rattle.m2v_dec_picture.specs.declared.slice_kinds.SliceKinds.{SliceKinds}
use Rattle.m2v_dec_picture.specs.Conditions.{IsPicture, AreDc, AreKinds, AreSliceKinds, AreFine, last_dc}
use Rattle.m2v_dec_picture.specs.Reads.{TellsLevels, TellsBlock}

-- a block that was read, and one that was refused
pub blocks_more : (c : PictureContext) (m : MacroSyntax) (st : SliceState) (block n : ℕ) (levels : List (List ℤ)) (own : List ℤ) (t mid : List Bool)
    → (block_in c m st block levels).read t ≡ Ok (own, mid) → (blocks_from c m st block (suc n) levels).read t ≡ (blocks_from c m st (block + 1) n (levels ++ own ∷ [])).read mid
unfolding blocks_from seq bind
blocks_more c m st block n levels own t mid e = rw e refl

pub blocks_err : (c : PictureContext) (m : MacroSyntax) (st : SliceState) (block n : ℕ) (levels : List (List ℤ)) (t : List Bool) (e : FaultKind × ℕ)
    → (block_in c m st block levels).read t ≡ Err e → (blocks_from c m st block (suc n) levels).read t ≡ Err e
unfolding blocks_from seq bind
blocks_err c m st block n levels t e is = rw is refl

pub blocks_over : (c : PictureContext) (m : MacroSyntax) (st : SliceState) (block : ℕ) (levels : List (List ℤ)) (t : List Bool)
    → (blocks_from c m st block 0 levels).read t ≡ Ok (levels, t)
unfolding blocks_from done
blocks_over c m st block levels t = refl

-- the predictor looks at the blocks before alone
pub predicted_by : (dc : List ℤ) (levels : List (List ℤ)) (k : ℕ) → k < 6 → predictor dc levels k ≡ predictor dc (take k levels) k
unfolding predictor
predicted_by dc levels zero lt = refl
predicted_by dc [] (suc zero) lt = refl
predicted_by dc (a ∷ ls) (suc zero) lt = refl
predicted_by dc [] (suc (suc zero)) lt = refl
predicted_by dc (a ∷ []) (suc (suc zero)) lt = refl
predicted_by dc (a ∷ b ∷ ls) (suc (suc zero)) lt = refl
predicted_by dc [] (suc (suc (suc zero))) lt = refl
predicted_by dc (a ∷ []) (suc (suc (suc zero))) lt = refl
predicted_by dc (a ∷ b ∷ []) (suc (suc (suc zero))) lt = refl
predicted_by dc (a ∷ b ∷ d ∷ ls) (suc (suc (suc zero))) lt = refl
predicted_by dc levels (suc (suc (suc (suc zero)))) lt = refl
predicted_by dc levels (suc (suc (suc (suc (suc zero))))) lt = refl
predicted_by dc levels (suc (suc (suc (suc (suc (suc n)))))) lt = absurd (omega (arith, lt))

-- and is in its range
pub predictor_fine : (c : PictureContext) (m : MacroSyntax) (dc : List ℤ) (ls : List (List ℤ)) (k : ℕ) → k < 6 → length ls ≡ 6
    → AreDc c.extension.dc_precision dc → All (AreFine c m) (take k ls) → m.kind.intra ≡ true → IsDc c.extension.dc_precision (predictor dc (take k ls) k)
unfolding predictor
predictor_fine c m dc ls zero lt len d fine intra = d.luma
predictor_fine c m dc ls (suc zero) lt len d fine intra = (fine 0 [] (omega (arith, len, length-take-le 1 ls (omega (arith, len))))).dc intra
predictor_fine c m dc ls (suc (suc zero)) lt len d fine intra = (fine 1 [] (omega (arith, len, length-take-le 2 ls (omega (arith, len))))).dc intra
predictor_fine c m dc ls (suc (suc (suc zero))) lt len d fine intra = (fine 2 [] (omega (arith, len, length-take-le 3 ls (omega (arith, len))))).dc intra
predictor_fine c m dc ls (suc (suc (suc (suc zero)))) lt len d fine intra = d.blue
predictor_fine c m dc ls (suc (suc (suc (suc (suc zero))))) lt len d fine intra = d.red
predictor_fine c m dc ls (suc (suc (suc (suc (suc (suc n)))))) lt len d fine intra = absurd (omega (arith, lt))

-- what a block is coded with
pub kind_at : (c : PictureContext) (m : MacroSyntax) (st : SliceState) (kinds : List BlockKind) (k : ℕ) (d : BlockKind) → k < 6 → AreKinds c m st kinds
    → slice_index_or kinds (k / 4) d ≡ kind_for c m.kind.intra (nat_lt k 4) st.quantiser
kind_at c m st kinds zero d lt a = rw a.value refl
kind_at c m st kinds (suc zero) d lt a = rw a.value refl
kind_at c m st kinds (suc (suc zero)) d lt a = rw a.value refl
kind_at c m st kinds (suc (suc (suc zero))) d lt a = rw a.value refl
kind_at c m st kinds (suc (suc (suc (suc zero)))) d lt a = rw a.value refl
kind_at c m st kinds (suc (suc (suc (suc (suc zero))))) d lt a = rw a.value refl
kind_at c m st kinds (suc (suc (suc (suc (suc (suc n)))))) d lt a = absurd (omega (arith, lt))

pub kind_is : (c : PictureContext) (m : MacroSyntax) (st : SliceState) (kinds : List BlockKind) (k : ℕ) (d : BlockKind) → k < 6 → AreKinds c m st kinds → IsKind (slice_index_or kinds (k / 4) d)
kind_is c m st kinds k d lt a = a.each (k / 4) d (rw a.value (omega (arith, lt)))

-- the kinds of a slice at another quantiser code
pub kinds_rescaled : (c : PictureContext) (old : SliceKinds) (quantiser scale : ℕ) (intra other : List BlockKind) → AreSliceKinds c old
    → 1 ≤ quantiser → quantiser ≤ 31 → scale ≡ scale_at c.extension.q_scale_type quantiser
    → intra ≡ map (λ (k : BlockKind). record k { scale = scale }) old.intra → other ≡ map (λ (k : BlockKind). record k { scale = scale }) old.other
    → AreSliceKinds c (record { quantiser = quantiser; intra = intra; other = other })
unfolding kind_for
kinds_rescaled c old quantiser scale intra other are least most e a b =
    let set = λ (n : ℕ) (ks : List BlockKind). map (λ (k : BlockKind). record k { scale = n }) ks in
    record {
      quantiser = (least, most);
      intra = a ∙ ap (set scale) are.intra ∙ ap (λ (n : ℕ). set n (kind_for c true true quantiser ∷ kind_for c true false quantiser ∷ [])) e;
      other = b ∙ ap (set scale) are.other ∙ ap (λ (n : ℕ). set n (kind_for c false true quantiser ∷ kind_for c false false quantiser ∷ [])) e;
    }

-- both kinds of a macroblock are in their ranges
pub both_kinds : (c : PictureContext) (intra : Bool) (quantiser : ℕ) (kinds : List BlockKind) → IsPicture c → (1 ≤ quantiser) × (quantiser ≤ 31)
    → kinds ≡ kind_for c intra true quantiser ∷ kind_for c intra false quantiser ∷ [] → All IsKind kinds
both_kinds c intra quantiser kinds picture q e =
    let kind = λ (luma : Bool). kind_for c intra luma quantiser in
    let each = λ (luma : Bool). each_kind c intra luma quantiser picture q.0 q.1 in
    let last = All-cons IsKind (kind false) [] (each false) (λ i d none. absurd (omega (arith, none))) in
    subst (All IsKind) (sym e) (All-cons IsKind (kind true) (kind false ∷ []) (each true) last)

-- a predictor as it is handed on is in its range
pub predictor_passed : (c : PictureContext) (m : MacroSyntax) (st : SliceState) (ls : List (List ℤ)) (k : ℕ) (luma : Bool) (kind : BlockKind) (p : ℤ) → k < 6 → length ls ≡ 6
    → AreDc c.extension.dc_precision st.dc → All (AreFine c m) (take k ls) → kind ≡ kind_for c m.kind.intra luma st.quantiser → (m.kind.intra ≡ true → p ≡ predictor st.dc ls k) → SFits w32 p
    → kind.intra ≡ true → IsDc kind.precision (to_z w32 (of_z w32 p))
unfolding kind_for
predictor_passed c m st ls k luma kind p lt len d fine e same fits intra =
    let of_intra = sym (ap (λ (b : BlockKind). b.intra) e) ∙ intra in
    subst (λ (z : ℤ). IsDc kind.precision z) (sym (to_z-of_z w32 p fits))
    (subst (λ (z : ℤ). IsDc kind.precision z) (sym (same of_intra ∙ predicted_by st.dc ls k lt))
    (subst (λ (n : ℕ). IsDc n (predictor st.dc (take k ls) k)) (sym (ap (λ (b : BlockKind). b.precision) e))
    (predictor_fine c m st.dc ls k lt len d fine of_intra)))

-- a block that isn't intra is read by no predictor
any_predictor : (kind : BlockKind) (one : Bool) (p q : ℤ) (t : List Bool) → (kind.intra ≡ true → p ≡ q)
    → (renamed of_block (block_at kind one p)).read t ≡ (renamed of_block (block_at kind one q)).read t
unfolding block_at first_at choose seq bind done renamed
any_predictor kind one p q t same = elim (cases_Bool kind.intra) [
  | inl intra ↦ ap (λ (z : ℤ). (renamed of_block (block_at kind one z)).read t) (same intra)
  | inr other ↦ rw other refl
]

pub as_block : (c : PictureContext) (m : MacroSyntax) (st : SliceState) (k : ℕ) (before : List (List ℤ)) (coded : Bool) (kind : BlockKind) (dc : ℤ) (t : List Bool)
    → coded ≡ is_coded m.pattern k → kind ≡ kind_for c m.kind.intra (nat_lt k 4) st.quantiser → (m.kind.intra ≡ true → dc ≡ predictor st.dc before k)
    → (choose coded (renamed of_block (block_at kind c.extension.intra_vlc_format dc)) (done (replicate 64 (pos 0)))).read t ≡ (block_in c m st k before).read t
unfolding block_in kind_for choose
as_block c m st k before coded kind dc t a b d =
    let one = c.extension.intra_vlc_format in
    let own = predictor st.dc before k in
    let any = any_predictor kind one dc own t (λ e. d (sym (ap (λ (x : BlockKind). x.intra) b) ∙ e)) in
    (λ i. cond coded (any i) ((done (replicate 64 (pos 0))).read t))
    ∙ (λ i. (choose (a i) (renamed of_block (block_at (b i) one own)) (done (replicate 64 (pos 0)))).read t)

pub tells_block : (r : Result (Unit {0}) Stop) (own : List ℤ) (before now : List (List ℤ)) (rest : List Bool) (x y : Result (List ℤ × List Bool) (FaultKind × ℕ))
    → x ≡ y → TellsLevels r own rest x → now ≡ before ++ own ∷ [] → TellsBlock r before now rest y
tells_block (Ok u) own before now rest x y e t g = (own, sym e ∙ t, g)
tells_block (Err f) own before now rest x y e t g = sym e ∙ t

-- the levels with those of one block more
pub levels_more : (ls : List Levels) (k : ℕ) (own : Levels) → k < length ls → take (k + 1) (levels_of (slice_set ls k own)) ≡ take k (levels_of ls) ++ own.at ∷ []
levels_more [] k own lt = absurd (omega (arith, lt))
levels_more (l ∷ ls) zero own lt = refl
levels_more (l ∷ ls) (suc k) own lt =
    let e : suc k + 1 ≡ suc (k + 1) = omega arith in
    ap (λ (n : ℕ). take n (levels_of (slice_set (l ∷ ls) (suc k) own))) e ∙ ap (λ (z : List (List ℤ)). l.at ∷ z) (levels_more ls k own (omega (arith, lt)))

pub fine_more : (c : PictureContext) (m : MacroSyntax) (ls : List Levels) (k : ℕ) (own : Levels) → k < length ls → All (AreFine c m) (take k (levels_of ls)) → AreFine c m own.at
    → All (AreFine c m) (take (k + 1) (levels_of (slice_set ls k own)))
fine_more c m ls k own lt before fine =
    let one = All-cons (AreFine c m) own.at [] fine (λ j d none. absurd (omega (arith, none))) in
    subst (All (AreFine c m)) (sym (levels_more ls k own lt)) (All-append (AreFine c m) (take k (levels_of ls)) (own.at ∷ []) before one)

-- a block that was read is in its ranges
pub own_fine : (c : PictureContext) (m : MacroSyntax) (st : SliceState) (luma : Bool) (kind : BlockKind) (own : List ℤ) → kind ≡ kind_for c m.kind.intra luma st.quantiser
    → All IsLevel own → (kind.intra ≡ true → IsDc kind.precision (slice_index_or own 0 (pos 0))) → AreFine c m own
unfolding kind_for
own_fine c m st luma kind own e levels dc = record {
  levels_are = levels;
  dc = λ intra. subst (λ (n : ℕ). IsDc n (slice_index_or own 0 (pos 0))) (ap (λ (k : BlockKind). k.precision) e) (dc (ap (λ (k : BlockKind). k.intra) e ∙ intra));
}

pub if_ok : (r : Result (Unit {0}) Stop) (p q : Type 0) → (p → q) → OnOk r p → OnOk r q
if_ok (Ok u) p q f x = f x
if_ok (Err e) p q f x = x

-- the levels of all blocks
pub all_levels : (c : PictureContext) (m : MacroSyntax) (ls : List Levels) → length ls ≡ 6 → All (AreFine c m) (take 6 (levels_of ls)) → All (λ l. All IsLevel l.at) ls
all_levels c m ls len fine k d lt =
    let whole = take_all 6 (levels_of ls) (omega (arith, len, length-map ls (λ (l : Levels). l.at))) in
    let is = subst (All (AreFine c m)) whole fine in
    let own = is k d.at (omega (arith, lt, length-map ls (λ (l : Levels). l.at))) in
    subst (All IsLevel) (get_or-map (λ (l : Levels). l.at) ls k d) own.levels_are

pub all_dc : (c : PictureContext) (m : MacroSyntax) (ls : List Levels) → length ls ≡ 6 → All (AreFine c m) (take 6 (levels_of ls)) → m.kind.intra ≡ true → AreDc c.extension.dc_precision (last_dc ls)
all_dc c m ls len fine intra =
    let whole = take_all 6 (levels_of ls) (omega (arith, len, length-map ls (λ (l : Levels). l.at))) in
    let is = subst (All (AreFine c m)) whole fine in
    record {
      luma = (is 3 [] (omega (arith, len, length-map ls (λ (l : Levels). l.at)))).dc intra;
      blue = (is 4 [] (omega (arith, len, length-map ls (λ (l : Levels). l.at)))).dc intra;
      red = (is 5 [] (omega (arith, len, length-map ls (λ (l : Levels). l.at)))).dc intra;
    }

-- No start code stands inside a slice of the encoder.
use Rattle.std.proofs.Common.{◌≡◌, ℕ, zero, suc, ◌+◌, ◌≤◌, Bool, true, false, cond, not, List, [], ◌∷◌, ◌++◌, length, refl, sym, ap, subst, ◌∙◌, arith, append-nil, ℤ, pos}
use Rattle.std.specs.Prelude.{nat_lt, replicate, slice_index}
use Rattle.m2v_head.specs.Texts.{slice_text}
use Rattle.m2v_plane.specs.Samples.{blank}
use Rattle.m2v_macro.specs.declared.values.MacroSyntax.{MacroSyntax}
use Rattle.m2v_macro.specs.declared.values.SliceState.{SliceState}
use Rattle.m2v_macro.specs.declared.values.PictureContext.{PictureContext}
use Rattle.m2v_macro.specs.States.{after}
use Rattle.m2v_macro.specs.Macros.{f_codes_of}
use Rattle.m2v_macroblock.specs.m2v_recon.Macro.{is_coded}
use Rattle.m2v_macroblock.specs.Macroblocks.{kind_for, predictor}
use Rattle.m2v_slice.specs.m2v_choose.Own.{IsOwn}
use Rattle.m2v_slice.specs.Slices.{SliceTask, begun, slice_info}
use Rattle.m2v_slice.specs.Laws.{IsSlice}
use Rattle.m2v_slice.proofs.Fits.{header_length}
use Rattle.m2v_slice.proofs.m2v_choose.OwnReady.{used_forward, used_backward}
use Rattle.m2v_model.specs.declared.fault.FaultKind.TheVariants.{VectorOutside, MissingReference}
use Rattle.m2v_model.specs.declared.setup.SliceSetup.{SliceSetup}
use Rattle.m2v_model.specs.Faults.{of_block, of_macro}
use Rattle.m2v_model.specs.Modes.{all_inside, references_decoded}
use Rattle.m2v_model.specs.Slices.{Row, block_in, blocks_from, macroblock_at, macroblock_round}
use Rattle.m2v_model.specs.Texts.{Calm, IsCalm}
use Rattle.m2v_model.proofs.Calm.{calm_less, calm_then, calm_any, calm_end}
use Rattle.m2v_enc_stream.specs.Slices.{AreDecoded, setup_of, slice_body}
use Rattle.m2v_enc_stream.proofs.CalmSyntax.{Calmly, Any, calmly_to, done_calm, here_calm, zero_calm, rule_calm, seq_calm, choose_calm, renamed_calm, rounds_front}
use Rattle.m2v_enc_stream.proofs.CalmBlocks.{block_calm}
use Rattle.m2v_enc_stream.proofs.CalmMacros.{AreShort, HasShort, macro_calm}
use Rattle.m2v_enc_stream.proofs.Slices.{rounds_stand}

-- ---- macroblocks

block_in_calm : (c : PictureContext) (m : MacroSyntax) (st : SliceState) (block : ℕ) (levels : List (List ℤ)) → Calmly (block_in c m st block levels) 14 (λ v. 14) Any
unfolding block_in
block_in_calm c m st block levels =
    choose_calm (is_coded m.pattern block) _ _ 14 (λ v. 14) Any
    (λ told. renamed_calm of_block _ 14 (λ v. 14) Any (calmly_to _ 14 (λ v. 21) (λ v. 14) Any Any (λ v. omega arith) (λ v h. tt)
    (block_calm (kind_for c m.kind.intra (nat_lt block 4) st.quantiser) c.extension.intra_vlc_format (predictor st.dc levels block))))
    (λ other. done_calm (replicate 64 (pos 0)) 14 (λ v. 14) Any (omega arith) tt)

blocks_calm : (c : PictureContext) (m : MacroSyntax) (st : SliceState) (block n : ℕ) (levels : List (List ℤ)) → Calmly (blocks_from c m st block n levels) 14 (λ v. 14) Any
unfolding blocks_from
blocks_calm c m st block zero levels = done_calm levels 14 (λ v. 14) Any (omega arith) tt
blocks_calm c m st block (suc n) levels =
    seq_calm _ _ 14 (λ v. 14) (λ v. 14) Any Any (block_in_calm c m st block levels) (λ own x.
    blocks_calm c m st (block + 1) n (levels ++ own ∷ []))

macroblock_calm : (s : SliceSetup) (st : SliceState) → HasShort s.context → Calmly (macroblock_at s st) 14 (λ v. 14) Any
unfolding macroblock_at
macroblock_calm s st short =
    seq_calm _ _ 14 (λ v. 14) (λ v. 14) Any Any (here_calm length 14) (λ start x.
    seq_calm _ _ 14 (λ v. 14) (λ v. 14) Any Any (renamed_calm of_macro _ 14 (λ v. 14) Any (macro_calm s.context st short)) (λ m y.
    seq_calm _ _ 14 (λ v. 14) (λ v. 14) (λ v. all_inside s st m ≡ true) Any (rule_calm (all_inside s st m) VectorOutside start 14) (λ inside e.
    seq_calm _ _ 14 (λ v. 14) (λ v. 14) (λ v. references_decoded s st m ≡ true) Any (rule_calm (references_decoded s st m) MissingReference start 14) (λ decoded f.
    seq_calm _ _ 14 (λ v. 14) (λ v. 14) Any Any (blocks_calm s.context m (after s.context st m) 0 6 []) (λ levels z.
    done_calm _ 14 (λ v. 14) Any (omega arith) tt)))))

round_calm : (s : SliceSetup) → HasShort s.context → (r : Row) → Calmly (macroblock_round s r) 14 (λ x. cond x.0 14 14) Any
unfolding macroblock_round
round_calm s short r =
    seq_calm _ _ 14 (λ v. 14) (λ x. cond x.0 14 14) Any Any (here_calm length 14) (λ start x.
    seq_calm _ _ 14 (λ v. 14) (λ x. cond x.0 14 14) Any Any (macroblock_calm s r.state short) (λ m y.
    seq_calm _ _ 14 (λ v. 14) (λ x. cond x.0 14 14) Any Any (here_calm length 14) (λ end z.
    seq_calm _ _ 14 (λ v. 14) (λ x. cond x.0 14 14) Any Any (zero_calm 14) (λ over u.
    done_calm _ 14 (λ x. cond x.0 14 14) Any (same_either (not over)) tt))))
  where
    same_either : (b : Bool) → cond b 14 14 ≤ 14
    same_either true = omega arith
    same_either false = omega arith

-- ---- the encoder's pictures

short_two : (f_code : List ℕ) → f_code ≡ 2 ∷ 2 ∷ [] → AreShort f_code
short_two f_code e = record { across = omega (arith, ap (λ (xs : List ℕ). slice_index xs 0) e); down = omega (arith, ap (λ (xs : List ℕ). slice_index xs 1) e) }

own_short : (c : PictureContext) → IsOwn c → HasShort c
own_short c own = record {
  low = own.kind.0;
  high = own.kind.1;
  forward = λ used. short_two (f_codes_of c 0) (used_forward c own used);
  backward = λ used. short_two (f_codes_of c 1) (used_backward c own used);
}

-- ---- slices

all_decoded : (kind : ℕ) → AreDecoded kind (true ∷ true ∷ true ∷ true ∷ [])
all_decoded kind = record { forward_top = λ e. refl; forward_bottom = λ e. refl; backward_top = λ e. refl; backward_bottom = λ e. refl }

macroblocks_calm : (t : SliceTask) → IsSlice t → Calm 14 (begun t (blank t.source.dims 1) t.context.columns).text 14
macroblocks_calm t slice =
    let references = true ∷ true ∷ true ∷ true ∷ [] in
    let s = setup_of t references in
    let text = (begun t (blank t.source.dims 1) t.context.columns).text in
    let rounds = rounds_stand t slice references (all_decoded t.context.kind) (blank t.source.dims 1) t.context.columns 0 refl in
    let front = rounds_front (macroblock_round s) 14 14 (round_calm s (own_short t.context slice.own)) _ _ (text ++ []) [] rounds in
    let same : front.text ≡ text = sym (append-nil front.text) ∙ sym front.is ∙ append-nil text in
    subst (λ (u : List Bool). Calm 14 u 14) same front.calm

pub slice_calm : (t : SliceTask) → IsSlice t → IsCalm (slice_body t)
slice_calm t slice =
    let head = slice_text (slice_info t.q) in
    let text = (begun t (blank t.source.dims 1) t.context.columns).text in
    let few : length head ≡ 6 = header_length t.q in
    calm_end (head ++ text)
    (calm_less (head ++ text) 22 14 7 (omega arith)
    (calm_then head text 22 14 14 (calm_any head 22 14 (omega (arith, few)) (omega (arith, few))) (macroblocks_calm t slice)))
